-- A text has at most one tree, or is refused for one cause.
use Rattle.std.proofs.Common.{◌≡◌, ℕ, ◌≤◌, List, [], ◌∷◌, ◌++◌, sym, ◌∙◌, ap, subst, append_assoc, arith}
use Rattle.ac_types.specs.Types.{Bytes}
use Rattle.ac_lexer.specs.declared.tokens.Token.{Token}
use Rattle.ac_lexer.specs.Tokens.{Tokens}
use Rattle.ac_lexer.proofs.Unique as lexed
use Rattle.ac_syntax.specs.Signs.{Sign, signs, sign_place}
use Rattle.ac_syntax.specs.Openers.{unclosed, IsShallow, IsDeep}
use Rattle.ac_syntax.specs.Trees.{ProgramTree}
use Rattle.ac_syntax.specs.Programs.{IsProgram, IsModule}
use Rattle.ac_syntax.specs.declared.fault.ParseFault.{ParseFault}
use Rattle.ac_syntax.specs.declared.fault.ParseFault.TheVariants as fault
use Rattle.ac_syntax.proofs.UniquePrograms.{same_program, same_module}
use Rattle.ac_syntax.proofs.UniqueTypes.{tail_eq}
use Rattle.ac_syntax.specs.Texts.{IsRead, HasTree, UnreadText, too_long, lexical, too_deep, Refused, unread, syntax, SameCause, same, both_syntax}
use Rattle.ac_syntax.proofs.Depth.{head_eq}

-- the first sign at which too many openers are unclosed

pub shallow_or_deep : {ts : List Sign} {at : ℕ} {P : Type 0} → IsShallow ts → IsDeep ts at → P
shallow_or_deep {ts} {at} shallow d =
    let low : unclosed 0 (d.before ++ d.opener ∷ []) ≤ 200 = shallow (d.before ++ d.opener ∷ []) d.rest (d.split ∙ sym (append_assoc d.before (d.opener ∷ []) d.rest)) in
    let deep = d.deep in
    absurd (omega arith)

data Splits (a b : List Sign) (x y : Sign) : Type 0 where
  alike : x ≡ y → Splits a b x y
  sooner : (m : List Sign) → b ≡ (a ++ x ∷ []) ++ m → Splits a b x y
  later : (m : List Sign) → a ≡ (b ++ y ∷ []) ++ m → Splits a b x y

splits_more : {a b : List Sign} {x y : Sign} (t u : Sign) → t ≡ u → Splits a b x y → Splits (t ∷ a) (u ∷ b) x y
splits_more t u e (alike s) = alike s
splits_more {a = a} {x = x} t u e (sooner m s) = sooner m (ap (λ (l : List Sign). u ∷ l) s ∙ ap (λ (v : Sign). v ∷ (a ++ x ∷ []) ++ m) (sym e))
splits_more {b = b} {y = y} t u e (later m s) = later m (ap (λ (l : List Sign). t ∷ l) s ∙ ap (λ (v : Sign). v ∷ (b ++ y ∷ []) ++ m) e)

splits : (a b r s : List Sign) (x y : Sign) → a ++ x ∷ r ≡ b ++ y ∷ s → Splits a b x y
splits [] [] r s x y e = alike (head_eq e)
splits [] (u ∷ b) r s x y e = sooner b (ap (λ (v : Sign). v ∷ b) (sym (head_eq e)))
splits (t ∷ a) [] r s x y e = later a (ap (λ (v : Sign). v ∷ a) (head_eq e))
splits (t ∷ a) (u ∷ b) r s x y e = splits_more t u (head_eq e) (splits a b r s x y (tail_eq e))

too_soon : {P : Type 0} (a b m : List Sign) (x : Sign) → IsShallow b → 201 ≤ unclosed 0 (a ++ x ∷ []) → b ≡ (a ++ x ∷ []) ++ m → P
too_soon a b m x shallow deep e = let low : unclosed 0 (a ++ x ∷ []) ≤ 200 = shallow (a ++ x ∷ []) m e in absurd (omega arith)

one_opener : {n m : ℕ} {x y : Sign} {a b : List Sign} → IsShallow a → IsShallow b → 201 ≤ unclosed 0 (a ++ x ∷ []) → 201 ≤ unclosed 0 (b ++ y ∷ []) → n ≡ sign_place x → m ≡ sign_place y → Splits a b x y → n ≡ m
one_opener p q d f i j (alike e) = i ∙ ap sign_place e ∙ sym j
one_opener {x = x} {a = a} {b = b} p q d f i j (sooner m e) = too_soon a b m x q d e
one_opener {y = y} {a = a} {b = b} p q d f i j (later m e) = too_soon b a m y p f e

pub one_deep : {ts : List Sign} {n m : ℕ} → IsDeep ts n → IsDeep ts m → n ≡ m
one_deep d f = one_opener d.shallow f.shallow d.deep f.deep d.here f.here (splits d.before f.before d.rest f.rest d.opener f.opener (sym d.split ∙ f.split))

-- answers

pub one_program_text : (text : Bytes) (p q : ProgramTree) → HasTree IsProgram text p → HasTree IsProgram text q → p ≡ q
one_program_text text p q x y =
    let same = lexed.same_tokens text y.tokens x.tokens y.read.lexed x.read.lexed in
    same_program x.is (subst (λ (l : List Token). IsProgram (signs l) q) same y.is)

pub one_module_text : (text : Bytes) (p q : ProgramTree) → HasTree IsModule text p → HasTree IsModule text q → p ≡ q
one_module_text text p q x y =
    let same = lexed.same_tokens text y.tokens x.tokens y.read.lexed x.read.lexed in
    same_module x.is (subst (λ (l : List Token). IsModule (signs l) q) same y.is)

deep_at : {text : Bytes} {at : ℕ} {ts us : List Token} → Tokens text ts → Tokens text us → IsDeep (signs us) at → IsDeep (signs ts) at
deep_at {text} {at} {ts} {us} p q d = subst (λ (l : List Token). IsDeep (signs l) at) (lexed.same_tokens text us ts q p) d

tree_and_unread : (text : Bytes) (ts : List Token) (e : ParseFault) → IsRead text ts → UnreadText text e → ⊥
tree_and_unread text ts e x (too_long long) = let short = x.short in absurd (omega arith)
tree_and_unread text ts e x (lexical {at = at} short fails) = lexed.no_failure text ts at x.lexed fails
tree_and_unread text ts e x (too_deep short tokens deep) = shallow_or_deep x.shallow (deep_at x.lexed tokens deep)

pub tree_and_refusal : (G : List Sign → ProgramTree → Type 0) (text : Bytes) (p : ProgramTree) (e : ParseFault) → HasTree G text p → Refused G text e → ⊥
tree_and_refusal G text p e x (unread u) = tree_and_unread text x.tokens e x.read u
tree_and_refusal G text p e x (syntax {tokens = ts} read none here) =
    none p (subst (λ (l : List Token). G (signs l) p) (lexed.same_tokens text x.tokens ts x.read.lexed read.lexed) x.is)

same_at : {e f : ParseFault} → e ≡ f → SameCause e f
same_at {e} {f} is = subst (λ (g : ParseFault). SameCause e g) is same

one_unread : (text : Bytes) (e f : ParseFault) → UnreadText text e → UnreadText text f → SameCause e f
one_unread text e f (too_long p) (too_long q) = same
one_unread text e f (too_long p) (lexical q fails) = absurd (omega arith)
one_unread text e f (too_long p) (too_deep q ts d) = absurd (omega arith)
one_unread text e f (lexical p fails) (too_long q) = absurd (omega arith)
one_unread text e f (lexical {at = n} p fails) (lexical {at = m} q gone) = same_at (ap fault.Lexical (lexed.same_place text n m fails gone))
one_unread text e f (lexical {at = n} p fails) (too_deep {tokens = ts} q tokens d) = absurd (lexed.no_failure text ts n tokens fails)
one_unread text e f (too_deep p tokens d) (too_long q) = absurd (omega arith)
one_unread text e f (too_deep {tokens = ts} p tokens d) (lexical {at = m} q fails) = absurd (lexed.no_failure text ts m tokens fails)
one_unread text e f (too_deep p tokens d) (too_deep q others c) = same_at (ap fault.TooDeep (one_deep d (deep_at tokens others c)))

pub one_refusal : (G : List Sign → ProgramTree → Type 0) (text : Bytes) (e f : ParseFault) → Refused G text e → Refused G text f → SameCause e f
one_refusal G text e f (unread u) (unread v) = one_unread text e f u v
one_refusal G text e f (unread u) (syntax {tokens = ts} r none here) = absurd (tree_and_unread text ts e r u)
one_refusal G text e f (syntax {tokens = ts} r none here) (unread v) = absurd (tree_and_unread text ts f r v)
one_refusal G text e f (syntax r none here) (syntax s never there) = both_syntax
