-- What a parser finds, passed on by its caller.
use Rattle.std.proofs.Common.{◌≡◌, ◌<◌, ◌≤◌, List, length, Result, Ok, Err, sym, ap, subst, arith}
use Rattle.std.specs.Borrow.{Bor}
use Rattle.ac_syntax.specs.Signs.{Sign}
use Rattle.ac_syntax.specs.Trees.{PatTree, Tree}
use Rattle.ac_syntax.specs.ReadSigns.{read_signs}
use Rattle.ac_syntax.specs.ReadTrees.{pat_of, tree_of}
use Rattle.ac_syntax.specs.PartParsing.{OnSyntax}
use Rattle.ac_syntax.specs.declared.sign.Sign as code
use Rattle.ac_syntax.specs.declared.stop.ParseError.{ParseError}
use Rattle.ac_syntax.proofs.OnStop.{on_syntax_more}
use Rattle.ac_parser_patterns.specs.declared.build.Parsed.{Parsed}
use Rattle.ac_parser_patterns.specs.declared.patterns.ParsedPat.{ParsedPat}
use Rattle.ac_parser_patterns.specs.Reading.{TakenSigns, Measured, FindsOr}
use Rattle.ac_parser_patterns.specs.PatternPieces.{MakesPat, pat_measured}
use Rattle.ac_parser_patterns.specs.Forms.{is_measured, IsMadeTree, MakesTree}

-- by the caller's own words
pub found_more : {X : Type 0} {P Q : X → Type 0} {M N : Type 0} (r : Result X ParseError) → FindsOr r P M → ((x : X) → P x → Q x) → (M → N) → FindsOr r Q N
found_more (Ok x) o f g = f x o
found_more (Err e) o f g = on_syntax_more e g o

-- what is read in one way here is read in another there
pub reads_more : {X A : Type 0} (value : X → A) (R S : List Sign → A → List Sign → Type 0) (us ts : List code.Sign) {M N : Type 0} (r : Result (X × Bor (List code.Sign)) ParseError) → FindsOr r (λ x. TakenSigns (λ l s. R l (value x.0) s) us x.1.now) M
    → length us ≤ length ts → ((a : A) (s : List Sign) → R (read_signs us) a s → S (read_signs ts) a s) → (M → N) → FindsOr r (λ x. TakenSigns (λ l s. S l (value x.0) s) ts x.1.now) N
reads_more value R S us ts (Ok x) o least f g = record { found = f _ _ o.found; shorter = omega (arith, o.shorter, least) }
reads_more value R S us ts (Err e) o least f g = on_syntax_more e g o

-- so is an expression
pub tree_more : (R S : List Sign → Tree → List Sign → Type 0) (us ts : List code.Sign) {M N : Type 0} (r : Result (Parsed × Bor (List code.Sign)) ParseError) → FindsOr r (λ x. Measured (λ l s. R l (tree_of x.0.tree) s) (is_measured x.0) us x.1.now) M
    → length us ≤ length ts → ((e : Tree) (s : List Sign) → R (read_signs us) e s → S (read_signs ts) e s) → (M → N) → FindsOr r (λ x. Measured (λ l s. S l (tree_of x.0.tree) s) (is_measured x.0) ts x.1.now) N
tree_more R S us ts (Ok x) o least f g = record { tree = f _ _ o.tree; height = o.height; shorter = omega (arith, o.shorter, least) }
tree_more R S us ts (Err e) o least f g = on_syntax_more e g o

-- and a pattern
pub pat_more : (R S : List Sign → PatTree → List Sign → Type 0) (us ts : List code.Sign) {M N : Type 0} (r : Result (ParsedPat × Bor (List code.Sign)) ParseError) → FindsOr r (λ x. Measured (λ l s. R l (pat_of x.0.tree) s) (pat_measured x.0) us x.1.now) M
    → length us ≤ length ts → ((p : PatTree) (s : List Sign) → R (read_signs us) p s → S (read_signs ts) p s) → (M → N) → FindsOr r (λ x. Measured (λ l s. S l (pat_of x.0.tree) s) (pat_measured x.0) ts x.1.now) N
pat_more R S us ts (Ok x) o least f g = record { tree = f _ _ o.tree; height = o.height; shorter = omega (arith, o.shorter, least) }
pat_more R S us ts (Err e) o least f g = on_syntax_more e g o

-- what was made in front of these signs
pub made_is : (R : List Sign → Tree → List Sign → Type 0) (us : List Sign) (rest : List code.Sign) (e : Tree) (made : Parsed) (left : List code.Sign) → IsMadeTree e rest made left → R us e (read_signs rest) → R us (tree_of made.tree) (read_signs left)
made_is R us rest e made left o is = subst (λ (s : List code.Sign). R us (tree_of made.tree) (read_signs s)) (sym o.left) (subst (λ (t : Tree). R us t (read_signs rest)) (sym o.tree) is)

-- an expression that is made of what was read is read
pub made_read : (R : List Sign → Tree → List Sign → Type 0) (ts rest : List code.Sign) (e : Tree) (N : Type 0) (r : Result (Parsed × Bor (List code.Sign)) ParseError) → MakesTree e rest r → length rest < length ts → R (read_signs ts) e (read_signs rest)
    → FindsOr r (λ x. Measured (λ l s. R l (tree_of x.0.tree) s) (is_measured x.0) ts x.1.now) N
made_read R ts rest e N (Ok x) o less is = record {
  tree = made_is R (read_signs ts) rest e x.0 x.1.now o is;
  height = o.height;
  shorter = omega (arith, ap length o.left, less);
}
made_read R ts rest e N (Err s) o less is = subst (λ (x : ParseError). OnSyntax x N) (sym o) tt

pub made_found : (rest : List code.Sign) (e f : Tree) (Q N : Type 0) (r : Result (Parsed × Bor (List code.Sign)) ParseError) → MakesTree e rest r → e ≡ f → Q → FindsOr r (λ x. IsMadeTree f rest x.0 x.1.now × Q) N
made_found rest e f Q N (Ok x) o is q = (subst (λ (t : Tree). IsMadeTree t rest x.0 x.1.now) is o, q)
made_found rest e f Q N (Err s) o is q = subst (λ (x : ParseError). OnSyntax x N) (sym o) tt

-- so is a pattern
pub made_pat : (R : List Sign → PatTree → List Sign → Type 0) (ts rest : List code.Sign) (p : PatTree) (N : Type 0) (r : Result (ParsedPat × Bor (List code.Sign)) ParseError) → MakesPat p rest r → length rest < length ts → R (read_signs ts) p (read_signs rest)
    → FindsOr r (λ x. Measured (λ l s. R l (pat_of x.0.tree) s) (pat_measured x.0) ts x.1.now) N
made_pat R ts rest p N (Ok x) o less is = record {
  tree = subst (λ (s : List code.Sign). R (read_signs ts) (pat_of x.0.tree) (read_signs s)) (sym o.left) (subst (λ (t : PatTree). R (read_signs ts) t (read_signs rest)) (sym o.tree) is);
  height = o.height;
  shorter = omega (arith, ap length o.left, less);
}
made_pat R ts rest p N (Err s) o less is = subst (λ (x : ParseError). OnSyntax x N) (sym o) tt
