-- No clash among programs, and one text for a name: either says the other, where each program by itself has one text for a name.
use Rattle.std.proofs.Common.{◌≡◌, ◌∙◌, ◌⊎◌, inl, inr, refl, sym, ap, ap₂, subst, ℕ, suc, ◌<◌, ◌≤◌, Bool, true, false, ◌&&◌, [], ◌∷◌, ◌++◌, length, Option, Some, None, arith}
use mathlib.Core.Bool.{true≢false}
use Rattle.std.specs.Prelude.{not, option_map}
use Rattle.std.specs.Option.{option_map_or, option_or}
use Rattle.std.proofs.lemmas.Bool.{cases_order}
use Rattle.std.proofs.lemmas.Option.{slice_get_past}
use Rattle.ac_types.specs.Partial.{given, differ}
use Rattle.ac_types.specs.Types.{Bytes, same_bytes}
use Rattle.ac_types.proofs.FirstLaws.{none≢some}
use Rattle.ac_types.proofs.Same.{both_true, bytes_eq, bytes_refl}
use Rattle.ac_terms.specs.Terms.{Expr}
use Rattle.ac_terms.specs.Defs.{Environment, Entry, name_at, names}
use Rattle.ac_terms.specs.Names.{text_of_entry}
use Rattle.ac_load_rules.specs.Causes.{first_below}
use Rattle.ac_load_rules.proofs.Firsts.{below_all, below_none}
use Rattle.ac_colours.specs.Births.{IsAmong}
use Rattle.ac_colours.specs.Chains.{Programs, HaveOneText}
use Rattle.ac_chain.specs.declared.chained.ChainFault.{ChainFault}
use Rattle.ac_chain.specs.declared.chained.ChainFault.TheVariants.{Clash}
use Rattle.ac_chain.specs.Clashes.{is_clash, clash_in, clash_behind, first_program_clash}

-- entries of one name have one text
pub record OneText (E F : Environment) : Type 0 where
  pub same : (i j : ℕ) (n s t : Bytes) → name_at E i ≡ Some n → name_at F j ≡ Some n → text_of_entry E i ≡ Some s → text_of_entry F j ≡ Some t → s ≡ t

turned : (E F : Environment) → OneText E F → OneText F E
turned E F o = record { same = λ i j n s t h k g l. sym (o.same j i n t s k h l g) }

-- the test of a clash
not_true : (b : Bool) → (b ≡ true → ⊥) → b ≡ false
not_true true h = absurd (h refl)
not_true false h = refl

record Two (a b s t : Option Bytes) : Type 0 where
  name : Bytes
  one : Bytes
  other : Bytes
  is_a : a ≡ Some name
  is_b : b ≡ Some name
  is_one : s ≡ Some one
  is_other : t ≡ Some other
  two : not (same_bytes one other) ≡ true

says_two : (a b s t : Option Bytes) → (option_map_or (names a) b false && differ s t) ≡ true → Two a b s t
says_two (Some m) (Some n) (Some s) (Some t) h =
    let both = both_true (same_bytes m n) (not (same_bytes s t)) h in
    record { name = n; one = s; other = t; is_a = ap Some (bytes_eq m n both.0); is_b = refl; is_one = refl; is_other = refl; two = both.1 }
says_two (Some m) (Some n) None t h = absurd (true≢false (sym (both_true (same_bytes m n) false h).1))
says_two (Some m) (Some n) (Some s) None h = absurd (true≢false (sym (both_true (same_bytes m n) false h).1))
says_two None (Some n) s t h = absurd (true≢false (sym (both_true false (differ s t) h).0))
says_two a None s t h = absurd (true≢false (sym (both_true false (differ s t) h).0))

not_two : (s t : Bytes) → s ≡ t → not (same_bytes s t) ≡ true → ⊥
not_two s t e h = true≢false (sym (sym (ap not (ap (same_bytes s) (sym e) ∙ bytes_refl s)) ∙ h))

no_clash : (E F : Environment) → OneText E F → (i j : ℕ) → is_clash E i F j ≡ false
no_clash E F o i j = not_true (is_clash E i F j) (λ h. clashing (says_two (name_at E i) (name_at F j) (text_of_entry E i) (text_of_entry F j) h)) where
  clashing : Two (name_at E i) (name_at F j) (text_of_entry E i) (text_of_entry F j) → ⊥
  clashing w = not_two w.one w.other (o.same i j w.name w.one w.other w.is_a w.is_b w.is_one w.is_other) w.two

alike : (n s t : Bytes) → (same_bytes n n && not (same_bytes s t)) ≡ false → s ≡ t
alike n s t h = by (same_bytes s t) refl where
  by : (b : Bool) → same_bytes s t ≡ b → s ≡ t
  by true e = bytes_eq s t e
  by false e = absurd (true≢false (sym (ap₂ (λ x y. x && not y) (bytes_refl n) e) ∙ h))

clash_none : (E F : Environment) (i j : ℕ) → is_clash E i F j ≡ false → (n s t : Bytes) → name_at E i ≡ Some n → name_at F j ≡ Some n → text_of_entry E i ≡ Some s → text_of_entry F j ≡ Some t → s ≡ t
clash_none E F i j h n s t a b g k = alike n s t (sym (ap₂ (λ x y. x && y) (ap₂ (λ (x : Option Bytes) (y : Option Bytes). option_map_or (names x) y false) a b) (ap₂ differ g k)) ∙ h)

-- what is given under a test, and the first of two
not_given : (b : Bool) (j : ℕ) → given b (Some j) ≡ None → b ≡ false
not_given true j h = absurd (none≢some (sym h))
not_given false j h = refl

neither : {A : Type 0} (a b : Option A) → option_or a b ≡ None → (a ≡ None) × (b ≡ None)
neither (Some x) b h = absurd (none≢some (sym h))
neither None b h = (refl, h)

no_pair : (f : ℕ → ChainFault) (o : Option ℕ) → option_map f o ≡ None → o ≡ None
no_pair f None h = refl
no_pair f (Some j) h = absurd (none≢some (sym h))

-- an entry is within its environment
within : (E : Environment) (i : ℕ) (n : Bytes) → name_at E i ≡ Some n → i < length E
within E i n h = by (cases_order i (length E)) where
  past : length E ≤ i → ⊥
  past lt = none≢some (sym (ap (λ (o : Option Entry). elim o as (λ x. Option Bytes) [ None ↦ None | Some e ↦ e.name ]) (slice_get_past E i lt)) ∙ h)

  by : (i ≡ length E) ⊎ ((i < length E) ⊎ (length E < i)) → i < length E
  by (inl e) = absurd (past (omega (arith, e)))
  by (inr (inl lt)) = lt
  by (inr (inr gt)) = absurd (past (omega (arith, gt)))

-- of two environments
one_in : (E F : Environment) → ((i : ℕ) → i < length E → clash_in E i F ≡ None) → OneText E F
one_in E F h = record {
  same = λ i j n s t a b g k. clash_none E F i j (not_given (is_clash E i F j) j (below_none (length F) (λ x. given (is_clash E i F x) (Some x)) (h i (within E i n a)) j (within F j n b))) n s t a b g k;
}

none_in : (E F : Environment) → OneText E F → (i : ℕ) → clash_in E i F ≡ None
none_in E F o i = below_all (length F) (λ j. given (is_clash E i F j) (Some j)) (λ j lt. ap (λ b. given b (Some j)) (no_clash E F o i j))

-- of one and those behind it
one_behind : (a : ℕ) (E : Environment) (b : ℕ) (qs : Programs) → ((i : ℕ) → i < length E → clash_behind a E i b qs ≡ None) → (front back : Programs) (q : Environment × Expr) → qs ≡ front ++ q ∷ back → OneText E q.0
one_behind a E b [] h [] back q e = absurd (cc)
one_behind a E b [] h (x ∷ front) back q e = absurd (cc)
one_behind a E b (p ∷ qs) h [] back q e =
    let same : p ≡ q = cc in
    subst (λ (x : Environment × Expr). OneText E x.0) same (one_in E p.0 (λ i lt. no_pair (Clash a i b) (clash_in E i p.0) (neither (option_map (Clash a i b) (clash_in E i p.0)) (clash_behind a E i (suc b) qs) (h i lt)).0))
one_behind a E b (p ∷ qs) h (x ∷ front) back q e =
    one_behind a E (suc b) qs (λ i lt. (neither (option_map (Clash a i b) (clash_in E i p.0)) (clash_behind a E i (suc b) qs) (h i lt)).1) front back q (cc)

none_behind : (a : ℕ) (E : Environment) (i b : ℕ) (qs : Programs) → ((q : Environment × Expr) → IsAmong q qs → OneText E q.0) → clash_behind a E i b qs ≡ None
none_behind a E i b [] h = refl
none_behind a E i b (q ∷ qs) h =
    ap (λ o. option_or (option_map (Clash a i b) o) (clash_behind a E i (suc b) qs)) (none_in E q.0 (h q ([], qs, refl)) i)
    ∙ none_behind a E i (suc b) qs (λ x w. h x (q ∷ w.0, w.1, ap (λ ps. q ∷ ps) w.2))

-- each program by itself has one text for a name
abbrev pub HaveOwnText : Programs → Type 0
HaveOwnText [] = Unit {0}
HaveOwnText (p ∷ ps) = OneText p.0 p.0 × HaveOwnText ps

abbrev from_first : ℕ → Environment × Expr → Programs → Option ChainFault
from_first a p ps = first_below (length p.0) (λ i. clash_behind a p.0 i (suc a) ps)

first_none : (a : ℕ) (p : Environment × Expr) (ps : Programs) → first_program_clash a (p ∷ ps) ≡ None → (i : ℕ) → i < length p.0 → clash_behind a p.0 i (suc a) ps ≡ None
first_none a p ps h = below_none (length p.0) (λ i. clash_behind a p.0 i (suc a) ps) (neither (from_first a p ps) (first_program_clash (suc a) ps) h).0

-- where there is no clash, all programs together have
any_two : (a : ℕ) (ps : Programs) → first_program_clash a ps ≡ None → HaveOwnText ps → (p q : Environment × Expr) (fp bp fq bq : Programs) → ps ≡ fp ++ p ∷ bp → ps ≡ fq ++ q ∷ bq → OneText p.0 q.0
any_two a [] h own p q [] bp fq bq e g = absurd (cc)
any_two a [] h own p q (x ∷ fp) bp fq bq e g = absurd (cc)
any_two a (x ∷ ps) h own p q [] bp [] bq e g =
    let one : x ≡ p = cc in
    let other : x ≡ q = cc in
    subst (λ (y : Environment × Expr). OneText y.0 q.0) one (subst (λ (y : Environment × Expr). OneText x.0 y.0) other own.0)
any_two a (x ∷ ps) h own p q [] bp (y ∷ fq) bq e g =
    let one : x ≡ p = cc in
    let rest : ps ≡ fq ++ q ∷ bq = cc in
    subst (λ (z : Environment × Expr). OneText z.0 q.0) one (one_behind a x.0 (suc a) ps (first_none a x ps h) fq bq q rest)
any_two a (x ∷ ps) h own p q (y ∷ fp) bp [] bq e g =
    let one : x ≡ q = cc in
    let rest : ps ≡ fp ++ p ∷ bp = cc in
    turned q.0 p.0 (subst (λ (z : Environment × Expr). OneText z.0 p.0) one (one_behind a x.0 (suc a) ps (first_none a x ps h) fp bp p rest))
any_two a (x ∷ ps) h own p q (y ∷ fp) bp (z ∷ fq) bq e g =
    any_two (suc a) ps (neither (from_first a x ps) (first_program_clash (suc a) ps) h).1 own.1 p q fp bp fq bq (cc) (cc)

pub one_text : (a : ℕ) (ps : Programs) → first_program_clash a ps ≡ None → HaveOwnText ps → HaveOneText ps
one_text a ps h own p q w v i j n s t = (any_two a ps h own p q w.0 w.1 v.0 v.1 w.2 v.2).same i j n s t

-- and the other way
pub no_first : (a : ℕ) (ps : Programs) → HaveOneText ps → first_program_clash a ps ≡ None
no_first a [] h = refl
no_first a (p ∷ ps) h =
    ap (λ o. option_or o (first_program_clash (suc a) ps))
    (below_all (length p.0) (λ i. clash_behind a p.0 i (suc a) ps) (λ i lt. none_behind a p.0 i (suc a) ps (λ q w. record { same = h p q ([], ps, refl) (p ∷ w.0, w.1, ap (λ x. p ∷ x) w.2) })))
    ∙ no_first (suc a) ps (λ x y w v. h x y (p ∷ w.0, w.1, ap (λ l. p ∷ l) w.2) (p ∷ v.0, v.1, ap (λ l. p ∷ l) v.2))
