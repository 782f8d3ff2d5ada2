-- The first definition with an ill-typed field, along the entries behind the first.
use Rattle.std.proofs.Common.{◌≡◌, ◌∙◌, ◌≤◌, ◌<◌, ◌+◌, ◌-◌, refl, sym, ap, ap₂, ℕ, Bool, true, false, List, length, drop, map, get_or, Option, Some, None, arith, add-one}
use Rattle.std.specs.Prelude.{not, ◌&&◌}
use Rattle.std.proofs.lemmas.List.{drop-map}
use Rattle.ac_types.specs.Partial.{given}
use Rattle.ac_terms.specs.Defs.{Environment, Entry, Def, AModule, AnImport, AMark, Own'}
use Rattle.ac_terms.specs.declared.def.Entry as code
use Rattle.ac_terms.specs.declared.def.Field as code_field
use Rattle.ac_terms.specs.Read.{entry_of, def_of_code, field_of}
use Rattle.ac_rules.specs.Modules.{is_typed, are_typed}
use Rattle.ac_load_rules.specs.Causes.{Cause, IllTyped, first_at, ill_typed}
use Rattle.ac_load_causes.specs.inner.Asked.{is_typed_def}
use Rattle.ac_types.proofs.Loops.{drop_next, drop_end}
use Rattle.ac_load_causes.proofs.Firsts.{at_next, at_here, at_end}

ill_typed_at : (E : Environment) (n k : ℕ) (d : Def) → ill_typed E n k (record { def = d; name = None; seen = Own'; link = None }) ≡ given (not (is_typed_def E (n + k) d)) (Some (IllTyped k))
ill_typed_at E n k (AModule m) = refl
ill_typed_at E n k (AnImport i) = refl
ill_typed_at E n k (AMark t) = refl

ill_typed_is : (E : Environment) (n k i : ℕ) (e : Entry) → n + k ≡ i → ill_typed E n k e ≡ given (not (is_typed_def E i e.def)) (Some (IllTyped k))
ill_typed_is E n k i e h = ill_typed_at E n k e.def ∙ ap (λ (j : ℕ). given (not (is_typed_def E j e.def)) (Some (IllTyped k))) h

module _ (E : Environment) (n : ℕ) (es : List code.Entry) (i : ℕ) (x : code.Entry) (within : i < length es) (is : x ≡ get_or es i x) (behind : n ≤ i) where
  here : ill_typed E n (i - n) (entry_of x) ≡ given (not (is_typed_def E i (def_of_code x.def))) (Some (IllTyped (i - n)))
  here = ill_typed_is E n (i - n) i (entry_of x) (omega (arith, behind))

  pub typed_next : (all : Option Cause) → is_typed_def E i (def_of_code x.def) ≡ true → all ≡ first_at (i - n) (ill_typed E n) (map entry_of (drop i es)) → all ≡ first_at (i + 1 - n) (ill_typed E n) (map entry_of (drop (i + 1) es))
  typed_next all typed so =
      let none = here ∙ ap (λ b. given (not b) (Some (IllTyped (i - n)))) typed in
      let next : i - n + 1 ≡ i + 1 - n = omega (arith, behind) in
      at_next entry_of (ill_typed E n) es all (i - n) i x within is so none ∙ ap (λ (k : ℕ). first_at k (ill_typed E n) (map entry_of (drop (i + 1) es))) next

  pub typed_here : (all : Option Cause) → is_typed_def E i (def_of_code x.def) ≡ false → all ≡ first_at (i - n) (ill_typed E n) (map entry_of (drop i es)) → all ≡ Some (IllTyped (i - n))
  typed_here all typed so =
      let some = here ∙ ap (λ b. given (not b) (Some (IllTyped (i - n)))) typed in
      at_here entry_of (ill_typed E n) es all (i - n) i x (IllTyped (i - n)) within is so some

-- at the front, and past the last
pub typed_first : (E : Environment) (n i : ℕ) (all es : List code.Entry) → i ≡ n → es ≡ all → E ≡ map entry_of all → first_at 0 (ill_typed E n) (drop n E) ≡ first_at (i - n) (ill_typed E n) (map entry_of (drop i es))
typed_first E n i all es is same e =
    let zero : 0 ≡ i - n = omega (arith, is) in
    ap (λ (k : ℕ). first_at k (ill_typed E n) (drop n E)) zero
    ∙ ap (λ (l : Environment). first_at (i - n) (ill_typed E n) l) (ap (drop n) e ∙ drop-map entry_of n all ∙ ap₂ (λ (k : ℕ) (l : List code.Entry). map entry_of (drop k l)) (sym is) (sym same))

pub typed_last : (E : Environment) (n i : ℕ) (es : List code.Entry) (all : Option Cause) → i ≡ length es → all ≡ first_at (i - n) (ill_typed E n) (map entry_of (drop i es)) → all ≡ None
typed_last E n i es all e so = at_end entry_of (ill_typed E n) es all (i - n) i e so

-- along the fields of a struct
module _ (E : Environment) (i : ℕ) (fs : List code_field.Field) where
  abbrev typed_from : ℕ → ℕ → Bool
  typed_from k g = are_typed E i k (map field_of (drop g fs))

  field_here : (k g : ℕ) (x : code_field.Field) → g < length fs → x ≡ get_or fs g x → typed_from k g ≡ (is_typed E i k (field_of x) && typed_from (k + 1) (g + 1))
  field_here k g x lt is = rw (add-one k) (ap (λ ys. are_typed E i k (map field_of ys)) (drop_next g fs x lt is))

  pub fields_next : (all : Bool) (g : ℕ) (x : code_field.Field) → g < length fs → x ≡ get_or fs g x → is_typed E i g (field_of x) ≡ true → all ≡ typed_from g g → all ≡ typed_from (g + 1) (g + 1)
  fields_next all g x lt is typed so = so ∙ field_here g g x lt is ∙ ap (λ b. b && typed_from (g + 1) (g + 1)) typed

  pub fields_here : (all : Bool) (g : ℕ) (x : code_field.Field) → g < length fs → x ≡ get_or fs g x → is_typed E i g (field_of x) ≡ false → all ≡ typed_from g g → all ≡ false
  fields_here all g x lt is typed so = so ∙ field_here g g x lt is ∙ ap (λ b. b && typed_from (g + 1) (g + 1)) typed

  pub fields_end : (all : Bool) (g : ℕ) → g ≡ length fs → all ≡ typed_from g g → all ≡ true
  fields_end all g e so = so ∙ ap (λ ys. are_typed E i g (map field_of ys)) (drop_end g fs e)
