-- What a call put behind what was put before it, and the bytes of a form by what it is at the top.
use Rattle.std.proofs.Common.{◌≡◌, ℕ, List, ◌++◌, Result, Ok, Err, OnOk, refl, sym, ap, ◌∙◌, append_assoc}
use Rattle.ac_types.specs.Types.{Typ}
use Rattle.ac_types.specs.ReadTypes.{typ_of}
use Rattle.ac_types.specs.declared.ty.Ty.{Ty}
use Rattle.ac_terms.specs.Terms.{Pattern, Expr, PValue}
use Rattle.ac_terms.specs.Read.{pattern_of, expr_of, value_of}
use Rattle.ac_terms.specs.Spelling.{type_bytes}
use Rattle.ac_terms.specs.SpelledBy.{pattern_bytes, term_bytes, value_bytes}
use Rattle.ac_terms.specs.declared.pat.Pat.{Pat}
use Rattle.ac_terms.specs.declared.term.Term.{Term}
use Rattle.ac_terms.specs.declared.term.PVal.{PVal}

on_ok : {A E P Q : Type 0} (r : Result A E) → (P → Q) → OnOk r P → OnOk r Q
on_ok (Ok a) f h = f h
on_ok (Err e) f h = tt

behind : (old mid new first rest : List ℕ) → mid ≡ old ++ first → new ≡ mid ++ rest → new ≡ old ++ (first ++ rest)
behind old mid new first rest is h = h ∙ ap (λ l. l ++ rest) is ∙ append_assoc old first rest

module _ {A E : Type 0} (r : Result A E) (old new : List ℕ) where
  pub put_next : (mid rest : List ℕ) → mid ≡ old → OnOk r (new ≡ mid ++ rest) → OnOk r (new ≡ old ++ rest)
  put_next mid rest is = on_ok r (λ h. h ∙ ap (λ l. l ++ rest) is)

  pub put_behind : (mid first rest : List ℕ) → mid ≡ old ++ first → OnOk r (new ≡ mid ++ rest) → OnOk r (new ≡ old ++ (first ++ rest))
  put_behind mid first rest is = on_ok r (behind old mid new first rest is)

  pub put_two_behind : (mid first next rest : List ℕ) → mid ≡ old ++ first → OnOk r (new ≡ mid ++ next ++ rest) → OnOk r (new ≡ old ++ (first ++ next ++ rest))
  put_two_behind mid first next rest is = on_ok r (behind old (mid ++ next) new (first ++ next) rest (behind old mid (mid ++ next) first next is refl))

  pub put_third : (mid last first next rest : List ℕ) → mid ≡ old ++ first → last ≡ mid ++ next → OnOk r (new ≡ last ++ rest) → OnOk r (new ≡ old ++ (first ++ next ++ rest))
  put_third mid last first next rest is then = on_ok r (behind old last new (first ++ next) rest (behind old mid last first next is then))

  put_as : {X V : Type 0} (bytes : V → List ℕ) (read : X → V) (x y : X) (v : V) → x ≡ y → read y ≡ v → OnOk r (new ≡ old ++ bytes v) → OnOk r (new ≡ old ++ bytes (read x))
  put_as bytes read x y v is reads = on_ok r (λ h. h ∙ ap (λ u. old ++ bytes u) (sym (ap read is ∙ reads)))

  pub put_type_as : (t u : Ty) (T : Typ) → t ≡ u → typ_of u ≡ T → OnOk r (new ≡ old ++ type_bytes T) → OnOk r (new ≡ old ++ type_bytes (typ_of t))
  put_type_as = put_as type_bytes typ_of

  pub put_pattern_as : (types : Typ → List ℕ) (p q : Pat) (x : Pattern) → p ≡ q → pattern_of q ≡ x → OnOk r (new ≡ old ++ pattern_bytes types x) → OnOk r (new ≡ old ++ pattern_bytes types (pattern_of p))
  put_pattern_as types = put_as (pattern_bytes types) pattern_of

  module _ (types : Typ → List ℕ) (references : ℕ → List ℕ) where
    pub put_term_as : (t u : Term) (e : Expr) → t ≡ u → expr_of u ≡ e → OnOk r (new ≡ old ++ term_bytes types references e) → OnOk r (new ≡ old ++ term_bytes types references (expr_of t))
    put_term_as = put_as (term_bytes types references) expr_of

    pub put_value_as : (v w : PVal) (x : PValue) → v ≡ w → value_of w ≡ x → OnOk r (new ≡ old ++ value_bytes types references x) → OnOk r (new ≡ old ++ value_bytes types references (value_of v))
    put_value_as = put_as (value_bytes types references) value_of
