-- What packed values and functions are of, from what their parts are.
use Rattle.std.proofs.Common.{suc, ◌≡◌, refl, ap, ◌∙◌, subst, Bool, true, false, ◌&&◌, List, [], ◌∷◌, length, map, Option, Some, None}
use Rattle.std.specs.Prelude.{Result, IfOk}
use Rattle.ac_types.specs.Partial.{given, agree}
use Rattle.ac_types.specs.Types.{Typ, typs}
use Rattle.ac_types.specs.ReadTypes.{typ_of}
use Rattle.ac_types.specs.declared.ty.Ty.{Ty}
use Rattle.ac_types.specs.declared.memory.Memory.{Memory}
use Rattle.ac_terms.specs.Terms.{Home, KFun, pvalues}
use Rattle.ac_terms.specs.Defs.{Environment}
use Rattle.ac_terms.specs.Read.{expr_of, value_of}
use Rattle.ac_terms.specs.declared.term.Term.{Term}
use Rattle.ac_terms.specs.declared.term.PVal.{PVal}
use Rattle.ac_rules.specs.Views.{Coloured, head}
use Rattle.ac_rules.specs.Plain.{may_travel}
use Rattle.ac_rules.specs.Typing.{Scope, all_of, type_of, type_seen, holds, all_hold, is_function, is_function_home}
use Rattle.ac_check.specs.inner.Captured.{captured_hold}
use Rattle.ac_check.proofs.CapturedLaws.{split}
use Rattle.ac_check.proofs.CodeTerms.{code_term}

given_agrees : (h : Bool) (a b : Option Typ) → agree (given h a) b ≡ (agree a b && h)
given_agrees true None b = refl
given_agrees true (Some T) None = refl
given_agrees true (Some T) (Some U) = and_true (agree (Some T) (Some U))
  where
    and_true : (b : Bool) → b ≡ (b && true)
    and_true true = refl
    and_true false = refl
given_agrees false None b = refl
given_agrees false (Some T) None = refl
given_agrees false (Some T) (Some U) = and_false (agree (Some T) (Some U))
  where
    and_false : (b : Bool) → false ≡ (b && false)
    and_false true = refl
    and_false false = refl

module _ (E : Environment) where
  -- the type of a term of the code
  pub term_type : (t : Term) (S : Scope) → type_of Coloured false E S (expr_of t) ≡ given (captured_hold E (expr_of t)) (type_of Coloured true E S (expr_of t))
  term_type t S = split E (expr_of t) (code_term t) S

  last_and : (x y a b h : Bool) → a ≡ (b && h) → (x && y && a) ≡ ((x && y && b) && h)
  last_and true true a b h e = e
  last_and true false a b h e = refl
  last_and false y a b h e = refl

  -- a function, from its type where captured values count as of theirs, and these
  pub function_holds : (h : Home) (t : Term) (T : Typ) → holds Coloured false E (KFun h (expr_of t)) T ≡ (may_travel E h (expr_of t) T && captured_hold E (expr_of t))
  function_holds h t T =
      let o = type_seen Coloured true E h (head E T) in
      last_and (is_function (head E T)) (is_function_home E h) (agree (type_of Coloured false E (all_of E h) (expr_of t)) o) (agree (type_of Coloured true E (all_of E h) (expr_of t)) o) (captured_hold E (expr_of t))
      (ap (λ (x : Option Typ). agree x o) (term_type t (all_of E h)) ∙ given_agrees (captured_hold E (expr_of t)) (type_of Coloured true E (all_of E h) (expr_of t)) o)

  and_false : (b c : Bool) → c ≡ false → (b && c) ≡ false
  and_false true c e = e
  and_false false c e = refl

  pub other_counts : (vs : List PVal) (ts : List Ty) → (length vs ≡ length ts → ⊥) → all_hold Coloured false E (pvalues (map value_of vs)) (typs (map typ_of ts)) ≡ false
  other_counts [] [] h = absurd (h refl)
  other_counts [] (t ∷ ts) h = refl
  other_counts (v ∷ vs) [] h = refl
  other_counts (v ∷ vs) (t ∷ ts) h = and_false _ _ (other_counts vs ts (λ e. h (ap suc e)))

-- an answer of an equal truth value
pub carried : (r : Result Bool Memory) (x y : Bool) → x ≡ y → IfOk r (λ b. b ≡ x) → IfOk r (λ b. b ≡ y)
carried r x y e h = subst (λ (z : Bool). IfOk r (λ b. b ≡ z)) e h
