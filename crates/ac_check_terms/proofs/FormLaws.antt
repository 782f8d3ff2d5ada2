-- The types of the forms that bind variables or write types, from those of their parts.
use Rattle.std.proofs.Common.{◌≡◌, refl, sym, ap, ◌∙◌, subst, true, false, List, [], ◌∷◌, ◌++◌, Option, Some, None}
use Rattle.std.specs.Prelude.{option_map, option_and_then, Result, IfOk}
use Rattle.std.proofs.lemmas.List.{append-nil}
use Rattle.ac_types.specs.Partial.{given, has}
use Rattle.ac_types.specs.Types.{Typ, TInt, TBool, TStr, TUnit, TExn, TTuple, TList, TOpt, TFun, TAbs, TMine, function_parts}
use Rattle.ac_types.specs.ReadTypes.{typ_of}
use Rattle.ac_types.specs.declared.memory.Memory.{Memory}
use Rattle.ac_types.specs.declared.ty.Ty.{Ty}
use Rattle.ac_terms.specs.Terms.{Expr, Pattern, Lam, Rec, Let}
use Rattle.ac_terms.specs.Defs.{Environment}
use Rattle.ac_terms.specs.Read.{home_of}
use Rattle.ac_rules.specs.Views.{Coloured}
use Rattle.ac_rules.specs.Typing.{type_of, type_applied, variables, variables_joined, type_seen}
use Rattle.ac_check_views.specs.Sites.{scope_at}
use Rattle.ac_check_terms.specs.inner.Parts.{arm_type, newest_first}
use Rattle.ac_check_views.specs.declared.site.Site.{Site}
use Rattle.ac_check_terms.proofs.KeptLaws.{K, kept_is, lam_some, lam_none, rec_none, rec_no_result, rec_some, rec_big, rec_small, let_other, let_same}

-- an application by the parts of the function's type
pub applied_by_parts : (T : Typ) (a : Option Typ) → type_applied (Some T) a ≡ option_and_then (λ p. given (has a p.0) (Some p.1)) (function_parts T)
applied_by_parts TInt a = refl
applied_by_parts TBool a = refl
applied_by_parts TStr a = refl
applied_by_parts TUnit a = refl
applied_by_parts TExn a = refl
applied_by_parts (TTuple Ts) a = refl
applied_by_parts (TList T) a = refl
applied_by_parts (TOpt T) a = refl
applied_by_parts (TFun T U) a = refl
applied_by_parts (TAbs n t) a = refl
applied_by_parts (TMine t) a = refl

-- the same answer, of an equal type
pub carry : (r : Result (Option Ty) Memory) (x y : Option Typ) → x ≡ y → IfOk r (λ o. option_map typ_of o ≡ x) → IfOk r (λ o. option_map typ_of o ≡ y)
carry r x y e h = subst (λ (z : Option Typ). IfOk r (λ o. option_map typ_of o ≡ z)) e h

module _ (E : Environment) (p : Site) (v : List Typ) where
  -- the type of a term whose variables have these types, and a type that is written
  abbrev pub typed : List Typ → Expr → Option Typ
  typed G e = type_of Coloured true E (scope_at p G) e

  abbrev pub written : Typ → Option Typ
  written T = type_seen Coloured true E (home_of p.home) T

  pub function_some : (T A : Typ) (e : Expr) (o : Option Typ) (G : List Typ) → Some A ≡ K (written T) → o ≡ typed G e → G ≡ A ∷ v → K (option_map (TFun A) o) ≡ typed v (Lam T e)
  function_some T A e o G h q g =
      ap (λ (x : Option Typ). K (option_map (TFun A) x)) (q ∙ ap (λ (H : List Typ). typed H e) g)
      ∙ sym (lam_some (written T) (λ X. typed (X ∷ v) e) A (sym h))

  pub function_none : (T : Typ) (e : Expr) → None ≡ K (written T) → None ≡ typed v (Lam T e)
  function_none T e h = sym (lam_none (written T) (λ X. typed (X ∷ v) e) (sym h))

  pub recursive_none : (T U : Typ) (e : Expr) → None ≡ K (written T) → None ≡ typed v (Rec T U e)
  recursive_none T U e h = sym (rec_none (λ A B. typed (A ∷ TFun A B ∷ v) e) (written T) (written U) (sym h))

  pub recursive_no_result : (T U : Typ) (e : Expr) → None ≡ K (written U) → None ≡ typed v (Rec T U e)
  recursive_no_result T U e h = sym (rec_no_result (λ A B. typed (A ∷ TFun A B ∷ v) e) (written T) (written U) (sym h))

  pub recursive_big : (T U A B : Typ) (e : Expr) → Some A ≡ K (written T) → Some B ≡ K (written U) → None ≡ K (Some (TFun A B)) → None ≡ typed v (Rec T U e)
  recursive_big T U A B e h k big =
      sym (rec_some (λ X Y. typed (X ∷ TFun X Y ∷ v) e) (written T) (written U) A B (sym h) (sym k) ∙ rec_big (typed (A ∷ TFun A B ∷ v) e) A B (sym big))

  pub recursive_some : (T U A B F : Typ) (e : Expr) (o : Option Typ) (G : List Typ) → Some A ≡ K (written T) → Some B ≡ K (written U) → Some F ≡ K (Some (TFun A B))
      → o ≡ typed G e → G ≡ A ∷ F ∷ v → given (has o B) (Some F) ≡ typed v (Rec T U e)
  recursive_some T U A B F e o G h k own q g =
      ap (λ (x : Option Typ). given (has x B) (Some F)) (q ∙ ap (λ (H : List Typ). typed H e) (g ∙ ap (λ (X : Typ). A ∷ X ∷ v) (kept_is (TFun A B) F (sym own))))
      ∙ sym (rec_some (λ X Y. typed (X ∷ TFun X Y ∷ v) e) (written T) (written U) A B (sym h) (sym k) ∙ rec_small (typed (A ∷ TFun A B ∷ v) e) A B F (sym own))

  abbrev bound : Typ → Expr → Option Typ → Option Typ
  bound T b o = option_and_then (λ A. given (has o A) (typed (A ∷ v) b)) (written T)

  pub binding_other : (T F : Typ) (e b : Expr) → Some F ≡ typed v e → false ≡ has (written T) F → None ≡ typed v (Let T e b)
  binding_other T F e b h q = sym (ap (bound T b) (sym h) ∙ let_other (written T) F (λ A. typed (A ∷ v) b) (sym q))

  pub binding_some : (T F : Typ) (e b : Expr) (G : List Typ) → Some F ≡ typed v e → true ≡ has (written T) F → G ≡ F ∷ v → typed G b ≡ typed v (Let T e b)
  binding_some T F e b G h q g = ap (λ (H : List Typ). typed H b) g ∙ sym (ap (bound T b) (sym h) ∙ let_same (written T) F (λ A. typed (A ∷ v) b) (sym q))

  joined_nil : (o : Option (List Typ)) → variables_joined (Some []) o ≡ o
  joined_nil (Some Us) = ap Some (append-nil Us)
  joined_nil None = refl

  abbrev vars : Pattern → Typ → Option (List Typ)
  vars q T = variables Coloured true E (home_of p.home) q T

  found_is : (b : List Ty) (o x : Option (List Typ)) → b ≡ [] → o ≡ variables_joined (Some (newest_first b)) x → o ≡ x
  found_is b o x n h = h ∙ ap (λ (ts : List Ty). variables_joined (Some (newest_first ts)) x) n ∙ joined_nil x

  pub body_some : (T : Typ) (q : Pattern) (e : Expr) (b us : List Ty) (G : List Typ) → b ≡ [] → Some (newest_first us) ≡ variables_joined (Some (newest_first b)) (vars q T)
      → G ≡ newest_first us ++ v → typed G e ≡ arm_type E (scope_at p v) T q e
  body_some T q e b us G n h g = ap (λ (H : List Typ). typed H e) g ∙ ap (option_and_then (λ (Us : List Typ). typed (Us ++ v) e)) (found_is b (Some (newest_first us)) (vars q T) n h)
