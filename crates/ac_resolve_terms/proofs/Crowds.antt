-- Where no count passes its limit, nowhere are too many variables in scope.
use Rattle.std.proofs.Common.{◌≡◌, refl, List, [], ◌∷◌, None}
use Rattle.ac_syntax.specs.Trees.{Tree, ExInt, ExBool, ExStr, ExUnit, ExExn, ExExnOf, ExTuple, ExNil, ExAbsent, ExPresent, ExCons, ExVar, ExOf, ExFun, ExRec, ExApp, ExLet, ExLetRec, ExIf, ExSeq, ExMatch, ExTry, ExRaise, ExAnd, ExOr, ExOp, ExMarshal, ExUnmarshal, Trees, no_trees, tree, ArmTrees, no_arm_trees, arm_tree, FieldTree, AbbrevField, ValField}
use Rattle.ac_resolve_scopes.specs.Scopes.{NameScope, with_variables}
use Rattle.ac_resolve_scopes.specs.Written.{in_function, in_arm}
use Rattle.ac_resolve_scopes.specs.Definitions.{after_field}
use Rattle.ac_resolve_scopes.specs.Searches.{found, found_in_all, found_in_arms, found_in_field, least_in}
use Rattle.ac_resolve_scopes.specs.Counts.{large}
use Rattle.ac_resolve_terms.specs.inner.Crowd.{crowd}
use Rattle.ac_resolve_terms.proofs.Within.{none_left, none_right, none_both}

mutual
  pub uncrowded : (S : NameScope) (e : Tree) → found large S e ≡ None → found crowd S e ≡ None
  uncrowded S (ExInt at n) h = refl
  uncrowded S (ExBool at b) h = refl
  uncrowded S (ExStr at text) h = refl
  uncrowded S (ExUnit at) h = refl
  uncrowded S (ExExn at number) h = refl
  uncrowded S (ExExnOf at number a) h = uncrowded S a h
  uncrowded S (ExTuple at parts) h = all_uncrowded S parts (none_right _ _ h)
  uncrowded S (ExNil at T) h = refl
  uncrowded S (ExAbsent at T) h = refl
  uncrowded S (ExPresent at a) h = uncrowded S a h
  uncrowded S (ExCons at a b) h = none_both _ _ (uncrowded S a (none_left _ _ h)) (uncrowded S b (none_right _ _ h))
  uncrowded S (ExVar at x) h = h
  uncrowded S (ExOf at m x) h = refl
  uncrowded S (ExFun at x T b) h = uncrowded (with_variables (x ∷ []) S) b (none_right _ _ h)
  uncrowded S (ExRec at f x T U b) h = uncrowded (in_function f x S) b (none_right _ _ (none_right _ _ h))
  uncrowded S (ExApp at f a) h = none_both _ _ (uncrowded S f (none_left _ _ h)) (uncrowded S a (none_right _ _ h))
  uncrowded S (ExLet at x T a b) h =
      let inner = none_right _ _ h in
      none_both _ _ (uncrowded S a (none_left _ _ inner)) (uncrowded (with_variables (x ∷ []) S) b (none_right _ _ inner))
  uncrowded S (ExLetRec at f x T U a b) h =
      let inner = none_right _ _ (none_right _ _ h) in
      none_both _ _ (uncrowded (in_function f x S) a (none_left _ _ inner)) (uncrowded (with_variables (f ∷ []) S) b (none_right _ _ inner))
  uncrowded S (ExIf at c a b) h =
      let inner = none_right _ _ h in
      none_both _ _ (uncrowded S c (none_left _ _ h)) (none_both _ _ (uncrowded S a (none_left _ _ inner)) (uncrowded S b (none_right _ _ inner)))
  uncrowded S (ExSeq at parts) h = all_uncrowded S parts h
  uncrowded S (ExMatch at a arms) h =
      let inner = none_right _ _ h in
      none_both _ _ (uncrowded S a (none_left _ _ inner)) (arms_uncrowded S arms (none_right _ _ inner))
  uncrowded S (ExTry at a arms) h =
      let inner = none_right _ _ h in
      none_both _ _ (uncrowded S a (none_left _ _ inner)) (arms_uncrowded S arms (none_right _ _ inner))
  uncrowded S (ExRaise at a T) h = uncrowded S a (none_right _ _ h)
  uncrowded S (ExAnd at a b) h = none_both _ _ (uncrowded S a (none_left _ _ h)) (uncrowded S b (none_right _ _ h))
  uncrowded S (ExOr at a b) h = none_both _ _ (uncrowded S a (none_left _ _ h)) (uncrowded S b (none_right _ _ h))
  uncrowded S (ExOp at number parts) h = all_uncrowded S parts h
  uncrowded S (ExMarshal at a b T) h =
      let inner = none_right _ _ h in
      none_both _ _ (uncrowded S a (none_left _ _ inner)) (uncrowded S b (none_right _ _ inner))
  uncrowded S (ExUnmarshal at a T) h = uncrowded S a (none_right _ _ h)

  all_uncrowded : (S : NameScope) (ts : Trees) → found_in_all large S ts ≡ None → found_in_all crowd S ts ≡ None
  all_uncrowded S no_trees h = refl
  all_uncrowded S (tree t ts) h = none_both _ _ (uncrowded S t (none_left _ _ h)) (all_uncrowded S ts (none_right _ _ h))

  arms_uncrowded : (S : NameScope) (arms : ArmTrees) → found_in_arms large S arms ≡ None → found_in_arms crowd S arms ≡ None
  arms_uncrowded S no_arm_trees h = refl
  arms_uncrowded S (arm_tree p b arms) h =
      let inner = none_right _ _ h in
      none_both _ _ (uncrowded (in_arm p S) b (none_left _ _ inner)) (arms_uncrowded S arms (none_right _ _ inner))

field_uncrowded : (S : NameScope) (f : FieldTree) → found_in_field large S f ≡ None → found_in_field crowd S f ≡ None
field_uncrowded S (AbbrevField a) h = refl
field_uncrowded S (ValField name ty body) h = uncrowded S body (none_right _ _ h)

pub fields_uncrowded : (S : NameScope) (fs : List FieldTree) → least_in after_field (found_in_field large) S fs ≡ None → least_in after_field (found_in_field crowd) S fs ≡ None
fields_uncrowded S [] h = refl
fields_uncrowded S (f ∷ fs) h = none_both _ _ (field_uncrowded S f (none_left _ _ h)) (fields_uncrowded (after_field S f) fs (none_right _ _ h))
