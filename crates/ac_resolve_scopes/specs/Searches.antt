-- A search through a surface for the least number that is found. What each search looks at is a record of tests; what is in scope where is said here once, for all of them.
use Rattle.std.specs.Prelude.{ℕ, suc, min, List, [], ◌∷◌, Option, Some, None, unwrap_or}
use Rattle.ac_types.specs.Types.{Bytes}
use Rattle.ac_syntax.specs.Trees.{NameAt, TypeTree, PatTree, Tree, ExInt, ExBool, ExStr, ExUnit, ExExn, ExExnOf, ExTuple, ExNil, ExAbsent, ExPresent, ExCons, ExVar, ExOf, ExFun, ExRec, ExApp, ExLet, ExLetRec, ExIf, ExSeq, ExMatch, ExTry, ExRaise, ExAnd, ExOr, ExOp, ExMarshal, ExUnmarshal, Trees, no_trees, tree, ArmTrees, no_arm_trees, arm_tree, AbbrevTree, SpecTree, AbstractSpec, ManifestSpec, ValSpec, SigTree, FieldTree, AbbrevField, ValField, DefTree, ModuleDef, ImportDef, MarkDef}
use Rattle.ac_resolve_scopes.specs.Scopes.{NameScope, with_variables}
use Rattle.ac_resolve_scopes.specs.Written.{in_function, in_arm}
use Rattle.ac_resolve_scopes.specs.Definitions.{after_abbrev, after_spec, after_field}

-- the least of what is there
abbrev pub least : Option ℕ → Option ℕ → Option ℕ
least None o = o
least (Some m) None = Some m
least (Some m) (Some n) = Some (min m n)

-- the least that is found in some items, and in items that stand one behind another, each in its scope
abbrev pub least_of : {A : Type 0} → (A → Option ℕ) → List A → Option ℕ
least_of test [] = None
least_of test (x ∷ xs) = least (test x) (least_of test xs)

abbrev pub least_in : {A : Type 0} → (NameScope → A → NameScope) → (NameScope → A → Option ℕ) → NameScope → List A → Option ℕ
least_in after test S [] = None
least_in after test S (x ∷ xs) = least (test S x) (least_in after test (after S x) xs)

-- what is looked at: types where they are written, patterns, leaves of expressions, the parts of a tuple and the arms of a match or try
pub record Search : Type 0 where
  pub ty : NameScope → TypeTree → Option ℕ
  pub pattern : NameScope → PatTree → Option ℕ
  pub variable : NameScope → ℕ → Bytes → Option ℕ
  pub dotted : NameScope → NameAt → NameAt → Option ℕ
  pub constant : NameScope → Option ℕ
  pub parts : ℕ → Option ℕ
  pub arms : ℕ → Option ℕ

abbrev pub tree_count : Trees → ℕ
tree_count no_trees = 0
tree_count (tree t ts) = suc (tree_count ts)

abbrev pub arms_written : ArmTrees → ℕ
arms_written no_arm_trees = 0
arms_written (arm_tree p b arms) = suc (arms_written arms)

module _ (s : Search) where
  abbrev mutual
    pub found : NameScope → Tree → Option ℕ
    found S (ExInt at n) = s.constant S
    found S (ExBool at b) = s.constant S
    found S (ExStr at text) = s.constant S
    found S (ExUnit at) = s.constant S
    found S (ExExn at number) = s.constant S
    found S (ExExnOf at number a) = found S a
    found S (ExTuple at parts) = least (s.parts (tree_count parts)) (found_in_all S parts)
    found S (ExNil at T) = least (s.ty S T) (s.constant S)
    found S (ExAbsent at T) = least (s.ty S T) (s.constant S)
    found S (ExPresent at a) = found S a
    found S (ExCons at a b) = least (found S a) (found S b)
    found S (ExVar at x) = s.variable S at x
    found S (ExOf at m x) = s.dotted S m x
    found S (ExFun at x T b) = least (s.ty S T) (found (with_variables (x ∷ []) S) b)
    found S (ExRec at f x T U b) = least (s.ty S T) (least (s.ty S U) (found (in_function f x S) b))
    found S (ExApp at f a) = least (found S f) (found S a)
    found S (ExLet at x T a b) = least (s.ty S T) (least (found S a) (found (with_variables (x ∷ []) S) b))
    found S (ExLetRec at f x T U a b) = least (s.ty S T) (least (s.ty S U) (least (found (in_function f x S) a) (found (with_variables (f ∷ []) S) b)))
    found S (ExIf at c a b) = least (found S c) (least (found S a) (found S b))
    found S (ExSeq at parts) = found_in_all S parts
    found S (ExMatch at a arms) = least (s.arms (arms_written arms)) (least (found S a) (found_in_arms S arms))
    found S (ExTry at a arms) = least (s.arms (arms_written arms)) (least (found S a) (found_in_arms S arms))
    found S (ExRaise at a T) = least (s.ty S T) (found S a)
    found S (ExAnd at a b) = least (found S a) (found S b)
    found S (ExOr at a b) = least (found S a) (found S b)
    found S (ExOp at number parts) = found_in_all S parts
    found S (ExMarshal at a b T) = least (s.ty S T) (least (found S a) (found S b))
    found S (ExUnmarshal at a T) = least (s.ty S T) (found S a)

    pub found_in_all : NameScope → Trees → Option ℕ
    found_in_all S no_trees = None
    found_in_all S (tree t ts) = least (found S t) (found_in_all S ts)

    pub found_in_arms : NameScope → ArmTrees → Option ℕ
    found_in_arms S no_arm_trees = None
    found_in_arms S (arm_tree p b arms) = least (s.pattern S p) (least (found (in_arm p S) b) (found_in_arms S arms))

  -- in the types and terms of a definition
  abbrev pub found_in_abbrev : NameScope → AbbrevTree → Option ℕ
  found_in_abbrev S a = s.ty S a.ty

  abbrev pub found_in_spec : NameScope → SpecTree → Option ℕ
  found_in_spec S (AbstractSpec name) = None
  found_in_spec S (ManifestSpec a) = found_in_abbrev S a
  found_in_spec S (ValSpec name ty) = s.ty S ty

  abbrev pub found_in_field : NameScope → FieldTree → Option ℕ
  found_in_field S (AbbrevField a) = found_in_abbrev S a
  found_in_field S (ValField name ty body) = least (s.ty S ty) (found S body)

  abbrev pub found_in_sig : NameScope → SigTree → Option ℕ
  found_in_sig S σ = least_in after_spec found_in_spec S σ.specs

  abbrev pub found_in_def : NameScope → DefTree → Option ℕ
  found_in_def S (ModuleDef at name σ version fields) = least (found_in_sig S σ) (least_in after_field found_in_field S fields)
  found_in_def S (ImportDef at name σ wants like by) = least (found_in_sig S σ) (least_in after_abbrev found_in_abbrev S (unwrap_or like []))
  found_in_def S (MarkDef at text_at text) = None
