-- What is wrong with expressions, by what is known of a scope and the variables in it.
use Rattle.std.specs.Prelude.{ℕ, ◌||◌, is_some, List, [], ◌∷◌, length}
use Rattle.ac_types.specs.Limits.{widest_tuple, most_arms, most_variables}
use Rattle.ac_types.specs.Types.{Bytes}
use Rattle.ac_syntax.specs.Trees.{PatTree, Tree, ExInt, ExBool, ExStr, ExUnit, ExExn, ExExnOf, ExTuple, ExNil, ExAbsent, ExPresent, ExCons, ExVar, ExOf, ExFun, ExRec, ExApp, ExLet, ExLetRec, ExIf, ExSeq, ExMatch, ExTry, ExRaise, ExAnd, ExOr, ExOp, ExMarshal, ExUnmarshal, Trees, no_trees, tree, ArmTrees, no_arm_trees, arm_tree}
use Rattle.ac_resolve_scopes.specs.Scopes.{binders_to, scope_with}
use Rattle.ac_resolve_scopes.specs.Written.{pattern_names}
use Rattle.ac_resolve_scopes.specs.Searches.{tree_count, arms_written}
use Rattle.ac_resolve_scopes.specs.Repeated.{repeated_name}
use Rattle.ac_resolve_scopes.specs.Counts.{over}
use Rattle.ac_resolve_signatures.specs.declared.flaws.Flaws.{Flaws}
use Rattle.ac_resolve_signatures.specs.Joined.{no_flaws, missing, repeats, counts, flaws_joined}
use Rattle.ac_resolve_signatures.specs.KnownScopes.{KnownScope}
use Rattle.ac_resolve_signatures.specs.TypeFlaws.{type_flaws}
use Rattle.ac_resolve_faults.specs.inner.PatFlaws.{pat_flaws}
use Rattle.ac_resolve_signatures.specs.NameFlaws.{dotted_flaws, place_unless}

-- at a leaf the most variables are in scope
abbrev pub leaf_flaws : List Bytes → Flaws
leaf_flaws names = counts (over most_variables (length names))

abbrev pub variable_flaws : KnownScope → List Bytes → ℕ → Bytes → Flaws
variable_flaws K names at x = missing (place_unless (is_some (binders_to x names) || K.fields x) at)

module _ (K : KnownScope) where
  abbrev mutual
    pub flaws : List Bytes → Tree → Flaws
    flaws names (ExInt at n) = leaf_flaws names
    flaws names (ExBool at b) = leaf_flaws names
    flaws names (ExStr at text) = leaf_flaws names
    flaws names (ExUnit at) = leaf_flaws names
    flaws names (ExExn at number) = leaf_flaws names
    flaws names (ExExnOf at number a) = flaws names a
    flaws names (ExTuple at parts) = flaws_joined (counts (over widest_tuple (tree_count parts))) (flaws_of_all names parts)
    flaws names (ExNil at T) = flaws_joined (type_flaws K T) (leaf_flaws names)
    flaws names (ExAbsent at T) = flaws_joined (type_flaws K T) (leaf_flaws names)
    flaws names (ExPresent at a) = flaws names a
    flaws names (ExCons at a b) = flaws_joined (flaws names a) (flaws names b)
    flaws names (ExVar at x) = flaws_joined (variable_flaws K names at x) (leaf_flaws names)
    flaws names (ExOf at m x) = flaws_joined (dotted_flaws K m x) (leaf_flaws names)
    flaws names (ExFun at x T b) = flaws_joined (type_flaws K T) (flaws (x.word ∷ names) b)
    flaws names (ExRec at f x T U b) = flaws_joined (type_flaws K T) (flaws_joined (type_flaws K U) (flaws (x.word ∷ f.word ∷ names) b))
    flaws names (ExApp at f a) = flaws_joined (flaws names f) (flaws names a)
    flaws names (ExLet at x T a b) = flaws_joined (type_flaws K T) (flaws_joined (flaws names a) (flaws (x.word ∷ names) b))
    flaws names (ExLetRec at f x T U a b) = flaws_joined (type_flaws K T) (flaws_joined (type_flaws K U) (flaws_joined (flaws (x.word ∷ f.word ∷ names) a) (flaws (f.word ∷ names) b)))
    flaws names (ExIf at c a b) = flaws_joined (flaws names c) (flaws_joined (flaws names a) (flaws names b))
    flaws names (ExSeq at parts) = flaws_of_all names parts
    flaws names (ExMatch at a arms) = flaws_joined (counts (over most_arms (arms_written arms))) (flaws_joined (flaws names a) (flaws_of_arms names arms))
    flaws names (ExTry at a arms) = flaws_joined (counts (over most_arms (arms_written arms))) (flaws_joined (flaws names a) (flaws_of_arms names arms))
    flaws names (ExRaise at a T) = flaws_joined (type_flaws K T) (flaws names a)
    flaws names (ExAnd at a b) = flaws_joined (flaws names a) (flaws names b)
    flaws names (ExOr at a b) = flaws_joined (flaws names a) (flaws names b)
    flaws names (ExOp at number parts) = flaws_of_all names parts
    flaws names (ExMarshal at a b T) = flaws_joined (type_flaws K T) (flaws_joined (flaws names a) (flaws names b))
    flaws names (ExUnmarshal at a T) = flaws_joined (type_flaws K T) (flaws names a)

    pub flaws_of_all : List Bytes → Trees → Flaws
    flaws_of_all names no_trees = no_flaws
    flaws_of_all names (tree t ts) = flaws_joined (flaws names t) (flaws_of_all names ts)

    pub flaws_of_arms : List Bytes → ArmTrees → Flaws
    flaws_of_arms names no_arm_trees = no_flaws
    flaws_of_arms names (arm_tree p b arms) = flaws_joined (flaws_joined (flaws_joined (pat_flaws K p) (repeats (repeated_name [] (pattern_names p)))) (flaws (scope_with (pattern_names p) names) b)) (flaws_of_arms names arms)

  abbrev pub arm_flaws : List Bytes → PatTree × Tree → Flaws
  arm_flaws names arm = flaws_joined (flaws_joined (pat_flaws K arm.0) (repeats (repeated_name [] (pattern_names arm.0)))) (flaws (scope_with (pattern_names arm.0) names) arm.1)
