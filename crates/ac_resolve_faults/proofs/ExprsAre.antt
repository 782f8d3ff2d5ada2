-- What is wrong with expressions by what is known is what is wrong with them in the scope.
use Rattle.std.proofs.Common.{◌≡◌, ◌∙◌, ap, refl, ℕ, List, [], ◌∷◌, Option, Some, None}
use Rattle.std.specs.Prelude.{is_some, ◌||◌, option_map}
use Rattle.std.specs.Option.{option_or}
use Rattle.ac_types.specs.Limits.{widest_tuple, most_arms}
use Rattle.ac_types.specs.Types.{Bytes}
use Rattle.ac_terms.specs.Terms.{Var, Own}
use Rattle.ac_syntax.specs.Trees.{TypeTree, Tree, ExInt, ExBool, ExStr, ExUnit, ExExn, ExExnOf, ExTuple, ExNil, ExAbsent, ExPresent, ExCons, ExVar, ExOf, ExFun, ExRec, ExApp, ExLet, ExLetRec, ExIf, ExSeq, ExMatch, ExTry, ExRaise, ExAnd, ExOr, ExOp, ExMarshal, ExUnmarshal, Trees, no_trees, tree, ArmTrees, no_arm_trees, arm_tree}
use Rattle.ac_resolve_scopes.specs.Standard.{is_standard}
use Rattle.ac_resolve_scopes.specs.Scopes.{NameScope, own_number, binders_to, definition, plain_value, dotted_value, scope_with}
use Rattle.ac_resolve_scopes.specs.Written.{pattern_names}
use Rattle.ac_resolve_scopes.specs.Searches.{tree_count, arms_written, found, found_in_all, found_in_arms}
use Rattle.ac_resolve_scopes.specs.Unbound.{unless, unbound_behind, unbound_pattern, unbound}
use Rattle.ac_resolve_scopes.specs.Repeated.{repeated_name, repeated}
use Rattle.ac_resolve_scopes.specs.Counts.{over, large_pattern, large}
use Rattle.ac_resolve_signatures.specs.declared.flaws.Flaws.{Flaws}
use Rattle.ac_resolve_signatures.specs.Joined.{counts, repeats, flaws_joined}
use Rattle.ac_resolve_signatures.specs.KnownScopes.{KnownScope}
use Rattle.ac_resolve_signatures.specs.TypeFlaws.{type_flaws}
use Rattle.ac_resolve_faults.specs.inner.PatFlaws.{pat_flaws}
use Rattle.ac_resolve_signatures.specs.NameFlaws.{place_unless}
use Rattle.ac_resolve_faults.specs.inner.ExprFlaws.{leaf_flaws, flaws, flaws_of_all, flaws_of_arms}
use Rattle.ac_resolve_signatures.proofs.Leasts.{least-none, three, same, joined-assoc, both_joined}
use Rattle.ac_resolve_signatures.proofs.Knowing.{Knows}
use Rattle.ac_resolve_signatures.proofs.TypesAre.{type_faults, type_flaws-are}
use Rattle.ac_resolve_faults.proofs.PatternsAre.{pat_flaws-are}
use Rattle.ac_resolve_signatures.proofs.NamesAre.{dotted-is}

abbrev pub faults : NameScope → Tree → Flaws
faults S e = record { unbound = found unbound S e; repeated = found repeated S e; count = found large S e }

abbrev faults_of_all : NameScope → Trees → Flaws
faults_of_all S es = record { unbound = found_in_all unbound S es; repeated = found_in_all repeated S es; count = found_in_all large S es }

abbrev faults_of_arms : NameScope → ArmTrees → Flaws
faults_of_arms S arms = record { unbound = found_in_arms unbound S arms; repeated = found_in_arms repeated S arms; count = found_in_arms large S arms }

-- the same scope with these variables
abbrev pub with_names : NameScope → List Bytes → NameScope
with_names S names = record S { variables = names }

known_with_names : (K : KnownScope) (S : NameScope) (names : List Bytes) → Knows K S → Knows K (with_names S names)
known_with_names K S names k = record { outer = k.outer; types = k.types; fields = k.fields }

-- names
plain-is : (i f : Option ℕ) (at : ℕ) → place_unless (is_some i || is_some f) at ≡ unless (option_or (option_map Var i) (option_map Own f)) at
plain-is (Some i) f at = refl
plain-is None (Some f) at = refl
plain-is None None at = refl

module _ (K : KnownScope) (S : NameScope) (k : Knows K S) where
  variable-is : (names : List Bytes) (at : ℕ) (x : Bytes) → place_unless (is_some (binders_to x names) || K.fields x) at ≡ unless (plain_value (with_names S names) x) at
  variable-is names at x = ap (λ b. place_unless (is_some (binders_to x names) || b) at) (k.fields x) ∙ plain-is (binders_to x names) (own_number x S.fields) at

  type-is : (names : List Bytes) (T : TypeTree) → type_flaws K T ≡ type_faults (with_names S names) T
  type-is names T = type_flaws-are K (with_names S names) (known_with_names K S names k) T

  leaf-is : (names : List Bytes) (o p : Option ℕ) → o ≡ p → flaws_joined (record { unbound = o; repeated = None; count = None }) (leaf_flaws names) ≡ flaws_joined (record { unbound = p; repeated = None; count = None }) (leaf_flaws names)
  leaf-is names o p e = ap (λ (q : Option ℕ). flaws_joined (record { unbound = q; repeated = None; count = None }) (leaf_flaws names)) e

  unbound_leaf : (names : List Bytes) (o : Option ℕ) → flaws_joined (record { unbound = o; repeated = None; count = None }) (leaf_flaws names) ≡ three o None (leaf_flaws names).count
  unbound_leaf names o = same _ _ _ _ _ _ (least-none o) refl refl

  mutual
    pub flaws-are : (names : List Bytes) (e : Tree) → flaws K names e ≡ faults (with_names S names) e
    flaws-are names (ExInt at n) = refl
    flaws-are names (ExBool at b) = refl
    flaws-are names (ExStr at text) = refl
    flaws-are names (ExUnit at) = refl
    flaws-are names (ExExn at number) = refl
    flaws-are names (ExExnOf at number a) = flaws-are names a
    flaws-are names (ExTuple at es) = ap (flaws_joined (counts (over widest_tuple (tree_count es)))) (all-are names es)
    flaws-are names (ExNil at T) = ap (λ f. flaws_joined f (leaf_flaws names)) (type-is names T)
    flaws-are names (ExAbsent at T) = ap (λ f. flaws_joined f (leaf_flaws names)) (type-is names T)
    flaws-are names (ExPresent at a) = flaws-are names a
    flaws-are names (ExCons at a b) = both_joined _ _ _ _ (flaws-are names a) (flaws-are names b)
    flaws-are names (ExVar at x) = leaf-is names _ _ (variable-is names at x) ∙ unbound_leaf names (unless (plain_value (with_names S names) x) at)
    flaws-are names (ExOf at m x) = leaf-is names _ _ (dotted-is K S k m x) ∙ unbound_leaf names (unbound_behind (is_standard m.word || is_some (definition S m.word)) (dotted_value S m.word x.word) m x)
    flaws-are names (ExFun at x T b) = both_joined _ _ _ _ (type-is names T) (flaws-are (x.word ∷ names) b)
    flaws-are names (ExRec at f x T U b) = both_joined _ _ _ _ (type-is names T) (both_joined _ _ _ _ (type-is names U) (flaws-are (x.word ∷ f.word ∷ names) b))
    flaws-are names (ExApp at f a) = both_joined _ _ _ _ (flaws-are names f) (flaws-are names a)
    flaws-are names (ExLet at x T a b) = both_joined _ _ _ _ (type-is names T) (both_joined _ _ _ _ (flaws-are names a) (flaws-are (x.word ∷ names) b))
    flaws-are names (ExLetRec at f x T U a b) =
        both_joined _ _ _ _ (type-is names T) (both_joined _ _ _ _ (type-is names U) (both_joined _ _ _ _ (flaws-are (x.word ∷ f.word ∷ names) a) (flaws-are (f.word ∷ names) b)))
    flaws-are names (ExIf at c a b) = both_joined _ _ _ _ (flaws-are names c) (both_joined _ _ _ _ (flaws-are names a) (flaws-are names b))
    flaws-are names (ExSeq at es) = all-are names es
    flaws-are names (ExMatch at a arms) = ap (flaws_joined (counts (over most_arms (arms_written arms)))) (both_joined _ _ _ _ (flaws-are names a) (arms-are names arms))
    flaws-are names (ExTry at a arms) = ap (flaws_joined (counts (over most_arms (arms_written arms)))) (both_joined _ _ _ _ (flaws-are names a) (arms-are names arms))
    flaws-are names (ExRaise at a T) = both_joined _ _ _ _ (type-is names T) (flaws-are names a)
    flaws-are names (ExAnd at a b) = both_joined _ _ _ _ (flaws-are names a) (flaws-are names b)
    flaws-are names (ExOr at a b) = both_joined _ _ _ _ (flaws-are names a) (flaws-are names b)
    flaws-are names (ExOp at number es) = all-are names es
    flaws-are names (ExMarshal at a b T) = both_joined _ _ _ _ (type-is names T) (both_joined _ _ _ _ (flaws-are names a) (flaws-are names b))
    flaws-are names (ExUnmarshal at a T) = both_joined _ _ _ _ (type-is names T) (flaws-are names a)

    all-are : (names : List Bytes) (es : Trees) → flaws_of_all K names es ≡ faults_of_all (with_names S names) es
    all-are names no_trees = refl
    all-are names (tree e es) = both_joined _ _ _ _ (flaws-are names e) (all-are names es)

    arms-are : (names : List Bytes) (arms : ArmTrees) → flaws_of_arms K names arms ≡ faults_of_arms (with_names S names) arms
    arms-are names no_arm_trees = refl
    arms-are names (arm_tree p b arms) =
        let r = repeated_name [] (pattern_names p) in
        let B = faults (with_names S (scope_with (pattern_names p) names)) b in
        let R = faults_of_arms (with_names S names) arms in
        let P : flaws_joined (pat_flaws K p) (repeats r) ≡ three (unbound_pattern (with_names S names) p) r (large_pattern (with_names S names) p) =
        ap (λ f. flaws_joined f (repeats r)) (pat_flaws-are K (with_names S names) (known_with_names K S names k) p)
        ∙ same _ _ _ _ _ _ (least-none (unbound_pattern (with_names S names) p)) refl (least-none (large_pattern (with_names S names) p))
        in
        both_joined _ _ _ _ (both_joined _ _ _ _ P (flaws-are (scope_with (pattern_names p) names) b)) (arms-are names arms)
        ∙ joined-assoc (three (unbound_pattern (with_names S names) p) r (large_pattern (with_names S names) p)) B R
