-- What is wrong with types by what is known is what is wrong with them in the scope.
use Rattle.std.proofs.Common.{◌≡◌, ◌∙◌, ap, refl, sym, arith, ℕ, ◌+◌, min, max, Bool, true, false, Option, Some, None}
use Rattle.std.specs.Prelude.{is_some, option_map, unwrap_or}
use Rattle.ac_types.specs.Limits.{widest_tuple}
use Rattle.ac_types.specs.Types.{Typ, TUnit, node_count, height, parts_of_all, height_of_all}
use Rattle.ac_syntax.specs.Trees.{NameAt, TypeTree, TyInt, TyBool, TyStr, TyUnit, TyExn, TyLocal, TyOf, TyTuple, TyList, TyOpt, TyFun, TypeTrees, no_type_trees, type_tree}
use Rattle.ac_resolve_scopes.specs.Scopes.{NameScope, plain_type, before_dot, dotted_type}
use Rattle.ac_resolve_scopes.specs.Written.{type_in, types_in}
use Rattle.ac_resolve_scopes.specs.Searches.{least}
use Rattle.ac_resolve_scopes.specs.Unbound.{unless, unbound_behind, unbound_type, unbound_types}
use Rattle.ac_resolve_scopes.specs.Counts.{over, wide_type, wide_types, large_type, type_tree_count}
use Rattle.ac_resolve_signatures.specs.declared.flaws.Flaws.{Flaws}
use Rattle.ac_resolve_signatures.specs.declared.size.Size.{Size}
use Rattle.ac_resolve_signatures.specs.declared.types.Measured.{Measured}
use Rattle.ac_resolve_signatures.specs.Joined.{no_flaws, missing, counts, flaws_joined}
use Rattle.ac_resolve_signatures.specs.KnownScopes.{KnownScope, size_of, dotted_size}
use Rattle.ac_resolve_signatures.specs.TypeFlaws.{leaf_of, no_type, measured_around, measured_both, measured_with, measured, measured_all, written_flaws, type_flaws}
use Rattle.ac_resolve_signatures.proofs.Counted.{over-min}
use Rattle.ac_resolve_signatures.proofs.Leasts.{least-none, same, joined-none, joined-assoc}
use Rattle.ac_resolve_signatures.proofs.Sizes.{cut, cuts, leaf-cut, none-cut, around-cut, side_by_side-cut}
use Rattle.ac_resolve_signatures.proofs.Knowing.{Knows, called_definition-is, dotted_size-is}

abbrev of_both : Flaws → Size → Measured
of_both f s = record { flaws = f; size = s }

same_measured : (f g : Flaws) (s t : Size) → f ≡ g → s ≡ t → of_both f s ≡ of_both g t
same_measured f g s t p q = ap (λ h. of_both h s) p ∙ ap (of_both g) q

-- the names and the tuples of a type in a scope
abbrev names_and_tuples : NameScope → TypeTree → Flaws
names_and_tuples S t = record { unbound = unbound_type S t; repeated = None; count = wide_type t }

abbrev names_and_tuples_of_all : NameScope → TypeTrees → Flaws
names_and_tuples_of_all S ts = record { unbound = unbound_types S ts; repeated = None; count = wide_types ts }

abbrev meant : NameScope → TypeTree → Measured
meant S t = of_both (names_and_tuples S t) (size_of (type_in S t))

-- what is wrong with a type in a scope
abbrev pub type_faults : NameScope → TypeTree → Flaws
type_faults S t = record { unbound = unbound_type S t; repeated = None; count = large_type S t }

local-is : (o : Option Typ) (at : ℕ) → leaf_of (unless (option_map size_of o) at) (option_map size_of o) ≡ of_both (missing (unless o at)) (size_of (unwrap_or o TUnit))
local-is None at = ap (of_both (missing (Some at))) leaf-cut
local-is (Some T) at = refl

dotted-is : (b : Bool) (o : Option Typ) (m t : NameAt) → leaf_of (unbound_behind b (option_map size_of o) m t) (option_map size_of o) ≡ of_both (missing (unbound_behind b o m t)) (size_of (unwrap_or o TUnit))
dotted-is true None m t = ap (of_both (missing (Some t.at))) leaf-cut
dotted-is true (Some T) m t = refl
dotted-is false None m t = ap (of_both (missing (Some m.at))) leaf-cut
dotted-is false (Some T) m t = refl

around-meant : (f : Flaws) (p h : ℕ) → measured_around (of_both f (cut p h)) ≡ of_both f (cut (p + 1) (h + 1))
around-meant f p h = ap (of_both f) (around-cut p h)

module _ (K : KnownScope) (S : NameScope) (k : Knows K S) where
  mutual
    pub measured-is : (t : TypeTree) → measured K t ≡ meant S t
    measured-is (TyInt at) = ap (of_both no_flaws) leaf-cut
    measured-is (TyBool at) = ap (of_both no_flaws) leaf-cut
    measured-is (TyStr at) = ap (of_both no_flaws) leaf-cut
    measured-is (TyUnit at) = ap (of_both no_flaws) leaf-cut
    measured-is (TyExn at) = ap (of_both no_flaws) leaf-cut
    measured-is (TyLocal at t) = ap (λ o. leaf_of (unless o at) o) (k.types t) ∙ local-is (plain_type S t) at
    measured-is (TyOf at m t) =
        ap (λ b. leaf_of (unbound_behind b (dotted_size K m.word t.word) m t) (dotted_size K m.word t.word)) (called_definition-is K S k m.word)
        ∙ ap (λ o. leaf_of (unbound_behind (is_some (before_dot S m.word)) o m t) o) (dotted_size-is K S k m.word t.word)
        ∙ dotted-is (is_some (before_dot S m.word)) (dotted_type S m.word t.word) m t
    measured-is (TyTuple at ts) =
        let w = counts (over widest_tuple (type_tree_count ts)) in
        let P = parts_of_all (types_in S ts) in
        let H = height_of_all (types_in S ts) in
        let all : measured_all K no_type ts ≡ of_both (names_and_tuples_of_all S ts) (cut P H) =
        ap (λ s. measured_all K (of_both no_flaws s) ts) none-cut ∙ all-is no_flaws 0 0 ts ∙ ap (of_both (names_and_tuples_of_all S ts)) (cuts (0 + P) P (max 0 H) H (omega arith) (omega arith))
        in
        ap (λ m. measured_with w (measured_around m)) all ∙ ap (measured_with w) (around-meant (names_and_tuples_of_all S ts) P H)
    measured-is (TyList at t) = ap measured_around (measured-is t) ∙ around-meant (names_and_tuples S t) (node_count (type_in S t)) (height (type_in S t))
    measured-is (TyOpt at t) = ap measured_around (measured-is t) ∙ around-meant (names_and_tuples S t) (node_count (type_in S t)) (height (type_in S t))
    measured-is (TyFun at t u) =
        let f = flaws_joined (names_and_tuples S t) (names_and_tuples S u) in
        let T = type_in S t in
        let U = type_in S u in
        ap (λ m. measured_around (measured_both m (measured K u))) (measured-is t)
        ∙ ap (λ m. measured_around (measured_both (meant S t) m)) (measured-is u)
        ∙ ap (λ s. measured_around (of_both f s)) (side_by_side-cut (node_count T) (height T) (node_count U) (height U))
        ∙ around-meant f (node_count T + node_count U) (max (height T) (height U))

    all-is : (f : Flaws) (p h : ℕ) (ts : TypeTrees) → measured_all K (of_both f (cut p h)) ts ≡ of_both (flaws_joined f (names_and_tuples_of_all S ts)) (cut (p + parts_of_all (types_in S ts)) (max h (height_of_all (types_in S ts))))
    all-is f p h no_type_trees = same_measured f (flaws_joined f no_flaws) (cut p h) (cut (p + 0) (max h 0)) (sym (joined-none f)) (cuts p (p + 0) h (max h 0) (omega arith) (omega arith))
    all-is f p h (type_tree t ts) =
        let T = type_in S t in
        let P = parts_of_all (types_in S ts) in
        let H = height_of_all (types_in S ts) in
        ap (λ m. measured_all K (measured_both (of_both f (cut p h)) m) ts) (measured-is t)
        ∙ ap (λ s. measured_all K (of_both (flaws_joined f (names_and_tuples S t)) s) ts) (side_by_side-cut p h (node_count T) (height T))
        ∙ all-is (flaws_joined f (names_and_tuples S t)) (p + node_count T) (max h (height T)) ts
        ∙ ap (λ g. of_both g (cut (p + node_count T + P) (max (max h (height T)) H))) (joined-assoc f (names_and_tuples S t) (names_and_tuples_of_all S ts))
        ∙ ap (of_both (flaws_joined f (names_and_tuples_of_all S (type_tree t ts)))) (cuts (p + node_count T + P) (p + (node_count T + P)) (max (max h (height T)) H) (max h (max (height T) H)) (omega arith) (omega arith))

  -- a type where it is written
  pub type_flaws-are : (t : TypeTree) → type_flaws K t ≡ type_faults S t
  type_flaws-are t =
      ap written_flaws (measured-is t)
      ∙ same _ _ _ _ _ _ (least-none (unbound_type S t)) refl
      (ap (λ o. least (wide_type t) (least o (over 4096 (min (node_count (type_in S t)) 4097)))) (over-min 100 (height (type_in S t))) ∙ ap (λ o. least (wide_type t) (least (over 100 (height (type_in S t))) o)) (over-min 4096 (node_count (type_in S t))))
