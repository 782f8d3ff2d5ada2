-- The equations of the reading of types: one for all layers, and one for the form that holds a list.
use Rattle.std.proofs.Common.{◌≡◌, ◌∙◌, ap, ℕ, List, map, arith}
use Rattle.ac_syntax.specs.declared.surface.SName.{SName}
use Rattle.ac_syntax.specs.declared.surface.SType.{SType}
use Rattle.ac_syntax.specs.declared.surface.STypeKind.{STypeKind, Local, Of, Tuple}
use Rattle.ac_syntax.specs.declared.surface.STypeKind.TheOpen.{STypeKind-F, SType-F}
use Rattle.ac_syntax.specs.declared.surface.STypeKind.TheFolds.{map-SType, map-STypeKind, fold_out-SType, fold_out-STypeKind, fold-roll-SType}
use Rattle.ac_syntax.specs.declared.surface.STypeKind.TheViews.{out-SType, out-STypeKind, roll-SType, the_lemmas}
use Rattle.ac_syntax.specs.declared.surface.STypeKind.TheVariants as variants
use Rattle.ac_syntax.specs.Trees.{TypeTree, TyLocal, TyOf, TyTuple, type_trees}
use Rattle.ac_syntax.specs.ReadTrees.{name_of, type_tree_of, type_kind_of, type_kind_layer, type_layer}

-- one layer, read
abbrev pub read_type : SType-F STypeKind SType → SType-F (ℕ → TypeTree) TypeTree
read_type = map-SType STypeKind SType (ℕ → TypeTree) TypeTree type_kind_of type_tree_of

abbrev pub read_type_kind : STypeKind-F STypeKind SType → STypeKind-F (ℕ → TypeTree) TypeTree
read_type_kind = map-STypeKind STypeKind SType (ℕ → TypeTree) TypeTree type_kind_of type_tree_of

pub type_out : (t : SType) → type_tree_of t ≡ type_layer (read_type (out-SType t))
unfolding type_tree_of type_kind_of
type_out t = fold_out-SType (ℕ → TypeTree) TypeTree type_kind_layer type_layer t

pub type_kind_out : (k : STypeKind) → type_kind_of k ≡ type_kind_layer (read_type_kind (out-STypeKind k))
unfolding type_tree_of type_kind_of
type_kind_out k = fold_out-STypeKind (ℕ → TypeTree) TypeTree type_kind_layer type_layer k

pub type_kind_of-Tuple : (ts : List SType) (at : ℕ) → type_kind_of (Tuple ts) at ≡ TyTuple at (type_trees (map type_tree_of ts))
type_kind_of-Tuple ts at = ap (λ f. f at) (type_kind_out (Tuple ts) ∙ ap (λ x. type_kind_layer (read_type_kind x)) (variants.outs-Tuple ts))

pub ruleset type_laws = (type_out, type_kind_out, type_kind_of-Tuple, the_lemmas)

-- a type that the code makes
pub type_of-kind : (at : ℕ) (k : STypeKind) → type_tree_of (roll-SType (record { at = at; kind = k })) ≡ type_kind_of k at
unfolding type_tree_of type_kind_of
type_of-kind at k = fold-roll-SType (ℕ → TypeTree) TypeTree type_kind_layer type_layer (record { at = at; kind = k })

pub type_of-Local : (at : ℕ) (w : List ℕ) → type_tree_of (roll-SType (record { at = at; kind = Local w })) ≡ TyLocal at w
type_of-Local at w = type_of-kind at (Local w) ∙ grind (arith, type_laws)

pub type_of-Of : (at : ℕ) (m x : SName) → type_tree_of (roll-SType (record { at = at; kind = Of m x })) ≡ TyOf at (name_of m) (name_of x)
type_of-Of at m x = type_of-kind at (Of m x) ∙ grind (arith, type_laws)

pub type_of-Tuple : (at : ℕ) (ts : List SType) → type_tree_of (roll-SType (record { at = at; kind = Tuple ts })) ≡ TyTuple at (type_trees (map type_tree_of ts))
type_of-Tuple at ts = type_of-kind at (Tuple ts) ∙ type_kind_of-Tuple ts at
