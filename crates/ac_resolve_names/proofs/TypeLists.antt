-- Lists of types that are sealed, or written out.
use Rattle.std.proofs.Common.{◌≡◌, ◌∙◌, ap, refl, ℕ, List, [], ◌∷◌, map, length, take}
use Rattle.ac_types.specs.Types.{Bytes, Typ, TTuple, TFun, TAbs, with_mine, all_with_mine, typs, typ}
use Rattle.ac_types.specs.ReadTypes.{typ_of, typ_layer}
use Rattle.ac_types.specs.declared.ty.Ty.{Ty, map-Ty}
use Rattle.ac_types.specs.declared.ty.Ty.TheVariants as variants
use Rattle.ac_types.proofs.SizeLaws.{typ_out, typ_of-Tuple}
use Rattle.ac_syntax.specs.declared.surface.SType.{SType}
use Rattle.ac_syntax.specs.declared.surface.SName.{SName}
use Rattle.ac_syntax.specs.declared.surface.STypeKind.{Of}
use Rattle.ac_syntax.specs.declared.surface.STypeKind.TheViews.{out-SType}
use Rattle.ac_syntax.specs.declared.surface.STypeKind.TheVariants as kinds
use Rattle.ac_syntax.specs.Trees.{TyOf, type_trees}
use Rattle.ac_syntax.specs.ReadTrees.{name_of, type_tree_of, type_kind_of, type_kind_layer}
use Rattle.ac_syntax.proofs.TypeLaws.{type_out, type_kind_out, read_type_kind}
use Rattle.ac_resolve_scopes.specs.Scopes.{NameScope}
use Rattle.ac_resolve_scopes.specs.Written.{type_in, types_in}
use Rattle.ac_types.proofs.Loops.{built_all}

-- the parts of a type that is sealed
pub sealed_function : (name : Bytes) (t from to : Ty) → t ≡ variants.Fun from to → with_mine (TAbs name) (typ_of t) ≡ TFun (with_mine (TAbs name) (typ_of from)) (with_mine (TAbs name) (typ_of to))
sealed_function name t from to e = ap (λ x. with_mine (TAbs name) (typ_of x)) e ∙ ap (with_mine (TAbs name)) (typ_out (variants.Fun from to) ∙ ap (λ x. typ_layer (map-Ty Ty Typ typ_of x)) (variants.outs-Fun from to))

pub sealed_tuple : (name : Bytes) (t : Ty) (ts : List Ty) → t ≡ variants.Tuple ts → with_mine (TAbs name) (typ_of t) ≡ TTuple (all_with_mine (TAbs name) (typs (map typ_of ts)))
sealed_tuple name t ts e = ap (λ x. with_mine (TAbs name) (typ_of x)) e ∙ ap (with_mine (TAbs name)) (typ_of-Tuple ts)

-- a name behind a dot, read
pub written_of : (e : SType) (m x : SName) → (out-SType e).kind ≡ Of m x → type_tree_of e ≡ TyOf (out-SType e).at (name_of m) (name_of x)
written_of e m x h =
    type_out e ∙ ap (λ k. type_kind_of k (out-SType e).at) h ∙ ap (λ f. f (out-SType e).at) (type_kind_out (Of m x))
    ∙ ap (λ k. type_kind_layer (read_type_kind k) (out-SType e).at) (kinds.outs-Of m x)

abbrev pub sealed_type : Bytes → Ty → Typ
sealed_type name t = with_mine (TAbs name) (typ_of t)

types_sealed : (name : Bytes) (ts : List Ty) → typs (map (sealed_type name) ts) ≡ all_with_mine (TAbs name) (typs (map typ_of ts))
types_sealed name [] = refl
types_sealed name (t ∷ ts) = ap (typ (sealed_type name t)) (types_sealed name ts)

pub all_sealed : (name : Bytes) (made : List Ty) (i : ℕ) (ts : List Ty) → i ≡ length ts → map typ_of made ≡ map (sealed_type name) (take i ts) → typs (map typ_of made) ≡ all_with_mine (TAbs name) (typs (map typ_of ts))
all_sealed name made i ts e so = ap typs (built_all typ_of (sealed_type name) made i ts e so) ∙ types_sealed name ts

abbrev pub type_made : NameScope → SType → Typ
type_made S t = type_in S (type_tree_of t)

types_made : (S : NameScope) (ts : List SType) → typs (map (type_made S) ts) ≡ types_in S (type_trees (map type_tree_of ts))
types_made S [] = refl
types_made S (t ∷ ts) = ap (typ (type_made S t)) (types_made S ts)

pub all_types : (S : NameScope) (made : List Ty) (i : ℕ) (ts : List SType) → i ≡ length ts → map typ_of made ≡ map (type_made S) (take i ts) → typs (map typ_of made) ≡ types_in S (type_trees (map type_tree_of ts))
all_types S made i ts e so = ap typs (built_all typ_of (type_made S) made i ts e so) ∙ types_made S ts
