-- The reading of each form of types.
use Rattle.std.proofs.Common.{◌≡◌, ◌∙◌, ap, refl, ℕ, suc, List, [], ◌∷◌, map, length}
use Rattle.ac_types.specs.Types.{Typ, TInt, TBool, TStr, TUnit, TExn, TTuple, TList, TOpt, TFun, TAbs, TMine, typs}
use Rattle.ac_types.specs.ReadTypes.{typ_of, typ_layer}
use Rattle.ac_types.specs.declared.text.Name.{Name}
use Rattle.ac_types.specs.declared.ty.Ty.{Ty, map-Ty}
use Rattle.ac_types.specs.declared.ty.Ty.TheOpen.{Ty-F}
use Rattle.ac_types.specs.declared.ty.Ty.TheVariants as ty
use Rattle.ac_types.proofs.SizeLaws.{typ_out}
use Rattle.ac_terms.specs.Spelling.{type_count}
use Rattle.ac_canon.proofs.Joins.{joins}

abbrev layer : Ty-F Ty → Typ
layer x = typ_layer (map-Ty Ty Typ typ_of x)

pub typ_of-Int : typ_of ty.Int ≡ TInt
typ_of-Int = typ_out ty.Int ∙ ap layer ty.outs-Int

pub typ_of-Bool : typ_of ty.Bool ≡ TBool
typ_of-Bool = typ_out ty.Bool ∙ ap layer ty.outs-Bool

pub typ_of-Str : typ_of ty.Str ≡ TStr
typ_of-Str = typ_out ty.Str ∙ ap layer ty.outs-Str

pub typ_of-Unit : typ_of ty.Unit ≡ TUnit
typ_of-Unit = typ_out ty.Unit ∙ ap layer ty.outs-Unit

pub typ_of-Exn : typ_of ty.Exn ≡ TExn
typ_of-Exn = typ_out ty.Exn ∙ ap layer ty.outs-Exn

pub typ_of-Tuple : (ts : List Ty) → typ_of (ty.Tuple ts) ≡ TTuple (typs (map typ_of ts))
typ_of-Tuple ts = typ_out (ty.Tuple ts) ∙ ap layer (ty.outs-Tuple ts)

pub typ_of-List : (t : Ty) → typ_of (ty.List t) ≡ TList (typ_of t)
typ_of-List t = typ_out (ty.List t) ∙ ap layer (ty.outs-List t)

pub typ_of-Opt : (t : Ty) → typ_of (ty.Opt t) ≡ TOpt (typ_of t)
typ_of-Opt t = typ_out (ty.Opt t) ∙ ap layer (ty.outs-Opt t)

pub typ_of-Fun : (t u : Ty) → typ_of (ty.Fun t u) ≡ TFun (typ_of t) (typ_of u)
typ_of-Fun t u = typ_out (ty.Fun t u) ∙ ap layer (ty.outs-Fun t u)

pub typ_of-Abs : (n : Name) (t : List ℕ) → typ_of (ty.Abs n t) ≡ TAbs n.0 t
typ_of-Abs n t = typ_out (ty.Abs n t) ∙ ap layer (ty.outs-Abs n t)

pub typ_of-Mine : (t : List ℕ) → typ_of (ty.Mine t) ≡ TMine t
typ_of-Mine t = typ_out (ty.Mine t) ∙ ap layer (ty.outs-Mine t)

pub count_types : (ts : List Ty) → type_count (typs (map typ_of ts)) ≡ length ts
count_types [] = refl
count_types (t ∷ ts) = ap suc (count_types ts)

pub ruleset type_laws = (typ_of-Int, typ_of-Bool, typ_of-Str, typ_of-Unit, typ_of-Exn, typ_of-Tuple, typ_of-List, typ_of-Opt, typ_of-Fun, typ_of-Abs, typ_of-Mine, count_types, joins)
