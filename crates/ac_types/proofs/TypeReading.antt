-- The reading of types loses nothing: a type is found again from what it is read as.
use Rattle.std.proofs.Common.{◌≡◌, refl, sym, ap, ◌∙◌, subst, List, [], ◌∷◌, map}
use mathlib.Core.Path.{ap₂}
use Rattle.ac_types.specs.Types.{Typ, TInt, TBool, TStr, TUnit, TExn, TTuple, TList, TOpt, TFun, TAbs, TMine, Typs, no_types, typ, typs}
use Rattle.ac_types.specs.ReadTypes.{typ_of, typ_layer}
use Rattle.ac_types.specs.declared.ty.Ty.{Ty, ind-Ty, roll-Ty, map-Ty, fold-roll-Ty}
use Rattle.ac_types.specs.declared.ty.Ty.TheOpen.{Ty-F, Int, Bool, Str, Unit, Exn, Tuple, List as ListOf, Opt, Fun, Abs, Mine}

-- the type that is read as this one
abbrev mutual
  pub back : Typ → Ty
  back TInt = roll-Ty Int
  back TBool = roll-Ty Bool
  back TStr = roll-Ty Str
  back TUnit = roll-Ty Unit
  back TExn = roll-Ty Exn
  back (TTuple Ts) = roll-Ty (Tuple (backs Ts))
  back (TList T) = roll-Ty (ListOf (back T))
  back (TOpt T) = roll-Ty (Opt (back T))
  back (TFun T U) = roll-Ty (Fun (back T) (back U))
  back (TAbs n t) = roll-Ty (Abs (record { 0 = n }) t)
  back (TMine t) = roll-Ty (Mine t)

  pub backs : Typs → List Ty
  backs no_types = []
  backs (typ T Ts) = back T ∷ backs Ts

-- a type with the fact of it
abbrev Shown : Type 0
Shown = (t : Ty) × (back (typ_of t) ≡ t)

of_list : (es : List Shown) → backs (typs (map typ_of (map (λ (e : Shown). e.0) es))) ≡ map (λ (e : Shown). e.0) es
of_list [] = refl
of_list (e ∷ es) = ap₂ (λ x xs. x ∷ xs) e.1 (of_list es)

of_layer : (y : Ty-F Shown) → back (typ_layer (map-Ty Ty Typ typ_of (map-Ty Shown Ty (λ e. e.0) y))) ≡ roll-Ty (map-Ty Shown Ty (λ e. e.0) y)
of_layer Int = refl
of_layer Bool = refl
of_layer Str = refl
of_layer Unit = refl
of_layer Exn = refl
of_layer (Tuple es) = ap (λ ts. roll-Ty (Tuple ts)) (of_list es)
of_layer (ListOf e) = ap (λ t. roll-Ty (ListOf t)) e.1
of_layer (Opt e) = ap (λ t. roll-Ty (Opt t)) e.1
of_layer (Fun a b) = ap₂ (λ t u. roll-Ty (Fun t u)) a.1 b.1
of_layer (Abs n t) = refl
of_layer (Mine t) = refl

pub typ_back : (t : Ty) → back (typ_of t) ≡ t
unfolding typ_of
typ_back = ind-Ty (λ t. back (typ_of t) ≡ t) (λ x y is.
    ap back (fold-roll-Ty Typ typ_layer x) ∙
    subst (λ (z : Ty-F Ty). back (typ_layer (map-Ty Ty Typ typ_of z)) ≡ roll-Ty z) is (of_layer y))

-- two types that are read as one are equal
pub typ_of-injective : (a b : Ty) → typ_of a ≡ typ_of b → a ≡ b
typ_of-injective a b e = sym (typ_back a) ∙ ap back e ∙ typ_back b
