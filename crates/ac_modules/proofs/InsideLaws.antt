-- A type of a struct beside one of its signature, by what the two are at the top.
use Rattle.std.proofs.Common.{◌≡◌, refl, sym, ap, ap₂, ◌∙◌, Bool, false, List}
use Rattle.ac_types.specs.Types.{Typ, TTuple, TList, TOpt, TFun, Typs, same}
use Rattle.ac_types.specs.ReadTypes.{typ_of, typ_layer}
use Rattle.ac_types.specs.declared.ty.Ty.{Ty, out-Ty, roll-Ty, map-Ty}
use Rattle.ac_types.specs.declared.ty.Ty.TheViews.{roll-out-Ty}
use Rattle.ac_types.specs.declared.ty.Ty.TheOpen.{Ty-F}
use Rattle.ac_types.specs.declared.ty.Ty.TheVariants as ty
use Rattle.ac_types.proofs.SizeLaws.{typ_out}
use Rattle.ac_types.proofs.TypeReading.{back, backs, typ_back}
use Rattle.ac_terms.specs.Defs.{Module}
use Rattle.ac_rules.specs.Modules.{inside_struct}

abbrev layer : Ty-F Ty → Typ
layer x = typ_layer (map-Ty Ty Typ typ_of x)

pub read_as : (t u : Ty) (x : Ty-F Ty) → t ≡ u → out-Ty u ≡ x → typ_of t ≡ layer x
read_as t u x is e = ap typ_of is ∙ typ_out u ∙ ap layer e

pub alike : (m : Module) (t u : Ty) (T U : Typ) (r : Bool) → typ_of t ≡ T → typ_of u ≡ U → r ≡ same T (inside_struct m U) → r ≡ same (typ_of t) (inside_struct m (typ_of u))
alike m t u T U r d e h = h ∙ ap₂ (λ A B. same A (inside_struct m B)) (sym d) (sym e)

-- a type that is no tuple, no list, no option or no function is like none
module _ (t : Ty) where
  found : (T : Typ) (u : Ty) → typ_of t ≡ T → back T ≡ roll-Ty (out-Ty u) → t ≡ u
  found T u e is = sym (typ_back t) ∙ ap back e ∙ is ∙ roll-out-Ty u

  pub no_tuple : (Us : Typs) → ((ts : List Ty) → t ≡ ty.Tuple ts → ⊥) → false ≡ same (typ_of t) (TTuple Us)
  no_tuple Us other = by (typ_of t) refl
    where
      by : (T : Typ) → typ_of t ≡ T → false ≡ same T (TTuple Us)
      by (TTuple Ts) e = absurd (other (backs Ts) (found (TTuple Ts) (ty.Tuple (backs Ts)) e (ap roll-Ty (sym (ty.outs-Tuple (backs Ts))))))
      by T e = refl

  pub no_list : (U : Typ) → ((u : Ty) → t ≡ ty.List u → ⊥) → false ≡ same (typ_of t) (TList U)
  no_list U other = by (typ_of t) refl
    where
      by : (T : Typ) → typ_of t ≡ T → false ≡ same T (TList U)
      by (TList T) e = absurd (other (back T) (found (TList T) (ty.List (back T)) e (ap roll-Ty (sym (ty.outs-List (back T))))))
      by T e = refl

  pub no_option : (U : Typ) → ((u : Ty) → t ≡ ty.Opt u → ⊥) → false ≡ same (typ_of t) (TOpt U)
  no_option U other = by (typ_of t) refl
    where
      by : (T : Typ) → typ_of t ≡ T → false ≡ same T (TOpt U)
      by (TOpt T) e = absurd (other (back T) (found (TOpt T) (ty.Opt (back T)) e (ap roll-Ty (sym (ty.outs-Opt (back T))))))
      by T e = refl

  pub no_function : (U V : Typ) → ((u v : Ty) → t ≡ ty.Fun u v → ⊥) → false ≡ same (typ_of t) (TFun U V)
  no_function U V other = by (typ_of t) refl
    where
      by : (T : Typ) → typ_of t ≡ T → false ≡ same T (TFun U V)
      by (TFun A B) e = absurd (other (back A) (back B) (found (TFun A B) (ty.Fun (back A) (back B)) e (ap roll-Ty (sym (ty.outs-Fun (back A) (back B))))))
      by T e = refl
