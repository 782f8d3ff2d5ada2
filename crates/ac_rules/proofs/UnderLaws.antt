-- The equality of a type with one of an import's signature, form by form.
use Rattle.std.proofs.Common.{◌≡◌, refl, sym, ap, ◌∙◌, Bool, true, false, ◌&&◌, List, map}
use mathlib.Core.Path.{ap₂}
use Rattle.ac_types.specs.Types.{Bytes, Typ, TTuple, TList, TOpt, TFun, Typs, typs, same, same_all, with_mine, all_with_mine}
use Rattle.ac_types.specs.ReadTypes.{typ_of, typ_layer}
use Rattle.ac_types.specs.declared.ty.Ty.{Ty, out-Ty, roll-Ty, roll-out-Ty, map-Ty}
use Rattle.ac_types.specs.declared.ty.Ty.TheOpen as code_ty
use Rattle.ac_types.specs.declared.ty.Ty.TheVariants.{Tuple, List as ListOf, Opt, Fun, Mine, outs-List, outs-Opt, rolls-Tuple, rolls-List, rolls-Opt, rolls-Fun, rolls-Mine}
use Rattle.ac_types.proofs.SizeLaws.{typ_out, typ_of-Tuple, typ_of-Fun}

abbrev layer : code_ty.Ty-F Ty → Typ
layer y = typ_layer (map-Ty Ty Typ typ_of y)

-- what a type is read as, by its form
pub reads_tuple : {t : Ty} {ts us : List Ty} → t ≡ Tuple ts → us ≡ ts → typ_of t ≡ TTuple (typs (map typ_of us))
reads_tuple {ts = ts} p q = ap typ_of p ∙ typ_of-Tuple ts ∙ ap (λ x. TTuple (typs (map typ_of x))) (sym q)

pub reads_list : {t x u : Ty} → t ≡ ListOf x → u ≡ x → typ_of t ≡ TList (typ_of u)
reads_list {x = x} p q = ap typ_of p ∙ typ_out (ListOf x) ∙ ap layer (outs-List x) ∙ ap (λ y. TList (typ_of y)) (sym q)

pub reads_option : {t x u : Ty} → t ≡ Opt x → u ≡ x → typ_of t ≡ TOpt (typ_of u)
reads_option {x = x} p q = ap typ_of p ∙ typ_out (Opt x) ∙ ap layer (outs-Opt x) ∙ ap (λ y. TOpt (typ_of y)) (sym q)

pub reads_function : {t x y u v : Ty} → t ≡ Fun x y → u ≡ x → v ≡ y → typ_of t ≡ TFun (typ_of u) (typ_of v)
reads_function {x = x} {y = y} p q r = ap typ_of p ∙ typ_of-Fun x y ∙ ap₂ (λ z w. TFun (typ_of z) (typ_of w)) (sym q) (sym r)

module _ (t : Ty) where
  rolled : (y : code_ty.Ty-F Ty) → out-Ty t ≡ y → t ≡ roll-Ty y
  rolled y e = sym (roll-out-Ty t) ∙ ap roll-Ty e

  -- what is no tuple equals none, and so with the other forms
  module _ (U : Typ) (differs : (y : code_ty.Ty-F Ty) → out-Ty t ≡ y → same (layer y) U ≡ false) where
    no_form : false ≡ same (typ_of t) U
    no_form = sym (ap (λ T. same T U) (typ_out t) ∙ differs (out-Ty t) refl)

  pub no_tuple : ((ts : List Ty) → t ≡ Tuple ts → ⊥) → (Us : Typs) → false ≡ same (typ_of t) (TTuple Us)
  no_tuple never Us = no_form (TTuple Us) differs
    where
      differs : (y : code_ty.Ty-F Ty) → out-Ty t ≡ y → same (layer y) (TTuple Us) ≡ false
      differs (code_ty.Tuple ts) e = absurd (never ts (rolled (code_ty.Tuple ts) e ∙ rolls-Tuple ts))
      differs y e = refl

  pub no_list : ((u : Ty) → t ≡ ListOf u → ⊥) → (U : Typ) → false ≡ same (typ_of t) (TList U)
  no_list never U = no_form (TList U) differs
    where
      differs : (y : code_ty.Ty-F Ty) → out-Ty t ≡ y → same (layer y) (TList U) ≡ false
      differs (code_ty.List u) e = absurd (never u (rolled (code_ty.List u) e ∙ rolls-List u))
      differs y e = refl

  pub no_option : ((u : Ty) → t ≡ Opt u → ⊥) → (U : Typ) → false ≡ same (typ_of t) (TOpt U)
  no_option never U = no_form (TOpt U) differs
    where
      differs : (y : code_ty.Ty-F Ty) → out-Ty t ≡ y → same (layer y) (TOpt U) ≡ false
      differs (code_ty.Opt u) e = absurd (never u (rolled (code_ty.Opt u) e ∙ rolls-Opt u))
      differs y e = refl

  pub no_function : ((u v : Ty) → t ≡ Fun u v → ⊥) → (U V : Typ) → false ≡ same (typ_of t) (TFun U V)
  no_function never U V = no_form (TFun U V) differs
    where
      differs : (y : code_ty.Ty-F Ty) → out-Ty t ≡ y → same (layer y) (TFun U V) ≡ false
      differs (code_ty.Fun u v) e = absurd (never u v (rolled (code_ty.Fun u v) e ∙ rolls-Fun u v))
      differs y e = refl

  -- a type without parts that is no own abstract type stays as it is
  pub kept : (f : Bytes → Typ) → ((w : Bytes) → t ≡ Mine w → ⊥) → ((ts : List Ty) → t ≡ Tuple ts → ⊥) → ((u : Ty) → t ≡ ListOf u → ⊥)
      → ((u : Ty) → t ≡ Opt u → ⊥) → ((u v : Ty) → t ≡ Fun u v → ⊥) → typ_of t ≡ with_mine f (typ_of t)
  kept f mine tuple list option function = typ_out t ∙ sym (stays (out-Ty t) refl) ∙ ap (with_mine f) (sym (typ_out t))
    where
      stays : (y : code_ty.Ty-F Ty) → out-Ty t ≡ y → with_mine f (layer y) ≡ layer y
      stays (code_ty.Mine w) e = absurd (mine w (rolled (code_ty.Mine w) e ∙ rolls-Mine w))
      stays (code_ty.Tuple ts) e = absurd (tuple ts (rolled (code_ty.Tuple ts) e ∙ rolls-Tuple ts))
      stays (code_ty.List u) e = absurd (list u (rolled (code_ty.List u) e ∙ rolls-List u))
      stays (code_ty.Opt u) e = absurd (option u (rolled (code_ty.Opt u) e ∙ rolls-Opt u))
      stays (code_ty.Fun u v) e = absurd (function u v (rolled (code_ty.Fun u v) e ∙ rolls-Fun u v))
      stays y e = refl

-- the test at two types of one form is that of their parts
module _ (f : Bytes → Typ) {T U : Typ} where
  pub at_forms : {S R : Typ} {r : Bool} → T ≡ S → U ≡ R → r ≡ same S (with_mine f R) → r ≡ same T (with_mine f U)
  at_forms p q e = e ∙ ap₂ (λ x y. same x (with_mine f y)) (sym p) (sym q)

  pub of_tuples : (Ss Rs : Typs) {r : Bool} → T ≡ TTuple Ss → U ≡ TTuple Rs → r ≡ same_all Ss (all_with_mine f Rs) → r ≡ same T (with_mine f U)
  of_tuples Ss Rs p q e = at_forms p q e

  pub of_lists : (S R : Typ) {r : Bool} → T ≡ TList S → U ≡ TList R → r ≡ same S (with_mine f R) → r ≡ same T (with_mine f U)
  of_lists S R p q e = at_forms p q e

  pub of_options : (S R : Typ) {r : Bool} → T ≡ TOpt S → U ≡ TOpt R → r ≡ same S (with_mine f R) → r ≡ same T (with_mine f U)
  of_options S R p q e = at_forms p q e

  pub of_functions : (S R V W : Typ) {r s : Bool} → T ≡ TFun S V → U ≡ TFun R W → r ≡ true → r ≡ same S (with_mine f R) → s ≡ same V (with_mine f W) → s ≡ same T (with_mine f U)
  of_functions S R V W p q holds e h = at_forms p q (h ∙ ap (λ b. b && same V (with_mine f W)) (sym holds ∙ e))

  pub of_unlike : (S R V W : Typ) {r : Bool} → T ≡ TFun S V → U ≡ TFun R W → r ≡ false → r ≡ same S (with_mine f R) → r ≡ same T (with_mine f U)
  of_unlike S R V W p q fails e = at_forms p q (fails ∙ ap (λ b. b && same V (with_mine f W)) (sym fails ∙ e))
