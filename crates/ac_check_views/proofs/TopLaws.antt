-- What a type that isn't of a form is at the top.
use Rattle.std.proofs.Common.{◌≡◌, refl, sym, ap, ◌∙◌, List, None}
use Rattle.ac_types.specs.Types.{Bytes, Typ, TTuple, TList, TOpt, TFun, TAbs}
use Rattle.ac_types.specs.ReadTypes.{typ_of}
use Rattle.ac_types.specs.declared.text.Name.{Name}
use Rattle.ac_types.specs.declared.ty.Ty.{Ty, out-Ty, roll-Ty}
use Rattle.ac_types.specs.declared.ty.Ty.TheViews.{roll-out-Ty}
use Rattle.ac_types.specs.declared.ty.Ty.TheVariants as ty
use Rattle.ac_types.proofs.TypeReading.{back, backs, typ_back}
use Rattle.ac_terms.specs.Defs.{Environment}
use Rattle.ac_rules.specs.Views.{unsealed}
use Rattle.ac_rules.specs.Typing.{list_item, option_item, tuple_parts}
use Rattle.ac_check_views.specs.Sites.{ends_of}

module _ (t : Ty) where
  found : (T : Typ) (u : Ty) → typ_of t ≡ T → back T ≡ roll-Ty (out-Ty u) → t ≡ u
  found T u e is = sym (typ_back t) ∙ ap back e ∙ is ∙ roll-out-Ty u

  pub no_tuple : ((ts : List Ty) → t ≡ ty.Tuple ts → ⊥) → None ≡ tuple_parts (typ_of t)
  no_tuple other = by (typ_of t) refl
    where
      by : (T : Typ) → typ_of t ≡ T → None ≡ tuple_parts T
      by (TTuple Ts) e = absurd (other (backs Ts) (found (TTuple Ts) (ty.Tuple (backs Ts)) e (ap roll-Ty (sym (ty.outs-Tuple (backs Ts))))))
      by T e = refl

  pub no_list : ((u : Ty) → t ≡ ty.List u → ⊥) → None ≡ list_item (typ_of t)
  no_list other = by (typ_of t) refl
    where
      by : (T : Typ) → typ_of t ≡ T → None ≡ list_item T
      by (TList T) e = absurd (other (back T) (found (TList T) (ty.List (back T)) e (ap roll-Ty (sym (ty.outs-List (back T))))))
      by T e = refl

  pub no_option : ((u : Ty) → t ≡ ty.Opt u → ⊥) → None ≡ option_item (typ_of t)
  no_option other = by (typ_of t) refl
    where
      by : (T : Typ) → typ_of t ≡ T → None ≡ option_item T
      by (TOpt T) e = absurd (other (back T) (found (TOpt T) (ty.Opt (back T)) e (ap roll-Ty (sym (ty.outs-Opt (back T))))))
      by T e = refl

  pub no_function : ((u v : Ty) → t ≡ ty.Fun u v → ⊥) → None ≡ ends_of (typ_of t)
  no_function other = by (typ_of t) refl
    where
      by : (T : Typ) → typ_of t ≡ T → None ≡ ends_of T
      by (TFun T U) e = absurd (other (back T) (back U) (found (TFun T U) (ty.Fun (back T) (back U)) e (ap roll-Ty (sym (ty.outs-Fun (back T) (back U))))))
      by T e = refl

  pub not_sealed : (E : Environment) → ((n : Name) (w : Bytes) → t ≡ ty.Abs n w → ⊥) → typ_of t ≡ unsealed E (typ_of t)
  not_sealed E other = by (typ_of t) refl
    where
      by : (T : Typ) → typ_of t ≡ T → T ≡ unsealed E T
      by (TAbs n w) e = absurd (other (record { 0 = n }) w (found (TAbs n w) (ty.Abs (record { 0 = n }) w) e (ap roll-Ty (sym (ty.outs-Abs (record { 0 = n }) w)))))
      by T e = refl
