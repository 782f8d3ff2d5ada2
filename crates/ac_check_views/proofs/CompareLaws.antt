-- A type as a home sees it, compared with another: by what the two are at the top.
use Rattle.std.proofs.Common.{◌≡◌, refl, sym, ap, ◌∙◌, Bool, false, ◌&&◌, List, Option, Some, None}
use Rattle.ac_types.specs.Types.{Bytes, Typ, TTuple, TList, TOpt, TFun, Typs, same, same_all, with_each, all_with_each}
use Rattle.ac_types.specs.ReadTypes.{typ_of}
use Rattle.ac_types.specs.declared.ty.Ty.{Ty}
use Rattle.ac_types.specs.declared.ty.Ty.TheVariants as ty
use Rattle.ac_rules.specs.Typing.{list_item, option_item, tuple_parts}
use Rattle.ac_check_views.specs.Sites.{typs_of, ends_of}
use Rattle.ac_check_views.proofs.ReadAs.{read_as}

module _ (f : Bytes → Bytes → Typ) where
  abbrev in_parts : Typs → Option Typs → Bool
  in_parts Ts o = elim o [ None ↦ false | Some Us ↦ same_all (all_with_each f Ts) Us ]

  abbrev in_item : Typ → Option Typ → Bool
  in_item T o = elim o [ None ↦ false | Some U ↦ same (with_each f T) U ]

  abbrev in_ends : Typ → Typ → Option (Typ × Typ) → Bool
  in_ends T U o = elim o [ None ↦ false | Some p ↦ same (with_each f T) p.0 && same (with_each f U) p.1 ]

  parts_alike : (Ts : Typs) (U : Typ) → in_parts Ts (tuple_parts U) ≡ same (with_each f (TTuple Ts)) U
  parts_alike Ts (TTuple Us) = refl
  parts_alike Ts U = refl

  items_alike : (T U : Typ) → in_item T (list_item U) ≡ same (with_each f (TList T)) U
  items_alike T (TList V) = refl
  items_alike T U = refl

  options_alike : (T U : Typ) → in_item T (option_item U) ≡ same (with_each f (TOpt T)) U
  options_alike T (TOpt V) = refl
  options_alike T U = refl

  ends_alike : (T U V : Typ) → in_ends T U (ends_of V) ≡ same (with_each f (TFun T U)) V
  ends_alike T U (TFun A B) = refl
  ends_alike T U V = refl

  module _ (t : Ty) (U : Typ) where
    pub compared : (T : Typ) (r : Bool) → typ_of t ≡ T → r ≡ same (with_each f T) U → r ≡ same (with_each f (typ_of t)) U
    compared T r e h = h ∙ ap (λ X. same (with_each f X) U) (sym e)

    pub tuples : (ts : List Ty) (o : Option Typs) → t ≡ ty.Tuple ts → o ≡ tuple_parts U → in_parts (typs_of ts) o ≡ same (with_each f (typ_of t)) U
    tuples ts o is e = compared _ _ (read_as t _ _ is (ty.outs-Tuple ts)) (ap (in_parts (typs_of ts)) e ∙ parts_alike (typs_of ts) U)

    pub lists : (u : Ty) (o : Option Typ) → t ≡ ty.List u → o ≡ list_item U → in_item (typ_of u) o ≡ same (with_each f (typ_of t)) U
    lists u o is e = compared _ _ (read_as t _ _ is (ty.outs-List u)) (ap (in_item (typ_of u)) e ∙ items_alike (typ_of u) U)

    pub options : (u : Ty) (o : Option Typ) → t ≡ ty.Opt u → o ≡ option_item U → in_item (typ_of u) o ≡ same (with_each f (typ_of t)) U
    options u o is e = compared _ _ (read_as t _ _ is (ty.outs-Opt u)) (ap (in_item (typ_of u)) e ∙ options_alike (typ_of u) U)

    pub functions : (u v : Ty) (o : Option (Typ × Typ)) → t ≡ ty.Fun u v → o ≡ ends_of U → in_ends (typ_of u) (typ_of v) o ≡ same (with_each f (typ_of t)) U
    functions u v o is e = compared _ _ (read_as t _ _ is (ty.outs-Fun u v)) (ap (in_ends (typ_of u) (typ_of v)) e ∙ ends_alike (typ_of u) (typ_of v) U)
