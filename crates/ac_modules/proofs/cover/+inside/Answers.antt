use Rattle.std.proofs.Common.{refl, sym, ap, ap₂, ◌∙◌, Bool, ◌&&◌, List, map, Option}
use Rattle.std.specs.Prelude.{None, Some}
use Rattle.std.proofs.lemmas.Bool.{and_left}
use Rattle.ac_types.specs.Types.{Typ, TMine, same}
use Rattle.ac_types.specs.Sigs.{named_type}
use Rattle.ac_types.specs.ReadTypes.{typ_of, typed_of}
use Rattle.ac_types.specs.declared.sig.TyField.{TyField}
use Rattle.ac_types.specs.declared.ty.Ty.{Ty}
use Rattle.ac_types.specs.declared.ty.Ty.TheVariants as ty
use Rattle.ac_types.proofs.Equal.{unlike_lengths}
use Rattle.ac_terms.specs.Read.{module_of_code}
use Rattle.ac_rules.specs.Modules.{inside_struct}
use Rattle.ac_modules.proofs.InsideLaws.{read_as, alike, no_tuple, no_list, no_option, no_function}
use Rattle.ac_modules.proofs.cover.+inside.Goals as goal

pub are_inside-returns-then-tys-written : goal.are_inside-returns-then-tys-written
are_inside-returns-then-tys-written t c =
    sym (unlike_lengths (λ t. elim (named_type t (module_of_code c.args.m.now).types) [ None ↦ TMine t | Some U ↦ U ]) c.args.tys.now c.args.written.now (λ e. c.if-tys-written.true e))

pub is_inside-returns-in-Tuple-ty : goal.is_inside-returns-in-Tuple-ty
is_inside-returns-in-Tuple-ty t c =
    alike (module_of_code c.args.m.now) _ _ _ _ _ (read_as _ _ _ (c.in-Tuple-ty.is ∙ ap ty.Tuple (sym c.as_slice-in-Tuple-ty.ensures)) (ty.outs-Tuple _))
    (read_as _ _ _ (c.in-Tuple.is ∙ ap ty.Tuple (sym c.as_slice-in-Tuple-ty-2.ensures)) (ty.outs-Tuple _)) c.are_inside.ensures

pub is_inside-returns-in_default : goal.is_inside-returns-in_default
is_inside-returns-in_default t c =
    alike (module_of_code c.args.m.now) _ _ _ _ _ refl (read_as _ _ _ c.in-Tuple.is (ty.outs-Tuple _)) (no_tuple _ _ c.in_default.not-Tuple)

pub is_inside-returns-in-List-ty : goal.is_inside-returns-in-List-ty
is_inside-returns-in-List-ty t c =
    alike (module_of_code c.args.m.now) _ _ _ _ _ (read_as _ _ _ (c.in-List-ty.is ∙ ap ty.List (sym c.deref.ensures)) (ty.outs-List _))
    (read_as _ _ _ (c.in-List.is ∙ ap ty.List (sym c.deref-in-List-ty.ensures)) (ty.outs-List _)) c.is_inside.ensures

pub is_inside-returns-in_default-ty : goal.is_inside-returns-in_default-ty
is_inside-returns-in_default-ty t c =
    alike (module_of_code c.args.m.now) _ _ _ _ _ refl (read_as _ _ _ c.in-List.is (ty.outs-List _)) (no_list _ _ c.in_default-ty.not-List)

pub is_inside-returns-in-Opt-ty : goal.is_inside-returns-in-Opt-ty
is_inside-returns-in-Opt-ty t c =
    alike (module_of_code c.args.m.now) _ _ _ _ _ (read_as _ _ _ (c.in-Opt-ty.is ∙ ap ty.Opt (sym c.deref-in-Opt-ty.ensures)) (ty.outs-Opt _))
    (read_as _ _ _ (c.in-Opt.is ∙ ap ty.Opt (sym c.deref-in-Opt-ty-2.ensures)) (ty.outs-Opt _)) c.is_inside-in-Opt-ty.ensures

pub is_inside-returns-in_default-ty-2 : goal.is_inside-returns-in_default-ty-2
is_inside-returns-in_default-ty-2 t c =
    alike (module_of_code c.args.m.now) _ _ _ _ _ refl (read_as _ _ _ c.in-Opt.is (ty.outs-Opt _)) (no_option _ _ c.in_default-ty-2.not-Opt)

pub is_inside-returns-then-is_inside : goal.is_inside-returns-then-is_inside
is_inside-returns-then-is_inside t c =
    alike (module_of_code c.args.m.now) _ _ _ _ _ (read_as _ _ _ (c.in-Fun-ty.is ∙ ap₂ ty.Fun (sym c.deref-in-Fun-ty.ensures) (sym c.deref-then-is_inside.ensures)) (ty.outs-Fun _ _))
    (read_as _ _ _ (c.in-Fun.is ∙ ap₂ ty.Fun (sym c.deref-in-Fun-ty-2.ensures) (sym c.deref-then-is_inside-2.ensures)) (ty.outs-Fun _ _))
    (c.is_inside-then-is_inside.ensures
    ∙ ap (λ (b : Bool). b && same (typ_of c.deref-then-is_inside.result.now) (inside_struct (module_of_code c.args.m.now) (typ_of c.deref-then-is_inside-2.result.now)))
    (sym c.if-is_inside.true ∙ c.is_inside-in-Fun-ty.ensures))

pub is_inside-returns-else-is_inside : goal.is_inside-returns-else-is_inside
is_inside-returns-else-is_inside t c =
    alike (module_of_code c.args.m.now) _ _ _ _ _ (read_as _ _ _ (c.in-Fun-ty.is ∙ ap (λ (t : Ty). ty.Fun t c.in-Fun-ty.end) (sym c.deref-in-Fun-ty.ensures)) (ty.outs-Fun _ _))
    (read_as _ _ _ (c.in-Fun.is ∙ ap (λ (t : Ty). ty.Fun t c.in-Fun.to) (sym c.deref-in-Fun-ty-2.ensures)) (ty.outs-Fun _ _))
    (c.if-is_inside.false ∙ sym (and_left _ _ (sym c.is_inside-in-Fun-ty.ensures ∙ c.if-is_inside.false)))

pub is_inside-returns-in_default-ty-3 : goal.is_inside-returns-in_default-ty-3
is_inside-returns-in_default-ty-3 t c =
    alike (module_of_code c.args.m.now) _ _ _ _ _ refl (read_as _ _ _ c.in-Fun.is (ty.outs-Fun _ _)) (no_function _ _ _ c.in_default-ty-3.not-Fun)

pub is_inside-returns-in-Int : goal.is_inside-returns-in-Int
is_inside-returns-in-Int t c =
    let is = read_as _ _ _ c.in-Int.is ty.outs-Int in
    alike (module_of_code c.args.m.now) _ _ _ _ _ refl is (c.same_types-in-Int.ensures ∙ ap (same (typ_of c.args.ty.now)) is)

pub is_inside-returns-in-Bool : goal.is_inside-returns-in-Bool
is_inside-returns-in-Bool t c =
    let is = read_as _ _ _ c.in-Bool.is ty.outs-Bool in
    alike (module_of_code c.args.m.now) _ _ _ _ _ refl is (c.same_types-in-Bool.ensures ∙ ap (same (typ_of c.args.ty.now)) is)

pub is_inside-returns-in-Str : goal.is_inside-returns-in-Str
is_inside-returns-in-Str t c =
    let is = read_as _ _ _ c.in-Str.is ty.outs-Str in
    alike (module_of_code c.args.m.now) _ _ _ _ _ refl is (c.same_types-in-Str.ensures ∙ ap (same (typ_of c.args.ty.now)) is)

pub is_inside-returns-in-Unit : goal.is_inside-returns-in-Unit
is_inside-returns-in-Unit t c =
    let is = read_as _ _ _ c.in-Unit.is ty.outs-Unit in
    alike (module_of_code c.args.m.now) _ _ _ _ _ refl is (c.same_types-in-Unit.ensures ∙ ap (same (typ_of c.args.ty.now)) is)

pub is_inside-returns-in-Exn : goal.is_inside-returns-in-Exn
is_inside-returns-in-Exn t c =
    let is = read_as _ _ _ c.in-Exn.is ty.outs-Exn in
    alike (module_of_code c.args.m.now) _ _ _ _ _ refl is (c.same_types-in-Exn.ensures ∙ ap (same (typ_of c.args.ty.now)) is)

pub is_inside-returns-in-Abs : goal.is_inside-returns-in-Abs
is_inside-returns-in-Abs t c =
    let is = read_as _ _ _ c.in-Abs.is (ty.outs-Abs _ _) in
    alike (module_of_code c.args.m.now) _ _ _ _ _ refl is (c.same_types-in-Abs.ensures ∙ ap (same (typ_of c.args.ty.now)) is)

pub is_inside-returns-in-None : goal.is_inside-returns-in-None
is_inside-returns-in-None t c =
    let is = read_as _ _ _ c.in-Mine.is (ty.outs-Mine _) in
    let named = c.in-None.ensures ∙ ap (λ (xs : List TyField). named_type c.in-Mine.word (map typed_of xs)) c.as_slice.ensures in
    alike (module_of_code c.args.m.now) _ _ _ _ _ refl is
    (c.same_types.ensures ∙ ap (same (typ_of c.args.ty.now)) (is ∙ ap (λ (o : Option Typ). elim o [ None ↦ TMine c.in-Mine.word | Some U ↦ U ]) named))

pub is_inside-returns-in-Some : goal.is_inside-returns-in-Some
is_inside-returns-in-Some t c =
    let is = read_as _ _ _ c.in-Mine.is (ty.outs-Mine _) in
    let named = c.in-Some.ensures ∙ ap (λ (xs : List TyField). named_type c.in-Mine.word (map typed_of xs)) c.as_slice.ensures in
    alike (module_of_code c.args.m.now) _ _ _ _ _ refl is
    (c.same_types-in-Some.ensures ∙ ap (same (typ_of c.args.ty.now)) (ap (λ (o : Option Typ). elim o [ None ↦ TMine c.in-Mine.word | Some U ↦ U ]) named))
