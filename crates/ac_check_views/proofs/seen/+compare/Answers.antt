use Rattle.std.proofs.Common.{sym, ap, ap₂, ◌∙◌, Bool, ◌&&◌, List, Some}
use Rattle.std.proofs.lemmas.Bool.{and_left}
use Rattle.ac_types.specs.Types.{Bytes, Typ, Typs, same, same_all, with_each}
use Rattle.ac_types.specs.ReadTypes.{typ_of}
use Rattle.ac_types.specs.declared.ty.Ty.{Ty}
use Rattle.ac_types.specs.declared.ty.Ty.TheVariants as ty
use Rattle.ac_terms.specs.Read.{home_of}
use Rattle.ac_rules.specs.Views.{opened_at_home}
use Rattle.ac_check_views.specs.Sites.{typs_of, entries_of}
use Rattle.ac_check_views.specs.declared.site.Site.{Site}
use Rattle.ac_check_views.proofs.PairLaws.{unlike_lengths}
use Rattle.ac_check_views.proofs.SeenLaws.{views}
use Rattle.ac_check_views.proofs.ReadAs.{read_as}
use Rattle.ac_check_views.proofs.CompareLaws.{compared, tuples, lists, options, functions}
use Rattle.ac_check_views.proofs.seen.+compare.Goals as goal

abbrev seen_from : Site → Bytes → Bytes → Typ
seen_from p = opened_at_home (entries_of p) (home_of p.home)

pub are_viewed_as-returns-then-written-tys : goal.are_viewed_as-returns-then-written-tys
are_viewed_as-returns-then-written-tys t c =
    let f = seen_from c.args.site.now in
    sym (ap (λ (Vs : Typs). same_all Vs (typs_of c.args.tys.now)) (views f c.args.written.now)
    ∙ unlike_lengths (λ (u : Ty). with_each f (typ_of u)) typ_of c.args.written.now c.args.tys.now (λ e. c.if-written-tys.true e))

pub is_viewed_as-returns-in-None : goal.is_viewed_as-returns-in-None
is_viewed_as-returns-in-None t c =
    tuples (seen_from c.args.site.now) _ _ _ _ c.in-Tuple.is c.in-None.ensures

pub is_viewed_as-returns-in-Some : goal.is_viewed_as-returns-in-Some
is_viewed_as-returns-in-Some t c =
    let others = ap (λ (ts : List Ty). Some (typs_of ts)) c.as_slice-in-Some.ensures ∙ c.in-Some.ensures in
    c.are_viewed_as.ensures ∙ tuples (seen_from c.args.site.now) _ _ _ _ (c.in-Tuple.is ∙ ap ty.Tuple (sym c.as_slice.ensures)) others

pub is_viewed_as-returns-in-None-list_item : goal.is_viewed_as-returns-in-None-list_item
is_viewed_as-returns-in-None-list_item t c =
    lists (seen_from c.args.site.now) _ _ _ _ c.in-List.is c.in-None-list_item.ensures

pub is_viewed_as-returns-in-Some-list_item : goal.is_viewed_as-returns-in-Some-list_item
is_viewed_as-returns-in-Some-list_item t c =
    c.is_viewed_as.ensures
    ∙ lists (seen_from c.args.site.now) _ _ _ _ (c.in-List.is ∙ ap ty.List (sym c.deref.ensures)) c.in-Some-list_item.ensures

pub is_viewed_as-returns-in-None-option_item : goal.is_viewed_as-returns-in-None-option_item
is_viewed_as-returns-in-None-option_item t c =
    options (seen_from c.args.site.now) _ _ _ _ c.in-Opt.is c.in-None-option_item.ensures

pub is_viewed_as-returns-in-Some-option_item : goal.is_viewed_as-returns-in-Some-option_item
is_viewed_as-returns-in-Some-option_item t c =
    c.is_viewed_as-in-Some-option_item.ensures
    ∙ options (seen_from c.args.site.now) _ _ _ _ (c.in-Opt.is ∙ ap ty.Opt (sym c.deref-in-Some-option_item.ensures)) c.in-Some-option_item.ensures

pub is_viewed_as-returns-in-None-ends : goal.is_viewed_as-returns-in-None-ends
is_viewed_as-returns-in-None-ends t c =
    functions (seen_from c.args.site.now) _ _ _ _ _ c.in-Fun.is c.in-None-ends.ensures

pub is_viewed_as-returns-then-is_viewed_as : goal.is_viewed_as-returns-then-is_viewed_as
is_viewed_as-returns-then-is_viewed_as t c =
    let is = c.in-Fun.is ∙ ap₂ ty.Fun (sym c.deref-in-Some-ends.ensures) (sym c.deref-then-is_viewed_as.ensures) in
    c.is_viewed_as-then-is_viewed_as.ensures
    ∙ ap (λ (b : Bool). b && same (with_each (seen_from c.args.site.now) (typ_of c.deref-then-is_viewed_as.result.now)) (typ_of c.in-Some-ends.end.now))
    (sym c.if-is_viewed_as.true ∙ c.is_viewed_as-in-Some-ends.ensures)
    ∙ functions (seen_from c.args.site.now) _ _ _ _ _ is c.in-Some-ends.ensures

pub is_viewed_as-returns-else-is_viewed_as : goal.is_viewed_as-returns-else-is_viewed_as
is_viewed_as-returns-else-is_viewed_as t c =
    let is = c.in-Fun.is ∙ ap (λ (t : Ty). ty.Fun t c.in-Fun.to) (sym c.deref-in-Some-ends.ensures) in
    c.if-is_viewed_as.false ∙ sym (and_left _ _ (sym c.is_viewed_as-in-Some-ends.ensures ∙ c.if-is_viewed_as.false))
    ∙ functions (seen_from c.args.site.now) _ _ _ _ _ is c.in-Some-ends.ensures

pub is_viewed_as-returns-in-None-opened : goal.is_viewed_as-returns-in-None-opened
is_viewed_as-returns-in-None-opened t c =
    let e = read_as _ _ _ c.in-Abs.is (ty.outs-Abs _ _) in
    compared (seen_from c.args.site.now) _ _ _ _ e (c.same_types.ensures ∙ ap (λ (T : Typ). same T (typ_of c.args.ty.now)) (e ∙ c.in-None-opened.ensures))

pub is_viewed_as-returns-in-Some-opened : goal.is_viewed_as-returns-in-Some-opened
is_viewed_as-returns-in-Some-opened t c =
    compared (seen_from c.args.site.now) _ _ _ _ (read_as _ _ _ c.in-Abs.is (ty.outs-Abs _ _))
    (c.same_types-in-Some-opened.ensures ∙ ap (λ (T : Typ). same T (typ_of c.args.ty.now)) c.in-Some-opened.ensures)

pub is_viewed_as-returns-in-Int : goal.is_viewed_as-returns-in-Int
is_viewed_as-returns-in-Int t c =
    compared (seen_from c.args.site.now) _ _ _ _ (read_as _ _ _ c.in-Int.is ty.outs-Int) c.is_base.ensures.given

pub is_viewed_as-returns-in-Bool : goal.is_viewed_as-returns-in-Bool
is_viewed_as-returns-in-Bool t c =
    compared (seen_from c.args.site.now) _ _ _ _ (read_as _ _ _ c.in-Bool.is ty.outs-Bool) c.is_base-in-Bool.ensures.given

pub is_viewed_as-returns-in-Str : goal.is_viewed_as-returns-in-Str
is_viewed_as-returns-in-Str t c =
    compared (seen_from c.args.site.now) _ _ _ _ (read_as _ _ _ c.in-Str.is ty.outs-Str) c.is_base-in-Str.ensures.given

pub is_viewed_as-returns-in-Unit : goal.is_viewed_as-returns-in-Unit
is_viewed_as-returns-in-Unit t c =
    compared (seen_from c.args.site.now) _ _ _ _ (read_as _ _ _ c.in-Unit.is ty.outs-Unit) c.is_base-in-Unit.ensures.given

pub is_viewed_as-returns-in-Exn : goal.is_viewed_as-returns-in-Exn
is_viewed_as-returns-in-Exn t c =
    compared (seen_from c.args.site.now) _ _ _ _ (read_as _ _ _ c.in-Exn.is ty.outs-Exn) c.is_base-in-Exn.ensures.given

pub is_viewed_as-returns-in-Mine : goal.is_viewed_as-returns-in-Mine
is_viewed_as-returns-in-Mine t c =
    let e = read_as _ _ _ c.in-Mine.is (ty.outs-Mine _) in
    compared (seen_from c.args.site.now) _ _ _ _ e (c.same_types-in-Mine.ensures ∙ ap (λ (T : Typ). same T (typ_of c.args.ty.now)) e)
