use Rattle.std.proofs.Common.{sym, ap, ap₂, ◌∙◌, Bool, ◌&&◌}
use Rattle.std.proofs.lemmas.Bool.{and_left}
use Rattle.ac_types.specs.ReadTypes.{typ_of}
use Rattle.ac_types.specs.declared.ty.Ty.{Ty}
use Rattle.ac_types.specs.declared.ty.Ty.TheVariants as ty
use Rattle.ac_terms.specs.Read.{environment_of}
use Rattle.ac_rules.specs.Views.{are_known}
use Rattle.ac_check_views.proofs.SeenLaws.{known_as, known_ends, known_name}
use Rattle.ac_check_views.proofs.known.+known.Goals as goal

pub are_known-returns-in-Tuple : goal.are_known-returns-in-Tuple
are_known-returns-in-Tuple t c =
    c.all_are_known.ensures ∙ known_as (environment_of c.args.env.now) _ _ _ (c.in-Tuple.is ∙ ap ty.Tuple (sym c.as_slice.ensures)) (ty.outs-Tuple _)

pub are_known-returns-in-List : goal.are_known-returns-in-List
are_known-returns-in-List t c =
    c.are_known.ensures ∙ known_as (environment_of c.args.env.now) _ _ _ (c.in-List.is ∙ ap ty.List (sym c.deref.ensures)) (ty.outs-List _)

pub are_known-returns-in-Opt : goal.are_known-returns-in-Opt
are_known-returns-in-Opt t c =
    c.are_known-in-Opt.ensures ∙ known_as (environment_of c.args.env.now) _ _ _ (c.in-Opt.is ∙ ap ty.Opt (sym c.deref-in-Opt.ensures)) (ty.outs-Opt _)

pub are_known-returns-then-are_known : goal.are_known-returns-then-are_known
are_known-returns-then-are_known t c =
    let is = c.in-Fun.is ∙ ap₂ ty.Fun (sym c.deref-in-Fun.ensures) (sym c.deref-then-are_known.ensures) in
    c.are_known-then-are_known.ensures
    ∙ ap (λ (b : Bool). b && are_known (environment_of c.args.env.now) (typ_of c.deref-then-are_known.result.now)) (sym c.if-are_known.true ∙ c.are_known-in-Fun.ensures)
    ∙ known_ends (environment_of c.args.env.now) _ _ _ is

pub are_known-returns-else-are_known : goal.are_known-returns-else-are_known
are_known-returns-else-are_known t c =
    let is = c.in-Fun.is ∙ ap (λ (t : Ty). ty.Fun t c.in-Fun.to) (sym c.deref-in-Fun.ensures) in
    c.if-are_known.false ∙ sym (and_left _ _ (sym c.are_known-in-Fun.ensures ∙ c.if-are_known.false))
    ∙ known_ends (environment_of c.args.env.now) _ _ _ is

pub are_known-returns-in-Abs : goal.are_known-returns-in-Abs
are_known-returns-in-Abs t c =
    c.is_known.ensures ∙ known_name (environment_of c.args.env.now) _ _ _ c.in-Abs.is

pub are_known-returns-in-Int : goal.are_known-returns-in-Int
are_known-returns-in-Int t c =
    known_as (environment_of c.args.env.now) _ _ _ c.in-Int.is ty.outs-Int

pub are_known-returns-in-Bool : goal.are_known-returns-in-Bool
are_known-returns-in-Bool t c =
    known_as (environment_of c.args.env.now) _ _ _ c.in-Bool.is ty.outs-Bool

pub are_known-returns-in-Str : goal.are_known-returns-in-Str
are_known-returns-in-Str t c =
    known_as (environment_of c.args.env.now) _ _ _ c.in-Str.is ty.outs-Str

pub are_known-returns-in-Unit : goal.are_known-returns-in-Unit
are_known-returns-in-Unit t c =
    known_as (environment_of c.args.env.now) _ _ _ c.in-Unit.is ty.outs-Unit

pub are_known-returns-in-Exn : goal.are_known-returns-in-Exn
are_known-returns-in-Exn t c =
    known_as (environment_of c.args.env.now) _ _ _ c.in-Exn.is ty.outs-Exn

pub are_known-returns-in-Mine : goal.are_known-returns-in-Mine
are_known-returns-in-Mine t c =
    known_as (environment_of c.args.env.now) _ _ _ c.in-Mine.is (ty.outs-Mine _)
