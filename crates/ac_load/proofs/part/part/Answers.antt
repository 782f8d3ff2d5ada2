use Rattle.std.proofs.Common.{◌∙◌, ap, sym, refl, subst, arith}
use Rattle.std.proofs.lemmas.List.{length-map}
use Rattle.ac_types.specs.ReadTypes.{typ_of}
use Rattle.ac_terms.specs.Read.{environment_of, entry_of, seen_of, expr_of}
use Rattle.ac_syntax.specs.ReadTrees.{surface_of}
use Rattle.ac_load.specs.Kinds.{Says}
use Rattle.ac_load.specs.inner.Parts.{linked_part, IsTreeRefused}
use Rattle.ac_load.specs.declared.kind.Kind.{Kind}
use Rattle.ac_load.proofs.TreeLaws.{front_within, surfaced_counted, taken, part_refused, scopes_refused}
use Rattle.ac_load.proofs.part.part.Goals as goal

pub linked_part-requires-clause-within : goal.linked_part-requires-clause-within
linked_part-requires-clause-within c =
    let E = environment_of c.args.env in
    let F = environment_of c.in-Ok.field-0.env in
    let a = front_within E (seen_of c.args.seen.now) (surface_of c.args.surface.now) F (expr_of c.in-Ok.field-0.main) c.in-Ok.ensures.elaborated
    c.len-front.result (c.len-front.ensures ∙ sym (length-map c.args.env.entries entry_of)) in
    let b = length-map c.in-Ok.field-0.env.entries entry_of in
    omega (arith, a, b)

pub linked_part-requires-clause-counted : goal.linked_part-requires-clause-counted
linked_part-requires-clause-counted c =
    surfaced_counted (environment_of c.args.env) (seen_of c.args.seen.now) (surface_of c.args.surface.now)
    (environment_of c.in-Ok.field-0.env) (expr_of c.in-Ok.field-0.main) c.in-Ok.ensures.elaborated c.requires.counted

pub returns-in-Ok-linked_part-clause-taken : goal.returns-in-Ok-linked_part-clause-taken
returns-in-Ok-linked_part-clause-taken c =
    let l = c.in-Ok-linked_part.loaded in
    let told = c.in-Ok-linked_part.ensures in
    taken (environment_of c.args.env) (seen_of c.args.seen.now) (surface_of c.args.surface.now)
    (environment_of c.in-Ok.field-0.env) (expr_of c.in-Ok.field-0.main) c.in-Ok.ensures.elaborated
    c.len-front.result (c.len-front.ensures ∙ sym (length-map c.args.env.entries entry_of))
    (environment_of l.env) told.entries (expr_of l.main) (typ_of l.ty) (ap expr_of told.main) told.typed told.sound

pub returns-in-Err-linked_part-clause-refused : goal.returns-in-Err-linked_part-clause-refused
returns-in-Err-linked_part-clause-refused c =
    let E = environment_of c.args.env in
    let seen = seen_of c.args.seen.now in
    let p = surface_of c.args.surface.now in
    let F = environment_of c.in-Ok.field-0.env in
    subst (λ (k : Kind). Says k (IsTreeRefused E seen p k)) (sym c.from.ensures)
    (part_refused E seen p F (expr_of c.in-Ok.field-0.main) c.in-Ok.ensures.elaborated
    c.len-front.result (c.len-front.ensures ∙ sym (length-map c.args.env.entries entry_of))
    (linked_part seen c.len-front.result F) refl c.in-Err-linked_part.fault c.in-Err-linked_part.ensures.refused)

pub returns-in-Err-clause-refused : goal.returns-in-Err-clause-refused
returns-in-Err-clause-refused c =
    let E = environment_of c.args.env in
    let seen = seen_of c.args.seen.now in
    let p = surface_of c.args.surface.now in
    subst (λ (k : Kind). Says k (IsTreeRefused E seen p k)) (sym c.from-in-Err.ensures)
    (scopes_refused E seen p c.in-Err.fault c.in-Err.ensures.refused)
