use Rattle.std.proofs.Common.{◌≡◌, ◌∙◌, sym, arith, length, ◌<◌}
use Rattle.ac_terms.specs.Read.{environment_of}
use Rattle.ac_load_causes.proofs.TypedLaws.{fields_next, fields_here, fields_end}
use Rattle.ac_load_causes.proofs.typed.are_typed.Goals as goal

pub loop-g-preserved : goal.loop-g-preserved
loop-g-preserved c =
    let lt : c.loop-g.g < length c.args.fields.now = omega arith in
    fields_next (environment_of c.args.env.now) c.args.i c.args.fields.now _ c.loop-g.g c.index-fields-g.result lt c.index-fields-g.is (sym c.in_ok-is_typed.ensures ∙ c.if-not-branch.false) c.loop-g.invariant

pub returns-then-not-branch : goal.returns-then-not-branch
returns-then-not-branch c =
    let lt : c.loop-g.g < length c.args.fields.now = omega arith in
    sym (fields_here (environment_of c.args.env.now) c.args.i c.args.fields.now _ c.loop-g.g c.index-fields-g.result lt c.index-fields-g.is (sym c.in_ok-is_typed.ensures ∙ c.if-not-branch.true) c.loop-g.invariant)

pub returns : goal.returns
returns c =
    let e : c.loop-g.g ≡ length c.args.fields.now = omega arith in
    sym (fields_end (environment_of c.args.env.now) c.args.i c.args.fields.now _ c.loop-g.g e c.loop-g.invariant)
