use Rattle.ac_types.specs.ReadTypes.{typ_of}
use Rattle.ac_terms.specs.Read.{environment_of}
use Rattle.ac_rules.specs.Views.{unsealed}
use Rattle.ac_check.proofs.EndLaws.{further}
use Rattle.ac_check.proofs.heads.Heads.end.Goals as goal

pub loop-before-preserved : goal.loop-before-preserved
loop-before-preserved c =
    further (unsealed (environment_of c.args.env.now)) (typ_of c.args.ty.now) (typ_of c.loop-before.here.now) (typ_of c.in-Next.next.now) c.loop-before.before c.loop-before.invariant c.in-Next.ensures.1
