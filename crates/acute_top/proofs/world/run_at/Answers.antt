use Rattle.acute_top.proofs.ChannelLaws.{one_of_both}
use Rattle.acute_top.proofs.StageLaws.{since_start}
use Rattle.acute_top.proofs.world.run_at.Goals as goal

pub returns-clause-cause : goal.returns-clause-cause
returns-clause-cause g c = λ none is. one_of_both _ _ _ _ _ (c.run_in.ensures.cause none is)

pub invariant_of-world-clause-uses : goal.invariant_of-world-clause-uses
invariant_of-world-clause-uses g c = since_start g.F.Files g.K.Fixed.start g.K.Fixed.from g.K.Fixed.to g.K.Fixed.contents c.args.files.now c.requires.start
