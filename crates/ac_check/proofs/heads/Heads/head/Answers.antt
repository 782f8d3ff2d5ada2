use Rattle.ac_types.specs.ReadTypes.{typ_of}
use Rattle.ac_terms.specs.Read.{environment_of}
use Rattle.ac_check.proofs.EndLaws.{end_is_head}
use Rattle.ac_check.proofs.heads.Heads.head.Goals as goal

pub returns-in-End-clause-head : goal.returns-in-End-clause-head
returns-in-End-clause-head c = end_is_head (environment_of c.args.env.now) (typ_of c.args.ty.now) _ c.in-End.ensures

pub returns-in_ok-note-in-Some-clause-head : goal.returns-in_ok-note-in-Some-clause-head
returns-in_ok-note-in-Some-clause-head c = end_is_head (environment_of c.args.env.now) (typ_of c.args.ty.now) c.in-Some.end c.in-Some.ensures
