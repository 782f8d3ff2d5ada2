use Rattle.ac_types.proofs.NumberLaws.{bare_has_none, texted_has_one}
use Rattle.ac_machine_engine.proofs.engine.Engine.make_exn.Goals as goal

pub returns-in-Bare : goal.returns-in-Bare
returns-in-Bare c = rw (c.in-Bare.is, bare_has_none c.in-Bare.exn) c.push_node.ensures.does

pub returns-in-Text : goal.returns-in-Text
returns-in-Text c = rw (c.in-Text.is, texted_has_one c.in-Text.exn) c.make_exn_of.ensures
