use Rattle.std.proofs.Common.{◌∙◌}
use Rattle.ac_terms.specs.Read.{environment_of}
use Rattle.ac_pack_definitions.proofs.FrontLaws.{all_nest}
use Rattle.ac_pack_definitions.proofs.definitions.forms_nest.Goals as goal

pub returns : goal.returns
returns c = λ f. c.all_nest.ensures ∙ all_nest f (environment_of c.args.env.now) c.args.mark c.args.chosen.now
