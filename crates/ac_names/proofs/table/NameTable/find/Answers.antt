use Rattle.std.proofs.Common.{◌∙◌}
use Rattle.ac_names.proofs.TableLaws.{number_shown}
use Rattle.ac_names.proofs.table.NameTable.find.Goals as goal

pub returns-in-None : goal.returns-in-None
returns-in-None c = c.in-None.ensures.index ∙ number_shown c.self.inside.texts.entries c.args.self.now c.self.view_is c.args.name.now.0

pub returns-in-Some : goal.returns-in-Some
returns-in-Some c = c.in-Some.ensures.index ∙ number_shown c.self.inside.texts.entries c.args.self.now c.self.view_is c.args.name.now.0
