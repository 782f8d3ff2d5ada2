use Rattle.std.proofs.Common.{◌∙◌, ◌++◌, ap, map}
use Rattle.sha2.specs.Sha256.{sha256}
use Rattle.ac_terms.specs.Names.{name_by}
use Rattle.ac_terms.specs.Read.{environment_of, entry_of, def_of_code}
use Rattle.ac_admit_placing.proofs.placing.Placing.noted.Goals as goal

pub returns-clause-name : goal.returns-clause-name
returns-clause-name c = c.in_ok-name.ensures ∙ ap (λ es. name_by sha256 (environment_of c.args.site.env.now ++ map entry_of es) (def_of_code c.args.def.now)) c.as_slice.ensures
