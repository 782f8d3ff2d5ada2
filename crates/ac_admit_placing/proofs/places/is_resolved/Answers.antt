use Rattle.std.proofs.Common.{◌∙◌, map}
use Rattle.ac_terms.specs.Defs.{AModule}
use Rattle.ac_terms.specs.Parts.{def_parts}
use Rattle.ac_terms.specs.Read.{module_of_code}
use Rattle.ac_admit_placing.specs.inner.Open.{place_of}
use Rattle.ac_admit_placing.proofs.OpenLaws.{all_resolved}
use Rattle.ac_admit_placing.proofs.places.is_resolved.Goals as goal

pub returns : goal.returns
returns c = c.module_passes.ensures ∙ all_resolved (map place_of c.args.places.now) (def_parts (AModule (module_of_code c.args.m.now)))
