use Rattle.std.proofs.Common.{◌∙◌, ap, map}
use Rattle.ac_terms.specs.Read.{environment_of, entry_of}
use Rattle.ac_admit_placing.specs.inner.Keys.{keyed}
use Rattle.ac_admit_placing.proofs.StateLaws.{sound_first}
use Rattle.ac_admit_placing.proofs.placing.Placing.at_first.Goals as goal

pub returns-clause-sound : goal.returns-clause-sound
returns-clause-sound c =
    sound_first (environment_of c.args.env.now) _ c.requires.coherent c.new-2.ensures c.new.ensures c.new-3.ensures (λ k. c.in_ok-keys.ensures k ∙ ap (λ es. keyed (map entry_of es) k.items) c.entries.ensures)
