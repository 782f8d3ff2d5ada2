use Rattle.ac_machine_proof.proofs.Growing.{generated_has}
use Rattle.ac_machine_proof.proofs.Programs.{generated_placed}
use Rattle.ac_machine_proof.proofs.Grown.{entries_placed, value_placed}
use Rattle.ac_machine_proof.proofs.Sources.{coherent_sources}
use Rattle.ac_machine_proof.proofs.laws.code_stays_placed.Goals as goal

pub returns-clause-entries : goal.returns-clause-entries
returns-clause-entries c E more K coherent placed = entries_placed E more K placed (coherent_sources _ coherent)

pub returns-clause-term : goal.returns-clause-term
returns-clause-term c E K h e placed source = (generated_placed E K h e placed source, generated_has h e K source)

pub returns-clause-value : goal.returns-clause-value
returns-clause-value c = value_placed
