use Rattle.acute_files.proofs.Pieces.{within_limit}
use Rattle.acute_files.proofs.program.read_beside.Goals as goal

pub returns-in-Ok-clause-program : goal.returns-in-Ok-clause-program
returns-in-Ok-clause-program g c = λ told. within_limit _ _ (c.in-Ok.ensures.text told)
