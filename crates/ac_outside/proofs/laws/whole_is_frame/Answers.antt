use Rattle.ac_outside.proofs.FrameLaws.{is_frame}
use Rattle.ac_outside.proofs.laws.whole_is_frame.Goals as goal

pub returns-clause-bytes : goal.returns-clause-bytes
returns-clause-bytes c = λ bs s rest h e. (is_frame bs s rest e).0 h

pub returns-clause-short : goal.returns-clause-short
returns-clause-short c = λ bs s rest e. (is_frame bs s rest e).1
