use Rattle.acute_files.proofs.Wider as wider
use Rattle.acute_top.proofs.laws.good_shelf.Goals as goal

pub returns : goal.returns
returns c = λ files list shelf is. wider.good_shelf files list shelf is
