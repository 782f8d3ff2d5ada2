use Rattle.ac_decode.proofs.heads.pattern_head.Goals as goal

pub returns-in-12 : goal.returns-in-12
returns-in-12 g c = λ f. rw c.in-12.is (c.pattern_exn.ensures f)

pub returns-in-3 : goal.returns-in-3
returns-in-3 g c = λ f. rw c.in-3.is (c.pattern_int.ensures f)
