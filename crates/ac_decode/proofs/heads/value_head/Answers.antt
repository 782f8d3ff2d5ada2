use Rattle.ac_decode.proofs.heads.value_head.Goals as goal

pub returns-in-5 : goal.returns-in-5
returns-in-5 c = λ f v. rw c.in-5.is (c.value_exn.ensures f v)

pub returns-in-1 : goal.returns-in-1
returns-in-1 c = λ f v. rw c.in-1.is (c.value_int.ensures f v)
