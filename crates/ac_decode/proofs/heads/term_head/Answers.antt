use Rattle.std.proofs.Common.{arith}
use Rattle.ac_decode.proofs.NoEntry.{no_entry}
use Rattle.ac_decode.proofs.heads.term_head.Goals as goal

pub returns-in-5 : goal.returns-in-5
returns-in-5 g c = λ p f v. rw c.in-5.is (c.term_exn.ensures p f v)

pub returns-in-13 : goal.returns-in-13
returns-in-13 g c = λ p f v. rw c.in-13.is (c.field_of.ensures p f v)

pub returns-in-15 : goal.returns-in-15
returns-in-15 g c = λ p f v. rw c.in-15.is (c.recursive.ensures p f v)

pub returns-in-1 : goal.returns-in-1
returns-in-1 g c = λ p f v. rw c.in-1.is (c.term_int.ensures p f v)

pub returns-in_default : goal.returns-in_default
returns-in_default g c = λ p f v. no_entry (g.T.Types.reads_type c.args.types.now) c.args.within p f v c.args.tag c.args.cursor.now.left (λ low. omega arith)
