use Rattle.std.proofs.Common.{◌∙◌, arith}
use Rattle.ac_generate.specs.inner.Drafts.{draft_of}
use Rattle.ac_generate.proofs.TableLaws.{whole_stored, stored_count}
use Rattle.ac_generate.proofs.writer.Writer.store.Goals as goal

pub returns-clause-ok : goal.returns-clause-ok
unfolding draft_of
returns-clause-ok c =
    whole_stored c.args.table.now c.append.new.self c.args.self.finished.items c.push-2.new.self.items c.args.home c.from_vec.result c.args.self.instrs.items c.args.last
    c.in_ok-push-2.ensures.items (c.from_vec.ensures ∙ c.in_ok-push.ensures.items) c.in_ok-append.ensures.ok

pub returns-clause-number : goal.returns-clause-number
unfolding draft_of
returns-clause-number c =
    let count = stored_count c.len.result c.args.table.now c.append.new.self c.args.self.finished.items c.push-2.new.self.items _ c.len.ensures c.in_ok-push-2.ensures.items c.in_ok-append.ensures.ok in
    omega (arith, count)
