use Rattle.std.proofs.Common.{◌∙◌, ap, arith, take, reverse, List}
use Rattle.ac_terms.specs.declared.def.Entry.{Entry}
use Rattle.ac_terms.specs.Entries.{Entries}
use Rattle.ac_admit.proofs.CommitLaws.{all_left, one_over, one_longer, cut_back}
use Rattle.ac_admit.proofs.commit.extend.Goals as goal

pub loop-entry-init : goal.loop-entry-init
loop-entry-init c = record {
  all = all_left c.args.env.now.entries c.reverse.new.self.items c.args.more (c.reverse.ensures.items ∙ ap reverse c.into_vec-left.ensures);
  within = omega arith;
}

pub loop-entry-preserved : goal.loop-entry-preserved
loop-entry-preserved c =
    let longer = one_longer c.loop-entry.env.entries c.push.new.self.entries c.in-Some.entry c.in-Ok.ensures.ok in
    let within = c.loop-entry.invariant.within in
    record {
      all = one_over c.loop-entry.env.entries c.push.new.self.entries c.loop-entry.left.items c.pop.new.self.items _ c.in-Some.entry c.in-Ok.ensures.ok c.in-Some.ensures.items c.loop-entry.invariant.all;
      within = omega (arith, longer, within);
    }

pub returns-in-Err-clause-err : goal.returns-in-Err-clause-err
returns-in-Err-clause-err c =
    ap (λ (es : List Entry). record { entries = es }) (
    c.cut.ensures ∙ ap (λ (e : Entries). take c.len-before.result e.entries) c.in-Err.ensures.err
    ∙ ap (λ n. take n c.loop-entry.env.entries) c.len-before.ensures
    ∙ cut_back c.loop-entry.env.entries c.args.env.now.entries c.loop-entry.left.items c.args.more c.loop-entry.invariant.all c.loop-entry.invariant.within
    )
