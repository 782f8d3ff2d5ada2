use Rattle.std.proofs.Common.{◌+◌, sym, subst}
use Rattle.ac_chain.specs.inner.Running.{AreFew}
use Rattle.ac_chain.specs.ChainTexts.{programs_of}
use Rattle.ac_chain.proofs.Apart.{no_first}
use Rattle.ac_chain.proofs.Lists.{whole_rest}
use Rattle.ac_chain.proofs.Searches.{few_at, few_behind}
use Rattle.ac_chain.proofs.clash.first_program_clash.Goals as goal

pub clash_of-requires-clause-entries : goal.clash_of-requires-clause-entries
clash_of-requires-clause-entries c = few_at c.args.programs.now c.loop-a.a _ c.requires.few c.loop-a-test.true

pub clash_of-requires-clause-few : goal.clash_of-requires-clause-few
clash_of-requires-clause-few c = subst AreFew (sym (whole_rest c.args.programs.now (c.loop-a.a + 1))) (few_behind c.args.programs.now (c.loop-a.a + 1) c.requires.few)

pub returns-then-branch : goal.returns-then-branch
returns-then-branch c = sym (no_first 0 (programs_of c.args.programs.now) (c.in_ok-have_one_text.ensures c.if-branch.true))
