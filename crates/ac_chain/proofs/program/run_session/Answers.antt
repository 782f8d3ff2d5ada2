use Rattle.std.proofs.Common.{◌∙◌, subst}
use Rattle.std.specs.Prelude.{IfOk, OnOk}
use Rattle.ac_chain.specs.inner.Made.{NativeBy, MadeBy}
use Rattle.ac_chain.specs.declared.chained.ChainPart.{ChainPart}
use Rattle.ac_chain.proofs.RunLaws.{ran_to}
use Rattle.ac_chain.proofs.program.run_session.Goals as goal

pub returns-clause-ran : goal.returns-clause-ran
returns-clause-ran g c =
    let same = c.as_slice.ensures ∙ c.journal.ensures in
    ran_to _ _ _ _ _ c.run_linked-end.new.sent _ _ _ _ (c.run_linked-end.ensures.ends c.requires) c.part.result c.part.ensures.ends
    (subst (λ j. IfOk c.part.result (λ (p : ChainPart). NativeBy c.args.made.now j p.native)) same c.part.ensures.native)
    (subst (λ j. OnOk c.part.result (MadeBy c.args.made.now j c.part.new.made)) same c.part.ensures.made)
