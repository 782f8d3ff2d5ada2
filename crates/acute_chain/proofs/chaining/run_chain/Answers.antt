use Rattle.std.proofs.Common.{◌∙◌, ◌≤◌, inr, ap, length, arith}
use Rattle.std.proofs.lemmas.List.{length-map}
use Rattle.ac_load.specs.Loading.{shelved, shelf_of}
use Rattle.ac_load.specs.declared.shelf.Shelf.{Shelf}
use Rattle.ac_chain.specs.ChainTexts.{texts_of}
use Rattle.ac_chain.specs.Endings.{printed}
use Rattle.acute_answers.specs.declared.status.TheConstants.Status.{FINISHED}
use Rattle.acute_answers.specs.Answers.{printing}
use Rattle.acute_chain.proofs.GivenLaws.{has_run, has_run_alone, answered}
use Rattle.acute_chain.proofs.chaining.run_chain.Goals as goal

few_shelved : (s : Shelf) → length s.0 ≤ 256 → length (shelf_of s) ≤ 256
few_shelved s few = let same = length-map s.0 shelved in omega (arith, same, few)

pub returns-in-Ok-lines_of-clause-gives : goal.returns-in-Ok-lines_of-clause-gives
returns-in-Ok-lines_of-clause-gives g c =
    has_run (texts_of c.args.texts.now) (shelf_of c.args.shelf.now) c.args.steps (printed g.C.Sink.told g.C.Sink.written g.C.Sink.faults c.args.console.now c.chain.new.console) c.requires.shelved (few_shelved c.args.shelf.now c.requires.few) c.in-Ok.chained.parts c.printing.result c.in-Ok.ensures.ran (c.printing.ensures ∙ ap (printing FINISHED) c.in-Ok-lines_of.ensures)

pub returns-in-Err-lines_of-clause-gives : goal.returns-in-Err-lines_of-clause-gives
returns-in-Err-lines_of-clause-gives g c =
    inr (has_run_alone (texts_of c.args.texts.now) (shelf_of c.args.shelf.now) c.args.steps (printed g.C.Sink.told g.C.Sink.written g.C.Sink.faults c.args.console.now c.chain.new.console) c.requires.shelved (few_shelved c.args.shelf.now c.requires.few) c.in-Ok.chained.parts c.in-Ok.ensures.ran)

pub returns-in-Err-clause-gives : goal.returns-in-Err-clause-gives
returns-in-Err-clause-gives g c =
    answered (texts_of c.args.texts.now) (shelf_of c.args.shelf.now) c.args.steps (printed g.C.Sink.told g.C.Sink.written g.C.Sink.faults c.args.console.now c.chain.new.console) c.requires.shelved (few_shelved c.args.shelf.now c.requires.few) c.in-Err.fault c.answer_fault.result c.in-Err.ensures.fault (λ before. ap g.C.Sink.written (c.in-Err.ensures.untouched before)) c.answer_fault.ensures
