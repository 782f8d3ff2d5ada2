use Rattle.std.proofs.Common.{◌+◌, take, ◌∙◌, ap, sym, subst}
use Rattle.ac_types.specs.declared.text.Text.{Text}
use Rattle.ac_load.specs.Loading.{shelf_of}
use Rattle.ac_chain.specs.ChainTexts.{texts_of, programs_of, LoadAs}
use Rattle.ac_chain.specs.inner.Running.{AreLoaded}
use Rattle.ac_chain.proofs.LoadLaws.{load_more, loaded_more, is_refusal}
use Rattle.ac_chain.proofs.loads.load_all.Goals as goal

pub returns-in-Err-clause-refused : goal.returns-in-Err-clause-refused
returns-in-Err-clause-refused c =
    is_refusal c.args.texts.now (shelf_of c.args.shelf.now) c.loop-i.programs c.loop-i.i c.index-texts-i.result c.as_slice.result.now c.in-Err.refusal c.fault.result c.loop-i-test.true (c.as_slice.ensures ∙ ap (λ (t : Text). t.0) c.index-texts-i.is) c.loop-i.invariant.load c.in-Err.ensures.refused c.fault.ensures

pub loop-i-preserved : goal.loop-i-preserved
loop-i-preserved c = record {
  load =
      subst (λ ls. LoadAs (texts_of (take (c.loop-i.i + 1) c.args.texts.now)) (shelf_of c.args.shelf.now) (programs_of ls)) (sym c.in_ok-push-in-Ok.ensures.ok)
      (load_more c.args.texts.now (shelf_of c.args.shelf.now) c.loop-i.programs c.loop-i.i c.index-texts-i.result c.as_slice.result.now c.in-Ok.program c.loop-i-test.true (c.as_slice.ensures ∙ ap (λ (t : Text). t.0) c.index-texts-i.is) c.loop-i.invariant.load c.in-Ok.ensures.accepted);
  loaded = subst AreLoaded (sym c.in_ok-push-in-Ok.ensures.ok) (loaded_more c.loop-i.programs c.in-Ok.program c.loop-i.invariant.loaded c.in-Ok.ensures.loaded);
}
