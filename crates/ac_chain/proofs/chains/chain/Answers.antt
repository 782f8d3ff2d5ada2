use Rattle.std.proofs.Common.{◌∙◌, length, sym, ap, subst, arith, List}
use Rattle.std.proofs.lemmas.List.{length-map}
use Rattle.ac_types.specs.declared.text.Text.{Text}
use Rattle.ac_terms.specs.Read.{bytes_of, environment_of, expr_of}
use Rattle.ac_terms.specs.Terms.{Expr}
use Rattle.ac_terms.specs.Defs.{Environment}
use Rattle.ac_load.specs.Loading.{shelved, shelf_of}
use Rattle.ac_rules.specs.declared.loaded.Loaded.{Loaded}
use Rattle.ac_chain.specs.Clashes.{first_program_clash}
use Rattle.ac_chain.specs.ChainTexts.{texts_of, programs_of, LoadAs}
use Rattle.ac_chain.specs.Endings.{printed}
use Rattle.ac_chain.specs.inner.Running.{AreFew}
use Rattle.ac_chain.proofs.LoadLaws.{as_many, are_few}
use Rattle.ac_chain.proofs.ProvenanceLaws.{all_provenance}
use Rattle.ac_chain.proofs.Endings.{clash_fault, all_have_run, all_faults}
use Rattle.ac_chain.proofs.chains.chain.Goals as goal

pub first_program_clash-requires-clause-many : goal.first_program_clash-requires-clause-many
first_program_clash-requires-clause-many g c =
    let same = as_many (texts_of c.args.programs.now) (shelf_of c.args.shelf.now) (programs_of c.in_ok-loaded.loaded) (subst (λ (ts : List Text). LoadAs (texts_of ts) (shelf_of c.args.shelf.now) (programs_of c.in_ok-loaded.loaded)) c.as_slice.ensures c.in_ok-loaded.ensures.load) in
    let a = length-map {B = Environment × Expr} c.in_ok-loaded.loaded (λ (l : Loaded). (environment_of l.env, expr_of l.main)) in
    let b = length-map c.args.programs.now bytes_of in
    let d = ap length c.as_slice-2.ensures in
    omega (arith, same, a, b, d)

pub first_program_clash-requires-clause-few : goal.first_program_clash-requires-clause-few
first_program_clash-requires-clause-few g c = subst AreFew (sym c.as_slice-2.ensures) (are_few c.in_ok-loaded.loaded c.in_ok-loaded.ensures.loaded)

pub returns-in-Ok-None-clause-ran : goal.returns-in-Ok-None-clause-ran
returns-in-Ok-None-clause-ran g c =
    all_have_run (texts_of c.args.programs.now) (shelf_of c.args.shelf.now) c.args.steps (printed g.C.Sink.told g.C.Sink.written g.C.Sink.faults c.args.console.now c.run_all.new.console) c.in_ok-loaded.loaded (subst (λ (ts : List Text). LoadAs (texts_of ts) (shelf_of c.args.shelf.now) (programs_of c.in_ok-loaded.loaded)) c.as_slice.ensures c.in_ok-loaded.ensures.load) (rw c.in-Ok-None.field-0-is at c.in-Ok-None.ensures ∙ ap (λ l. first_program_clash 0 (programs_of l)) c.as_slice-2.ensures) c.run_all.result c.run_all.ensures.ran

pub returns-in-Ok-None-clause-provenance : goal.returns-in-Ok-None-clause-provenance
returns-in-Ok-None-clause-provenance g c =
    let shelf = c.args.shelf.now in
    let same = length-map shelf.0 shelved in
    all_provenance (texts_of c.args.programs.now) (shelf_of shelf) c.args.steps g.C.Sink.told c.requires.shelved (omega (arith, same, c.requires.few)) c.in_ok-loaded.loaded _ _ (subst (λ (ts : List Text). LoadAs (texts_of ts) (shelf_of shelf) (programs_of c.in_ok-loaded.loaded)) c.as_slice.ensures c.in_ok-loaded.ensures.load) (sym (rw c.in-Ok-None.field-0-is at c.in-Ok-None.ensures ∙ ap (λ l. first_program_clash 0 (programs_of l)) c.as_slice-2.ensures)) c.run_all.result c.run_all.ensures.ran

pub returns-in-Ok-None-clause-fault : goal.returns-in-Ok-None-clause-fault
returns-in-Ok-None-clause-fault g c =
    all_faults (texts_of c.args.programs.now) (shelf_of c.args.shelf.now) c.args.steps (printed g.C.Sink.told g.C.Sink.written g.C.Sink.faults c.args.console.now c.run_all.new.console) c.in_ok-loaded.loaded (subst (λ (ts : List Text). LoadAs (texts_of ts) (shelf_of c.args.shelf.now) (programs_of c.in_ok-loaded.loaded)) c.as_slice.ensures c.in_ok-loaded.ensures.load) (rw c.in-Ok-None.field-0-is at c.in-Ok-None.ensures ∙ ap (λ l. first_program_clash 0 (programs_of l)) c.as_slice-2.ensures) c.run_all.result c.run_all.ensures.fault c.run_all.ensures.cause
    c.run_all.ensures.stopped

pub returns-in-Ok-Some-clause-fault : goal.returns-in-Ok-Some-clause-fault
returns-in-Ok-Some-clause-fault g c =
    clash_fault (texts_of c.args.programs.now) (shelf_of c.args.shelf.now) c.args.steps (printed g.C.Sink.told g.C.Sink.written g.C.Sink.faults c.args.console.now c.args.console.now) c.in_ok-loaded.loaded (subst (λ (ts : List Text). LoadAs (texts_of ts) (shelf_of c.args.shelf.now) (programs_of c.in_ok-loaded.loaded)) c.as_slice.ensures c.in_ok-loaded.ensures.load) c.in-Ok-Some.clash (rw c.in-Ok-Some.field-0-is at c.in-Ok-Some.ensures ∙ ap (λ l. first_program_clash 0 (programs_of l)) c.as_slice-2.ensures)
