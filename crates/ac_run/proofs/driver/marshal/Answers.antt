use Rattle.std.proofs.Common.{List, Some, refl, subst}
use Rattle.std.specs.Prelude.{Ok, Err}
use Rattle.ac_types.specs.ReadTypes.{typ_of}
use Rattle.ac_terms.specs.Read.{environment_of}
use Rattle.ac_code.specs.ReadCode.{table_code}
use Rattle.ac_values.specs.Values.{stands_as}
use Rattle.ac_values.specs.declared.node.Node.{Node}
use Rattle.ac_machine_engine.specs.Resumes.{resumed_text}
use Rattle.ac_meaning.specs.Packing.{answer}
use Rattle.ac_pack.specs.Crossing.{Departs}
use Rattle.ac_run.specs.inner.Crossed.{string_held}
use Rattle.ac_run.specs.declared.end.RunEnd.TheVariants as end
use Rattle.ac_run.proofs.Crossings.{taken, string_answers, no_string, fault_answers}
use Rattle.ac_run.proofs.driver.marshal.Goals as goal

pub returns-in-Ok-made-clause-answered : goal.returns-in-Ok-made-clause-answered
returns-in-Ok-made-clause-answered c =
    let held = λ (ns : List Node). string_held (environment_of c.args.env.now) (table_code c.args.table.now) c.args.mark.now.0 (stands_as ns c.args.value.now.0) (typ_of c.args.ty.now) in
    string_answers c.args.machine.now c.resume_text.new.self c.going.result c.args.journal.now c.made.new.self (held c.args.machine.now.engine.store) c.in-Ok.text.0
    (subst (λ (ns : List Node). Departs (answer (held ns)) (Ok c.in-Ok.text)) c.store.ensures c.in-Ok.ensures)
    (taken c.args.machine.now c.resume_text.new.self c.going.result (resumed_text c.in-Ok.text.0) c.resume_text.result c.resume_text.ensures.ok c.going.ensures.ok c.going.ensures.err)
    c.in-Ok-made.ensures.ok

pub returns-in_default-clause-answered : goal.returns-in_default-clause-answered
returns-in_default-clause-answered c =
    no_string c.args.machine.now c.args.machine.now (Some end.Memory) c.args.journal.now c.made.new.self
    (string_held (environment_of c.args.env.now) (table_code c.args.table.now) c.args.mark.now.0 (stands_as c.args.machine.now.engine.store c.args.value.now.0) (typ_of c.args.ty.now)) refl c.in_default.ensures.err

pub returns-in-Err-clause-answered : goal.returns-in-Err-clause-answered
returns-in-Err-clause-answered c =
    let held = λ (ns : List Node). string_held (environment_of c.args.env.now) (table_code c.args.table.now) c.args.mark.now.0 (stands_as ns c.args.value.now.0) (typ_of c.args.ty.now) in
    fault_answers c.args.machine.now c.raise_fault.new.machine c.raise_fault.result c.args.journal.now c.args.journal.now (held c.args.machine.now.engine.store) c.in-Err.fault
    (subst (λ (ns : List Node). Departs (answer (held ns)) (Err c.in-Err.fault)) c.store.ensures c.in-Err.ensures)
    (c.raise_fault.ensures.raises, c.raise_fault.ensures.memory) refl
