use Rattle.std.proofs.Common.{Some, refl}
use Rattle.ac_types.specs.ReadTypes.{typ_of}
use Rattle.ac_terms.specs.Read.{environment_of}
use Rattle.ac_code.specs.ReadCode.{table_code}
use Rattle.ac_machine_engine.specs.Resumes.{with_block}
use Rattle.ac_meaning.specs.Packing.{landing}
use Rattle.ac_run.specs.declared.end.RunEnd.TheVariants as end
use Rattle.ac_run.proofs.Crossings.{taken, block_answers, no_block, refused_answers}
use Rattle.ac_run.proofs.driver.unmarshal.Goals as goal

pub returns-in-Ok-entered-clause-entered : goal.returns-in-Ok-entered-clause-entered
returns-in-Ok-entered-clause-entered c =
    block_answers c.args.machine.now c.resume_block.new.self c.going.result (environment_of c.args.env.now) (environment_of c.unmarshal-entered.new.env) (table_code c.args.table.now) (table_code c.unmarshal-entered.new.table) (landing (environment_of c.args.env.now) (typ_of c.args.ty.now) c.args.text.0) c.in-Ok-entered.block.0 c.in-Ok-entered.ensures
    (taken c.args.machine.now c.resume_block.new.self c.going.result (with_block c.in-Ok-entered.block.0) c.resume_block.result c.resume_block.ensures.ok c.going.ensures.ok c.going.ensures.err)

pub returns-in_default-clause-entered : goal.returns-in_default-clause-entered
returns-in_default-clause-entered c =
    no_block c.args.machine.now c.args.machine.now (Some end.Memory) (environment_of c.args.env.now) (environment_of c.unmarshal-entered.new.env) (table_code c.args.table.now) (table_code c.unmarshal-entered.new.table) (landing (environment_of c.args.env.now) (typ_of c.args.ty.now) c.args.text.0) refl

pub returns-in-Err-clause-entered : goal.returns-in-Err-clause-entered
returns-in-Err-clause-entered c =
    refused_answers c.args.machine.now c.raise_fault.new.machine c.raise_fault.result (environment_of c.args.env.now) (environment_of c.unmarshal-entered.new.env) (table_code c.args.table.now) (table_code c.unmarshal-entered.new.table) (landing (environment_of c.args.env.now) (typ_of c.args.ty.now) c.args.text.0) c.in-Err.fault c.in-Err.ensures
    (c.raise_fault.ensures.raises, c.raise_fault.ensures.memory)
