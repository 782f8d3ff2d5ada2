use Rattle.std.proofs.Common.{◌∙◌, map, ap}
use Rattle.ac_terms.specs.Terms.{In}
use Rattle.ac_terms.specs.Defs.{AModule, AnImport, AMark}
use Rattle.ac_terms.specs.Read.{environment_of, field_of, def_of_code, module_of_code, import_of_code}
use Rattle.ac_code.specs.ReadCode.{table_code}
use Rattle.ac_generate.specs.Generated.{fields_generated, field_numbers}
use Rattle.ac_generate.proofs.Written.{on_ok}
use Rattle.ac_generate.proofs.TableLaws.{entry_module, module_generated, nothing_generated, fields_kept}
use Rattle.ac_generate.proofs.generating.add_entry.Goals as goal

pub returns-in_ok-numbers-in-Module-clause-ok : goal.returns-in_ok-numbers-in-Module-clause-ok
returns-in_ok-numbers-in-Module-clause-ok c =
    let K = table_code c.args.table.now in
    let m = module_of_code c.in-Module.module in
    on_ok c.set_fields.result (λ h. module_generated (environment_of c.args.env.now) c.args.i m K _
    (entry_module c.args.env.now c.args.i c.in-Some.entry.now (AModule m) c.in-Some.ensures (ap def_of_code c.in-Module.is))
    (fields_kept c.args.i c.in_ok-numbers-in-Module.numbers c.args.table.now c.fields.new.table c.set_fields.new.self (fields_generated (In c.args.i) m.fields K) (field_numbers (In c.args.i) m.fields K)
    (c.in_ok-numbers-in-Module.ensures.ok ∙ ap (λ fs. fields_generated (In c.args.i) (map field_of fs) K) c.as_slice.ensures)
    c.in_ok-numbers-in-Module.ensures.fields
    (c.in_ok-numbers-in-Module.ensures.numbers ∙ ap (λ fs. field_numbers (In c.args.i) (map field_of fs) K) c.as_slice.ensures)
    h)) c.set_fields.ensures.ok

pub returns-in-Import-clause-ok : goal.returns-in-Import-clause-ok
returns-in-Import-clause-ok c =
    nothing_generated (environment_of c.args.env.now) c.args.i (table_code c.args.table.now)
    (entry_module c.args.env.now c.args.i c.in-Some.entry.now (AnImport (import_of_code c.in-Import.field-0)) c.in-Some.ensures (ap def_of_code c.in-Import.is))

pub returns-in-Mark-clause-ok : goal.returns-in-Mark-clause-ok
returns-in-Mark-clause-ok c =
    nothing_generated (environment_of c.args.env.now) c.args.i (table_code c.args.table.now)
    (entry_module c.args.env.now c.args.i c.in-Some.entry.now (AMark c.in-Mark.field-0.0) c.in-Some.ensures (ap def_of_code c.in-Mark.is))
