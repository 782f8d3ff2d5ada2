use Rattle.std.proofs.Common.{◌≡◌, sym, ◌∙◌, true, false, arith, rules}
use Rattle.ac_types.specs.ReadTypes.{typ_of}
use Rattle.ac_terms.specs.Terms.{PValue}
use Rattle.ac_terms.specs.Defs.{Environment, Packet}
use Rattle.ac_terms.specs.Read.{environment_of}
use Rattle.ac_code.specs.ReadCode.{table_code}
use Rattle.ac_values.specs.Values.{stands_as}
use Rattle.ac_rules.specs.Needed.{place_in, packet_of_entries}
use Rattle.ac_meaning.specs.BarePacking.{bare_packed}
use Rattle.ac_machine_meaning.specs.Stands.{stands}
use Rattle.ac_pack.proofs.PackLaws.{too_deep, too_many, spelled}
use Rattle.ac_pack.proofs.packing.whole.Goals as goal

pub returns-then-not-forms_nest : goal.returns-then-not-forms_nest
returns-then-not-forms_nest c =
    let E : Environment = environment_of c.args.env.now in
    let v : PValue = bare_packed E (stands (table_code c.args.table.now) (stands_as c.args.store.now c.args.value.0)) (typ_of c.args.ty.now) in
    let p : Packet = packet_of_entries E c.args.mark c.args.chosen.now (typ_of c.args.ty.now) v in
    let r : c.forms_nest.result ≡ false = first_of (cc, search rules, grind arith) in
    too_deep p (sym (c.forms_nest.ensures (place_in c.args.chosen.now)) ∙ r)

pub returns-in-Err : goal.returns-in-Err
returns-in-Err c =
    let E : Environment = environment_of c.args.env.now in
    let v : PValue = bare_packed E (stands (table_code c.args.table.now) (stands_as c.args.store.now c.args.value.0)) (typ_of c.args.ty.now) in
    let p : Packet = packet_of_entries E c.args.mark c.args.chosen.now (typ_of c.args.ty.now) v in
    let r : c.forms_nest.result ≡ true = first_of (cc, search rules, grind arith) in
    too_many p c.in-Err.stop c.of_stop.result (sym (c.forms_nest.ensures (place_in c.args.chosen.now)) ∙ r) c.in-Err.ensures c.of_stop.ensures

pub returns-in-Ok : goal.returns-in-Ok
returns-in-Ok c =
    let E : Environment = environment_of c.args.env.now in
    let v : PValue = bare_packed E (stands (table_code c.args.table.now) (stands_as c.args.store.now c.args.value.0)) (typ_of c.args.ty.now) in
    let p : Packet = packet_of_entries E c.args.mark c.args.chosen.now (typ_of c.args.ty.now) v in
    let r : c.forms_nest.result ≡ true = first_of (cc, search rules, grind arith) in
    spelled p c.in-Ok.text (sym (c.forms_nest.ensures (place_in c.args.chosen.now)) ∙ r) c.in-Ok.ensures.0 c.in-Ok.ensures.1
