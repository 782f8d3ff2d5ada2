use Rattle.ac_types.specs.ReadTypes.{typ_of}
use Rattle.ac_terms.specs.Terms.{PValue}
use Rattle.ac_terms.specs.Defs.{Environment}
use Rattle.ac_terms.specs.Read.{environment_of}
use Rattle.ac_code.specs.ReadCode.{table_code}
use Rattle.ac_values.specs.Values.{stands_as}
use Rattle.ac_meaning.specs.BarePacking.{bare_packed}
use Rattle.ac_machine_meaning.specs.Stands.{stands}
use Rattle.ac_pack.proofs.PackLaws.{are_chosen}
use Rattle.ac_pack.proofs.packing.chosen.Goals as goal

pub returns : goal.returns
returns c =
    let E : Environment = environment_of c.args.env.now in
    let v : PValue = bare_packed E (stands (table_code c.args.table.now) (stands_as c.args.store.now c.args.value.0)) (typ_of c.args.ty.now) in
    are_chosen E c.args.mark.now.0 c.args.at (typ_of c.args.ty.now) v c.in-Ok-needed.chosen c.in-Ok.written.roots c.requires.marked c.in-Ok.ensures.0 c.in-Ok.ensures.2 c.in-Ok-needed.ensures.computed
