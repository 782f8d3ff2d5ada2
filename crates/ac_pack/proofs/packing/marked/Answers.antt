use Rattle.std.proofs.Common.{◌≤◌, subst, length, arith}
use Rattle.std.proofs.lemmas.List.{length-map}
use Rattle.ac_types.specs.ReadTypes.{typ_of}
use Rattle.ac_terms.specs.Terms.{PValue}
use Rattle.ac_terms.specs.Defs.{Environment}
use Rattle.ac_terms.specs.Read.{environment_of, entry_of}
use Rattle.ac_code.specs.ReadCode.{table_code}
use Rattle.ac_values.specs.Values.{stands_as}
use Rattle.ac_meaning.specs.BarePacking.{bare_packed}
use Rattle.ac_machine_meaning.specs.Stands.{stands}
use Rattle.ac_pack_definitions.specs.Forms.{AllBelow}
use Rattle.ac_pack.proofs.PackLaws.{few_chosen, inside}
use Rattle.ac_pack.proofs.packing.marked.Goals as goal

pub whole-requires : goal.whole-requires
whole-requires c =
    let E : Environment = environment_of c.args.env.now in
    let v : PValue = bare_packed E (stands (table_code c.args.table.now) (stands_as c.args.store.now c.args.value.0)) (typ_of c.args.ty.now) in
    let few : length E ≤ 65535 = omega (arith, c.requires.few, length-map c.args.env.now.entries entry_of) in
    record {
      few = c.requires.few;
      short = few_chosen E c.args.at (typ_of c.args.ty.now) v c.in-Ok.chosen c.as_slice.result.now c.as_slice.ensures c.in-Ok.ensures few;
      below = subst (λ n. AllBelow n c.as_slice.result.now) (length-map c.args.env.now.entries entry_of)
          (inside E c.args.at (typ_of c.args.ty.now) v c.in-Ok.chosen c.as_slice.result.now c.as_slice.ensures c.in-Ok.ensures);
      sound = c.in-Ok.ensures.sound;
    }
