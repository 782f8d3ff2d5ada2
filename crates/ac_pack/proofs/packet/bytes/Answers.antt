use Rattle.std.proofs.Common.{◌≡◌, ◌∙◌, ap, subst}
use Rattle.ac_types.specs.Types.{Bytes}
use Rattle.ac_types.specs.ReadTypes.{typ_of}
use Rattle.ac_terms.specs.Terms.{PValue}
use Rattle.ac_terms.specs.Defs.{Environment}
use Rattle.ac_terms.specs.Read.{environment_of}
use Rattle.ac_code.specs.ReadCode.{table_code}
use Rattle.ac_values.specs.Values.{stands_as}
use Rattle.ac_rules.specs.Needed.{place_in}
use Rattle.ac_meaning.specs.BarePacking.{bare_packed}
use Rattle.ac_machine_meaning.specs.Stands.{stands}
use Rattle.ac_terms_renumber.specs.Numbers.{number_for}
use Rattle.ac_pack.specs.inner.Wholes.{IsWhole}
use Rattle.ac_pack.proofs.PackLaws.{joined, front_long}
use Rattle.ac_pack.proofs.packet.bytes.Goals as goal

pub returns-in-Err : goal.returns-in-Err
returns-in-Err c =
    let E : Environment = environment_of c.args.env.now in
    let v : PValue = bare_packed E (stands (table_code c.args.table.now) (stands_as c.args.store.now c.args.value.0)) (typ_of c.args.ty.now) in
    let placed : number_for c.as_slice-numbers.result.now ≡ place_in c.args.chosen.now = ap number_for c.as_slice-numbers.ensures.value ∙ c.in_ok-places.ensures in
    front_long E c.args.mark c.args.chosen.now (typ_of c.args.ty.now) v c.as_slice-numbers.result.now placed c.in-Err.stop c.in-Err.ensures

pub returns : goal.returns
returns c =
    let E : Environment = environment_of c.args.env.now in
    let v : PValue = bare_packed E (stands (table_code c.args.table.now) (stands_as c.args.store.now c.args.value.0)) (typ_of c.args.ty.now) in
    let placed : number_for c.as_slice-numbers.result.now ≡ place_in c.args.chosen.now = ap number_for c.as_slice-numbers.ensures.value ∙ c.in_ok-places.ensures in
    subst (λ (bs : Bytes). IsWhole c.joined.result bs)
    (joined E c.args.mark c.args.chosen.now (typ_of c.args.ty.now) v c.as_slice-numbers.result.now placed c.in-Ok.text.0 c.in-Ok-write.written.text.0 c.in-Ok.ensures c.in-Ok-write.ensures.1) c.joined.ensures
