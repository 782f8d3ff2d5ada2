use Rattle.std.proofs.Common.{◌∙◌, sym, ap, suc}
use Rattle.ac_types.specs.Types.{TExn}
use Rattle.ac_types.specs.ReadTypes.{typ_of}
use Rattle.ac_values.specs.Values.{values, node_value}
use Rattle.ac_meaning.specs.BarePacking.{bare_packed}
use Rattle.ac_machine_meaning.specs.Stands.{stands}
use Rattle.ac_pack_terms.specs.Pieces.{entries_at, code_at}
use Rattle.ac_pack_values.proofs.ListLaws.{visits_deeper}
use Rattle.ac_pack_values.proofs.FunctionLaws.{exception_anywhere}
use Rattle.ac_pack_values.proofs.held.held.Goals as goal

pub returns-in-ExnOf : goal.returns-in-ExnOf
returns-in-ExnOf c =
    let s = c.args.walk.now.site in
    let ts = values s.store.now in
    let T = typ_of c.args.ty.now in
    visits_deeper c.exception.result c.in_ok-d.d (suc c.args.outer) _ _ c.args.walk.now c.exception.new.walk c.in_ok-d.ensures
    (exception_anywhere (entries_at s) (code_at s) ts c.in-ExnOf.exn c.in-ExnOf.text TExn T
    ∙ ap (λ m. bare_packed (entries_at s) (stands (code_at s) m) T) (sym (c.in-Some.ensures.also ∙ ap (node_value ts) c.in-ExnOf.is)))
    c.exception.ensures
