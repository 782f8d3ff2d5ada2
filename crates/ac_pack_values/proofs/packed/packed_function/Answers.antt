use Rattle.std.proofs.Common.{◌≡◌, true}
use Rattle.ac_types.specs.ReadTypes.{typ_of}
use Rattle.ac_terms.specs.Bounds.{is_lambda}
use Rattle.ac_terms.specs.Read.{home_of, expr_of}
use Rattle.ac_pack_terms.specs.Pieces.{entries_at}
use Rattle.ac_pack_values.proofs.ListLaws.{visits_value}
use Rattle.ac_pack_values.proofs.FunctionLaws.{packed_function}
use Rattle.ac_pack_values.proofs.packed.packed_function.Goals as goal

pub returns : goal.returns
returns c =
    let l = expr_of c.args.lambda.now in
    let q : is_lambda l ≡ true = cc in
    visits_value c.function.result c.args.d _ _ c.args.walk.now c.function.new.walk (packed_function (entries_at c.args.walk.now.site) (home_of c.args.home) l (typ_of c.args.ty.now) q) c.function.ensures
