use Rattle.std.proofs.Common.{map}
use Rattle.ac_types.specs.ReadTypes.{typ_of}
use Rattle.ac_terms.specs.Read.{home_of}
use Rattle.ac_pack_terms.specs.Pieces.{entries_at, captured_at}
use Rattle.ac_pack_values.proofs.TravelLaws.{travels_at}
use Rattle.ac_pack_values.proofs.travels.closure_may_travel.Goals as goal

pub returns : goal.returns
returns c =
    let s = c.args.site.now in
    travels_at (entries_at s) (home_of c.args.around.home) c.args.around.binders (captured_at s c.args.around) (map typ_of c.in_ok-vars.vars) c.args.function.now (typ_of c.args.ty.now) c.travels_with-travels.result
    c.requires.outside c.in_ok-vars.ensures c.travels_with-travels.ensures
