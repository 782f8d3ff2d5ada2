use Rattle.std.proofs.Common.{List, [], map, subst, append-nil}
use Rattle.ac_types.specs.Types.{Typ}
use Rattle.ac_types.specs.ReadTypes.{typ_of}
use Rattle.ac_terms.specs.Read.{home_of}
use Rattle.ac_code.specs.Contexts.{types_left}
use Rattle.ac_values.specs.Values.{stands_as}
use Rattle.ac_pack_terms.specs.Pieces.{entries_at, code_at, captured_at}
use Rattle.ac_pack_terms.specs.inner.Slots.{AreTypes}
use Rattle.ac_pack_values.proofs.TravelLaws.{types_end}
use Rattle.ac_pack_values.proofs.travels.captured_types.Goals as goal

pub returns : goal.returns
returns c =
    let s = c.args.site.now in
    let h = home_of c.args.around.home in
    subst (λ (Us : List Typ). AreTypes (entries_at s) h (captured_at s c.args.around) Us) (append-nil (map typ_of c.loop-older.found))
    (c.loop-older.invariant [] (types_end (entries_at s) h (code_at s) (stands_as s.store.now c.loop-older.rest.0) (types_left c.loop-older.types) c.in_default-newest_and_rest.ensures))
