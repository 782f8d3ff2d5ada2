use Rattle.std.proofs.Common.{List, map, ◌++◌}
use Rattle.ac_types.specs.Types.{Typ}
use Rattle.ac_types.specs.ReadTypes.{typ_of}
use Rattle.ac_terms.specs.Read.{home_of}
use Rattle.ac_code.specs.Contexts.{types_left}
use Rattle.ac_values.specs.Values.{stands_as}
use Rattle.ac_machine_meaning.specs.Stands.{environment_values}
use Rattle.ac_pack_terms.specs.Pieces.{entries_at, code_at, captured_at}
use Rattle.ac_pack_terms.specs.inner.Slots.{AreTypes}
use Rattle.ac_pack_values.proofs.travels.captured_types.Given as goal

abbrev pub invariant-loop-older : goal.invariant-loop-older
invariant-loop-older l =
    (Us : List Typ) → AreTypes (entries_at l.site) (home_of l.fn.around.home) (environment_values (code_at l.site) (stands_as l.site.store.now l.rest.0) (types_left l.types)) Us →
    AreTypes (entries_at l.site) (home_of l.fn.around.home) (captured_at l.site l.fn.around) (map typ_of l.found ++ Us)

abbrev pub decreases-loop-older : goal.decreases-loop-older
decreases-loop-older l = l.rest.0
