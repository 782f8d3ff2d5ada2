-- What the code's places stand for.
use Rattle.std.specs.Prelude.{ℕ, ◌++◌, map, unwrap_or}
use Rattle.ac_terms.specs.Defs.{Environment}
use Rattle.ac_terms.specs.Read.{entry_of}
use Rattle.ac_rules.specs.Packets.{Place, Placed}
use Rattle.ac_admit_placing.specs.declared.placing.Placing.{Placing}
use Rattle.ac_admit_placing.specs.inner.Open.{place_of}

-- the entries with those that come, and the places
abbrev pub state_of : Environment → Placing → Placed
state_of E p = (E ++ map entry_of p.more, map place_of p.places)

abbrev pub place_number : Place → ℕ
place_number q = unwrap_or q.at 0
