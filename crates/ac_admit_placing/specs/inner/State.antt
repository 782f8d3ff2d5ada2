-- What holds of the code's places at each definition.
use Rattle.std.specs.Prelude.{◌≡◌, ◌≤◌, Bool, true, ◌++◌, length, map}
use Rattle.std.specs.List.{list_all}
use Rattle.ac_terms.specs.Defs.{Environment, Entry}
use Rattle.ac_terms.specs.Read.{entry_of}
use Rattle.ac_admit_placing.specs.declared.placing.Placing.{Placing}
use Rattle.ac_admit_placing.specs.Placed.{place_number}
use Rattle.ac_admit_placing.specs.inner.Keys.{keyed, is_short}
use Rattle.ac_admit_placing.specs.inner.Maps.{Key, key_found}
use Rattle.ac_admit_placing.specs.inner.Open.{place_of}

abbrev pub has_short_link : Entry → Bool
has_short_link e = is_short e.link

pub record IsSound (E : Environment) (p : Placing) : Type 0 where
  -- the number of each definition is that of its place
  pub numbers : p.numbers ≡ map place_number (map place_of p.places)
  -- each key has its least entry
  pub keys : (k : Key) → key_found p.keys k ≡ keyed (E ++ map entry_of p.more) k.items
  -- links have four bytes
  pub short : list_all has_short_link (E ++ map entry_of p.more) ≡ true
  -- a definition brings one entry at most
  pub few : length p.more ≤ length p.places
