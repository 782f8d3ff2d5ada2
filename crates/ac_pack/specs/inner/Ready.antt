-- What is known before a packet is written.
use Rattle.std.specs.Prelude.{◌≡◌, ◌≤◌, ℕ, List, None, length}
use Rattle.ac_types.specs.Limits.{longest_packet, deepest_nesting, most_entries}
use Rattle.ac_types.specs.Types.{Typ}
use Rattle.ac_terms.specs.Terms.{PValue}
use Rattle.ac_terms.specs.Heads.{packed_heads}
use Rattle.ac_rules.specs.Faults.{first_fault}
use Rattle.ac_pack_definitions.specs.Forms.{AllBelow}

-- some of so many entries, with a type and a value at it of which no part fails
pub record IsReady (entries : ℕ) (chosen : List ℕ) (T : Typ) (v : PValue) : Type 0 where
  pub few : entries ≤ most_entries
  pub short : length chosen ≤ most_entries
  pub below : AllBelow entries chosen
  pub sound : first_fault deepest_nesting longest_packet 0 (packed_heads T v) ≡ None
