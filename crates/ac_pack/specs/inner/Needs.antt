-- What a type and a value at it need, where no part of them fails.
use Rattle.std.specs.Prelude.{◌≡◌, ℕ, List, None}
use Rattle.ac_types.specs.Limits.{longest_packet, deepest_nesting}
use Rattle.ac_types.specs.Types.{Typ}
use Rattle.ac_terms.specs.Terms.{PValue}
use Rattle.ac_terms.specs.Defs.{Environment}
use Rattle.ac_terms.specs.Heads.{packed_heads}
use Rattle.ac_rules.specs.Faults.{first_fault}
use Rattle.ac_rules.specs.Needed.{needed_by, roots_of}

-- the needed entries, as cut by the mark at that place
pub record AreChosen (E : Environment) (mark : ℕ) (T : Typ) (v : PValue) (is : List ℕ) : Type 0 where
  pub sound : first_fault deepest_nesting longest_packet 0 (packed_heads T v) ≡ None
  pub needed : is ≡ needed_by E mark (roots_of E T v)
