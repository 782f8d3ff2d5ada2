-- Places of the code, and the test that a reference goes to no import without a link.
use Rattle.std.specs.Prelude.{Bool, true, not, List}
use Rattle.ac_terms.specs.Parts.{Portion, OfType, OfRef, OfHome, Captured}
use Rattle.ac_rules.specs.Packets.{Place, is_unresolved}
use Rattle.ac_admit_placing.specs.declared.places.Place as code

abbrev pub place_of : code.Place → Place
place_of p = record { at = p.at; unresolved = p.unresolved }

abbrev pub passes_resolved : List Place → Portion → Bool
passes_resolved ps (OfType T) = true
passes_resolved ps (OfRef j x) = not (is_unresolved ps j)
passes_resolved ps (OfHome c) = true
passes_resolved ps Captured = true
