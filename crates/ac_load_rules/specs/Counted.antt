-- Definitions whose lists are no longer than they may be.
use Rattle.std.specs.Prelude.{◌&&◌, Bool, true, nat_le, length}
use Rattle.ac_types.specs.Limits.{most_items}
use Rattle.ac_types.specs.Sigs.{Signature}
use Rattle.ac_terms.specs.Defs.{Def, AModule, AnImport, AMark, Entry}

abbrev pub is_counted_sig : Signature → Bool
is_counted_sig s = nat_le (length s.types) most_items && nat_le (length s.vals) most_items

abbrev pub is_counted : Def → Bool
is_counted (AModule m) = is_counted_sig m.sig && nat_le (length m.fields) most_items
is_counted (AnImport i) = is_counted_sig i.sig
is_counted (AMark t) = true

abbrev pub has_counted : Entry → Bool
has_counted e = is_counted e.def
