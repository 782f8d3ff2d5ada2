-- What a packet's type and value speak of, and the test of a part of it.
use Rattle.std.specs.Prelude.{ℕ, Bool, true, false, ◌&&◌, ◌++◌, nat_lt, List, map, length, slice_get}
use Rattle.std.specs.List.{list_all}
use Rattle.std.specs.Option.{option_map_or}
use Rattle.sha2.specs.Sha256.{sha256}
use Rattle.ac_types.specs.Types.{mentions}
use Rattle.ac_terms.specs.Terms.{Main, In}
use Rattle.ac_terms.specs.Defs.{Environment, Entry, Def, Packet}
use Rattle.ac_terms.specs.Parts.{Portion, OfType, OfRef, OfHome, Captured, part_mentions, part_refs, part_homes, value_parts}
use Rattle.ac_rules.specs.Views.{is_known}
use Rattle.ac_rules.specs.Packets.{alone, is_there, is_home_there, may_be_home}

abbrev pub defs_of : Environment → List Def
defs_of E = map (λ (e : Entry). e.def) E

abbrev pub home_passes : Environment → ℕ → Bool
home_passes E k = option_map_or (λ (e : Entry). may_be_home sha256 e.def) (slice_get E k) false

abbrev pub passes_there : Environment → Portion → Bool
passes_there E (OfType T) = list_all (is_known E) (mentions T)
passes_there E (OfRef j x) = nat_lt j (length E)
passes_there E (OfHome Main) = true
passes_there E (OfHome (In k)) = home_passes E k
passes_there E Captured = true

-- whether a packet speaks of some definitions alone, and of its own alone
abbrev pub spoken_in : Environment → List Def → Packet → Bool
spoken_in E ds p =
    list_all (is_known E) (mentions p.ty ++ part_mentions (value_parts p.value)) &&
    list_all (is_there sha256 ds) (part_refs (value_parts p.value)) &&
    list_all (is_home_there sha256 ds) (part_homes (value_parts p.value))

abbrev pub is_spoken : Packet → Bool
is_spoken p = spoken_in (alone sha256 p.defs) p.defs p
