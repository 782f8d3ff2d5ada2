-- The definitions of a packet, in the forms in which entries travel, and their bytes.
use Rattle.std.specs.Prelude.{◌≡◌, ℕ, ◌<◌, List, [], ◌∷◌, ◌++◌, length, flat_map, Some, None, slice_get}
use Rattle.ac_types.specs.Limits.{longest_packet}
use Rattle.ac_types.specs.Types.{Bytes}
use Rattle.ac_terms.specs.Defs.{Environment, Def}
use Rattle.ac_terms.specs.Renumbered.{def_renumbered}
use Rattle.ac_terms.specs.Spelling.{two_written, listed, def_bytes}
use Rattle.ac_terms.specs.Tags.{packet_front, packet_in_full}
use Rattle.ac_rules.specs.Needed.{packet_form}
use Rattle.ac_rules.specs.Faults.{Fault, Size}
use Rattle.ac_pack_heads.specs.declared.stop.Stop.{Stop}
use Rattle.ac_pack_heads.specs.Outcomes.{fault_in}

-- each number of a list is below n
abbrev pub AllBelow : ℕ → List ℕ → Type 0
AllBelow n [] = Unit {0}
AllBelow n (k ∷ ks) = (k < n) × AllBelow n ks

-- the form of entry i with other numbers, in a list of its own; none past the last entry
abbrev pub form_at : Environment → ℕ → (ℕ → ℕ) → ℕ → List Def
form_at E mark f i = elim (slice_get E i) [ None ↦ [] | Some e ↦ def_renumbered f (packet_form mark i e) ∷ [] ]

-- the forms of some entries
abbrev pub forms : Environment → ℕ → (ℕ → ℕ) → List ℕ → List Def
forms E mark f is = flat_map (form_at E mark f) is

-- the bytes of a packet in front of its type and value
abbrev pub front_bytes : List Def → Bytes
front_bytes ds = packet_front ++ packet_in_full ∷ listed two_written def_bytes ds

-- a fault at which writing these bytes stops is their size
abbrev pub IsLong : Stop → Bytes → Type 0
IsLong e bs = (f : Fault) → fault_in e ≡ Some f → (f ≡ Size) × (longest_packet < length bs)
