-- The definitions that a packet needs.
use Rattle.std.specs.Prelude.{◌↔◌, ℕ, zero, suc, ◌&&◌, Bool, true, false, nat_lt, List, [], ◌∷◌, ◌++◌, length, flat_map, filter_map, position, Option, Some, None, Contains, IsTrue, slice_get, nat_eq, unwrap_or}
use Rattle.std.specs.List.{list_any}
use Rattle.ac_types.specs.Types.{Bytes, Typ, mentions, same_bytes}
use Rattle.ac_terms.specs.Terms.{PValue}
use Rattle.ac_types.specs.Sigs.{Exact, Resolve, HereAlready, Uri}
use Rattle.ac_terms.specs.Defs.{Environment, Entry, Module, Def, AModule, AnImport, AMark, Seen, Shelf, Packet, find_name}
use Rattle.ac_terms.specs.Parts.{Portion, part_refs, part_homes, part_mentions, def_parts, value_parts}
use Rattle.ac_terms.specs.Renumbered.{def_renumbered, value_renumbered}

-- whether an entry is the mark of that name
abbrev pub is_mark : Bytes → Entry → Bool
is_mark t e = elim e.def [ AMark s ↦ same_bytes s t | _ ↦ false ]

-- the entry of the mark of that name
abbrev pub mark_at : Environment → Bytes → Option ℕ
mark_at E t = position (is_mark t) E

-- where a cut module is looked for after what is there
abbrev pub uri_atoms : Seen → List Resolve
uri_atoms (Shelf u) = Uri u ∷ []
uri_atoms _ = []

-- a module before the mark is cut to an import by its exact name, by what is there and then by its URI
abbrev pub cut : Module → Bytes → Seen → Def
cut m n seen = AnImport (record { name = m.name; sig = m.sig; constraint = Exact n; like = []; by = HereAlready ∷ uri_atoms seen })

-- every other definition travels as it is
abbrev pub form_of : Def → Option Bytes → Seen → Bool → Def
form_of (AModule m) (Some n) seen true = cut m n seen
form_of d n seen before = d

-- the packet form of entry i
abbrev pub packet_form : ℕ → ℕ → Entry → Def
packet_form mark i e = form_of e.def e.name e.seen (nat_lt i mark)

-- the entries that some parts speak of: homes, references, and the least entry of each mentioned name
abbrev pub spoken_of : Environment → List Portion → List ℕ
spoken_of E ps = part_homes ps ++ part_refs ps ++ filter_map (λ (p : Bytes × Bytes). find_name E p.0) (part_mentions ps)

-- the entries that the packet form of entry i speaks of
abbrev pub uses : Environment → ℕ → ℕ → List ℕ
uses E mark i = elim (slice_get E i) [ None ↦ [] | Some e ↦ spoken_of E (def_parts (packet_form mark i e)) ]

-- the least set that holds the roots and what the packet forms of its members speak of
pub data Needs (E : Environment) (mark : ℕ) (roots : List ℕ) : ℕ → Type 0 where
  root : {i : ℕ} → Contains roots i → Needs E mark roots i
  used : {i j : ℕ} → Needs E mark roots i → Contains (uses E mark i) j → Needs E mark roots j

-- numbers that rise, from one on
abbrev pub rise_from : ℕ → List ℕ → Bool
rise_from low [] = true
rise_from low (i ∷ is) = nat_lt low (suc i) && rise_from (suc i) is

-- the needed entries in the order of the environment
pub record AreNeeded (E : Environment) (mark : ℕ) (roots is : List ℕ) : Type 0 where
  pub rises : IsTrue (rise_from 0 is)
  pub members : (i : ℕ) → Contains is i ↔ Needs E mark roots i

-- the roots of a value at a type
abbrev pub roots_of : Environment → Typ → PValue → List ℕ
roots_of E T v = spoken_of E (value_parts v) ++ filter_map (λ (p : Bytes × Bytes). find_name E p.0) (mentions T)

-- the packet of some entries in order, a type and a value: each form, with the place in the list for each number
abbrev pub place_in : List ℕ → ℕ → ℕ
place_in is k = unwrap_or (position (nat_eq k) is) 0

abbrev pub packed_def : Environment → ℕ → List ℕ → ℕ → List Def
packed_def E mark is i = elim (slice_get E i) [ None ↦ [] | Some e ↦ def_renumbered (place_in is) (packet_form mark i e) ∷ [] ]

abbrev pub packet_of_entries : Environment → ℕ → List ℕ → Typ → PValue → Packet
packet_of_entries E mark is T v = record { defs = flat_map (packed_def E mark is) is; ty = T; value = value_renumbered (place_in is) v }

-- that set computed, where each entry speaks of earlier ones alone (`needed_is_least`): downwards from entry k
abbrev pub needed_below : Environment → ℕ → ℕ → List ℕ → List ℕ
needed_below E mark zero set = []
needed_below E mark (suc k) set =
    elim (list_any (nat_eq k) set) [
      | true ↦ needed_below E mark k (set ++ uses E mark k) ++ k ∷ []
      | false ↦ needed_below E mark k set
    ]

-- the needed entries of some roots
abbrev pub needed_by : Environment → ℕ → List ℕ → List ℕ
needed_by E mark roots = needed_below E mark (length E) roots

-- the packet of a value at a type
abbrev pub packet_for : Environment → ℕ → Typ → PValue → Packet
packet_for E mark T v = packet_of_entries E mark (needed_by E mark (roots_of E T v)) T v
