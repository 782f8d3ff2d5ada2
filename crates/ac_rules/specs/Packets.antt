-- Which packets are accepted, and what they add.
use Rattle.std.specs.Prelude.{◌≡◌, ℕ, suc, ◌&&◌, not, Bool, true, false, nat_lt, is_some, List, [], ◌∷◌, ◌++◌, length, position, Option, Some, None, option_and_then, option_map, slice_get, unwrap_or, nat_eq}
use Rattle.std.specs.List.{list_all, list_any}
use Rattle.std.specs.Option.{option_map_or, option_eq}
use Rattle.sha2.specs.Sha256.{sha256}
use Rattle.ac_types.specs.Limits.{most_entries}
use Rattle.ac_types.specs.Types.{Bytes, Typ, mentions, same, same_bytes}
use Rattle.ac_terms.specs.Terms.{PValue}
use Rattle.ac_terms.specs.Defs.{Environment, Entry, Import, Def, AModule, AnImport, AMark, Arrived, Packet}
use Rattle.ac_rules.specs.Views.{Coloured, is_known}
use Rattle.ac_rules.specs.Typing.{holds}
use Rattle.ac_types.specs.Partial.{given, first_some, first_failing, first_wrong, alike, differ}
use Rattle.ac_terms.specs.Spelling.{def_bytes, four_written, module_bytes}
use Rattle.ac_terms.specs.Names.{name_by, text_of_entry}
use Rattle.ac_rules.specs.Links.{linked, InPacket, is_exact}
use Rattle.ac_terms.specs.Parts.{part_refs, part_homes, part_mentions, value_parts, def_parts}
use Rattle.ac_terms.specs.Renumbered.{def_renumbered, value_renumbered}
use Rattle.ac_rules.specs.Modules.{is_well_formed}

-- where a definition of a packet is placed, if it is, and whether it is an import without a link
pub record Place : Type 0 where
  pub at : Option ℕ
  pub unresolved : Bool

-- the number that stands for a definition of the packet
abbrev pub placed_number : List Place → ℕ → ℕ
placed_number ps k = unwrap_or (option_and_then (λ (p : Place). p.at) (slice_get ps k)) 0

abbrev pub is_unresolved : List Place → ℕ → Bool
is_unresolved ps k = option_map_or (λ (p : Place). p.unresolved) (slice_get ps k) true

-- a definition's spelling with references of four bytes, so that no number of an entry is cut
abbrev pub wide_bytes : Def → Bytes
wide_bytes (AModule m) = module_bytes four_written m
wide_bytes (AnImport i) = def_bytes (AnImport i)
wide_bytes (AMark t) = def_bytes (AMark t)

-- two definitions are equal where these spellings are
abbrev pub same_def : Def → Def → Bool
same_def d c = same_bytes (wide_bytes d) (wide_bytes c)

-- the least entry that equals a definition, in definition and in link
abbrev pub find_def : Environment → Def → Option ℕ → Option ℕ
find_def E d link = position (λ (e : Entry). same_def d e.def && option_eq nat_eq link e.link) E

-- why a packet is refused, in the order of the causes
pub data PacketCause : Type 0 where
  Definition : ℕ → PacketCause
  Clash : ℕ → ℕ → PacketCause
  Full : ℕ → PacketCause
  Unresolved : ℕ → PacketCause
  WrongType : PacketCause
  NoValue : PacketCause

-- the environment, and the places, after a definition
abbrev pub Placed : Type 0
Placed = Environment × List Place

-- nothing asks more of a digest than that it is a function; at the end it is SHA-256
module _ (digest : Bytes → Bytes) where
  -- the definitions of a packet by themselves, each under its name, without links
  abbrev pub alone_after : Environment → List Def → Environment
  alone_after E [] = E
  alone_after E (d ∷ ds) = alone_after (E ++ record { def = d; name = name_by digest E d; seen = Arrived; link = None } ∷ []) ds

  abbrev pub alone : List Def → Environment
  alone ds = alone_after [] ds

  -- a new entry
  abbrev pub put : Placed → Def → Option ℕ → Bool → Placed
  put s d link unresolved = (
    s.0 ++ record { def = d; name = name_by digest s.0 d; seen = Arrived; link = link } ∷ [],
    s.1 ++ record { at = Some (length s.0); unresolved = unresolved } ∷ [],
  )

  -- an entry that is there
  abbrev pub placed_there : Placed → ℕ → Placed
  placed_there s j = (s.0, s.1 ++ record { at = Some j; unresolved = false } ∷ [])

  -- an entry that equals it, or a new one
  abbrev pub found_or_put : Placed → Def → Option ℕ → Placed
  found_or_put s d link = elim (find_def s.0 d link) [ Some j ↦ placed_there s j | None ↦ put s d link false ]

  -- an import by exact name becomes what it links to; without a link it has no place
  abbrev pub place_exact : Placed → Option ℕ → Placed
  place_exact s None = (s.0, s.1 ++ record { at = None; unresolved = true } ∷ [])
  place_exact s (Some j) = placed_there s j

  -- an import by version without a link is new
  abbrev pub place_ranges : Placed → Import → Option ℕ → Placed
  place_ranges s i None = put s (AnImport i) None true
  place_ranges s i (Some j) = found_or_put s (AnImport i) (Some j)

  -- a definition that refers to an import without a link is new too: an empty mark stands for it, which equals no definition. Any other is found or put, with its numbers rewritten
  abbrev pub place : Environment → Placed → Def → Placed
  place E s (AnImport i) = elim (is_exact i.constraint) [ true ↦ place_exact s (linked E i InPacket) | false ↦ place_ranges s i (linked E i InPacket) ]
  place E s d =
      let there : Def = def_renumbered (placed_number s.1) d in
      elim (list_any (is_unresolved s.1) (part_refs (def_parts d))) [ true ↦ put s (AMark []) None false | false ↦ found_or_put s there None ]

  abbrev pub place_all : Environment → Placed → List Def → Placed
  place_all E s [] = s
  place_all E s (d ∷ ds) = place_all E (place E s d) ds

  -- the entries and places that the definitions of a packet take
  abbrev pub places : Environment → List Def → Placed
  places E ds = place_all E (E, []) ds

  -- 1: the first definition that isn't well formed among the packet's definitions alone
  abbrev pub ill_formed : List Def → Option PacketCause
  ill_formed ds = option_map Definition (first_wrong 0 (is_well_formed (alone ds)) ds)

  -- 2: the first definition with the name of an entry or an earlier definition that has another text, and the least such; the packet's definitions are counted after the entries. Of each its name and its text
  abbrev pub Named : Type 0
  Named = Option Bytes × Option Bytes

  abbrev pub named_from : ℕ → Environment → List Entry → List Named
  named_from i E [] = []
  named_from i E (e ∷ es) = (e.name, text_of_entry E i) ∷ named_from (suc i) E es

  abbrev pub clashes : Named → Named → Bool
  clashes a b = alike a.0 b.0 && differ a.1 b.1

  abbrev pub first_clash : List Named → ℕ → List Named → Option PacketCause
  first_clash known i [] = None
  first_clash known i (a ∷ rest) = elim (position (clashes a) known) [ Some j ↦ Some (Clash i j) | None ↦ first_clash (known ++ a ∷ []) (suc i) rest ]

  abbrev pub clash : Environment → List Def → Option PacketCause
  clash E ds = first_clash (named_from 0 E E) 0 (named_from 0 (alone ds) (alone ds))

  -- 3: more entries than there may be
  abbrev pub too_many : Environment → List Def → Option PacketCause
  too_many E ds = given (nat_lt most_entries (length (places E ds).0)) (Some (Full (length (places E ds).0)))

  -- 4: the first import without a link
  abbrev pub is_resolved : Environment → Def → Bool
  is_resolved E (AModule m) = true
  is_resolved E (AnImport i) = is_some (linked E i InPacket)
  is_resolved E (AMark t) = true

  abbrev pub unresolved : Environment → List Def → Option PacketCause
  unresolved E ds = option_map Unresolved (first_failing (is_resolved E) ds)

  -- 5: another type
  abbrev pub wrong_type : Packet → Typ → Option PacketCause
  wrong_type p T = given (not (same p.ty T)) (Some WrongType)

  -- 6: what the type and the value speak of is of the packet, a home is no import by version, and the value holds
  abbrev pub value_there : Environment → Packet → PValue
  value_there E p = value_renumbered (placed_number (places E p.defs).1) p.value

  abbrev pub may_be_home : Def → Bool
  may_be_home (AModule m) = true
  may_be_home (AnImport i) = is_exact i.constraint
  may_be_home (AMark t) = false

  abbrev pub is_there : List Def → ℕ → Bool
  is_there ds k = nat_lt k (length ds)

  abbrev pub is_home_there : List Def → ℕ → Bool
  is_home_there ds k = option_map_or may_be_home (slice_get ds k) false

  abbrev pub is_value : Environment → Packet → Typ → Bool
  is_value E p T =
      list_all (is_known (alone p.defs)) (mentions p.ty ++ part_mentions (value_parts p.value)) &&
      list_all (is_there p.defs) (part_refs (value_parts p.value)) &&
      list_all (is_home_there p.defs) (part_homes (value_parts p.value)) &&
      holds Coloured false (places E p.defs).0 (value_there E p) T

  abbrev pub no_value : Environment → Packet → Typ → Option PacketCause
  no_value E p T = given (not (is_value E p T)) (Some NoValue)

  -- the first cause that applies
  abbrev pub cause : Environment → Packet → Typ → Option PacketCause
  cause E p T =
      first_some (ill_formed p.defs ∷ clash E p.defs ∷ too_many E p.defs ∷ unresolved E p.defs ∷ wrong_type p T ∷ no_value E p T ∷ [])

-- a packet is refused at a type, for the first cause that applies
abbrev pub RefusesPacket : Environment → Packet → Typ → PacketCause → Type 0
RefusesPacket E p T c = cause sha256 E p T ≡ Some c

-- a packet is accepted at a type where none applies; E' is E with the new entries, and v the value over it
pub record Accepts (E : Environment) (p : Packet) (T : Typ) (E' : Environment) (v : PValue) : Type 0 where
  pub no_cause : cause sha256 E p T ≡ None
  pub entries : E' ≡ (places sha256 E p.defs).0
  pub value : v ≡ value_there sha256 E p
