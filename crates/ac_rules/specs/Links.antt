-- What an import may link to, and what it is linked to.
use Rattle.std.specs.Prelude.{◌≡◌, ℕ, zero, suc, ◌+◌, Bool, true, false, ◌&&◌, ◌||◌, not, is_some, is_none, List, [], ◌∷◌, length, Option, Some, None, option_map, slice_get, map}
use Rattle.std.specs.Option.{option_map_or, option_or, option_flatten}
use Rattle.ac_types.specs.Partial.{first_failing, first_some, agree}
use Rattle.ac_types.specs.Types.{Bytes, Typ, same, same_bytes}
use Rattle.ac_types.specs.Sigs.{Signature, Sig_type, Typed_name, Range, Constraint, Ranges, Exact, Resolve, StaticLink, HereAlready, Uri, named_type, type_under, is_manifest, is_abstract, equal_under}
use Rattle.ac_terms.specs.Defs.{Environment, Entry, Module, Import, Seen, Own', Shelf, Arrived, module_at, name_at, names}
use Rattle.ac_version.specs.Versions.{atoms_fit}

-- the conditions of a link, in order; a spec is counted among the import's types and then its values, an abstract type among its types
pub data Link_fault : Type 0 where
  NoModule : Link_fault
  External : Link_fault
  Version : Link_fault
  Spec : ℕ → Link_fault
  Like : ℕ → Link_fault
  Name : Link_fault

-- whether the import is by exact name
abbrev pub is_exact : Constraint → Bool
is_exact (Ranges rs star) = false
is_exact (Exact n) = true

-- a module's type equals the import's: by exact name as it is, by version where an own abstract type of the import stands for the module's own or manifest type
abbrev pub is_equal : Bool → Signature → Option Typ → Typ → Bool
is_equal exact s None U = false
is_equal true s (Some T) U = same T U
is_equal false s (Some T) U = equal_under s T U

-- an abstract type of the import is abstract in the module, or by version manifest; a manifest type is manifest there and equal
abbrev pub has_type_spec : Bool → Signature → Sig_type → Bool
has_type_spec exact s spec = elim spec.manifest [
  | None ↦ is_abstract (type_under spec.name s.types) || (not exact && is_manifest (type_under spec.name s.types))
  | Some T ↦ is_equal exact s (option_flatten (type_under spec.name s.types)) T
]

-- a value is there with an equal type
abbrev pub has_val_spec : Bool → Signature → Typed_name → Bool
has_val_spec exact s spec = is_equal exact s (named_type spec.name s.vals) spec.ty

-- the first spec that a module's signature lacks, types first
abbrev pub missing_spec : Bool → Signature → Signature → Option ℕ
missing_spec exact s wanted =
    option_or (first_failing (has_type_spec exact s) wanted.types)
    (option_map (λ k. length wanted.types + k) (first_failing (has_val_spec exact s) wanted.vals))

-- the first abstract type whose representation in the module isn't the likespec's type
abbrev pub is_like : Module → Import → Sig_type → Bool
is_like m i spec = is_some spec.manifest || agree (named_type spec.name m.types) (named_type spec.name i.like)

abbrev pub unlike : Module → Import → Option ℕ
unlike m i = first_failing (is_like m i) i.sig.types

-- the fault where a test fails
abbrev pub fails : Bool → Link_fault → Option Link_fault
fails true f = None
fails false f = Some f

-- the conditions on an import by version and a module
abbrev pub by_version : Module → Import → List Range → Bool → List (Option Link_fault)
by_version m i rs star =
    fails (same_bytes m.name i.name) External ∷
    fails (atoms_fit rs star m.version) Version ∷
    option_map Spec (missing_spec false m.sig i.sig) ∷
    option_map Like (unlike m i) ∷ []

-- the conditions on an import by exact name and a module that keeps a name
abbrev pub by_name : Module → Import → Option Bytes → Bytes → List (Option Link_fault)
by_name m i kept n =
    fails (same_bytes m.name i.name) External ∷
    option_map Spec (missing_spec true m.sig i.sig) ∷
    fails (names kept n) Name ∷ []

-- those that apply
abbrev pub conditions : Environment → Import → ℕ → Module → Constraint → List (Option Link_fault)
conditions E i j m (Ranges rs star) = by_version m i rs star
conditions E i j m (Exact n) = by_name m i (name_at E j) n

-- the first condition that fails for an import and entry j
abbrev pub fault_at : Environment → Import → ℕ → Option Module → Option Link_fault
fault_at E i j None = Some NoModule
fault_at E i j (Some m) = first_some (conditions E i j m i.constraint)

abbrev pub link_fault : Environment → Import → ℕ → Option Link_fault
link_fault E i j = fault_at E i j (module_at E j)

abbrev pub MayLink : Environment → Import → ℕ → Type 0
MayLink E i j = link_fault E i j ≡ None

-- the last number below k that passes
abbrev pub last_below : (ℕ → Bool) → ℕ → Option ℕ
last_below test zero = None
last_below test (suc k) = elim (test k) [ true ↦ Some k | false ↦ last_below test k ]

-- the kinds of entries among which an import looks
abbrev pub is_own : Seen → Bool
is_own Own' = true
is_own _ = false

abbrev pub has_arrived : Seen → Bool
has_arrived Arrived = true
has_arrived _ = false

abbrev pub has_uri : Bytes → Seen → Bool
has_uri u (Shelf v) = same_bytes u v
has_uri _ _ = false

-- the latest entry of a kind that the import may link to
abbrev pub latest : (Seen → Bool) → Environment → Import → Option ℕ
latest kind E i =
    last_below (λ j. option_map_or (λ (e : Entry). kind e.seen) (slice_get E j) false && is_none (link_fault E i j)) (length E)

-- when an import is resolved: as the program is loaded, over the entries before it, or in a packet
pub data When : Type 0 where
  AtLoad : When
  InPacket : When

-- the entry that an atom of a resolvespec gives
abbrev pub gives : Environment → Import → When → Resolve → Option ℕ
gives E i AtLoad StaticLink = latest is_own E i
gives E i InPacket StaticLink = None
gives E i AtLoad HereAlready = latest is_own E i
gives E i InPacket HereAlready =
    option_or (latest is_own E i) (elim (is_exact i.constraint) [ true ↦ latest has_arrived E i | false ↦ None ])
gives E i when (Uri u) = latest (has_uri u) E i

-- the entry of the first atom that gives one
abbrev pub linked : Environment → Import → When → Option ℕ
linked E i when = first_some (map (gives E i when) i.by)
