-- Coherent environments: what holds of every environment that a program has.
use Rattle.std.specs.Prelude.{◌≡◌, ℕ, ◌<◌, ◌≤◌, ◌&&◌, Bool, true, nat_le, List, [], ◌∷◌, length, filter_map, Option, Some, None, option_and_then, slice_get, IsTrue}
use Rattle.ac_types.specs.Types.{Bytes}
use Rattle.ac_types.specs.Limits.{is_uri, most_entries}
use Rattle.ac_terms.specs.Defs.{Environment, Entry, Def, AModule, AnImport, AMark, Seen, Own', Shelf, Arrived, def_of, name_at}
use Rattle.ac_terms.specs.Names.{text_of_entry, name_of_entry}
use Rattle.ac_terms.specs.Bounds.{fits_def}
use Rattle.ac_rules.specs.Links.{MayLink}
use Rattle.ac_rules.specs.Modules.{are_distinct, refers_back, mentions_known, is_plain_def, has_distinct_names, has_closed_sig, has_sound_fields, has_sound_likes}

-- a test of each definition and its number
abbrev pub Each : Environment → (ℕ → Def → Bool) → Type 0
Each E test = (i : ℕ) (d : Def) → def_of E i ≡ Some d → IsTrue (test i d)

-- what an entry is linked to
abbrev pub link_at : Environment → ℕ → Option ℕ
link_at E i = option_and_then (λ (e : Entry). e.link) (slice_get E i)

-- an import is linked to an earlier module that it may link to; nothing else is linked
abbrev pub IsLinked : Environment → ℕ → Def → Type 0
IsLinked E i (AModule m) = link_at E i ≡ None
IsLinked E i (AnImport m) = (j : ℕ) × (link_at E i ≡ Some j) × (j < i) × MayLink E m j
IsLinked E i (AMark t) = link_at E i ≡ None

-- shelf entries stand first, then own entries, then arrived ones
abbrev pub rank : Seen → ℕ
rank (Shelf u) = 0
rank Own' = 1
rank Arrived = 2

abbrev pub rises : ℕ → List Entry → Bool
rises low [] = true
rises low (e ∷ es) = nat_le low (rank e.seen) && rises (rank e.seen) es

-- the URI of a shelf entry, and the name of a mark
abbrev pub uri_of : Entry → Option Bytes
uri_of e = elim e.seen [ Own' ↦ None | Shelf u ↦ Some u | Arrived ↦ None ]

abbrev pub mark_of : Entry → Option Bytes
mark_of e = elim e.def [ AMark t ↦ Some t | _ ↦ None ]

abbrev pub IsAModule : Def → Type 0
IsAModule (AModule m) = Unit {0}
IsAModule _ = ⊥

pub record IsCoherent (E : Environment) : Type 0 where
  -- there are at most so many entries: those of the shelf, own ones, arrived ones
  pub few : length E ≤ most_entries
  pub in_order : IsTrue (rises 0 E)
  -- shelf entries are modules of distinct URIs
  pub from_shelf : (i : ℕ) (e : Entry) (u : Bytes) → slice_get E i ≡ Some e → e.seen ≡ Shelf u → IsTrue (is_uri u) × IsAModule e.def
  pub uris_distinct : IsTrue (are_distinct (filter_map uri_of E))
  -- marks have distinct names
  pub marks_distinct : IsTrue (are_distinct (filter_map mark_of E))
  -- each entry keeps its name, and entries of one name have one text
  pub named : (i : ℕ) → i < length E → name_at E i ≡ name_of_entry E i
  pub one_text : (i j : ℕ) (n s t : Bytes) → name_at E i ≡ Some n → name_at E j ≡ Some n → text_of_entry E i ≡ Some s → text_of_entry E j ≡ Some t → s ≡ t
  -- each definition is within the bounds of its spelling, but for nesting
  pub within_bounds : Each E (λ i d. fits_def d)
  -- it speaks of earlier definitions alone
  pub refers : Each E (refers_back E)
  pub mentions : Each E (mentions_known E)
  -- it is well formed in itself
  pub plain : Each E (λ i d. is_plain_def d)
  pub distinct : Each E (λ i d. has_distinct_names d)
  pub closed : Each E (λ i d. has_closed_sig d)
  pub fields_sound : Each E (has_sound_fields E)
  pub likes_sound : Each E (λ i d. has_sound_likes d)
  -- each import is linked
  pub linked : (i : ℕ) (d : Def) → def_of E i ≡ Some d → IsLinked E i d
