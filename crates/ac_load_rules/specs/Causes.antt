-- Why a part is refused, a program or a text of the shelf, once it has a tree: the first cause that applies.
use Rattle.std.specs.Prelude.{ℕ, zero, suc, ◌+◌, ◌&&◌, Bool, false, not, is_none, List, [], ◌∷◌, ◌++◌, length, drop, Option, Some, None, option_map}
use Rattle.std.specs.Option.{option_map_or, option_or}
use Rattle.ac_types.specs.Partial.{given, first_failing, first_some, differ}
use Rattle.ac_types.specs.Types.{Bytes, Typ}
use Rattle.ac_terms.specs.Terms.{Main}
use Rattle.ac_terms.specs.Defs.{Environment, Field, Def, AModule, AnImport, Seen, Entry, name_at, names}
use Rattle.ac_terms.specs.Names.{text_of_entry}
use Rattle.ac_rules.specs.Views.{Coloured}
use Rattle.ac_rules.specs.Typing.{all_of, type_of}
use Rattle.ac_rules.specs.Links.{is_exact, linked, AtLoad}
use Rattle.ac_rules.specs.Modules.{is_valuable, uncovered, like_missing, are_typed}
use Rattle.ac_syntax.specs.Trees.{ProgramTree}
use Rattle.ac_syntax.specs.declared.fault.ParseFault.{ParseFault}
use Rattle.ac_resolve_scopes.specs.Surfaces.{SurfaceFault, surface_entries, surface_main, surface_fault}

-- the causes, in order. A definition is counted in its part, the expression behind the last; an entry among all entries; a spec among the types and then the values
pub data Cause : Type 0 where
  NoTree : ParseFault → Cause
  BadScopes : SurfaceFault → Cause
  IllTyped : (def : ℕ) → Cause
  Uncovered : (def spec : ℕ) → Cause
  NotValuable : (def field : ℕ) → Cause
  LikeMissing : (def spec : ℕ) → Cause
  Unresolved : (def : ℕ) → Cause
  Clash : (first second : ℕ) → Cause

-- entries behind those in front of them: where they come from is noted, and each import is linked
abbrev pub link_of : Environment → Def → Option ℕ
link_of E (AnImport i) = linked E i AtLoad
link_of _ _ = None

abbrev pub linked_entry : Seen → Environment → Entry → Entry
linked_entry seen E e = record e { seen = seen; link = link_of E e.def }

abbrev pub linked_behind : Seen → Environment → List Entry → List Entry
linked_behind seen E [] = []
linked_behind seen E (e ∷ es) = linked_entry seen E e ∷ linked_behind seen (E ++ linked_entry seen E e ∷ []) es

-- the first of some entries, counted from k on, at which something is found
abbrev pub first_at : {A : Type 0} → ℕ → (ℕ → Entry → Option A) → List Entry → Option A
first_at k f [] = None
first_at k f (e ∷ es) = option_or (f k e) (first_at (suc k) f es)

-- the first number below n at which something is found
abbrev pub first_below : {A : Type 0} → ℕ → (ℕ → Option A) → Option A
first_below zero f = None
first_below (suc k) f = option_or (first_below k f) (f k)

-- definition k, an entry of E behind the first n, with an ill-typed field
abbrev pub ill_typed : Environment → ℕ → ℕ → Entry → Option Cause
ill_typed E n k e = elim e.def [ AModule m ↦ given (not (are_typed E (n + k) 0 m.fields)) (Some (IllTyped k)) | _ ↦ None ]

-- with a struct that doesn't cover its signature
abbrev pub uncovering : ℕ → Entry → Option Cause
uncovering k e = elim e.def [ AModule m ↦ option_map (Uncovered k) (uncovered m) | _ ↦ None ]

-- with a field that isn't valuable
abbrev pub not_valuable : ℕ → Entry → Option Cause
not_valuable k e = elim e.def [ AModule m ↦ option_map (NotValuable k) (first_failing (λ (f : Field). is_valuable f.term) m.fields) | _ ↦ None ]

-- with an abstract type without a likespec, by version
abbrev pub without_likespec : ℕ → Entry → Option Cause
without_likespec k e = elim e.def [ AnImport i ↦ given (not (is_exact i.constraint)) (option_map (LikeMissing k) (like_missing i)) | _ ↦ None ]

-- with an import that has no link
abbrev pub unlinked : ℕ → Entry → Option Cause
unlinked k e = elim e.def [ AnImport i ↦ given (is_none e.link) (Some (Unresolved k)) | _ ↦ None ]

-- two entries of one name with two texts; an import by exact name and a mark have no text
abbrev pub entries_clash : Environment → ℕ → ℕ → Bool
entries_clash E i j = option_map_or (names (name_at E i)) (name_at E j) false && differ (text_of_entry E i) (text_of_entry E j)

-- the least later one, and for it the least earlier one
abbrev pub clash_of : Environment → ℕ → Option Cause
clash_of E second = first_below second (λ first. given (entries_clash E first second) (Some (Clash first second)))

abbrev pub first_entry_clash : Environment → Option Cause
first_entry_clash E = first_below (length E) (clash_of E)

-- a part of the tree p, from `seen`, behind the entries E
module _ (digest : Bytes → Bytes) (E : Environment) (seen : Seen) (p : ProgramTree) where
  -- the entries that it adds, and all of them once it is loaded
  abbrev pub added : List Entry
  added = linked_behind seen E (drop (length E) (surface_entries digest E p))

  abbrev pub loaded : Environment
  loaded = E ++ added

  abbrev pub main_type : Option Typ
  main_type = type_of Coloured false loaded (all_of loaded Main) (surface_main digest E p)

  abbrev pub causes : List (Option Cause)
  causes =
      option_map BadScopes (surface_fault digest E p) ∷
      first_at 0 (ill_typed loaded (length E)) added ∷
      given (is_none main_type) (Some (IllTyped (length added))) ∷
      first_at 0 uncovering added ∷
      first_at 0 not_valuable added ∷
      first_at 0 without_likespec added ∷
      first_at 0 unlinked added ∷
      first_entry_clash loaded ∷ []

  abbrev pub refusal_cause : Option Cause
  refusal_cause = first_some causes
