-- What an abstract type stands for, and who sees it.
use Rattle.std.specs.Prelude.{◌≡◌, ℕ, zero, suc, Bool, true, false, length, Option, None, option_and_then, unwrap_or, slice_get}
use Rattle.std.specs.List.{list_all, list_any}
use Rattle.ac_types.specs.Types.{Bytes, Typ, TAbs, with_each, has_function, mentions}
use Rattle.ac_types.specs.Sigs.{Constraint, Ranges, Exact, named_type}
use Rattle.ac_terms.specs.Terms.{Home, Main, In}
use Rattle.ac_terms.specs.Defs.{Environment, Entry, Def, AModule, AnImport, AMark, Module, Import, module_at, name_at, names, find_name, declares}

-- the struct's type t of a module
abbrev pub module_type : Environment → Bytes → ℕ → Option Typ
module_type E t j = option_and_then (λ (m : Module). named_type t m.types) (module_at E j)

-- the likespec's type t of an import by version, and the linked module's of an import by exact name
abbrev pub import_type : Environment → Bytes → Import → Constraint → Option ℕ → Option Typ
import_type E t i (Ranges atoms star) link = named_type t i.like
import_type E t i (Exact n) link = option_and_then (module_type E t) link

-- what the type t of an entry is
abbrev pub type_of_entry : Environment → Bytes → Def → Option ℕ → Option Typ
type_of_entry E t (AModule m) link = named_type t m.types
type_of_entry E t (AnImport i) link = import_type E t i i.constraint link
type_of_entry E t (AMark s) link = None

-- the representation of n.t: what the type t of the least entry that keeps the name n is
abbrev pub representation : Environment → Bytes → Bytes → Option Typ
representation E n t =
    option_and_then (λ i. option_and_then (λ (e : Entry). type_of_entry E t e.def e.link) (slice_get E i)) (find_name E n)

-- the representation, or the abstract type itself where it has none
abbrev pub opened : Environment → Bytes → Bytes → Typ
opened E n t = unwrap_or (representation E n t) (TAbs n t)

-- whether a home has a name; the main program has none
abbrev pub has_name : Environment → Home → Bytes → Bool
has_name E Main n = false
has_name E (In i) n = names (name_at E i) n

-- in Plain mode every home opens every name; in Coloured mode a home opens its own
pub data Mode : Type 0 where
  Plain : Mode
  Coloured : Mode

abbrev pub opens : Mode → Environment → Home → Bytes → Bool
opens Plain E c n = true
opens Coloured E c n = has_name E c n

-- a step, so many times
abbrev pub rounds : ℕ → (Typ → Typ) → Typ → Typ
rounds zero f T = T
rounds (suc k) f T = rounds k f (f T)

-- the bare type: every abstract type replaced, again and again. A representation speaks of earlier entries, so a round for each entry is enough
abbrev pub bare : Environment → Typ → Typ
bare E T = rounds (length E) (with_each (opened E)) T

-- an abstract type as a home with names of its own sees it
abbrev pub opened_at_home : Environment → Home → Bytes → Bytes → Typ
opened_at_home E c n t = elim (has_name E c n) [ true ↦ opened E n t | false ↦ TAbs n t ]

-- the view: the type as a home sees it
abbrev pub view : Mode → Environment → Home → Typ → Typ
view Plain E c T = bare E T
view Coloured E c T = with_each (opened_at_home E c) T

-- first-order: what the abstract type is in the end has no function type in it
abbrev pub IsFirstOrder : Environment → Bytes → Bytes → Type 0
IsFirstOrder E n t = has_function (bare E (TAbs n t)) ≡ false

-- a type whose outermost abstract types are replaced: what a value of the type looks like
abbrev pub unsealed : Environment → Typ → Typ
unsealed E (TAbs n t) = opened E n t
unsealed E T = T

abbrev pub head : Environment → Typ → Typ
head E T = rounds (length E) (unsealed E) T

-- n.t is known where it is abstract in the signature of an entry named n
abbrev pub is_known : Environment → Bytes × Bytes → Bool
is_known E p = list_any (declares p.0 p.1) E

abbrev pub are_known : Environment → Typ → Bool
are_known E T = list_all (is_known E) (mentions T)
