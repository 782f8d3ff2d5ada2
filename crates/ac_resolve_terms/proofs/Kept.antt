-- Entries that keep names: those that are named as their definitions are, and those of a surface.
use Rattle.std.proofs.Common.{◌≡◌, ◌∙◌, ap, sym, refl, ℕ, suc, ◌<◌, Bool, true, List, [], ◌∷◌, length, Option, Some}
use Rattle.std.specs.Prelude.{is_some, option_map, option_and_then, slice_get}
use Rattle.std.specs.List.{list_all}
use Rattle.std.proofs.lemmas.Option.{slice_get_within}
use Rattle.sha2.specs.Sha256.{sha256}
use Rattle.ac_types.specs.Types.{Bytes}
use Rattle.ac_types.proofs.Same.{and_true}
use Rattle.ac_terms.proofs.AllLaws.{all_append}
use Rattle.ac_terms.specs.Defs.{Environment, Def, AModule, AnImport, AMark, Entry, name_at}
use Rattle.ac_terms.specs.Names.{name_by, name_of_entry}
use Rattle.ac_syntax.specs.Trees.{DefTree, ProgramTree}
use Rattle.ac_resolve_scopes.specs.Scopes.{NameScope}
use Rattle.ac_resolve_scopes.specs.Definitions.{def_in, entry_in, after_def}
use Rattle.ac_resolve_scopes.specs.Surfaces.{first_scope, surface_entries}
use Rattle.ac_resolve_scopes.proofs.AddedEntries.{entries_in, entries_behind}
use Rattle.ac_resolve_names.specs.Entries.{keeps_name}
use Rattle.ac_resolve_names.proofs.FrontLaws.{own_named}

all_from : {A : Type 0} (p : A → Bool) (xs : List A) → ((i : ℕ) (x : A) → slice_get xs i ≡ Some x → p x ≡ true) → list_all p xs ≡ true
all_from p [] h = refl
all_from p (x ∷ xs) h = and_true {a = p x} {b = list_all p xs} (h 0 x refl) (all_from p xs (λ i. h (suc i)))

named : (E : Environment) (d : Def) (n : Option Bytes) → n ≡ name_by sha256 E d → elim d [ AModule m ↦ is_some n | AnImport i ↦ is_some n | AMark t ↦ true ] ≡ true
named E d n e = ap (λ (o : Option Bytes). elim d [ AModule m ↦ is_some o | AnImport i ↦ is_some o | AMark t ↦ true ]) e ∙ own_named E d

pub all_named : (E : Environment) → ((i : ℕ) → i < length E → name_at E i ≡ name_of_entry E i) → list_all keeps_name E ≡ true
all_named E h = all_from keeps_name E (λ i x e. named E x.def x.name (
    sym (ap (option_and_then (λ (y : Entry). y.name)) e) ∙ h i (slice_get_within E i x e)
    ∙ ap (λ o. option_and_then (name_by sha256 E) (option_map (λ (y : Entry). y.def) o)) e
    ))

entries_kept : (S : NameScope) (ds : List DefTree) → list_all keeps_name (entries_in sha256 S ds) ≡ true
entries_kept S [] = refl
entries_kept S (d ∷ ds) = and_true {a = keeps_name (entry_in sha256 S d)} {b = list_all keeps_name (entries_in sha256 (after_def sha256 S d) ds)} (own_named S.entries (def_in S d)) (entries_kept (after_def sha256 S d) ds)

-- those of a surface, too
pub all_kept : (E F : Environment) (p : ProgramTree) → F ≡ surface_entries sha256 E p → list_all keeps_name E ≡ true → list_all keeps_name F ≡ true
all_kept E F p e h =
    ap (list_all keeps_name) (e ∙ entries_behind sha256 E p)
    ∙ all_append keeps_name E (entries_in sha256 (first_scope E p.expr) p.defs) h (entries_kept (first_scope E p.expr) p.defs)
