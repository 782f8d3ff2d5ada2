-- What is accepted beside a shelf is ready to run: its entries are coherent, and its term is typed, within bounds, and speaks of known types.
use Rattle.std.proofs.Common.{◌≡◌, ◌∙◌, ◌≤◌, ◌+◌, refl, sym, ap, ap₂, subst, ℕ, suc, Bool, true, false, List, [], ◌∷◌, ◌++◌, map, length, drop, Option, Some, None, arith, append_assoc, append-nil, length-append}
use Rattle.std.proofs.lemmas.List.{map-append}
use Rattle.std.specs.Prelude.{nat_le, ◌&&◌, filter_map, flat_map, slice_get, IsTrue}
use Rattle.std.specs.List.{list_all}
use Rattle.std.proofs.Math.Seq.{drop-append_seam}
use Rattle.sha2.specs.Sha256.{sha256}
use Rattle.ac_types.proofs.FirstLaws.{none≢some}
use Rattle.ac_types.proofs.Same.{both_true, and_true}
use Rattle.ac_types.specs.Types.{Bytes, Typ}
use Rattle.ac_types.specs.Sigs.{Atom}
use Rattle.ac_terms.specs.Terms.{Main, Expr}
use Rattle.ac_terms.specs.Defs.{Environment, Entry, Seen, Own', Shelf, Arrived, name_at}
use Rattle.ac_terms.specs.Names.{text_of_entry}
use Rattle.ac_terms.proofs.AllLaws.{all_left, all_append}
use Rattle.ac_terms.specs.Parts.{term_parts, part_mentions}
use Rattle.ac_rules.specs.Views.{is_known}
use Rattle.ac_rules.specs.Typing.{all_of}
use Rattle.ac_rules.specs.Modules.{are_distinct, has_sound_fields}
use Rattle.ac_rules.proofs.ArrivalExample.{empty-IsCoherent}
use Rattle.ac_types.specs.Limits.{is_uri, most_definitions}
use Rattle.ac_rules.specs.Coherent.{IsCoherent, rank, rises, uri_of, mark_of}
use Rattle.ac_syntax.specs.Trees.{NameAt, Tree, SigTree, FieldTree, DefTree, ModuleDef, ImportDef, MarkDef, ProgramTree}
use Rattle.ac_syntax.specs.Signs.{Sign}
use Rattle.ac_syntax.specs.Programs.{IsProgram, IsModule, program, module_alone}
use Rattle.ac_resolve_scopes.specs.Scopes.{NameScope, scope_behind}
use Rattle.ac_resolve_scopes.specs.Written.{term_in}
use Rattle.ac_resolve_scopes.specs.Definitions.{entry_in, after_def}
use Rattle.ac_resolve_scopes.specs.Searches.{least_in}
use Rattle.ac_resolve_scopes.specs.Unbound.{unbound_in_def}
use Rattle.ac_resolve_scopes.specs.Repeated.{repeated_in_def, twice, mark_name}
use Rattle.ac_resolve_scopes.specs.Counts.{over, large_in_def}
use Rattle.ac_resolve_scopes.specs.Surfaces.{first_scope, last_scope, surface_main}
use Rattle.ac_resolve_scopes.proofs.AddedEntries.{entries_in, entries_behind}
use Rattle.ac_load_rules.specs.Causes.{linked_entry, linked_behind, first_at, unlinked, without_likespec, first_entry_clash, added, loaded, main_type, refusal_cause}
use Rattle.ac_load_rules.specs.Accepting.{Shelved, IsShelf, GivesEntries, nothing, a_module, Accepted}
use Rattle.ac_load_rules.specs.Ready.{IsWellLoaded}
use Rattle.ac_load_rules.proofs.PartLaws.{Scoped, sound, scoped, one_text, fields_of_part}
use Rattle.ac_load_rules.proofs.Standing.{IsOrdered, distinct_front, filter_append}
use Rattle.ac_load_rules.proofs.Behind.{linked_length}
use Rattle.ac_load_rules.proofs.Distinct.{least_none, distinct_names}
use Rattle.ac_load_rules.proofs.SignBounds.{text_fits}
use Rattle.ac_load_rules.proofs.DefBounds.{ProgramHas, program_has, module_has}
use Rattle.ac_load_rules.proofs.FineTypes.{within}
use Rattle.ac_load_rules.proofs.FineTerms.{term_fine, mentions_known}
use Rattle.ac_load_rules.proofs.FineDefs.{front_scope}
use Rattle.ac_load_rules.proofs.SmallTerms.{parts_small, tree_small}
use Rattle.ac_load_rules.proofs.Grown.{IsAt, front_of, at_front, at_all, IsSeen, Passes, Clear, grow, at_last}

-- the entries of a shelf: all are of the shelf, with these URIs, and none is a mark
record IsOfShelf (E : Environment) (uris : List Bytes) : Type 0 where
  are : filter_map uri_of E ≡ uris
  no_marks : filter_map mark_of E ≡ []
  first : list_all (λ (e : Entry). nat_le (rank e.seen) 0) E ≡ true
  counted : length E ≡ length uris

-- in order are those of a shelf and behind them own ones
own_rise : (low : ℕ) → nat_le low 1 ≡ true → (E : Environment) (es : List Entry) → rises low (linked_behind Own' E es) ≡ true
own_rise low h E [] = refl
own_rise low h E (e ∷ es) = and_true h (own_rise 1 refl (E ++ linked_entry Own' E e ∷ []) es)

shelf_rise : (E rest : Environment) → list_all (λ (e : Entry). nat_le (rank e.seen) 0) E ≡ true → rises 0 rest ≡ true → rises 0 (E ++ rest) ≡ true
shelf_rise [] rest h k = k
shelf_rise (e ∷ E) rest h k = on e.seen (both_true (nat_le (rank e.seen) 0) _ h).0 (shelf_rise E rest (both_true (nat_le (rank e.seen) 0) _ h).1 k) where
  on : (s : Seen) → nat_le (rank s) 0 ≡ true → rises 0 (E ++ rest) ≡ true → (nat_le 0 (rank s) && rises (rank s) (E ++ rest)) ≡ true
  on (Shelf u) h more = more
  on Own' h more = absurd (none≢some {A = ℕ} (ap (λ b. elim b as (λ z. Option ℕ) [ true ↦ Some 0 | false ↦ None ]) h))
  on Arrived h more = absurd (none≢some {A = ℕ} (ap (λ b. elim b as (λ z. Option ℕ) [ true ↦ Some 0 | false ↦ None ]) h))

-- own entries have no URIs, and those of definitions are marks where these are
own_uris : (E : Environment) (es : List Entry) → filter_map uri_of (linked_behind Own' E es) ≡ []
own_uris E [] = refl
own_uris E (e ∷ es) = own_uris (E ++ linked_entry Own' E e ∷ []) es

marks_named : (seen : Seen) (E : Environment) (S : NameScope) (ds : List DefTree) → filter_map mark_of (linked_behind seen E (entries_in sha256 S ds)) ≡ map (λ (x : NameAt). x.word) (flat_map mark_name ds)
marks_named seen E S [] = refl
marks_named seen E S (ModuleDef at name σ version fields ∷ ds) = marks_named seen (E ++ linked_entry seen E (entry_in sha256 S (ModuleDef at name σ version fields)) ∷ []) (after_def sha256 S (ModuleDef at name σ version fields)) ds
marks_named seen E S (ImportDef at name σ wants like by ∷ ds) = marks_named seen (E ++ linked_entry seen E (entry_in sha256 S (ImportDef at name σ wants like by)) ∷ []) (after_def sha256 S (ImportDef at name σ wants like by)) ds
marks_named seen E S (MarkDef at text_at text ∷ ds) = ap (λ l. text ∷ l) (marks_named seen (E ++ linked_entry seen E (entry_in sha256 S (MarkDef at text_at text)) ∷ []) (after_def sha256 S (MarkDef at text_at text)) ds)

entries_length : (S : NameScope) (ds : List DefTree) → length (entries_in sha256 S ds) ≡ length ds
entries_length S [] = refl
entries_length S (d ∷ ds) = ap suc (entries_length (after_def sha256 S d) ds)

-- a part behind a coherent environment
module _ (E : Environment) (c : IsCoherent E) (seen : Seen) (p : ProgramTree) (at : IsAt E (first_scope E p.expr)) (has : ProgramHas p) (from : IsSeen seen p.defs) (accepted : refusal_cause sha256 E seen p ≡ None) where
  abbrev pub entries : List Entry
  entries = entries_in sha256 (first_scope E p.expr) p.defs

  added_is : added sha256 E seen p ≡ linked_behind seen E entries
  added_is = ap (linked_behind seen E) (ap (drop (length E)) (entries_behind sha256 E p) ∙ drop-append_seam E entries)

  loaded_is : loaded sha256 E seen p ≡ E ++ linked_behind seen E entries
  loaded_is = ap (λ l. E ++ l) added_is

  tests : Scoped sha256 E seen p
  tests = scoped sha256 E seen p (sound sha256 E seen p accepted).scopes

  clear : Clear (first_scope E p.expr) p.defs
  clear =
      let repeats = least_none (twice mark_name p.defs) _ tests.distinct in
      let counts = least_none (over most_definitions (length p.defs)) _ tests.within in
      record {
        bound = (least_none (least_in (after_def sha256) unbound_in_def (first_scope E p.expr) p.defs) _ tests.bound).0;
        distinct = (least_none (least_in (after_def sha256) repeated_in_def (first_scope E p.expr) p.defs) _ repeats.1).0;
        within = (least_none (least_in (after_def sha256) large_in_def (first_scope E p.expr) p.defs) _ counts.1).0;
      }

  passes : Passes seen (E ++ linked_behind seen E entries) (length E) 0 (linked_behind seen E entries)
  passes =
      let s = sound sha256 E seen p accepted in
      record {
        linked = subst (λ l. first_at 0 unlinked l ≡ None) added_is s.linked;
        like = subst (λ l. first_at 0 without_likespec l ≡ None) added_is s.like;
        sound = subst (λ (l : List Entry). (i : ℕ) (x : Entry) → slice_get l i ≡ Some x → has_sound_fields (E ++ l) (length E + i) x.def ≡ true) added_is (fields_of_part sha256 E seen p accepted);
      }

  pub part_coherent : IsOrdered (E ++ linked_behind seen E entries) → IsCoherent (loaded sha256 E seen p)
  part_coherent ordered = subst IsCoherent (sym loaded_is) (grow seen E c (first_scope E p.expr) at p.defs has.defs from clear 0 ordered passes)

  part_one_text : (i j : ℕ) (n s t : Bytes) → name_at (E ++ linked_behind seen E entries) i ≡ Some n → name_at (E ++ linked_behind seen E entries) j ≡ Some n
      → text_of_entry (E ++ linked_behind seen E entries) i ≡ Some s → text_of_entry (E ++ linked_behind seen E entries) j ≡ Some t → s ≡ t
  part_one_text = one_text (E ++ linked_behind seen E entries) (ap first_entry_clash (sym loaded_is) ∙ (sound sha256 E seen p accepted).apart)

  few_defs : length p.defs ≤ 4096
  few_defs = within most_definitions (length p.defs) (least_none (over most_definitions (length p.defs)) _ tests.within).0

  loaded_long : length (E ++ linked_behind seen E entries) ≡ length E + length p.defs
  loaded_long =
      let a = length-append E (linked_behind seen E entries) in
      let b = linked_length seen E entries in
      let d = entries_length (first_scope E p.expr) p.defs in
      omega (arith, a, b, d)

-- one text of the shelf more
record ShelfStep (E F : Environment) (uris : List Bytes) (u : Bytes) : Type 0 where
  coherent : IsCoherent F
  of_shelf : IsOfShelf F (uris ++ u ∷ [])

abbrev module_tree : ℕ → NameAt → SigTree → Option (List Atom) → List FieldTree → ProgramTree
module_tree a name σ version fields = record { defs = ModuleDef a name σ version fields ∷ []; expr = None }

module _ (E : Environment) (c : IsCoherent E) (uris : List Bytes) (shelf : IsOfShelf E uris) (few : length uris ≤ 255) (u : Bytes) (distinct : are_distinct (uris ++ u ∷ []) ≡ true) (is_one : IsTrue (is_uri u)) (a : ℕ) (name : NameAt) (σ : SigTree) (version : Option (List Atom)) (fields : List FieldTree) where
  abbrev Alone : ProgramTree
  Alone = module_tree a name σ version fields

  abbrev One : Entry
  One = linked_entry (Shelf u) E (entry_in sha256 (first_scope E None) (ModuleDef a name σ version fields))

  at_one : IsAt E (first_scope E None)
  at_one = at_all (at_front []) E

  uri_seen : (s : Seen) → Shelf u ≡ s → IsTrue (elim s as (λ z. Bool) [ Own' ↦ true | Shelf w ↦ is_uri w | Arrived ↦ true ])
  uri_seen s is = subst (λ (x : Seen). IsTrue (elim x as (λ z. Bool) [ Own' ↦ true | Shelf w ↦ is_uri w | Arrived ↦ true ])) is is_one

  from_shelf : IsSeen (Shelf u) (ModuleDef a name σ version fields ∷ [])
  from_shelf v is = (uri_seen (Shelf v) is, (λ S. tt, tt))

  more_shelf : IsOfShelf (E ++ One ∷ []) (uris ++ u ∷ [])
  more_shelf = record {
    are = filter_append uri_of E (One ∷ []) ∙ ap (λ l. l ++ u ∷ []) shelf.are;
    no_marks = filter_append mark_of E (One ∷ []) ∙ ap (λ (l : List Bytes). l ++ []) shelf.no_marks;
    first = all_append (λ (e : Entry). nat_le (rank e.seen) 0) E (One ∷ []) shelf.first refl;
    counted = let h = shelf.counted in let k = length-append E (One ∷ []) in let l = length-append uris (u ∷ []) in omega (arith, h, k, l);
  }

  shelf_step : ProgramHas Alone → refusal_cause sha256 E (Shelf u) Alone ≡ None → ShelfStep E (loaded sha256 E (Shelf u) Alone) uris u
  shelf_step has accepted =
      let ordered : IsOrdered (E ++ One ∷ []) = record {
        few = let h = shelf.counted in let k = length-append E (One ∷ []) in omega (arith, few, h, k);
        in_order = ap (rises 0) (sym (append-nil (E ++ One ∷ []))) ∙ shelf_rise (E ++ One ∷ []) [] more_shelf.first refl;
        uris_distinct = ap are_distinct more_shelf.are ∙ distinct;
        marks_distinct = ap are_distinct more_shelf.no_marks;
        one_text = part_one_text E c (Shelf u) Alone at_one has from_shelf accepted;
      } in
      record {
        coherent = part_coherent E c (Shelf u) Alone at_one has from_shelf accepted ordered;
        of_shelf = subst (λ (F : Environment). IsOfShelf F (uris ++ u ∷ [])) (sym (loaded_is E c (Shelf u) Alone at_one has from_shelf accepted)) more_shelf;
      }

shelf_more : (E : Environment) (c : IsCoherent E) (uris : List Bytes) → IsOfShelf E uris → length uris ≤ 255 → (u : Bytes) → are_distinct (uris ++ u ∷ []) ≡ true → IsTrue (is_uri u)
    → {ts : List Sign} {p : ProgramTree} → IsModule ts p → ProgramHas p → refusal_cause sha256 E (Shelf u) p ≡ None → ShelfStep E (loaded sha256 E (Shelf u) p) uris u
shelf_more E c uris shelf few u distinct is_one (module_alone {a = a} {name = name} {σ = σ} {version = version} {fields = fields} parsed) has accepted =
    shelf_step E c uris shelf few u distinct is_one a name σ version fields has accepted

-- all texts of a shelf
record IsFrontOf (F : Environment) (uris : List Bytes) : Type 0 where
  coherent : IsCoherent F
  of_shelf : IsOfShelf F uris

abbrev uris_of : List Shelved → List Bytes
uris_of shelf = map (λ (s : Shelved). s.uri) shelf

uris_counted : (shelf : List Shelved) → length (uris_of shelf) ≡ length shelf
uris_counted [] = refl
uris_counted (s ∷ shelf) = ap suc (uris_counted shelf)

shelf_front : {E F : Environment} {shelf : List Shelved} → GivesEntries sha256 E shelf F → IsCoherent E → (uris : List Bytes) → IsOfShelf E uris
    → are_distinct (uris ++ uris_of shelf) ≡ true → list_all (λ (s : Shelved). is_uri s.uri) shelf ≡ true → length uris + length shelf ≤ 256 → IsFrontOf F (uris ++ uris_of shelf)
shelf_front {E} nothing c uris of_shelf distinct good few = record { coherent = c; of_shelf = subst (IsOfShelf E) (sym (append-nil uris)) of_shelf }
shelf_front {E} {F} (a_module {s = s} {rest = rest} {tree = p} x more) c uris of_shelf distinct good few =
    let one = append_assoc uris (s.uri ∷ []) (uris_of rest) in
    let g = both_true (is_uri s.uri) _ good in
    let all_distinct : are_distinct ((uris ++ s.uri ∷ []) ++ uris_of rest) ≡ true = ap are_distinct one ∙ distinct in
    let has = module_has x.has.is (text_fits x.has.read.short x.has.read.lexed) in
    let step = shelf_more E c uris of_shelf (omega (arith, few)) s.uri (distinct_front (uris ++ s.uri ∷ []) (uris_of rest) all_distinct) g.0 x.has.is has x.sound in
    let k = length-append uris (s.uri ∷ []) in
    subst (IsFrontOf F) one (shelf_front more step.coherent (uris ++ s.uri ∷ []) step.of_shelf all_distinct g.1 (omega (arith, few, k)))

-- a program behind them
module _ (E : Environment) (uris : List Bytes) (front : IsFrontOf E uris) (few : length uris ≤ 256) (distinct : are_distinct uris ≡ true) (ds : List DefTree) (main : Tree) where
  abbrev Whole : ProgramTree
  Whole = record { defs = ds; expr = Some main }

  from_program : IsSeen Own' ds
  from_program u is = absurd (none≢some {A = ℕ} (ap (λ (s : Seen). elim s as (λ z. Option ℕ) [ Own' ↦ None | Shelf w ↦ Some 0 | Arrived ↦ None ]) is))

  program_ready : ProgramHas Whole → refusal_cause sha256 E Own' Whole ≡ None → (T : Typ) → main_type sha256 E Own' Whole ≡ Some T → IsWellLoaded (loaded sha256 E Own' Whole) (surface_main sha256 E Whole) T
  program_ready has accepted T typed =
      let c = front.coherent in
      let at = at_front E in
      let es = entries E c Own' Whole at has from_program accepted in
      let F = E ++ linked_behind Own' E es in
      let q = tests E c Own' Whole at has from_program accepted in
      let long = loaded_long E c Own' Whole at has from_program accepted in
      let defs = few_defs E c Own' Whole at has from_program accepted in
      let counted = front.of_shelf.counted in
      let repeats = least_none (twice mark_name ds) _ q.distinct in
      let ordered : IsOrdered F = record {
        few = omega (arith, few, long, defs, counted);
        in_order = shelf_rise E (linked_behind Own' E es) front.of_shelf.first (own_rise 0 refl E es);
        uris_distinct = ap are_distinct (filter_append uri_of E (linked_behind Own' E es) ∙ ap₂ (λ a b. a ++ b) front.of_shelf.are (own_uris E es) ∙ append-nil uris) ∙ distinct;
        marks_distinct = ap are_distinct (filter_append mark_of E (linked_behind Own' E es) ∙ ap₂ (λ a b. a ++ b) front.of_shelf.no_marks (marks_named Own' E (scope_behind E) ds)) ∙ distinct_names [] (flat_map mark_name ds) repeats.0;
        one_text = part_one_text E c Own' Whole at has from_program accepted;
      } in
      let is = loaded_is E c Own' Whole at has from_program accepted in
      let whole = part_coherent E c Own' Whole at has from_program accepted ordered in
      let there = subst IsCoherent is whole in
      let last = at_last Own' ds E (scope_behind E) at in
      let S = last_scope sha256 E Whole in
      let scope = front_scope F there (λ t. true) false S (front_of last) in
      let none : length S.fields ≡ 0 = ap length (front_of last).no_fields in
      let unbound_none = (least_none (least_in (after_def sha256) unbound_in_def (scope_behind E) ds) _ q.bound).1 in
      let counts = least_none (over most_definitions (length ds)) _ q.within in
      let large_none = (least_none (least_in (after_def sha256) large_in_def (scope_behind E) ds) _ counts.1).1 in
      let fine = term_fine F there (λ t. true) S scope (omega (arith, none)) main has.main (unbound_none, large_none) in
      record {
        coherent = whole;
        typed = typed;
        known = subst (λ (G : Environment). list_all (is_known G) (part_mentions (term_parts (term_in S main))) ≡ true) (sym is) (mentions_known F (term_parts (term_in S main)) fine.known);
        fits = fine.fits;
        small = parts_small (term_parts (term_in S main)) (tree_small (loaded sha256 E Own' Whole) S main large_none (all_of (loaded sha256 E Own' Whole) Main) T typed);
      }

program_more : (E : Environment) (uris : List Bytes) → IsFrontOf E uris → length uris ≤ 256 → are_distinct uris ≡ true → {ts : List Sign} {p : ProgramTree} → IsProgram ts p → ProgramHas p
    → refusal_cause sha256 E Own' p ≡ None → (T : Typ) → main_type sha256 E Own' p ≡ Some T → IsWellLoaded (loaded sha256 E Own' p) (surface_main sha256 E p) T
program_more E uris front few distinct (program {ds = ds} {e = e} parsed) has accepted T typed = program_ready E uris front few distinct ds e has accepted T typed

-- the entries of the first texts of a shelf
pub front_coherent : (before rest : List Shelved) {E : Environment} → IsShelf (before ++ rest) → length (before ++ rest) ≤ 256 → GivesEntries sha256 [] before E → IsCoherent E × (length E ≤ 256)
front_coherent before rest good few gives =
    let empty : IsOfShelf [] [] = record { are = refl; no_marks = refl; first = refl; counted = refl } in
    let distinct : are_distinct (uris_of before ++ uris_of rest) ≡ true = ap are_distinct (sym (map-append (λ (s : Shelved). s.uri) before rest)) ∙ good.distinct in
    let k = length-append before rest in
    let n = uris_counted before in
    let front = shelf_front gives empty-IsCoherent [] empty (distinct_front (uris_of before) (uris_of rest) distinct) (all_left (λ (s : Shelved). is_uri s.uri) before rest good.uris) (omega (arith, few, k)) in
    let c = front.of_shelf.counted in
    (front.coherent, omega (arith, few, k, n, c))

-- so what is accepted beside a shelf is ready
pub accepted_ready : (text : Bytes) (shelf : List Shelved) (F : Environment) (e : Expr) (T : Typ) → IsShelf shelf → length shelf ≤ 256 → Accepted sha256 text shelf F e T → IsWellLoaded F e T
accepted_ready text shelf F e T good few a =
    let empty : IsOfShelf [] [] = record { are = refl; no_marks = refl; first = refl; counted = refl } in
    let front = shelf_front a.shelved empty-IsCoherent [] empty good.distinct good.uris (omega (arith, few)) in
    let has = program_has a.part.has.is (text_fits a.part.has.read.short a.part.has.read.lexed) in
    let n = uris_counted shelf in
    let ready = program_more a.front (uris_of shelf) front (omega (arith, few, n)) good.distinct a.part.has.is has a.part.sound T a.typed in
    subst (λ (G : Environment). IsWellLoaded G e T) (sym a.entries) (subst (λ (f : Expr). IsWellLoaded (loaded sha256 a.front Own' a.tree) f T) (sym a.main) ready)
