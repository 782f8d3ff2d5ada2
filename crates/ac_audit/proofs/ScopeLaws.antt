-- A type means behind a program's last definition what it means behind the own ones of its entries.
use Rattle.std.proofs.Common.{◌≡◌, refl, sym, ap, ap₂, ◌∙◌, subst, ℕ, ◌<◌, Bool, true, false, List, [], ◌∷◌, ◌++◌, length, drop, Option, Some, None, arith, length-append}
use Rattle.std.specs.Prelude.{cond, not, is_some, option_map, option_and_then, unwrap_or, slice_get}
use Rattle.std.specs.List.{list_all}
use Rattle.std.proofs.Math.ListN.{get_or-append}
use Rattle.std.proofs.Math.Seq.{get_or-append_seam}
use Rattle.std.proofs.lemmas.List.{drop_at}
use Rattle.std.proofs.lemmas.List.Elements.{filter-append}
use Rattle.std.proofs.lemmas.Option.{slice_get-get_or}
use mathlib.Core.Bool.{true≢false}
use Rattle.sha2.specs.Sha256.{sha256}
use Rattle.ac_types.proofs.Same.{both_true, and_true}
use Rattle.ac_types.specs.Partial.{given, first_some}
use Rattle.ac_types.specs.Limits.{highest_type, most_type_parts}
use Rattle.ac_types.specs.Types.{Bytes, Typ, TUnit, TTuple, TList, TOpt, TFun, TAbs, TMine, typ, same_bytes, with_mine, height, node_count}
use Rattle.ac_types.specs.Sigs.{Signature, type_under}
use Rattle.ac_terms.specs.Terms.{Expr}
use Rattle.ac_terms.specs.Defs.{Environment, Entry, Def, AModule, AnImport, AMark, Own', Shelf, signature, signature_at, name_at}
use Rattle.ac_rules.specs.Links.{is_own}
use Rattle.ac_syntax.specs.Signs.{Sign}
use Rattle.ac_syntax.specs.Trees.{TypeTree, TyInt, TyBool, TyStr, TyUnit, TyExn, TyLocal, TyOf, TyTuple, TyList, TyOpt, TyFun, TypeTrees, no_type_trees, type_tree, Tree, DefTree, ProgramTree}
use Rattle.ac_syntax.specs.Programs.{IsProgram, program}
use Rattle.ac_resolve_scopes.specs.Standard.{is_standard, beside_name}
use Rattle.ac_resolve_scopes.specs.Scopes.{NameScope, scope_behind, definition, before_dot, type_outside, plain_type, dotted_type, external_names, with_entry, after_all}
use Rattle.ac_resolve_scopes.specs.Written.{type_in, types_in}
use Rattle.ac_resolve_scopes.specs.Definitions.{entry_in, after_def}
use Rattle.ac_resolve_scopes.specs.Searches.{least}
use Rattle.ac_resolve_scopes.specs.Unbound.{unless, unbound_behind, unbound_type, unbound_types}
use Rattle.ac_resolve_scopes.specs.Counts.{wide_type, over, large_type}
use Rattle.ac_resolve_scopes.specs.Surfaces.{Unbound, TooMany, last_scope, surface_entries}
use Rattle.ac_resolve_scopes.proofs.AddedEntries.{entries_in, entries_behind}
use Rattle.ac_resolve_signatures.proofs.Knowing.{AtStart, starts, starts_behind, starts_alone}
use Rattle.ac_load_rules.specs.Causes.{linked_entry, linked_behind, loaded}
use Rattle.ac_load_rules.specs.Accepting.{Shelved, GivesEntries, nothing, a_module, Accepted}
use Rattle.ac_audit.specs.TypeTexts.{own_entries, own_scope, type_fault}

-- two scopes in which types mean the same
record Alike (S R : NameScope) : Type 0 where
  pub plain : (t : Bytes) → plain_type S t ≡ plain_type R t
  pub called : (m : Bytes) → is_some (before_dot S m) ≡ is_some (before_dot R m)
  pub dotted : (m t : Bytes) → dotted_type S m t ≡ dotted_type R m t

module _ (S R : NameScope) (a : Alike S R) where
  mutual
    type_same : (t : TypeTree) → type_in S t ≡ type_in R t
    type_same (TyInt at) = refl
    type_same (TyBool at) = refl
    type_same (TyStr at) = refl
    type_same (TyUnit at) = refl
    type_same (TyExn at) = refl
    type_same (TyLocal at t) = ap (λ (o : Option Typ). unwrap_or o TUnit) (a.plain t)
    type_same (TyOf at m t) = ap (λ (o : Option Typ). unwrap_or o TUnit) (a.dotted m.word t.word)
    type_same (TyTuple at ts) = ap TTuple (types_same ts)
    type_same (TyList at item) = ap TList (type_same item)
    type_same (TyOpt at item) = ap TOpt (type_same item)
    type_same (TyFun at from to) = ap₂ TFun (type_same from) (type_same to)

    types_same : (ts : TypeTrees) → types_in S ts ≡ types_in R ts
    types_same no_type_trees = refl
    types_same (type_tree t ts) = ap₂ typ (type_same t) (types_same ts)

  mutual
    unbound_same : (t : TypeTree) → unbound_type S t ≡ unbound_type R t
    unbound_same (TyInt at) = refl
    unbound_same (TyBool at) = refl
    unbound_same (TyStr at) = refl
    unbound_same (TyUnit at) = refl
    unbound_same (TyExn at) = refl
    unbound_same (TyLocal at t) = ap (λ (o : Option Typ). unless o at) (a.plain t)
    unbound_same (TyOf at m t) = ap₂ (λ (b : Bool) (o : Option Typ). unbound_behind b o m t) (a.called m.word) (a.dotted m.word t.word)
    unbound_same (TyTuple at ts) = all_unbound_same ts
    unbound_same (TyList at item) = unbound_same item
    unbound_same (TyOpt at item) = unbound_same item
    unbound_same (TyFun at from to) = ap₂ least (unbound_same from) (unbound_same to)

    all_unbound_same : (ts : TypeTrees) → unbound_types S ts ≡ unbound_types R ts
    all_unbound_same no_type_trees = refl
    all_unbound_same (type_tree t ts) = ap₂ least (unbound_same t) (all_unbound_same ts)

  large_same : (t : TypeTree) → large_type S t ≡ large_type R t
  large_same t = ap (λ (T : Typ). least (wide_type t) (least (over highest_type (height T)) (over most_type_parts (node_count T)))) (type_same t)

  fault_same : (t : TypeTree) → type_fault S t ≡ type_fault R t
  fault_same t = ap₂ (λ (o p : Option ℕ). first_some (option_map Unbound o ∷ option_map TooMany p ∷ [])) (unbound_same t) (large_same t)

-- an entry of one list and one of another show the same
record SameEntry (E F : Environment) (i j : ℕ) : Type 0 where
  pub here : i < length E
  pub there : j < length F
  pub signatures : signature_at E i ≡ signature_at F j
  pub kept : name_at E i ≡ name_at F j

abbrev Matches : Environment → Environment → Option ℕ → Option ℕ → Type 0
Matches E F None None = Unit {0}
Matches E F None (Some j) = ⊥
Matches E F (Some i) None = ⊥
Matches E F (Some i) (Some j) = SameEntry E F i j

-- the same names call entries that show the same
abbrev CallSame : NameScope → NameScope → Type 0
CallSame S R = (m : Bytes) → Matches S.entries R.entries (definition S m) (definition R m)

-- entries stay where they are behind one more
stays : (E : Environment) (e : Entry) (j : ℕ) → j < length E → slice_get (E ++ e ∷ []) j ≡ slice_get E j
stays E e j h = slice_get-get_or (E ++ e ∷ []) j e (omega (arith, length-append E (e ∷ []))) ∙ ap Some (get_or-append E (e ∷ []) e j h) ∙ sym (slice_get-get_or E j e h)

added_last : (E : Environment) (e : Entry) → slice_get (E ++ e ∷ []) (length E) ≡ Some e
added_last E e = slice_get-get_or (E ++ e ∷ []) (length E) e (omega (arith, length-append E (e ∷ []))) ∙ ap Some (get_or-append_seam E e [] e)

abbrev shown : Option Entry → Option Signature
shown o = option_and_then signature (option_map (λ (e : Entry). e.def) o)

abbrev named : Option Entry → Option Bytes
named o = option_and_then (λ (e : Entry). e.name) o

still : (E F : Environment) (e f : Entry) (a b : Option ℕ) → Matches E F a b → Matches (E ++ e ∷ []) (F ++ f ∷ []) a b
still E F e f None None h = h
still E F e f None (Some j) h = h
still E F e f (Some i) None h = h
still E F e f (Some i) (Some j) h = record {
  here = omega (arith, length-append E (e ∷ []), h.here);
  there = omega (arith, length-append F (f ∷ []), h.there);
  signatures = ap shown (stays E e i h.here) ∙ h.signatures ∙ sym (ap shown (stays F f j h.there));
  kept = ap named (stays E e i h.here) ∙ h.kept ∙ sym (ap named (stays F f j h.there));
}

both_added : (E F : Environment) (e f : Entry) → f.def ≡ e.def → f.name ≡ e.name → SameEntry (E ++ e ∷ []) (F ++ f ∷ []) (length E) (length F)
both_added E F e f def name = record {
  here = omega (arith, length-append E (e ∷ []));
  there = omega (arith, length-append F (f ∷ []));
  signatures = ap shown (added_last E e) ∙ ap signature (sym def) ∙ sym (ap shown (added_last F f));
  kept = ap named (added_last E e) ∙ sym name ∙ sym (ap named (added_last F f));
}

named_more : (b : Bool) (E F : Environment) (e f : Entry) (a c : Option ℕ) → SameEntry (E ++ e ∷ []) (F ++ f ∷ []) (length E) (length F) → Matches E F a c
    → Matches (E ++ e ∷ []) (F ++ f ∷ []) (elim b [ true ↦ Some (length E) | false ↦ a ]) (elim b [ true ↦ Some (length F) | false ↦ c ])
named_more true E F e f a c s h = s
named_more false E F e f a c s h = still E F e f a c h

by_def : (d : Def) (S R : NameScope) (e f : Entry) → f.def ≡ e.def → f.name ≡ e.name → CallSame S R
    → (m : Bytes) → Matches (S.entries ++ e ∷ []) (R.entries ++ f ∷ []) (beside_name m (external_names d (length S.entries) S.externals)) (beside_name m (external_names d (length R.entries) R.externals))
by_def (AModule n) S R e f def name k = λ m. named_more (same_bytes n.name m) S.entries R.entries e f (definition S m) (definition R m) (both_added S.entries R.entries e f def name) (k m)
by_def (AnImport n) S R e f def name k = λ m. named_more (same_bytes n.name m) S.entries R.entries e f (definition S m) (definition R m) (both_added S.entries R.entries e f def name) (k m)
by_def (AMark text) S R e f def name k = λ m. still S.entries R.entries e f (definition S m) (definition R m) (k m)

-- behind definitions, and behind the entries that they become once they are linked
calls_entry : (S R : NameScope) (E : Environment) (e : Entry) → CallSame S R → CallSame (with_entry S e) (with_entry R (linked_entry Own' E e))
calls_entry S R E e k = by_def e.def S R e (linked_entry Own' E e) refl refl k

calls_all : (S R : NameScope) (E : Environment) (ds : List DefTree) → CallSame S R → CallSame (after_all (after_def sha256) S ds) (after_all with_entry R (linked_behind Own' E (entries_in sha256 S ds)))
calls_all S R E [] k = k
calls_all S R E (d ∷ ds) k =
    let e = entry_in sha256 S d in
    let x = linked_entry Own' E e in
    calls_all (after_def sha256 S d) (with_entry R x) (E ++ x ∷ []) ds (calls_entry S R E e k)

-- what is called so is in scope
given_same : (b : Bool) (E F : Environment) (i j : Option ℕ) → Matches E F i j → Matches E F (given b i) (given b j)
given_same true E F i j h = h
given_same false E F i j h = tt

same_called : (E F : Environment) (i j : Option ℕ) → Matches E F i j → is_some i ≡ is_some j
same_called E F None None h = refl
same_called E F None (Some j) h = absurd h
same_called E F (Some i) None h = absurd h
same_called E F (Some i) (Some j) h = refl

same_type : (t : Bytes) (E F : Environment) (i j : Option ℕ) → Matches E F i j → option_and_then (type_outside E t) i ≡ option_and_then (type_outside F t) j
same_type t E F None None h = refl
same_type t E F None (Some j) h = absurd h
same_type t E F (Some i) None h = absurd h
same_type t E F (Some i) (Some j) h =
    ap₂ (λ (o : Option Signature) (n : Option Bytes). option_and_then (λ (s : Signature). option_map (λ (m : Option Typ). with_mine (TAbs (unwrap_or n [])) (unwrap_or m (TMine t))) (type_under t s.types)) o) h.signatures h.kept

alike : (S R : NameScope) → AtStart S → AtStart R → CallSame S R → Alike S R
alike S R s r k = record {
  plain = λ t. ap (beside_name t) (s.types ∙ sym r.types);
  called = λ m. same_called S.entries R.entries (before_dot S m) (before_dot R m) (dot m);
  dotted = λ m t. same_type t S.entries R.entries (before_dot S m) (before_dot R m) (dot m);
}
  where
    dot : (m : Bytes) → Matches S.entries R.entries (before_dot S m) (before_dot R m)
    dot m = given_same (not (is_standard m)) S.entries R.entries (definition S m) (definition R m) (k m)

-- no entry of the shelf is own
abbrev own : Entry → Bool
own e = is_own e.seen

abbrev NoneOwn : Environment → Type 0
NoneOwn E = list_all (λ (e : Entry). not (own e)) E ≡ true

none_both : (E F : Environment) → NoneOwn E → NoneOwn F → NoneOwn (E ++ F)
none_both [] F h k = k
none_both (e ∷ E) F h k = let b = both_true (not (own e)) _ h in and_true {a = not (own e)} {b = list_all (λ (x : Entry). not (own x)) (E ++ F)} b.0 (none_both E F b.1 k)

shelf_none : (u : Bytes) (E : Environment) (es : List Entry) → NoneOwn (linked_behind (Shelf u) E es)
shelf_none u E [] = refl
shelf_none u E (e ∷ es) = shelf_none u (E ++ linked_entry (Shelf u) E e ∷ []) es

given_none : {E F : Environment} {shelf : List Shelved} → GivesEntries sha256 E shelf F → NoneOwn E → NoneOwn F
given_none nothing h = h
given_none {E = E} (a_module {s = s} {tree = tree} part more) h = given_none more (none_both E _ h (shelf_none s.uri E (drop (length E) (surface_entries sha256 E tree))))

-- so the own entries are those of the program
not_kept : (b : Bool) (e : Entry) (es : List Entry) → not b ≡ true → cond b (e ∷ es) es ≡ es
not_kept true e es h = absurd (true≢false (sym h))
not_kept false e es h = refl

none_kept : (E : Environment) → NoneOwn E → own_entries E ≡ []
none_kept [] h = refl
none_kept (e ∷ E) h = let b = both_true (not (own e)) _ h in not_kept (own e) e (own_entries E) b.0 ∙ none_kept E b.1

all_kept : (E : Environment) (es : List Entry) → own_entries (linked_behind Own' E es) ≡ linked_behind Own' E es
all_kept E [] = refl
all_kept E (e ∷ es) = ap (λ (xs : List Entry). linked_entry Own' E e ∷ xs) (all_kept (E ++ linked_entry Own' E e ∷ []) es)

-- behind definitions nothing has a plain name
starts_defs : (S : NameScope) (ds : List DefTree) → AtStart S → AtStart (after_all (after_def sha256) S ds)
starts_defs S [] a = a
starts_defs S (d ∷ ds) a = starts_defs (after_def sha256 S d) ds (starts S (entry_in sha256 S d))

module _ (E : Environment) (none : NoneOwn E) (ds : List DefTree) (main : Tree) where
  abbrev Whole : ProgramTree
  Whole = record { defs = ds; expr = Some main }

  abbrev added : Environment
  added = linked_behind Own' E (entries_in sha256 (scope_behind E) ds)

  loaded_added : loaded sha256 E Own' Whole ≡ E ++ added
  loaded_added =
      ap (λ (es : Environment). E ++ linked_behind Own' E es)
      (ap (drop (length E)) (entries_behind sha256 E Whole) ∙ drop_at E (entries_in sha256 (scope_behind E) ds) (length E) refl)

  own_are : own_entries (loaded sha256 E Own' Whole) ≡ added
  own_are =
      ap own_entries loaded_added ∙ filter-append own E added
      ∙ ap₂ (λ (xs ys : Environment). xs ++ ys) (none_kept E none) (all_kept E (entries_in sha256 (scope_behind E) ds))

  program_alike : Alike (last_scope sha256 E Whole) (own_scope (loaded sha256 E Own' Whole))
  program_alike =
      subst (λ (F : Environment). Alike (last_scope sha256 E Whole) (after_all with_entry (scope_behind []) F)) (sym own_are)
      (alike (last_scope sha256 E Whole) (after_all with_entry (scope_behind []) added) (starts_defs (scope_behind E) ds (starts_alone E)) (starts_behind (scope_behind []) added (starts_alone []))
      (calls_all (scope_behind E) (scope_behind []) E ds (λ m. tt)))

of_program : (E : Environment) → NoneOwn E → {ts : List Sign} {p : ProgramTree} → IsProgram ts p → Alike (last_scope sha256 E p) (own_scope (loaded sha256 E Own' p))
of_program E none (program {ds = ds} {e = e} parsed) = program_alike E none ds e

module _ (text : Bytes) (shelf : List Shelved) (F : Environment) (e : Expr) (T : Typ) (a : Accepted sha256 text shelf F e T) where
  last_alike : Alike (last_scope sha256 a.front a.tree) (own_scope F)
  last_alike = subst (λ (G : Environment). Alike (last_scope sha256 a.front a.tree) (own_scope G)) (sym a.entries) (of_program a.front (given_none a.shelved refl) a.part.has.is)

  pub type_behind : (t : TypeTree) → type_in (last_scope sha256 a.front a.tree) t ≡ type_in (own_scope F) t
  type_behind = type_same (last_scope sha256 a.front a.tree) (own_scope F) last_alike

  pub fault_behind : (t : TypeTree) → type_fault (last_scope sha256 a.front a.tree) t ≡ type_fault (own_scope F) t
  fault_behind = fault_same (last_scope sha256 a.front a.tree) (own_scope F) last_alike
