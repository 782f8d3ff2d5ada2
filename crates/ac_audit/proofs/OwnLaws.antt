-- The own entries keep their names, and are no more than all; what is wrong with a type behind them.
use Rattle.std.proofs.Common.{◌≡◌, refl, sym, ap, ◌∙◌, ℕ, suc, ◌+◌, ◌<◌, ◌≤◌, Bool, true, false, List, [], ◌∷◌, ◌++◌, map, length, take, get_or, append-nil, arith}
use Rattle.std.specs.Prelude.{cond, filter}
use Rattle.std.specs.List.{list_all}
use Rattle.std.proofs.lemmas.List.{take_more, map-append}
use Rattle.std.proofs.lemmas.List.Elements.{filter-append}
use Rattle.ac_types.proofs.Same.{both_true, and_true}
use Rattle.ac_terms.specs.Defs.{Environment, Entry}
use Rattle.ac_terms.specs.Read.{entry_of}
use Rattle.ac_terms.specs.declared.def.Entry as code
use Rattle.ac_rules.specs.Links.{is_own}
use Rattle.ac_syntax.specs.Trees.{TypeTree}
use Rattle.ac_resolve_scopes.specs.Scopes.{NameScope, scope_behind, with_entry, after_all}
use Rattle.ac_resolve_names.specs.Entries.{keeps_name}
use Rattle.ac_resolve_signatures.specs.KnownScopes.{known_outside}
use Rattle.ac_resolve_signatures.specs.EntriesInFront.{past_entries, no_outer}
use Rattle.ac_resolve_signatures.specs.TypeFlaws.{type_flaws}
use Rattle.ac_resolve_signatures.proofs.Knowing.{known_at_start, knows_entries, knows_none, starts_behind, starts_alone}
use Rattle.ac_resolve_signatures.proofs.TypesAre.{type_flaws-are}
use Rattle.ac_audit.specs.TypeTexts.{own_entries}
use Rattle.ac_audit.specs.inner.Faults.{type_faults}

filter_keeps : {A : Type 0} (test p : A → Bool) (xs : List A) → list_all p xs ≡ true → list_all p (filter test xs) ≡ true
filter_keeps test p [] h = refl
filter_keeps test p (x ∷ xs) h = let b = both_true (p x) _ h in by (test x) b.0 (filter_keeps test p xs b.1)
  where
    by : (b : Bool) → p x ≡ true → list_all p (filter test xs) ≡ true → list_all p (cond b (x ∷ filter test xs) (filter test xs)) ≡ true
    by true here more = and_true {a = p x} {b = list_all p (filter test xs)} here more
    by false here more = more

filter_fewer : {A : Type 0} (test : A → Bool) (xs : List A) → length (filter test xs) ≤ length xs
filter_fewer test [] = omega arith
filter_fewer test (x ∷ xs) = by (test x) (filter_fewer test xs)
  where
    by : (b : Bool) → length (filter test xs) ≤ length xs → length (cond b (x ∷ filter test xs) (filter test xs)) ≤ suc (length xs)
    by true more = omega (arith, more)
    by false more = omega (arith, more)

-- so the own entries keep their names, and are few
pub own_named : (E : Environment) → list_all keeps_name E ≡ true → list_all keeps_name (own_entries E) ≡ true
own_named E h = filter_keeps (λ (e : Entry). is_own e.seen) keeps_name E h

pub own_few : (E : Environment) (n : ℕ) → length E < n → length (own_entries E) < n
own_few E n h = let fewer = filter_fewer (λ (e : Entry). is_own e.seen) E in omega (arith, fewer, h)

pub faults_are : (E : Environment) (t : TypeTree) → type_flaws (known_outside (past_entries no_outer E)) t ≡ type_faults (after_all with_entry (scope_behind []) E) t
faults_are E t =
    let S : NameScope = after_all with_entry (scope_behind []) E in
    type_flaws-are (known_outside (past_entries no_outer E)) S (known_at_start (past_entries no_outer E) S (knows_entries no_outer (scope_behind []) E (knows_none [])) (starts_behind (scope_behind []) E (starts_alone []))) t

-- the own ones of the first entries, and of one more
module _ (es : List code.Entry) (i : ℕ) (x : code.Entry) (lt : i < length es) (item : x ≡ get_or es i x) (kept : List code.Entry) (same : map entry_of kept ≡ own_entries (map entry_of (take i es))) where
  with_next : own_entries (map entry_of (take (i + 1) es)) ≡ own_entries (map entry_of (take i es)) ++ own_entries (entry_of x ∷ [])
  with_next =
      ap (λ (l : List code.Entry). own_entries (map entry_of l)) (take_more es i x lt ∙ ap (λ (y : code.Entry). take i es ++ y ∷ []) (sym item))
      ∙ ap own_entries (map-append entry_of (take i es) (x ∷ []))
      ∙ filter-append (λ (e : Entry). is_own e.seen) (map entry_of (take i es)) (entry_of x ∷ [])

  pub own_more : is_own (entry_of x).seen ≡ true → (after : List code.Entry) → after ≡ kept ++ x ∷ [] → map entry_of after ≡ own_entries (map entry_of (take (i + 1) es))
  own_more own after grown =
      ap (map entry_of) grown ∙ map-append entry_of kept (x ∷ []) ∙ ap (λ (l : Environment). l ++ entry_of x ∷ []) same
      ∙ sym (with_next ∙ ap (λ (b : Bool). own_entries (map entry_of (take i es)) ++ cond b (entry_of x ∷ []) []) own)

  pub own_less : is_own (entry_of x).seen ≡ false → map entry_of kept ≡ own_entries (map entry_of (take (i + 1) es))
  own_less other =
      same ∙ sym (with_next ∙ ap (λ (b : Bool). own_entries (map entry_of (take i es)) ++ cond b (entry_of x ∷ []) []) other ∙ append-nil (own_entries (map entry_of (take i es))))
