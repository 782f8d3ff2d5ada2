-- The terms that a text writes in a scope: they are within the bounds of their spelling, and speak of known types.
use Rattle.std.proofs.Common.{◌≡◌, ◌∙◌, ◌≤◌, ◌<◌, ◌+◌, ◌^◌, refl, sym, ap, subst, ℕ, suc, Bool, true, false, List, [], ◌∷◌, ◌++◌, map, length, Option, Some, None, arith}
use Rattle.std.specs.Prelude.{nat_le, is_some, ◌||◌, ◌&&◌, option_map, option_and_then, unwrap_or, slice_get}
use Rattle.std.specs.List.{list_all}
use Rattle.std.specs.Option.{option_or}
use Rattle.std.proofs.lemmas.Bool.{lt-ltb, le-leb}
use Rattle.ac_types.specs.Limits.{widest_tuple, most_arms, most_variables, longest_text}
use Rattle.ac_types.proofs.FirstLaws.{none≢some, some_eq}
use Rattle.ac_types.proofs.Same.{both_true, and_true}
use Rattle.ac_types.specs.Types.{Bytes, Typ, TFun, same_bytes, mentions, is_small}
use Rattle.ac_types.specs.Sigs.{Signature, named_type}
use Rattle.ac_terms.specs.Terms.{Expr, Var, Own, Ref, Unit'}
use Rattle.ac_terms.specs.Defs.{Environment, Entry, signature, def_of, signature_at}
use Rattle.ac_terms.specs.Parts.{Portion, OfType, OfRef, OfHome, Captured, pattern_types, all_pattern_types, term_parts, all_term_parts, arm_parts, part_mentions}
use Rattle.ac_terms.specs.Spelling.{pattern_count, term_count, arm_count}
use Rattle.ac_terms.specs.PrimitiveTypes.{primitives}
use Rattle.ac_terms.specs.Bounds.{is_two, is_four, is_width, takes, fits_type, fits_pattern, fit_patterns, fits_term, fit_terms, fit_arms}
use Rattle.ac_terms.proofs.AllLaws.{all_append}
use Rattle.ac_rules.specs.Views.{is_known, are_known}
use Rattle.ac_rules.specs.Coherent.{IsCoherent}
use Rattle.ac_rules.proofs.Rules.{map_some, then_some}
use Rattle.ac_rules.proofs.ViewLaws.{within as place_within}
use Rattle.ac_syntax.specs.Trees.{TypeTree, PatTree, PatWild, PatVar, PatInt, PatBool, PatStr, PatUnit, PatTuple, PatNil, PatCons, PatAbsent, PatPresent, PatExn, PatExnOf, PatTrees, no_pat_trees, pat_tree, Tree, ExInt, ExBool, ExStr, ExUnit, ExExn, ExExnOf, ExTuple, ExNil, ExAbsent, ExPresent, ExCons, ExVar, ExOf, ExFun, ExRec, ExApp, ExLet, ExLetRec, ExIf, ExSeq, ExMatch, ExTry, ExRaise, ExAnd, ExOr, ExOp, ExMarshal, ExUnmarshal, Trees, no_trees, tree, ArmTrees, no_arm_trees, arm_tree}
use Rattle.ac_resolve_scopes.specs.Standard.{NamedPrimitive, beside_name, standard, is_standard, primitive_named}
use Rattle.ac_resolve_scopes.specs.Scopes.{NameScope, own_number, binders_to, definition, before_dot, value_outside, primitive_function, plain_value, dotted_value, with_variables}
use Rattle.ac_resolve_scopes.specs.Written.{type_in, pattern_in, patterns_in, in_function, in_arm, pattern_names, primitive_at, applied_tree, term_in, terms_in, arms_in}
use Rattle.ac_resolve_scopes.specs.Searches.{least, tree_count, arms_written, found, found_in_all, found_in_arms}
use Rattle.ac_resolve_scopes.specs.Unbound.{unbound_type, unbound_pattern, unbound_patterns, unbound}
use Rattle.ac_resolve_scopes.specs.Counts.{over, pat_count, large_type, large_pattern, large_patterns, large}
use Rattle.ac_load_rules.proofs.Distinct.{least_none}
use Rattle.ac_load_rules.proofs.TreeBounds.{TypeHas, PatHas, PatsHave, TreeHas, TreesHave, ArmsHave}
use Rattle.ac_load_rules.proofs.OutsideTypes.{IsFine, value_lower}
use Rattle.ac_load_rules.proofs.FineTypes.{within, width_fits, there_unless, there_behind, IsScope, with_more, written_fine}

-- of two that are not there, in two searches
abbrev pub Neither : (a b : Option ℕ) → Type 0
Neither a b = (a ≡ None) × (b ≡ None)

pub both_none : (a b c d : Option ℕ) → Neither (least a b) (least c d) → Neither a c × Neither b d
both_none a b c d h =
    let x = least_none a b h.0 in
    let y = least_none c d h.1 in
    ((x.0, y.0), (x.1, y.1))

-- a name among some has a number below theirs
raised : (o : Option ℕ) (i n : ℕ) → option_map suc o ≡ Some i → ((k : ℕ) → o ≡ Some k → k < n) → i < suc n
raised None i n h low = absurd (none≢some h)
raised (Some k) i n h low = let l = low k refl in let same : suc k ≡ i = some_eq h in omega (arith, l, same)

binder_low : (x : Bytes) (names : List Bytes) (i : ℕ) → binders_to x names ≡ Some i → i < length names
binder_low x [] i h = absurd (none≢some h)
binder_low x (y ∷ names) i h = on (binder_low x names) (same_bytes y x) h where
  on : ((k : ℕ) → binders_to x names ≡ Some k → k < length names) → (b : Bool) → elim b as (λ z. Option ℕ) [ true ↦ Some 0 | false ↦ option_map suc (binders_to x names) ] ≡ Some i → i < suc (length names)
  on low true e = let same : 0 ≡ i = some_eq e in omega (arith, same)
  on low false e = raised (binders_to x names) i (length names) e low

number_low : (x : Bytes) (names : List Bytes) (i : ℕ) → own_number x names ≡ Some i → i < length names
number_low x [] i h = absurd (none≢some h)
number_low x (y ∷ names) i h = on (number_low x names i) (same_bytes y x) h where
  on : (own_number x names ≡ Some i → i < length names) → (b : Bool) → elim b as (λ z. Option ℕ) [ true ↦ Some (length names) | false ↦ own_number x names ] ≡ Some i → i < suc (length names)
  on low true e = let same : length names ≡ i = some_eq e in omega (arith, same)
  on low false e = let l = low e in omega (arith, l)

two_fits : (i n : ℕ) → i < n → n ≤ 65535 → is_two i ≡ true
two_fits i n h k = lt-ltb i (2 ^ 16) (omega (arith, h, k))

-- the primitives of the standard modules take one argument of a type without abstract types
pub record IsPrimitive (p : NamedPrimitive) : Type 0 where
  pub fits : fits_type false p.argument ≡ true
  pub takes_one : takes primitives p.number 1 ≡ true
  pub silent : mentions p.argument ≡ []
  pub small : is_small p.argument ≡ true

abbrev AllBeside : {A : Type 0} → (A → Type 0) → List (Bytes × A) → Type 0
AllBeside P [] = Unit {0}
AllBeside P (x ∷ table) = P x.1 × AllBeside P table

beside_has : {A : Type 0} (P : A → Type 0) (x : Bytes) (table : List (Bytes × A)) (a : A) → AllBeside P table → beside_name x table ≡ Some a → P a
beside_has P x [] a h e = absurd (none≢some e)
beside_has {A} P x (y ∷ table) a h e = on (beside_has P x table a) (same_bytes y.0 x) e where
  on : (AllBeside P table → beside_name x table ≡ Some a → P a) → (b : Bool) → elim b as (λ z. Option A) [ true ↦ Some y.1 | false ↦ beside_name x table ] ≡ Some a → P a
  on more true found = subst P (some_eq found) h.0
  on more false found = more h.1 found

abbrev one_argument : {p : NamedPrimitive} → fits_type false p.argument ≡ true → takes primitives p.number 1 ≡ true → mentions p.argument ≡ [] → is_small p.argument ≡ true → IsPrimitive p
one_argument f t s l = record { fits = f; takes_one = t; silent = s; small = l }

all_primitives : AllBeside (λ (table : List (Bytes × NamedPrimitive)). AllBeside IsPrimitive table) standard
all_primitives =
    ((one_argument refl refl refl refl, (one_argument refl refl refl refl, (one_argument refl refl refl refl, (one_argument refl refl refl refl, tt)))), ((one_argument refl refl refl refl, (one_argument refl refl refl refl, (one_argument refl refl refl refl, tt))), tt))

pub is_primitive : (m x : Bytes) (p : NamedPrimitive) → primitive_named m x ≡ Some p → IsPrimitive p
is_primitive m x p h =
    let r = then_some (beside_name x) (beside_name m standard) p h in
    beside_has IsPrimitive x r.0 p (beside_has (λ (table : List (Bytes × NamedPrimitive)). AllBeside IsPrimitive table) m standard r.0 all_primitives r.1) r.2

-- whether a part of a term speaks of known types
abbrev pub speaks : Environment → Portion → Bool
speaks E (OfType T) = are_known E T
speaks E (OfRef j x) = true
speaks E (OfHome h) = true
speaks E Captured = true

pub mentions_known : (E : Environment) (ps : List Portion) → list_all (speaks E) ps ≡ true → list_all (is_known E) (part_mentions ps) ≡ true
mentions_known E [] h = refl
mentions_known E (OfType T ∷ ps) h = let r = both_true (are_known E T) _ h in all_append (is_known E) (mentions T) (part_mentions ps) r.0 (mentions_known E ps r.1)
mentions_known E (OfRef j x ∷ ps) h = mentions_known E ps h
mentions_known E (OfHome c ∷ ps) h = mentions_known E ps h
mentions_known E (Captured ∷ ps) h = mentions_known E ps h

-- a term within the bounds of its spelling that speaks of known types
pub record IsFineTerm (E : Environment) (e : Expr) : Type 0 where
  pub fits : fits_term false e ≡ true
  pub known : list_all (speaks E) (term_parts e) ≡ true

module _ (E : Environment) (coherent : IsCoherent E) (own : Bytes → Bool) where
  abbrev Scoped : NameScope → Type 0
  Scoped S = IsScope E coherent own false S

  written : (S : NameScope) → Scoped S → (t : TypeTree) → TypeHas t → Neither (unbound_type S t) (large_type S t) → IsFine E own false (type_in S t)
  written S s t h n = written_fine E coherent own false S s t h n.0 n.1

  -- patterns
  record IsFinePattern (S : NameScope) (p : PatTree) : Type 0 where
    fits : fits_pattern (pattern_in S p) ≡ true
    known : list_all (are_known E) (pattern_types (pattern_in S p)) ≡ true

  record AreFinePatterns (S : NameScope) (ps : PatTrees) : Type 0 where
    fit : fit_patterns (patterns_in S ps) ≡ true
    known : list_all (are_known E) (all_pattern_types (patterns_in S ps)) ≡ true

  patterns_counted : (S : NameScope) (ps : PatTrees) → pattern_count (patterns_in S ps) ≡ pat_count ps
  patterns_counted S no_pat_trees = refl
  patterns_counted S (pat_tree p ps) = ap suc (patterns_counted S ps)

  mutual
    pattern_fine : (S : NameScope) → Scoped S → (p : PatTree) → PatHas p → Neither (unbound_pattern S p) (large_pattern S p) → IsFinePattern S p
    pattern_fine S s (PatVar at name ty) h n = let x = written S s ty h n in record { fits = x.fits; known = and_true x.known refl }
    pattern_fine S s (PatInt at k) h n = record { fits = h; known = refl }
    pattern_fine S s (PatStr at text) h n = record { fits = h; known = refl }
    pattern_fine S s (PatTuple at parts) h n =
        let w = least_none (over widest_tuple (pat_count parts)) (large_patterns S parts) n.1 in
        let x = patterns_fine S s parts h.1 (n.0, w.1) in
        record { fits = and_true (ap is_width (patterns_counted S parts) ∙ width_fits (pat_count parts) h.0 w.0) x.fit; known = x.known }
    pattern_fine S s (PatCons at head tail) h n =
        let w = both_none (unbound_pattern S head) (unbound_pattern S tail) (large_pattern S head) (large_pattern S tail) n in
        let x = pattern_fine S s head h.0 w.0 in
        let y = pattern_fine S s tail h.1 w.1 in
        record { fits = and_true x.fits y.fits; known = all_append (are_known E) (pattern_types (pattern_in S head)) (pattern_types (pattern_in S tail)) x.known y.known }
    pattern_fine S s (PatPresent at item) h n = let x = pattern_fine S s item h n in record { fits = x.fits; known = x.known }
    pattern_fine S s (PatExn at k) h n = record { fits = h; known = refl }
    pattern_fine S s (PatExnOf at k item) h n = let x = pattern_fine S s item h.1 n in record { fits = and_true h.0 x.fits; known = x.known }
    pattern_fine S s (PatWild at) h n = record { fits = refl; known = refl }
    pattern_fine S s (PatBool at b) h n = record { fits = refl; known = refl }
    pattern_fine S s (PatUnit at) h n = record { fits = refl; known = refl }
    pattern_fine S s (PatNil at) h n = record { fits = refl; known = refl }
    pattern_fine S s (PatAbsent at) h n = record { fits = refl; known = refl }

    patterns_fine : (S : NameScope) → Scoped S → (ps : PatTrees) → PatsHave ps → Neither (unbound_patterns S ps) (large_patterns S ps) → AreFinePatterns S ps
    patterns_fine S s no_pat_trees h n = record { fit = refl; known = refl }
    patterns_fine S s (pat_tree p ps) h n =
        let w = both_none (unbound_pattern S p) (unbound_patterns S ps) (large_pattern S p) (large_patterns S ps) n in
        let x = pattern_fine S s p h.0 w.0 in
        let y = patterns_fine S s ps h.1 w.1 in
        record { fit = and_true x.fits y.fit; known = all_append (are_known E) (pattern_types (pattern_in S p)) (all_pattern_types (patterns_in S ps)) x.known y.known }

  -- a pattern's types as parts
  types_speak : (Ts : List Typ) → list_all (are_known E) Ts ≡ true → list_all (speaks E) (map OfType Ts) ≡ true
  types_speak [] h = refl
  types_speak (T ∷ Ts) h = let r = both_true (are_known E T) _ h in and_true r.0 (types_speak Ts r.1)

  -- a primitive by itself, and one that is applied
  primitive_fine : (p : NamedPrimitive) → IsPrimitive p → IsFineTerm E (primitive_function p)
  primitive_fine p x = record { fits = and_true x.fits (and_true x.takes_one refl); known = and_true (ap (list_all (is_known E)) x.silent) refl }

  applied_fine : (o : Option NamedPrimitive) → ((p : NamedPrimitive) → o ≡ Some p → IsPrimitive p) → (f a : Expr) → IsFineTerm E f → IsFineTerm E a → IsFineTerm E (applied_tree o f a)
  applied_fine None is f a x y = record { fits = and_true x.fits y.fits; known = all_append (speaks E) (term_parts f) (term_parts a) x.known y.known }
  applied_fine (Some p) is f a x y =
      let q = is p refl in
      record { fits = and_true q.takes_one (and_true y.fits refl); known = all_append (speaks E) (term_parts a) [] y.known refl }

  applied_primitive : (f : Tree) (p : NamedPrimitive) → primitive_at f ≡ Some p → IsPrimitive p
  applied_primitive (ExOf at m x) p h = is_primitive m.word x.word p h
  applied_primitive (ExInt at n) p h = absurd (none≢some h)
  applied_primitive (ExBool at b) p h = absurd (none≢some h)
  applied_primitive (ExStr at text) p h = absurd (none≢some h)
  applied_primitive (ExUnit at) p h = absurd (none≢some h)
  applied_primitive (ExExn at number) p h = absurd (none≢some h)
  applied_primitive (ExExnOf at number argument) p h = absurd (none≢some h)
  applied_primitive (ExTuple at parts) p h = absurd (none≢some h)
  applied_primitive (ExNil at ty) p h = absurd (none≢some h)
  applied_primitive (ExAbsent at ty) p h = absurd (none≢some h)
  applied_primitive (ExPresent at item) p h = absurd (none≢some h)
  applied_primitive (ExCons at head tail) p h = absurd (none≢some h)
  applied_primitive (ExVar at x) p h = absurd (none≢some h)
  applied_primitive (ExFun at name ty body) p h = absurd (none≢some h)
  applied_primitive (ExRec at name argument ty result body) p h = absurd (none≢some h)
  applied_primitive (ExApp at f a) p h = absurd (none≢some h)
  applied_primitive (ExLet at name ty bound body) p h = absurd (none≢some h)
  applied_primitive (ExLetRec at name argument ty result bound body) p h = absurd (none≢some h)
  applied_primitive (ExIf at test so otherwise) p h = absurd (none≢some h)
  applied_primitive (ExSeq at parts) p h = absurd (none≢some h)
  applied_primitive (ExMatch at of arms) p h = absurd (none≢some h)
  applied_primitive (ExTry at of arms) p h = absurd (none≢some h)
  applied_primitive (ExRaise at exception ty) p h = absurd (none≢some h)
  applied_primitive (ExAnd at a b) p h = absurd (none≢some h)
  applied_primitive (ExOr at a b) p h = absurd (none≢some h)
  applied_primitive (ExOp at number parts) p h = absurd (none≢some h)
  applied_primitive (ExMarshal at mark value ty) p h = absurd (none≢some h)
  applied_primitive (ExUnmarshal at text ty) p h = absurd (none≢some h)

  -- a variable or a field, and a value of a definition
  plain_fine : (S : NameScope) → length S.fields ≤ 65535 → length S.variables ≤ 65535 → (x : Bytes) (e : Expr) → plain_value S x ≡ Some e → IsFineTerm E e
  plain_fine S few short x e h = on (binders_to x S.variables) refl (own_number x S.fields) refl h where
    on : (o : Option ℕ) → binders_to x S.variables ≡ o → (f : Option ℕ) → own_number x S.fields ≡ f → option_or (option_map Var o) (option_map Own f) ≡ Some e → IsFineTerm E e
    on (Some i) is f of h = subst (IsFineTerm E) (some_eq h) (record { fits = two_fits i (length S.variables) (binder_low x S.variables i is) short; known = refl })
    on None is (Some f) of h = subst (IsFineTerm E) (some_eq h) (record { fits = two_fits f (length S.fields) (number_low x S.fields f of) few; known = refl })
    on None is None of h = absurd (none≢some h)

  entry_within : (j : ℕ) (s : Signature) → signature_at E j ≡ Some s → j < length E
  entry_within j s h =
      let d = then_some signature (def_of E j) s h in
      let e = map_some (λ (x : Entry). x.def) (slice_get E j) d.0 d.1 in
      place_within E j e.0 e.1

  value_fine : (S : NameScope) → Scoped S → (o : Option ℕ) (x : Bytes) (e : Expr) → option_and_then (value_outside S.entries x) o ≡ Some e → IsFineTerm E e
  value_fine S s None x e h = absurd (none≢some h)
  value_fine S s (Some j) x e h =
      let a = then_some (λ (g : Signature). option_map (λ (T : Typ). Ref j x) (named_type x g.vals)) (signature_at S.entries j) e h in
      let b = map_some (λ (T : Typ). Ref j x) (named_type x a.0.vals) e a.2 in
      let there : signature_at E j ≡ Some a.0 = sym (s.signatures j) ∙ a.1 in
      subst (IsFineTerm E) b.2 (record { fits = and_true (two_fits j (length E) (entry_within j a.0 there) coherent.few) (value_lower E coherent j a.0 x b.0 there b.1); known = refl })

  dotted_fine : (S : NameScope) → Scoped S → (m x : Bytes) (e : Expr) → dotted_value S m x ≡ Some e → IsFineTerm E e
  dotted_fine S s m x e h = on (primitive_named m x) refl h where
    on : (o : Option NamedPrimitive) → primitive_named m x ≡ o → option_or (option_map primitive_function o) (option_and_then (value_outside S.entries x) (before_dot S m)) ≡ Some e → IsFineTerm E e
    on (Some p) is h = subst (IsFineTerm E) (some_eq h) (primitive_fine p (is_primitive m x p is))
    on None is h = value_fine S s (before_dot S m) x e h

  seq_fits : (n : ℕ) → n ≤ longest_text + 1 → is_four n ≡ true
  seq_fits n h = lt-ltb n (2 ^ 32) (omega (arith, h))

  few_arms : (n : ℕ) → over most_arms n ≡ None → nat_le n 1024 ≡ true
  few_arms n h = le-leb n 1024 (within most_arms n h)

  terms_counted : (S : NameScope) (es : Trees) → term_count (terms_in S es) ≡ tree_count es
  terms_counted S no_trees = refl
  terms_counted S (tree e es) = ap suc (terms_counted S es)

  arms_counted : (S : NameScope) (arms : ArmTrees) → arm_count (arms_in S arms) ≡ arms_written arms
  arms_counted S no_arm_trees = refl
  arms_counted S (arm_tree p b arms) = ap suc (arms_counted (S) arms)

  record AreFineTerms (S : NameScope) (es : Trees) : Type 0 where
    fit : fit_terms false (terms_in S es) ≡ true
    known : list_all (speaks E) (all_term_parts (terms_in S es)) ≡ true

  record AreFineArms (S : NameScope) (arms : ArmTrees) : Type 0 where
    fit : fit_arms false (arms_in S arms) ≡ true
    known : list_all (speaks E) (arm_parts (arms_in S arms)) ≡ true

  -- nothing is missing and nothing too large
  abbrev Clear : NameScope → Tree → Type 0
  Clear S e = Neither (found unbound S e) (found large S e)

  join : (ps qs : List Portion) → list_all (speaks E) ps ≡ true → list_all (speaks E) qs ≡ true → list_all (speaks E) (ps ++ qs) ≡ true
  join ps qs h k = all_append (speaks E) ps qs h k

  three : (ps qs rs : List Portion) → list_all (speaks E) ps ≡ true → list_all (speaks E) qs ≡ true → list_all (speaks E) rs ≡ true → list_all (speaks E) (ps ++ qs ++ rs) ≡ true
  three ps qs rs h k l = join (ps ++ qs) rs (join ps qs h k) l

  -- a match and a try have the same parts
  record IsFineCases (S : NameScope) (a : Tree) (arms : ArmTrees) : Type 0 where
    fits : (fits_term false (term_in S a) && fit_arms false (arms_in S arms) && nat_le 1 (arm_count (arms_in S arms)) && nat_le (arm_count (arms_in S arms)) 1024) ≡ true
    known : list_all (speaks E) (term_parts (term_in S a) ++ arm_parts (arms_in S arms)) ≡ true

  cases_fine : (S : NameScope) (a : Tree) (arms : ArmTrees) → 1 ≤ arms_written arms → over most_arms (arms_written arms) ≡ None → IsFineTerm E (term_in S a) → AreFineArms S arms → IsFineCases S a arms
  cases_fine S a arms some few x y =
      let same = arms_counted S arms in
      record {
        fits = and_true (and_true (and_true x.fits y.fit) (ap (nat_le 1) same ∙ le-leb 1 (arms_written arms) some)) (ap (λ (k : ℕ). nat_le k 1024) same ∙ few_arms (arms_written arms) few);
        known = join (term_parts (term_in S a)) (arm_parts (arms_in S arms)) x.known y.known;
      }

  mutual
    pub term_fine : (S : NameScope) → Scoped S → length S.fields ≤ 65535 → (e : Tree) → TreeHas e → Clear S e → IsFineTerm E (term_in S e)
    term_fine S s few (ExInt at k) h n = record { fits = h; known = refl }
    term_fine S s few (ExBool at b) h n = record { fits = refl; known = refl }
    term_fine S s few (ExStr at text) h n = record { fits = h; known = refl }
    term_fine S s few (ExUnit at) h n = record { fits = refl; known = refl }
    term_fine S s few (ExExn at k) h n = record { fits = h; known = refl }
    term_fine S s few (ExExnOf at k a) h n = let x = term_fine S s few a h.1 n in record { fits = and_true h.0 x.fits; known = x.known }
    term_fine S s few (ExTuple at parts) h n =
        let w = least_none (over widest_tuple (tree_count parts)) (found_in_all large S parts) n.1 in
        let m = least_none None (found_in_all unbound S parts) n.0 in
        let x = terms_fine S s few parts h.1 (m.1, w.1) in
        record { fits = and_true (ap is_width (terms_counted S parts) ∙ width_fits (tree_count parts) h.0 w.0) x.fit; known = x.known }
    term_fine S s few (ExNil at T) h n =
        let w = both_none (unbound_type S T) None (large_type S T) _ n in
        let x = written S s T h w.0 in
        record { fits = x.fits; known = and_true x.known refl }
    term_fine S s few (ExAbsent at T) h n =
        let w = both_none (unbound_type S T) None (large_type S T) _ n in
        let x = written S s T h w.0 in
        record { fits = x.fits; known = and_true x.known refl }
    term_fine S s few (ExPresent at a) h n = let x = term_fine S s few a h n in record { fits = x.fits; known = x.known }
    term_fine S s few (ExCons at a b) h n =
        let w = both_none (found unbound S a) (found unbound S b) (found large S a) (found large S b) n in
        let x = term_fine S s few a h.0 w.0 in
        let y = term_fine S s few b h.1 w.1 in
        record { fits = and_true x.fits y.fits; known = join (term_parts (term_in S a)) (term_parts (term_in S b)) x.known y.known }
    term_fine S s few (ExVar at x) h n =
        let v = there_unless (plain_value S x) at n.0 in
        subst (IsFineTerm E) (sym (ap (λ o. unwrap_or o (Var 0)) v.1)) (plain_fine S few (within most_variables (length S.variables) n.1) x v.0 v.1)
    term_fine S s few (ExOf at m x) h n =
        let v = there_behind (is_standard m.word || is_some (definition S m.word)) (dotted_value S m.word x.word) m x n.0 in
        subst (IsFineTerm E) (sym (ap (λ o. unwrap_or o Unit') v.1)) (dotted_fine S s m.word x.word v.0 v.1)
    term_fine S s few (ExFun at x T b) h n =
        let w = both_none (unbound_type S T) _ (large_type S T) _ n in
        let t = written S s T h.0 w.0 in
        let y = term_fine (with_variables (x ∷ []) S) (with_more E coherent own false (x ∷ []) s) few b h.1 w.1 in
        record { fits = and_true t.fits y.fits; known = and_true t.known y.known }
    term_fine S s few (ExRec at f x T U b) h n =
        let w = both_none (unbound_type S T) _ (large_type S T) _ n in
        let v = both_none (unbound_type S U) _ (large_type S U) _ w.1 in
        let t = written S s T h.0 w.0 in
        let u = written S s U h.1 v.0 in
        let y = term_fine (in_function f x S) (with_more E coherent own false (f ∷ x ∷ []) s) few b h.2 v.1 in
        record { fits = and_true (and_true t.fits u.fits) y.fits; known = and_true t.known (and_true u.known y.known) }
    term_fine S s few (ExApp at f a) h n =
        let w = both_none (found unbound S f) (found unbound S a) (found large S f) (found large S a) n in
        applied_fine (primitive_at f) (applied_primitive f) (term_in S f) (term_in S a) (term_fine S s few f h.0 w.0) (term_fine S s few a h.1 w.1)
    term_fine S s few (ExLet at x T a b) h n =
        let w = both_none (unbound_type S T) _ (large_type S T) _ n in
        let v = both_none (found unbound S a) _ (found large S a) _ w.1 in
        let t = written S s T h.0 w.0 in
        let y = term_fine S s few a h.1 v.0 in
        let z = term_fine (with_variables (x ∷ []) S) (with_more E coherent own false (x ∷ []) s) few b h.2 v.1 in
        record { fits = and_true (and_true t.fits y.fits) z.fits; known = and_true t.known (join (term_parts (term_in S a)) _ y.known z.known) }
    term_fine S s few (ExLetRec at f x T U a b) h n =
        let w = both_none (unbound_type S T) _ (large_type S T) _ n in
        let v = both_none (unbound_type S U) _ (large_type S U) _ w.1 in
        let m = both_none (found unbound (in_function f x S) a) _ (found large (in_function f x S) a) _ v.1 in
        let t = written S s T h.0 w.0 in
        let u = written S s U h.1 v.0 in
        let y = term_fine (in_function f x S) (with_more E coherent own false (f ∷ x ∷ []) s) few a h.2 m.0 in
        let z = term_fine (with_variables (f ∷ []) S) (with_more E coherent own false (f ∷ []) s) few b h.3 m.1 in
        let arrow : are_known E (TFun (type_in S T) (type_in S U)) ≡ true = all_append (is_known E) (mentions (type_in S T)) (mentions (type_in S U)) t.known u.known in
        record {
          fits = and_true (and_true (and_true t.fits u.fits) (and_true (and_true t.fits u.fits) y.fits)) z.fits;
          known = and_true arrow (join (OfType (type_in S T) ∷ OfType (type_in S U) ∷ term_parts (term_in (in_function f x S) a)) _ (and_true t.known (and_true u.known y.known)) z.known);
        }
    term_fine S s few (ExIf at c a b) h n =
        let w = both_none (found unbound S c) _ (found large S c) _ n in
        let v = both_none (found unbound S a) (found unbound S b) (found large S a) (found large S b) w.1 in
        let x = term_fine S s few c h.0 w.0 in
        let y = term_fine S s few a h.1 v.0 in
        let z = term_fine S s few b h.2 v.1 in
        record { fits = and_true (and_true x.fits y.fits) z.fits; known = three (term_parts (term_in S c)) (term_parts (term_in S a)) (term_parts (term_in S b)) x.known y.known z.known }
    term_fine S s few (ExSeq at parts) h n =
        let x = terms_fine S s few parts h.2 n in
        let same = terms_counted S parts in
        record { fits = and_true (and_true (ap (nat_le 2) same ∙ le-leb 2 (tree_count parts) h.0) (ap is_four same ∙ seq_fits (tree_count parts) h.1)) x.fit; known = x.known }
    term_fine S s few (ExMatch at a arms) h n =
        let w = least_none (over most_arms (arms_written arms)) _ n.1 in
        let m = least_none None (least (found unbound S a) (found_in_arms unbound S arms)) n.0 in
        let v = both_none (found unbound S a) (found_in_arms unbound S arms) (found large S a) (found_in_arms large S arms) (m.1, w.1) in
        let x = cases_fine S a arms h.1 w.0 (term_fine S s few a h.0 v.0) (arms_fine S s few arms h.2 v.1) in
        record { fits = x.fits; known = x.known }
    term_fine S s few (ExTry at a arms) h n =
        let w = least_none (over most_arms (arms_written arms)) _ n.1 in
        let m = least_none None (least (found unbound S a) (found_in_arms unbound S arms)) n.0 in
        let v = both_none (found unbound S a) (found_in_arms unbound S arms) (found large S a) (found_in_arms large S arms) (m.1, w.1) in
        let x = cases_fine S a arms h.1 w.0 (term_fine S s few a h.0 v.0) (arms_fine S s few arms h.2 v.1) in
        record { fits = x.fits; known = x.known }
    term_fine S s few (ExRaise at a T) h n =
        let w = both_none (unbound_type S T) _ (large_type S T) _ n in
        let t = written S s T h.1 w.0 in
        let x = term_fine S s few a h.0 w.1 in
        record { fits = and_true t.fits x.fits; known = and_true t.known x.known }
    term_fine S s few (ExAnd at a b) h n =
        let w = both_none (found unbound S a) (found unbound S b) (found large S a) (found large S b) n in
        let x = term_fine S s few a h.0 w.0 in
        let y = term_fine S s few b h.1 w.1 in
        record { fits = and_true (and_true x.fits y.fits) refl; known = three (term_parts (term_in S a)) (term_parts (term_in S b)) [] x.known y.known refl }
    term_fine S s few (ExOr at a b) h n =
        let w = both_none (found unbound S a) (found unbound S b) (found large S a) (found large S b) n in
        let x = term_fine S s few a h.0 w.0 in
        let y = term_fine S s few b h.1 w.1 in
        record { fits = and_true (and_true x.fits refl) y.fits; known = three (term_parts (term_in S a)) [] (term_parts (term_in S b)) x.known refl y.known }
    term_fine S s few (ExOp at k parts) h n =
        let x = terms_fine S s few parts h.1 n in
        record { fits = and_true (ap (takes primitives k) (terms_counted S parts) ∙ h.0) x.fit; known = x.known }
    term_fine S s few (ExMarshal at a b T) h n =
        let w = both_none (unbound_type S T) _ (large_type S T) _ n in
        let v = both_none (found unbound S a) (found unbound S b) (found large S a) (found large S b) w.1 in
        let t = written S s T h.2 w.0 in
        let x = term_fine S s few a h.0 v.0 in
        let y = term_fine S s few b h.1 v.1 in
        record { fits = and_true (and_true t.fits x.fits) y.fits; known = and_true t.known (join (term_parts (term_in S a)) (term_parts (term_in S b)) x.known y.known) }
    term_fine S s few (ExUnmarshal at a T) h n =
        let w = both_none (unbound_type S T) _ (large_type S T) _ n in
        let t = written S s T h.1 w.0 in
        let x = term_fine S s few a h.0 w.1 in
        record { fits = and_true t.fits x.fits; known = and_true t.known x.known }

    terms_fine : (S : NameScope) → Scoped S → length S.fields ≤ 65535 → (es : Trees) → TreesHave es → Neither (found_in_all unbound S es) (found_in_all large S es) → AreFineTerms S es
    terms_fine S s few no_trees h n = record { fit = refl; known = refl }
    terms_fine S s few (tree e es) h n =
        let w = both_none (found unbound S e) _ (found large S e) _ n in
        let x = term_fine S s few e h.0 w.0 in
        let y = terms_fine S s few es h.1 w.1 in
        record { fit = and_true x.fits y.fit; known = join (term_parts (term_in S e)) _ x.known y.known }

    arms_fine : (S : NameScope) → Scoped S → length S.fields ≤ 65535 → (arms : ArmTrees) → ArmsHave arms → Neither (found_in_arms unbound S arms) (found_in_arms large S arms) → AreFineArms S arms
    arms_fine S s few no_arm_trees h n = record { fit = refl; known = refl }
    arms_fine S s few (arm_tree p b arms) h n =
        let w = both_none (unbound_pattern S p) _ (large_pattern S p) _ n in
        let v = both_none (found unbound (in_arm p S) b) _ (found large (in_arm p S) b) _ w.1 in
        let x = pattern_fine S s p h.0 w.0 in
        let y = term_fine (in_arm p S) (with_more E coherent own false (pattern_names p) s) few b h.1 v.0 in
        let z = arms_fine S s few arms h.2 v.1 in
        record {
          fit = and_true (and_true x.fits y.fits) z.fit;
          known = three (map OfType (pattern_types (pattern_in S p))) (term_parts (term_in (in_arm p S) b)) (arm_parts (arms_in S arms)) (types_speak (pattern_types (pattern_in S p)) x.known) y.known z.known;
        }
