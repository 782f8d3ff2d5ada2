-- A part that no cause refuses leaves a coherent environment: its definitions are added one by one.
use Rattle.std.proofs.Common.{◌≡◌, ◌∙◌, ◌<◌, ◌+◌, refl, sym, ap, ap₂, subst, ℕ, zero, suc, Bool, true, false, List, [], ◌∷◌, ◌++◌, map, length, Option, Some, None, arith, append_assoc, append-nil, length-append}
use Rattle.std.specs.Prelude.{not, is_some, nat_lt, ◌&&◌, option_map, option_and_then, slice_get, unwrap_or, IsTrue}
use Rattle.std.proofs.lemmas.Bool.{lt-ltb}
use mathlib.Core.Path.{fun_ext}
use Rattle.sha2.specs.Sha256.{sha256}
use Rattle.ac_types.proofs.FirstLaws.{none≢some, some_eq}
use Rattle.ac_types.proofs.Same.{and_true}
use Rattle.ac_types.specs.Types.{Bytes, same_bytes}
use Rattle.ac_types.specs.Sigs.{Signature, Ranges, Exact}
use Rattle.ac_terms.specs.Defs.{Environment, Entry, Import, Def, AModule, AnImport, AMark, Seen, Shelf, signature, def_of, signature_at, name_at}
use Rattle.ac_terms.specs.Names.{demanded, name_by}
use Rattle.ac_terms.specs.Spelling.{canonical_text}
use Rattle.ac_terms.specs.Parts.{Portion, OfType, OfRef, OfHome, Captured, part_refs, def_parts, has_captured}
use Rattle.ac_terms.proofs.AllLaws.{all_implies}
use Rattle.ac_rules.specs.Modules.{refers_back, has_sound_fields, has_sound_likes, has_right_likes}
use Rattle.ac_types.specs.Limits.{is_uri}
use Rattle.ac_rules.specs.Coherent.{IsCoherent, IsAModule}
use Rattle.ac_rules.proofs.Rules.{map_some, then_some}
use Rattle.ac_rules.proofs.ViewLaws.{within as place_within}
use Rattle.ac_rules.proofs.ListLaws.{get_old, get_new}
use Rattle.ac_rules.proofs.PartLaws.{AllInner, inner_def}
use Rattle.ac_syntax.specs.Trees.{WantsTree, WantsVersion, WantsName, AbbrevTree, DefTree, ModuleDef, ImportDef, MarkDef}
use Rattle.ac_resolve_scopes.specs.Standard.{beside_name}
use Rattle.ac_resolve_scopes.specs.Scopes.{NameScope, scope_behind, definition, external_names, with_entry, after_all, each_in}
use Rattle.ac_resolve_scopes.specs.Definitions.{signature_in, abbrev_type, after_abbrev, constraint_in, def_in, entry_in, after_def}
use Rattle.ac_resolve_scopes.specs.Searches.{least_in}
use Rattle.ac_resolve_scopes.specs.Unbound.{unbound_in_def}
use Rattle.ac_resolve_scopes.specs.Repeated.{repeated_in_def}
use Rattle.ac_resolve_scopes.specs.Counts.{large_in_def}
use Rattle.ac_resolve_scopes.proofs.References.{def_into}
use Rattle.ac_resolve_scopes.proofs.AddedEntries.{entries_in}
use Rattle.ac_load_rules.specs.Causes.{Cause, linked_entry, linked_behind, first_at, unlinked, without_likespec}
use Rattle.ac_load_rules.proofs.PartLaws.{none_of_two, likes_sound}
use Rattle.ac_load_rules.proofs.Standing.{IsOrdered, IsFit, coherent_behind}
use Rattle.ac_load_rules.proofs.Behind.{is_linked}
use Rattle.ac_load_rules.proofs.Distinct.{least_none, def_distinct}
use Rattle.ac_load_rules.proofs.DefBounds.{EachHas, WantsHas, DefHas}
use Rattle.ac_load_rules.proofs.FineDefs.{IsFront, def_fine}
use Rattle.ac_load_rules.proofs.SmallDefs.{def_small}

-- what scopes see of an entry
abbrev shown : Entry → Def × Option Bytes
shown e = (e.def, e.name)

get_mapped : {A B : Type 0} (f : A → B) (xs : List A) (i : ℕ) → slice_get (map f xs) i ≡ option_map f (slice_get xs i)
get_mapped f [] i = refl
get_mapped f (x ∷ xs) zero = refl
get_mapped f (x ∷ xs) (suc i) = get_mapped f xs i

map_append : {A B : Type 0} (f : A → B) (xs ys : List A) → map f (xs ++ ys) ≡ map f xs ++ map f ys
map_append f [] ys = refl
map_append f (x ∷ xs) ys = ap (λ l. f x ∷ l) (map_append f xs ys)

length_mapped : {A B : Type 0} (f : A → B) (xs : List A) → length (map f xs) ≡ length xs
length_mapped f [] = refl
length_mapped f (x ∷ xs) = ap suc (length_mapped f xs)

sig_shown : Option (Def × Option Bytes) → Option Signature
sig_shown o = option_and_then (λ (p : Def × Option Bytes). signature p.0) o

name_shown : Option (Def × Option Bytes) → Option Bytes
name_shown o = option_and_then (λ (p : Def × Option Bytes). p.1) o

signature_is : (E : Environment) (j : ℕ) → signature_at E j ≡ sig_shown (slice_get (map shown E) j)
unfolding sig_shown
signature_is E j = on (slice_get E j) ∙ sym (ap sig_shown (get_mapped shown E j)) where
  on : (o : Option Entry) → option_and_then signature (option_map (λ (e : Entry). e.def) o) ≡ sig_shown (option_map shown o)
  on None = refl
  on (Some e) = refl

name_is : (E : Environment) (j : ℕ) → name_at E j ≡ name_shown (slice_get (map shown E) j)
unfolding name_shown
name_is E j = on (slice_get E j) ∙ sym (ap name_shown (get_mapped shown E j)) where
  on : (o : Option Entry) → option_and_then (λ (e : Entry). e.name) o ≡ name_shown (option_map shown o)
  on None = refl
  on (Some e) = refl

-- a scope at the front of a definition behind entries that it sees as these
pub record IsAt (E : Environment) (S : NameScope) : Type 0 where
  pub same : map shown S.entries ≡ map shown E
  pub no_types : S.types ≡ []
  pub no_fields : S.fields ≡ []
  pub called : (m : Bytes) (j : ℕ) → definition S m ≡ Some j → is_some (signature_at E j) ≡ true

pub front_of : {E : Environment} {S : NameScope} → IsAt E S → IsFront E S
front_of {E} {S} a = record {
  signatures = λ j. signature_is S.entries j ∙ ap (λ l. sig_shown (slice_get l j)) a.same ∙ sym (signature_is E j);
  kept = λ j. name_is S.entries j ∙ ap (λ l. name_shown (slice_get l j)) a.same ∙ sym (name_is E j);
  no_types = a.no_types;
  no_fields = a.no_fields;
  called = a.called;
}

same_length : {E : Environment} {S : NameScope} → IsAt E S → length S.entries ≡ length E
same_length {E} {S} a = sym (length_mapped shown S.entries) ∙ ap length a.same ∙ length_mapped shown E

-- what is there stays
sig_there : (E : Environment) (j : ℕ) → is_some (signature_at E j) ≡ true → j < length E
sig_there E j h = on (signature_at E j) refl h where
  on : (o : Option Signature) → signature_at E j ≡ o → is_some o ≡ true → j < length E
  on None is h = absurd (none≢some {A = ℕ} (ap (λ b. elim b as (λ z. Option ℕ) [ true ↦ Some 0 | false ↦ None ]) h))
  on (Some s) is h =
      let d = then_some signature (def_of E j) s is in
      let e = map_some (λ (x : Entry). x.def) (slice_get E j) d.0 d.1 in
      place_within E j e.0 e.1

sig_stays : (E ys : Environment) (j : ℕ) → is_some (signature_at E j) ≡ true → is_some (signature_at (E ++ ys) j) ≡ true
sig_stays E ys j h = ap (λ (o : Option Entry). is_some (option_and_then signature (option_map (λ (e : Entry). e.def) o))) (get_old E ys j (sig_there E j h)) ∙ h

-- behind one more entry
pub behind : {E : Environment} {S : NameScope} → IsAt E S → (e x : Entry) → shown e ≡ shown x → IsAt (E ++ x ∷ []) (with_entry S e)
behind {E} {S} a e x is = record {
  same = map_append shown S.entries (e ∷ []) ∙ ap₂ (λ l p. l ++ p ∷ []) a.same is ∙ sym (map_append shown E (x ∷ []));
  no_types = refl;
  no_fields = refl;
  called = called;
}
  where
    last_sig : is_some (signature_at (E ++ x ∷ []) (length S.entries)) ≡ is_some (signature e.def)
    last_sig =
        ap (λ n. is_some (signature_at (E ++ x ∷ []) n)) (same_length a) ∙
        ap (λ (o : Option Entry). is_some (option_and_then signature (option_map (λ (y : Entry). y.def) o))) (get_new E x []) ∙
        ap (λ (p : Def × Option Bytes). is_some (signature p.0)) (sym is)

    old : (m : Bytes) (j : ℕ) → beside_name m S.externals ≡ Some j → is_some (signature_at (E ++ x ∷ []) j) ≡ true
    old m j h = sig_stays E (x ∷ []) j (a.called m j h)

    new : (name m : Bytes) (j : ℕ) → is_some (signature e.def) ≡ true → beside_name m ((name, length S.entries) ∷ S.externals) ≡ Some j → is_some (signature_at (E ++ x ∷ []) j) ≡ true
    new name m j sig h = on (same_bytes name m) h where
      on : (b : Bool) → elim b as (λ z. Option ℕ) [ true ↦ Some (length S.entries) | false ↦ beside_name m S.externals ] ≡ Some j → is_some (signature_at (E ++ x ∷ []) j) ≡ true
      on true k = subst (λ n. is_some (signature_at (E ++ x ∷ []) n) ≡ true) (some_eq k) (last_sig ∙ sig)
      on false k = old m j k

    called : (m : Bytes) (j : ℕ) → beside_name m (external_names e.def (length S.entries) S.externals) ≡ Some j → is_some (signature_at (E ++ x ∷ []) j) ≡ true
    called m j h = by e.def refl h where
      by : (d : Def) → e.def ≡ d → beside_name m (external_names d (length S.entries) S.externals) ≡ Some j → is_some (signature_at (E ++ x ∷ []) j) ≡ true
      by (AModule q) def k = new q.name m j (ap (λ d. is_some (signature d)) def) k
      by (AnImport q) def k = new q.name m j (ap (λ d. is_some (signature d)) def) k
      by (AMark t) def k = old m j k

-- at the front of a surface
pub at_front : (E : Environment) → IsAt E (scope_behind E)
at_front E = record { same = refl; no_types = refl; no_fields = refl; called = λ m j h. absurd (none≢some h) }

pub at_all : {E : Environment} {S : NameScope} → IsAt E S → (es : Environment) → IsAt (E ++ es) (after_all with_entry S es)
at_all {E} {S} a [] = subst (λ (F : Environment). IsAt F S) (sym (append-nil E)) a
at_all {E} {S} a (e ∷ es) = subst (λ (F : Environment). IsAt F (after_all with_entry (with_entry S e) es)) (append_assoc E (e ∷ []) es) (at_all (behind a e e refl) es)

-- names rest on what is seen of the entries
name_same : (E F : Environment) → ((j : ℕ) → name_at E j ≡ name_at F j) → (d : Def) → name_by sha256 E d ≡ name_by sha256 F d
name_same E F same d = ap (λ (f : ℕ → Bytes). by f d) (fun_ext (λ j. ap (λ o. unwrap_or o []) (same j))) where
  by : (ℕ → Bytes) → Def → Option Bytes
  by f (AModule m) = option_map sha256 (canonical_text f (AModule m))
  by f (AnImport i) = elim (demanded i.constraint) [ None ↦ option_map sha256 (canonical_text f (AnImport i)) | Some n ↦ Some n ]
  by f (AMark t) = None

-- what a definition refers to stands in front of it
refers : {E : Environment} {S : NameScope} → IsAt E S → (d : DefTree) → refers_back E (length E) (def_in S d) ≡ true
refers {E} {S} a d = all_implies (λ j. is_some (signature_at S.entries j)) (λ j. nat_lt j (length E) && is_some (signature_at E j)) on (part_refs (def_parts (def_in S d))) (def_into S d) where
  on : (j : ℕ) → is_some (signature_at S.entries j) ≡ true → (nat_lt j (length E) && is_some (signature_at E j)) ≡ true
  on j h =
      let there : is_some (signature_at E j) ≡ true = sym (ap is_some ((front_of a).signatures j)) ∙ h in
      and_true (lt-ltb j (length E) (sig_there E j there)) there

-- no captured value stands in it
none_captured : (ps : List Portion) → AllInner ps → not (has_captured ps) ≡ true
none_captured [] h = refl
none_captured (OfType T ∷ ps) h = none_captured ps h
none_captured (OfRef j x ∷ ps) h = none_captured ps h
none_captured (OfHome c ∷ ps) h = absurd (none≢some {A = ℕ} (ap (λ b. elim b as (λ z. Option ℕ) [ true ↦ Some 0 | false ↦ None ]) h))
none_captured (Captured ∷ ps) h = absurd (none≢some {A = ℕ} (ap (λ b. elim b as (λ z. Option ℕ) [ true ↦ Some 0 | false ↦ None ]) h))

-- an import has the likespecs that its kind wants
likes_right : (S : NameScope) (d : DefTree) (k : ℕ) (x : Entry) → x.def ≡ def_in S d → DefHas d → without_likespec k x ≡ None → has_sound_likes (def_in S d) ≡ true
likes_right S (ModuleDef at name σ version fields) k x is h u = refl
likes_right S (MarkDef at text_at text) k x is h u = refl
likes_right S (ImportDef at name σ wants like by) k x is h u = on wants like h.2 (sym (ap (by_def k) is) ∙ u) where
  by_def : ℕ → Def → Option Cause
  by_def k d = without_likespec k (record x { def = d })

  import : WantsTree → Option (List AbbrevTree) → Import
  import w l = record { name = name.word; sig = signature_in S σ; constraint = constraint_in S w; like = each_in after_abbrev abbrev_type S (unwrap_or l []); by = by }

  on : (w : WantsTree) (l : Option (List AbbrevTree)) → WantsHas w l → by_def k (AnImport (import w l)) ≡ None → has_right_likes (constraint_in S w) (import w l) ≡ true
  on (WantsVersion (Ranges rs star)) l h u = likes_sound k (import (WantsVersion (Ranges rs star)) l) u refl
  on (WantsVersion (Exact n)) l h u = absurd h
  on (WantsName n) l h u = ap (λ (o : Option (List AbbrevTree)). has_right_likes (constraint_in S (WantsName n)) (import (WantsName n) o)) h

-- where a definition comes from: one of the shelf is a module with a URI
abbrev pub IsSeen : Seen → List DefTree → Type 0
IsSeen seen ds = (u : Bytes) → seen ≡ Shelf u → IsTrue (is_uri u) × EachHas (λ (d : DefTree). (S : NameScope) → IsAModule (def_in S d)) ds

-- what the causes leave of the entries of some definitions, in the environment F that all of them make
pub record Passes (seen : Seen) (F : Environment) (n k : ℕ) (xs : List Entry) : Type 0 where
  pub linked : first_at k unlinked xs ≡ None
  pub like : first_at k without_likespec xs ≡ None
  pub sound : (i : ℕ) (x : Entry) → slice_get xs i ≡ Some x → has_sound_fields F (n + i) x.def ≡ true

-- and the searches
pub record Clear (S : NameScope) (ds : List DefTree) : Type 0 where
  pub bound : least_in (after_def sha256) unbound_in_def S ds ≡ None
  pub distinct : least_in (after_def sha256) repeated_in_def S ds ≡ None
  pub within : least_in (after_def sha256) large_in_def S ds ≡ None

-- one more definition
module _ (seen : Seen) (E : Environment) (c : IsCoherent E) (S : NameScope) (a : IsAt E S) (d : DefTree) (has : DefHas d) (k : ℕ) where
  abbrev Next : Entry
  Next = linked_entry seen E (entry_in sha256 S d)

  fit : ((u : Bytes) → seen ≡ Shelf u → IsTrue (is_uri u) × IsAModule (def_in S d)) → unbound_in_def S d ≡ None → repeated_in_def S d ≡ None → large_in_def S d ≡ None
      → unlinked k Next ≡ None → without_likespec k Next ≡ None → (F : Environment) → has_sound_fields F (length E) (def_in S d) ≡ true → IsFit E Next
  fit from u r l linked like F sound =
      let distinct = def_distinct S d r in
      let fine = def_fine E c S (front_of a) d has u l distinct in
      let small = def_small F (length E) S d l sound in
      record {
        from_shelf = from;
        named = name_same S.entries E (front_of a).kept (def_in S d);
        fits = fine.fits;
        refers = refers a d;
        mentions = fine.known;
        plain = and_true small (none_captured (def_parts (def_in S d)) (inner_def (def_in S d) fine.fits));
        distinct = distinct;
        closed = fine.closed;
        likes = likes_right S d k Next refl has like;
        linked = is_linked seen E (entry_in sha256 S d) k linked (def_in S d) refl;
      }

pub grow : (seen : Seen) (E : Environment) → IsCoherent E → (S : NameScope) → IsAt E S → (ds : List DefTree) → EachHas DefHas ds → IsSeen seen ds → Clear S ds → (k : ℕ)
    → IsOrdered (E ++ linked_behind seen E (entries_in sha256 S ds)) → Passes seen (E ++ linked_behind seen E (entries_in sha256 S ds)) (length E) k (linked_behind seen E (entries_in sha256 S ds))
    → IsCoherent (E ++ linked_behind seen E (entries_in sha256 S ds))
grow seen E c S a [] h from clear k ordered p = subst IsCoherent (sym (append-nil E)) c
grow seen E c S a (d ∷ ds) h from clear k ordered p =
    let e = entry_in sha256 S d in
    let x = linked_entry seen E e in
    let rest = linked_behind seen (E ++ x ∷ []) (entries_in sha256 (after_def sha256 S d) ds) in
    let F = E ++ x ∷ rest in
    let one : (E ++ x ∷ []) ++ rest ≡ F = append_assoc E (x ∷ []) rest in
    let b = least_none (unbound_in_def S d) _ clear.bound in
    let r = least_none (repeated_in_def S d) _ clear.distinct in
    let w = least_none (large_in_def S d) _ clear.within in
    let u = none_of_two (unlinked k x) _ p.linked in
    let v = none_of_two (without_likespec k x) _ p.like in
    let sound : has_sound_fields F (length E) (def_in S d) ≡ true = subst (λ n. has_sound_fields F n (def_in S d) ≡ true) (omega arith) (p.sound 0 x refl) in
    let is_fit = fit seen E c S a d h.0 k (λ t is. ((from t is).0, (from t is).1.0 S)) b.0 r.0 w.0 u.0 v.0 F sound in
    let longer = coherent_behind E c x rest ordered is_fit sound in
    subst IsCoherent one
    (grow seen (E ++ x ∷ []) longer (after_def sha256 S d) (behind a e x refl) ds h.1 (λ t is. ((from t is).0, (from t is).1.1)) (record { bound = b.1; distinct = r.1; within = w.1 }) (suc k) (subst IsOrdered (sym one) ordered)
    (record {
      linked = u.1;
      like = v.1;
      sound = λ i y is. subst (λ (G : Environment). has_sound_fields G (length (E ++ x ∷ []) + i) y.def ≡ true) (sym one) (subst (λ n. has_sound_fields F n y.def ≡ true) (omega (arith, length-append E (x ∷ []))) (p.sound (suc i) y is));
    }))

-- the scope behind all of them
pub at_last : (seen : Seen) (ds : List DefTree) (E : Environment) (S : NameScope) → IsAt E S → IsAt (E ++ linked_behind seen E (entries_in sha256 S ds)) (after_all (after_def sha256) S ds)
at_last seen [] E S a = subst (λ (F : Environment). IsAt F S) (sym (append-nil E)) a
at_last seen (d ∷ ds) E S a =
    let e = entry_in sha256 S d in
    let x = linked_entry seen E e in
    subst (λ (F : Environment). IsAt F (after_all (after_def sha256) (after_def sha256 S d) ds)) (append_assoc E (x ∷ []) (linked_behind seen (E ++ x ∷ []) (entries_in sha256 (after_def sha256 S d) ds)))
    (at_last seen ds (E ++ x ∷ []) (after_def sha256 S d) (behind a e x refl))
