-- Entries that are added, and the names that call them.
use Rattle.std.proofs.Common.{◌≡◌, ◌∙◌, ap, ap₂, refl, sym, arith, ℕ, zero, suc, ◌+◌, ◌<◌, Bool, true, false, ◌&&◌, List, [], ◌∷◌, ◌++◌, map, length, take, drop, get_or, Option, Some, None}
use Rattle.std.specs.Prelude.{option_map, option_and_then, is_some, slice_get}
use Rattle.std.specs.List.{list_all}
use Rattle.std.proofs.lemmas.List.{map-append, length-map, length-take-le}
use Rattle.sha2.specs.Sha256.{sha256}
use Rattle.ac_types.specs.Types.{Bytes, same_bytes}
use Rattle.ac_types.specs.Sigs.{Constraint, Ranges, Exact}
use Rattle.ac_types.specs.declared.text.Name.{Name}
use Rattle.ac_terms.specs.declared.def.Entry as code
use Rattle.ac_terms.specs.declared.def.Def as code_def
use Rattle.ac_terms.specs.declared.def.Seen.TheVariants as code_seen
use Rattle.ac_terms.specs.Defs.{Environment, Import, Def, AModule, AnImport, AMark, Entry, Own', name_at}
use Rattle.ac_terms.specs.Names.{demanded, name_by}
use Rattle.ac_terms.specs.Spelling.{text_of_import}
use Rattle.ac_terms.specs.Read.{entry_of, def_of_code, name_of_code}
use Rattle.ac_resolve_scopes.specs.Standard.{beside_name}
use Rattle.ac_resolve_scopes.specs.Scopes.{NameScope, scope_behind, external_names, with_entry, after_all}
use Rattle.ac_resolve_names.specs.Entries.{keeps_name, is_called, own_entry}
use Rattle.ac_types.proofs.Loops.{drop_next, drop_end, take_next, take_end}

and_intro : (a b : Bool) → a ≡ true → b ≡ true → (a && b) ≡ true
and_intro true b h k = k
and_intro false b h k = h

and_left : (a b : Bool) → (a && b) ≡ true → a ≡ true
and_left true b h = refl
and_left false b h = h

and_right : (a b : Bool) → (a && b) ≡ true → b ≡ true
and_right true b h = h
and_right false b h = absurd (cc)

pub all_more : {A : Type 0} (p : A → Bool) (xs : List A) (x : A) → list_all p xs ≡ true → p x ≡ true → list_all p (xs ++ x ∷ []) ≡ true
all_more p [] x h k = and_intro (p x) true k refl
all_more p (y ∷ xs) x h k = and_intro (p y) (list_all p (xs ++ x ∷ [])) (and_left (p y) _ h) (all_more p xs x (and_right (p y) _ h) k)

pub all_at : {A : Type 0} (p : A → Bool) (xs : List A) (i : ℕ) (x : A) → list_all p xs ≡ true → slice_get xs i ≡ Some x → p x ≡ true
all_at p [] i x h e = absurd (cc)
all_at p (y ∷ xs) zero x h e = let z : y ≡ x = cc in ap p (sym z) ∙ and_left (p y) _ h
all_at p (y ∷ xs) (suc i) x h e = all_at p xs i x (and_right (p y) _ h) e

-- an own entry keeps a name
import_named : (k : Constraint) (i : Import) → is_some (elim (demanded k) [ None ↦ option_map sha256 (text_of_import k i) | Some n ↦ Some n ]) ≡ true
import_named (Ranges rs star) i = refl
import_named (Exact n) i = refl

pub own_named : (E : Environment) (d : Def) → keeps_name (own_entry E d) ≡ true
own_named E (AModule m) = refl
own_named E (AnImport i) = import_named i.constraint i
own_named E (AMark t) = refl

-- names that call entries go on to do so
name_stays : (E : Environment) (e : Entry) (j : ℕ) → is_some (name_at E j) ≡ true → name_at (E ++ e ∷ []) j ≡ name_at E j
name_stays [] e j h = absurd (cc)
name_stays (x ∷ E) e zero h = refl
name_stays (x ∷ E) e (suc j) h = name_stays E e j h

pub calls_stay : (E : Environment) (e : Entry) (xs : List (Bytes × ℕ)) → list_all (is_called E) xs ≡ true → list_all (is_called (E ++ e ∷ [])) xs ≡ true
calls_stay E e [] h = refl
calls_stay E e (x ∷ xs) h =
    let here = and_left (is_called E x) _ h in
    and_intro (is_called (E ++ e ∷ []) x) _ (ap is_some (name_stays E e x.1 here) ∙ here) (calls_stay E e xs (and_right (is_called E x) _ h))

-- the name of an entry that keeps one calls it
calls : (F : Environment) (j : ℕ) (d : Def) (n : Option Bytes) (xs : List (Bytes × ℕ)) → elim d [ AModule m ↦ is_some n | AnImport i ↦ is_some n | AMark t ↦ true ] ≡ true → name_at F j ≡ n → list_all (is_called F) xs ≡ true
    → list_all (is_called F) (external_names d j xs) ≡ true
calls F j (AModule m) n xs k e h = and_intro (is_some (name_at F j)) _ (ap is_some e ∙ k) h
calls F j (AnImport i) n xs k e h = and_intro (is_some (name_at F j)) _ (ap is_some e ∙ k) h
calls F j (AMark t) n xs k e h = h

pub calls_one : (F : Environment) (j : ℕ) (e : Entry) (xs : List (Bytes × ℕ)) → keeps_name e ≡ true → name_at F j ≡ e.name → list_all (is_called F) xs ≡ true → list_all (is_called F) (external_names e.def j xs) ≡ true
calls_one F j e xs k n h = calls F j e.def e.name xs k n h

name_behind : (E : Environment) (e : Entry) → name_at (E ++ e ∷ []) (length E) ≡ e.name
name_behind [] e = refl
name_behind (x ∷ E) e = name_behind E e

pub calls_more : (E : Environment) (e : Entry) (xs : List (Bytes × ℕ)) → keeps_name e ≡ true → list_all (is_called E) xs ≡ true → list_all (is_called (E ++ e ∷ [])) (external_names e.def (length E) xs) ≡ true
calls_more E e xs k h = calls_one (E ++ e ∷ []) (length E) e xs k (name_behind E e) (calls_stay E e xs h)

-- the scope behind some entries
abbrev pub front_at : Environment → List (Bytes × ℕ) → NameScope
front_at E xs = record (scope_behind E) { externals = xs }

same_front : (E F : Environment) (xs ys : List (Bytes × ℕ)) → E ≡ F → xs ≡ ys → front_at E xs ≡ front_at F ys
same_front E F xs ys e x = ap₂ front_at e x

-- an entry that is added, and its name
abbrev own_code : code_def.Def → Option Name → code.Entry
own_code d n = record { def = d; name = n; seen = code_seen.Own; link = None }

module _ (old new : List code.Entry) (d : code_def.Def) (n : Option Name) (is : new ≡ old ++ own_code d n ∷ []) (named : option_map name_of_code n ≡ name_by sha256 (map entry_of old) (def_of_code d)) where
  entries_are : map entry_of new ≡ map entry_of old ++ own_entry (map entry_of old) (def_of_code d) ∷ []
  entries_are =
      ap (map entry_of) is ∙ map-append entry_of old (own_code d n ∷ [])
      ∙ ap (λ m. let e : Entry = record { def = def_of_code d; name = m; seen = Own'; link = None } in map entry_of old ++ e ∷ []) named

  pub named_more : list_all keeps_name (map entry_of old) ≡ true → list_all keeps_name (map entry_of new) ≡ true
  named_more h = ap (list_all keeps_name) entries_are ∙ all_more keeps_name (map entry_of old) (own_entry (map entry_of old) (def_of_code d)) h (own_named (map entry_of old) (def_of_code d))

  counted : (k : ℕ) (xs ys : List (Bytes × ℕ)) → k ≡ length old → ys ≡ external_names (def_of_code d) k xs → ys ≡ external_names (def_of_code d) (length (map entry_of old)) xs
  counted k xs ys l y = y ∙ ap (λ m. external_names (def_of_code d) m xs) (l ∙ sym (length-map old entry_of))

  pub called_more : (k : ℕ) (xs ys : List (Bytes × ℕ)) → k ≡ length old → ys ≡ external_names (def_of_code d) k xs → list_all (is_called (map entry_of old)) xs ≡ true → list_all (is_called (map entry_of new)) ys ≡ true
  called_more k xs ys l y h =
      ap₂ (λ E zs. list_all (is_called E) zs) entries_are (counted k xs ys l y)
      ∙ calls_more (map entry_of old) (own_entry (map entry_of old) (def_of_code d)) xs (own_named (map entry_of old) (def_of_code d)) h

-- entries that are there, gone through from the front
module _ (es : List code.Entry) (i : ℕ) (xs ys : List (Bytes × ℕ)) (e : code.Entry) (at : i < length es) (is : e ≡ get_or es i e) (y : ys ≡ external_names (entry_of e).def i xs) where
  take_length : length (map entry_of (take i es)) ≡ i
  take_length = length-map (take i es) entry_of ∙ length-take-le i es (omega arith)

  pub front_next : (whole : NameScope) → whole ≡ after_all with_entry (front_at (map entry_of (take i es)) xs) (map entry_of (drop i es)) → whole ≡ after_all with_entry (front_at (map entry_of (take (i + 1) es)) ys) (map entry_of (drop (i + 1) es))
  front_next whole so =
      so ∙ ap (λ l. after_all with_entry (front_at (map entry_of (take i es)) xs) (map entry_of l)) (drop_next i es e at is)
      ∙ ap (λ S. after_all with_entry S (map entry_of (drop (i + 1) es)))
      (same_front _ _ _ _ (sym (ap (map entry_of) (take_next i es e at is) ∙ map-append entry_of (take i es) (e ∷ []))) (ap (λ m. external_names (entry_of e).def m xs) take_length ∙ sym y))

  name_there : name_at (map entry_of es) i ≡ (entry_of e).name
  name_there = get_name es i at is where
    get_name : (fs : List code.Entry) (j : ℕ) → j < length fs → e ≡ get_or fs j e → name_at (map entry_of fs) j ≡ (entry_of e).name
    get_name [] j h k = absurd (omega arith)
    get_name (f ∷ fs) zero h k = ap (λ x. (entry_of x).name) (sym k)
    get_name (f ∷ fs) (suc j) h k = get_name fs j (omega arith) k

  pub called_next : list_all keeps_name (map entry_of es) ≡ true → list_all (is_called (map entry_of es)) xs ≡ true → list_all (is_called (map entry_of es)) ys ≡ true
  called_next k h = ap (list_all (is_called (map entry_of es))) y ∙ calls_one (map entry_of es) i (entry_of e) xs (keeps es i k at is) name_there h where
    keeps : (fs : List code.Entry) (j : ℕ) → list_all keeps_name (map entry_of fs) ≡ true → j < length fs → e ≡ get_or fs j e → keeps_name (entry_of e) ≡ true
    keeps [] j k h q = absurd (omega arith)
    keeps (f ∷ fs) zero k h q = ap (λ x. keeps_name (entry_of x)) q ∙ and_left (keeps_name (entry_of f)) _ k
    keeps (f ∷ fs) (suc j) k h q = keeps fs j (and_right (keeps_name (entry_of f)) _ k) (omega arith) q

pub front_last : (whole : NameScope) (es : List code.Entry) (i : ℕ) (xs : List (Bytes × ℕ)) → i ≡ length es → whole ≡ after_all with_entry (front_at (map entry_of (take i es)) xs) (map entry_of (drop i es)) → front_at (map entry_of es) xs ≡ whole
front_last whole es i xs e so =
    sym (so ∙ ap (λ l. after_all with_entry (front_at (map entry_of (take i es)) xs) (map entry_of l)) (drop_end i es e) ∙ ap (λ l. front_at (map entry_of l) xs) (take_end i es e))

-- the entry that a name calls keeps a name
one_called : (called : ℕ → Bool) (b : Bool) (k j : ℕ) (o : Option ℕ) → elim b [ true ↦ Some k | false ↦ o ] ≡ Some j → called k ≡ true → (o ≡ Some j → called j ≡ true) → called j ≡ true
one_called called true k j o e h f = let z : k ≡ j = cc in ap called (sym z) ∙ h
one_called called false k j o e h f = f e

pub beside_called : (E : Environment) (m : Bytes) (xs : List (Bytes × ℕ)) (j : ℕ) → list_all (is_called E) xs ≡ true → beside_name m xs ≡ Some j → is_some (name_at E j) ≡ true
beside_called E m [] j h e = absurd (cc)
beside_called E m (x ∷ xs) j h e =
    one_called (λ i. is_some (name_at E i)) (same_bytes x.0 m) x.1 j (beside_name m xs) e (and_left (is_called E x) _ h) (beside_called E m xs j (and_right (is_called E x) _ h))

pub kept_name : (E : Environment) (o : Option ℕ) (j : ℕ) (e : Option Entry) → o ≡ Some j → slice_get E j ≡ e → option_and_then (name_at E) o ≡ option_and_then (λ (x : Entry). x.name) e
kept_name E o j e h k = ap (option_and_then (name_at E)) h ∙ ap (option_and_then (λ (x : Entry). x.name)) k

pub called_there : (E : Environment) (m : Bytes) (xs : List (Bytes × ℕ)) (j : ℕ) (e : Option Entry) → list_all (is_called E) xs ≡ true → beside_name m xs ≡ Some j → slice_get E j ≡ e → is_some (option_and_then (λ (x : Entry). x.name) e) ≡ is_some (beside_name m xs)
called_there E m xs j e h b k = ap (λ o. is_some (option_and_then (λ (x : Entry). x.name) o)) (sym k) ∙ beside_called E m xs j h b ∙ sym (ap is_some b)
