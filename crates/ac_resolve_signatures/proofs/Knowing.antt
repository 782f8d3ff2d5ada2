-- What is known of a scope: that it agrees with the scope, and that it does so behind one more entry.
use Rattle.std.proofs.Common.{◌≡◌, ◌∙◌, ap, refl, sym, arith, ℕ, ◌<◌, Bool, true, false, List, [], ◌∷◌, ◌++◌, length, length-append, Option, Some, None}
use Rattle.std.specs.Prelude.{not, is_some, slice_get, option_map, option_and_then, unwrap_or, if◌then◌else◌}
use Rattle.std.specs.Option.{option_map_or}
use Rattle.std.proofs.Math.ListN.{get_or-append}
use Rattle.std.proofs.Math.Seq.{get_or-append_seam}
use Rattle.std.proofs.lemmas.Option.{slice_get-get_or}
use Rattle.ac_types.specs.Partial.{given}
use Rattle.ac_types.specs.Types.{Bytes, Typ, TAbs, TMine, same_bytes, with_mine}
use Rattle.ac_types.specs.Sigs.{Signature, named_type, type_under}
use Rattle.ac_terms.specs.Terms.{Expr, Ref}
use Rattle.ac_terms.specs.Defs.{Environment, Entry, Def, AModule, AnImport, AMark, signature, signature_at, name_at}
use Rattle.ac_resolve_scopes.specs.Standard.{is_standard, beside_name}
use Rattle.ac_resolve_scopes.specs.Scopes.{NameScope, scope_behind, own_number, definition, before_dot, type_outside, value_outside, plain_type, dotted_type, external_names, with_entry, after_all}
use Rattle.ac_resolve_signatures.specs.KnownScopes.{KnownScope, Members, known_outside, called_definition, dotted_size, is_value_behind, size_of, updated}
use Rattle.ac_resolve_signatures.specs.EntriesInFront.{size_of_manifest, signature_members, past_entry, past_entries, no_outer}
use Rattle.ac_resolve_signatures.proofs.Sizes.{leaf-cut, size_of-with_mine}

-- what stands behind the name of entry j and a dot
pub record Shows (b : Members) (E : Environment) (j : ℕ) : Type 0 where
  pub there : j < length E
  pub types : (t : Bytes) → b.types t ≡ option_map size_of (type_outside E t j)
  pub values : (x : Bytes) → b.values x ≡ is_some (value_outside E x j)

abbrev pub Matches : Environment → Option Members → Option ℕ → Type 0
Matches E None None = Unit {0}
Matches E None (Some j) = ⊥
Matches E (Some b) None = ⊥
Matches E (Some b) (Some j) = Shows b E j

abbrev pub KnowsOuter : (Bytes → Option Members) → NameScope → Type 0
KnowsOuter outer S = (m : Bytes) → Matches S.entries (outer m) (definition S m)

pub record Knows (K : KnownScope) (S : NameScope) : Type 0 where
  pub outer : KnowsOuter K.outer S
  pub types : (t : Bytes) → K.types t ≡ option_map size_of (plain_type S t)
  pub fields : (x : Bytes) → K.fields x ≡ is_some (own_number x S.fields)

-- where nothing has a plain name
pub record AtStart (S : NameScope) : Type 0 where
  pub types : S.types ≡ []
  pub fields : S.fields ≡ []
  pub variables : S.variables ≡ []

pub known_at_start : (outer : Bytes → Option Members) (S : NameScope) → KnowsOuter outer S → AtStart S → Knows (known_outside outer) S
known_at_start outer S k a = record {
  outer = k;
  types = λ t. sym (ap (λ (ts : List (Bytes × Typ)). option_map size_of (plain_type (record S { types = ts }) t)) a.types);
  fields = λ x. sym (ap (λ fs. is_some (own_number x fs)) a.fields);
}

-- names in front of a dot
same_called : (E : Environment) (o : Option Members) (d : Option ℕ) → Matches E o d → is_some o ≡ is_some d
same_called E None None h = refl
same_called E None (Some j) h = absurd h
same_called E (Some b) None h = absurd h
same_called E (Some b) (Some j) h = refl

given_called : (b : Bool) (E : Environment) (o : Option Members) (d : Option ℕ) → Matches E o d → Matches E (given b o) (given b d)
given_called true E o d h = h
given_called false E o d h = tt

types_called : (E : Environment) (t : Bytes) (o : Option Members) (d : Option ℕ) → Matches E o d → option_and_then (λ (b : Members). b.types t) o ≡ option_map size_of (option_and_then (type_outside E t) d)
types_called E t None None h = refl
types_called E t None (Some j) h = absurd h
types_called E t (Some b) None h = absurd h
types_called E t (Some b) (Some j) h = h.types t

values_called : (E : Environment) (x : Bytes) (o : Option Members) (d : Option ℕ) → Matches E o d → option_map_or (λ (b : Members). b.values x) o false ≡ is_some (option_and_then (value_outside E x) d)
values_called E x None None h = refl
values_called E x None (Some j) h = absurd h
values_called E x (Some b) None h = absurd h
values_called E x (Some b) (Some j) h = h.values x

pub outer-is : (outer : Bytes → Option Members) (S : NameScope) → KnowsOuter outer S → (m : Bytes) → is_some (outer m) ≡ is_some (definition S m)
outer-is outer S k m = same_called S.entries (outer m) (definition S m) (k m)

module _ (K : KnownScope) (S : NameScope) (k : Knows K S) (m : Bytes) where
  called_so : Matches S.entries (called_definition K m) (before_dot S m)
  called_so = given_called (not (is_standard m)) S.entries (K.outer m) (definition S m) (k.outer m)

  pub called_definition-is : is_some (called_definition K m) ≡ is_some (before_dot S m)
  called_definition-is = same_called S.entries (called_definition K m) (before_dot S m) called_so

  pub dotted_size-is : (t : Bytes) → dotted_size K m t ≡ option_map size_of (dotted_type S m t)
  dotted_size-is t = types_called S.entries t (called_definition K m) (before_dot S m) called_so

  pub is_value_behind-is : (x : Bytes) → is_value_behind K m x ≡ is_some (option_and_then (value_outside S.entries x) (before_dot S m))
  is_value_behind-is x = values_called S.entries x (called_definition K m) (before_dot S m) called_so

-- entries stay where they are behind one more
stays : (E : Environment) (e : Entry) (j : ℕ) → j < length E → slice_get (E ++ e ∷ []) j ≡ slice_get E j
stays E e j h = slice_get-get_or (E ++ e ∷ []) j e (omega (arith, length-append E (e ∷ []))) ∙ ap Some (get_or-append E (e ∷ []) e j h) ∙ sym (slice_get-get_or E j e h)

added : (E : Environment) (e : Entry) → slice_get (E ++ e ∷ []) (length E) ≡ Some e
added E e = slice_get-get_or (E ++ e ∷ []) (length E) e (omega (arith, length-append E (e ∷ []))) ∙ ap Some (get_or-append_seam E e [] e)

-- the name and the signature of an entry, by the entry
abbrev type_of_entry : Bytes → Option Entry → Option Typ
type_of_entry t o =
    option_and_then (λ (s : Signature). option_map (λ m. with_mine (TAbs (unwrap_or (option_and_then (λ (e : Entry). e.name) o) [])) (unwrap_or m (TMine t))) (type_under t s.types))
    (option_and_then signature (option_map (λ (e : Entry). e.def) o))

abbrev value_of_entry : Bytes → ℕ → Option Entry → Option Expr
value_of_entry x j o =
    option_and_then (λ (s : Signature). option_map (λ (T : Typ). Ref j x) (named_type x s.vals)) (option_and_then signature (option_map (λ (e : Entry). e.def) o))

shows_still : (b : Members) (E : Environment) (e : Entry) (j : ℕ) → Shows b E j → Shows b (E ++ e ∷ []) j
shows_still b E e j h = record {
  there = omega (arith, length-append E (e ∷ []), h.there);
  types = λ t. h.types t ∙ ap (λ o. option_map size_of (type_of_entry t o)) (sym (stays E e j h.there));
  values = λ x. h.values x ∙ ap (λ o. is_some (value_of_entry x j o)) (sym (stays E e j h.there));
}

matches_still : (E : Environment) (e : Entry) (o : Option Members) (d : Option ℕ) → Matches E o d → Matches (E ++ e ∷ []) o d
matches_still E e None None h = h
matches_still E e None (Some j) h = h
matches_still E e (Some b) None h = h
matches_still E e (Some b) (Some j) h = shows_still b E e j h

-- what the signature of an entry shows
manifest_size : (n t : Bytes) (o : Option (Option Typ)) → option_map size_of_manifest o ≡ option_map size_of (option_map (λ m. with_mine (TAbs n) (unwrap_or m (TMine t))) o)
manifest_size n t None = refl
manifest_size n t (Some None) = ap Some leaf-cut
manifest_size n t (Some (Some T)) = ap Some (sym (size_of-with_mine n T))

value_there : (j : ℕ) (x : Bytes) (o : Option Typ) → is_some o ≡ is_some (option_map (λ (T : Typ). Ref j x) o)
value_there j x None = refl
value_there j x (Some T) = refl

signature_size : (n t : Bytes) (s : Signature) (o : Option Signature) → o ≡ Some s
    → (signature_members s).types t ≡ option_map size_of (option_and_then (λ (s : Signature). option_map (λ m. with_mine (TAbs n) (unwrap_or m (TMine t))) (type_under t s.types)) o)
signature_size n t s o e = manifest_size n t (type_under t s.types) ∙ ap (λ o. option_map size_of (option_and_then (λ (s : Signature). option_map (λ m. with_mine (TAbs n) (unwrap_or m (TMine t))) (type_under t s.types)) o)) (sym e)

signature_value : (j : ℕ) (x : Bytes) (s : Signature) (o : Option Signature) → o ≡ Some s
    → (signature_members s).values x ≡ is_some (option_and_then (λ (s : Signature). option_map (λ (T : Typ). Ref j x) (named_type x s.vals)) o)
signature_value j x s o e = value_there j x (named_type x s.vals) ∙ ap (λ o. is_some (option_and_then (λ (s : Signature). option_map (λ (T : Typ). Ref j x) (named_type x s.vals)) o)) (sym e)

shows_added : (E : Environment) (e : Entry) (s : Signature) → signature e.def ≡ Some s → Shows (signature_members s) (E ++ e ∷ []) (length E)
shows_added E e s h =
    let at : signature_at (E ++ e ∷ []) (length E) ≡ Some s = ap (λ (o : Option Entry). option_and_then signature (option_map (λ (e : Entry). e.def) o)) (added E e) ∙ h in
    record {
      there = omega (arith, length-append E (e ∷ []));
      types = λ t. signature_size (unwrap_or (name_at (E ++ e ∷ []) (length E)) []) t s (signature_at (E ++ e ∷ []) (length E)) at;
      values = λ x. signature_value (length E) x s (signature_at (E ++ e ∷ []) (length E)) at;
    }

-- behind one more entry, called by its name or not
matches_more : (b : Bool) (E : Environment) (e : Entry) (beh : Members) (o : Option Members) (d : Option ℕ) → Shows beh (E ++ e ∷ []) (length E) → Matches E o d
    → Matches (E ++ e ∷ []) (if b then Some beh else o) (elim b [ true ↦ Some (length E) | false ↦ d ])
matches_more true E e beh o d s h = s
matches_more false E e beh o d s h = matches_still E e o d h

named_more : (outer : Bytes → Option Members) (S : NameScope) (e : Entry) (name : Bytes) (s : Signature) → signature e.def ≡ Some s → KnowsOuter outer S
    → (m : Bytes) → Matches (S.entries ++ e ∷ []) (updated name (signature_members s) outer m) (elim (same_bytes name m) [ true ↦ Some (length S.entries) | false ↦ definition S m ])
named_more outer S e name s h k m = matches_more (same_bytes name m) S.entries e (signature_members s) (outer m) (definition S m) (shows_added S.entries e s h) (k m)

by_def : (d : Def) (outer : Bytes → Option Members) (S : NameScope) (e : Entry) → e.def ≡ d → KnowsOuter outer S
    → (m : Bytes) → Matches (S.entries ++ e ∷ []) (past_entry outer d m) (beside_name m (external_names d (length S.entries) S.externals))
by_def (AModule m) outer S e is k = named_more outer S e m.name m.sig (ap signature is) k
by_def (AnImport i) outer S e is k = named_more outer S e i.name i.sig (ap signature is) k
by_def (AMark text) outer S e is k = λ m. matches_still S.entries e (outer m) (definition S m) (k m)

pub knows_entry : (outer : Bytes → Option Members) (S : NameScope) (e : Entry) → KnowsOuter outer S → KnowsOuter (past_entry outer e.def) (with_entry S e)
knows_entry outer S e k = by_def e.def outer S e refl k

pub starts : (S : NameScope) (e : Entry) → AtStart (with_entry S e)
starts S e = record { types = refl; fields = refl; variables = refl }

-- in front of a surface
pub knows_entries : (outer : Bytes → Option Members) (S : NameScope) (E : Environment) → KnowsOuter outer S → KnowsOuter (past_entries outer E) (after_all with_entry S E)
knows_entries outer S [] k = k
knows_entries outer S (e ∷ E) k = knows_entries (past_entry outer e.def) (with_entry S e) E (knows_entry outer S e k)

pub starts_behind : (S : NameScope) (E : Environment) → AtStart S → AtStart (after_all with_entry S E)
starts_behind S [] a = a
starts_behind S (e ∷ E) a = starts_behind (with_entry S e) E (starts S e)

pub knows_none : (E : Environment) → KnowsOuter no_outer (scope_behind E)
knows_none E m = tt

pub starts_alone : (E : Environment) → AtStart (scope_behind E)
starts_alone E = record { types = refl; fields = refl; variables = refl }
