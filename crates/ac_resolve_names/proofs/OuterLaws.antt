-- What the look-ups find, as the definitions have it.
use Rattle.std.proofs.Common.{◌≡◌, ◌∙◌, ap, refl, arith, ℕ, ◌<◌, ◌≤◌, Bool, true, false, not, List, [], ◌∷◌, map, length, Option, Some, None}
use Rattle.std.specs.Prelude.{option_map, option_and_then, unwrap_or, slice_get}
use Rattle.std.proofs.lemmas.List.{length-map}
use Rattle.ac_types.specs.Partial.{given}
use Rattle.ac_types.specs.Types.{Bytes, Typ, TAbs, TMine, with_mine, same_bytes}
use Rattle.ac_types.specs.Sigs.{Signature, named_type, type_under}
use Rattle.ac_types.specs.ReadTypes.{typ_of}
use Rattle.ac_types.specs.declared.ty.Ty.{Ty}
use Rattle.ac_terms.specs.Terms.{Ref}
use Rattle.ac_terms.specs.Defs.{Environment, Entry, signature}
use Rattle.ac_types.proofs.SizeLaws.{type_laws}
use Rattle.ac_types.specs.declared.text.Word.{Word}
use Rattle.ac_terms.specs.Read.{expr_of, expr_layer}
use Rattle.ac_terms.specs.declared.term.Term.TheVariants as term
use Rattle.ac_terms.proofs.ReadLaws.{term_laws, expr_out, read_parts}
use Rattle.ac_resolve_names.proofs.VariableForms.{variable_laws}
use Rattle.ac_terms.proofs.EnvLaws.{entry_get}
use Rattle.ac_resolve_scopes.specs.Standard.{beside_name, is_standard}
use Rattle.ac_resolve_scopes.specs.Scopes.{NameScope, dotted_type, type_outside, value_outside, own_number}
use Rattle.ac_resolve_names.specs.inner.Shown.{entry_type, entry_value}
use Rattle.ac_resolve_names.specs.Fronts.{read_named_type}
use Rattle.ac_resolve_names.specs.inner.Places.{word_of}
use Rattle.ac_resolve_names.proofs.Scoping.{own-within}

beside_step : (b : Bool) (t : Ty) (o : Option Typ) (p : Option Ty) → o ≡ option_map typ_of p → elim b [ true ↦ Some (typ_of t) | false ↦ o ] ≡ option_map typ_of (elim b [ true ↦ Some t | false ↦ p ])
beside_step true t o p e = refl
beside_step false t o p e = e

pub beside_read : (x : Bytes) (L : List (Bytes × Ty)) → beside_name x (map read_named_type L) ≡ option_map typ_of (beside_name x L)
beside_read x [] = refl
beside_read x (e ∷ L) = beside_step (same_bytes e.0 x) e.1 _ _ (beside_read x L)

pub entry_shows : (e : Entry) (s : Signature) (n t : Bytes) → signature e.def ≡ Some s → e.name ≡ Some n → entry_type t e ≡ option_map (λ m. with_mine (TAbs n) (unwrap_or m (TMine t))) (type_under t s.types)
entry_shows e s n t h k =
    ap (option_and_then (λ (z : Signature). option_map (λ m. with_mine (TAbs (unwrap_or e.name [])) (unwrap_or m (TMine t))) (type_under t z.types))) h
    ∙ ap (λ o. option_map (λ m. with_mine (TAbs (unwrap_or o [])) (unwrap_or m (TMine t))) (type_under t s.types)) k

-- by what stands at a number
types_shown : (t : Bytes) (o : Option Entry)
    → option_and_then (λ (s : Signature). option_map (λ m. with_mine (TAbs (unwrap_or (option_and_then (λ (e : Entry). e.name) o) [])) (unwrap_or m (TMine t))) (type_under t s.types)) (option_and_then signature (option_map (λ (e : Entry). e.def) o))
    ≡ option_and_then (entry_type t) o
types_shown t None = refl
types_shown t (Some e) = refl

pub shown_type : (E : Environment) (t : Bytes) (j : ℕ) → type_outside E t j ≡ option_and_then (entry_type t) (slice_get E j)
shown_type E t j = types_shown t (slice_get E j)

then_map : {A B C : Type 0} (g : B → C) (f : A → Option B) (o : Option A) → option_and_then (λ a. option_map g (f a)) o ≡ option_map g (option_and_then f o)
then_map g f None = refl
then_map g f (Some a) = refl

values_shown : (x : Bytes) (j : ℕ) (o : Option Entry)
    → option_and_then (λ (s : Signature). option_map (λ (T : Typ). Ref j x) (named_type x s.vals)) (option_and_then signature (option_map (λ (e : Entry). e.def) o))
    ≡ option_map (λ (T : Typ). Ref j x) (option_and_then (entry_value x) o)
values_shown x j None = refl
values_shown x j (Some e) = then_map (λ (T : Typ). Ref j x) (λ (s : Signature). named_type x s.vals) (signature e.def)

pub shown_value : (E : Environment) (x : Bytes) (j : ℕ) → value_outside E x j ≡ option_map (λ (T : Typ). Ref j x) (option_and_then (entry_value x) (slice_get E j))
shown_value E x j = values_shown x j (slice_get E j)

pub field_fits : (x : Bytes) (L : List (Bytes × Unit {0})) (i : ℕ) → length L ≤ 65536 → own_number x (map word_of L) ≡ Some i → i < 65536
field_fits x L i h e = omega (arith, own-within x (map word_of L) i e, length-map L word_of)

-- behind a dot, where an entry is called
pub dotted_entry : (S : NameScope) (m t : Bytes) (j : ℕ) (e : Entry) → is_standard m ≡ false → beside_name m S.externals ≡ Some j → slice_get S.entries j ≡ Some e → dotted_type S m t ≡ entry_type t e
dotted_entry S m t j e s d h =
    ap (λ b. option_and_then (type_outside S.entries t) (given (not b) (beside_name m S.externals))) s
    ∙ ap (option_and_then (type_outside S.entries t)) d ∙ shown_type S.entries t j ∙ ap (option_and_then (entry_type t)) h

pub expr_of-Ref : (j : ℕ) (x : Word) → expr_of (term.Ref j x) ≡ Ref j x
expr_of-Ref j x = expr_out (term.Ref j x) ∙ ap (λ e. expr_layer (read_parts e)) (term.outs-Ref j x)

pub ruleset outer_laws = (beside_read, shown_type, shown_value, field_fits, entry_get)

pub ruleset scope_laws = (variable_laws, term_laws, type_laws)
