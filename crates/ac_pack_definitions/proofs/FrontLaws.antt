-- The definitions of a packet, entry by entry.
use Rattle.std.proofs.Common.{◌≡◌, refl, sym, ap, ap₂, ◌∙◌, ℕ, zero, suc, ◌<◌, Bool, true, arith, List, [], ◌∷◌, ◌++◌, map, length, append_assoc, Option, Some, None}
use Rattle.std.specs.Prelude.{◌&&◌, nat_le, flat_map, slice_get}
use Rattle.std.specs.List.{list_all}
use Rattle.ac_types.specs.Types.{Bytes}
use Rattle.ac_terms.specs.Defs.{Environment, Entry, Field, Def, AModule, AnImport, AMark}
use Rattle.ac_terms.specs.Nesting.{nesting}
use Rattle.ac_terms.specs.Bounds.{nests_little}
use Rattle.ac_terms.specs.Renumbered.{field_renumbered, def_renumbered}
use Rattle.ac_terms.specs.Spelling.{two_written, def_bytes}
use Rattle.ac_terms.specs.Tags.{packet_front, packet_in_full}
use Rattle.ac_rules.specs.Needed.{packet_form}
use Rattle.ac_rules.proofs.RenumberedBounds.{nests_alike}
use Rattle.ac_pack_definitions.specs.Forms.{AllBelow, forms, front_bytes}
use Rattle.ac_pack_definitions.specs.inner.Passing.{nests_at}

none_past : {A : Type 0} (xs : List A) (i : ℕ) → i < length xs → slice_get xs i ≡ None → ⊥
none_past [] i h e = omega (arith, h)
none_past (x ∷ xs) zero h e = cc
none_past (x ∷ xs) (suc i) h e = none_past xs i (omega (arith, h)) e

module _ (f : ℕ → ℕ) where
  fields_alike : (xs : List Field) → list_all (λ n. nat_le n 500) (map (λ (x : Field). nesting x.term) (map (field_renumbered f) xs)) ≡ list_all (λ n. nat_le n 500) (map (λ (x : Field). nesting x.term) xs)
  fields_alike [] = refl
  fields_alike (x ∷ xs) = ap₂ (λ n b. nat_le n 500 && b) (nests_alike f x.term) (fields_alike xs)

  -- other numbers nest no further
  nests_same : (d : Def) → nests_little (def_renumbered f d) ≡ nests_little d
  nests_same (AModule m) = fields_alike m.fields
  nests_same (AnImport i) = refl
  nests_same (AMark t) = refl

  module _ (E : Environment) (mark : ℕ) where
    pub all_nest : (is : List ℕ) → list_all (nests_at E mark) is ≡ list_all nests_little (forms E mark f is)
    all_nest [] = refl
    all_nest (i ∷ is) = by (all_nest is) (slice_get E i)
      where
        by : list_all (nests_at E mark) is ≡ list_all nests_little (forms E mark f is) → (o : Option Entry) →
            (elim o as (λ z. Bool) [ None ↦ true | Some e ↦ nests_little (packet_form mark i e) ] && list_all (nests_at E mark) is)
            ≡ list_all nests_little (elim o as (λ z. List Def) [ None ↦ [] | Some e ↦ def_renumbered f (packet_form mark i e) ∷ [] ] ++ forms E mark f is)
        by rest None = rest
        by rest (Some e) = ap₂ (λ a b. a && b) (sym (nests_same (packet_form mark i e))) rest

    -- there are as many forms as entries
    pub as_many : (is : List ℕ) → AllBelow (length E) is → length (forms E mark f is) ≡ length is
    as_many [] h = refl
    as_many (i ∷ is) h = by (as_many is h.1) (slice_get E i) refl
      where
        by : length (forms E mark f is) ≡ length is → (o : Option Entry) → slice_get E i ≡ o → length (elim o as (λ z. List Def) [ None ↦ [] | Some e ↦ def_renumbered f (packet_form mark i e) ∷ [] ] ++ forms E mark f is) ≡ suc (length is)
        by rest None e = absurd (none_past E i h.0 e)
        by rest (Some x) e = ap suc rest

-- what a packet begins with, and its definitions behind it
pub front_joined : (n : ℕ) (ds : List Def) (text : Bytes) → length ds ≡ n → text ≡ packet_front ++ packet_in_full ∷ two_written n → text ++ flat_map def_bytes ds ≡ front_bytes ds
front_joined n ds text e t =
    ap (λ xs. xs ++ flat_map def_bytes ds) t
    ∙ append_assoc packet_front (packet_in_full ∷ two_written n) (flat_map def_bytes ds)
    ∙ ap (λ m. packet_front ++ packet_in_full ∷ (two_written m ++ flat_map def_bytes ds)) (sym e)
