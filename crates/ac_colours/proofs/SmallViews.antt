-- In a coherent environment what an abstract type stands for is small.
use Rattle.std.proofs.Common.{◌≡◌, sym, ap, ◌∙◌, subst, ℕ, Bool, true, false, List, [], ◌∷◌, ◌++◌, map, Option, Some}
use Rattle.std.specs.Prelude.{option_map, option_and_then, slice_get, flat_map}
use Rattle.ac_types.specs.Partial.{given}
use Rattle.ac_types.proofs.FirstLaws.{none≢some, some_eq}
use Rattle.ac_types.proofs.Same.{both_true}
use Rattle.ac_types.specs.Types.{Bytes, Typ, TAbs, is_small, same_bytes}
use Rattle.ac_types.specs.Sigs.{Typed_name, Constraint, Ranges, Exact, named_type}
use Rattle.ac_terms.specs.Bounds.{has_small_types}
use Rattle.ac_terms.specs.Defs.{Environment, Entry, Field, Module, Def, AModule, AnImport, AMark, def_of, module_at, module_of, find_name}
use Rattle.ac_terms.specs.Parts.{Portion, OfType, sig_types, term_parts, def_parts}
use Rattle.ac_rules.specs.Views.{Coloured, opened, representation, type_of_entry, import_type, module_type, are_known}
use Rattle.ac_rules.specs.Typing.{kept_in}
use Rattle.ac_rules.specs.Coherent.{IsCoherent}
use Rattle.ac_rules.proofs.Rules.{then_some, module_is}
use Rattle.ac_meaning.proofs.Homes.{opened_is, represented}
use Rattle.ac_meaning.proofs.WithinSources.{small_parts}

-- the type under a name, of small ones
named_small : (xs : List Typed_name) (t : Bytes) (R : Typ) → has_small_types (map (λ (x : Typed_name). OfType x.ty) xs) ≡ true → named_type t xs ≡ Some R → is_small R ≡ true
named_small [] t R h e = absurd (none≢some e)
named_small (x ∷ xs) t R h e = by (named_small xs t R) (same_bytes x.name t) e
  where
    types : List Portion
    types = map (λ (y : Typed_name). OfType y.ty) xs

    by : (has_small_types types ≡ true → named_type t xs ≡ Some R → is_small R ≡ true) → (b : Bool) → elim b [ true ↦ Some x.ty | false ↦ named_type t xs ] ≡ Some R → is_small R ≡ true
    by more true q = subst (λ T. is_small T ≡ true) (some_eq q) (both_true (is_small x.ty) (has_small_types types) h).0
    by more false q = more (both_true (is_small x.ty) (has_small_types types) h).1 q

module _ (E : Environment) (coherent : IsCoherent E) where
  module_type_small : (i : ℕ) (t : Bytes) (R : Typ) (m : Module) → def_of E i ≡ Some (AModule m) → named_type t m.types ≡ Some R → is_small R ≡ true
  module_type_small i t R m here e =
      let small : has_small_types (def_parts (AModule m)) ≡ true = (both_true _ _ (coherent.plain i (AModule m) here)).0 in
      let a : List Portion = map OfType (sig_types m.sig) in
      let b : List Portion = map (λ (x : Typed_name). OfType x.ty) m.types in
      let p = small_parts (a ++ b) (flat_map (λ (x : Field). OfType x.ty ∷ term_parts x.term) m.fields) small in
      named_small m.types t R (small_parts a b p.0).1 e

  -- the type of an entry is one that a definition writes
  entry_type_small : (i : ℕ) (t : Bytes) (R : Typ) (d : Def) (k : Option ℕ) → def_of E i ≡ Some d → type_of_entry E t d k ≡ Some R → is_small R ≡ true
  entry_type_small i t R (AModule m) k here e = module_type_small i t R m here e
  entry_type_small i t R (AnImport m) k here e = by m.constraint e
    where
      by : (c : Constraint) → import_type E t m c k ≡ Some R → is_small R ≡ true
      by (Ranges rs star) r =
          let small : has_small_types (def_parts (AnImport m)) ≡ true = (both_true _ _ (coherent.plain i (AnImport m) here)).0 in
          named_small m.like t R (small_parts (map OfType (sig_types m.sig)) (map (λ (x : Typed_name). OfType x.ty) m.like) small).1 r
      by (Exact q) r =
          let j = then_some (module_type E t) k R r in
          let n = then_some (λ (x : Module). named_type t x.types) (module_at E j.0) R j.2 in
          let d = then_some module_of (def_of E j.0) n.0 n.1 in
          module_type_small j.0 t R n.0 (d.1 ∙ ap Some (module_is d.0 n.0 d.2)) n.2
  entry_type_small i t R (AMark s) k here e = absurd (none≢some e)

  pub representation_small : (n t : Bytes) (R : Typ) → representation E n t ≡ Some R → is_small R ≡ true
  representation_small n t R h =
      let i = then_some (λ i. option_and_then (λ (e : Entry). type_of_entry E t e.def e.link) (slice_get E i)) (find_name E n) R h in
      let e = then_some (λ (e : Entry). type_of_entry E t e.def e.link) (slice_get E i.0) R i.2 in
      entry_type_small i.0 t R e.0.def e.0.link (ap (option_map (λ (x : Entry). x.def)) e.1) e.2

  pub opened_small : (n t : Bytes) → are_known E (TAbs n t) ≡ true → is_small (opened E n t) ≡ true
  opened_small n t k =
      let r = represented E coherent n t k in
      subst (λ X. is_small X ≡ true) (sym (opened_is E coherent n t r.0 r.1)) (representation_small n t r.0 r.1)

-- a type that is kept
pub keep : (T : Typ) → is_small T ≡ true → kept_in Coloured (Some T) ≡ Some T
keep T h = ap (λ b. given b (Some T)) h
