-- The definitions that a text writes in a scope: they are within the bounds of their spelling, speak of known types, and have closed signatures.
use Rattle.std.proofs.Common.{◌≡◌, ◌∙◌, ◌≤◌, ◌+◌, refl, sym, ap, subst, ℕ, suc, Bool, true, false, List, [], ◌∷◌, ◌++◌, map, length, Option, Some, None, arith}
use Rattle.std.specs.Prelude.{nat_le, not, is_some, ◌||◌, ◌&&◌, option_and_then, option_to_list, flat_map, unwrap_or}
use Rattle.std.specs.List.{list_all, list_any}
use Rattle.std.specs.Option.{option_map_or}
use Rattle.std.proofs.lemmas.Bool.{le-leb}
use mathlib.Core.Bool.{true≢false}
use Rattle.ac_types.specs.Limits.{most_items, most_resolves, longest_uri}
use Rattle.ac_types.proofs.FirstLaws.{none≢some, some_eq}
use Rattle.ac_types.proofs.Same.{both_true, and_true, bytes_refl}
use Rattle.ac_types.specs.Types.{Bytes, Typ, TMine, same_bytes}
use Rattle.ac_types.specs.Sigs.{Typed_name, Sig_type, Signature, Atom, Ranges, Exact, Resolve, StaticLink, HereAlready, Uri, MyName, type_under, is_abstract}
use Rattle.ac_terms.specs.Defs.{Environment, Field, Def, name_at, signature_at}
use Rattle.ac_terms.specs.Parts.{OfType, sig_types, def_parts, part_mentions, term_parts}
use Rattle.ac_terms.specs.Bounds.{is_lower, is_name, fits_type, fits_term, fits_typed, fits_sig, fits_def, fits_atom, fits_constraint, fits_resolve}
use Rattle.ac_terms.proofs.AllLaws.{all_append}
use Rattle.ac_rules.specs.Views.{is_known, are_known}
use Rattle.ac_rules.specs.Modules.{mine, is_closed_sig, has_closed_sig, are_distinct, is_distinct_sig, has_distinct_names}
use Rattle.ac_rules.specs.Coherent.{IsCoherent}
use Rattle.ac_rules.proofs.Unspoken.{name_sized, has_a_name}
use Rattle.ac_syntax.specs.Trees.{NameAt, AbbrevTree, SpecTree, AbstractSpec, ManifestSpec, ValSpec, SigTree, FieldTree, AbbrevField, ValField, WantsTree, WantsVersion, WantsName, DefTree, ModuleDef, ImportDef, MarkDef}
use Rattle.ac_resolve_scopes.specs.Standard.{beside_name}
use Rattle.ac_resolve_scopes.specs.Scopes.{NameScope, definition, each_in, with_type_name, with_field}
use Rattle.ac_resolve_scopes.specs.Written.{type_in, term_in}
use Rattle.ac_resolve_scopes.specs.Definitions.{after_abbrev, after_spec, after_field, spec_type, spec_value, signature_in, abbrev_type, item_type, item_field, constraint_in, def_in}
use Rattle.ac_resolve_scopes.specs.Searches.{least, least_of, least_in, found, found_in_abbrev, found_in_spec, found_in_field, found_in_sig}
use Rattle.ac_resolve_scopes.specs.Unbound.{unbound_type, unbound, unbound_wants, unbound_in_def}
use Rattle.ac_resolve_scopes.specs.Counts.{over, large_type, large, many_in_sig, many_in_struct, long_uri, many_atoms, many_in_lists, large_in_def}
use Rattle.ac_load_rules.proofs.Distinct.{least_none}
use Rattle.ac_load_rules.proofs.DefBounds.{AbbrevHas, SpecHas, FieldHas, EachHas, VersionHas, LikeHas, WantsHas, DefHas}
use Rattle.ac_load_rules.proofs.OutsideTypes.{IsFine}
use Rattle.ac_load_rules.proofs.FineTypes.{within, there_unless, IsScope, written_fine}
use Rattle.ac_load_rules.proofs.FineTerms.{Neither, both_none, speaks, mentions_known, term_fine}

-- among distinct names each has what stands beside it
other_named : (x : Sig_type) (ys : List Sig_type) → not (list_any (same_bytes x.name) (map (λ (y : Sig_type). y.name) ys)) ≡ true → (xs : List Sig_type)
    → EachHas (λ (y : Sig_type). type_under y.name xs ≡ Some y.manifest) ys → EachHas (λ (y : Sig_type). type_under y.name (x ∷ xs) ≡ Some y.manifest) ys
other_named x [] h xs all = tt
other_named x (y ∷ ys) h xs all = on (λ k. other_named x ys k xs all.1) (same_bytes x.name y.name) refl h where
  first : (b : Bool) → same_bytes x.name y.name ≡ b → b ≡ false → type_under y.name (x ∷ xs) ≡ Some y.manifest
  first b is off = ap (λ c. elim c as (λ z. Option (Option Typ)) [ true ↦ Some x.manifest | false ↦ type_under y.name xs ]) (is ∙ off) ∙ all.0

  on : (not (list_any (same_bytes x.name) (map (λ (z : Sig_type). z.name) ys)) ≡ true → EachHas (λ (z : Sig_type). type_under z.name (x ∷ xs) ≡ Some z.manifest) ys) → (b : Bool) → same_bytes x.name y.name ≡ b → not (b || list_any (same_bytes x.name) (map (λ (z : Sig_type). z.name) ys)) ≡ true → EachHas (λ (z : Sig_type). type_under z.name (x ∷ xs) ≡ Some z.manifest) (y ∷ ys)
  on more true is k = absurd (true≢false (sym k))
  on more false is k = (first false is refl, more k)

each_under : (xs : List Sig_type) → are_distinct (map (λ (x : Sig_type). x.name) xs) ≡ true → EachHas (λ (x : Sig_type). type_under x.name xs ≡ Some x.manifest) xs
each_under [] h = tt
each_under (x ∷ xs) h =
    let r = both_true (not (list_any (same_bytes x.name) (map (λ (y : Sig_type). y.name) xs))) _ h in
    (ap (λ b. elim b as (λ z. Option (Option Typ)) [ true ↦ Some x.manifest | false ↦ type_under x.name xs ]) (bytes_refl x.name), other_named x xs r.0 xs (each_under xs r.1))

-- the abstract types of some specs are among some
abbrev AreOwn : (Bytes → Bool) → List SpecTree → Type 0
AreOwn own [] = Unit {0}
AreOwn own (AbstractSpec name ∷ specs) = (own name.word ≡ true) × AreOwn own specs
AreOwn own (ManifestSpec a ∷ specs) = AreOwn own specs
AreOwn own (ValSpec name ty ∷ specs) = AreOwn own specs

abstract_own : (all : List Sig_type) (S : NameScope) (specs : List SpecTree) → EachHas (λ (x : Sig_type). type_under x.name all ≡ Some x.manifest) (each_in after_spec spec_type S specs) → AreOwn (λ t. is_abstract (type_under t all)) specs
abstract_own all S [] h = tt
abstract_own all S (AbstractSpec name ∷ specs) h = (ap is_abstract h.0, abstract_own all (after_spec S (AbstractSpec name)) specs h.1)
abstract_own all S (ManifestSpec a ∷ specs) h = abstract_own all (after_spec S (ManifestSpec a)) specs h.1
abstract_own all S (ValSpec name ty ∷ specs) h = abstract_own all (after_spec S (ValSpec name ty)) specs h

few_of : (limit n : ℕ) (rest : Option ℕ) → least (over limit n) rest ≡ None → nat_le n limit ≡ true
few_of limit n rest h = le-leb n limit (within limit n (least_none (over limit n) rest h).0)

module _ (E : Environment) (coherent : IsCoherent E) (own : Bytes → Bool) (inside : Bool) where
  abbrev Scoped : NameScope → Type 0
  Scoped S = IsScope E coherent own inside S

  -- behind a type
  behind_type : (S : NameScope) → Scoped S → (name : NameAt) (T : Typ) → IsFine E own inside T → Scoped (with_type_name name T S)
  behind_type S s name T fine = record { signatures = s.signatures; kept = s.kept; types = there } where
    there : (t : Bytes) (U : Typ) → beside_name t ((name.word, T) ∷ S.types) ≡ Some U → IsFine E own inside U
    there t U h = on (same_bytes name.word t) h where
      on : (b : Bool) → elim b as (λ z. Option Typ) [ true ↦ Some T | false ↦ beside_name t S.types ] ≡ Some U → IsFine E own inside U
      on true h = subst (IsFine E own inside) (some_eq h) fine
      on false h = s.types t U h

  behind_field : (S : NameScope) → Scoped S → (name : NameAt) → Scoped (with_field name S)
  behind_field S s name = record { signatures = s.signatures; kept = s.kept; types = s.types }

  -- abbreviations, one behind another
  record AreFineTypes (xs : List Typed_name) : Type 0 where
    fit : list_all (fits_typed inside) xs ≡ true
    known : list_all (λ (t : Typed_name). are_known E t.ty) xs ≡ true

  abbrevs_fine : (S : NameScope) → Scoped S → (like : List AbbrevTree) → EachHas AbbrevHas like
      → Neither (least_in after_abbrev (found_in_abbrev unbound) S like) (least_in after_abbrev (found_in_abbrev large) S like) → AreFineTypes (each_in after_abbrev abbrev_type S like)
  abbrevs_fine S s [] h n = record { fit = refl; known = refl }
  abbrevs_fine S s (a ∷ like) h n =
      let w = both_none (unbound_type S a.ty) _ (large_type S a.ty) _ n in
      let x = written_fine E coherent own inside S s a.ty h.0.1 w.0.0 w.0.1 in
      let y = abbrevs_fine (after_abbrev S a) (behind_type S s a.name (type_in S a.ty) x) like h.1 w.1 in
      record { fit = and_true (and_true h.0.0 x.fits) y.fit; known = and_true x.known y.known }

-- a signature
module _ (E : Environment) (coherent : IsCoherent E) (own : Bytes → Bool) where
  record AreFineSpecs (S : NameScope) (specs : List SpecTree) : Type 0 where
    types : list_all (λ (t : Sig_type). is_lower t.name && option_map_or (fits_type true) t.manifest true) (each_in after_spec spec_type S specs) ≡ true
    vals : list_all (fits_typed true) (each_in after_spec spec_value S specs) ≡ true
    types_known : list_all (are_known E) (flat_map (λ (t : Sig_type). option_to_list t.manifest) (each_in after_spec spec_type S specs)) ≡ true
    vals_known : list_all (λ (v : Typed_name). are_known E v.ty) (each_in after_spec spec_value S specs) ≡ true
    types_closed : list_all (λ (t : Sig_type). option_map_or (λ T. list_all own (mine T)) t.manifest true) (each_in after_spec spec_type S specs) ≡ true
    vals_closed : list_all (λ (v : Typed_name). list_all own (mine v.ty)) (each_in after_spec spec_value S specs) ≡ true

  specs_fine : (S : NameScope) → IsScope E coherent own true S → (specs : List SpecTree) → EachHas SpecHas specs → AreOwn own specs
      → Neither (least_in after_spec (found_in_spec unbound) S specs) (least_in after_spec (found_in_spec large) S specs) → AreFineSpecs S specs
  specs_fine S s [] h o n = record { types = refl; vals = refl; types_known = refl; vals_known = refl; types_closed = refl; vals_closed = refl }
  specs_fine S s (AbstractSpec name ∷ specs) h o n =
      let w = both_none None _ None _ n in
      let fine : IsFine E own true (TMine name.word) = record { known = refl; mine = and_true o.0 refl; fits = h.0 } in
      let y = specs_fine (after_spec S (AbstractSpec name)) (behind_type E coherent own true S s name (TMine name.word) fine) specs h.1 o.1 w.1 in
      record { types = and_true (and_true h.0 refl) y.types; vals = y.vals; types_known = y.types_known; vals_known = y.vals_known; types_closed = y.types_closed; vals_closed = y.vals_closed }
  specs_fine S s (ManifestSpec a ∷ specs) h o n =
      let w = both_none (unbound_type S a.ty) _ (large_type S a.ty) _ n in
      let x = written_fine E coherent own true S s a.ty h.0.1 w.0.0 w.0.1 in
      let y = specs_fine (after_spec S (ManifestSpec a)) (behind_type E coherent own true S s a.name (type_in S a.ty) x) specs h.1 o w.1 in
      record { types = and_true (and_true h.0.0 x.fits) y.types; vals = y.vals; types_known = and_true x.known y.types_known; vals_known = y.vals_known; types_closed = and_true x.mine y.types_closed; vals_closed = y.vals_closed }
  specs_fine S s (ValSpec name ty ∷ specs) h o n =
      let w = both_none (unbound_type S ty) _ (large_type S ty) _ n in
      let x = written_fine E coherent own true S s ty h.0.1 w.0.0 w.0.1 in
      let y = specs_fine (after_spec S (ValSpec name ty)) s specs h.1 o w.1 in
      record { types = y.types; vals = and_true (and_true h.0.0 x.fits) y.vals; types_known = y.types_known; vals_known = and_true x.known y.vals_known; types_closed = y.types_closed; vals_closed = and_true x.mine y.vals_closed }

-- a scope behind entries like those of an environment, at the front of a definition
pub record IsFront (E : Environment) (S : NameScope) : Type 0 where
  pub signatures : (j : ℕ) → signature_at S.entries j ≡ signature_at E j
  pub kept : (j : ℕ) → name_at S.entries j ≡ name_at E j
  pub no_types : S.types ≡ []
  pub no_fields : S.fields ≡ []
  -- what is called by a name has a signature
  pub called : (m : Bytes) (j : ℕ) → definition S m ≡ Some j → is_some (signature_at E j) ≡ true

-- a definition within bounds that speaks of known types, with a closed signature
pub record IsFineDef (E : Environment) (d : Def) : Type 0 where
  pub fits : fits_def d ≡ true
  pub known : list_all (is_known E) (part_mentions (def_parts d)) ≡ true
  pub closed : has_closed_sig d ≡ true

anything : Bytes → Bool
anything t = true

same_length : (S : NameScope) (like : List AbbrevTree) → length (each_in after_abbrev abbrev_type S like) ≡ length like
same_length S [] = refl
same_length S (a ∷ like) = ap suc (same_length (after_abbrev S a) like)

module _ (E : Environment) (coherent : IsCoherent E) where
  -- the front of a definition has no types
  pub front_scope : (own : Bytes → Bool) (inside : Bool) (S : NameScope) → IsFront E S → IsScope E coherent own inside S
  front_scope own inside S f = record { signatures = f.signatures; kept = f.kept; types = none } where
    none : (t : Bytes) (T : Typ) → beside_name t S.types ≡ Some T → IsFine E own inside T
    none t T h = absurd (none≢some (sym (ap (beside_name t) f.no_types) ∙ h))

  -- types and parts, as lists of parts
  types_speak : (Ts : List Typ) → list_all (are_known E) Ts ≡ true → list_all (speaks E) (map OfType Ts) ≡ true
  types_speak [] h = refl
  types_speak (T ∷ Ts) h = let r = both_true (are_known E T) _ h in and_true r.0 (types_speak Ts r.1)

  typed_speak : (xs : List Typed_name) → list_all (λ (t : Typed_name). are_known E t.ty) xs ≡ true → list_all (speaks E) (map (λ (t : Typed_name). OfType t.ty) xs) ≡ true
  typed_speak [] h = refl
  typed_speak (x ∷ xs) h = let r = both_true (are_known E x.ty) _ h in and_true r.0 (typed_speak xs r.1)

  vals_known : (xs : List Typed_name) → list_all (λ (t : Typed_name). are_known E t.ty) xs ≡ true → list_all (are_known E) (map (λ (t : Typed_name). t.ty) xs) ≡ true
  vals_known [] h = refl
  vals_known (x ∷ xs) h = let r = both_true (are_known E x.ty) _ h in and_true r.0 (vals_known xs r.1)

  -- a signature
  record IsFineSig (σ : Signature) : Type 0 where
    fits : fits_sig σ ≡ true
    known : list_all (speaks E) (map OfType (sig_types σ)) ≡ true
    closed : is_closed_sig σ ≡ true

  sig_fine : (S : NameScope) → IsFront E S → (σ : SigTree) → EachHas SpecHas σ.specs → Neither (found_in_sig unbound S σ) (found_in_sig large S σ) → many_in_sig S σ ≡ None → is_distinct_sig (signature_in S σ) ≡ true → IsFineSig (signature_in S σ)
  sig_fine S f σ h n m d =
      let g = signature_in S σ in
      let own = λ (t : Bytes). is_abstract (type_under t g.types) in
      let x = specs_fine E coherent own S (front_scope own true S f) σ.specs h (abstract_own g.types S σ.specs (each_under g.types (both_true _ _ d).0)) n in
      let c = least_none (over most_items (length g.types)) (over most_items (length g.vals)) m in
      record {
        fits = and_true (and_true (and_true (few_of most_items (length g.types) _ m) (le-leb (length g.vals) 1024 (within most_items (length g.vals) c.1))) x.types) x.vals;
        known = types_speak (sig_types g) (all_append (are_known E) (flat_map (λ (t : Sig_type). option_to_list t.manifest) g.types) (map (λ (v : Typed_name). v.ty) g.vals) x.types_known (vals_known g.vals x.vals_known));
        closed = and_true x.types_closed x.vals_closed;
      }

  -- a struct
  record AreFineFields (S : NameScope) (fields : List FieldTree) : Type 0 where
    types : list_all (fits_typed false) (each_in after_field item_type S fields) ≡ true
    types_known : list_all (λ (t : Typed_name). are_known E t.ty) (each_in after_field item_type S fields) ≡ true
    fit : list_all (λ (f : Field). is_lower f.name && fits_type false f.ty && fits_term false f.term) (each_in after_field item_field S fields) ≡ true
    known : list_all (speaks E) (flat_map (λ (f : Field). OfType f.ty ∷ term_parts f.term) (each_in after_field item_field S fields)) ≡ true

  fields_fine : (S : NameScope) → IsScope E coherent anything false S → (fields : List FieldTree) → EachHas FieldHas fields → length S.fields + length (each_in after_field item_field S fields) ≤ 65535
      → Neither (least_in after_field (found_in_field unbound) S fields) (least_in after_field (found_in_field large) S fields) → AreFineFields S fields
  fields_fine S s [] h few n = record { types = refl; types_known = refl; fit = refl; known = refl }
  fields_fine S s (AbbrevField a ∷ fields) h few n =
      let w = both_none (unbound_type S a.ty) _ (large_type S a.ty) _ n in
      let x = written_fine E coherent anything false S s a.ty h.0.1 w.0.0 w.0.1 in
      let y = fields_fine (after_field S (AbbrevField a)) (behind_type E coherent anything false S s a.name (type_in S a.ty) x) fields h.1 few w.1 in
      record { types = and_true (and_true h.0.0 x.fits) y.types; types_known = and_true x.known y.types_known; fit = y.fit; known = y.known }
  fields_fine S s (ValField name ty body ∷ fields) h few n =
      let w = both_none (least (unbound_type S ty) (found unbound S body)) _ (least (large_type S ty) (found large S body)) _ n in
      let v = both_none (unbound_type S ty) (found unbound S body) (large_type S ty) (found large S body) w.0 in
      let x = written_fine E coherent anything false S s ty h.0.1 v.0.0 v.0.1 in
      let z = term_fine E coherent anything S s (omega (arith, few)) body h.0.2 v.1 in
      let y = fields_fine (after_field S (ValField name ty body)) (behind_field E coherent anything false S s name) fields h.1 (omega (arith, few)) w.1 in
      record {
        types = y.types;
        types_known = y.types_known;
        fit = and_true (and_true (and_true h.0.0 x.fits) z.fits) y.fit;
        known = and_true x.known (all_append (speaks E) (term_parts (term_in S body)) _ z.known y.known);
      }

  -- a resolvespec
  resolves_fit : (by : List Resolve) → least_of long_uri by ≡ None → list_all fits_resolve by ≡ true
  resolves_fit [] h = refl
  resolves_fit (StaticLink ∷ by) h = resolves_fit by h
  resolves_fit (HereAlready ∷ by) h = resolves_fit by h
  resolves_fit (Uri u ∷ by) h = let r = least_none (over longest_uri (length u)) _ h in and_true (le-leb (length u) 1024 (within longest_uri (length u) r.0)) (resolves_fit by r.1)

  -- what an import asks for
  wants_fit : (S : NameScope) → IsFront E S → (wants : WantsTree) (like : Option (List AbbrevTree)) → WantsHas wants like → unbound_wants S wants ≡ None → fits_constraint (constraint_in S wants) ≡ true
  wants_fit S f (WantsVersion (Ranges rs star)) like h n = h
  wants_fit S f (WantsVersion (Exact m)) like h n = absurd h
  wants_fit S f (WantsName name) like h n =
      let j = there_unless (definition S name.word) name.at n in
      let m = has_a_name E coherent j.0 (f.called name.word j.0 j.1) in
      let found : option_and_then (name_at S.entries) (definition S name.word) ≡ Some m.0 = ap (option_and_then (name_at S.entries)) j.1 ∙ f.kept j.0 ∙ m.1 in
      ap (λ o. is_name (unwrap_or o [])) found ∙ name_sized E coherent j.0 m.0 m.1

  version_fits : (version : Option (List Atom)) → VersionHas version
      → (nat_le 1 (length (unwrap_or version (MyName ∷ []))) && nat_le (length (unwrap_or version (MyName ∷ []))) 8 && list_all fits_atom (unwrap_or version (MyName ∷ []))) ≡ true
  version_fits None h = refl
  version_fits (Some atoms) h = and_true (and_true (le-leb 1 (length atoms) h.0) (le-leb (length atoms) 8 h.1)) h.2

  like_has : (like : Option (List AbbrevTree)) → LikeHas like → EachHas AbbrevHas (unwrap_or like [])
  like_has None h = tt
  like_has (Some abbrevs) h = h

  pub def_fine : (S : NameScope) → IsFront E S → (d : DefTree) → DefHas d → unbound_in_def S d ≡ None → large_in_def S d ≡ None → has_distinct_names (def_in S d) ≡ true → IsFineDef E (def_in S d)
  def_fine S f (ModuleDef at name σ version fields) h u l d =
      let ub = (least_none None _ u).1 in
      let lg = least_none (many_in_lists S (ModuleDef at name σ version fields)) _ l in
      let w = both_none (found_in_sig unbound S σ) _ (found_in_sig large S σ) _ (ub, lg.1) in
      let m = least_none (many_in_sig S σ) (many_in_struct S fields) lg.0 in
      let c = least_none (over most_items (length (each_in after_field item_type S fields))) (over most_items (length (each_in after_field item_field S fields))) m.1 in
      let few = within most_items (length (each_in after_field item_field S fields)) c.1 in
      let none : length S.fields ≡ 0 = ap length f.no_fields in
      let x = sig_fine S f σ h.1 w.0 m.0 (both_true _ _ (both_true _ _ d).0).0 in
      let y = fields_fine S (front_scope anything false S f) fields h.3 (omega (arith, few, none)) w.1 in
      let v = version_fits version h.2 in
      let v2 = both_true _ _ v in
      let v1 = both_true _ _ v2.0 in
      let types = each_in after_field item_type S fields in
      let sigs = map OfType (sig_types (signature_in S σ)) in
      let typed = map (λ (t : Typed_name). OfType t.ty) types in
      let parts = flat_map (λ (x : Field). OfType x.ty ∷ term_parts x.term) (each_in after_field item_field S fields) in
      record {
        fits = and_true (and_true (and_true (and_true (and_true (and_true (and_true (and_true h.0 v1.0) v1.1) v2.1) x.fits) (le-leb (length types) 1024 (within most_items (length types) c.0))) y.types) (le-leb (length (each_in after_field item_field S fields)) 1024 few)) y.fit;
        known = mentions_known E (def_parts (def_in S (ModuleDef at name σ version fields))) (all_append (speaks E) (sigs ++ typed) parts (all_append (speaks E) sigs typed x.known (typed_speak types y.types_known)) y.known);
        closed = x.closed;
      }
  def_fine S f (ImportDef at name σ wants like by) h u l d =
      let ub = least_none (unbound_wants S wants) _ u in
      let lg = least_none (many_in_lists S (ImportDef at name σ wants like by)) _ l in
      let w = both_none (found_in_sig unbound S σ) _ (found_in_sig large S σ) _ (ub.1, lg.1) in
      let m = least_none (many_in_sig S σ) _ lg.0 in
      let c = least_none (over most_items (length (unwrap_or like []))) (many_atoms by) m.1 in
      let a = least_none (over most_resolves (length by)) (least_of long_uri by) c.1 in
      let x = sig_fine S f σ h.1 w.0 m.0 (both_true _ _ d).0 in
      let likes = each_in after_abbrev abbrev_type S (unwrap_or like []) in
      let y = abbrevs_fine E coherent anything false S (front_scope anything false S f) (unwrap_or like []) (like_has like h.3) w.1 in
      let sigs = map OfType (sig_types (signature_in S σ)) in
      let typed = map (λ (t : Typed_name). OfType t.ty) likes in
      let short : nat_le (length likes) 1024 ≡ true = ap (λ (k : ℕ). nat_le k 1024) (same_length S (unwrap_or like [])) ∙ le-leb (length (unwrap_or like [])) 1024 (within most_items (length (unwrap_or like [])) c.0) in
      record {
        fits = and_true (and_true (and_true (and_true (and_true (and_true (and_true h.0 x.fits) (wants_fit S f wants like h.2 ub.0)) short) y.fit) (le-leb 1 (length by) h.4)) (le-leb (length by) 16 (within most_resolves (length by) a.0))) (resolves_fit by a.1);
        known = mentions_known E (sigs ++ typed) (all_append (speaks E) sigs typed x.known (typed_speak likes y.known));
        closed = x.closed;
      }
  def_fine S f (MarkDef at text_at text) h u l d = record { fits = h; known = refl; closed = refl }
