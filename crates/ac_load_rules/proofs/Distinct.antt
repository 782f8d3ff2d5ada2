-- Where nothing is repeated, names are distinct in each list of a definition.
use Rattle.std.proofs.Common.{◌≡◌, refl, sym, ap, ap₂, ◌∙◌, ℕ, Bool, true, false, List, [], ◌∷◌, ◌++◌, map, Option, Some, None}
use Rattle.std.specs.Prelude.{not, suc, ◌||◌, flat_map, option_map, unwrap_or}
use Rattle.std.specs.List.{list_any}
use Rattle.ac_types.proofs.FirstLaws.{none≢some}
use Rattle.ac_types.proofs.Same.{and_true}
use Rattle.ac_types.specs.Types.{Bytes, same_bytes}
use Rattle.ac_types.specs.Sigs.{Typed_name, Sig_type}
use Rattle.ac_terms.specs.Defs.{Field}
use Rattle.ac_rules.specs.Modules.{are_distinct, is_distinct_sig, has_distinct_names}
use Rattle.ac_syntax.specs.Trees.{NameAt, AbbrevTree, SpecTree, AbstractSpec, ManifestSpec, ValSpec, SigTree, FieldTree, AbbrevField, ValField, DefTree, ModuleDef, ImportDef, MarkDef}
use Rattle.ac_resolve_scopes.specs.Scopes.{NameScope, binders_to, each_in}
use Rattle.ac_resolve_scopes.specs.Definitions.{after_abbrev, after_spec, after_field, spec_type, spec_value, abbrev_type, item_type, item_field, signature_in, def_in}
use Rattle.ac_resolve_scopes.specs.Searches.{least}
use Rattle.ac_resolve_scopes.specs.Repeated.{place_where_there, repeated_name, twice, spec_type_name, spec_value_name, field_type_name, field_value_name, repeated_in_sig, standard_name, repeated_in_lists, repeated_in_def}

-- the least of two is nothing where neither is there
pub least_none : (a b : Option ℕ) → least a b ≡ None → (a ≡ None) × (b ≡ None)
least_none None b h = (refl, h)
least_none (Some m) None h = absurd (none≢some (sym h))
least_none (Some m) (Some n) h = absurd (none≢some (sym h))

nothing_there : {A : Type 0} (o : Option A) (at : ℕ) → place_where_there o at ≡ None → o ≡ None
nothing_there None at h = refl
nothing_there (Some x) at h = absurd (none≢some (sym h))

map_nothing : (o : Option ℕ) → option_map suc o ≡ None → o ≡ None
map_nothing None h = refl
map_nothing (Some x) h = absurd (none≢some (sym h))

abbrev words : List NameAt → List Bytes
words = map (λ (x : NameAt). x.word)

-- a name that isn't among some is none of them
other : (x w : Bytes) (front seen : List Bytes) → binders_to x (front ++ w ∷ seen) ≡ None → same_bytes w x ≡ false
other x w [] seen h = on (same_bytes w x) h where
  on : (b : Bool) → elim b as (λ z. Option ℕ) [ true ↦ Some 0 | false ↦ option_map suc (binders_to x seen) ] ≡ None → b ≡ false
  on false h = refl
  on true h = absurd (none≢some (sym h))
other x w (y ∷ front) seen h = other x w front seen (on (same_bytes y x) h) where
  on : (b : Bool) → elim b as (λ z. Option ℕ) [ true ↦ Some 0 | false ↦ option_map suc (binders_to x (front ++ w ∷ seen)) ] ≡ None → binders_to x (front ++ w ∷ seen) ≡ None
  on false h = map_nothing (binders_to x (front ++ w ∷ seen)) h
  on true h = absurd (none≢some (sym h))

unseen : (w : Bytes) (front seen : List Bytes) (xs : List NameAt) → repeated_name (front ++ w ∷ seen) xs ≡ None → list_any (same_bytes w) (words xs) ≡ false
unseen w front seen [] h = refl
unseen w front seen (x ∷ xs) h =
    let r = least_none (place_where_there (binders_to x.word (front ++ w ∷ seen)) x.at) _ h in
    ap₂ (λ a b. a || b) (other x.word w front seen (nothing_there (binders_to x.word (front ++ w ∷ seen)) x.at r.0)) (unseen w (x.word ∷ front) seen xs r.1)

pub distinct_names : (seen : List Bytes) (xs : List NameAt) → repeated_name seen xs ≡ None → are_distinct (words xs) ≡ true
distinct_names seen [] h = refl
distinct_names seen (x ∷ xs) h =
    let r = least_none (place_where_there (binders_to x.word seen) x.at) _ h in
    and_true (ap not (unseen x.word [] seen xs r.1)) (distinct_names (x.word ∷ seen) xs r.1)

-- the names of what a signature, a struct and a likespec give
spec_type_words : (S : NameScope) (specs : List SpecTree) → map (λ (t : Sig_type). t.name) (each_in after_spec spec_type S specs) ≡ words (flat_map spec_type_name specs)
spec_type_words S [] = refl
spec_type_words S (AbstractSpec name ∷ specs) = ap (λ l. name.word ∷ l) (spec_type_words (after_spec S (AbstractSpec name)) specs)
spec_type_words S (ManifestSpec a ∷ specs) = ap (λ l. a.name.word ∷ l) (spec_type_words (after_spec S (ManifestSpec a)) specs)
spec_type_words S (ValSpec name ty ∷ specs) = spec_type_words (after_spec S (ValSpec name ty)) specs

spec_value_words : (S : NameScope) (specs : List SpecTree) → map (λ (t : Typed_name). t.name) (each_in after_spec spec_value S specs) ≡ words (flat_map spec_value_name specs)
spec_value_words S [] = refl
spec_value_words S (AbstractSpec name ∷ specs) = spec_value_words (after_spec S (AbstractSpec name)) specs
spec_value_words S (ManifestSpec a ∷ specs) = spec_value_words (after_spec S (ManifestSpec a)) specs
spec_value_words S (ValSpec name ty ∷ specs) = ap (λ l. name.word ∷ l) (spec_value_words (after_spec S (ValSpec name ty)) specs)

item_type_words : (S : NameScope) (fields : List FieldTree) → map (λ (t : Typed_name). t.name) (each_in after_field item_type S fields) ≡ words (flat_map field_type_name fields)
item_type_words S [] = refl
item_type_words S (AbbrevField a ∷ fields) = ap (λ l. a.name.word ∷ l) (item_type_words (after_field S (AbbrevField a)) fields)
item_type_words S (ValField name ty body ∷ fields) = item_type_words (after_field S (ValField name ty body)) fields

item_field_words : (S : NameScope) (fields : List FieldTree) → map (λ (f : Field). f.name) (each_in after_field item_field S fields) ≡ words (flat_map field_value_name fields)
item_field_words S [] = refl
item_field_words S (AbbrevField a ∷ fields) = item_field_words (after_field S (AbbrevField a)) fields
item_field_words S (ValField name ty body ∷ fields) = ap (λ l. name.word ∷ l) (item_field_words (after_field S (ValField name ty body)) fields)

like_words : (S : NameScope) (like : List AbbrevTree) → map (λ (t : Typed_name). t.name) (each_in after_abbrev abbrev_type S like) ≡ words (map (λ (a : AbbrevTree). a.name) like)
like_words S [] = refl
like_words S (a ∷ like) = ap (λ l. a.name.word ∷ l) (like_words (after_abbrev S a) like)

-- so they are distinct
sig_distinct : (S : NameScope) (σ : SigTree) → repeated_in_sig σ ≡ None → is_distinct_sig (signature_in S σ) ≡ true
sig_distinct S σ h =
    let r = least_none (twice spec_type_name σ.specs) _ h in
    and_true (ap are_distinct (spec_type_words S σ.specs) ∙ distinct_names [] (flat_map spec_type_name σ.specs) r.0)
    (ap are_distinct (spec_value_words S σ.specs) ∙ distinct_names [] (flat_map spec_value_name σ.specs) r.1)

lists_distinct : (S : NameScope) (d : DefTree) → repeated_in_lists d ≡ None → has_distinct_names (def_in S d) ≡ true
lists_distinct S (ModuleDef at name σ version fields) h =
    let a = least_none (standard_name name) _ h in
    let b = least_none (repeated_in_sig σ) _ a.1 in
    let c = least_none (twice field_type_name fields) _ b.1 in
    and_true
    (and_true (sig_distinct S σ b.0) (ap are_distinct (item_type_words S fields) ∙ distinct_names [] (flat_map field_type_name fields) c.0))
    (ap are_distinct (item_field_words S fields) ∙ distinct_names [] (flat_map field_value_name fields) c.1)
lists_distinct S (ImportDef at name σ wants like by) h =
    let a = least_none (standard_name name) _ h in
    let b = least_none (repeated_in_sig σ) _ a.1 in
    and_true (sig_distinct S σ b.0) (ap are_distinct (like_words S (unwrap_or like [])) ∙ distinct_names [] (map (λ (x : AbbrevTree). x.name) (unwrap_or like [])) b.1)
lists_distinct S (MarkDef at text_at text) h = refl

pub def_distinct : (S : NameScope) (d : DefTree) → repeated_in_def S d ≡ None → has_distinct_names (def_in S d) ≡ true
def_distinct S d h = lists_distinct S d (least_none (repeated_in_lists d) _ h).0
