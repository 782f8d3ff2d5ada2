-- The types of a definition are small, where no count passes its limit and its fields are typed.
use Rattle.std.proofs.Common.{◌≡◌, refl, ℕ, suc, true, false, List, [], ◌∷◌, ◌++◌, map, None}
use Rattle.std.specs.Prelude.{◌&&◌, flat_map, option_to_list, unwrap_or}
use Rattle.std.specs.List.{list_all}
use Rattle.ac_types.proofs.Same.{both_true, and_true}
use Rattle.ac_types.specs.Types.{Typ, is_small}
use Rattle.ac_types.specs.Sigs.{Typed_name, Sig_type}
use Rattle.ac_terms.specs.Terms.{In}
use Rattle.ac_terms.specs.Defs.{Environment, Field}
use Rattle.ac_terms.specs.Parts.{OfType, sig_types, def_parts, term_parts}
use Rattle.ac_terms.specs.Bounds.{has_small_types}
use Rattle.ac_terms.proofs.AllLaws.{all_append}
use Rattle.ac_rules.specs.Views.{Coloured, view}
use Rattle.ac_rules.specs.Typing.{of_field, type_of}
use Rattle.ac_rules.specs.Modules.{is_valuable, is_typed, are_typed, has_sound_fields}
use Rattle.ac_rules.proofs.Rules.{has_some}
use Rattle.ac_syntax.specs.Trees.{AbbrevTree, SpecTree, AbstractSpec, ManifestSpec, ValSpec, SigTree, FieldTree, AbbrevField, ValField, DefTree, ModuleDef, ImportDef, MarkDef}
use Rattle.ac_resolve_scopes.specs.Scopes.{NameScope, each_in}
use Rattle.ac_resolve_scopes.specs.Written.{type_in, term_in}
use Rattle.ac_resolve_scopes.specs.Definitions.{after_abbrev, after_spec, after_field, spec_type, spec_value, signature_in, abbrev_type, item_type, item_field, def_in}
use Rattle.ac_resolve_scopes.specs.Searches.{least, least_in, found, found_in_abbrev, found_in_spec, found_in_field, found_in_sig}
use Rattle.ac_resolve_scopes.specs.Counts.{large_type, large, many_in_lists, large_in_def}
use Rattle.ac_load_rules.proofs.Distinct.{least_none}
use Rattle.ac_load_rules.proofs.SmallTerms.{Small, is_small_part, parts_small, written_small, tree_small}

types_small : (Ts : List Typ) → list_all is_small Ts ≡ true → Small (map OfType Ts)
types_small [] h = refl
types_small (T ∷ Ts) h = let r = both_true (is_small T) _ h in and_true r.0 (types_small Ts r.1)

typed_small : (xs : List Typed_name) → list_all (λ (x : Typed_name). is_small x.ty) xs ≡ true → Small (map (λ (x : Typed_name). OfType x.ty) xs)
typed_small [] h = refl
typed_small (x ∷ xs) h = let r = both_true (is_small x.ty) _ h in and_true r.0 (typed_small xs r.1)

vals_small : (xs : List Typed_name) → list_all (λ (x : Typed_name). is_small x.ty) xs ≡ true → list_all is_small (map (λ (x : Typed_name). x.ty) xs) ≡ true
vals_small [] h = refl
vals_small (x ∷ xs) h = let r = both_true (is_small x.ty) _ h in and_true r.0 (vals_small xs r.1)

-- a signature
record AreSmallSpecs (S : NameScope) (specs : List SpecTree) : Type 0 where
  types : list_all is_small (flat_map (λ (t : Sig_type). option_to_list t.manifest) (each_in after_spec spec_type S specs)) ≡ true
  vals : list_all (λ (v : Typed_name). is_small v.ty) (each_in after_spec spec_value S specs) ≡ true

specs_small : (S : NameScope) (specs : List SpecTree) → least_in after_spec (found_in_spec large) S specs ≡ None → AreSmallSpecs S specs
specs_small S [] n = record { types = refl; vals = refl }
specs_small S (AbstractSpec name ∷ specs) n =
    let y = specs_small (after_spec S (AbstractSpec name)) specs (least_none None _ n).1 in
    record { types = y.types; vals = y.vals }
specs_small S (ManifestSpec a ∷ specs) n =
    let w = least_none (large_type S a.ty) _ n in
    let y = specs_small (after_spec S (ManifestSpec a)) specs w.1 in
    record { types = and_true (written_small S a.ty w.0) y.types; vals = y.vals }
specs_small S (ValSpec name ty ∷ specs) n =
    let w = least_none (large_type S ty) _ n in
    let y = specs_small (after_spec S (ValSpec name ty)) specs w.1 in
    record { types = y.types; vals = and_true (written_small S ty w.0) y.vals }

sig_small : (S : NameScope) (σ : SigTree) → found_in_sig large S σ ≡ None → Small (map OfType (sig_types (signature_in S σ)))
sig_small S σ n =
    let x = specs_small S σ.specs n in
    let g = signature_in S σ in
    types_small (sig_types g) (all_append is_small (flat_map (λ (t : Sig_type). option_to_list t.manifest) g.types) (map (λ (v : Typed_name). v.ty) g.vals) x.types (vals_small g.vals x.vals))

-- a likespec
like_small : (S : NameScope) (like : List AbbrevTree) → least_in after_abbrev (found_in_abbrev large) S like ≡ None → list_all (λ (x : Typed_name). is_small x.ty) (each_in after_abbrev abbrev_type S like) ≡ true
like_small S [] n = refl
like_small S (a ∷ like) n = let w = least_none (large_type S a.ty) _ n in and_true (written_small S a.ty w.0) (like_small (after_abbrev S a) like w.1)

-- a struct, whose fields are typed
record AreSmallFields (S : NameScope) (fields : List FieldTree) : Type 0 where
  types : list_all (λ (x : Typed_name). is_small x.ty) (each_in after_field item_type S fields) ≡ true
  terms : Small (flat_map (λ (f : Field). OfType f.ty ∷ term_parts f.term) (each_in after_field item_field S fields))

module _ (F : Environment) (i : ℕ) where
  fields_small : (S : NameScope) (fields : List FieldTree) (g : ℕ) → least_in after_field (found_in_field large) S fields ≡ None → are_typed F i g (each_in after_field item_field S fields) ≡ true → AreSmallFields S fields
  fields_small S [] g n h = record { types = refl; terms = refl }
  fields_small S (AbbrevField a ∷ fields) g n h =
      let w = least_none (large_type S a.ty) _ n in
      let y = fields_small (after_field S (AbbrevField a)) fields g w.1 h in
      record { types = and_true (written_small S a.ty w.0) y.types; terms = y.terms }
  fields_small S (ValField name ty body ∷ fields) g n h =
      let w = least_none (least (large_type S ty) (found large S body)) _ n in
      let v = least_none (large_type S ty) (found large S body) w.0 in
      let field : Field = record { name = name.word; ty = type_in S ty; term = term_in S body } in
      let r = both_true (is_typed F i g field) _ h in
      let T = view Coloured F (In i) (type_in S ty) in
      let typed = has_some (type_of Coloured false F (of_field i g) (term_in S body)) T r.0 in
      let y = fields_small (after_field S (ValField name ty body)) fields (suc g) w.1 r.1 in
      record { types = y.types; terms = and_true (written_small S ty v.0) (all_append is_small_part (term_parts (term_in S body)) _ (tree_small F S body v.1 (of_field i g) T typed) y.terms) }

  pub def_small : (S : NameScope) (d : DefTree) → large_in_def S d ≡ None → has_sound_fields F i (def_in S d) ≡ true → has_small_types (def_parts (def_in S d)) ≡ true
  def_small S (ModuleDef at name σ version fields) l h =
      let w = least_none (found_in_sig large S σ) _ (least_none (many_in_lists S (ModuleDef at name σ version fields)) _ l).1 in
      let fs = each_in after_field item_field S fields in
      let r = both_true (list_all (λ (f : Field). is_valuable f.term) fs && are_typed F i 0 fs) _ h in
      let q = both_true (list_all (λ (f : Field). is_valuable f.term) fs) (are_typed F i 0 fs) r.0 in
      let y = fields_small S fields 0 w.1 q.1 in
      let types = each_in after_field item_type S fields in
      let sigs = map OfType (sig_types (signature_in S σ)) in
      let typed = map (λ (t : Typed_name). OfType t.ty) types in
      let terms = flat_map (λ (f : Field). OfType f.ty ∷ term_parts f.term) fs in
      parts_small (sigs ++ typed ++ terms) (all_append is_small_part (sigs ++ typed) terms (all_append is_small_part sigs typed (sig_small S σ w.0) (typed_small types y.types)) y.terms)
  def_small S (ImportDef at name σ wants like by) l h =
      let w = least_none (found_in_sig large S σ) _ (least_none (many_in_lists S (ImportDef at name σ wants like by)) _ l).1 in
      let likes = each_in after_abbrev abbrev_type S (unwrap_or like []) in
      let sigs = map OfType (sig_types (signature_in S σ)) in
      let typed = map (λ (t : Typed_name). OfType t.ty) likes in
      parts_small (sigs ++ typed) (all_append is_small_part sigs typed (sig_small S σ w.0) (typed_small likes (like_small S (unwrap_or like []) w.1)))
  def_small S (MarkDef at text_at text) l h = refl
