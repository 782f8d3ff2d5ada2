-- Items that stand one behind another, gone through from the front: what is left of them behind some.
use Rattle.std.proofs.Common.{◌≡◌, ◌∙◌, ap, ap₂, sym, arith, ℕ, ◌+◌, ◌<◌, ◌≤◌, List, [], ◌++◌, map, length, drop, get_or, append_assoc, append-nil, Option, None}
use Rattle.ac_types.specs.declared.sig.SigType.{SigType}
use Rattle.ac_types.specs.declared.sig.TyField.{TyField}
use Rattle.ac_types.specs.Sigs.{Signature}
use Rattle.ac_types.specs.ReadTypes.{sig_type_of, typed_of, sig_of}
use Rattle.ac_terms.specs.declared.def.Field as code_field
use Rattle.ac_terms.specs.Defs.{Field}
use Rattle.ac_terms.specs.Read.{field_of}
use Rattle.ac_syntax.specs.declared.surface.SSpec.{SSpec}
use Rattle.ac_syntax.specs.declared.surface.SSig.{SSig}
use Rattle.ac_syntax.specs.Trees.{FieldTree, AbbrevField, ValField}
use Rattle.ac_syntax.specs.ReadTrees.{spec_of, sig_tree_of}
use Rattle.ac_resolve_scopes.specs.Definitions.{after_spec, spec_type, spec_value, signature_in, after_field, item_field}
use Rattle.std.proofs.lemmas.List.{length-append, length-map}
use Rattle.ac_resolve_scopes.specs.Scopes.{NameScope, after_all, each_in}
use Rattle.ac_resolve_scopes.specs.Searches.{least, least_in}
use Rattle.ac_types.proofs.Loops.{drop_next, drop_end}
use Rattle.ac_resolve_terms.proofs.Within.{none_left, none_right}

module _ {A B : Type 0} (read : A → B) (after : NameScope → B → NameScope) where
  -- what each gives
  pub gives_more : {C : Type 0} (gives : NameScope → B → List C) (whole old new : List C) (S T : NameScope) (i : ℕ) (xs : List A) (x : A)
      → i < length xs → x ≡ get_or xs i x → T ≡ after S (read x) → new ≡ old ++ gives S (read x) → whole ≡ old ++ each_in after gives S (map read (drop i xs)) → whole ≡ new ++ each_in after gives T (map read (drop (i + 1) xs))
  gives_more gives whole old new S T i xs x h is t n so =
      so
      ∙ ap (λ l. old ++ each_in after gives S (map read l)) (drop_next i xs x h is)
      ∙ sym (append_assoc old (gives S (read x)) (each_in after gives (after S (read x)) (map read (drop (i + 1) xs))))
      ∙ ap₂ (λ l U. l ++ each_in after gives U (map read (drop (i + 1) xs))) (sym n) (sym t)

  pub gives_none : {C D : Type 0} (gives : NameScope → B → List C) (of : D → C) (made : List D) (S T : NameScope) (xs : List A) → T ≡ S → made ≡ [] → each_in after gives S (map read xs) ≡ map of made ++ each_in after gives T (map read xs)
  gives_none gives of made S T xs t n = ap (λ U. each_in after gives U (map read xs)) (sym t) ∙ ap (λ l. map of l ++ each_in after gives T (map read xs)) (sym n)

  pub gives_all : {C : Type 0} (gives : NameScope → B → List C) (whole old : List C) (S : NameScope) (i : ℕ) (xs : List A) → i ≡ length xs → whole ≡ old ++ each_in after gives S (map read (drop i xs)) → old ≡ whole
  gives_all gives whole old S i xs e so = sym (so ∙ ap (λ l. old ++ each_in after gives S (map read l)) (drop_end i xs e) ∙ append-nil old)

  -- the scope behind all
  pub behind_more : (whole S T : NameScope) (i : ℕ) (xs : List A) (x : A)
      → i < length xs → x ≡ get_or xs i x → T ≡ after S (read x) → whole ≡ after_all after S (map read (drop i xs)) → whole ≡ after_all after T (map read (drop (i + 1) xs))
  behind_more whole S T i xs x h is t so =
      so ∙ ap (λ l. after_all after S (map read l)) (drop_next i xs x h is) ∙ ap (λ U. after_all after U (map read (drop (i + 1) xs))) (sym t)

  pub behind_all : (whole S : NameScope) (i : ℕ) (xs : List A) → i ≡ length xs → whole ≡ after_all after S (map read (drop i xs)) → S ≡ whole
  behind_all whole S i xs e so = sym (so ∙ ap (λ l. after_all after S (map read l)) (drop_end i xs e))

  -- that nothing is found
  found_next : (test : NameScope → B → Option ℕ) (S : NameScope) (i : ℕ) (xs : List A) (x : A) → i < length xs → x ≡ get_or xs i x → least_in after test S (map read (drop i xs)) ≡ None
      → least (test S (read x)) (least_in after test (after S (read x)) (map read (drop (i + 1) xs))) ≡ None
  found_next test S i xs x h is n = sym (ap (λ l. least_in after test S (map read l)) (drop_next i xs x h is)) ∙ n

  pub none_here : (test : NameScope → B → Option ℕ) (S : NameScope) (i : ℕ) (xs : List A) (x : A) → i < length xs → x ≡ get_or xs i x → least_in after test S (map read (drop i xs)) ≡ None → test S (read x) ≡ None
  none_here test S i xs x h is n = none_left (test S (read x)) _ (found_next test S i xs x h is n)

  pub none_behind : (test : NameScope → B → Option ℕ) (S T : NameScope) (i : ℕ) (xs : List A) (x : A) → i < length xs → x ≡ get_or xs i x → T ≡ after S (read x) → least_in after test S (map read (drop i xs)) ≡ None
      → least_in after test T (map read (drop (i + 1) xs)) ≡ None
  none_behind test S T i xs x h is t n = ap (λ U. least_in after test U (map read (drop (i + 1) xs))) t ∙ none_right (test S (read x)) _ (found_next test S i xs x h is n)

-- a signature of its types and its values
pub sig_made : (types : List SigType) (vals : List TyField) (specs : List SSpec) (tree : SSig) (S : NameScope) → specs ≡ tree.specs → map sig_type_of types ≡ each_in after_spec spec_type S (map spec_of specs) → map typed_of vals ≡ each_in after_spec spec_value S (map spec_of specs)
    → sig_of (record { types = types; vals = vals }) ≡ signature_in S (sig_tree_of tree)
sig_made types vals specs tree S e t v =
    ap₂ (λ ts vs. let σ : Signature = record { types = ts; vals = vs } in σ)
    (t ∙ ap (λ l. each_in after_spec spec_type S (map spec_of l)) e)
    (v ∙ ap (λ l. each_in after_spec spec_value S (map spec_of l)) e)

-- the fields in scope are those that were made
fields_counted : (S : NameScope) (x : FieldTree) → length (after_field S x).fields ≡ length S.fields + length (item_field S x)
fields_counted S (AbbrevField a) = omega arith
fields_counted S (ValField name ty body) = omega arith

pub count_more : (S T : NameScope) (x : FieldTree) (old new : List code_field.Field) → length S.fields ≡ length old → T ≡ after_field S x → map field_of new ≡ map field_of old ++ item_field S x → length T.fields ≡ length new
count_more S T x old new e t n =
    ap (λ (U : NameScope). length U.fields) t ∙ fields_counted S x ∙ ap (λ k. k + length (item_field S x)) (e ∙ sym (length-map old field_of))
    ∙ sym (length-append (map field_of old) (item_field S x)) ∙ ap length (sym n) ∙ length-map new field_of

pub few_now : (S : NameScope) (old : List code_field.Field) (whole rest : List Field) → length S.fields ≡ length old → whole ≡ map field_of old ++ rest → length whole ≤ 1024 → length S.fields < 65536
few_now S old whole rest e w h =
    let all : length whole ≡ length (map field_of old) + length rest = ap length w ∙ length-append (map field_of old) rest in
    omega (arith, all, length-map old field_of)
