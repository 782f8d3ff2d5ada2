-- What is wrong with definitions by what is known is what is wrong with them in the scope.
use Rattle.std.proofs.Common.{◌≡◌, ◌∙◌, ap, refl, sym, suc, ℕ, Bool, true, false, List, [], ◌∷◌, map, length, Option, Some, None}
use Rattle.std.specs.Prelude.{is_some, flat_map, if◌then◌else◌, unwrap_or}
use Rattle.ac_types.specs.Limits.{most_items}
use Rattle.ac_types.specs.Types.{Bytes, same_bytes}
use Rattle.ac_syntax.specs.Trees.{Tree, AbbrevTree, FieldTree, AbbrevField, ValField, WantsTree, WantsVersion, WantsName, DefTree, ModuleDef, ImportDef, MarkDef}
use Rattle.ac_resolve_scopes.specs.Scopes.{NameScope, own_number, definition, each_in}
use Rattle.ac_resolve_scopes.specs.Definitions.{after_abbrev, after_field, item_type, item_field, def_in}
use Rattle.ac_resolve_scopes.specs.Searches.{least, least_in, found_in_abbrev, found_in_field}
use Rattle.ac_resolve_scopes.specs.Unbound.{unless, unbound, unbound_wants, unbound_in_def}
use Rattle.ac_resolve_scopes.specs.Repeated.{repeated, repeated_in_def, repeated_in_sig, repeated_in_like, repeated_in_lists, standard_name, spec_type_name, spec_value_name, field_type_name, field_value_name}
use Rattle.ac_resolve_scopes.specs.Counts.{over, many_in_sig, many_in_struct, many_atoms, large, large_in_def}
use Rattle.ac_resolve_signatures.specs.declared.flaws.Flaws.{Flaws}
use Rattle.ac_resolve_signatures.specs.Joined.{missing, counts, flaws_joined}
use Rattle.ac_resolve_signatures.specs.KnownScopes.{KnownScope, Members, known_outside, updated}
use Rattle.ac_resolve_signatures.specs.NameFlaws.{place_unless, name_flaws}
use Rattle.ac_resolve_faults.specs.inner.ExprFlaws.{flaws}
use Rattle.ac_resolve_signatures.specs.SigFlaws.{past_abbrev, past_spec, abbrev_flaws, spec_flaws, flaws_in, list_flaws}
use Rattle.ac_resolve_faults.specs.inner.DefFlaws.{past_field, field_flaws, abbrev_name, wants_flaws, demand_flaws, def_flaws, past_def}
use Rattle.ac_resolve_signatures.specs.EntriesInFront.{past_entry}
use Rattle.ac_resolve_signatures.proofs.Leasts.{least-none, least-comm, least-assoc, three, same, joined-assoc, joined_across, both_joined}
use Rattle.ac_resolve_signatures.proofs.Knowing.{Knows, KnowsOuter, AtStart, known_at_start, outer-is}
use Rattle.ac_resolve_signatures.proofs.TypesAre.{type_flaws-are}
use Rattle.ac_resolve_faults.proofs.ExprsAre.{faults, with_names, flaws-are}
use Rattle.ac_resolve_signatures.proofs.SigsAre.{knows_abbrev, over_both, spec_members-is, sig_counts, specs-are}

-- one more field
field_more : (b k : Bool) (n : ℕ) (o : Option ℕ) → k ≡ is_some o → (if b then true else k) ≡ is_some (elim b [ true ↦ Some n | false ↦ o ])
field_more true k n o q = refl
field_more false k n o q = q

module _ (K : KnownScope) (S : NameScope) (k : Knows K S) where
  knows_field : (x : FieldTree) → Knows (past_field K x) (after_field S x)
  knows_field (AbbrevField a) = knows_abbrev K S k a
  knows_field (ValField name ty body) = record {
    outer = k.outer;
    types = k.types;
    fields = λ x. field_more (same_bytes name.word x) (K.fields x) (length S.fields) (own_number x S.fields) (k.fields x);
  }

  -- what is wrong with it
  pub body-is : S.variables ≡ [] → (e : Tree) → flaws K [] e ≡ faults S e
  body-is h e = flaws-are K S k [] e ∙ ap (λ names. faults (with_names S names) e) (sym h)

  field-is : S.variables ≡ [] → (x : FieldTree) → field_flaws K x ≡ three (found_in_field unbound S x) (found_in_field repeated S x) (found_in_field large S x)
  field-is h (AbbrevField a) = type_flaws-are K S k a.ty
  field-is h (ValField name ty body) = both_joined _ _ _ _ (type_flaws-are K S k ty) (body-is h body)

no_variables : (S : NameScope) (x : FieldTree) → S.variables ≡ [] → (after_field S x).variables ≡ []
no_variables S (AbbrevField a) h = h
no_variables S (ValField name ty body) h = h

-- of items that stand one behind another
fields-are : (K : KnownScope) (S : NameScope) (xs : List FieldTree) → S.variables ≡ [] → Knows K S → flaws_in past_field field_flaws K xs ≡ three (least_in after_field (found_in_field unbound) S xs) (least_in after_field (found_in_field repeated) S xs) (least_in after_field (found_in_field large) S xs)
fields-are K S [] h k = refl
fields-are K S (x ∷ xs) h k = both_joined _ _ _ _ (field-is K S k h x) (fields-are (past_field K x) (after_field S x) xs (no_variables S x h) (knows_field K S k x))

like-are : (K : KnownScope) (S : NameScope) (xs : List AbbrevTree) → Knows K S → flaws_in past_abbrev abbrev_flaws K xs ≡ three (least_in after_abbrev (found_in_abbrev unbound) S xs) (least_in after_abbrev (found_in_abbrev repeated) S xs) (least_in after_abbrev (found_in_abbrev large) S xs)
like-are K S [] k = refl
like-are K S (x ∷ xs) k = both_joined _ _ _ _ (type_flaws-are K S k x.ty) (like-are (past_abbrev K x) (after_abbrev S x) xs (knows_abbrev K S k x))

-- what is called by a name behind a definition
pub past_def-is : (outer : Bytes → Option Members) (S : NameScope) (d : DefTree) → Knows (known_outside outer) S → past_def outer d ≡ past_entry outer (def_in S d)
past_def-is outer S (ModuleDef at name σ version fields) k = ap (λ b. updated name.word b outer) (spec_members-is (known_outside outer) S σ k)
past_def-is outer S (ImportDef at name σ wants like by) k = ap (λ b. updated name.word b outer) (spec_members-is (known_outside outer) S σ k)
past_def-is outer S (MarkDef at text_at text) k = refl

-- how many types and values of a struct, and types of a likespec
field_types-length : (S : NameScope) (xs : List FieldTree) → length (flat_map field_type_name xs) ≡ length (each_in after_field item_type S xs)
field_types-length S [] = refl
field_types-length S (AbbrevField a ∷ xs) = ap suc (field_types-length (after_field S (AbbrevField a)) xs)
field_types-length S (ValField name ty body ∷ xs) = field_types-length (after_field S (ValField name ty body)) xs

field_values-length : (S : NameScope) (xs : List FieldTree) → length (flat_map field_value_name xs) ≡ length (each_in after_field item_field S xs)
field_values-length S [] = refl
field_values-length S (AbbrevField a ∷ xs) = field_values-length (after_field S (AbbrevField a)) xs
field_values-length S (ValField name ty body ∷ xs) = ap suc (field_values-length (after_field S (ValField name ty body)) xs)

like-length : (xs : List AbbrevTree) → length (map abbrev_name xs) ≡ length xs
like-length [] = refl
like-length (x ∷ xs) = ap suc (like-length xs)

struct_counts : (S : NameScope) (xs : List FieldTree) → least (over most_items (length (flat_map field_type_name xs))) (over most_items (length (flat_map field_value_name xs))) ≡ many_in_struct S xs
struct_counts S xs = over_both _ _ _ _ (field_types-length S xs) (field_values-length S xs)

-- two lists, each with what is walked through, behind what is wrong with the name
regrouped : (n a v b w : Flaws) → flaws_joined n (flaws_joined (flaws_joined a v) (flaws_joined b w)) ≡ flaws_joined (flaws_joined n (flaws_joined a b)) (flaws_joined v w)
regrouped n a v b w = ap (flaws_joined n) (joined_across a v b w) ∙ sym (joined-assoc n (flaws_joined a b) (flaws_joined v w))

wants-is : (outer : Bytes → Option Members) (S : NameScope) (w : WantsTree) → KnowsOuter outer S → wants_flaws outer w ≡ missing (unbound_wants S w)
wants-is outer S (WantsVersion constraint) k = refl
wants-is outer S (WantsName name) k = ap (λ b. missing (place_unless b name.at)) (outer-is outer S k name.word) ∙ ap missing (there (definition S name.word)) where
  there : (o : Option ℕ) → place_unless (is_some o) name.at ≡ unless o name.at
  there None = refl
  there (Some i) = refl

-- the demand and the lists of an import
import_lists : (std rs rl o ms ml a : Option ℕ) → flaws_joined (flaws_joined (three None std None) (flaws_joined (missing o) (counts a))) (flaws_joined (three None rs ms) (three None rl ml)) ≡ three o (least std (least rs rl)) (least ms (least ml a))
import_lists std rs rl o ms ml a =
    same _ _ _ _ _ _ (least-none (least o None) ∙ least-none o) (ap (λ p. least p (least rs rl)) (least-none std)) (least-comm a (least ms ml) ∙ least-assoc ms ml a)

module _ (outer : Bytes → Option Members) (S : NameScope) (k : KnowsOuter outer S) (s : AtStart S) where
  begun : Knows (known_outside outer) S
  begun = known_at_start outer S k s

  pub def-is : (d : DefTree) → def_flaws outer d ≡ three (unbound_in_def S d) (repeated_in_def S d) (large_in_def S d)
  def-is (ModuleDef at name σ version fields) =
      regrouped (name_flaws name) (flaws_joined (list_flaws (flat_map spec_type_name σ.specs)) (list_flaws (flat_map spec_value_name σ.specs))) (flaws_in past_spec spec_flaws (known_outside outer) σ.specs)
      (flaws_joined (list_flaws (flat_map field_type_name fields)) (list_flaws (flat_map field_value_name fields))) (flaws_in past_field field_flaws (known_outside outer) fields)
      ∙ both_joined _ _ _ _
      (ap (λ c. three None (repeated_in_lists (ModuleDef at name σ version fields)) (least c (least (over most_items (length (flat_map field_type_name fields))) (over most_items (length (flat_map field_value_name fields)))))) (sig_counts S σ)
      ∙ ap (λ c. three None (repeated_in_lists (ModuleDef at name σ version fields)) (least (many_in_sig S σ) c)) (struct_counts S fields))
      (both_joined _ _ _ _ (specs-are (known_outside outer) S σ.specs begun) (fields-are (known_outside outer) S fields s.variables begun))
  def-is (ImportDef at name σ wants like by) =
      let xs = unwrap_or like [] in
      let lists = flaws_joined (list_flaws (flat_map spec_type_name σ.specs)) (list_flaws (flat_map spec_value_name σ.specs)) in
      regrouped (demand_flaws outer name wants by) lists (flaws_in past_spec spec_flaws (known_outside outer) σ.specs) (list_flaws (map abbrev_name xs)) (flaws_in past_abbrev abbrev_flaws (known_outside outer) xs)
      ∙ both_joined _ _ _ _
      (ap (λ w. flaws_joined (flaws_joined (name_flaws name) (flaws_joined w (counts (many_atoms by)))) (flaws_joined lists (list_flaws (map abbrev_name xs)))) (wants-is outer S wants k)
      ∙ import_lists (standard_name name) (repeated_in_sig σ) (repeated_in_like xs) (unbound_wants S wants) (least (over most_items (length (flat_map spec_type_name σ.specs))) (over most_items (length (flat_map spec_value_name σ.specs)))) (over most_items (length (map abbrev_name xs))) (many_atoms by)
      ∙ ap (λ c. three (unbound_wants S wants) (least (standard_name name) (least (repeated_in_sig σ) (repeated_in_like xs))) (least c (least (over most_items (length (map abbrev_name xs))) (many_atoms by)))) (sig_counts S σ)
      ∙ ap (λ n. three (unbound_wants S wants) (least (standard_name name) (least (repeated_in_sig σ) (repeated_in_like xs))) (least (many_in_sig S σ) (least (over most_items n) (many_atoms by)))) (like-length xs))
      (both_joined _ _ _ _ (specs-are (known_outside outer) S σ.specs begun) (like-are (known_outside outer) S xs begun))
  def-is (MarkDef at text_at text) = refl
