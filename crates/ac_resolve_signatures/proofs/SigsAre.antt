-- What is wrong with signatures by what is known is what is wrong with them in the scope, and they show the same.
use Rattle.std.proofs.Common.{◌≡◌, ◌∙◌, ap, refl, suc, ℕ, Bool, true, false, List, [], ◌∷◌, length, Option, Some, None}
use Rattle.std.specs.Prelude.{is_some, ◌||◌, flat_map, option_map, if◌then◌else◌}
use Rattle.std.specs.List.{list_any}
use Rattle.ac_types.specs.Limits.{most_items}
use Rattle.ac_types.specs.Types.{Bytes, Typ, TMine, same_bytes}
use Rattle.ac_types.specs.Sigs.{named_type, type_under}
use Rattle.ac_syntax.specs.Trees.{NameAt, AbbrevTree, SpecTree, AbstractSpec, ManifestSpec, ValSpec, SigTree}
use Rattle.ac_resolve_scopes.specs.Standard.{beside_name}
use Rattle.ac_resolve_scopes.specs.Scopes.{NameScope, binders_to, plain_type, scope_with, each_in}
use Rattle.ac_resolve_scopes.specs.Written.{type_in}
use Rattle.ac_resolve_scopes.specs.Definitions.{after_abbrev, after_spec, spec_type, spec_value, signature_in}
use Rattle.ac_resolve_scopes.specs.Searches.{least, least_in, found_in_spec}
use Rattle.ac_resolve_scopes.specs.Unbound.{unbound}
use Rattle.ac_resolve_scopes.specs.Repeated.{repeated, spec_type_name, spec_value_name}
use Rattle.ac_resolve_scopes.specs.Counts.{over, many_in_sig, large}
use Rattle.ac_resolve_signatures.specs.declared.size.Size.{Size}
use Rattle.ac_resolve_signatures.specs.declared.types.Measured.{Measured}
use Rattle.ac_resolve_signatures.specs.KnownScopes.{KnownScope, size_of, size_of_leaf}
use Rattle.ac_resolve_signatures.specs.SigFlaws.{size_in, past_abbrev, past_spec, spec_flaws, flaws_in, spec_sizes, is_listed, spec_members}
use Rattle.ac_resolve_signatures.specs.EntriesInFront.{size_of_manifest, signature_members}
use Rattle.ac_resolve_signatures.proofs.Leasts.{three, both_joined}
use Rattle.ac_resolve_signatures.proofs.Sizes.{leaf-cut}
use Rattle.ac_resolve_signatures.proofs.Lookups.{members_as}
use Rattle.ac_resolve_signatures.proofs.Knowing.{Knows}
use Rattle.ac_resolve_signatures.proofs.TypesAre.{measured-is, type_flaws-are}

-- one more type
type_more : (b : Bool) (T : Typ) (s : Size) (k : Option Size) (o : Option Typ) → s ≡ size_of T → k ≡ option_map size_of o → (if b then Some s else k) ≡ option_map size_of (elim b [ true ↦ Some T | false ↦ o ])
type_more true T s k o p q = ap Some p
type_more false T s k o p q = q

module _ (K : KnownScope) (S : NameScope) (k : Knows K S) where
  pub knows_abbrev : (a : AbbrevTree) → Knows (past_abbrev K a) (after_abbrev S a)
  knows_abbrev a = record {
    outer = k.outer;
    types = λ t. type_more (same_bytes a.name.word t) (type_in S a.ty) (size_in K a.ty) (K.types t) (plain_type S t) (ap (λ (m : Measured). m.size) (measured-is K S k a.ty)) (k.types t);
    fields = k.fields;
  }

  knows_spec : (x : SpecTree) → Knows (past_spec K x) (after_spec S x)
  knows_spec (AbstractSpec name) = record {
    outer = k.outer;
    types = λ t. type_more (same_bytes name.word t) (TMine name.word) size_of_leaf (K.types t) (plain_type S t) leaf-cut (k.types t);
    fields = k.fields;
  }
  knows_spec (ManifestSpec a) = knows_abbrev a
  knows_spec (ValSpec name ty) = k

  -- what is wrong with each
  spec-is : (x : SpecTree) → spec_flaws K x ≡ three (found_in_spec unbound S x) (found_in_spec repeated S x) (found_in_spec large S x)
  spec-is (AbstractSpec name) = refl
  spec-is (ManifestSpec a) = type_flaws-are K S k a.ty
  spec-is (ValSpec name ty) = type_flaws-are K S k ty

-- of specs that stand one behind another
pub specs-are : (K : KnownScope) (S : NameScope) (xs : List SpecTree) → Knows K S → flaws_in past_spec spec_flaws K xs ≡ three (least_in after_spec (found_in_spec unbound) S xs) (least_in after_spec (found_in_spec repeated) S xs) (least_in after_spec (found_in_spec large) S xs)
specs-are K S [] k = refl
specs-are K S (x ∷ xs) k = both_joined _ _ _ _ (spec-is K S k x) (specs-are (past_spec K x) (after_spec S x) xs (knows_spec K S k x))

-- the types that a signature shows
size_more : (b : Bool) (s : Size) (m : Option Typ) (k : Option Size) (o : Option (Option Typ)) → s ≡ size_of_manifest m → k ≡ option_map size_of_manifest o
    → elim b [ true ↦ Some s | false ↦ k ] ≡ option_map size_of_manifest (elim b [ true ↦ Some m | false ↦ o ])
size_more true s m k o p q = ap Some p
size_more false s m k o p q = q

abbrev sizes_left : Bytes → KnownScope → List SpecTree → Option Size
sizes_left t K xs = beside_name t (spec_sizes K xs)

abbrev types_left : Bytes → NameScope → List SpecTree → Option (Option Typ)
types_left t S xs = type_under t (each_in after_spec spec_type S xs)

shown_types : (K : KnownScope) (S : NameScope) (xs : List SpecTree) → Knows K S → (t : Bytes) → beside_name t (spec_sizes K xs) ≡ option_map size_of_manifest (type_under t (each_in after_spec spec_type S xs))
shown_types K S [] k t = refl
shown_types K S (AbstractSpec name ∷ xs) k t =
    size_more (same_bytes name.word t) size_of_leaf None (sizes_left t (past_spec K (AbstractSpec name)) xs) (types_left t (after_spec S (AbstractSpec name)) xs) refl (shown_types (past_spec K (AbstractSpec name)) (after_spec S (AbstractSpec name)) xs (knows_spec K S k (AbstractSpec name)) t)
shown_types K S (ManifestSpec a ∷ xs) k t =
    size_more (same_bytes a.name.word t) (size_in K a.ty) (Some (type_in S a.ty)) (sizes_left t (past_abbrev K a) xs) (types_left t (after_abbrev S a) xs) (ap (λ (m : Measured). m.size) (measured-is K S k a.ty)) (shown_types (past_abbrev K a) (after_abbrev S a) xs (knows_abbrev K S k a) t)
shown_types K S (ValSpec name ty ∷ xs) k t = shown_types K S xs k t

-- and the values
abbrev among : List NameAt → Bytes → Bool
among names x = list_any (λ (n : NameAt). same_bytes n.word x) names

-- a name among some, or among those around
pub any_first : (b c : Bool) (o : Option ℕ) → (c || is_some (elim b [ true ↦ Some 0 | false ↦ option_map suc o ])) ≡ ((b || c) || is_some o)
any_first true true o = refl
any_first true false o = refl
any_first false true o = refl
any_first false false None = refl
any_first false false (Some i) = refl

listed_among : (x : Bytes) (names : List NameAt) (outer : List Bytes) → is_some (binders_to x (scope_with names outer)) ≡ (among names x || is_some (binders_to x outer))
listed_among x [] outer = refl
listed_among x (n ∷ names) outer = listed_among x names (n.word ∷ outer) ∙ any_first (same_bytes n.word x) (among names x) (binders_to x outer)

or_false : (b : Bool) → (b || false) ≡ b
or_false true = refl
or_false false = refl

value_more : (b k : Bool) (T : Typ) (o : Option Typ) → k ≡ is_some o → (b || k) ≡ is_some (elim b [ true ↦ Some T | false ↦ o ])
value_more true k T o q = refl
value_more false k T o q = q

among_values : (S : NameScope) (xs : List SpecTree) (x : Bytes) → among (flat_map spec_value_name xs) x ≡ is_some (named_type x (each_in after_spec spec_value S xs))
among_values S [] x = refl
among_values S (AbstractSpec name ∷ xs) x = among_values (after_spec S (AbstractSpec name)) xs x
among_values S (ManifestSpec a ∷ xs) x = among_values (after_spec S (ManifestSpec a)) xs x
among_values S (ValSpec name ty ∷ xs) x = value_more (same_bytes name.word x) (among (flat_map spec_value_name xs) x) (type_in S ty) (named_type x (each_in after_spec spec_value S xs)) (among_values S xs x)

shown_values : (S : NameScope) (xs : List SpecTree) (x : Bytes) → is_listed (flat_map spec_value_name xs) x ≡ is_some (named_type x (each_in after_spec spec_value S xs))
shown_values S xs x = listed_among x (flat_map spec_value_name xs) [] ∙ or_false (among (flat_map spec_value_name xs) x) ∙ among_values S xs x

pub spec_members-is : (K : KnownScope) (S : NameScope) (σ : SigTree) → Knows K S → spec_members K σ.specs ≡ signature_members (signature_in S σ)
spec_members-is K S σ k = members_as (spec_members K σ.specs) (signature_members (signature_in S σ)) (shown_types K S σ.specs k) (shown_values S σ.specs)

-- how many types and values
type_names-length : (S : NameScope) (xs : List SpecTree) → length (flat_map spec_type_name xs) ≡ length (each_in after_spec spec_type S xs)
type_names-length S [] = refl
type_names-length S (AbstractSpec name ∷ xs) = ap suc (type_names-length (after_spec S (AbstractSpec name)) xs)
type_names-length S (ManifestSpec a ∷ xs) = ap suc (type_names-length (after_spec S (ManifestSpec a)) xs)
type_names-length S (ValSpec name ty ∷ xs) = type_names-length S xs

value_names-length : (S : NameScope) (xs : List SpecTree) → length (flat_map spec_value_name xs) ≡ length (each_in after_spec spec_value S xs)
value_names-length S [] = refl
value_names-length S (AbstractSpec name ∷ xs) = value_names-length (after_spec S (AbstractSpec name)) xs
value_names-length S (ManifestSpec a ∷ xs) = value_names-length (after_spec S (ManifestSpec a)) xs
value_names-length S (ValSpec name ty ∷ xs) = ap suc (value_names-length S xs)

pub over_both : (a b c d : ℕ) → a ≡ c → b ≡ d → least (over most_items a) (over most_items b) ≡ least (over most_items c) (over most_items d)
over_both a b c d p q = ap (λ n. least (over most_items n) (over most_items b)) p ∙ ap (λ n. least (over most_items c) (over most_items n)) q

pub sig_counts : (S : NameScope) (σ : SigTree) → least (over most_items (length (flat_map spec_type_name σ.specs))) (over most_items (length (flat_map spec_value_name σ.specs))) ≡ many_in_sig S σ
sig_counts S σ = over_both _ _ _ _ (type_names-length S σ.specs) (value_names-length S σ.specs)
