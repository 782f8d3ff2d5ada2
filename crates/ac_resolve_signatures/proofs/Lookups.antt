-- Maps and sets as what is known: what one more name changes.
use Rattle.std.proofs.Common.{◌≡◌, ◌∙◌, ap, refl, sym, ℕ, ◌+◌, ◌<◌, Bool, true, false, cond, Bor, List, [], ◌∷◌, ◌++◌, map, length, drop, get_or, Option, Some, None}
use Rattle.std.specs.Prelude.{option_map, is_some, if◌then◌else◌}
use Rattle.std.specs.Ordering.{nat_cmp}
use Rattle.std.specs.Cmp.Lexicographic.{slice_cmp}
use Rattle.std.specs.Option.{option_or}
use Rattle.std.specs.BTreeMap as tree_map
use Rattle.std.specs.BTreeSet as tree_set
use Rattle.std.proofs.Math.Path.{fun_ext}
use Rattle.std.proofs.lemmas.Map.Text.{is_eq-slice_cmp, btree_map_updates_str}
use Rattle.ac_types.specs.Types.{Bytes, Typ, same_bytes}
use Rattle.ac_types.specs.Sigs.{named_type, type_under}
use Rattle.ac_types.proofs.Same.{bytes_eq}
use Rattle.ac_types.specs.declared.sig.SigType as code_type
use Rattle.ac_types.specs.declared.sig.TyField as code_value
use Rattle.ac_types.specs.ReadTypes.{typ_of, typed_of, sig_type_of}
use Rattle.ac_syntax.specs.declared.surface.SSpec.{SSpec}
use Rattle.ac_syntax.specs.ReadTrees.{spec_of}
use Rattle.ac_resolve_scopes.specs.Standard.{beside_name}
use Rattle.ac_resolve_signatures.specs.declared.size.Size.{Size}
use Rattle.ac_resolve_signatures.specs.declared.outside.Outside.{Outside}
use Rattle.ac_resolve_signatures.specs.KnownScopes.{KnownScope, Members, known_outside, updated, inserted}
use Rattle.ac_resolve_signatures.specs.SigFlaws.{past_spec, spec_size, spec_sizes}
use Rattle.ac_resolve_signatures.specs.EntriesInFront.{size_of_manifest, no_outer}
use Rattle.ac_resolve_signatures.specs.Reads.{under, contains_name, members_of, externals_of}
use Rattle.ac_types.proofs.Loops.{drop_next, drop_end}

-- some reference to these bytes
abbrev to_bytes : Bytes → Bor Bytes
to_bytes x = record { ref_ptr = (0, 0); now = x }

abbrev known_by : (Bytes → Option Members) → (Bytes → Option Size) → (Bytes → Bool) → KnownScope
known_by outer types fields = record { outer = outer; types = types; fields = fields }

-- an empty map, and an empty set
pub nothing_under : {A : Type 0} (m : tree_map.BTreeMap (Bor Bytes) A) → tree_map.IsEmpty m → (t : Bytes) → under m t ≡ None
nothing_under m e t = rw e refl

pub nothing_outside : (m : tree_map.BTreeMap (Bor Bytes) Outside) → tree_map.IsEmpty m → externals_of m ≡ no_outer
nothing_outside m e = fun_ext (λ t. ap (option_map members_of) (nothing_under m e t))

pub nothing_has : (s : tree_set.BTreeSet (Bor Bytes)) → tree_set.IsEmpty s → (x : Bytes) → contains_name s x ≡ false
nothing_has s e x = rw e refl

pub nothing_known : (outer : Bytes → Option Members) (m : tree_map.BTreeMap (Bor Bytes) Size) (s : tree_set.BTreeSet (Bor Bytes)) → tree_map.IsEmpty m → tree_set.IsEmpty s → known_by outer (under m) (contains_name s) ≡ known_outside outer
nothing_known outer m s e f =
    ap (λ t. known_by outer t (contains_name s)) (fun_ext (nothing_under m e)) ∙ ap (λ h. known_by outer (λ t. None) h) (fun_ext (nothing_has s f))

-- one more entry
pub entry_put : {A : Type 0} (old new : tree_map.BTreeMap (Bor Bytes) A) (k : Bor Bytes) (a : A) → tree_map.Updates (λ (x y : Bor Bytes). slice_cmp nat_cmp x.now y.now) old new k (Some a) → under new ≡ updated k.now a (under old)
entry_put old new k a u = fun_ext (λ t. btree_map_updates_str k.now old new (Some a) u t)

pub word_put : (old new : tree_set.BTreeSet (Bor Bytes)) (k : Bor Bytes) → tree_set.Updates (λ (x y : Bor Bytes). slice_cmp nat_cmp x.now y.now) old new k true → contains_name new ≡ inserted k.now (contains_name old)
word_put old new k u = fun_ext (λ x. u.0 (to_bytes x) ∙ ap (λ b. cond b true (contains_name old x)) (is_eq-slice_cmp k.now x))

outside_put : (b : Bool) (o : Outside) (rest : Option Outside) → option_map members_of (if b then Some o else rest) ≡ (if b then Some (members_of o) else option_map members_of rest)
outside_put true o rest = refl
outside_put false o rest = refl

pub definition_put : (old new : tree_map.BTreeMap (Bor Bytes) Outside) (k : Bor Bytes) (o : Outside) → tree_map.Updates (λ (x y : Bor Bytes). slice_cmp nat_cmp x.now y.now) old new k (Some o) → externals_of new ≡ updated k.now (members_of o) (externals_of old)
definition_put old new k o u = fun_ext (λ m. ap (λ (f : Bytes → Option Outside). option_map members_of (f m)) (entry_put old new k o u) ∙ outside_put (same_bytes k.now m) o (under old m))

-- a size that is kept where another stands already, and one that is put where none does
kept : (o p : Option Size) → is_some o ≡ true → o ≡ option_or o p
kept (Some s) p h = refl
kept None p h = cc

put_where_none : (o : Option Size) (s : Size) → is_some o ≡ false → Some s ≡ option_or o (Some s)
put_where_none None s h = refl
put_where_none (Some r) s h = cc

else_none : (o : Option Size) → option_or o None ≡ o
else_none None = refl
else_none (Some s) = refl

there_at : (b : Bool) (o p : Option Size) (s : Size) → (b ≡ true → o ≡ p) → is_some o ≡ true → p ≡ option_or p (elim b [ true ↦ Some s | false ↦ None ])
there_at true o p s e h = kept p (Some s) (ap is_some (sym (e refl)) ∙ h)
there_at false o p s e h = sym (else_none p)

put_at : (b : Bool) (o p : Option Size) (s : Size) → (b ≡ true → o ≡ p) → is_some o ≡ false → (if b then Some s else p) ≡ option_or p (elim b [ true ↦ Some s | false ↦ None ])
put_at true o p s e h = put_where_none p s (ap is_some (sym (e refl)) ∙ h)
put_at false o p s e h = sym (else_none p)

pub keep_there : (f : Bytes → Option Size) (w t : Bytes) (s : Size) → is_some (f w) ≡ true → f t ≡ option_or (f t) (beside_name t ((w, s) ∷ []))
keep_there f w t s h = there_at (same_bytes w t) (f w) (f t) s (λ e. ap f (bytes_eq w t e)) h

pub keep_put : (f : Bytes → Option Size) (w t : Bytes) (s : Size) → is_some (f w) ≡ false → updated w s f t ≡ option_or (f t) (beside_name t ((w, s) ∷ []))
keep_put f w t s h = put_at (same_bytes w t) (f w) (f t) s (λ e. ap f (bytes_eq w t e)) h

else_else : (o p q : Option Size) → option_or (option_or o p) q ≡ option_or o (option_or p q)
else_else None p q = refl
else_else (Some s) p q = refl

beside_more : (b : Bool) (s : Size) (o p : Option Size) → elim b [ true ↦ Some s | false ↦ option_or o p ] ≡ option_or (elim b [ true ↦ Some s | false ↦ o ]) p
beside_more true s o p = refl
beside_more false s o p = refl

pub beside_name-append : (t : Bytes) (xs ys : List (Bytes × Size)) → beside_name t (xs ++ ys) ≡ option_or (beside_name t xs) (beside_name t ys)
beside_name-append t [] ys = refl
beside_name-append t (x ∷ xs) ys = ap (λ o. elim (same_bytes x.0 t) [ true ↦ Some x.1 | false ↦ o ]) (beside_name-append t xs ys) ∙ beside_more (same_bytes x.0 t) x.1 (beside_name t xs) (beside_name t ys)

-- the sizes of a signature's types, of which those of the first specs are put
abbrev left : Bytes → KnownScope → List SSpec → Option Size
left t K xs = beside_name t (spec_sizes K (map spec_of xs))

pub next_sizes : (old new : Option Size) (K L : KnownScope) (t : Bytes) (i : ℕ) (xs : List SSpec) (x : SSpec) (all : Option Size) → i < length xs → x ≡ get_or xs i x
    → option_or old (left t K (drop i xs)) ≡ all → L ≡ past_spec K (spec_of x) → new ≡ option_or old (beside_name t (spec_size K (spec_of x))) → option_or new (left t L (drop (i + 1) xs)) ≡ all
next_sizes old new K L t i xs x all lt is so to n =
    ap (λ o. option_or o (left t L (drop (i + 1) xs))) n
    ∙ else_else old (beside_name t (spec_size K (spec_of x))) (left t L (drop (i + 1) xs))
    ∙ ap (λ M. option_or old (option_or (beside_name t (spec_size K (spec_of x))) (left t M (drop (i + 1) xs)))) to
    ∙ ap (option_or old) (sym (beside_name-append t (spec_size K (spec_of x)) (spec_sizes (past_spec K (spec_of x)) (map spec_of (drop (i + 1) xs)))))
    ∙ ap (λ ys. option_or old (left t K ys)) (sym (drop_next i xs x lt is))
    ∙ so

pub last_sizes : (o : Option Size) (K : KnownScope) (t : Bytes) (i : ℕ) (xs : List SSpec) (all : Option Size) → i ≡ length xs → option_or o (left t K (drop i xs)) ≡ all → o ≡ all
last_sizes o K t i xs all e so = sym (else_none o) ∙ ap (λ ys. option_or o (left t K ys)) (sym (drop_end i xs e)) ∙ so

-- the same of an entry's types
manifest_more : (b : Bool) (o : Option Size) (s : Size) (m : Option Typ) (rest : Option (Option Typ)) → s ≡ size_of_manifest m
    → option_or (option_or o (elim b [ true ↦ Some s | false ↦ None ])) (option_map size_of_manifest rest) ≡ option_or o (option_map size_of_manifest (elim b [ true ↦ Some m | false ↦ rest ]))
manifest_more true None s m rest e = ap Some e
manifest_more false None s m rest e = refl
manifest_more true (Some r) s m rest e = refl
manifest_more false (Some r) s m rest e = refl

abbrev manifests : Bytes → List code_type.SigType → Option Size
manifests t xs = option_map size_of_manifest (type_under t (map sig_type_of xs))

pub next_manifest : (t : Bytes) (old new : Option Size) (s : Size) (i : ℕ) (xs : List code_type.SigType) (x : code_type.SigType) (all : Option Size) → i < length xs → x ≡ get_or xs i x
    → option_or old (manifests t (drop i xs)) ≡ all → s ≡ size_of_manifest (option_map typ_of x.manifest) → new ≡ option_or old (beside_name t ((x.name, s) ∷ [])) → option_or new (manifests t (drop (i + 1) xs)) ≡ all
next_manifest t old new s i xs x all lt is so e n =
    ap (λ o. option_or o (manifests t (drop (i + 1) xs))) n
    ∙ manifest_more (same_bytes x.name t) old s (option_map typ_of x.manifest) (type_under t (map sig_type_of (drop (i + 1) xs))) e
    ∙ ap (λ ys. option_or old (manifests t ys)) (sym (drop_next i xs x lt is))
    ∙ so

pub last_manifest : (t : Bytes) (o : Option Size) (i : ℕ) (xs : List code_type.SigType) (all : Option Size) → i ≡ length xs → option_or o (manifests t (drop i xs)) ≡ all → o ≡ all
last_manifest t o i xs all e so = sym (else_none o) ∙ ap (λ ys. option_or o (manifests t ys)) (sym (drop_end i xs e)) ∙ so

-- and of its values
abbrev value_in : Bytes → List code_value.TyField → Bool
value_in x vs = is_some (named_type x (map typed_of vs))

value_more : (b c : Bool) (T : Typ) (o : Option Typ) → (if (if b then true else c) then true else is_some o) ≡ (if c then true else is_some (elim b [ true ↦ Some T | false ↦ o ]))
value_more true true T o = refl
value_more true false T o = refl
value_more false true T o = refl
value_more false false T o = refl

pub next_value : (x : Bytes) (old new : Bytes → Bool) (i : ℕ) (vs : List code_value.TyField) (v : code_value.TyField) (all : Bool) → i < length vs → v ≡ get_or vs i v
    → (if old x then true else value_in x (drop i vs)) ≡ all → new ≡ inserted v.name old → (if new x then true else value_in x (drop (i + 1) vs)) ≡ all
next_value x old new i vs v all lt is so n =
    ap (λ (f : Bytes → Bool). if f x then true else value_in x (drop (i + 1) vs)) n
    ∙ value_more (same_bytes v.name x) (old x) (typ_of v.ty) (named_type x (map typed_of (drop (i + 1) vs)))
    ∙ ap (λ ys. if old x then true else value_in x ys) (sym (drop_next i vs v lt is))
    ∙ so

or_false : (b : Bool) → (if b then true else false) ≡ b
or_false true = refl
or_false false = refl

pub last_value : (x : Bytes) (b : Bool) (i : ℕ) (vs : List code_value.TyField) (all : Bool) → i ≡ length vs → (if b then true else value_in x (drop i vs)) ≡ all → b ≡ all
last_value x b i vs all e so = sym (or_false b) ∙ ap (λ ys. if b then true else value_in x ys) (sym (drop_end i vs e)) ∙ so

-- what is shown, where its types and its values are
abbrev members_by : (Bytes → Option Size) → (Bytes → Bool) → Members
members_by types values = record { types = types; values = values }

pub members_as : (a b : Members) → ((t : Bytes) → a.types t ≡ b.types t) → ((x : Bytes) → a.values x ≡ b.values x) → a ≡ b
members_as a b p q = ap (λ f. members_by f a.values) (fun_ext p) ∙ ap (members_by b.types) (fun_ext q)
