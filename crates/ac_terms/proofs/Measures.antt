-- How long spellings are, whatever spells types: all but the types, and these; and that at most two types stand for each byte of the rest.
use Rattle.std.proofs.Common.{◌≡◌, refl, sym, ap, subst, ◌∙◌, ℕ, ◌+◌, ◌≤◌, Bool, true, false, ◌&&◌, List, [], ◌∷◌, ◌++◌, length, length-append, append_assoc, map, Option, Some, None, option_to_list}
use Rattle.std.specs.Prelude.{flat_map}
use Rattle.std.specs.List.{list_all}
use Rattle.std.specs.Option.{option_map_or}
use Rattle.std.proofs.lemmas.List.Concat.{flat_map_single}
use mathlib.Core.Bool.{true≢false}
use native.Mathlib.Omega.{arith}
use Rattle.ac_types.proofs.Same.{both_true, and_true}
use Rattle.ac_types.specs.Types.{Bytes, Typ, TInt, TBool, TStr, TUnit, TExn, TTuple, TList, TOpt, TFun, TAbs, TMine, Typs, no_types, typ}
use Rattle.ac_types.specs.Sigs.{Typed_name, Sig_type, Signature}
use Rattle.ac_terms.specs.Terms.{Pattern, PWild, PVar, PInt, PBool, PStr, PUnit, PTuple, PNil, PCons, PAbsent, PPresent, PExn, PExnOf, Patterns, no_patterns, pattern', Expr, Int, Boolean, Str, Unit', Exn, ExnOf, Tuple, Nil, Empty, Present, Cons, Var, Own, Ref, Lam, Rec, App, Let, If, Seq, Match, Try, Raise, Prim, Marshal, Unmarshal, Val, Evaluated, Bracket, Exprs, no_exprs, expr, Arms, no_arms, arm, PValue, KInt, KBool, KStr, KUnit, KExn, KTuple, KList, KAbsent, KPresent, KFun, PValues, no_pvalues, pvalue}
use Rattle.ac_terms.specs.Defs.{Field, Module, Import, Def, AModule, AnImport, AMark, Packet}
use Rattle.ac_terms.specs.Parts.{Portion, OfType, pattern_types, all_pattern_types, part_types, term_parts, all_term_parts, arm_parts, value_parts, all_value_parts, sig_types, def_parts}
use Rattle.ac_terms.specs.Pieces.{one_written, two_written, four_written, eight_written, truth, word, str, listed, home_bytes, exn_bytes, pattern_count, term_count, arm_count, value_count, atom_bytes, constraint_bytes, resolve_bytes}
use Rattle.ac_terms.specs.SpelledBy.{pattern_bytes, all_pattern_bytes, manifest_bytes, sig_type_bytes, typed_bytes, sig_bytes, term_bytes, all_term_bytes, arm_bytes, value_bytes, all_value_bytes, field_bytes, module_bytes, def_bytes, body_bytes}
use Rattle.ac_terms.specs.Bounds.{is_lower, fits_type, fit_types, fits_pattern, fit_patterns, fits_term, fit_terms, fit_arms, fits_value, fit_values, fits_typed, fits_sig, fits_def, is_module_or_import, fits_packet}
use Rattle.ac_terms.specs.Tables.{type_places}
use Rattle.ac_terms.specs.Tags as tag
use Rattle.ac_terms.proofs.AllLaws.{all_append, all_and}
use Rattle.ac_terms.proofs.BoundsLaws.{fits_field, module_bounds, import_bounds, packet_bounds}
use Rattle.ac_terms.proofs.PartTypes.{types_joined, types_as_parts, field_types, module_types, import_types, module_as_parts, import_as_parts, types_in, defs_as_parts}

-- no bytes for a type; the bytes of some types
abbrev pub none : Typ → Bytes
none T = []

abbrev pub weight : (Typ → Bytes) → List Typ → ℕ
weight f [] = 0
weight f (T ∷ Ts) = length (f T) + weight f Ts

pub weight_joined : (f : Typ → Bytes) (xs ys : List Typ) → weight f (xs ++ ys) ≡ weight f xs + weight f ys
weight_joined f [] ys = omega arith
weight_joined f (T ∷ xs) ys = omega (arith, weight_joined f xs ys)

-- what a spelling has: its length is that of all but the types and theirs; its types are at most twice as many as its other bytes, but for some that are owed; and they are types of a signature
pub record Measured (owed : ℕ) (Ts : List Typ) (s : (Typ → Bytes) → Bytes) : Type 0 where
  pub weighed : (f : Typ → Bytes) → length (s f) ≡ length (s none) + weight f Ts
  pub dense : length Ts ≤ length (s none) + length (s none) + owed
  pub fit : list_all (fits_type true) Ts ≡ true

leaf : (bs : Bytes) → Measured 0 [] (λ f. bs)
leaf bs = record { weighed = λ f. omega arith; dense = omega arith; fit = refl }

-- a type, which is owed
mutual
  up : (own : Bool) (T : Typ) → fits_type own T ≡ true → fits_type true T ≡ true
  up own TInt w = refl
  up own TBool w = refl
  up own TStr w = refl
  up own TUnit w = refl
  up own TExn w = refl
  up own (TTuple Ts) w = let a = both_true _ _ w in and_true a.0 (all_up own Ts a.1)
  up own (TList T) w = up own T w
  up own (TOpt T) w = up own T w
  up own (TFun T U) w = let a = both_true _ _ w in and_true (up own T a.0) (up own U a.1)
  up own (TAbs n t) w = w
  up own (TMine t) w = (both_true own (is_lower t) w).1

  all_up : (own : Bool) (Ts : Typs) → fit_types own Ts ≡ true → fit_types true Ts ≡ true
  all_up own no_types w = refl
  all_up own (typ T Ts) w = let a = both_true _ _ w in and_true (up own T a.0) (all_up own Ts a.1)

of_type : (own : Bool) (T : Typ) → fits_type own T ≡ true → Measured 1 (T ∷ []) (λ f. f T)
of_type own T w = record { weighed = λ f. omega arith; dense = omega arith; fit = and_true {a = fits_type true T} {b = true} (up own T w) refl }

join : {j k : ℕ} {Ts Us : List Typ} {s t : (Typ → Bytes) → Bytes} → Measured j Ts s → Measured k Us t → Measured (j + k) (Ts ++ Us) (λ f. s f ++ t f)
join {j} {k} {Ts} {Us} {s} {t} x y = record {
  weighed = λ f. omega (arith, x.weighed f, y.weighed f, length-append (s f) (t f), length-append (s none) (t none), weight_joined f Ts Us);
  dense = omega (arith, x.dense, y.dense, length-append Ts Us, length-append (s none) (t none));
  fit = all_append (fits_type true) Ts Us x.fit y.fit;
}

join_parts : {j k : ℕ} {s t : (Typ → Bytes) → Bytes} (ps qs : List Portion) → Measured j (part_types ps) s → Measured k (part_types qs) t → Measured (j + k) (part_types (ps ++ qs)) (λ f. s f ++ t f)
join_parts {j} {k} {s} {t} ps qs x y = subst (λ Ts. Measured (j + k) Ts (λ f. s f ++ t f)) (sym (types_joined ps qs)) (join x y)

-- bytes in front of it, and behind it
after : {k : ℕ} {Ts : List Typ} {s : (Typ → Bytes) → Bytes} (bs : Bytes) → Measured k Ts s → Measured k Ts (λ f. bs ++ s f)
after {k} {Ts} {s} bs x = record {
  weighed = λ f. omega (arith, x.weighed f, length-append bs (s f), length-append bs (s none));
  dense = omega (arith, x.dense, length-append bs (s none));
  fit = x.fit;
}

followed : {k : ℕ} {Ts : List Typ} {s : (Typ → Bytes) → Bytes} (bs : Bytes) → Measured k Ts s → Measured k Ts (λ f. s f ++ bs)
followed {k} {Ts} {s} bs x = record {
  weighed = λ f. omega (arith, x.weighed f, length-append (s f) bs, length-append (s none) bs);
  dense = omega (arith, x.dense, length-append (s none) bs);
  fit = x.fit;
}

-- a byte pays for two types
behind : {k : ℕ} {Ts : List Typ} {s : (Typ → Bytes) → Bytes} (n : ℕ) → Measured k Ts s → k ≤ 2 → Measured 0 Ts (λ f. n ∷ s f)
behind {k} {Ts} {s} n x h = record { weighed = λ f. omega (arith, x.weighed f); dense = omega (arith, x.dense, h); fit = x.fit }

-- a list of items
each : {A : Type 0} (types : A → List Typ) (item : (Typ → Bytes) → A → Bytes) (test : A → Bool) → ((x : A) → test x ≡ true → Measured 0 (types x) (λ f. item f x)) → (xs : List A) → list_all test xs ≡ true →
    Measured 0 (flat_map types xs) (λ f. flat_map (item f) xs)
each types item test one [] w = leaf []
each types item test one (x ∷ xs) w = let a = both_true (test x) (list_all test xs) w in join (one x a.0) (each types item test one xs a.1)

-- patterns
mutual
  pattern : (p : Pattern) → fits_pattern p ≡ true → Measured 0 (pattern_types p) (λ f. pattern_bytes f p)
  pattern PWild w = leaf (tag.pattern_wild ∷ [])
  pattern (PVar T) w = behind tag.pattern_var (of_type false T w) (omega arith)
  pattern (PInt n) w = leaf (tag.pattern_int ∷ eight_written n)
  pattern (PBool b) w = leaf (tag.pattern_bool ∷ truth b)
  pattern (PStr s) w = leaf (tag.pattern_str ∷ str s)
  pattern PUnit w = leaf (tag.pattern_unit ∷ [])
  pattern (PTuple ps) w = behind tag.pattern_tuple (after (one_written (pattern_count ps)) (all_patterns ps (both_true _ _ w).1)) (omega arith)
  pattern PNil w = leaf (tag.pattern_nil ∷ [])
  pattern (PCons p q) w = behind tag.pattern_cons (join (pattern p (both_true _ _ w).0) (pattern q (both_true _ _ w).1)) (omega arith)
  pattern PAbsent w = leaf (tag.pattern_absent ∷ [])
  pattern (PPresent p) w = behind tag.pattern_present (pattern p w) (omega arith)
  pattern (PExn k) w = leaf (tag.pattern_exn ∷ k ∷ [])
  pattern (PExnOf k p) w = behind tag.pattern_exn (after (k ∷ []) (pattern p (both_true _ _ w).1)) (omega arith)

  all_patterns : (ps : Patterns) → fit_patterns ps ≡ true → Measured 0 (all_pattern_types ps) (λ f. all_pattern_bytes f ps)
  all_patterns no_patterns w = leaf []
  all_patterns (pattern' p ps) w = join (pattern p (both_true _ _ w).0) (all_patterns ps (both_true _ _ w).1)

pattern_parts : (p : Pattern) → fits_pattern p ≡ true → Measured 0 (part_types (map OfType (pattern_types p))) (λ f. pattern_bytes f p)
pattern_parts p w = subst (λ Ts. Measured 0 Ts (λ f. pattern_bytes f p)) (sym (types_as_parts (pattern_types p))) (pattern p w)

-- terms and packed values
module _ (ref : ℕ → Bytes) where
  mutual
    pub term : (i : Bool) (e : Expr) → fits_term i e ≡ true → Measured 0 (part_types (term_parts e)) (λ f. term_bytes f ref e)
    term i (Int n) w = leaf (tag.term_int ∷ eight_written n)
    term i (Boolean b) w = leaf (tag.term_bool ∷ truth b)
    term i (Str s) w = leaf (tag.term_str ∷ str s)
    term i Unit' w = leaf (tag.term_unit ∷ [])
    term i (Exn k) w = leaf (tag.term_exn ∷ k ∷ [])
    term i (ExnOf k e) w = behind tag.term_exn (after (k ∷ []) (term i e (both_true _ _ w).1)) (omega arith)
    term i (Tuple es) w = behind tag.term_tuple (after (one_written (term_count es)) (terms i es (both_true _ _ w).1)) (omega arith)
    term i (Nil T) w = behind tag.term_nil (of_type false T w) (omega arith)
    term i (Empty T) w = behind tag.term_empty (of_type false T w) (omega arith)
    term i (Present e) w = behind tag.term_present (term i e w) (omega arith)
    term i (Cons a b) w = behind tag.term_cons (join_parts (term_parts a) (term_parts b) (term i a (both_true _ _ w).0) (term i b (both_true _ _ w).1)) (omega arith)
    term i (Var n) w = leaf (tag.term_var ∷ two_written n)
    term i (Own n) w = leaf (tag.term_own ∷ two_written n)
    term i (Ref j x) w = leaf (tag.term_ref ∷ ref j ++ word x)
    term i (Lam T e) w = behind tag.term_lam (join (of_type false T (both_true _ _ w).0) (term i e (both_true _ _ w).1)) (omega arith)
    term i (Rec T U e) w =
        let a = both_true _ _ w in
        let b = both_true _ _ a.0 in
        behind tag.term_rec (join (join (of_type false T b.0) (of_type false U b.1)) (term i e a.1)) (omega arith)
    term i (App g a) w = behind tag.term_app (join_parts (term_parts g) (term_parts a) (term i g (both_true _ _ w).0) (term i a (both_true _ _ w).1)) (omega arith)
    term i (Let T e b) w =
        let a = both_true _ _ w in
        let c = both_true _ _ a.0 in
        behind tag.term_let (join_parts (OfType T ∷ term_parts e) (term_parts b) (join (of_type false T c.0) (term i e c.1)) (term i b a.1)) (omega arith)
    term i (If c a b) w =
        let u = both_true _ _ w in
        let v = both_true _ _ u.0 in
        behind tag.term_if (join_parts (term_parts c ++ term_parts a) (term_parts b) (join_parts (term_parts c) (term_parts a) (term i c v.0) (term i a v.1)) (term i b u.1)) (omega arith)
    term i (Seq es) w = behind tag.term_seq (after (four_written (term_count es)) (terms i es (both_true _ _ w).1)) (omega arith)
    term i (Match e cases) w =
        let a = both_true _ _ w in
        let b = both_true _ _ a.0 in
        let c = both_true _ _ b.0 in
        behind tag.term_match (join_parts (term_parts e) (arm_parts cases) (followed (two_written (arm_count cases)) (term i e c.0)) (all_arms i cases c.1)) (omega arith)
    term i (Try e cases) w =
        let a = both_true _ _ w in
        let b = both_true _ _ a.0 in
        let c = both_true _ _ b.0 in
        behind tag.term_try (join_parts (term_parts e) (arm_parts cases) (followed (two_written (arm_count cases)) (term i e c.0)) (all_arms i cases c.1)) (omega arith)
    term i (Raise T e) w = behind tag.term_raise (join (of_type false T (both_true _ _ w).0) (term i e (both_true _ _ w).1)) (omega arith)
    term i (Prim k es) w = behind tag.term_prim (after (k ∷ []) (terms i es (both_true _ _ w).1)) (omega arith)
    term i (Marshal T m e) w =
        let a = both_true _ _ w in
        let c = both_true _ _ a.0 in
        behind tag.term_marshal (join_parts (OfType T ∷ term_parts m) (term_parts e) (join (of_type false T c.0) (term i m c.1)) (term i e a.1)) (omega arith)
    term i (Unmarshal T e) w = behind tag.term_unmarshal (join (of_type false T (both_true _ _ w).0) (term i e (both_true _ _ w).1)) (omega arith)
    term i (Val T v) w =
        let a = both_true (i && fits_type false T) (fits_value v) w in
        let c = both_true i (fits_type false T) a.0 in
        behind tag.term_val (join (of_type false T c.1) (value v a.1)) (omega arith)
    term i (Evaluated T v) w = absurd (true≢false (sym w))
    term i (Bracket c T e) w = absurd (true≢false (sym w))

    terms : (i : Bool) (es : Exprs) → fit_terms i es ≡ true → Measured 0 (part_types (all_term_parts es)) (λ f. all_term_bytes f ref es)
    terms i no_exprs w = leaf []
    terms i (expr e es) w = join_parts (term_parts e) (all_term_parts es) (term i e (both_true _ _ w).0) (terms i es (both_true _ _ w).1)

    all_arms : (i : Bool) (cases : Arms) → fit_arms i cases ≡ true → Measured 0 (part_types (arm_parts cases)) (λ f. arm_bytes f ref cases)
    all_arms i no_arms w = leaf []
    all_arms i (arm p e rest) w =
        let a = both_true _ _ w in
        let c = both_true _ _ a.0 in
        join_parts (map OfType (pattern_types p) ++ term_parts e) (arm_parts rest) (join_parts (map OfType (pattern_types p)) (term_parts e) (pattern_parts p c.0) (term i e c.1)) (all_arms i rest a.1)

    pub value : (v : PValue) → fits_value v ≡ true → Measured 0 (part_types (value_parts v)) (λ f. value_bytes f ref v)
    value (KInt n) w = leaf (tag.value_int ∷ eight_written n)
    value (KBool b) w = leaf (tag.value_bool ∷ truth b)
    value (KStr s) w = leaf (tag.value_str ∷ str s)
    value KUnit w = leaf (tag.value_unit ∷ [])
    value (KExn k s) w = leaf (tag.value_exn ∷ exn_bytes k s)
    value (KTuple vs) w = behind tag.value_tuple (after (one_written (value_count vs)) (values vs (both_true _ _ w).1)) (omega arith)
    value (KList vs) w = behind tag.value_list (after (four_written (value_count vs)) (values vs (both_true _ _ w).1)) (omega arith)
    value KAbsent w = leaf (tag.value_absent ∷ [])
    value (KPresent v) w = behind tag.value_present (value v w) (omega arith)
    value (KFun h l) w = behind tag.value_fun (after (home_bytes h) (term true l (both_true _ _ w).1)) (omega arith)

    values : (vs : PValues) → fit_values vs ≡ true → Measured 0 (part_types (all_value_parts vs)) (λ f. all_value_bytes f ref vs)
    values no_pvalues w = leaf []
    values (pvalue v vs) w = join_parts (value_parts v) (all_value_parts vs) (value v (both_true _ _ w).0) (values vs (both_true _ _ w).1)

-- signatures
manifest : (o : Option Typ) → option_map_or (fits_type true) o true ≡ true → Measured 0 (option_to_list o) (λ f. manifest_bytes f o)
manifest None w = leaf (tag.sig_abstract ∷ [])
manifest (Some T) w = behind tag.sig_manifest (of_type true T w) (omega arith)

abbrev fits_sig_type : Sig_type → Bool
fits_sig_type t = is_lower t.name && option_map_or (fits_type true) t.manifest true

sig_type : (t : Sig_type) → fits_sig_type t ≡ true → Measured 0 (option_to_list t.manifest) (λ f. sig_type_bytes f t)
sig_type t w = after (word t.name) (manifest t.manifest (both_true (is_lower t.name) (option_map_or (fits_type true) t.manifest true) w).1)

-- a word pays for its type
named : (own : Bool) (n : Bytes) (T : Typ) → fits_type own T ≡ true → Measured 0 (T ∷ []) (λ f. word n ++ f T)
named own n T w = behind (length n) (after n (of_type own T w)) (omega arith)

typed : (own : Bool) (x : Typed_name) → fits_typed own x ≡ true → Measured 0 (x.ty ∷ []) (λ f. typed_bytes f x)
typed own x w = named own x.name x.ty (both_true (is_lower x.name) (fits_type own x.ty) w).1

abbrev ty_of : Typed_name → Typ
ty_of x = x.ty

all_typed : (own : Bool) (xs : List Typed_name) → list_all (fits_typed own) xs ≡ true → Measured 0 (map ty_of xs) (λ f. listed two_written (typed_bytes f) xs)
all_typed own xs w =
    subst (λ Ts. Measured 0 Ts (λ f. listed two_written (typed_bytes f) xs)) (flat_map_single ty_of xs)
    (after (two_written (length xs)) (each (λ x. x.ty ∷ []) typed_bytes (fits_typed own) (typed own) xs w))

sig : (s : Signature) → fits_sig s ≡ true → Measured 0 (sig_types s) (λ f. sig_bytes f s)
sig s w =
    let a = both_true _ _ w in
    let b = both_true _ _ a.0 in
    join (after (two_written (length s.types)) (each (λ (t : Sig_type). option_to_list t.manifest) sig_type_bytes fits_sig_type sig_type s.types b.1)) (all_typed true s.vals a.1)

-- definitions
field : (ref : ℕ → Bytes) (x : Field) → fits_field x ≡ true → Measured 0 (field_types x) (λ f. field_bytes f ref x)
field ref x w =
    let a = both_true (is_lower x.name && fits_type false x.ty) _ w in
    join (named false x.name x.ty (both_true (is_lower x.name) (fits_type false x.ty) a.0).1) (term ref false x.term a.1)

a_module : (ref : ℕ → Bytes) (m : Module) → fits_def (AModule m) ≡ true → Measured 0 (module_types m) (λ f. module_bytes f ref m)
a_module ref m w =
    let b = module_bounds m w in
    behind tag.def_module
    (join
    (join (after (word m.name ++ listed one_written atom_bytes m.version) (sig m.sig b.sig)) (all_typed false m.types b.types))
    (after (two_written (length m.fields)) (each field_types (λ f. field_bytes f ref) fits_field (field ref) m.fields b.fields)))
    (omega arith)

an_import : (i : Import) → fits_def (AnImport i) ≡ true → Measured 0 (import_types i) (λ f. def_bytes f (AnImport i))
an_import i w =
    let b = import_bounds i w in
    behind tag.def_import (followed (listed one_written resolve_bytes i.by) (join (followed (constraint_bytes i.constraint) (after (word i.name) (sig i.sig b.sig))) (all_typed false i.like b.likes))) (omega arith)

abbrev fits_packed : Def → Bool
fits_packed d = is_module_or_import d && fits_def d

def : (d : Def) → fits_packed d ≡ true → Measured 0 (types_in d) (λ f. def_bytes f d)
def (AModule m) w = subst (λ Ts. Measured 0 Ts (λ f. def_bytes f (AModule m))) (sym (module_as_parts m)) (a_module two_written m w)
def (AnImport i) w = subst (λ Ts. Measured 0 Ts (λ f. def_bytes f (AnImport i))) (sym (import_as_parts i)) (an_import i w)
def (AMark t) w = absurd (true≢false (sym w))

-- all that stands behind the head of a packet
places_apart : (p : Packet) → (flat_map types_in p.defs ++ p.ty ∷ []) ++ part_types (value_parts p.value) ≡ type_places p
places_apart p =
    append_assoc (flat_map types_in p.defs) (p.ty ∷ []) (part_types (value_parts p.value)) ∙
    ap (λ Ts. Ts ++ p.ty ∷ part_types (value_parts p.value)) (sym (defs_as_parts p.defs)) ∙ sym (types_joined (flat_map def_parts p.defs) (OfType p.ty ∷ value_parts p.value))

pub body : (p : Packet) → fits_packet p ≡ true → Measured 1 (type_places p) (λ f. body_bytes f p)
body p w =
    let b = packet_bounds p w in
    let defs = after (two_written (length p.defs)) (each types_in def_bytes fits_packed def p.defs (all_and is_module_or_import fits_def p.defs b.kinds b.defs)) in
    subst (λ Ts. Measured 1 Ts (λ f. body_bytes f p)) (places_apart p) (join (join defs (of_type false p.ty b.ty)) (value two_written p.value b.value))

-- so each type of a packet may stand in a signature
pub packet_types_fit : (p : Packet) → fits_packet p ≡ true → list_all (fits_type true) (type_places p) ≡ true
packet_types_fit p w = (body p w).fit
