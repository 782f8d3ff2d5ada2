-- What code of a home writes is in the home's text: each type of its marshals, unmarshals, binders and captured values mentions what the module's text mentions.
use Rattle.std.proofs.Common.{◌≡◌, refl, sym, ap, ◌∙◌, subst, ℕ, zero, suc, Bool, true, false, List, [], ◌∷◌, ◌++◌, map, flat_map, Option, Some, None}
use Rattle.std.specs.Prelude.{◌&&◌, ◌||◌, slice_get, option_map, option_and_then}
use Rattle.std.specs.List.{list_all, list_any}
use Rattle.std.specs.Option.{option_map_or}
use mathlib.Core.Bool.{true≢false}
use Rattle.ac_types.proofs.Same.{both_true, and_true, bytes_refl}
use Rattle.ac_types.proofs.FirstLaws.{none≢some, some_eq}
use Rattle.ac_types.specs.Types.{Bytes, same_bytes, Typ, mentions}
use Rattle.ac_types.specs.Sigs.{Typed_name}
use Rattle.ac_terms.specs.Terms.{Home, Main, In, Pattern, PVar, PTuple, PCons, PPresent, PExnOf, Patterns, no_patterns, pattern', Expr, ExnOf, Tuple, Present, Cons, Lam, Rec, App, Let, If, Seq, Match, Try, Raise, Prim, Marshal, Unmarshal, Val, Evaluated, Bracket, Exprs, no_exprs, expr, Arms, no_arms, arm, Value, VTuple, VCons, VPresent, VLam, VRec, VProxy, VSeal, Values, no_values, value}
use Rattle.ac_terms.specs.Defs.{Environment, Entry, Field, Module, AModule, module_at, module_of, def_of}
use Rattle.ac_terms.specs.Parts.{Portion, OfType, pattern_types, all_pattern_types, term_parts, all_term_parts, arm_parts, part_mentions, sig_types, def_parts}
use Rattle.ac_rules.specs.Coherent.{IsCoherent}
use Rattle.ac_rules.proofs.PartLaws.{AllPass, pass_left, pass_right}
use Rattle.ac_terms.proofs.AllLaws.{all_left, all_right}
use Rattle.ac_rules.specs.Growth.{Widening}
use Rattle.ac_meaning.specs.Laws.{is_source, are_source, arms_are_source}
use Rattle.ac_meaning.proofs.Coherences.{is_field}
use Rattle.ac_meaning.proofs.KnownNames.{fields_source}
use Rattle.ac_rules.proofs.Rules.{then_some, map_some}
use Rattle.ac_rules.proofs.Growth.{there}
use Rattle.ac_colours.proofs.SealsLaw.{and_left, and_right}
use Rattle.ac_colours.proofs.Owning.{Captures, Loose, PatternOwned, PatternsOwned, Owned, AllOwned, ArmsOwned, ValueOwned, ValuesOwned}
use Rattle.ac_colours.proofs.OwnedKept.{FieldsOwned}

abbrev pub same_pair : Bytes × Bytes → Bytes × Bytes → Bool
same_pair p r = same_bytes p.0 r.0 && same_bytes p.1 r.1

-- whether code of a home may mention an abstract type: the main program any, a module what its text mentions, and no other home any
abbrev pub speaks : Environment → Home → Bytes × Bytes → Bool
speaks E Main p = true
speaks E (In i) p = option_map_or (λ (m : Module). list_any (same_pair p) (part_mentions (def_parts (AModule m)))) (module_at E i) false

-- a test that follows from another
module _ (q r : Home → Bytes × Bytes → Bool) (f : (c : Home) (p : Bytes × Bytes) → q c p ≡ true → r c p ≡ true) where
  writes_more : (c : Home) (xs : List (Bytes × Bytes)) → list_all (q c) xs ≡ true → list_all (r c) xs ≡ true
  writes_more c [] h = refl
  writes_more c (x ∷ xs) h = let b = both_true (q c x) (list_all (q c) xs) h in and_true {a = r c x} {b = list_all (r c) xs} (f c x b.0) (writes_more c xs b.1)

  loose_more : (k : Bool) → Loose q k → Loose r k
  loose_more true h = tt
  loose_more false h = h

  captures_more : (k : Bool) (c : Home) (T : Typ) → Captures q k c T → Captures r k c T
  captures_more true c T h = tt
  captures_more false c T h = writes_more c (mentions T) h

  mutual
    pattern_more : (p : Pattern) (c : Home) → PatternOwned q c p → PatternOwned r c p
    pattern_more (PVar T) c h = writes_more c (mentions T) h
    pattern_more (PTuple ps) c h = patterns_more ps c h
    pattern_more (PCons p s) c h = (pattern_more p c h.0, pattern_more s c h.1)
    pattern_more (PPresent p) c h = pattern_more p c h
    pattern_more (PExnOf k p) c h = pattern_more p c h
    pattern_more _ c h = tt

    patterns_more : (ps : Patterns) (c : Home) → PatternsOwned q c ps → PatternsOwned r c ps
    patterns_more no_patterns c h = tt
    patterns_more (pattern' p ps) c h = (pattern_more p c h.0, patterns_more ps c h.1)

  mutual
    pub owned_more : (e : Expr) (k : Bool) (c : Home) → Owned q k c e → Owned r k c e
    owned_more (ExnOf n e) k c h = owned_more e k c h
    owned_more (Tuple es) k c h = all_owned_more es k c h
    owned_more (Present e) k c h = owned_more e k c h
    owned_more (Cons a b) k c h = (owned_more a k c h.0, owned_more b k c h.1)
    owned_more (Lam T e) k c h = (writes_more c (mentions T) h.0, owned_more e false c h.1)
    owned_more (Rec T U e) k c h = (writes_more c (mentions T) h.0, writes_more c (mentions U) h.1, owned_more e false c h.2)
    owned_more (App a b) k c h = (owned_more a k c h.0, owned_more b k c h.1)
    owned_more (Let T a b) k c h = (writes_more c (mentions T) h.0, owned_more a k c h.1, owned_more b false c h.2)
    owned_more (If a b d) k c h = (owned_more a k c h.0, owned_more b k c h.1, owned_more d k c h.2)
    owned_more (Seq es) k c h = all_owned_more es k c h
    owned_more (Match e arms) k c h = (owned_more e k c h.0, arms_owned_more arms c h.1)
    owned_more (Try e arms) k c h = (owned_more e k c h.0, arms_owned_more arms c h.1)
    owned_more (Raise T e) k c h = owned_more e k c h
    owned_more (Prim n es) k c h = all_owned_more es k c h
    owned_more (Marshal T a b) k c h = (writes_more c (mentions T) h.0, owned_more a k c h.1, owned_more b k c h.2)
    owned_more (Unmarshal T e) k c h = (writes_more c (mentions T) h.0, owned_more e k c h.1)
    owned_more (Val T v) k c h = absurd h
    owned_more (Evaluated T v) k c h = (captures_more k c T h.0, value_owned_more v c h.1)
    owned_more (Bracket b T e) k c h = (loose_more k h.0, owned_more e true b h.1)
    owned_more _ k c h = tt

    all_owned_more : (es : Exprs) (k : Bool) (c : Home) → AllOwned q k c es → AllOwned r k c es
    all_owned_more no_exprs k c h = tt
    all_owned_more (expr e es) k c h = (owned_more e k c h.0, all_owned_more es k c h.1)

    arms_owned_more : (arms : Arms) (c : Home) → ArmsOwned q c arms → ArmsOwned r c arms
    arms_owned_more no_arms c h = tt
    arms_owned_more (arm p e rest) c h = (pattern_more p c h.0, owned_more e false c h.1, arms_owned_more rest c h.2)

    pub value_owned_more : (v : Value) (c : Home) → ValueOwned q c v → ValueOwned r c v
    value_owned_more (VTuple vs) c h = values_owned_more vs c h
    value_owned_more (VCons v w) c h = (value_owned_more v c h.0, value_owned_more w c h.1)
    value_owned_more (VPresent v) c h = value_owned_more v c h
    value_owned_more (VLam T e) c h = (writes_more c (mentions T) h.0, owned_more e false c h.1)
    value_owned_more (VRec T U e) c h = (writes_more c (mentions T) h.0, writes_more c (mentions U) h.1, owned_more e false c h.2)
    value_owned_more (VProxy b T U f) c h = value_owned_more f b h
    value_owned_more (VSeal b n t v) c h = value_owned_more v b h
    value_owned_more _ c h = tt

    values_owned_more : (vs : Values) (c : Home) → ValuesOwned q c vs → ValuesOwned r c vs
    values_owned_more no_values c h = tt
    values_owned_more (value v vs) c h = (value_owned_more v c h.0, values_owned_more vs c h.1)

-- a term of the source whose parts pass
module _ (q : Home → Bytes × Bytes → Bool) (c : Home) where
  here : (T : Typ) (ps : List Portion) → list_all (q c) (part_mentions (OfType T ∷ ps)) ≡ true → list_all (q c) (mentions T) ≡ true
  here T ps h = all_left (q c) (mentions T) (part_mentions ps) h

  beyond : (T : Typ) (ps : List Portion) → list_all (q c) (part_mentions (OfType T ∷ ps)) ≡ true → list_all (q c) (part_mentions ps) ≡ true
  beyond T ps h = all_right (q c) (mentions T) (part_mentions ps) h

  first : (ps qs : List Portion) → list_all (q c) (part_mentions (ps ++ qs)) ≡ true → list_all (q c) (part_mentions ps) ≡ true
  first ps qs h = pass_left (q c) ps qs h

  second : (ps qs : List Portion) → list_all (q c) (part_mentions (ps ++ qs)) ≡ true → list_all (q c) (part_mentions qs) ≡ true
  second ps qs h = pass_right (q c) ps qs h

  mapped : (Ts Us : List Typ) → map OfType (Ts ++ Us) ≡ map OfType Ts ++ map OfType Us
  mapped [] Us = refl
  mapped (T ∷ Ts) Us = ap (λ ps. OfType T ∷ ps) (mapped Ts Us)

  split : (Ts Us : List Typ) → list_all (q c) (part_mentions (map OfType (Ts ++ Us))) ≡ true → list_all (q c) (part_mentions (map OfType Ts ++ map OfType Us)) ≡ true
  split Ts Us h = subst (λ ps. list_all (q c) (part_mentions ps) ≡ true) (mapped Ts Us) h

  mutual
    source_pattern : (p : Pattern) → list_all (q c) (part_mentions (map OfType (pattern_types p))) ≡ true → PatternOwned q c p
    source_pattern (PVar T) h = here T [] h
    source_pattern (PTuple ps) h = source_patterns ps h
    source_pattern (PCons p r) h =
        let g = split (pattern_types p) (pattern_types r) h in
        (source_pattern p (first (map OfType (pattern_types p)) (map OfType (pattern_types r)) g), source_pattern r (second (map OfType (pattern_types p)) (map OfType (pattern_types r)) g))
    source_pattern (PPresent p) h = source_pattern p h
    source_pattern (PExnOf k p) h = source_pattern p h
    source_pattern _ h = tt

    source_patterns : (ps : Patterns) → list_all (q c) (part_mentions (map OfType (all_pattern_types ps))) ≡ true → PatternsOwned q c ps
    source_patterns no_patterns h = tt
    source_patterns (pattern' p ps) h =
        let g = split (pattern_types p) (all_pattern_types ps) h in
        (source_pattern p (first (map OfType (pattern_types p)) (map OfType (all_pattern_types ps)) g), source_patterns ps (second (map OfType (pattern_types p)) (map OfType (all_pattern_types ps)) g))

  mutual
    pub source_owned : (e : Expr) → is_source e ≡ true → list_all (q c) (part_mentions (term_parts e)) ≡ true → Owned q false c e
    source_owned (ExnOf k e) s h = source_owned e s h
    source_owned (Tuple es) s h = all_source_owned es s h
    source_owned (Present e) s h = source_owned e s h
    source_owned (Cons a b) s h = (source_owned a (and_left (is_source a) (is_source b) s) (first (term_parts a) (term_parts b) h), source_owned b (and_right (is_source a) (is_source b) s) (second (term_parts a) (term_parts b) h))
    source_owned (Lam T e) s h = (here T (term_parts e) h, source_owned e s (beyond T (term_parts e) h))
    source_owned (Rec T U e) s h = let g = beyond T (OfType U ∷ term_parts e) h in (here T (OfType U ∷ term_parts e) h, here U (term_parts e) g, source_owned e s (beyond U (term_parts e) g))
    source_owned (App a b) s h = (source_owned a (and_left (is_source a) (is_source b) s) (first (term_parts a) (term_parts b) h), source_owned b (and_right (is_source a) (is_source b) s) (second (term_parts a) (term_parts b) h))
    source_owned (Let T a b) s h =
        let g = beyond T (term_parts a ++ term_parts b) h in
        (here T (term_parts a ++ term_parts b) h, source_owned a (and_left (is_source a) (is_source b) s) (first (term_parts a) (term_parts b) g), source_owned b (and_right (is_source a) (is_source b) s) (second (term_parts a) (term_parts b) g))
    source_owned (If a b d) s h =
        let g = first (term_parts a ++ term_parts b) (term_parts d) h in
        let r = and_right (is_source a) (is_source b && is_source d) s in
        (source_owned a (and_left (is_source a) (is_source b && is_source d) s) (first (term_parts a) (term_parts b) g), source_owned b (and_left (is_source b) (is_source d) r) (second (term_parts a) (term_parts b) g), source_owned d (and_right (is_source b) (is_source d) r) (second (term_parts a ++ term_parts b) (term_parts d) h))
    source_owned (Seq es) s h = all_source_owned es s h
    source_owned (Match e arms) s h = (source_owned e (and_left (is_source e) (arms_are_source arms) s) (first (term_parts e) (arm_parts arms) h), arms_source_owned arms (and_right (is_source e) (arms_are_source arms) s) (second (term_parts e) (arm_parts arms) h))
    source_owned (Try e arms) s h = (source_owned e (and_left (is_source e) (arms_are_source arms) s) (first (term_parts e) (arm_parts arms) h), arms_source_owned arms (and_right (is_source e) (arms_are_source arms) s) (second (term_parts e) (arm_parts arms) h))
    source_owned (Raise T e) s h = source_owned e s (beyond T (term_parts e) h)
    source_owned (Prim k es) s h = all_source_owned es s h
    source_owned (Marshal T a b) s h =
        let g = beyond T (term_parts a ++ term_parts b) h in
        (here T (term_parts a ++ term_parts b) h, source_owned a (and_left (is_source a) (is_source b) s) (first (term_parts a) (term_parts b) g), source_owned b (and_right (is_source a) (is_source b) s) (second (term_parts a) (term_parts b) g))
    source_owned (Unmarshal T e) s h = (here T (term_parts e) h, source_owned e s (beyond T (term_parts e) h))
    source_owned (Val T v) s h = absurd (true≢false (sym s))
    source_owned (Evaluated T v) s h = absurd (true≢false (sym s))
    source_owned (Bracket b T e) s h = absurd (true≢false (sym s))
    source_owned _ s h = tt

    all_source_owned : (es : Exprs) → are_source es ≡ true → list_all (q c) (part_mentions (all_term_parts es)) ≡ true → AllOwned q false c es
    all_source_owned no_exprs s h = tt
    all_source_owned (expr e es) s h = (source_owned e (and_left (is_source e) (are_source es) s) (first (term_parts e) (all_term_parts es) h), all_source_owned es (and_right (is_source e) (are_source es) s) (second (term_parts e) (all_term_parts es) h))

    arms_source_owned : (arms : Arms) → arms_are_source arms ≡ true → list_all (q c) (part_mentions (arm_parts arms)) ≡ true → ArmsOwned q c arms
    arms_source_owned no_arms s h = tt
    arms_source_owned (arm p e rest) s h =
        let g = first (map OfType (pattern_types p) ++ term_parts e) (arm_parts rest) h in
        (source_pattern p (first (map OfType (pattern_types p)) (term_parts e) g), source_owned e (and_left (is_source e) (arms_are_source rest) s) (second (map OfType (pattern_types p)) (term_parts e) g), arms_source_owned rest (and_right (is_source e) (arms_are_source rest) s) (second (map OfType (pattern_types p) ++ term_parts e) (arm_parts rest) h))

-- each of a list is in the list
all_self : (xs ys : List (Bytes × Bytes)) → list_all (λ p. list_any (same_pair p) (ys ++ xs)) xs ≡ true
all_self [] ys = refl
all_self (x ∷ xs) ys = and_true {a = list_any (same_pair x) (ys ++ x ∷ xs)} {b = list_all (λ p. list_any (same_pair p) (ys ++ x ∷ xs)) xs} (it ys) (subst (λ zs. list_all (λ p. list_any (same_pair p) zs) xs ≡ true) (shift ys) (all_self xs (ys ++ x ∷ [])))
  where
    any_or : (a : Bool) → (a || true) ≡ true
    any_or true = refl
    any_or false = refl

    first_one : (b a : Bool) → b ≡ true → (b || a) ≡ true
    first_one true a h = refl
    first_one false a h = absurd (true≢false (sym h))

    it : (zs : List (Bytes × Bytes)) → list_any (same_pair x) (zs ++ x ∷ xs) ≡ true
    it [] = first_one (same_pair x x) (list_any (same_pair x) xs) (and_true {a = same_bytes x.0 x.0} {b = same_bytes x.1 x.1} (bytes_refl x.0) (bytes_refl x.1))
    it (z ∷ zs) = ap (λ b. same_pair x z || b) (it zs) ∙ any_or (same_pair x z)

    shift : (zs : List (Bytes × Bytes)) → (zs ++ x ∷ []) ++ xs ≡ zs ++ x ∷ xs
    shift [] = refl
    shift (z ∷ zs) = ap (λ l. z ∷ l) (shift zs)

-- the parts of a field's term
pass_term : (p : Bytes × Bytes → Bool) (fs : List Field) (f : ℕ) (x : Field) → AllPass p (flat_map (λ (y : Field). OfType y.ty ∷ term_parts y.term) fs) → slice_get fs f ≡ Some x → AllPass p (term_parts x.term)
pass_term p [] f x h e = absurd (none≢some e)
pass_term p (y ∷ fs) zero x h e =
    subst (λ (z : Field). AllPass p (term_parts z.term)) (some_eq e)
    (all_right p (mentions y.ty) (part_mentions (term_parts y.term)) (pass_left p (OfType y.ty ∷ term_parts y.term) (flat_map (λ (z : Field). OfType z.ty ∷ term_parts z.term) fs) h))
pass_term p (y ∷ fs) (suc f) x h e = pass_term p fs f x (pass_right p (OfType y.ty ∷ term_parts y.term) (flat_map (λ (z : Field). OfType z.ty ∷ term_parts z.term) fs) h) e

-- the fields of coherent definitions
pub fields_owned : (E : Environment) → IsCoherent E → FieldsOwned (speaks E) E
fields_owned E coherent j f e p =
    let x = is_field E coherent j f e p in
    let m : Module = x.module' in
    let here : module_at E j ≡ Some m = ap (option_and_then module_of) x.is_module in
    let front = map OfType (sig_types m.sig) ++ map (λ (t : Typed_name). OfType t.ty) m.types in
    let fields = flat_map (λ (y : Field). OfType y.ty ∷ term_parts y.term) m.fields in
    let all : AllPass (speaks E (In j)) (def_parts (AModule m)) = subst (λ o. list_all (λ r. option_map_or (λ (k : Module). list_any (same_pair r) (part_mentions (def_parts (AModule k)))) o false) (part_mentions (def_parts (AModule m))) ≡ true) (sym here) (all_self (part_mentions (def_parts (AModule m))) []) in
    source_owned (speaks E) (In j) e (fields_source E coherent j f e p) (subst (λ t. AllPass (speaks E (In j)) (term_parts t)) x.is_term (pass_term (speaks E (In j)) m.fields f x.field (pass_right (speaks E (In j)) front fields all) x.is_there))

module_more : (E F : Environment) → Widening E F → (i : ℕ) (m : Module) → module_at E i ≡ Some m → module_at F i ≡ Some m
module_more E F g i m h =
    let d = then_some module_of (def_of E i) m h in
    let e = map_some (λ (x : Entry). x.def) (slice_get E i) d.0 d.1 in
    ap (λ o. option_and_then module_of (option_map (λ (x : Entry). x.def) o)) (there E F g i e.0 e.1) ∙ ap module_of e.2 ∙ d.2

-- what is spoken is spoken in larger definitions
pub speaks_more : (E F : Environment) → Widening E F → (c : Home) (p : Bytes × Bytes) → speaks E c p ≡ true → speaks F c p ≡ true
speaks_more E F g Main p h = refl
speaks_more E F g (In i) p h = by (module_at E i) refl h
  where
    test : Option Module → Bool
    test o = option_map_or (λ (m : Module). list_any (same_pair p) (part_mentions (def_parts (AModule m)))) o false

    by : (o : Option Module) → module_at E i ≡ o → test o ≡ true → test (module_at F i) ≡ true
    by None e h = absurd (true≢false (sym h))
    by (Some m) e h = subst (λ o. test o ≡ true) (sym (module_more E F g i m e)) h

-- the main program
main_passes : (E : Environment) (xs : List (Bytes × Bytes)) → list_all (speaks E Main) xs ≡ true
main_passes E [] = refl
main_passes E (x ∷ xs) = main_passes E xs

pub program_owned : (E : Environment) (e : Expr) → is_source e ≡ true → Owned (speaks E) false Main e
program_owned E e s = source_owned (speaks E) Main e s (main_passes E (part_mentions (term_parts e)))
