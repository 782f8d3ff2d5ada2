-- The packed value of a value within the bounds is within the bounds of its spelling, where all of it travels and is short.
use Rattle.std.proofs.Common.{◌≡◌, refl, sym, ap, ◌∙◌, ℕ, suc, ◌+◌, ◌≤◌, Bool, true, false, ◌&&◌, List, [], ◌∷◌, ◌++◌, length, Option, Some, None, length-append}
use Rattle.std.specs.Prelude.{nat_le, slice_get}
use Rattle.std.specs.List.{list_all}
use Rattle.std.proofs.lemmas.Bool.Decides.{nat_tests}
use mathlib.Core.Bool.{true≢false}
use native.Mathlib.Omega.{arith}
use Rattle.ac_types.specs.Limits.{longest_packet}
use Rattle.ac_types.proofs.Same.{both_true, and_true}
use Rattle.ac_types.specs.Types.{Bytes, Typ, Typs, no_types, typ}
use Rattle.ac_types.specs.Partial.{agree}
use Rattle.ac_terms.specs.Terms.{Home, Main, In, Expr, Int, Boolean, Str, Unit', Exn, ExnOf, Tuple, Nil, Empty, Present, Cons, Var, Own, Ref, Lam, Rec, App, Let, If, Seq, Match, Try, Raise, Prim, Marshal, Unmarshal, Val, Evaluated, Bracket, Exprs, no_exprs, expr, Arms, no_arms, arm, PValue, KInt, KBool, KStr, KUnit, KExn, KTuple, KList, KAbsent, KPresent, KFun, PValues, no_pvalues, pvalue, Value, VInt, VBool, VStr, VUnit, VExn, VTuple, VNil, VCons, VAbsent, VPresent, VLam, VRec, VProxy, VSeal, Values, no_values, value}
use Rattle.ac_terms.specs.Defs.{Environment, Entry, def_of, module_of, module_at}
use Rattle.ac_terms.specs.PrimitiveTypes.{primitives}
use Rattle.ac_terms.specs.Spelling.{two_written, term_count, arm_count, value_count}
use Rattle.ac_terms.specs.Heads.{Head, before, type_heads, pattern_heads, term_heads, all_term_heads, arm_heads, value_heads, all_value_heads}
use Rattle.ac_terms.specs.Bounds.{is_two, is_four, is_width, is_lambda, fits_home, takes, fits_type, fits_term, fit_terms, fit_arms, fits_value, fit_values}
use Rattle.ac_terms.proofs.HeadLaws.{spelling, joined, preceded}
use Rattle.ac_rules.specs.Views.{Coloured, head}
use Rattle.ac_rules.specs.Typing.{all_of, type_of, type_seen, tuple_parts, list_item, option_item, is_function, is_function_home}
use Rattle.ac_rules.specs.Plain.{stays, where_there, in_front, may_travel, travelling}
use Rattle.ac_rules.specs.Coherent.{IsCoherent}
use Rattle.ac_rules.proofs.Rules.{map_some, then_some, some_there}
use Rattle.ac_rules.proofs.ViewLaws.{within}
use Rattle.ac_meaning.specs.BareTerms.{bare_term, bare_all, bare_arms, bare_value, bare_values}
use Rattle.ac_meaning.specs.BarePacking.{bare_packed as packed, bare_all_packed as all_packed, bare_packed_term as packed_term, bare_packed_terms as packed_terms, bare_packed_arms as packed_arms}
use Rattle.ac_meaning.proofs.Within.{Within, AllWithin, ArmsWithin, ValueWithin, ValuesWithin, width}

-- everything travels and is short
pub record Fine (hs : List Head) : Type 0 where
  pub travels : list_all (λ (h : Head). h.travels) hs ≡ true
  pub short : length (spelling hs) ≤ longest_packet

travel_both : (hs ks : List Head) → list_all (λ (h : Head). h.travels) (hs ++ ks) ≡ true → (list_all (λ (h : Head). h.travels) hs ≡ true) × (list_all (λ (h : Head). h.travels) ks ≡ true)
travel_both [] ks e = (refl, e)
travel_both (h ∷ hs) ks e =
    let a = both_true h.travels _ e in
    let b = travel_both hs ks a.1 in
    (and_true {a = h.travels} {b = list_all (λ (x : Head). x.travels) hs} a.0 b.0, b.1)

pub fine_both : (hs ks : List Head) → Fine (hs ++ ks) → Fine hs × Fine ks
fine_both hs ks f =
    let t = travel_both hs ks f.travels in
    let l : length (spelling (hs ++ ks)) ≡ length (spelling hs) + length (spelling ks) = ap length (joined hs ks) ∙ length-append (spelling hs) (spelling ks) in
    let s = f.short in
    (record { travels = t.0; short = omega (arith, l, s) }, record { travels = t.1; short = omega (arith, l, s) })

fine_rest : (h : Head) (hs : List Head) → Fine (h ∷ hs) → Fine hs
fine_rest h hs f =
    let l : length (spelling (h ∷ hs)) ≡ length h.bytes + length (spelling hs) = length-append h.bytes (spelling hs) in
    let s = f.short in
    record { travels = (both_true h.travels _ f.travels).1; short = omega (arith, l, s) }

travel_before : (bs : Bytes) (hs : List Head) → list_all (λ (h : Head). h.travels) (before bs hs) ≡ true → list_all (λ (h : Head). h.travels) hs ≡ true
travel_before bs [] e = refl
travel_before bs (h ∷ hs) e = e

fine_before : (bs : Bytes) (hs : List Head) → Fine (before bs hs) → Fine hs
fine_before bs hs f =
    let l : length (spelling (before bs hs)) ≡ length bs + length (spelling hs) = ap length (preceded bs hs) ∙ length-append bs (spelling hs) in
    let s = f.short in
    record { travels = travel_before bs hs f.travels; short = omega (arith, l, s) }

-- each value has a byte at least
value_byte : (d : ℕ) (v : PValue) → 1 ≤ length (spelling (value_heads two_written d v))
value_byte d (KInt n) = omega arith
value_byte d (KBool b) = omega arith
value_byte d (KStr s) = omega arith
value_byte d KUnit = omega arith
value_byte d (KExn k s) = omega arith
value_byte d (KTuple vs) = omega arith
value_byte d (KList vs) = omega arith
value_byte d KAbsent = omega arith
value_byte d (KPresent v) = omega arith
value_byte d (KFun h l) = omega arith

values_bytes : (d : ℕ) (vs : PValues) → value_count vs ≤ length (spelling (all_value_heads two_written d vs))
values_bytes d no_pvalues = omega arith
values_bytes d (pvalue v vs) =
    let l : length (spelling (value_heads two_written d v ++ all_value_heads two_written d vs)) ≡ length (spelling (value_heads two_written d v)) + length (spelling (all_value_heads two_written d vs)) =
    ap length (joined (value_heads two_written d v) (all_value_heads two_written d vs)) ∙ length-append (spelling (value_heads two_written d v)) (spelling (all_value_heads two_written d vs)) in
    let a = value_byte d v in
    let b = values_bytes d vs in
    omega (arith, l, a, b)

four_of : (n : ℕ) → n ≤ longest_packet → is_four n ≡ true
four_of n h = grind (arith, nat_tests)

-- a list by its items, any other value by itself
abbrev FitsWhere : ℕ → PValue → Type 0
FitsWhere d (KList vs) = Fine (all_value_heads two_written (suc d) vs) → fit_values vs ≡ true
FitsWhere d v = Fine (value_heads two_written d v) → fits_value v ≡ true

list_fits : (d : ℕ) (vs : PValues) → fit_values vs ≡ true → Fine (all_value_heads two_written (suc d) vs) → fits_value (KList vs) ≡ true
list_fits d vs h f =
    let a = values_bytes (suc d) vs in
    let b = f.short in
    and_true {a = is_four (value_count vs)} {b = fit_values vs} (four_of (value_count vs) (omega (arith, a, b))) h

-- what stays doesn't travel
stays_where : (d : ℕ) → FitsWhere d stays
stays_where d f = absurd (true≢false (sym f.travels))

whole : (d : ℕ) (v : PValue) → FitsWhere d v → Fine (value_heads two_written d v) → fits_value v ≡ true
whole d (KList vs) h f = let g = fine_rest _ (all_value_heads two_written (suc d) vs) f in list_fits d vs (h g) g
whole d (KInt n) h f = h f
whole d (KBool b) h f = h f
whole d (KStr s) h f = h f
whole d KUnit h f = h f
whole d (KExn k s) h f = h f
whole d (KTuple vs) h f = h f
whole d KAbsent h f = h f
whole d (KPresent v) h f = h f
whole d (KFun c l) h f = h f

in_front_where : (d : ℕ) (x y : PValue) → FitsWhere (suc d) x → FitsWhere d y → FitsWhere d (in_front x y)
in_front_where d x (KList ys) h k =
    λ f.
    let p = fine_both (value_heads two_written (suc d) x) (all_value_heads two_written (suc d) ys) f in
    and_true {a = fits_value x} {b = fit_values ys} (whole (suc d) x h p.0) (k p.1)
in_front_where d x (KInt n) h k = stays_where d
in_front_where d x (KBool b) h k = stays_where d
in_front_where d x (KStr s) h k = stays_where d
in_front_where d x KUnit h k = stays_where d
in_front_where d x (KExn j s) h k = stays_where d
in_front_where d x (KTuple vs) h k = stays_where d
in_front_where d x KAbsent h k = stays_where d
in_front_where d x (KPresent v) h k = stays_where d
in_front_where d x (KFun c l) h k = stays_where d

there_where : {A : Type 0} (d : ℕ) (o : Option A) (f : A → PValue) → ((a : A) → FitsWhere d (f a)) → FitsWhere d (where_there o f)
there_where d None f h = stays_where d
there_where d (Some a) f h = h a

module _ (E : Environment) (coherent : IsCoherent E) where
  home_two : (k : ℕ) → k + 1 ≤ 65535 → is_two (k + 1) ≡ true
  home_two k h = grind (arith, nat_tests)

  -- a function's home is the main program or an entry
  home_fits : (c : Home) → is_function_home E c ≡ true → fits_home c ≡ true
  home_fits Main h = refl
  home_fits (In k) h =
      let m = some_there (module_at E k) h in
      let d = then_some module_of (def_of E k) m.0 m.1 in
      let e = map_some (λ (x : Entry). x.def) (slice_get E k) d.0 d.1 in
      let l = within E k e.0 e.1 in
      let f = coherent.few in
      home_two k (omega (arith, l, f))

  travelling_where : (d : ℕ) (c : Home) (l : Expr) (T : Typ) → is_lambda l ≡ true → (Fine (term_heads two_written (suc d) l) → fits_term true l ≡ true) → FitsWhere d (travelling E c l T)
  travelling_where d c l T il h = by (may_travel E c l T) refl
    where
      by : (b : Bool) → may_travel E c l T ≡ b → FitsWhere d (elim b as (λ z. PValue) [ true ↦ KFun c l | false ↦ stays ])
      by false q = stays_where d
      by true q =
          let p = both_true (is_function (head E T) && is_function_home E c) (agree (type_of Coloured true E (all_of E c) l) (type_seen Coloured true E c (head E T))) q in
          let r = both_true (is_function (head E T)) (is_function_home E c) p.0 in
          λ f.
          let g = fine_rest _ (term_heads two_written (suc d) l) f in
          and_true {a = fits_home c && is_lambda l} {b = fits_term true l} (and_true {a = fits_home c} {b = is_lambda l} (home_fits c r.1) il) (h g)

  count_packed : (d : ℕ) (vs : Values) (c : Home) (Ts : Typs) → Fine (all_value_heads two_written d (all_packed E (bare_values c vs) Ts)) → value_count (all_packed E (bare_values c vs) Ts) ≡ width vs
  count_packed d no_values c no_types f = refl
  count_packed d (value v vs) c (typ T Ts) f = ap (λ n. suc n) (count_packed d vs c Ts (fine_both (value_heads two_written d (packed E (bare_value c v) T)) (all_value_heads two_written d (all_packed E (bare_values c vs) Ts)) f).1)
  count_packed d no_values c (typ T Ts) f = absurd (true≢false (sym f.travels))
  count_packed d (value v vs) c no_types f = absurd (true≢false (sym f.travels))

  terms_packed : (es : Exprs) (c : Home) → term_count (packed_terms E (bare_all c es)) ≡ term_count es
  terms_packed no_exprs c = refl
  terms_packed (expr e es) c = ap (λ n. suc n) (terms_packed es c)

  arms_packed : (arms : Arms) (c : Home) → arm_count (packed_arms E (bare_arms c arms)) ≡ arm_count arms
  arms_packed no_arms c = refl
  arms_packed (arm p e rest) c = ap (λ n. suc n) (arms_packed rest c)

  arms_all : (a b x y : Bool) → a ≡ true → b ≡ true → (x && y) ≡ true → (a && b && x && y) ≡ true
  arms_all a b x y h k l =
      let p = both_true x y l in
      and_true {a = a && b && x} {b = y} (and_true {a = a && b} {b = x} (and_true {a = a} {b = b} h k) p.0) p.1

  three : (a b c : Bool) → a ≡ true → b ≡ true → c ≡ true → (a && b && c) ≡ true
  three a b c h k l = and_true {a = a && b} {b = c} (and_true {a = a} {b = b} h k) l

  abbrev p! : Home → Expr → Expr
  p! c e = packed_term E (bare_term c e)

  abbrev hs! : ℕ → Home → Expr → List Head
  hs! d c e = term_heads two_written d (packed_term E (bare_term c e))

  mutual
    value_where : (v : Value) (c : Home) (T : Typ) (d : ℕ) → ValueWithin v → FitsWhere d (packed E (bare_value c v) T)
    value_where (VInt n) c T d h = λ f. h
    value_where (VBool b) c T d h = λ f. refl
    value_where (VStr s) c T d h = λ f. h
    value_where VUnit c T d h = λ f. refl
    value_where (VExn k s) c T d h = λ f. and_true h.0 h.1
    value_where (VTuple vs) c T d h =
        there_where d (tuple_parts (head E T)) (λ Ts. KTuple (all_packed E (bare_values c vs) Ts))
        (λ Ts f.
        let g = fine_rest _ (all_value_heads two_written (suc d) (all_packed E (bare_values c vs) Ts)) f in
        and_true {a = is_width (value_count (all_packed E (bare_values c vs) Ts))} {b = fit_values (all_packed E (bare_values c vs) Ts)} (ap is_width (count_packed (suc d) vs c Ts g) ∙ h.0) (values_fit vs c Ts (suc d) h.1 g))
    value_where (VNil U) c T d h = λ f. refl
    value_where (VCons v w) c T d h =
        in_front_where d (where_there (list_item (head E T)) (λ U. packed E (bare_value c v) U)) (packed E (bare_value c w) T)
        (there_where (suc d) (list_item (head E T)) (λ U. packed E (bare_value c v) U) (λ U. value_where v c U (suc d) h.0)) (value_where w c T d h.1)
    value_where (VAbsent U) c T d h = λ f. refl
    value_where (VPresent v) c T d h =
        there_where d (option_item (head E T)) (λ U. KPresent (packed E (bare_value c v) U))
        (λ U f. let g = fine_rest _ (value_heads two_written (suc d) (packed E (bare_value c v) U)) f in whole (suc d) (packed E (bare_value c v) U) (value_where v c U (suc d) h) g)
    value_where (VLam U e) c T d h =
        travelling_where d c (Lam U (p! c e)) T refl
        (λ f. let g = (fine_both (type_heads U) (hs! (suc (suc d)) c e) (fine_rest _ _ f)).1 in and_true {a = fits_type false U} {b = fits_term true (p! c e)} h.0.0 (term_fits e c (suc (suc d)) h.1 g))
    value_where (VRec U W e) c T d h =
        travelling_where d c (Rec U W (p! c e)) T refl
        (λ f. let g = (fine_both (type_heads U ++ type_heads W) (hs! (suc (suc d)) c e) (fine_rest _ _ f)).1 in three (fits_type false U) (fits_type false W) (fits_term true (p! c e)) h.0.0 h.1.0 (term_fits e c (suc (suc d)) h.3 g))
    value_where (VProxy b U W g) c T d h = value_where g b T d h
    value_where (VSeal b n t v) c T d h = value_where v b T d h

    values_fit : (vs : Values) (c : Home) (Ts : Typs) (d : ℕ) → ValuesWithin vs → Fine (all_value_heads two_written d (all_packed E (bare_values c vs) Ts)) → fit_values (all_packed E (bare_values c vs) Ts) ≡ true
    values_fit no_values c no_types d h f = refl
    values_fit (value v vs) c (typ T Ts) d h f =
        let p = fine_both (value_heads two_written d (packed E (bare_value c v) T)) (all_value_heads two_written d (all_packed E (bare_values c vs) Ts)) f in
        and_true {a = fits_value (packed E (bare_value c v) T)} {b = fit_values (all_packed E (bare_values c vs) Ts)} (whole d (packed E (bare_value c v) T) (value_where v c T d h.0) p.0) (values_fit vs c Ts d h.1 p.1)
    values_fit no_values c (typ T Ts) d h f = absurd (true≢false (sym f.travels))
    values_fit (value v vs) c no_types d h f = absurd (true≢false (sym f.travels))

    term_fits : (e : Expr) (c : Home) (d : ℕ) → Within true e → Fine (hs! d c e) → fits_term true (p! c e) ≡ true
    term_fits (Int n) c d h f = h
    term_fits (Boolean b) c d h f = refl
    term_fits (Str s) c d h f = h
    term_fits Unit' c d h f = refl
    term_fits (Exn k) c d h f = h
    term_fits (ExnOf k e) c d h f = and_true h.0 (term_fits e c (suc d) h.1 (fine_rest _ (hs! (suc d) c e) f))
    term_fits (Tuple es) c d h f = and_true (ap is_width (terms_packed es c) ∙ h.0) (terms_fit es c (suc d) h.1 (fine_rest _ (all_term_heads two_written (suc d) (packed_terms E (bare_all c es))) f))
    term_fits (Nil T) c d h f = h.0
    term_fits (Empty T) c d h f = h.0
    term_fits (Present e) c d h f = term_fits e c (suc d) h (fine_rest _ (hs! (suc d) c e) f)
    term_fits (Cons a b) c d h f =
        let g = fine_both (hs! (suc d) c a) (hs! (suc d) c b) (fine_rest _ _ f) in
        and_true (term_fits a c (suc d) h.0 g.0) (term_fits b c (suc d) h.1 g.1)
    term_fits (Var i) c d h f = h
    term_fits (Own g) c d h f = h
    term_fits (Ref j x) c d h f = h
    term_fits (Lam T e) c d h f = and_true h.0.0 (term_fits e c (suc d) h.1 (fine_both (type_heads T) (hs! (suc d) c e) (fine_rest _ _ f)).1)
    term_fits (Rec T U e) c d h f = three (fits_type false T) (fits_type false U) (fits_term true (p! c e)) h.0.0 h.1.0 (term_fits e c (suc d) h.3 (fine_both (type_heads T ++ type_heads U) (hs! (suc d) c e) (fine_rest _ _ f)).1)
    term_fits (App a b) c d h f =
        let g = fine_both (hs! (suc d) c a) (hs! (suc d) c b) (fine_rest _ _ f) in
        and_true (term_fits a c (suc d) h.0 g.0) (term_fits b c (suc d) h.1 g.1)
    term_fits (Let T a b) c d h f =
        let g = fine_both (type_heads T ++ hs! (suc d) c a) (hs! (suc d) c b) (fine_rest _ _ f) in
        let k = fine_both (type_heads T) (hs! (suc d) c a) g.0 in
        three (fits_type false T) (fits_term true (p! c a)) (fits_term true (p! c b)) h.0.0 (term_fits a c (suc d) h.1 k.1) (term_fits b c (suc d) h.2 g.1)
    term_fits (If x a b) c d h f =
        let g = fine_both (hs! (suc d) c x ++ hs! (suc d) c a) (hs! (suc d) c b) (fine_rest _ _ f) in
        let k = fine_both (hs! (suc d) c x) (hs! (suc d) c a) g.0 in
        three (fits_term true (p! c x)) (fits_term true (p! c a)) (fits_term true (p! c b)) (term_fits x c (suc d) h.0 k.0) (term_fits a c (suc d) h.1 k.1) (term_fits b c (suc d) h.2 g.1)
    term_fits (Seq es) c d h f =
        and_true {a = nat_le 2 (term_count (packed_terms E (bare_all c es))) && is_four (term_count (packed_terms E (bare_all c es)))} {b = fit_terms true (packed_terms E (bare_all c es))}
        (ap (λ n. nat_le 2 n && is_four n) (terms_packed es c) ∙ h.0) (terms_fit es c (suc d) h.1 (fine_rest _ (all_term_heads two_written (suc d) (packed_terms E (bare_all c es))) f))
    term_fits (Match e arms) c d h f =
        let g = fine_both (hs! (suc d) c e) (before (two_written (arm_count (packed_arms E (bare_arms c arms)))) (arm_heads two_written (suc d) (packed_arms E (bare_arms c arms)))) (fine_rest _ _ f) in
        let n = arm_count (packed_arms E (bare_arms c arms)) in
        arms_all (fits_term true (p! c e)) (fit_arms true (packed_arms E (bare_arms c arms))) (nat_le 1 n) (nat_le n 1024) (term_fits e c (suc d) h.0 g.0)
        (arms_fit arms c (suc d) h.1 (fine_before (two_written n) (arm_heads two_written (suc d) (packed_arms E (bare_arms c arms))) g.1)) (ap (λ m. nat_le 1 m && nat_le m 1024) (arms_packed arms c) ∙ h.2)
    term_fits (Try e arms) c d h f =
        let g = fine_both (hs! (suc d) c e) (before (two_written (arm_count (packed_arms E (bare_arms c arms)))) (arm_heads two_written (suc d) (packed_arms E (bare_arms c arms)))) (fine_rest _ _ f) in
        let n = arm_count (packed_arms E (bare_arms c arms)) in
        arms_all (fits_term true (p! c e)) (fit_arms true (packed_arms E (bare_arms c arms))) (nat_le 1 n) (nat_le n 1024) (term_fits e c (suc d) h.0 g.0)
        (arms_fit arms c (suc d) h.1 (fine_before (two_written n) (arm_heads two_written (suc d) (packed_arms E (bare_arms c arms))) g.1)) (ap (λ m. nat_le 1 m && nat_le m 1024) (arms_packed arms c) ∙ h.2)
    term_fits (Raise T e) c d h f = and_true h.0.0 (term_fits e c (suc d) h.1 (fine_both (type_heads T) (hs! (suc d) c e) (fine_rest _ _ f)).1)
    term_fits (Prim k es) c d h f = and_true (ap (takes primitives k) (terms_packed es c) ∙ h.0) (terms_fit es c (suc d) h.1 (fine_rest _ (all_term_heads two_written (suc d) (packed_terms E (bare_all c es))) f))
    term_fits (Marshal T a b) c d h f =
        let g = fine_both (type_heads T ++ hs! (suc d) c a) (hs! (suc d) c b) (fine_rest _ _ f) in
        let k = fine_both (type_heads T) (hs! (suc d) c a) g.0 in
        three (fits_type false T) (fits_term true (p! c a)) (fits_term true (p! c b)) h.0.0 (term_fits a c (suc d) h.1 k.1) (term_fits b c (suc d) h.2 g.1)
    term_fits (Unmarshal T e) c d h f = and_true h.0.0 (term_fits e c (suc d) h.1 (fine_both (type_heads T) (hs! (suc d) c e) (fine_rest _ _ f)).1)
    term_fits (Val T v) c d h f = absurd h
    term_fits (Evaluated T v) c d h f =
        let w = packed E (bare_value c v) T in
        let g = (fine_both (type_heads T) (value_heads two_written (suc d) w) (fine_rest _ _ f)).1 in
        and_true h.0.0 (whole (suc d) w (value_where v c T (suc d) h.1) g)
    term_fits (Bracket b T e) c d h f = absurd (true≢false (sym f.travels))

    terms_fit : (es : Exprs) (c : Home) (d : ℕ) → AllWithin true es → Fine (all_term_heads two_written d (packed_terms E (bare_all c es))) → fit_terms true (packed_terms E (bare_all c es)) ≡ true
    terms_fit no_exprs c d h f = refl
    terms_fit (expr e es) c d h f =
        let g = fine_both (hs! d c e) (all_term_heads two_written d (packed_terms E (bare_all c es))) f in
        and_true (term_fits e c d h.0 g.0) (terms_fit es c d h.1 g.1)

    arms_fit : (arms : Arms) (c : Home) (d : ℕ) → ArmsWithin arms → Fine (arm_heads two_written d (packed_arms E (bare_arms c arms))) → fit_arms true (packed_arms E (bare_arms c arms)) ≡ true
    arms_fit no_arms c d h f = refl
    arms_fit (arm p e rest) c d h f =
        let g = fine_both (pattern_heads d p ++ hs! d c e) (arm_heads two_written d (packed_arms E (bare_arms c rest))) f in
        let k = fine_both (pattern_heads d p) (hs! d c e) g.0 in
        three _ (fits_term true (p! c e)) (fit_arms true (packed_arms E (bare_arms c rest))) h.0.0 (term_fits e c d h.1 k.1) (arms_fit rest c d h.2 g.1)

  pub packed_fits : (v : Value) (c : Home) (T : Typ) (d : ℕ) → ValueWithin v → Fine (value_heads two_written d (packed E (bare_value c v) T)) → fits_value (packed E (bare_value c v) T) ≡ true
  packed_fits v c T d h f = whole d (packed E (bare_value c v) T) (value_where v c T d h) f
