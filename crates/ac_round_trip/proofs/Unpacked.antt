-- Packing loses nothing: without brackets the packed value, where all of it has a spelling, stands for the value itself.
use Rattle.std.proofs.Common.{◌≡◌, refl, sym, ap, ap₂, ℕ, suc, Bool, true, false, Option, Some, None}
use Rattle.std.proofs.lemmas.Bool.Decides.{nat_tests}
use mathlib.Core.Bool.{true≢false}
use native.Mathlib.Omega.{arith}
use Rattle.ac_types.proofs.Same.{both_true, and_true}
use Rattle.ac_types.specs.Types.{Typ, Typs, no_types, typ}
use Rattle.ac_terms.specs.Terms.{Home, Expr, Int, Boolean, Str, Unit', Exn, ExnOf, Tuple, Nil, Empty, Present, Cons, Var, Own, Ref, Lam, Rec, App, Let, If, Seq, Match, Try, Raise, Prim, Marshal, Unmarshal, Val, Evaluated, Bracket, Exprs, no_exprs, expr, Arms, no_arms, arm, PValue, KTuple, KList, KPresent, KFun, PValues, pvalue, Value, VInt, VBool, VStr, VUnit, VExn, VTuple, VNil, VCons, VAbsent, VPresent, VLam, VRec, VProxy, VSeal, Values, no_values, value}
use Rattle.ac_terms.specs.Defs.{Environment}
use Rattle.ac_terms.specs.Spelling.{value_count}
use Rattle.ac_terms.specs.Bounds.{is_four, fits_term, fit_terms, fit_arms, fits_value, fit_values}
use Rattle.ac_rules.specs.Views.{head}
use Rattle.ac_rules.specs.Typing.{tuple_parts, list_item, option_item}
use Rattle.ac_rules.specs.Plain.{stays, where_there, in_front, may_travel, packed, all_packed, packed_term, packed_terms, packed_arms}
use Rattle.ac_meaning.specs.BareTerms.{BExnOf, BTuple, BPresent, BCons, BLam, BRec, BApp, BLet, BIf, BSeq, BMatch, BTry, BRaise, BPrim, BMarshal, BUnmarshal, BVal, bare', bare_arm, BareValue, WTuple, WCons, WPresent, WLam, WRec, BareValues, bare_value', bare_term, bare_all, bare_arms, bare_value, bare_values, unpacked, all_unpacked}
use Rattle.ac_meaning.proofs.Inst.{ap₃}

one_less : (n : ℕ) → is_four (suc n) ≡ true → is_four n ≡ true
one_less n h = grind (arith, nat_tests)

-- of what a type has
parts_there : (o : Option Typs) (w : Typs → PValues) (vs : BareValues) → ((Ts : Typs) → fit_values (w Ts) ≡ true → all_unpacked (w Ts) ≡ vs) → fits_value (where_there o (λ Ts. KTuple (w Ts))) ≡ true → unpacked (where_there o (λ Ts. KTuple (w Ts))) ≡ WTuple vs
parts_there None w vs go h = absurd (true≢false (sym h))
parts_there (Some Ts) w vs go h = ap WTuple (go Ts (both_true _ _ h).1)

content_there : (o : Option Typ) (w : Typ → PValue) (v : BareValue) → ((A : Typ) → fits_value (w A) ≡ true → unpacked (w A) ≡ v) → fits_value (where_there o (λ A. KPresent (w A))) ≡ true → unpacked (where_there o (λ A. KPresent (w A))) ≡ WPresent v
content_there None w v go h = absurd (true≢false (sym h))
content_there (Some A) w v go h = ap WPresent (go A h)

item_there : (o : Option Typ) (w : Typ → PValue) (v u : BareValue) (r : PValue) → ((A : Typ) → fits_value (w A) ≡ true → unpacked (w A) ≡ v) → (fits_value r ≡ true → unpacked r ≡ u) → fits_value (in_front (where_there o w) r) ≡ true → unpacked (in_front (where_there o w) r) ≡ WCons v u
item_there None w v u (KList ws) go rest h = absurd (true≢false (sym (both_true (fits_value stays) (fit_values ws) (both_true _ _ h).1).0))
item_there (Some A) w v u (KList ws) go rest h =
    let p = both_true (is_four (suc (value_count ws))) (fit_values (pvalue (w A) ws)) h in
    let q = both_true (fits_value (w A)) (fit_values ws) p.1 in
    ap₂ WCons (go A q.0) (rest (and_true {a = is_four (value_count ws)} {b = fit_values ws} (one_less (value_count ws) p.0) q.1))
item_there o w v u _ go rest h = absurd (true≢false (sym h))

function_there : (b : Bool) (c : Home) (l : Expr) (v : BareValue) → (fits_term true l ≡ true → unpacked (KFun c l) ≡ v) → fits_value (elim b as (λ z. PValue) [ true ↦ KFun c l | false ↦ stays ]) ≡ true → unpacked (elim b as (λ z. PValue) [ true ↦ KFun c l | false ↦ stays ]) ≡ v
function_there true c l v go h = go (both_true _ _ h).1
function_there false c l v go h = absurd (true≢false (sym h))

module _ (E : Environment) where
  mutual
    pub unpacked_packed : (v : Value) (c : Home) (T : Typ) → fits_value (packed E c v T) ≡ true → unpacked (packed E c v T) ≡ bare_value c v
    unpacked_packed (VInt n) c T h = refl
    unpacked_packed (VBool b) c T h = refl
    unpacked_packed (VStr s) c T h = refl
    unpacked_packed VUnit c T h = refl
    unpacked_packed (VExn k s) c T h = refl
    unpacked_packed (VTuple vs) c T h = parts_there (tuple_parts (head E T)) (all_packed E c vs) (bare_values c vs) (λ Ts w. all_unpacked_packed vs c Ts w) h
    unpacked_packed (VNil U) c T h = refl
    unpacked_packed (VCons v u) c T h = item_there (list_item (head E T)) (λ A. packed E c v A) (bare_value c v) (bare_value c u) (packed E c u T) (λ A w. unpacked_packed v c A w) (λ w. unpacked_packed u c T w) h
    unpacked_packed (VAbsent U) c T h = refl
    unpacked_packed (VPresent v) c T h = content_there (option_item (head E T)) (λ A. packed E c v A) (bare_value c v) (λ A w. unpacked_packed v c A w) h
    unpacked_packed (VLam U e) c T h =
        function_there (may_travel E c (Lam U (packed_term E c e)) T) c (Lam U (packed_term E c e)) (WLam c U (bare_term c e)) (λ w. ap (WLam c U) (term_packed e c (both_true _ _ w).1)) h
    unpacked_packed (VRec U W e) c T h =
        function_there (may_travel E c (Rec U W (packed_term E c e)) T) c (Rec U W (packed_term E c e)) (WRec c U W (bare_term c e)) (λ w. ap (WRec c U W) (term_packed e c (both_true _ _ w).1)) h
    unpacked_packed (VProxy b U W v) c T h = unpacked_packed v b T h
    unpacked_packed (VSeal b n t v) c T h = unpacked_packed v b T h

    all_unpacked_packed : (vs : Values) (c : Home) (Ts : Typs) → fit_values (all_packed E c vs Ts) ≡ true → all_unpacked (all_packed E c vs Ts) ≡ bare_values c vs
    all_unpacked_packed no_values c no_types h = refl
    all_unpacked_packed no_values c (typ T Ts) h = absurd (true≢false (sym h))
    all_unpacked_packed (value v vs) c no_types h = absurd (true≢false (sym h))
    all_unpacked_packed (value v vs) c (typ T Ts) h = let p = both_true _ _ h in ap₂ bare_value' (unpacked_packed v c T p.0) (all_unpacked_packed vs c Ts p.1)

    term_packed : (e : Expr) (c : Home) → fits_term true (packed_term E c e) ≡ true → bare_term c (packed_term E c e) ≡ bare_term c e
    term_packed (Int n) c h = refl
    term_packed (Boolean b) c h = refl
    term_packed (Str s) c h = refl
    term_packed Unit' c h = refl
    term_packed (Exn k) c h = refl
    term_packed (Nil T) c h = refl
    term_packed (Empty T) c h = refl
    term_packed (Var i) c h = refl
    term_packed (Own i) c h = refl
    term_packed (Ref j x) c h = refl
    term_packed (ExnOf k e) c h = ap (BExnOf k) (term_packed e c (both_true _ _ h).1)
    term_packed (Tuple es) c h = ap BTuple (terms_packed es c (both_true _ _ h).1)
    term_packed (Present e) c h = ap BPresent (term_packed e c h)
    term_packed (Cons a b) c h = let p = both_true _ _ h in ap₂ BCons (term_packed a c p.0) (term_packed b c p.1)
    term_packed (Lam T e) c h = ap (BLam T) (term_packed e c (both_true _ _ h).1)
    term_packed (Rec T U e) c h = ap (BRec T U) (term_packed e c (both_true _ _ h).1)
    term_packed (App a b) c h = let p = both_true _ _ h in ap₂ BApp (term_packed a c p.0) (term_packed b c p.1)
    term_packed (Let T a b) c h = let p = both_true _ _ h in ap₂ (BLet T) (term_packed a c (both_true _ _ p.0).1) (term_packed b c p.1)
    term_packed (If a b e) c h = let p = both_true _ _ h in let q = both_true _ _ p.0 in ap₃ BIf (term_packed a c q.0) (term_packed b c q.1) (term_packed e c p.1)
    term_packed (Seq es) c h = ap BSeq (terms_packed es c (both_true _ _ h).1)
    term_packed (Match e bs) c h = let p = both_true _ _ (both_true _ _ (both_true _ _ h).0).0 in ap₂ BMatch (term_packed e c p.0) (arms_packed bs c p.1)
    term_packed (Try e bs) c h = let p = both_true _ _ (both_true _ _ (both_true _ _ h).0).0 in ap₂ BTry (term_packed e c p.0) (arms_packed bs c p.1)
    term_packed (Raise T e) c h = ap (BRaise T) (term_packed e c (both_true _ _ h).1)
    term_packed (Prim k es) c h = ap (BPrim k) (terms_packed es c (both_true _ _ h).1)
    term_packed (Marshal T a b) c h = let p = both_true _ _ h in ap₂ (BMarshal T) (term_packed a c (both_true _ _ p.0).1) (term_packed b c p.1)
    term_packed (Unmarshal T e) c h = ap (BUnmarshal T) (term_packed e c (both_true _ _ h).1)
    term_packed (Val T v) c h = refl
    term_packed (Evaluated T v) c h = ap (BVal T) (unpacked_packed v c T (both_true _ _ h).1)
    term_packed (Bracket b T e) c h = absurd (true≢false (sym h))

    terms_packed : (es : Exprs) (c : Home) → fit_terms true (packed_terms E c es) ≡ true → bare_all c (packed_terms E c es) ≡ bare_all c es
    terms_packed no_exprs c h = refl
    terms_packed (expr e es) c h = let p = both_true _ _ h in ap₂ bare' (term_packed e c p.0) (terms_packed es c p.1)

    arms_packed : (bs : Arms) (c : Home) → fit_arms true (packed_arms E c bs) ≡ true → bare_arms c (packed_arms E c bs) ≡ bare_arms c bs
    arms_packed no_arms c h = refl
    arms_packed (arm x e bs) c h = let p = both_true _ _ h in ap₂ (bare_arm x) (term_packed e c (both_true _ _ p.0).1) (arms_packed bs c p.1)
