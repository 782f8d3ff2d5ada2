-- A packet with other types in the places of its own nests as it did, and is within the bounds where each of the other types is.
use Rattle.std.proofs.Common.{◌≡◌, refl, sym, ap, ap₂, ◌∙◌, ℕ, ◌+◌, Bool, true, false, ◌&&◌, List, [], ◌∷◌, length, map, Option, Some, None}
use Rattle.std.specs.Prelude.{nat_le, max, option_map}
use Rattle.std.specs.List.{list_all}
use Rattle.std.specs.Option.{option_map_or}
use Rattle.std.proofs.lemmas.List.{length-map}
use Rattle.std.proofs.lemmas.List.Folds.{list_all-map}
use mathlib.Core.Bool.{true≢false}
use Rattle.ac_types.proofs.Same.{both_true, and_true}
use Rattle.ac_types.specs.Types.{Typ, is_small}
use Rattle.ac_types.specs.Sigs.{Typed_name, Sig_type, Signature}
use Rattle.ac_terms.specs.Terms.{Pattern, PWild, PVar, PInt, PBool, PStr, PUnit, PTuple, PNil, PCons, PAbsent, PPresent, PExn, PExnOf, Patterns, no_patterns, pattern', Expr, Int, Boolean, Str, Unit', Exn, ExnOf, Tuple, Nil, Empty, Present, Cons, Var, Own, Ref, Lam, Rec, App, Let, If, Seq, Match, Try, Raise, Prim, Marshal, Unmarshal, Val, Evaluated, Bracket, Exprs, no_exprs, expr, Arms, no_arms, arm, PValue, KInt, KBool, KStr, KUnit, KExn, KTuple, KList, KAbsent, KPresent, KFun, PValues, no_pvalues, pvalue}
use Rattle.ac_terms.specs.Defs.{Field, Def, AModule, AnImport, AMark, Packet}
use Rattle.ac_terms.specs.Parts.{part_types, def_parts, value_parts}
use Rattle.ac_terms.specs.PrimitiveTypes.{primitives}
use Rattle.ac_terms.specs.Pieces.{pattern_count, term_count, arm_count, value_count}
use Rattle.ac_terms.specs.Nesting.{pattern_nesting, pattern_depth, nesting, depth, arm_depth, value_nesting, value_depth}
use Rattle.ac_terms.specs.Bounds.{is_two, is_four, is_width, is_lower, is_lambda, takes, fits_type, fits_pattern, fit_patterns, fits_term, fit_terms, fit_arms, fits_value, fit_values, fits_home, fits_typed, fits_sig, fits_def, is_module_or_import, nests_little, has_small_types, fits_packet}
use Rattle.ac_terms.proofs.AllLaws.{all_implies}
use Rattle.ac_terms.proofs.BoundsLaws.{fits_field, packet_bounds}
use Rattle.ac_terms.proofs.Retyped.{pattern_retyped, patterns_retyped, retyped, all_retyped, arms_retyped, value_retyped, values_retyped, sig_type_retyped, typed_retyped, sig_retyped, field_retyped, def_retyped, packet_retyped, patterns_counted, terms_counted, arms_counted, values_counted, def_placed, value_placed}

module _ (h : Typ → Typ) where
  mutual
    pattern_nests : (p : Pattern) → pattern_nesting (pattern_retyped h p) ≡ pattern_nesting p
    pattern_nests PWild = refl
    pattern_nests (PVar T) = refl
    pattern_nests (PInt n) = refl
    pattern_nests (PBool n) = refl
    pattern_nests (PStr n) = refl
    pattern_nests PUnit = refl
    pattern_nests (PTuple ps) = ap (λ n. n + 1) (patterns_nest ps)
    pattern_nests PNil = refl
    pattern_nests (PCons p q) = ap₂ (λ x y. max x y + 1) (pattern_nests p) (pattern_nests q)
    pattern_nests PAbsent = refl
    pattern_nests (PPresent p) = ap (λ n. n + 1) (pattern_nests p)
    pattern_nests (PExn n) = refl
    pattern_nests (PExnOf n p) = ap (λ x. x + 1) (pattern_nests p)

    patterns_nest : (ps : Patterns) → pattern_depth (patterns_retyped h ps) ≡ pattern_depth ps
    patterns_nest no_patterns = refl
    patterns_nest (pattern' p ps) = ap₂ max (pattern_nests p) (patterns_nest ps)

  mutual
    pub term_nests : (e : Expr) → nesting (retyped h e) ≡ nesting e
    term_nests (Int n) = refl
    term_nests (Boolean n) = refl
    term_nests (Str n) = refl
    term_nests Unit' = refl
    term_nests (Exn n) = refl
    term_nests (ExnOf n e) = ap (λ x. x + 1) (term_nests e)
    term_nests (Tuple es) = ap (λ x. x + 1) (terms_nest es)
    term_nests (Nil T) = refl
    term_nests (Empty T) = refl
    term_nests (Present e) = ap (λ x. x + 1) (term_nests e)
    term_nests (Cons e b) = ap₂ (λ x y. max x y + 1) (term_nests e) (term_nests b)
    term_nests (Var n) = refl
    term_nests (Own n) = refl
    term_nests (Ref n m) = refl
    term_nests (Lam T e) = ap (λ x. x + 1) (term_nests e)
    term_nests (Rec T U e) = ap (λ x. x + 1) (term_nests e)
    term_nests (App e b) = ap₂ (λ x y. max x y + 1) (term_nests e) (term_nests b)
    term_nests (Let T e b) = ap₂ (λ x y. max x y + 1) (term_nests e) (term_nests b)
    term_nests (If e b d) = ap₂ (λ x y. max x y + 1) (term_nests e) (ap₂ max (term_nests b) (term_nests d))
    term_nests (Seq es) = ap (λ x. x + 1) (terms_nest es)
    term_nests (Match e cases) = ap₂ (λ x y. max x y + 1) (term_nests e) (arms_nest cases)
    term_nests (Try e cases) = ap₂ (λ x y. max x y + 1) (term_nests e) (arms_nest cases)
    term_nests (Raise T e) = ap (λ x. x + 1) (term_nests e)
    term_nests (Prim n es) = ap (λ x. x + 1) (terms_nest es)
    term_nests (Marshal T e b) = ap₂ (λ x y. max x y + 1) (term_nests e) (term_nests b)
    term_nests (Unmarshal T e) = ap (λ x. x + 1) (term_nests e)
    term_nests (Val T v) = ap (λ x. x + 1) (value_nests v)
    term_nests (Evaluated T n) = refl
    term_nests (Bracket n T e) = refl

    terms_nest : (es : Exprs) → depth (all_retyped h es) ≡ depth es
    terms_nest no_exprs = refl
    terms_nest (expr e es) = ap₂ max (term_nests e) (terms_nest es)

    arms_nest : (cases : Arms) → arm_depth (arms_retyped h cases) ≡ arm_depth cases
    arms_nest no_arms = refl
    arms_nest (arm p e rest) = ap₂ max (pattern_nests p) (ap₂ max (term_nests e) (arms_nest rest))

    pub value_nests : (v : PValue) → value_nesting (value_retyped h v) ≡ value_nesting v
    value_nests (KInt n) = refl
    value_nests (KBool n) = refl
    value_nests (KStr n) = refl
    value_nests KUnit = refl
    value_nests (KExn n m) = refl
    value_nests (KTuple vs) = ap (λ x. x + 1) (values_nest vs)
    value_nests (KList vs) = ap (λ x. x + 1) (values_nest vs)
    value_nests KAbsent = refl
    value_nests (KPresent v) = ap (λ x. x + 1) (value_nests v)
    value_nests (KFun n e) = ap (λ x. x + 1) (term_nests e)

    values_nest : (vs : PValues) → value_depth (values_retyped h vs) ≡ value_depth vs
    values_nest no_pvalues = refl
    values_nest (pvalue v vs) = ap₂ max (value_nests v) (values_nest vs)

  same_lambda : (e : Expr) → is_lambda (retyped h e) ≡ is_lambda e
  same_lambda (Int n) = refl
  same_lambda (Boolean n) = refl
  same_lambda (Str n) = refl
  same_lambda Unit' = refl
  same_lambda (Exn n) = refl
  same_lambda (ExnOf n e) = refl
  same_lambda (Tuple es) = refl
  same_lambda (Nil T) = refl
  same_lambda (Empty T) = refl
  same_lambda (Present e) = refl
  same_lambda (Cons e b) = refl
  same_lambda (Var n) = refl
  same_lambda (Own n) = refl
  same_lambda (Ref n m) = refl
  same_lambda (Lam T e) = refl
  same_lambda (Rec T U e) = refl
  same_lambda (App e b) = refl
  same_lambda (Let T e b) = refl
  same_lambda (If e b d) = refl
  same_lambda (Seq es) = refl
  same_lambda (Match e cases) = refl
  same_lambda (Try e cases) = refl
  same_lambda (Raise T e) = refl
  same_lambda (Prim n es) = refl
  same_lambda (Marshal T e b) = refl
  same_lambda (Unmarshal T e) = refl
  same_lambda (Val T v) = refl
  same_lambda (Evaluated T n) = refl
  same_lambda (Bracket n T e) = refl

  -- each of the other types is within the bounds, and small
  module _ (fine : (T : Typ) → fits_type false (h T) ≡ true) (own_fine : (T : Typ) → fits_type true (h T) ≡ true) (small : (T : Typ) → is_small (h T) ≡ true) where
    and_is : (a b : Bool) → a ≡ true → b ≡ true → (a && b) ≡ true
    and_is a b p q = and_true {a = a} {b = b} p q

    -- a count that stays, and what is counted
    counted : (test : ℕ → Bool) (n m : ℕ) (b b' : Bool) → m ≡ n → (b ≡ true → b' ≡ true) → (test n && b) ≡ true → (test m && b') ≡ true
    counted test n m b b' e f w = let a = both_true (test n) b w in and_is (test m) b' (ap test e ∙ a.0) (f a.1)

    mutual
      pattern_fits : (p : Pattern) → fits_pattern p ≡ true → fits_pattern (pattern_retyped h p) ≡ true
      pattern_fits PWild w = w
      pattern_fits (PVar T) w = fine T
      pattern_fits (PInt n) w = w
      pattern_fits (PBool n) w = w
      pattern_fits (PStr n) w = w
      pattern_fits PUnit w = w
      pattern_fits (PTuple ps) w = counted is_width (pattern_count ps) (pattern_count (patterns_retyped h ps)) (fit_patterns ps) (fit_patterns (patterns_retyped h ps)) (patterns_counted h ps) (patterns_fit ps) w
      pattern_fits PNil w = w
      pattern_fits (PCons p q) w = let a = both_true (fits_pattern p) (fits_pattern q) w in and_is (fits_pattern (pattern_retyped h p)) (fits_pattern (pattern_retyped h q)) (pattern_fits p a.0) (pattern_fits q a.1)
      pattern_fits PAbsent w = w
      pattern_fits (PPresent p) w = pattern_fits p w
      pattern_fits (PExn n) w = w
      pattern_fits (PExnOf n p) w = let a = both_true _ (fits_pattern p) w in and_is _ (fits_pattern (pattern_retyped h p)) a.0 (pattern_fits p a.1)

      patterns_fit : (ps : Patterns) → fit_patterns ps ≡ true → fit_patterns (patterns_retyped h ps) ≡ true
      patterns_fit no_patterns w = refl
      patterns_fit (pattern' p ps) w = let a = both_true (fits_pattern p) (fit_patterns ps) w in and_is (fits_pattern (pattern_retyped h p)) (fit_patterns (patterns_retyped h ps)) (pattern_fits p a.0) (patterns_fit ps a.1)

    mutual
      term_fits : (i : Bool) (e : Expr) → fits_term i e ≡ true → fits_term i (retyped h e) ≡ true
      term_fits i (Int n) w = w
      term_fits i (Boolean n) w = w
      term_fits i (Str n) w = w
      term_fits i Unit' w = w
      term_fits i (Exn n) w = w
      term_fits i (ExnOf n e) w = let a = both_true _ (fits_term i e) w in and_is _ (fits_term i (retyped h e)) a.0 (term_fits i e a.1)
      term_fits i (Tuple es) w = counted is_width (term_count es) (term_count (all_retyped h es)) (fit_terms i es) (fit_terms i (all_retyped h es)) (terms_counted h es) (terms_fit i es) w
      term_fits i (Nil T) w = fine T
      term_fits i (Empty T) w = fine T
      term_fits i (Present e) w = term_fits i e w
      term_fits i (Cons e b) w = let a = both_true (fits_term i e) (fits_term i b) w in and_is (fits_term i (retyped h e)) (fits_term i (retyped h b)) (term_fits i e a.0) (term_fits i b a.1)
      term_fits i (Var n) w = w
      term_fits i (Own n) w = w
      term_fits i (Ref n m) w = w
      term_fits i (Lam T e) w = let a = both_true (fits_type false T) (fits_term i e) w in and_is (fits_type false (h T)) (fits_term i (retyped h e)) (fine T) (term_fits i e a.1)
      term_fits i (Rec T U e) w =
          let a = both_true (fits_type false T && fits_type false U) (fits_term i e) w in
          and_is (fits_type false (h T) && fits_type false (h U)) (fits_term i (retyped h e)) (and_is (fits_type false (h T)) (fits_type false (h U)) (fine T) (fine U)) (term_fits i e a.1)
      term_fits i (App e b) w = let a = both_true (fits_term i e) (fits_term i b) w in and_is (fits_term i (retyped h e)) (fits_term i (retyped h b)) (term_fits i e a.0) (term_fits i b a.1)
      term_fits i (Let T e b) w =
          let a = both_true (fits_type false T && fits_term i e) (fits_term i b) w in
          let c = both_true (fits_type false T) (fits_term i e) a.0 in
          and_is (fits_type false (h T) && fits_term i (retyped h e)) (fits_term i (retyped h b)) (and_is (fits_type false (h T)) (fits_term i (retyped h e)) (fine T) (term_fits i e c.1)) (term_fits i b a.1)
      term_fits i (If e b d) w =
          let a = both_true (fits_term i e && fits_term i b) (fits_term i d) w in
          let c = both_true (fits_term i e) (fits_term i b) a.0 in
          and_is (fits_term i (retyped h e) && fits_term i (retyped h b)) (fits_term i (retyped h d)) (and_is (fits_term i (retyped h e)) (fits_term i (retyped h b)) (term_fits i e c.0) (term_fits i b c.1)) (term_fits i d a.1)
      term_fits i (Seq es) w = counted (λ n. nat_le 2 n && is_four n) (term_count es) (term_count (all_retyped h es)) (fit_terms i es) (fit_terms i (all_retyped h es)) (terms_counted h es) (terms_fit i es) w
      term_fits i (Match e cases) w =
          let few = both_true (fits_term i e && fit_arms i cases && nat_le 1 (arm_count cases)) (nat_le (arm_count cases) 1024) w in
          let some = both_true (fits_term i e && fit_arms i cases) (nat_le 1 (arm_count cases)) few.0 in
          let a = both_true (fits_term i e) (fit_arms i cases) some.0 in
          let n = arms_counted h cases in
          and_is (fits_term i (retyped h e) && fit_arms i (arms_retyped h cases) && nat_le 1 (arm_count (arms_retyped h cases))) (nat_le (arm_count (arms_retyped h cases)) 1024)
          (and_is (fits_term i (retyped h e) && fit_arms i (arms_retyped h cases)) (nat_le 1 (arm_count (arms_retyped h cases)))
          (and_is (fits_term i (retyped h e)) (fit_arms i (arms_retyped h cases)) (term_fits i e a.0) (arms_fit i cases a.1)) (ap (nat_le 1) n ∙ some.1)) (ap (λ k. nat_le k 1024) n ∙ few.1)
      term_fits i (Try e cases) w =
          let few = both_true (fits_term i e && fit_arms i cases && nat_le 1 (arm_count cases)) (nat_le (arm_count cases) 1024) w in
          let some = both_true (fits_term i e && fit_arms i cases) (nat_le 1 (arm_count cases)) few.0 in
          let a = both_true (fits_term i e) (fit_arms i cases) some.0 in
          let n = arms_counted h cases in
          and_is (fits_term i (retyped h e) && fit_arms i (arms_retyped h cases) && nat_le 1 (arm_count (arms_retyped h cases))) (nat_le (arm_count (arms_retyped h cases)) 1024)
          (and_is (fits_term i (retyped h e) && fit_arms i (arms_retyped h cases)) (nat_le 1 (arm_count (arms_retyped h cases)))
          (and_is (fits_term i (retyped h e)) (fit_arms i (arms_retyped h cases)) (term_fits i e a.0) (arms_fit i cases a.1)) (ap (nat_le 1) n ∙ some.1)) (ap (λ k. nat_le k 1024) n ∙ few.1)
      term_fits i (Raise T e) w = let a = both_true (fits_type false T) (fits_term i e) w in and_is (fits_type false (h T)) (fits_term i (retyped h e)) (fine T) (term_fits i e a.1)
      term_fits i (Prim n es) w = counted (takes primitives n) (term_count es) (term_count (all_retyped h es)) (fit_terms i es) (fit_terms i (all_retyped h es)) (terms_counted h es) (terms_fit i es) w
      term_fits i (Marshal T e b) w =
          let a = both_true (fits_type false T && fits_term i e) (fits_term i b) w in
          let c = both_true (fits_type false T) (fits_term i e) a.0 in
          and_is (fits_type false (h T) && fits_term i (retyped h e)) (fits_term i (retyped h b)) (and_is (fits_type false (h T)) (fits_term i (retyped h e)) (fine T) (term_fits i e c.1)) (term_fits i b a.1)
      term_fits i (Unmarshal T e) w = let a = both_true (fits_type false T) (fits_term i e) w in and_is (fits_type false (h T)) (fits_term i (retyped h e)) (fine T) (term_fits i e a.1)
      term_fits i (Val T v) w =
          let a = both_true (i && fits_type false T) (fits_value v) w in
          let c = both_true i (fits_type false T) a.0 in
          and_is (i && fits_type false (h T)) (fits_value (value_retyped h v)) (and_is i (fits_type false (h T)) c.0 (fine T)) (value_fits v a.1)
      term_fits i (Evaluated T n) w = absurd (true≢false (sym w))
      term_fits i (Bracket n T e) w = absurd (true≢false (sym w))

      terms_fit : (i : Bool) (es : Exprs) → fit_terms i es ≡ true → fit_terms i (all_retyped h es) ≡ true
      terms_fit i no_exprs w = refl
      terms_fit i (expr e es) w = let a = both_true (fits_term i e) (fit_terms i es) w in and_is (fits_term i (retyped h e)) (fit_terms i (all_retyped h es)) (term_fits i e a.0) (terms_fit i es a.1)

      arms_fit : (i : Bool) (cases : Arms) → fit_arms i cases ≡ true → fit_arms i (arms_retyped h cases) ≡ true
      arms_fit i no_arms w = refl
      arms_fit i (arm p e rest) w =
          let a = both_true (fits_pattern p && fits_term i e) (fit_arms i rest) w in
          let c = both_true (fits_pattern p) (fits_term i e) a.0 in
          and_is (fits_pattern (pattern_retyped h p) && fits_term i (retyped h e)) (fit_arms i (arms_retyped h rest)) (and_is (fits_pattern (pattern_retyped h p)) (fits_term i (retyped h e)) (pattern_fits p c.0) (term_fits i e c.1)) (arms_fit i rest a.1)

      value_fits : (v : PValue) → fits_value v ≡ true → fits_value (value_retyped h v) ≡ true
      value_fits (KInt n) w = w
      value_fits (KBool n) w = w
      value_fits (KStr n) w = w
      value_fits KUnit w = w
      value_fits (KExn n m) w = w
      value_fits (KTuple vs) w = counted is_width (value_count vs) (value_count (values_retyped h vs)) (fit_values vs) (fit_values (values_retyped h vs)) (values_counted h vs) (values_fit vs) w
      value_fits (KList vs) w = counted is_four (value_count vs) (value_count (values_retyped h vs)) (fit_values vs) (fit_values (values_retyped h vs)) (values_counted h vs) (values_fit vs) w
      value_fits KAbsent w = w
      value_fits (KPresent v) w = value_fits v w
      value_fits (KFun n e) w =
          let a = both_true (fits_home n && is_lambda e) (fits_term true e) w in
          let c = both_true (fits_home n) (is_lambda e) a.0 in
          and_is (fits_home n && is_lambda (retyped h e)) (fits_term true (retyped h e)) (and_is (fits_home n) (is_lambda (retyped h e)) c.0 (same_lambda e ∙ c.1)) (term_fits true e a.1)

      values_fit : (vs : PValues) → fit_values vs ≡ true → fit_values (values_retyped h vs) ≡ true
      values_fit no_pvalues w = refl
      values_fit (pvalue v vs) w = let a = both_true (fits_value v) (fit_values vs) w in and_is (fits_value (value_retyped h v)) (fit_values (values_retyped h vs)) (value_fits v a.0) (values_fit vs a.1)

    -- lists of changed items
    items_pass : {A : Type 0} (change : A → A) (test : A → Bool) → ((x : A) → test x ≡ true → test (change x) ≡ true) → (xs : List A) → list_all test xs ≡ true → list_all test (map change xs) ≡ true
    items_pass change test one xs w = list_all-map test change xs ∙ all_implies test (λ x. test (change x)) one xs w

    as_many : {A : Type 0} (change : A → A) (test : ℕ → Bool) (xs : List A) → test (length xs) ≡ true → test (length (map change xs)) ≡ true
    as_many change test xs w = ap test (length-map xs change) ∙ w

    typed_fits : (own : Bool) (x : Typed_name) → fits_typed own x ≡ true → fits_typed own (typed_retyped h x) ≡ true
    typed_fits own x w = and_is (is_lower x.name) (fits_type own (h x.ty)) (both_true (is_lower x.name) (fits_type own x.ty) w).0 (by own)
      where
        by : (b : Bool) → fits_type b (h x.ty) ≡ true
        by true = own_fine x.ty
        by false = fine x.ty

    abbrev fits_sig_type : Sig_type → Bool
    fits_sig_type t = is_lower t.name && option_map_or (fits_type true) t.manifest true

    sig_type_fits : (t : Sig_type) → fits_sig_type t ≡ true → fits_sig_type (sig_type_retyped h t) ≡ true
    sig_type_fits t w =
        let a = both_true (is_lower t.name) (option_map_or (fits_type true) t.manifest true) w in
        and_is (is_lower t.name) (option_map_or (fits_type true) (option_map h t.manifest) true) a.0 (by t.manifest)
      where
        by : (o : Option Typ) → option_map_or (fits_type true) (option_map h o) true ≡ true
        by None = refl
        by (Some T) = own_fine T

    sig_fits : (s : Signature) → fits_sig s ≡ true → fits_sig (sig_retyped h s) ≡ true
    sig_fits s w =
        let a = both_true (nat_le (length s.types) 1024 && nat_le (length s.vals) 1024 && list_all fits_sig_type s.types) (list_all (fits_typed true) s.vals) w in
        let b = both_true (nat_le (length s.types) 1024 && nat_le (length s.vals) 1024) (list_all fits_sig_type s.types) a.0 in
        let c = both_true (nat_le (length s.types) 1024) (nat_le (length s.vals) 1024) b.0 in
        let few : ℕ → Bool = λ n. nat_le n 1024 in
        and_is _ _ (and_is _ _ (and_is _ _ (as_many (sig_type_retyped h) few s.types c.0) (as_many (typed_retyped h) few s.vals c.1)) (items_pass (sig_type_retyped h) fits_sig_type sig_type_fits s.types b.1)) (items_pass (typed_retyped h) (fits_typed true) (typed_fits true) s.vals a.1)

    field_fits : (f : Field) → fits_field f ≡ true → fits_field (field_retyped h f) ≡ true
    field_fits f w =
        let a = both_true (is_lower f.name && fits_type false f.ty) (fits_term false f.term) w in
        let b = both_true (is_lower f.name) (fits_type false f.ty) a.0 in
        and_is (is_lower f.name && fits_type false (h f.ty)) (fits_term false (retyped h f.term)) (and_is (is_lower f.name) (fits_type false (h f.ty)) b.0 (fine f.ty)) (term_fits false f.term a.1)

    def_fits : (d : Def) → fits_def d ≡ true → fits_def (def_retyped h d) ≡ true
    def_fits (AModule m) w =
        let few : ℕ → Bool = λ n. nat_le n 1024 in
        let a = both_true _ _ w in
        let b = both_true _ _ a.0 in
        let c = both_true _ _ b.0 in
        let d = both_true _ _ c.0 in
        let s = both_true _ _ d.0 in
        and_is _ _ (and_is _ _ (and_is _ _ (and_is _ _ (and_is _ _ s.0 (sig_fits m.sig s.1)) (as_many (typed_retyped h) few m.types d.1)) (items_pass (typed_retyped h) (fits_typed false) (typed_fits false) m.types c.1)) (as_many (field_retyped h) few m.fields b.1)) (items_pass (field_retyped h) fits_field field_fits m.fields a.1)
    def_fits (AnImport i) w =
        let few : ℕ → Bool = λ n. nat_le n 1024 in
        let a = both_true _ _ w in
        let b = both_true _ _ a.0 in
        let c = both_true _ _ b.0 in
        let d = both_true _ _ c.0 in
        let l = both_true _ _ d.0 in
        let n = both_true _ _ l.0 in
        let s = both_true _ _ n.0 in
        and_is _ _ (and_is _ _ (and_is _ _ (and_is _ _ (and_is _ _ (and_is _ _ (and_is _ _ s.0 (sig_fits i.sig s.1)) n.1) (as_many (typed_retyped h) few i.like l.1)) (items_pass (typed_retyped h) (fits_typed false) (typed_fits false) i.like d.1)) c.1) b.1) a.1
    def_fits (AMark t) w = w

    kind_stays : (d : Def) → is_module_or_import d ≡ true → is_module_or_import (def_retyped h d) ≡ true
    kind_stays (AModule m) w = refl
    kind_stays (AnImport i) w = refl
    kind_stays (AMark t) w = w

    fields_nest : (fs : List Field) → map (λ (f : Field). nesting f.term) (map (field_retyped h) fs) ≡ map (λ (f : Field). nesting f.term) fs
    fields_nest [] = refl
    fields_nest (f ∷ fs) = ap₂ (λ n ns. n ∷ ns) (term_nests f.term) (fields_nest fs)

    def_nests : (d : Def) → nests_little d ≡ true → nests_little (def_retyped h d) ≡ true
    def_nests (AModule m) w = ap (list_all (λ n. nat_le n 500)) (fields_nest m.fields) ∙ w
    def_nests (AnImport i) w = w
    def_nests (AMark t) w = w

    all_small : (Ts : List Typ) → list_all is_small (map h Ts) ≡ true
    all_small [] = refl
    all_small (T ∷ Ts) = and_is (is_small (h T)) (list_all is_small (map h Ts)) (small T) (all_small Ts)

    def_small : (d : Def) → has_small_types (def_parts d) ≡ true → has_small_types (def_parts (def_retyped h d)) ≡ true
    def_small d w = ap (list_all is_small) (def_placed h d) ∙ all_small (part_types (def_parts d))

    pub packet_fits : (p : Packet) → fits_packet p ≡ true → fits_packet (packet_retyped h p) ≡ true
    packet_fits p w =
        let b = packet_bounds p w in
        and_is _ _ (and_is _ _ (and_is _ _ (and_is _ _ (and_is _ _ (and_is _ _ (and_is _ _ (and_is _ _ (and_is _ _ (as_many (def_retyped h) is_two p.defs b.few)
        (items_pass (def_retyped h) is_module_or_import kind_stays p.defs b.kinds))
        (items_pass (def_retyped h) fits_def def_fits p.defs b.defs))
        (items_pass (def_retyped h) nests_little def_nests p.defs b.defs_nest))
        (items_pass (def_retyped h) (λ (d : Def). has_small_types (def_parts d)) def_small p.defs b.def_types))
        (fine p.ty))
        (small p.ty))
        (value_fits p.value b.value))
        (ap (λ n. nat_le n 500) (value_nests p.value) ∙ b.nests))
        (ap (list_all is_small) (value_placed h p.value) ∙ all_small (part_types (value_parts p.value)))
