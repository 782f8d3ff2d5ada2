-- Terms and packed values are read exactly, whatever reads types.
use Rattle.std.proofs.Common.{◌≡◌, refl, ap, sym, subst, ◌∙◌, ℕ, zero, suc, ◌≤◌, Bool, true, false, ◌&&◌, List, [], ◌∷◌, ◌++◌, map, Some, None, append_assoc}
use Rattle.std.specs.List.{list_all}
use native.Mathlib.Omega.{arith}
use mathlib.Core.Bool.{true≢false}
use Rattle.ac_types.proofs.FirstLaws.{none≢some}
use Rattle.ac_types.proofs.Same.{both_true, and_true}
use Rattle.ac_types.specs.Limits.{longest_string}
use Rattle.ac_types.specs.Types.{Bytes, Typ, is_small}
use Rattle.ac_terms.specs.Terms.{Pattern, Expr, Int, Boolean, Str, Unit', Exn, ExnOf, Tuple, Nil, Empty, Present, Cons, Var, Own, Ref, Lam, Rec, App, Let, If, Seq, Match, Try, Raise, Prim, Marshal, Unmarshal, Val, Evaluated, Bracket, Exprs, no_exprs, expr, Arms, no_arms, arm, PValue, KInt, KBool, KStr, KUnit, KExn, KTuple, KList, KAbsent, KPresent, KFun, PValues, no_pvalues, pvalue}
use Rattle.ac_types.specs.Exceptions.{has_text}
use Rattle.ac_terms.specs.PrimitiveTypes.{Rule, primitives}
use Rattle.ac_terms.specs.Nesting.{nesting, depth, arm_depth, value_nesting, value_depth}
use Rattle.ac_terms.specs.Parts.{OfType, pattern_types, term_parts, all_term_parts, arm_parts, value_parts, all_value_parts}
use Rattle.ac_terms.specs.Spelling.{one_written, two_written, four_written, type_count, term_count, arm_count, value_count}
use Rattle.ac_terms.specs.SpelledBy.{pattern_bytes, term_bytes, all_term_bytes, arm_bytes, value_bytes, all_value_bytes}
use Rattle.ac_terms.specs.Bounds.{is_width, is_four, takes, is_lambda, fits_term, fit_terms, fit_arms, fits_value, fit_values, has_small_types}
use Rattle.ac_terms.specs.PacketReading.{ReadsPart, one, then_read, pair, times, argument_count}
use Rattle.ac_terms.proofs.Back.{Back, back_give, back_one, back_two, back_three, back_counted, back_after}
use Rattle.ac_terms.proofs.TestLaws.{not_true, eq_true}
use Rattle.ac_decode_pieces.specs.ExactReading.{in_limits, passing, exact_width, exact_four, exact_text}
use Rattle.ac_decode_pieces.proofs.Exact.{Took, IsExact, once, twice, times_sound, exact_passing, exact_two_parts}
use Rattle.ac_decode_pieces.proofs.Tables.{SoundAt, SoundFrom, table_sound, sound_nothing, sound_give, sound_one, sound_two, sound_three}
use Rattle.ac_decode_pieces.proofs.Pieces.{two_is_exact, four_is_exact, eight_is_exact, truth_is_exact, lower_is_exact, text_is_exact, width_is_exact, long_count_is_exact}
use Rattle.ac_decode_pieces.proofs.TypesExact.{SmallType, exact_counted}
use Rattle.ac_decode.specs.inner.ExactTerms.{several, exact_primitive, exact_several, exact_captured, exact_cases, an_arm, exact_pattern, exact_term_table, exact_value_table, exact_term, exact_value}
use Rattle.ac_decode.proofs.PartsSmall.{small_join, small_left, small_right, types_as_parts}
use Rattle.ac_decode.proofs.Texts.{primitive_is_exact, home_is_exact, sound_text, back_with_text, back_without_text}
use Rattle.ac_decode.proofs.PatternsExact.{Proper, pattern_is_exact, without_text, text_exn}

-- terms and packed values of at most that nesting
pub record ProperTerm (i : Bool) (k : ℕ) (e : Expr) : Type 0 where
  pub fits : fits_term i e ≡ true
  pub low : nesting e ≤ k
  pub small : has_small_types (term_parts e) ≡ true

record ProperTerms (i : Bool) (k : ℕ) (es : Exprs) : Type 0 where
  fits : fit_terms i es ≡ true
  low : depth es ≤ k
  small : has_small_types (all_term_parts es) ≡ true

record ProperArms (i : Bool) (k : ℕ) (cases : Arms) : Type 0 where
  fits : fit_arms i cases ≡ true
  low : arm_depth cases ≤ k
  small : has_small_types (arm_parts cases) ≡ true

pub record ProperValue (k : ℕ) (v : PValue) : Type 0 where
  pub fits : fits_value v ≡ true
  pub low : value_nesting v ≤ k
  pub small : has_small_types (value_parts v) ≡ true

record ProperValues (k : ℕ) (vs : PValues) : Type 0 where
  fits : fit_values vs ≡ true
  low : value_depth vs ≤ k
  small : has_small_types (all_value_parts vs) ≡ true

nesting-pos : (e : Expr) → 1 ≤ nesting e
nesting-pos (Int n) = omega arith
nesting-pos e = omega arith

value-pos : (v : PValue) → 1 ≤ value_nesting v
value-pos (KInt n) = omega arith
value-pos v = omega arith

several_is_exact : IsExact exact_several (λ n. (is_four n ≡ true) × (several n ≡ true)) four_written
unfolding exact_several
several_is_exact = exact_passing several four_is_exact

takes_arity : (rules : List (List Rule)) (k n : ℕ) → takes rules k n ≡ true → argument_count rules k ≡ n
takes_arity [] k n e = absurd (true≢false (sym e))
takes_arity ([] ∷ rest) k n e = absurd (true≢false (sym e))
takes_arity ((r ∷ rs) ∷ rest) zero n e = eq_true (type_count r.0) n e
takes_arity ((r ∷ rs) ∷ rest) (suc k) n e = takes_arity rest k n e

-- the parts of a conjunction of three
of_three : (a b c : Bool) → ((a && b) && c) ≡ true → (a ≡ true) × (b ≡ true) × (c ≡ true)
of_three a b c e = let p = both_true (a && b) c e in let q = both_true a b p.0 in (q.0, q.1, p.1)

all_three : {a b c : Bool} → a ≡ true → b ≡ true → c ≡ true → ((a && b) && c) ≡ true
all_three p q r = and_true (and_true p q) r

-- the types of an arm's variables
arm_small : (p : Pattern) → list_all is_small (pattern_types p) ≡ true → has_small_types (map OfType (pattern_types p)) ≡ true
arm_small p e = ap (list_all is_small) (types_as_parts (pattern_types p)) ∙ e

small_arm : (p : Pattern) → has_small_types (map OfType (pattern_types p)) ≡ true → list_all is_small (pattern_types p) ≡ true
small_arm p e = ap (list_all is_small) (sym (types_as_parts (pattern_types p))) ∙ e

-- the bounds of a match or a try
cases_fit : {a b : Bool} (c d : Bool) → a ≡ true → b ≡ true → (c && d) ≡ true → (((a && b) && c) && d) ≡ true
cases_fit c d p q r = let s = both_true c d r in and_true (and_true (and_true p q) s.0) s.1

cases_parts : (a b c d : Bool) → (((a && b) && c) && d) ≡ true → (a ≡ true) × (b ≡ true) × ((c && d) ≡ true)
cases_parts a b c d e =
    let p = both_true ((a && b) && c) d e in
    let q = both_true (a && b) c p.0 in
    let r = both_true a b q.0 in
    (r.0, r.1, and_true q.1 p.1)

module _ (type_bytes : Typ → Bytes) (read_type : Bool → ReadsPart Typ) (x : (own : Bool) → IsExact (read_type own) (SmallType own) type_bytes) where
  abbrev term : Expr → Bytes
  term = term_bytes type_bytes two_written

  abbrev terms : Exprs → Bytes
  terms = all_term_bytes type_bytes two_written

  abbrev arms_spelled : Arms → Bytes
  arms_spelled = arm_bytes type_bytes two_written

  abbrev val : PValue → Bytes
  val = value_bytes type_bytes two_written

  abbrev vals : PValues → Bytes
  vals = all_value_bytes type_bytes two_written

  abbrev pub IsExactTerm : Bool → ℕ → Type 0
  IsExactTerm i k = IsExact (exact_term read_type i k) (ProperTerm i k) term

  abbrev pub IsExactValue : ℕ → Type 0
  IsExactValue k = IsExact (exact_value read_type k) (ProperValue k) val

  module _ (i : Bool) (k : ℕ) (y : IsExactTerm i k) where
    abbrev f : ReadsPart Expr
    f = exact_term read_type i k

    all_back : (es : Exprs) → ProperTerms i k es → Back (times no_exprs expr f (term_count es)) (terms es) es
    all_back no_exprs a = back_give no_exprs
    all_back (expr e es) a =
        let b = both_true _ _ a.fits in
        back_after (λ d. one (expr d) (times no_exprs expr f (term_count es)))
        (y.back e (record { fits = b.0; low = let l = a.low in omega arith; small = small_left (term_parts e) (all_term_parts es) a.small }))
        (back_one (expr e) (all_back es (record { fits = b.1; low = let l = a.low in omega arith; small = small_right (term_parts e) (all_term_parts es) a.small })))

    all_cons : (e : Expr) (es : Exprs) → ProperTerm i k e → ProperTerms i k es → ProperTerms i k (expr e es)
    all_cons e es a b = record { fits = and_true a.fits b.fits; low = let l = a.low in let m = b.low in omega arith; small = small_join (term_parts e) (all_term_parts es) a.small b.small }

    none : ProperTerms i k no_exprs
    none = record { fits = refl; low = omega arith; small = refl }

    tuple_is_exact : IsExact (then_read exact_width (times no_exprs expr f)) (λ es. (is_width (term_count es) ≡ true) × ProperTerms i k es) (λ es. one_written (term_count es) ++ terms es)
    tuple_is_exact = exact_counted no_exprs expr y terms term_count (ProperTerms i k) refl (λ e es. refl) refl (λ e es. refl) none all_cons all_back width_is_exact

    sequence_is_exact : IsExact (then_read exact_several (times no_exprs expr f)) (λ es. ((is_four (term_count es) ≡ true) × (several (term_count es) ≡ true)) × ProperTerms i k es) (λ es. four_written (term_count es) ++ terms es)
    sequence_is_exact = exact_counted no_exprs expr y terms term_count (ProperTerms i k) refl (λ e es. refl) refl (λ e es. refl) none all_cons all_back several_is_exact

    -- arms
    abbrev an_arm_spelled : Pattern × Expr → Bytes
    an_arm_spelled a = pattern_bytes type_bytes a.0 ++ term a.1

    arm_is_exact : IsExact (pair (exact_pattern read_type k) f) (λ a. Proper k a.0 × ProperTerm i k a.1) an_arm_spelled
    arm_is_exact = exact_two_parts (λ (p : Pattern) (e : Expr). (p, e)) (λ a. a.0) (λ a. a.1) (λ a. refl) (λ p e. refl) (λ p e. refl) (pattern_is_exact type_bytes read_type x k) y

    arms_back : (cases : Arms) → ProperArms i k cases → Back (times no_arms an_arm (pair (exact_pattern read_type k) f) (arm_count cases)) (arms_spelled cases) cases
    arms_back no_arms a = back_give no_arms
    arms_back (arm p e rest) a =
        let b = of_three _ _ _ a.fits in
        let s = small_left (map OfType (pattern_types p) ++ term_parts e) (arm_parts rest) a.small in
        back_after (λ d. one (an_arm d) (times no_arms an_arm (pair (exact_pattern read_type k) f) (arm_count rest)))
        (arm_is_exact.back (p, e) (
          record { fits = b.0; low = let l = a.low in omega arith; small = small_arm p (small_left (map OfType (pattern_types p)) (term_parts e) s) },
          record { fits = b.1; low = let l = a.low in omega arith; small = small_right (map OfType (pattern_types p)) (term_parts e) s },
        ))
        (back_one (an_arm (p, e)) (arms_back rest (record { fits = b.2; low = let l = a.low in omega arith; small = small_right (map OfType (pattern_types p) ++ term_parts e) (arm_parts rest) a.small })))

    cases_are_exact : IsExact (exact_cases (exact_pattern read_type k) f) (λ cases. (in_limits 1 1024 (arm_count cases) ≡ true) × ProperArms i k cases) (λ cases. two_written (arm_count cases) ++ arms_spelled cases)
    cases_are_exact =
        exact_counted no_arms an_arm arm_is_exact arms_spelled arm_count (ProperArms i k) refl (λ a rest. refl) refl (λ a rest. refl)
        (record { fits = refl; low = omega arith; small = refl })
        (λ a rest p q. record {
          fits = all_three p.0.fits p.1.fits q.fits;
          low = let l = p.0.low in let m = p.1.low in let n = q.low in omega arith;
          small = small_join (map OfType (pattern_types a.0) ++ term_parts a.1) (arm_parts rest) (small_join (map OfType (pattern_types a.0)) (term_parts a.1) (arm_small a.0 p.0.small) p.1.small) q.small;
        })
        arms_back (long_count_is_exact 1 1024 (omega arith))

    -- primitives
    primitive_sound : SoundAt (ProperTerm i (suc k)) term 23 (then_read exact_primitive (λ n. one (Prim n) (times no_exprs expr f (argument_count primitives n))))
    primitive_sound bs e rest r =
        let p = twice (exact_primitive bs) (λ n. one (Prim n) (times no_exprs expr f (argument_count primitives n))) e rest r in
        let u = primitive_is_exact.sound bs p.first p.mid p.is in
        let q = once (Prim p.first) (times no_exprs expr f (argument_count primitives p.first) p.mid) e rest p.later in
        let v = times_sound no_exprs expr term terms term_count (ProperTerm i k) (ProperTerms i k) refl (λ d ds. refl) refl (λ d ds. refl) none all_cons f y.sound (argument_count primitives p.first) p.mid q.first rest q.is in
        let fits : takes primitives p.first (term_count q.first) ≡ true = ap (takes primitives p.first) v.fits.1 ∙ u.fits in
        let low = v.fits.0.low in
        subst (λ d. Took (ProperTerm i (suc k)) term (23 ∷ bs) d rest) (sym q.made)
        (record { fits = record { fits = and_true fits v.fits.0.fits; low = omega arith; small = v.fits.0.small }; parts = ap (λ d. 23 ∷ d) (u.parts ∙ ap (λ d. p.first ∷ d) v.parts) })

    primitive_back : (n : ℕ) (es : Exprs) → takes primitives n (term_count es) ≡ true → ProperTerms i k es → Back (then_read exact_primitive (λ m. one (Prim m) (times no_exprs expr f (argument_count primitives m)))) (n ∷ terms es) (Prim n es)
    primitive_back n es t a =
        let count = takes_arity primitives n (term_count es) t in
        let back = subst (λ m. Back (times no_exprs expr f m) (terms es) es) (sym count) (all_back es a) in
        record { reads = (back_after (λ m. one (Prim m) (times no_exprs expr f (argument_count primitives m))) (primitive_is_exact.back n (ap (takes primitives n) count ∙ t)) (back_one (Prim n) back)).reads }

    flat : (e : Expr) → fits_term i e ≡ true → nesting e ≡ 1 → has_small_types (term_parts e) ≡ true → ProperTerm i (suc k) e
    flat e w n s = record { fits = w; low = omega arith; small = s }

    captured_sound : (b : Bool) → i ≡ b → (g : IsExactValue k) → SoundAt (ProperTerm i (suc k)) term 26 (exact_captured read_type b (exact_value read_type k))
    captured_sound true is g = sound_two _ _ 26 Val (x false) g (λ T v p a. record { fits = all_three is p.fits a.fits; low = let l = a.low in omega arith; small = and_true p.small a.small }) (λ T v. refl)
    captured_sound false is g = sound_nothing _ _ 26

    entries : IsExactValue k → SoundFrom (ProperTerm i (suc k)) term 0 (exact_term_table read_type i (exact_pattern read_type k) f (exact_value read_type k))
    entries g = (
      sound_nothing _ _ 0,
      (
        sound_one _ _ 1 Int eight_is_exact (λ n e. flat (Int n) e refl refl) (λ n. refl),
        (
          sound_one _ _ 2 Boolean truth_is_exact (λ b e. flat (Boolean b) refl refl refl) (λ b. refl),
          (
            sound_one _ _ 3 Str (text_is_exact longest_string (omega arith)) (λ s e. flat (Str s) e refl refl) (λ s. refl),
            (
              sound_give _ _ 4 Unit' (flat Unit' refl refl refl) refl,
              (
                sound_text _ _ 5 Exn ExnOf y (λ n e h. flat (Exn n) (without_text n e h) refl refl) (λ n e h a. record { fits = and_true h a.fits; low = let l0 = a.low in omega arith; small = a.small }) (λ n. refl) (λ n e. refl),
                (
                  sound_one _ _ 6 Tuple tuple_is_exact (λ es p. record { fits = and_true p.0 p.1.fits; low = let l0 = p.1.low in omega arith; small = p.1.small }) (λ es. refl),
                  (
                    sound_one _ _ 7 Nil (x false) (λ T p. flat (Nil T) p.fits refl (and_true p.small refl)) (λ T. refl),
                    (
                      sound_one _ _ 8 Empty (x false) (λ T p. flat (Empty T) p.fits refl (and_true p.small refl)) (λ T. refl),
                      (
                        sound_one _ _ 9 Present y (λ e a. record { fits = a.fits; low = let l0 = a.low in omega arith; small = a.small }) (λ e. refl),
                        (
                          sound_two _ _ 10 Cons y y (λ d e a b. record { fits = and_true a.fits b.fits; low = let l0 = a.low in let l1 = b.low in omega arith; small = small_join (term_parts d) (term_parts e) a.small b.small }) (λ d e. refl),
                          (
                            sound_one _ _ 11 Var two_is_exact (λ n e. flat (Var n) e refl refl) (λ n. refl),
                            (
                              sound_one _ _ 12 Own two_is_exact (λ n e. flat (Own n) e refl refl) (λ n. refl),
                              (
                                sound_two _ _ 13 Ref two_is_exact lower_is_exact (λ j s e h. flat (Ref j s) (and_true e h) refl refl) (λ j s. refl),
                                (
                                  sound_two _ _ 14 Lam (x false) y (λ T e p a. record { fits = and_true p.fits a.fits; low = let l0 = a.low in omega arith; small = and_true p.small a.small }) (λ T e. refl),
                                  (
                                    sound_three _ _ 15 Rec (x false) (x false) y (λ T U e p q a. record { fits = all_three p.fits q.fits a.fits; low = let l0 = a.low in omega arith; small = and_true p.small (and_true q.small a.small) }) (λ T U e. refl),
                                    (
                                      sound_two _ _ 16 App y y (λ d e a b. record { fits = and_true a.fits b.fits; low = let l0 = a.low in let l1 = b.low in omega arith; small = small_join (term_parts d) (term_parts e) a.small b.small }) (λ d e. refl),
                                      (
                                        sound_three _ _ 17 Let (x false) y y (λ T d e p a b. record { fits = all_three p.fits a.fits b.fits; low = let l0 = a.low in let l1 = b.low in omega arith; small = and_true p.small (small_join (term_parts d) (term_parts e) a.small b.small) }) (λ T d e. refl),
                                        (
                                          sound_three _ _ 18 If y y y (λ c d e p a b. record { fits = all_three p.fits a.fits b.fits; low = let l0 = p.low in let l1 = a.low in let l2 = b.low in omega arith; small = small_join (term_parts c ++ term_parts d) (term_parts e) (small_join (term_parts c) (term_parts d) p.small a.small) b.small }) (λ c d e. refl),
                                          (
                                            sound_one _ _ 19 Seq sequence_is_exact (λ es p. record { fits = all_three p.0.1 p.0.0 p.1.fits; low = let l0 = p.1.low in omega arith; small = p.1.small }) (λ es. refl),
                                            (
                                              sound_two _ _ 20 Match y cases_are_exact (λ e cs a p. record { fits = cases_fit _ _ a.fits p.1.fits p.0; low = let l0 = a.low in let l1 = p.1.low in omega arith; small = small_join (term_parts e) (arm_parts cs) a.small p.1.small }) (λ e cs. ap (λ z. 20 ∷ z) (append_assoc (term e) (two_written (arm_count cs)) (arms_spelled cs))),
                                              (
                                                sound_two _ _ 21 Try y cases_are_exact (λ e cs a p. record { fits = cases_fit _ _ a.fits p.1.fits p.0; low = let l0 = a.low in let l1 = p.1.low in omega arith; small = small_join (term_parts e) (arm_parts cs) a.small p.1.small }) (λ e cs. ap (λ z. 21 ∷ z) (append_assoc (term e) (two_written (arm_count cs)) (arms_spelled cs))),
                                                (
                                                  sound_two _ _ 22 Raise (x false) y (λ T e p a. record { fits = and_true p.fits a.fits; low = let l0 = a.low in omega arith; small = and_true p.small a.small }) (λ T e. refl),
                                                  (
                                                    primitive_sound,
                                                    (
                                                      sound_three _ _ 24 Marshal (x false) y y (λ T d e p a b. record { fits = all_three p.fits a.fits b.fits; low = let l0 = a.low in let l1 = b.low in omega arith; small = and_true p.small (small_join (term_parts d) (term_parts e) a.small b.small) }) (λ T d e. refl),
                                                      (
                                                        sound_two _ _ 25 Unmarshal (x false) y (λ T e p a. record { fits = and_true p.fits a.fits; low = let l0 = a.low in omega arith; small = and_true p.small a.small }) (λ T e. refl),
                                                        (
                                                          captured_sound i refl g,
                                                          tt,
                                                        ),
                                                      ),
                                                    ),
                                                  ),
                                                ),
                                              ),
                                            ),
                                          ),
                                        ),
                                      ),
                                    ),
                                  ),
                                ),
                              ),
                            ),
                          ),
                        ),
                      ),
                    ),
                  ),
                ),
              ),
            ),
          ),
        ),
      ),
    )

    captured_back : (b : Bool) → i ≡ b → IsExactValue k → (T : Typ) (v : PValue) → ProperTerm i (suc k) (Val T v) → Back (exact_captured read_type b (exact_value read_type k)) (type_bytes T ++ val v) (Val T v)
    captured_back true is g T v a =
        let w = of_three _ _ _ a.fits in
        let s = both_true _ _ a.small in
        back_two Val ((x false).back T (record { fits = w.1; small = s.0 })) (g.back v (record { fits = w.2; low = let l = a.low in omega arith; small = s.1 }))
    captured_back false is g T v a = absurd (true≢false (sym (of_three _ _ _ a.fits).0 ∙ is))

    next_back : IsExactValue k → (e : Expr) → ProperTerm i (suc k) e → Back (exact_term read_type i (suc k)) (term e) e
    unfolding exact_term
    next_back g (Int n) a =
        record { reads = (back_one Int (eight_is_exact.back n a.fits)).reads }
    next_back g (Boolean b) a =
        record { reads = (back_one Boolean (truth_is_exact.back b tt)).reads }
    next_back g (Str s) a =
        record { reads = (back_one Str ((text_is_exact longest_string (omega arith)).back s a.fits)).reads }
    next_back g Unit' a = record { reads = λ r. refl }
    next_back g (Exn n) a =
        let w = both_true _ _ a.fits in
        record { reads = (back_without_text Exn ExnOf f n w.0 (not_true (has_text n) w.1)).reads }
    next_back g (ExnOf n e) a =
        let w = both_true _ _ a.fits in
        record { reads = (back_with_text Exn ExnOf f n (text_exn n w.0) w.0 (y.back e (record { fits = w.1; low = let l = a.low in omega arith; small = a.small }))).reads }
    next_back g (Tuple es) a =
        let w = both_true _ _ a.fits in
        record { reads = (back_one Tuple (tuple_is_exact.back es (w.0, record { fits = w.1; low = let l = a.low in omega arith; small = a.small }))).reads }
    next_back g (Nil T) a =
        record { reads = (back_one Nil ((x false).back T (record { fits = a.fits; small = (both_true _ _ a.small).0 }))).reads }
    next_back g (Empty T) a =
        record { reads = (back_one Empty ((x false).back T (record { fits = a.fits; small = (both_true _ _ a.small).0 }))).reads }
    next_back g (Present e) a =
        record { reads = (back_one Present (y.back e (record { fits = a.fits; low = let l = a.low in omega arith; small = a.small }))).reads }
    next_back g (Cons d e) a =
        let w = both_true _ _ a.fits in
        record { reads = (back_two Cons (y.back d (record { fits = w.0; low = let l = a.low in omega arith; small = small_left (term_parts d) (term_parts e) a.small })) (y.back e (record { fits = w.1; low = let l = a.low in omega arith; small = small_right (term_parts d) (term_parts e) a.small }))).reads }
    next_back g (Var n) a =
        record { reads = (back_one Var (two_is_exact.back n a.fits)).reads }
    next_back g (Own n) a =
        record { reads = (back_one Own (two_is_exact.back n a.fits)).reads }
    next_back g (Ref j s) a =
        let w = both_true _ _ a.fits in
        record { reads = (back_two Ref (two_is_exact.back j w.0) (lower_is_exact.back s w.1)).reads }
    next_back g (Lam T e) a =
        let w = both_true _ _ a.fits in
        let s = both_true _ _ a.small in
        record { reads = (back_two Lam ((x false).back T (record { fits = w.0; small = s.0 })) (y.back e (record { fits = w.1; low = let l = a.low in omega arith; small = s.1 }))).reads }
    next_back g (Rec T U e) a =
        let w = of_three _ _ _ a.fits in
        let s = both_true _ _ a.small in
        let t = both_true _ _ s.1 in
        record { reads = (back_three Rec ((x false).back T (record { fits = w.0; small = s.0 })) ((x false).back U (record { fits = w.1; small = t.0 })) (y.back e (record { fits = w.2; low = let l = a.low in omega arith; small = t.1 }))).reads }
    next_back g (App d e) a =
        let w = both_true _ _ a.fits in
        record { reads = (back_two App (y.back d (record { fits = w.0; low = let l = a.low in omega arith; small = small_left (term_parts d) (term_parts e) a.small })) (y.back e (record { fits = w.1; low = let l = a.low in omega arith; small = small_right (term_parts d) (term_parts e) a.small }))).reads }
    next_back g (Let T d e) a =
        let w = of_three _ _ _ a.fits in
        let s = both_true _ _ a.small in
        record { reads = (back_three Let ((x false).back T (record { fits = w.0; small = s.0 })) (y.back d (record { fits = w.1; low = let l = a.low in omega arith; small = small_left (term_parts d) (term_parts e) s.1 })) (y.back e (record { fits = w.2; low = let l = a.low in omega arith; small = small_right (term_parts d) (term_parts e) s.1 }))).reads }
    next_back g (If c d e) a =
        let w = of_three _ _ _ a.fits in
        let s = small_left (term_parts c ++ term_parts d) (term_parts e) a.small in
        record { reads = (back_three If (y.back c (record { fits = w.0; low = let l = a.low in omega arith; small = small_left (term_parts c) (term_parts d) s })) (y.back d (record { fits = w.1; low = let l = a.low in omega arith; small = small_right (term_parts c) (term_parts d) s })) (y.back e (record { fits = w.2; low = let l = a.low in omega arith; small = small_right (term_parts c ++ term_parts d) (term_parts e) a.small }))).reads }
    next_back g (Seq es) a =
        let w = of_three _ _ _ a.fits in
        record { reads = (back_one Seq (sequence_is_exact.back es ((w.1, w.0), record { fits = w.2; low = let l = a.low in omega arith; small = a.small }))).reads }
    next_back g (Match e cs) a =
        let w = cases_parts _ _ _ _ a.fits in
        record { reads = (back_counted Match (times no_arms an_arm (pair (exact_pattern read_type k) f)) (y.back e (record { fits = w.0; low = let l = a.low in omega arith; small = small_left (term_parts e) (arm_parts cs) a.small })) ((long_count_is_exact 1 1024 (omega arith)).back (arm_count cs) w.2) (arms_back cs (record { fits = w.1; low = let l = a.low in omega arith; small = small_right (term_parts e) (arm_parts cs) a.small }))).reads }
    next_back g (Try e cs) a =
        let w = cases_parts _ _ _ _ a.fits in
        record { reads = (back_counted Try (times no_arms an_arm (pair (exact_pattern read_type k) f)) (y.back e (record { fits = w.0; low = let l = a.low in omega arith; small = small_left (term_parts e) (arm_parts cs) a.small })) ((long_count_is_exact 1 1024 (omega arith)).back (arm_count cs) w.2) (arms_back cs (record { fits = w.1; low = let l = a.low in omega arith; small = small_right (term_parts e) (arm_parts cs) a.small }))).reads }
    next_back g (Raise T e) a =
        let w = both_true _ _ a.fits in
        let s = both_true _ _ a.small in
        record { reads = (back_two Raise ((x false).back T (record { fits = w.0; small = s.0 })) (y.back e (record { fits = w.1; low = let l = a.low in omega arith; small = s.1 }))).reads }
    next_back g (Prim n es) a =
        let w = both_true _ _ a.fits in
        record { reads = (primitive_back n es w.0 (record { fits = w.1; low = let l = a.low in omega arith; small = a.small })).reads }
    next_back g (Marshal T d e) a =
        let w = of_three _ _ _ a.fits in
        let s = both_true _ _ a.small in
        record { reads = (back_three Marshal ((x false).back T (record { fits = w.0; small = s.0 })) (y.back d (record { fits = w.1; low = let l = a.low in omega arith; small = small_left (term_parts d) (term_parts e) s.1 })) (y.back e (record { fits = w.2; low = let l = a.low in omega arith; small = small_right (term_parts d) (term_parts e) s.1 }))).reads }
    next_back g (Unmarshal T e) a =
        let w = both_true _ _ a.fits in
        let s = both_true _ _ a.small in
        record { reads = (back_two Unmarshal ((x false).back T (record { fits = w.0; small = s.0 })) (y.back e (record { fits = w.1; low = let l = a.low in omega arith; small = s.1 }))).reads }
    next_back g (Val T v) a =
        record { reads = (captured_back i refl g T v a).reads }
    next_back g (Evaluated T v) a = absurd (true≢false (sym a.fits))
    next_back g (Bracket c T e) a = absurd (true≢false (sym a.fits))

    next_sound : IsExactValue k → (bs : Bytes) (e : Expr) (rest : Bytes) → exact_term read_type i (suc k) bs ≡ Some (e, rest) → Took (ProperTerm i (suc k)) term bs e rest
    unfolding exact_term
    next_sound g bs e rest r = table_sound (ProperTerm i (suc k)) term (exact_term_table read_type i (exact_pattern read_type k) f (exact_value read_type k)) (entries g) bs e rest r

  module _ (k : ℕ) (y : IsExactTerm true k) (g : IsExactValue k) where
    values_back : (vs : PValues) → ProperValues k vs → Back (times no_pvalues pvalue (exact_value read_type k) (value_count vs)) (vals vs) vs
    values_back no_pvalues a = back_give no_pvalues
    values_back (pvalue v vs) a =
        let b = both_true _ _ a.fits in
        back_after (λ d. one (pvalue d) (times no_pvalues pvalue (exact_value read_type k) (value_count vs)))
        (g.back v (record { fits = b.0; low = let l = a.low in omega arith; small = small_left (value_parts v) (all_value_parts vs) a.small }))
        (back_one (pvalue v) (values_back vs (record { fits = b.1; low = let l = a.low in omega arith; small = small_right (value_parts v) (all_value_parts vs) a.small })))

    values_cons : (v : PValue) (vs : PValues) → ProperValue k v → ProperValues k vs → ProperValues k (pvalue v vs)
    values_cons v vs a b = record { fits = and_true a.fits b.fits; low = let l = a.low in let m = b.low in omega arith; small = small_join (value_parts v) (all_value_parts vs) a.small b.small }

    no_values : ProperValues k no_pvalues
    no_values = record { fits = refl; low = omega arith; small = refl }

    value_tuple_is_exact : IsExact (then_read exact_width (times no_pvalues pvalue (exact_value read_type k))) (λ vs. (is_width (value_count vs) ≡ true) × ProperValues k vs) (λ vs. one_written (value_count vs) ++ vals vs)
    value_tuple_is_exact = exact_counted no_pvalues pvalue g vals value_count (ProperValues k) refl (λ v vs. refl) refl (λ v vs. refl) no_values values_cons values_back width_is_exact

    value_list_is_exact : IsExact (then_read exact_four (times no_pvalues pvalue (exact_value read_type k))) (λ vs. (is_four (value_count vs) ≡ true) × ProperValues k vs) (λ vs. four_written (value_count vs) ++ vals vs)
    value_list_is_exact = exact_counted no_pvalues pvalue g vals value_count (ProperValues k) refl (λ v vs. refl) refl (λ v vs. refl) no_values values_cons values_back four_is_exact

    function_is_exact : IsExact (passing is_lambda (exact_term read_type true k)) (λ e. ProperTerm true k e × (is_lambda e ≡ true)) term
    function_is_exact = exact_passing is_lambda y

    flat_value : (v : PValue) → fits_value v ≡ true → value_nesting v ≡ 1 → has_small_types (value_parts v) ≡ true → ProperValue (suc k) v
    flat_value v w n s = record { fits = w; low = omega arith; small = s }

    value_entries : SoundFrom (ProperValue (suc k)) val 0 (exact_value_table (exact_term read_type true k) (exact_value read_type k))
    value_entries = (
      sound_nothing _ _ 0,
      (
        sound_one _ _ 1 KInt eight_is_exact (λ n e. flat_value (KInt n) e refl refl) (λ n. refl),
        (
          sound_one _ _ 2 KBool truth_is_exact (λ b e. flat_value (KBool b) refl refl refl) (λ b. refl),
          (
            sound_one _ _ 3 KStr (text_is_exact longest_string (omega arith)) (λ s e. flat_value (KStr s) e refl refl) (λ s. refl),
            (
              sound_give _ _ 4 KUnit (flat_value KUnit refl refl refl) refl,
              (
                sound_text _ _ 5 (λ n. KExn n None) (λ n s. KExn n (Some s)) (text_is_exact longest_string (omega arith)) (λ n e h. flat_value (KExn n None) (and_true (without_text n e h) refl) refl refl) (λ n s h e. flat_value (KExn n (Some s)) (and_true h e) refl refl) (λ n. refl) (λ n s. refl),
                (
                  sound_one _ _ 6 KTuple value_tuple_is_exact (λ vs p. record { fits = and_true p.0 p.1.fits; low = let l0 = p.1.low in omega arith; small = p.1.small }) (λ vs. refl),
                  (
                    sound_one _ _ 7 KList value_list_is_exact (λ vs p. record { fits = and_true p.0 p.1.fits; low = let l0 = p.1.low in omega arith; small = p.1.small }) (λ vs. refl),
                    (
                      sound_give _ _ 8 KAbsent (flat_value KAbsent refl refl refl) refl,
                      (
                        sound_one _ _ 9 KPresent g (λ v a. record { fits = a.fits; low = let l0 = a.low in omega arith; small = a.small }) (λ v. refl),
                        (
                          sound_two _ _ 10 KFun home_is_exact function_is_exact (λ c e h p. record { fits = all_three h p.1 p.0.fits; low = let l0 = p.0.low in omega arith; small = p.0.small }) (λ c e. refl),
                          tt,
                        ),
                      ),
                    ),
                  ),
                ),
              ),
            ),
          ),
        ),
      ),
    )

    next_value_back : (v : PValue) → ProperValue (suc k) v → Back (exact_value read_type (suc k)) (val v) v
    unfolding exact_value
    next_value_back (KInt n) a =
        record { reads = (back_one KInt (eight_is_exact.back n a.fits)).reads }
    next_value_back (KBool b) a =
        record { reads = (back_one KBool (truth_is_exact.back b tt)).reads }
    next_value_back (KStr s) a =
        record { reads = (back_one KStr ((text_is_exact longest_string (omega arith)).back s a.fits)).reads }
    next_value_back KUnit a = record { reads = λ r. refl }
    next_value_back (KExn n None) a =
        let w = both_true _ _ (both_true _ _ a.fits).0 in
        record { reads = (back_without_text (λ m. KExn m None) (λ m s. KExn m (Some s)) (exact_text longest_string) n w.0 (not_true (has_text n) w.1)).reads }
    next_value_back (KExn n (Some s)) a =
        let w = both_true _ _ a.fits in
        record { reads = (back_with_text (λ m. KExn m None) (λ m t. KExn m (Some t)) (exact_text longest_string) n (text_exn n w.0) w.0 ((text_is_exact longest_string (omega arith)).back s w.1)).reads }
    next_value_back (KTuple vs) a =
        let w = both_true _ _ a.fits in
        record { reads = (back_one KTuple (value_tuple_is_exact.back vs (w.0, record { fits = w.1; low = let l = a.low in omega arith; small = a.small }))).reads }
    next_value_back (KList vs) a =
        let w = both_true _ _ a.fits in
        record { reads = (back_one KList (value_list_is_exact.back vs (w.0, record { fits = w.1; low = let l = a.low in omega arith; small = a.small }))).reads }
    next_value_back KAbsent a = record { reads = λ r. refl }
    next_value_back (KPresent v) a =
        record { reads = (back_one KPresent (g.back v (record { fits = a.fits; low = let l = a.low in omega arith; small = a.small }))).reads }
    next_value_back (KFun c e) a =
        let w = of_three _ _ _ a.fits in
        record { reads = (back_two KFun (home_is_exact.back c w.0) (function_is_exact.back e (record { fits = w.2; low = let l = a.low in omega arith; small = a.small }, w.1))).reads }

    next_value_sound : (bs : Bytes) (v : PValue) (rest : Bytes) → exact_value read_type (suc k) bs ≡ Some (v, rest) → Took (ProperValue (suc k)) val bs v rest
    unfolding exact_value
    next_value_sound bs v rest r = table_sound (ProperValue (suc k)) val (exact_value_table (exact_term read_type true k) (exact_value read_type k)) value_entries bs v rest r

  no_term : (i : Bool) → IsExactTerm i 0
  unfolding exact_term
  no_term i = record { sound = λ bs e rest r. absurd (none≢some r); back = λ e a. absurd (let l = a.low in let h = nesting-pos e in omega arith) }

  no_value : IsExactValue 0
  unfolding exact_value
  no_value = record { sound = λ bs v rest r. absurd (none≢some r); back = λ v a. absurd (let l = a.low in let h = value-pos v in omega arith) }

  mutual
    pub term_is_exact : (i : Bool) (k : ℕ) → IsExactTerm i k
    term_is_exact i zero = no_term i
    term_is_exact i (suc k) = record { sound = next_sound i k (term_is_exact i k) (value_is_exact k); back = next_back i k (term_is_exact i k) (value_is_exact k) }

    pub value_is_exact : (k : ℕ) → IsExactValue k
    value_is_exact zero = no_value
    value_is_exact (suc k) = record { sound = next_value_sound k (term_is_exact true k) (value_is_exact k); back = next_value_back k (term_is_exact true k) (value_is_exact k) }
