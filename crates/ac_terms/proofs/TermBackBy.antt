-- Patterns, terms and packed values are read back from their spelling, whatever follows: whatever spells their types, where those in them are read back, and whatever spells their references, up to what the reading makes of a reference.
use Rattle.std.proofs.Common.{◌≡◌, refl, sym, ap, subst, add-one, ◌∙◌, ℕ, zero, suc, ◌+◌, ◌≤◌, Bool, true, false, ◌&&◌, List, [], ◌∷◌, ◌++◌, Some, None, map}
use Rattle.std.specs.Prelude.{nat_le}
use Rattle.std.specs.List.{list_all}
use Rattle.std.proofs.lemmas.Bool.Decides.{nat_tests}
use mathlib.Core.Bool.{true≢false}
use native.Mathlib.Omega.{arith}
use Rattle.ac_types.proofs.Same.{both_true}
use Rattle.ac_types.specs.Types.{Bytes, Typ}
use Rattle.ac_terms.specs.Terms.{Home, Main, In, Pattern, PWild, PVar, PInt, PBool, PStr, PUnit, PTuple, PNil, PCons, PAbsent, PPresent, PExn, PExnOf, Patterns, no_patterns, pattern', Expr, Int, Boolean, Str, Unit', Exn, ExnOf, Tuple, Nil, Empty, Present, Cons, Var, Own, Ref, Lam, Rec, App, Let, If, Seq, Match, Try, Raise, Prim, Marshal, Unmarshal, Val, Evaluated, Bracket, Exprs, no_exprs, expr, Arms, no_arms, arm, PValue, KInt, KBool, KStr, KUnit, KExn, KTuple, KList, KAbsent, KPresent, KFun, PValues, no_pvalues, pvalue}
use Rattle.ac_types.specs.Exceptions.{has_text}
use Rattle.ac_terms.specs.PrimitiveTypes.{is_exception, Rule, primitives}
use Rattle.ac_terms.specs.Nesting.{pattern_nesting, pattern_depth, nesting, depth, arm_depth, value_nesting, value_depth}
use Rattle.ac_terms.specs.Parts.{OfType, pattern_types, all_pattern_types, part_types, term_parts, all_term_parts, arm_parts, value_parts, all_value_parts}
use Rattle.ac_terms.specs.Spelling.{pattern_count, home_bytes, term_count, arm_count, value_count, type_count}
use Rattle.ac_terms.specs.SpelledBy as by
use Rattle.ac_terms.specs.ReadBy as read
use Rattle.ac_terms.specs.Bounds.{is_two, fits_type, fits_pattern, fit_patterns, takes, fits_home, fits_term, fit_terms, fit_arms, fits_value, fit_values}
use Rattle.ac_terms.specs.Renumbered.{home_by, renumbered, all_renumbered, arms_renumbered, value_renumbered, values_renumbered}
use Rattle.ac_terms.specs.PacketReading.{read_with_text, home_number, read_home, argument_count, many_arms}
use Rattle.ac_terms.proofs.Back.{ReadsPart, Back, one, times, read_str, back_give, back_one, back_two, back_three, back_counted, back_after, back_byte, back_width, back_two_bytes, back_four_bytes, back_eight_bytes, back_truth, back_word, back_str}
use Rattle.ac_terms.proofs.AllLaws.{all_left, all_right}
use Rattle.ac_terms.proofs.PartTypes.{AllGood, types_as_parts, good_first, good_rest, good_left, good_right}
use Rattle.ac_terms.proofs.TestLaws.{not_true, eq_true}

pattern-pos : (p : Pattern) → 1 ≤ pattern_nesting p
pattern-pos PWild = omega arith
pattern-pos (PVar T) = omega arith
pattern-pos (PInt n) = omega arith
pattern-pos (PBool b) = omega arith
pattern-pos (PStr s) = omega arith
pattern-pos PUnit = omega arith
pattern-pos (PTuple ps) = omega arith
pattern-pos PNil = omega arith
pattern-pos (PCons p q) = omega arith
pattern-pos PAbsent = omega arith
pattern-pos (PPresent p) = omega arith
pattern-pos (PExn k) = omega arith
pattern-pos (PExnOf k p) = omega arith

back_text : {A : Type 0} (b : Bool) (bare : A) {f : ReadsPart A} {bs : Bytes} {a : A} → b ≡ true → Back f bs a → Back (read_with_text b bare f) bs a
back_text true bare e p = p
back_text false bare e p = absurd (true≢false (sym e))

back_bare : {A : Type 0} (b : Bool) (bare : A) (f : ReadsPart A) → b ≡ false → Back (read_with_text b bare f) [] bare
back_bare false bare f e = back_give bare
back_bare true bare f e = absurd (true≢false e)

has_none : (k : ℕ) → is_exception k None ≡ true → has_text k ≡ false
has_none k e = not_true (has_text k) (both_true _ _ e).1

back_home : (h : Home) → fits_home h ≡ true → Back read_home (home_bytes h) h
back_home Main e = record { reads = (back_one home_number (back_two_bytes 0 refl)).reads }
back_home (In k) e = record {
  reads = λ r. (back_one home_number (back_two_bytes (k + 1) e)).reads r ∙ ap (λ n. Some (home_number n, r)) (add-one k);
}

takes_arity : (rules : List (List Rule)) (k n : ℕ) → takes rules k n ≡ true → argument_count rules k ≡ n
takes_arity [] k n e = absurd (true≢false (sym e))
takes_arity ([] ∷ rest) k n e = absurd (true≢false (sym e))
takes_arity ((r ∷ rs) ∷ rest) zero n e = eq_true (type_count r.0) n e
takes_arity ((r ∷ rs) ∷ rest) (suc k) n e = takes_arity rest k n e

pub count_two : (n : ℕ) → nat_le n 1024 ≡ true → is_two n ≡ true
count_two n e = grind (arith, nat_tests)

nesting-pos : (e : Expr) → 1 ≤ nesting e
nesting-pos (Int n) = omega arith
nesting-pos e = omega arith

value-pos : (v : PValue) → 1 ≤ value_nesting v
value-pos (KInt n) = omega arith
value-pos v = omega arith

-- the parts of a conjunction of three
both_left : (a b c : Bool) → ((a && b) && c) ≡ true → a ≡ true
both_left a b c e = (both_true a b (both_true (a && b) c e).0).0

both_middle : (a b c : Bool) → ((a && b) && c) ≡ true → b ≡ true
both_middle a b c e = (both_true a b (both_true (a && b) c e).0).1

-- types are spelled and read so: those that pass a test are read back
module _ (type_bytes : Typ → Bytes) (read_type : ReadsPart Typ) (good : Typ → Bool) (back_type : (own : Bool) (T : Typ) → fits_type own T ≡ true → good T ≡ true → Back read_type (type_bytes T) T) where
  abbrev pattern_bytes : Pattern → Bytes
  pattern_bytes = by.pattern_bytes type_bytes

  abbrev all_pattern_bytes : Patterns → Bytes
  all_pattern_bytes = by.all_pattern_bytes type_bytes

  abbrev read_pattern : ℕ → ReadsPart Pattern
  read_pattern = read.read_pattern read_type

  abbrev GoodTypes : List Typ → Type 0
  GoodTypes Ts = list_all good Ts ≡ true

  mutual
    pub back_pattern : (p : Pattern) (k : ℕ) → pattern_nesting p ≤ k → fits_pattern p ≡ true → GoodTypes (pattern_types p) → Back (read_pattern k) (pattern_bytes p) p
    back_pattern p zero h w g = absurd (omega (arith, pattern-pos p))
    back_pattern PWild (suc k) h w g = record { reads = λ r. refl }
    back_pattern (PVar T) (suc k) h w g = record { reads = (back_one PVar (back_type false T w (good_first good T [] g))).reads }
    back_pattern (PInt n) (suc k) h w g = record { reads = (back_one PInt (back_eight_bytes n w)).reads }
    back_pattern (PBool b) (suc k) h w g = record { reads = (back_one PBool (back_truth b)).reads }
    back_pattern (PStr s) (suc k) h w g = record { reads = (back_one PStr (back_str s w)).reads }
    back_pattern PUnit (suc k) h w g = record { reads = λ r. refl }
    back_pattern (PTuple ps) (suc k) h w g =
        record { reads = (back_one PTuple (back_after (times no_patterns pattern' (read_pattern k)) (back_width (pattern_count ps) (both_true _ _ w).0) (back_patterns ps k (omega arith) (both_true _ _ w).1 g))).reads }
    back_pattern PNil (suc k) h w g = record { reads = λ r. refl }
    back_pattern (PCons p q) (suc k) h w g =
        record { reads = (back_two PCons (back_pattern p k (omega arith) (both_true _ _ w).0 (all_left good (pattern_types p) (pattern_types q) g)) (back_pattern q k (omega arith) (both_true _ _ w).1 (all_right good (pattern_types p) (pattern_types q) g))).reads }
    back_pattern PAbsent (suc k) h w g = record { reads = λ r. refl }
    back_pattern (PPresent p) (suc k) h w g = record { reads = (back_one PPresent (back_pattern p k (omega arith) w g)).reads }
    back_pattern (PExn n) (suc k) h w g =
        record { reads = (back_after (λ x. read_with_text (has_text x) (PExn x) (one (PExnOf x) (read_pattern k))) (back_byte n) (back_bare (has_text n) (PExn n) (one (PExnOf n) (read_pattern k)) (has_none n w))).reads }
    back_pattern (PExnOf n p) (suc k) h w g =
        record { reads = (back_after (λ x. read_with_text (has_text x) (PExn x) (one (PExnOf x) (read_pattern k))) (back_byte n) (back_text (has_text n) (PExn n) (both_true _ _ w).0 (back_one (PExnOf n) (back_pattern p k (omega arith) (both_true _ _ w).1 g)))).reads }

    back_patterns : (ps : Patterns) (k : ℕ) → pattern_depth ps ≤ k → fit_patterns ps ≡ true → GoodTypes (all_pattern_types ps) → Back (times no_patterns pattern' (read_pattern k) (pattern_count ps)) (all_pattern_bytes ps) ps
    back_patterns no_patterns k h w g = back_give no_patterns
    back_patterns (pattern' p ps) k h w g =
        back_after (λ a. one (pattern' a) (times no_patterns pattern' (read_pattern k) (pattern_count ps))) (back_pattern p k (omega arith) (both_true _ _ w).0 (all_left good (pattern_types p) (all_pattern_types ps) g))
        (back_one (pattern' p) (back_patterns ps k (omega arith) (both_true _ _ w).1 (all_right good (pattern_types p) (all_pattern_types ps) g)))

  -- a reference is spelled in a way that is read back, as another number
  module _ (ref : ℕ → Bytes) (g : ℕ → ℕ) (read_ref : ReadsPart ℕ) (back_ref : (j : ℕ) → is_two j ≡ true → Back read_ref (ref j) (g j)) where
    abbrev term_bytes : Expr → Bytes
    term_bytes = by.term_bytes type_bytes ref

    abbrev all_term_bytes : Exprs → Bytes
    all_term_bytes = by.all_term_bytes type_bytes ref

    abbrev arm_bytes : Arms → Bytes
    arm_bytes = by.arm_bytes type_bytes ref

    abbrev value_bytes : PValue → Bytes
    value_bytes = by.value_bytes type_bytes ref

    abbrev all_value_bytes : PValues → Bytes
    all_value_bytes = by.all_value_bytes type_bytes ref

    abbrev read_term : ℕ → ReadsPart Expr
    read_term = read.read_term read_type read_ref

    abbrev read_value : ℕ → ReadsPart PValue
    read_value = read.read_value read_type read_ref

    -- a home is spelled by its own number: so with packed values within, numbers stay
    abbrev pub Stays : Type 0
    Stays = (j : ℕ) → g j ≡ j

    home_stays : Stays → (c : Home) → fits_home c ≡ true → Back read_home (home_bytes c) (home_by g c)
    home_stays stay Main e = back_home Main e
    home_stays stay (In j) e = subst (λ i. Back read_home (home_bytes (In j)) (In i)) (sym (stay j)) (back_home (In j) e)

    -- a primitive's arguments are as many as it takes
    so_many : (n : ℕ) (es : Exprs) (k : ℕ) → argument_count primitives n ≡ term_count es →
        Back (times no_exprs expr (read_term k) (term_count es)) (all_term_bytes es) (all_renumbered g es) → Back (times no_exprs expr (read_term k) (argument_count primitives n)) (all_term_bytes es) (all_renumbered g es)
    so_many n es k e p = subst (λ m. Back (times no_exprs expr (read_term k) m) (all_term_bytes es) (all_renumbered g es)) (sym e) p

    mutual
      pub back_term : (within : Bool) → (within ≡ true → Stays) → (e : Expr) (k : ℕ) → nesting e ≤ k → fits_term within e ≡ true → AllGood good (term_parts e) → Back (read_term k) (term_bytes e) (renumbered g e)
      back_term i stay e zero h w q = absurd (omega (arith, nesting-pos e))
      back_term i stay (Int n) (suc k) h w q = record { reads = (back_one Int (back_eight_bytes n w)).reads }
      back_term i stay (Boolean b) (suc k) h w q = record { reads = (back_one Boolean (back_truth b)).reads }
      back_term i stay (Str s) (suc k) h w q = record { reads = (back_one Str (back_str s w)).reads }
      back_term i stay Unit' (suc k) h w q = record { reads = λ r. refl }
      back_term i stay (Exn n) (suc k) h w q =
          record { reads = (back_after (λ x. read_with_text (has_text x) (Exn x) (one (ExnOf x) (read_term k))) (back_byte n) (back_bare (has_text n) (Exn n) (one (ExnOf n) (read_term k)) (has_none n w))).reads }
      back_term i stay (ExnOf n e) (suc k) h w q =
          record { reads = (back_after (λ x. read_with_text (has_text x) (Exn x) (one (ExnOf x) (read_term k))) (back_byte n) (back_text (has_text n) (Exn n) (both_true _ _ w).0 (back_one (ExnOf n) (back_term i stay e k (omega arith) (both_true _ _ w).1 q)))).reads }
      back_term i stay (Tuple es) (suc k) h w q =
          record { reads = (back_one Tuple (back_after (times no_exprs expr (read_term k)) (back_width (term_count es) (both_true _ _ w).0) (back_terms i stay es k (omega arith) (both_true _ _ w).1 q))).reads }
      back_term i stay (Nil T) (suc k) h w q = record { reads = (back_one Nil (back_type false T w (good_first good T [] q))).reads }
      back_term i stay (Empty T) (suc k) h w q = record { reads = (back_one Empty (back_type false T w (good_first good T [] q))).reads }
      back_term i stay (Present e) (suc k) h w q = record { reads = (back_one Present (back_term i stay e k (omega arith) w q)).reads }
      back_term i stay (Cons a b) (suc k) h w q =
          record { reads = (back_two Cons (back_term i stay a k (omega arith) (both_true _ _ w).0 (good_left good (term_parts a) (term_parts b) q)) (back_term i stay b k (omega arith) (both_true _ _ w).1 (good_right good (term_parts a) (term_parts b) q))).reads }
      back_term i stay (Var n) (suc k) h w q = record { reads = (back_one Var (back_two_bytes n w)).reads }
      back_term i stay (Own f) (suc k) h w q = record { reads = (back_one Own (back_two_bytes f w)).reads }
      back_term i stay (Ref j x) (suc k) h w q = record { reads = (back_two Ref (back_ref j (both_true _ _ w).0) (back_word x)).reads }
      back_term i stay (Lam T e) (suc k) h w q =
          record { reads = (back_two Lam (back_type false T (both_true _ _ w).0 (good_first good T (part_types (term_parts e)) q)) (back_term i stay e k (omega arith) (both_true _ _ w).1 (good_rest good T (part_types (term_parts e)) q))).reads }
      back_term i stay (Rec T U e) (suc k) h w q =
          let r = good_rest good T (U ∷ part_types (term_parts e)) q in
          record { reads = (back_three Rec (back_type false T (both_left _ _ _ w) (good_first good T (U ∷ part_types (term_parts e)) q)) (back_type false U (both_middle _ _ _ w) (good_first good U (part_types (term_parts e)) r)) (back_term i stay e k (omega arith) (both_true _ _ w).1 (good_rest good U (part_types (term_parts e)) r))).reads }
      back_term i stay (App f a) (suc k) h w q =
          record { reads = (back_two App (back_term i stay f k (omega arith) (both_true _ _ w).0 (good_left good (term_parts f) (term_parts a) q)) (back_term i stay a k (omega arith) (both_true _ _ w).1 (good_right good (term_parts f) (term_parts a) q))).reads }
      back_term i stay (Let T e b) (suc k) h w q =
          record { reads = (back_three Let (back_type false T (both_left _ _ _ w) (good_first good T (part_types (term_parts e ++ term_parts b)) q)) (back_term i stay e k (omega arith) (both_middle _ _ _ w) (good_left good (term_parts e) (term_parts b) (good_rest good T (part_types (term_parts e ++ term_parts b)) q))) (back_term i stay b k (omega arith) (both_true _ _ w).1 (good_right good (term_parts e) (term_parts b) (good_rest good T (part_types (term_parts e ++ term_parts b)) q)))).reads }
      back_term i stay (If c a b) (suc k) h w q =
          record { reads = (back_three If (back_term i stay c k (omega arith) (both_left _ _ _ w) (good_left good (term_parts c) (term_parts a) (good_left good (term_parts c ++ term_parts a) (term_parts b) q))) (back_term i stay a k (omega arith) (both_middle _ _ _ w) (good_right good (term_parts c) (term_parts a) (good_left good (term_parts c ++ term_parts a) (term_parts b) q))) (back_term i stay b k (omega arith) (both_true _ _ w).1 (good_right good (term_parts c ++ term_parts a) (term_parts b) q))).reads }
      back_term i stay (Seq es) (suc k) h w q =
          record { reads = (back_one Seq (back_after (times no_exprs expr (read_term k)) (back_four_bytes (term_count es) (both_middle _ _ _ w)) (back_terms i stay es k (omega arith) (both_true _ _ w).1 q))).reads }
      back_term i stay (Match e cases) (suc k) h w q =
          record { reads = (back_counted Match (many_arms (read_pattern k) (read_term k)) (back_term i stay e k (omega arith) (both_left _ _ _ (both_true _ _ w).0) (good_left good (term_parts e) (arm_parts cases) q)) (back_two_bytes (arm_count cases) (count_two (arm_count cases) (both_true _ _ w).1)) (back_arms i stay cases k (omega arith) (both_middle _ _ _ (both_true _ _ w).0) (good_right good (term_parts e) (arm_parts cases) q))).reads }
      back_term i stay (Try e cases) (suc k) h w q =
          record { reads = (back_counted Try (many_arms (read_pattern k) (read_term k)) (back_term i stay e k (omega arith) (both_left _ _ _ (both_true _ _ w).0) (good_left good (term_parts e) (arm_parts cases) q)) (back_two_bytes (arm_count cases) (count_two (arm_count cases) (both_true _ _ w).1)) (back_arms i stay cases k (omega arith) (both_middle _ _ _ (both_true _ _ w).0) (good_right good (term_parts e) (arm_parts cases) q))).reads }
      back_term i stay (Raise T e) (suc k) h w q =
          record { reads = (back_two Raise (back_type false T (both_true _ _ w).0 (good_first good T (part_types (term_parts e)) q)) (back_term i stay e k (omega arith) (both_true _ _ w).1 (good_rest good T (part_types (term_parts e)) q))).reads }
      back_term i stay (Prim n es) (suc k) h w q =
          record { reads = (back_after (λ x. one (Prim x) (times no_exprs expr (read_term k) (argument_count primitives x))) (back_byte n) (back_one (Prim n) (so_many n es k (takes_arity primitives n (term_count es) (both_true _ _ w).0) (back_terms i stay es k (omega arith) (both_true _ _ w).1 q)))).reads }
      back_term i stay (Marshal T m e) (suc k) h w q =
          record { reads = (back_three Marshal (back_type false T (both_left _ _ _ w) (good_first good T (part_types (term_parts m ++ term_parts e)) q)) (back_term i stay m k (omega arith) (both_middle _ _ _ w) (good_left good (term_parts m) (term_parts e) (good_rest good T (part_types (term_parts m ++ term_parts e)) q))) (back_term i stay e k (omega arith) (both_true _ _ w).1 (good_right good (term_parts m) (term_parts e) (good_rest good T (part_types (term_parts m ++ term_parts e)) q)))).reads }
      back_term i stay (Unmarshal T e) (suc k) h w q =
          record { reads = (back_two Unmarshal (back_type false T (both_true _ _ w).0 (good_first good T (part_types (term_parts e)) q)) (back_term i stay e k (omega arith) (both_true _ _ w).1 (good_rest good T (part_types (term_parts e)) q))).reads }
      back_term i stay (Val T v) (suc k) h w q =
          record { reads = (back_two Val (back_type false T (both_middle _ _ _ w) (good_first good T (part_types (value_parts v)) q)) (back_value (stay (both_left _ _ _ w)) v k (omega arith) (both_true _ _ w).1 (good_rest good T (part_types (value_parts v)) q))).reads }
      back_term i stay (Evaluated T v) (suc k) h w q = absurd (true≢false (sym w))
      back_term i stay (Bracket c T e) (suc k) h w q = absurd (true≢false (sym w))

      back_terms : (within : Bool) → (within ≡ true → Stays) → (es : Exprs) (k : ℕ) → depth es ≤ k → fit_terms within es ≡ true → AllGood good (all_term_parts es) → Back (times no_exprs expr (read_term k) (term_count es)) (all_term_bytes es) (all_renumbered g es)
      back_terms i stay no_exprs k h w q = back_give no_exprs
      back_terms i stay (expr e es) k h w q =
          back_after (λ a. one (expr a) (times no_exprs expr (read_term k) (term_count es))) (back_term i stay e k (omega arith) (both_true _ _ w).0 (good_left good (term_parts e) (all_term_parts es) q))
          (back_one (expr (renumbered g e)) (back_terms i stay es k (omega arith) (both_true _ _ w).1 (good_right good (term_parts e) (all_term_parts es) q)))

      back_arms : (within : Bool) → (within ≡ true → Stays) → (cases : Arms) (k : ℕ) → arm_depth cases ≤ k → fit_arms within cases ≡ true → AllGood good (arm_parts cases) → Back (many_arms (read_pattern k) (read_term k) (arm_count cases)) (arm_bytes cases) (arms_renumbered g cases)
      back_arms i stay no_arms k h w q = back_give no_arms
      back_arms i stay (arm p e rest) k h w q =
          let Ts = pattern_types p in
          let l = good_left good (map OfType Ts ++ term_parts e) (arm_parts rest) q in
          let t = ap (list_all good) (sym (types_as_parts Ts)) ∙ good_left good (map OfType Ts) (term_parts e) l in
          back_three arm (back_pattern p k (omega arith) (both_left _ _ _ w) t) (back_term i stay e k (omega arith) (both_middle _ _ _ w) (good_right good (map OfType Ts) (term_parts e) l))
          (back_arms i stay rest k (omega arith) (both_true _ _ w).1 (good_right good (map OfType Ts ++ term_parts e) (arm_parts rest) q))

      pub back_value : Stays → (v : PValue) (k : ℕ) → value_nesting v ≤ k → fits_value v ≡ true → AllGood good (value_parts v) → Back (read_value k) (value_bytes v) (value_renumbered g v)
      back_value stay v zero h w q = absurd (omega (arith, value-pos v))
      back_value stay (KInt n) (suc k) h w q = record { reads = (back_one KInt (back_eight_bytes n w)).reads }
      back_value stay (KBool b) (suc k) h w q = record { reads = (back_one KBool (back_truth b)).reads }
      back_value stay (KStr s) (suc k) h w q = record { reads = (back_one KStr (back_str s w)).reads }
      back_value stay KUnit (suc k) h w q = record { reads = λ r. refl }
      back_value stay (KExn n None) (suc k) h w q =
          record { reads = (back_after (λ x. read_with_text (has_text x) (KExn x None) (one (λ s. KExn x (Some s)) read_str)) (back_byte n) (back_bare (has_text n) (KExn n None) (one (λ s. KExn n (Some s)) read_str) (has_none n (both_true _ _ w).0))).reads }
      back_value stay (KExn n (Some s)) (suc k) h w q =
          record { reads = (back_after (λ x. read_with_text (has_text x) (KExn x None) (one (λ t. KExn x (Some t)) read_str)) (back_byte n) (back_text (has_text n) (KExn n None) (both_true _ _ w).0 (back_one (λ t. KExn n (Some t)) (back_str s (both_true _ _ w).1)))).reads }
      back_value stay (KTuple vs) (suc k) h w q =
          record { reads = (back_one KTuple (back_after (times no_pvalues pvalue (read_value k)) (back_width (value_count vs) (both_true _ _ w).0) (back_values stay vs k (omega arith) (both_true _ _ w).1 q))).reads }
      back_value stay (KList vs) (suc k) h w q =
          record { reads = (back_one KList (back_after (times no_pvalues pvalue (read_value k)) (back_four_bytes (value_count vs) (both_true _ _ w).0) (back_values stay vs k (omega arith) (both_true _ _ w).1 q))).reads }
      back_value stay KAbsent (suc k) h w q = record { reads = λ r. refl }
      back_value stay (KPresent v) (suc k) h w q = record { reads = (back_one KPresent (back_value stay v k (omega arith) w q)).reads }
      back_value stay (KFun c l) (suc k) h w q =
          record { reads = (back_two KFun (home_stays stay c (both_left _ _ _ w)) (back_term true (λ e. stay) l k (omega arith) (both_true _ _ w).1 q)).reads }

      back_values : Stays → (vs : PValues) (k : ℕ) → value_depth vs ≤ k → fit_values vs ≡ true → AllGood good (all_value_parts vs) → Back (times no_pvalues pvalue (read_value k) (value_count vs)) (all_value_bytes vs) (values_renumbered g vs)
      back_values stay no_pvalues k h w q = back_give no_pvalues
      back_values stay (pvalue v vs) k h w q =
          back_after (λ a. one (pvalue a) (times no_pvalues pvalue (read_value k) (value_count vs))) (back_value stay v k (omega arith) (both_true _ _ w).0 (good_left good (value_parts v) (all_value_parts vs) q))
          (back_one (pvalue (value_renumbered g v)) (back_values stay vs k (omega arith) (both_true _ _ w).1 (good_right good (value_parts v) (all_value_parts vs) q)))
