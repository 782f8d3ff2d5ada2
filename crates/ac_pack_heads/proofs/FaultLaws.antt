-- What is written of some parts, and their first fault, which is the same whatever numbers are written.
use Rattle.std.proofs.Common.{◌≡◌, refl, sym, ap, ap₂, ◌∙◌, ℕ, suc, ◌+◌, Bool, List, [], ◌∷◌, ◌++◌, length, length-append, append_assoc, append-nil, Option, Some, None}
use native.Mathlib.Omega.{arith}
use Rattle.std.specs.Option.{option_or}
use Rattle.ac_types.specs.Limits.{longest_packet}
use Rattle.ac_types.specs.Types.{Bytes, Typ}
use Rattle.ac_terms.specs.Terms.{Main, In, Expr, Int, Boolean, Str, Unit', Exn, ExnOf, Tuple, Nil, Empty, Present, Cons, Var, Own, Ref, Lam, Rec, App, Let, If, Seq, Match, Try, Raise, Prim, Marshal, Unmarshal, Val, Evaluated, Bracket, Exprs, no_exprs, expr, Arms, no_arms, arm, PValue, KInt, KBool, KStr, KUnit, KExn, KTuple, KList, KAbsent, KPresent, KFun, PValues, no_pvalues, pvalue}
use Rattle.ac_terms.specs.Bounds.{is_lambda}
use Rattle.ac_terms.specs.Spelling.{two_written, type_bytes, value_bytes, arm_count}
use Rattle.ac_terms.specs.Heads.{Head, before, pattern_heads, term_heads, all_term_heads, arm_heads, value_heads, all_value_heads, packed_heads}
use Rattle.ac_terms.specs.Renumbered.{renumbered, all_renumbered, arms_renumbered, value_renumbered, values_renumbered}
use Rattle.ac_terms.proofs.HeadLaws.{spelling, packed_spelled}
use Rattle.ac_rules.specs.Faults.{Fault, part_fault, first_fault}
use Rattle.ac_pack_heads.specs.Outcomes.{WalkEnd, On, Stopped, unless_fault, walk_end}

-- the first fault, or these bytes
abbrev pub outcome : Option Fault → Bytes → WalkEnd
outcome None bs = On bs
outcome (Some f) bs = Stopped f

pub after_faults : (bs : Bytes) (hs : List Head) → walk_end bs hs ≡ outcome (first_fault 500 longest_packet (length bs) hs) (bs ++ spelling hs)
unfolding walk_end
after_faults bs [] = ap On (sym (append-nil bs))
after_faults bs (h ∷ hs) =
    by (part_fault 500 longest_packet (length bs + length h.bytes) h)
    (after_faults (bs ++ h.bytes) hs ∙ ap₂ (λ n xs. outcome (first_fault 500 longest_packet n hs) xs) (length-append bs h.bytes) (append_assoc bs h.bytes (spelling hs)))
  where
    by : (o : Option Fault) → walk_end (bs ++ h.bytes) hs ≡ outcome (first_fault 500 longest_packet (length bs + length h.bytes) hs) (bs ++ spelling (h ∷ hs)) →
        unless_fault o (walk_end (bs ++ h.bytes) hs) ≡ outcome (option_or o (first_fault 500 longest_packet (length bs + length h.bytes) hs)) (bs ++ spelling (h ∷ hs))
    by None rest = rest
    by (Some f) rest = refl

-- heads that differ in nothing but which bytes they have
abbrev pub Alike : List Head → List Head → Type 0
Alike [] [] = Unit {0}
Alike [] (k ∷ ks) = ⊥
Alike (h ∷ hs) [] = ⊥
Alike (h ∷ hs) (k ∷ ks) = (h.nesting ≡ k.nesting) × (h.travels ≡ k.travels) × (length h.bytes ≡ length k.bytes) × Alike hs ks

same_fault : (h k : Head) (n : ℕ) → h.nesting ≡ k.nesting → h.travels ≡ k.travels → length h.bytes ≡ length k.bytes → part_fault 500 longest_packet (n + length h.bytes) h ≡ part_fault 500 longest_packet (n + length k.bytes) k
same_fault h k n p q r =
    ap₂ (λ (x : ℕ) (y : Bool). part_fault 500 longest_packet (n + length h.bytes) (record { nesting = x; travels = y; bytes = h.bytes })) p q
    ∙ ap (λ m. part_fault 500 longest_packet (n + m) k) r

pub alike_faults : (n : ℕ) (hs ks : List Head) → Alike hs ks → first_fault 500 longest_packet n hs ≡ first_fault 500 longest_packet n ks
alike_faults n [] [] a = refl
alike_faults n [] (k ∷ ks) a = absurd a
alike_faults n (h ∷ hs) [] a = absurd a
alike_faults n (h ∷ hs) (k ∷ ks) a =
    ap₂ option_or (same_fault h k n a.0 a.1 a.2) (ap (λ m. first_fault 500 longest_packet (n + m) hs) a.2 ∙ alike_faults (n + length k.bytes) hs ks a.3)

alike : (hs : List Head) → Alike hs hs
alike [] = tt
alike (h ∷ hs) = (refl, refl, refl, alike hs)

joined : (hs ks xs ys : List Head) → Alike hs ks → Alike xs ys → Alike (hs ++ xs) (ks ++ ys)
joined [] [] xs ys a b = b
joined [] (k ∷ ks) xs ys a b = absurd a
joined (h ∷ hs) [] xs ys a b = absurd a
joined (h ∷ hs) (k ∷ ks) xs ys a b = (a.0, a.1, a.2, joined hs ks xs ys a.3 b)

preceded : (bs cs : Bytes) (hs ks : List Head) → length bs ≡ length cs → Alike hs ks → Alike (before bs hs) (before cs ks)
preceded bs cs [] [] e a = (refl, refl, e, tt)
preceded bs cs [] (k ∷ ks) e a = absurd a
preceded bs cs (h ∷ hs) [] e a = absurd a
preceded bs cs (h ∷ hs) (k ∷ ks) e a = (a.0, a.1, omega (arith, length-append bs h.bytes, length-append cs k.bytes, a.2), a.3)

module _ (f : ℕ → ℕ) where
  lambda_same : (e : Expr) → is_lambda (renumbered f e) ≡ is_lambda e
  lambda_same (Lam T e) = refl
  lambda_same (Rec T U e) = refl
  lambda_same e = refl

  abbrev th : ℕ → Expr → List Head
  th d e = term_heads two_written d e

  abbrev R : Expr → Expr
  R e = renumbered f e

  mutual
    term_alike : (d : ℕ) (e : Expr) → Alike (term_heads two_written d (renumbered f e)) (term_heads two_written d e)
    term_alike d (ExnOf k e) = (refl, refl, refl, term_alike (suc d) e)
    term_alike d (Tuple es) = (refl, refl, refl, all_alike (suc d) es)
    term_alike d (Present e) = (refl, refl, refl, term_alike (suc d) e)
    term_alike d (Cons a b) = (refl, refl, refl, joined (th (suc d) (R a)) (th (suc d) a) _ _ (term_alike (suc d) a) (term_alike (suc d) b))
    term_alike d (Ref j x) = (refl, refl, refl, tt)
    term_alike d (Lam T e) = (refl, refl, refl, (refl, refl, refl, term_alike (suc d) e))
    term_alike d (Rec T U e) = (refl, refl, refl, (refl, refl, refl, (refl, refl, refl, term_alike (suc d) e)))
    term_alike d (App a b) = (refl, refl, refl, joined (th (suc d) (R a)) (th (suc d) a) _ _ (term_alike (suc d) a) (term_alike (suc d) b))
    term_alike d (Let T e b) = (refl, refl, refl, (refl, refl, refl, joined (th (suc d) (R e)) (th (suc d) e) _ _ (term_alike (suc d) e) (term_alike (suc d) b)))
    term_alike d (If c a b) =
        (refl, refl, refl, joined (th (suc d) (R c) ++ th (suc d) (R a)) (th (suc d) c ++ th (suc d) a) _ _ (joined (th (suc d) (R c)) (th (suc d) c) _ _ (term_alike (suc d) c) (term_alike (suc d) a)) (term_alike (suc d) b))
    term_alike d (Seq es) = (refl, refl, refl, all_alike (suc d) es)
    term_alike d (Match e cases) =
        (refl, refl, refl, joined (th (suc d) (R e)) (th (suc d) e) _ _ (term_alike (suc d) e) (preceded (two_written (arm_count (arms_renumbered f cases))) (two_written (arm_count cases)) (arm_heads two_written (suc d) (arms_renumbered f cases)) (arm_heads two_written (suc d) cases) refl (arms_alike (suc d) cases)))
    term_alike d (Try e cases) =
        (refl, refl, refl, joined (th (suc d) (R e)) (th (suc d) e) _ _ (term_alike (suc d) e) (preceded (two_written (arm_count (arms_renumbered f cases))) (two_written (arm_count cases)) (arm_heads two_written (suc d) (arms_renumbered f cases)) (arm_heads two_written (suc d) cases) refl (arms_alike (suc d) cases)))
    term_alike d (Raise T e) = (refl, refl, refl, (refl, refl, refl, term_alike (suc d) e))
    term_alike d (Prim k es) = (refl, refl, refl, all_alike (suc d) es)
    term_alike d (Marshal T m e) = (refl, refl, refl, (refl, refl, refl, joined (th (suc d) (R m)) (th (suc d) m) _ _ (term_alike (suc d) m) (term_alike (suc d) e)))
    term_alike d (Unmarshal T e) = (refl, refl, refl, (refl, refl, refl, term_alike (suc d) e))
    term_alike d (Val T v) = (refl, refl, refl, (refl, refl, refl, value_alike (suc d) v))
    term_alike d (Int n) = alike (th d (Int n))
    term_alike d (Boolean b) = alike (th d (Boolean b))
    term_alike d (Str s) = alike (th d (Str s))
    term_alike d Unit' = alike (th d Unit')
    term_alike d (Exn k) = alike (th d (Exn k))
    term_alike d (Nil T) = alike (th d (Nil T))
    term_alike d (Empty T) = alike (th d (Empty T))
    term_alike d (Var i) = alike (th d (Var i))
    term_alike d (Own i) = alike (th d (Own i))
    term_alike d (Evaluated T v) = alike (th d (Evaluated T v))
    term_alike d (Bracket c T e) = alike (th d (Bracket c T e))

    all_alike : (d : ℕ) (es : Exprs) → Alike (all_term_heads two_written d (all_renumbered f es)) (all_term_heads two_written d es)
    all_alike d no_exprs = tt
    all_alike d (expr e es) = joined (th d (R e)) (th d e) _ _ (term_alike d e) (all_alike d es)

    arms_alike : (d : ℕ) (cases : Arms) → Alike (arm_heads two_written d (arms_renumbered f cases)) (arm_heads two_written d cases)
    arms_alike d no_arms = tt
    arms_alike d (arm p e rest) =
        joined (pattern_heads d p ++ th d (R e)) (pattern_heads d p ++ th d e) _ _ (joined (pattern_heads d p) (pattern_heads d p) _ _ (alike (pattern_heads d p)) (term_alike d e)) (arms_alike d rest)

    pub value_alike : (d : ℕ) (v : PValue) → Alike (value_heads two_written d (value_renumbered f v)) (value_heads two_written d v)
    value_alike d (KTuple vs) = (refl, refl, refl, values_alike (suc d) vs)
    value_alike d (KList vs) = (refl, refl, refl, values_alike (suc d) vs)
    value_alike d (KPresent v) = (refl, refl, refl, value_alike (suc d) v)
    value_alike d (KFun Main l) = (refl, lambda_same l, refl, term_alike (suc d) l)
    value_alike d (KFun (In k) l) = (refl, lambda_same l, refl, term_alike (suc d) l)
    value_alike d (KInt n) = alike (value_heads two_written d (KInt n))
    value_alike d (KBool b) = alike (value_heads two_written d (KBool b))
    value_alike d (KStr s) = alike (value_heads two_written d (KStr s))
    value_alike d KUnit = alike (value_heads two_written d KUnit)
    value_alike d (KExn k s) = alike (value_heads two_written d (KExn k s))
    value_alike d KAbsent = alike (value_heads two_written d KAbsent)

    values_alike : (d : ℕ) (vs : PValues) → Alike (all_value_heads two_written d (values_renumbered f vs)) (all_value_heads two_written d vs)
    values_alike d no_pvalues = tt
    values_alike d (pvalue v vs) = joined (value_heads two_written d (value_renumbered f v)) (value_heads two_written d v) _ _ (value_alike d v) (values_alike d vs)

  -- the first fault doesn't depend on the numbers
  pub same_faults : (T : Typ) (v : PValue) → first_fault 500 longest_packet 0 (packed_heads T (value_renumbered f v)) ≡ first_fault 500 longest_packet 0 (packed_heads T v)
  same_faults T v = alike_faults 0 (packed_heads T (value_renumbered f v)) (packed_heads T v) (refl, refl, refl, value_alike 1 v)

  -- what is written of a type and a value with their numbers: the first fault of the two, or their bytes
  pub written : (T : Typ) (v : PValue) → walk_end [] (packed_heads T (value_renumbered f v)) ≡ outcome (first_fault 500 longest_packet 0 (packed_heads T v)) (type_bytes T ++ value_bytes two_written (value_renumbered f v))
  written T v =
      after_faults [] (packed_heads T (value_renumbered f v))
      ∙ ap₂ outcome (same_faults T v) (packed_spelled T (value_renumbered f v))
