-- Values written one after the other, and the values that a pattern gives to its variables.
use Rattle.std.proofs.Common.{◌≡◌, ℕ, zero, suc, ◌+◌, List, [], ◌∷◌, ◌++◌, length, Option, Some, None, refl, sym, ap, ap₂, ◌∙◌, subst, arith, append_assoc, length-append, true, false, Bool}
use Rattle.std.specs.Prelude.{option_and_then, option_map, nat_eq}
use Rattle.ac_types.specs.Partial.{given}
use Rattle.ac_types.specs.Types.{Typ}
use Rattle.ac_terms.specs.Terms.{Pattern, PWild, PVar, PInt, PBool, PStr, PUnit, PTuple, PNil, PCons, PAbsent, PPresent, PExn, PExnOf, Patterns, no_patterns, pattern', Expr, ExnOf, Tuple, Present, Cons, Var, Lam, Rec, App, Let, If, Seq, Match, Try, Raise, Prim, Marshal, Unmarshal, Exprs, no_exprs, expr, Arms, no_arms, arm, Value, VInt, VBool, VStr, VUnit, VExn, VTuple, VNil, VCons, VAbsent, VPresent, Values, no_values, value}
use Rattle.ac_meaning.specs.Substitution.{Written, Slot, Free, Bound, up, slot_in, slot, from_slot, binders, all_binders, inst, inst_all, inst_arms}
use Rattle.ac_meaning.specs.Matching.{fit, fit_all}

-- the slots of two rows of values
abbrev pub reslot : {V : Type 0} → ℕ → List (Typ × V) → Slot V → Slot V
reslot d ws (Free i) = slot d ws i
reslot d ws (Bound T v) = Bound T v

reslot-up : {V : Type 0} (d : ℕ) (ws : List (Typ × V)) (s : Slot V) → reslot (suc d) ws (up s) ≡ up (reslot d ws s)
reslot-up d ws (Free i) = refl
reslot-up d ws (Bound T v) = refl

reslot-next : {V : Type 0} (w : Typ × V) (ws : List (Typ × V)) (s : Slot V) → reslot 0 (w ∷ ws) (up s) ≡ reslot 0 ws s
reslot-next w ws (Free i) = refl
reslot-next w ws (Bound T v) = refl

reslot-none : {V : Type 0} (s : Slot V) → reslot 0 [] s ≡ s
reslot-none (Free i) = refl
reslot-none (Bound T v) = refl

slots_front : {V : Type 0} (ws vs : List (Typ × V)) (i : ℕ) → reslot 0 ws (slot (length ws) vs i) ≡ slot_in (ws ++ vs) i
slots_front [] vs i = reslot-none (slot_in vs i)
slots_front (w ∷ ws) vs zero = refl
slots_front (w ∷ ws) vs (suc i) = reslot-next w ws (slot (length ws) vs i) ∙ slots_front ws vs i

pub slots : {V : Type 0} (d : ℕ) (ws vs : List (Typ × V)) (e : ℕ) → e ≡ d + length ws → (i : ℕ) → reslot d ws (slot e vs i) ≡ slot d (ws ++ vs) i
slots zero ws vs e h i = let same : e ≡ length ws = omega arith in subst (λ n. reslot 0 ws (slot n vs i) ≡ slot_in (ws ++ vs) i) (sym same) (slots_front ws vs i)
slots (suc d) ws vs zero h i = absurd (omega arith)
slots (suc d) ws vs (suc e) h zero = refl
slots (suc d) ws vs (suc e) h (suc i) = reslot-up d ws (slot e vs i) ∙ ap up (slots d ws vs e (omega arith) i)

inst_slot : (d : ℕ) (ws : Written) (s : Slot Value) → inst d ws (from_slot s) ≡ from_slot (reslot d ws s)
inst_slot d ws (Free i) = refl
inst_slot d ws (Bound T v) = refl

pub ap₃ : {A B C D : Type 0} (f : A → B → C → D) {a a' : A} {b b' : B} {c c' : C} → a ≡ a' → b ≡ b' → c ≡ c' → f a b c ≡ f a' b' c'
ap₃ f {a' = a'} {b' = b'} {c = c} p q r = ap₂ (λ x y. f x y c) p q ∙ ap (f a' b') r

mutual
  -- values written, and then others for the variables that were left, are both written together
  pub inst-inst : (t : Expr) (d : ℕ) (ws vs : Written) (e : ℕ) → e ≡ d + length ws → inst d ws (inst e vs t) ≡ inst d (ws ++ vs) t
  inst-inst (ExnOf k t) d ws vs e h = ap (ExnOf k) (inst-inst t d ws vs e h)
  inst-inst (Tuple ts) d ws vs e h = ap Tuple (inst-inst_all ts d ws vs e h)
  inst-inst (Present t) d ws vs e h = ap Present (inst-inst t d ws vs e h)
  inst-inst (Cons a b) d ws vs e h = ap₂ Cons (inst-inst a d ws vs e h) (inst-inst b d ws vs e h)
  inst-inst (Var i) d ws vs e h = inst_slot d ws (slot e vs i) ∙ ap from_slot (slots d ws vs e h i)
  inst-inst (Lam T t) d ws vs e h = ap (Lam T) (inst-inst t (suc d) ws vs (suc e) (omega arith))
  inst-inst (Rec T U t) d ws vs e h = ap (Rec T U) (inst-inst t (suc (suc d)) ws vs (suc (suc e)) (omega arith))
  inst-inst (App f a) d ws vs e h = ap₂ App (inst-inst f d ws vs e h) (inst-inst a d ws vs e h)
  inst-inst (Let T t b) d ws vs e h = ap₂ (Let T) (inst-inst t d ws vs e h) (inst-inst b (suc d) ws vs (suc e) (omega arith))
  inst-inst (If c a b) d ws vs e h = ap₃ If (inst-inst c d ws vs e h) (inst-inst a d ws vs e h) (inst-inst b d ws vs e h)
  inst-inst (Seq ts) d ws vs e h = ap Seq (inst-inst_all ts d ws vs e h)
  inst-inst (Match t arms) d ws vs e h = ap₂ Match (inst-inst t d ws vs e h) (inst-inst_arms arms d ws vs e h)
  inst-inst (Try t arms) d ws vs e h = ap₂ Try (inst-inst t d ws vs e h) (inst-inst_arms arms d ws vs e h)
  inst-inst (Raise T t) d ws vs e h = ap (Raise T) (inst-inst t d ws vs e h)
  inst-inst (Prim k ts) d ws vs e h = ap (Prim k) (inst-inst_all ts d ws vs e h)
  inst-inst (Marshal T m t) d ws vs e h = ap₂ (Marshal T) (inst-inst m d ws vs e h) (inst-inst t d ws vs e h)
  inst-inst (Unmarshal T t) d ws vs e h = ap (Unmarshal T) (inst-inst t d ws vs e h)
  inst-inst _ d ws vs e h = refl

  pub inst-inst_all : (ts : Exprs) (d : ℕ) (ws vs : Written) (e : ℕ) → e ≡ d + length ws → inst_all d ws (inst_all e vs ts) ≡ inst_all d (ws ++ vs) ts
  inst-inst_all no_exprs d ws vs e h = refl
  inst-inst_all (expr t ts) d ws vs e h = ap₂ expr (inst-inst t d ws vs e h) (inst-inst_all ts d ws vs e h)

  pub inst-inst_arms : (arms : Arms) (d : ℕ) (ws vs : Written) (e : ℕ) → e ≡ d + length ws → inst_arms d ws (inst_arms e vs arms) ≡ inst_arms d (ws ++ vs) arms
  inst-inst_arms no_arms d ws vs e h = refl
  inst-inst_arms (arm p t rest) d ws vs e h = ap₂ (arm p) (inst-inst t (binders p + d) ws vs (binders p + e) (omega arith)) (inst-inst_arms rest d ws vs e h)

pub slot_none : {V : Type 0} (d i : ℕ) → slot {V = V} d [] i ≡ Free i
slot_none zero i = refl
slot_none (suc d) zero = refl
slot_none (suc d) (suc i) = ap up (slot_none d i)

mutual
  -- nothing is written
  pub inst_none : (t : Expr) (d : ℕ) → inst d [] t ≡ t
  inst_none (ExnOf k t) d = ap (ExnOf k) (inst_none t d)
  inst_none (Tuple ts) d = ap Tuple (inst_none_all ts d)
  inst_none (Present t) d = ap Present (inst_none t d)
  inst_none (Cons a b) d = ap₂ Cons (inst_none a d) (inst_none b d)
  inst_none (Var i) d = ap from_slot (slot_none d i)
  inst_none (Lam T t) d = ap (Lam T) (inst_none t (suc d))
  inst_none (Rec T U t) d = ap (Rec T U) (inst_none t (suc (suc d)))
  inst_none (App f a) d = ap₂ App (inst_none f d) (inst_none a d)
  inst_none (Let T t b) d = ap₂ (Let T) (inst_none t d) (inst_none b (suc d))
  inst_none (If c a b) d = ap₃ If (inst_none c d) (inst_none a d) (inst_none b d)
  inst_none (Seq ts) d = ap Seq (inst_none_all ts d)
  inst_none (Match t arms) d = ap₂ Match (inst_none t d) (inst_none_arms arms d)
  inst_none (Try t arms) d = ap₂ Try (inst_none t d) (inst_none_arms arms d)
  inst_none (Raise T t) d = ap (Raise T) (inst_none t d)
  inst_none (Prim k ts) d = ap (Prim k) (inst_none_all ts d)
  inst_none (Marshal T m t) d = ap₂ (Marshal T) (inst_none m d) (inst_none t d)
  inst_none (Unmarshal T t) d = ap (Unmarshal T) (inst_none t d)
  inst_none _ d = refl

  pub inst_none_all : (ts : Exprs) (d : ℕ) → inst_all d [] ts ≡ ts
  inst_none_all no_exprs d = refl
  inst_none_all (expr t ts) d = ap₂ expr (inst_none t d) (inst_none_all ts d)

  pub inst_none_arms : (arms : Arms) (d : ℕ) → inst_arms d [] arms ≡ arms
  inst_none_arms no_arms d = refl
  inst_none_arms (arm p t rest) d = ap₂ (arm p) (inst_none t (binders p + d)) (inst_none_arms rest d)

-- what is bound stands before what was bound
abbrev pub before : {A : Type 0} → List A → Option (List A) → Option (List A)
before ws o = option_map (λ us. us ++ ws) o

pub before_given : {A : Type 0} (b : Bool) (o o' : Option (List A)) (ws : List A) → o ≡ before ws o' → given b o ≡ before ws (given b o')
before_given true o o' ws h = h
before_given false o o' ws h = refl

pub before_then : {A : Type 0} (f : List A → Option (List A)) (ws : List A) (o o' : Option (List A)) → o ≡ before ws o' → ((us : List A) → f us ≡ before us (f [])) → option_and_then f o ≡ before ws (option_and_then f o')
before_then {A} f ws o None h k = ap (option_and_then f) h
before_then {A} f ws o (Some us) h k = ap (option_and_then f) h ∙ k (us ++ ws) ∙ twice (f []) ∙ ap (before ws) (sym (k us))
  where
    twice : (o : Option (List A)) → before (us ++ ws) o ≡ before ws (before us o)
    twice None = refl
    twice (Some x) = ap Some (sym (append_assoc x us ws))

mutual
  pub fit_before : (p : Pattern) (v : Value) (ws : Written) → fit p v ws ≡ before ws (fit p v [])
  fit_before (PInt n) (VInt k) ws = before_given _ (Some ws) (Some []) ws refl
  fit_before (PBool b) (VBool c) ws = before_given _ (Some ws) (Some []) ws refl
  fit_before (PStr s) (VStr t) ws = before_given _ (Some ws) (Some []) ws refl
  fit_before (PTuple ps) (VTuple vs) ws = fit_all_before ps vs ws
  fit_before (PCons p q) (VCons v w) ws = before_then (fit q w) ws (fit p v ws) (fit p v []) (fit_before p v ws) (fit_before q w)
  fit_before (PPresent p) (VPresent v) ws = fit_before p v ws
  fit_before (PExn k) (VExn j None) ws = before_given (nat_eq k j) (Some ws) (Some []) ws refl
  fit_before (PExnOf k p) (VExn j (Some s)) ws = before_given (nat_eq k j) (fit p (VStr s) ws) (fit p (VStr s) []) ws (fit_before p (VStr s) ws)
  fit_before PUnit VUnit ws = refl
  fit_before PNil (VNil T) ws = refl
  fit_before PAbsent (VAbsent T) ws = refl
  fit_before _ _ ws = refl

  pub fit_all_before : (ps : Patterns) (vs : Values) (ws : Written) → fit_all ps vs ws ≡ before ws (fit_all ps vs [])
  fit_all_before (pattern' p ps) (value v vs) ws = before_then (fit_all ps vs) ws (fit p v ws) (fit p v []) (fit_before p v ws) (fit_all_before ps vs)
  fit_all_before no_patterns no_values ws = refl
  fit_all_before _ _ ws = refl

-- a pattern binds as many variables as it has
abbrev pub Binds : {A : Type 0} → ℕ → Option (List A) → Type 0
Binds n None = Unit {0}
Binds n (Some us) = length us ≡ n

pub binds_given : {A : Type 0} (b : Bool) (n : ℕ) (o : Option (List A)) → Binds n o → Binds n (given b o)
binds_given true n o h = h
binds_given false n o h = tt

pub binds_then : {A : Type 0} (f : List A → Option (List A)) (m n : ℕ) (o : Option (List A)) → Binds n o → ((us : List A) → f us ≡ before us (f [])) → Binds m (f []) → Binds (n + m) (option_and_then f o)
binds_then {A} f m n None h k d = tt
binds_then {A} f m n (Some us) h k d = subst (Binds (n + m)) (sym (k us)) (longer (f []) d)
  where
    longer : (o : Option (List A)) → Binds m o → Binds (n + m) (before us o)
    longer None e = tt
    longer (Some x) e = length-append x us ∙ omega (arith, h, e)

mutual
  pub fit_binds : (p : Pattern) (v : Value) → Binds (binders p) (fit p v [])
  fit_binds PWild v = refl
  fit_binds (PVar T) v = refl
  fit_binds (PInt n) (VInt k) = binds_given _ 0 (Some []) refl
  fit_binds (PBool b) (VBool c) = binds_given _ 0 (Some []) refl
  fit_binds (PStr s) (VStr t) = binds_given _ 0 (Some []) refl
  fit_binds PUnit VUnit = refl
  fit_binds (PTuple ps) (VTuple vs) = fit_all_binds ps vs
  fit_binds PNil (VNil T) = refl
  fit_binds (PCons p q) (VCons v w) = binds_then (fit q w) (binders q) (binders p) (fit p v []) (fit_binds p v) (fit_before q w) (fit_binds q w)
  fit_binds PAbsent (VAbsent T) = refl
  fit_binds (PPresent p) (VPresent v) = fit_binds p v
  fit_binds (PExn k) (VExn j None) = binds_given (nat_eq k j) 0 (Some []) refl
  fit_binds (PExnOf k p) (VExn j (Some s)) = binds_given (nat_eq k j) (binders p) (fit p (VStr s) []) (fit_binds p (VStr s))
  fit_binds _ _ = tt

  pub fit_all_binds : (ps : Patterns) (vs : Values) → Binds (all_binders ps) (fit_all ps vs [])
  fit_all_binds no_patterns no_values = refl
  fit_all_binds (pattern' p ps) (value v vs) = binds_then (fit_all ps vs) (all_binders ps) (binders p) (fit p v []) (fit_binds p v) (fit_all_before ps vs) (fit_all_binds ps vs)
  fit_all_binds _ _ = tt
