-- The type of a function with its captured values is that of its lambda, where each variable around it is of the type of its value.
use Rattle.std.proofs.Common.{◌≡◌, refl, sym, ap, ap₂, ◌∙◌, subst, ℕ, zero, suc, ◌+◌, Bool, true, false, ◌&&◌, List, [], ◌∷◌, ◌++◌, length, length-append, append_assoc, slice_get, map, Option, Some, None, Result, Ok, Err, arith}
use Rattle.std.specs.Prelude.{option_map, option_and_then, IfOk}
use mathlib.Core.Bool.{true≢false}
use Rattle.ac_types.specs.Partial.{given, agree, has, both_same, also}
use Rattle.ac_types.specs.Types.{Typ, TBool, TStr, TUnit, TExn, TTuple, TList, TOpt, TFun, Typs, no_types, typ}
use Rattle.ac_types.specs.ReadTypes.{typ_of, typ_layer}
use Rattle.ac_types.proofs.Same.{both_true}
use Rattle.ac_types.specs.declared.ty.Ty.{Ty, map-Ty}
use Rattle.ac_types.specs.declared.ty.Ty.TheVariants as ty
use Rattle.ac_types.proofs.SizeLaws.{typ_out, type_laws as read_types}
use Rattle.ac_code.specs.Code.{Code}
use Rattle.ac_values.specs.Values.{MValue}
use Rattle.ac_values.specs.ValueReaders.{newest_and_rest}
use Rattle.ac_machine_meaning.specs.Stands.{environment_values as variables_of}
use Rattle.ac_terms.specs.Terms.{Home, Pattern, PWild, PVar, PInt, PBool, PStr, PUnit, PTuple, PNil, PCons, PAbsent, PPresent, PExn, PExnOf, Patterns, no_patterns, pattern', Expr, Int, Boolean, Str, Unit', Exn, ExnOf, Tuple, Nil, Empty, Present, Cons, Var, Own, Ref, Lam, Rec, App, Let, If, Seq, Match, Try, Raise, Prim, Marshal, Unmarshal, Val, Evaluated, Bracket, Exprs, no_exprs, expr, Arms, no_arms, arm}
use Rattle.ac_terms.specs.Defs.{Environment}
use Rattle.ac_terms.specs.Read.{expr_of}
use Rattle.ac_terms.specs.declared.term.Term.{Term}
use Rattle.ac_types.specs.Exceptions.{has_text}
use Rattle.ac_terms.specs.PrimitiveTypes.{primitive_type}
use Rattle.ac_rules.specs.Views.{Coloured, head}
use Rattle.ac_rules.specs.Plain.{may_travel}
use Rattle.ac_rules.specs.Typing.{Scope, fields_of, is_function, is_function_home, type_of, types_of, arm_types, one_of, type_applied, type_seen, kept_in, variables, variables_of_all, variables_joined, last_of}
use Rattle.ac_check.specs.inner.Captured.{is_code, are_code, arms_are_code, travels_with}
use Rattle.ac_check.proofs.CodeTerms.{code_term}
use Rattle.ac_meaning.specs.BareTerms.{BareValue, bare_term, bare_all, bare_arms}
use Rattle.ac_meaning.specs.BareReduction.{BareWritten, from_slot, inst, inst_all, inst_arms}
use Rattle.ac_meaning.specs.BarePacking.{bare_packed_term, bare_packed_terms, bare_packed_arms}
use Rattle.ac_meaning.specs.Substitution.{Slot, Free, Bound, up, slot_in, slot, binders, all_binders}
use Rattle.ac_pack_terms.specs.inner.Slots.{AreTypes}
use Rattle.ac_pack_terms.proofs.SlotLaws.{variables_end}

-- how many variables there are, where there are some
abbrev Counts : Option (List Typ) → ℕ → Type 0
Counts o n = (Us : List Typ) → o ≡ Some Us → length Us ≡ n

counts_some : (Ts : List Typ) → Counts (Some Ts) (length Ts)
counts_some Ts Us e = ap length cc

counts_none : (n : ℕ) → Counts None n
counts_none n Us e = absurd cc

counts_given : (b : Bool) (Ts : List Typ) → Counts (given b (Some Ts)) (length Ts)
counts_given true Ts = counts_some Ts
counts_given false Ts = counts_none (length Ts)

counts_joined : (a b : Option (List Typ)) (m n : ℕ) → Counts a m → Counts b n → Counts (variables_joined a b) (m + n)
counts_joined None b m n p q = counts_none (m + n)
counts_joined (Some Ts) None m n p q = counts_none (m + n)
counts_joined (Some Ts) (Some Us) m n p q = λ Ws e. let w : Us ++ Ts ≡ Ws = cc in let x : length Ts ≡ m = p Ts refl in let y : length Us ≡ n = q Us refl in omega (arith, length-append Us Ts, ap length w)

and_then_same : {A B : Type 0} (f g : A → Option B) (o : Option A) → ((a : A) → o ≡ Some a → f a ≡ g a) → option_and_then f o ≡ option_and_then g o
and_then_same f g None h = refl
and_then_same f g (Some a) h = h a refl

module _ (E : Environment) where
  mutual
    counted : (h : Home) (p : Pattern) (T : Typ) → Counts (variables Coloured true E h p T) (binders p)
    counted h PWild T = counts_some []
    counted h (PVar U) T = counts_given (has (type_seen Coloured true E h U) T) (T ∷ [])
    counted h (PInt n) T = counts_given _ []
    counted h (PBool b) T = counts_given _ []
    counted h (PStr s) T = counts_given _ []
    counted h PUnit T = counts_given _ []
    counted h (PTuple ps) (TTuple Ts) = all_counted h ps Ts
    counted h (PTuple ps) T = counts_none (all_binders ps)
    counted h PNil (TList T) = counts_some []
    counted h PNil T = counts_none 0
    counted h (PCons p q) (TList T) = counts_joined _ _ _ _ (counted h p T) (counted h q (TList T))
    counted h (PCons p q) T = counts_none (binders p + binders q)
    counted h PAbsent (TOpt T) = counts_some []
    counted h PAbsent T = counts_none 0
    counted h (PPresent p) (TOpt T) = counted h p T
    counted h (PPresent p) T = counts_none (binders p)
    counted h (PExn k) TExn = counts_given _ []
    counted h (PExn k) T = counts_none 0
    counted h (PExnOf k p) TExn = when (has_text k) (counted h p TStr)
      where
        when : (b : Bool) → Counts (variables Coloured true E h p TStr) (binders p) → Counts (given b (variables Coloured true E h p TStr)) (binders p)
        when true c = c
        when false c = counts_none (binders p)
    counted h (PExnOf k p) T = counts_none (binders p)

    all_counted : (h : Home) (ps : Patterns) (Ts : Typs) → Counts (variables_of_all Coloured true E h ps Ts) (all_binders ps)
    all_counted h no_patterns no_types = counts_some []
    all_counted h no_patterns (typ T Ts) = counts_none 0
    all_counted h (pattern' p ps) no_types = counts_none (binders p + all_binders ps)
    all_counted h (pattern' p ps) (typ T Ts) = counts_joined _ _ _ _ (counted h p T) (all_counted h ps Ts)

  module _ (h : Home) (o r : ℕ) (ws : BareWritten) (Vs : List Typ) (fits : AreTypes E h ws Vs) where
    abbrev seen : Typ → Option Typ
    seen T = type_seen Coloured true E h T

    abbrev K : Option Typ → Option Typ
    K x = kept_in Coloured x

    abbrev at : List Typ → Scope
    at Us = record { home = h; own = o; refs = r; vars = Us }

    abbrev D : List Typ → Expr → Option Typ
    D Us e = type_of Coloured true E (at Us) e

    abbrev seen_slot : List Typ → Slot BareValue → Option Typ
    seen_slot Us (Free i) = K (slice_get Us i)
    seen_slot Us (Bound T v) = K (seen T)

    slot_typed : (Us : List Typ) (s : Slot BareValue) → D Us (bare_packed_term E (from_slot s)) ≡ seen_slot Us s
    slot_typed Us (Free i) = refl
    slot_typed Us (Bound T v) = refl

    up_seen : (U : Typ) (Us : List Typ) (s : Slot BareValue) → seen_slot (U ∷ Us) (up s) ≡ seen_slot Us s
    up_seen U Us (Free i) = refl
    up_seen U Us (Bound T v) = refl

    slot_in_seen : (xs : BareWritten) (Ts : List Typ) → AreTypes E h xs Ts → (i : ℕ) → seen_slot [] (slot_in xs i) ≡ K (slice_get Ts i)
    slot_in_seen [] [] f i = refl
    slot_in_seen [] (T ∷ Ts) f i = absurd f
    slot_in_seen (x ∷ xs) [] f i = absurd f
    slot_in_seen (x ∷ xs) (T ∷ Ts) f zero = sym f.0
    slot_in_seen (x ∷ xs) (T ∷ Ts) f (suc i) = slot_in_seen xs Ts f.1 i

    slot_seen : (Us : List Typ) (i : ℕ) → seen_slot Us (slot (length Us) ws i) ≡ K (slice_get (Us ++ Vs) i)
    slot_seen [] i = slot_in_seen ws Vs fits i
    slot_seen (U ∷ Us) zero = refl
    slot_seen (U ∷ Us) (suc i) = up_seen U Us (slot (length Us) ws i) ∙ slot_seen Us i

    abbrev P : ℕ → Expr → Expr
    P d e = bare_packed_term E (inst d ws (bare_term h e))

    mutual
      pub typed : (e : Expr) → is_code e ≡ true → (Us : List Typ) → D Us (P (length Us) e) ≡ D (Us ++ Vs) e
      typed (Int n) c Us = refl
      typed (Boolean b) c Us = refl
      typed (Str s) c Us = refl
      typed Unit' c Us = refl
      typed (Exn k) c Us = refl
      typed (ExnOf k e) c Us = ap (λ (x : Option Typ). given (has_text k && has x TStr) (Some TExn)) (typed e c Us)
      typed (Tuple es) c Us = ap (λ (x : Option Typs). K (option_map TTuple x)) (all_typed es c Us)
      typed (Nil T) c Us = refl
      typed (Empty T) c Us = refl
      typed (Present e) c Us = ap (λ (x : Option Typ). K (option_map TOpt x)) (typed e c Us)
      typed (Cons a b) c Us = let p = both_true _ _ c in ap₂ (λ (x y : Option Typ). both_same (option_map TList x) y) (typed a p.0 Us) (typed b p.1 Us)
      typed (Var i) c Us = slot_typed Us (slot (length Us) ws i) ∙ slot_seen Us i
      typed (Own f) c Us = refl
      typed (Ref j x) c Us = refl
      typed (Lam T e) c Us = and_then_same _ _ (seen T) (λ A q. ap (λ (x : Option Typ). K (option_map (TFun A) x)) (typed e c (A ∷ Us)))
      typed (Rec T U e) c Us =
          and_then_same _ _ (seen T) (λ A q. and_then_same _ _ (seen U) (λ B q'. ap (λ (x : Option Typ). K (given (has x B) (Some (TFun A B)))) (typed e c (A ∷ TFun A B ∷ Us))))
      typed (App f a) c Us = let p = both_true _ _ c in ap₂ type_applied (typed f p.0 Us) (typed a p.1 Us)
      typed (Let T e b) c Us =
          let p = both_true _ _ c in
          and_then_same _ _ (seen T) (λ A q. ap₂ (λ (x y : Option Typ). given (has x A) y) (typed e p.0 Us) (typed b p.1 (A ∷ Us)))
      typed (If d a b) c Us =
          let p = both_true _ _ c in
          let q = both_true _ _ p.1 in
          ap (λ (x : Option Typ). given (has x TBool) (both_same (D Us (P (length Us) a)) (D Us (P (length Us) b)))) (typed d p.0 Us)
          ∙ ap₂ (λ (y z : Option Typ). given (has (D (Us ++ Vs) d) TBool) (both_same y z)) (typed a q.0 Us) (typed b q.1 Us)
      typed (Seq es) c Us = ap (λ (x : Option Typs). option_and_then last_of x) (all_typed es c Us)
      typed (Match e cases) c Us =
          let p = both_true _ _ c in
          ap (option_and_then (λ (T : Typ). option_and_then one_of (arm_types Coloured true E (at Us) T (bare_packed_arms E (inst_arms (length Us) ws (bare_arms h cases)))))) (typed e p.0 Us)
          ∙ and_then_same _ _ (D (Us ++ Vs) e) (λ T q. ap (option_and_then one_of) (arms_typed cases p.1 Us T))
      typed (Try e cases) c Us =
          let p = both_true _ _ c in
          ap₂ (λ (x : Option Typ) (y : Option Typs). both_same x (option_and_then one_of y)) (typed e p.0 Us) (arms_typed cases p.1 Us TExn)
      typed (Raise T e) c Us = ap (λ (x : Option Typ). given (has x TExn) (K (seen T))) (typed e c Us)
      typed (Prim k es) c Us = ap (λ (x : Option Typs). option_and_then (primitive_type k) x) (all_typed es c Us)
      typed (Marshal T m e) c Us =
          let p = both_true _ _ c in
          ap₂ (λ (x y : Option Typ). given (has x TStr && agree y (seen T)) (Some TStr)) (typed m p.0 Us) (typed e p.1 Us)
      typed (Unmarshal T e) c Us = ap (λ (x : Option Typ). given (has x TStr) (K (seen T))) (typed e c Us)
      typed (Val T v) c Us = refl
      typed (Evaluated T v) c Us = absurd (true≢false (sym c))
      typed (Bracket d T e) c Us = absurd (true≢false (sym c))

      all_typed : (es : Exprs) → are_code es ≡ true → (Us : List Typ) → types_of Coloured true E (at Us) (bare_packed_terms E (inst_all (length Us) ws (bare_all h es))) ≡ types_of Coloured true E (at (Us ++ Vs)) es
      all_typed no_exprs c Us = refl
      all_typed (expr e es) c Us = let p = both_true _ _ c in ap₂ also (typed e p.0 Us) (all_typed es p.1 Us)

      arms_typed : (cases : Arms) → arms_are_code cases ≡ true → (Us : List Typ) (T : Typ) →
          arm_types Coloured true E (at Us) T (bare_packed_arms E (inst_arms (length Us) ws (bare_arms h cases))) ≡ arm_types Coloured true E (at (Us ++ Vs)) T cases
      arms_typed no_arms c Us T = refl
      arms_typed (arm p e rest) c Us T =
          let q = both_true _ _ c in
          ap₂ also
          (and_then_same (λ (Ws : List Typ). D (Ws ++ Us) (P (binders p + length Us) e)) (λ (Ws : List Typ). D (Ws ++ (Us ++ Vs)) e) (variables Coloured true E h p T) (λ Ws x.
          let n : binders p + length Us ≡ length (Ws ++ Us) = omega (arith, length-append Ws Us, counted h p T Ws x) in
          ap (λ d. D (Ws ++ Us) (P d e)) n ∙ typed e q.0 (Ws ++ Us) ∙ ap (λ Xs. D Xs e) (append_assoc Ws Us Vs)))
          (arms_typed rest q.1 Us T)

-- a function travels as its lambda does where each variable around it is of the type of its value
pub travels : (E : Environment) (h : Home) (ws : BareWritten) (Vs : List Typ) (t : Term) (T : Typ) → AreTypes E h ws Vs → travels_with E h Vs (expr_of t) T ≡ may_travel E h (bare_packed_term E (inst 0 ws (bare_term h (expr_of t)))) T
travels E h ws Vs t T fits =
    ap (λ (x : Option Typ). is_function (head E T) && is_function_home E h && agree x (type_seen Coloured true E h (head E T)))
    (sym (typed E h (length (fields_of E h)) (length E) ws Vs fits (expr_of t) (code_term t) []))

pub travels_at : {X : Type 0} (E : Environment) (h : Home) (n : ℕ) (ws : BareWritten) (Vs : List Typ) (t : Term) (T : Typ) (r : Result Bool X) → n ≡ 0 → AreTypes E h ws Vs →
    IfOk r (λ b. b ≡ travels_with E h Vs (expr_of t) T) → IfOk r (λ b. b ≡ may_travel E h (bare_packed_term E (inst n ws (bare_term h (expr_of t)))) T)
travels_at E h n ws Vs t T (Ok b) z fits e = e ∙ travels E h ws Vs t T fits ∙ ap (λ d. may_travel E h (bare_packed_term E (inst d ws (bare_term h (expr_of t)))) T) (sym z)
travels_at E h n ws Vs t T (Err x) z fits e = e

pub types_end : (E : Environment) (h : Home) (K : Code) (m : MValue) (G : List Typ) → newest_and_rest m ≡ None → AreTypes E h (variables_of K m G) []
types_end E h K m G e = subst (λ (ws : BareWritten). AreTypes E h ws []) (sym (variables_end K m G e)) tt

-- the reading of unit and of options
pub typ_of-Unit : typ_of ty.Unit ≡ TUnit
typ_of-Unit = typ_out ty.Unit ∙ ap (λ x. typ_layer (map-Ty Ty Typ typ_of x)) ty.outs-Unit

pub typ_of-Opt : (t : Ty) → typ_of (ty.Opt t) ≡ TOpt (typ_of t)
typ_of-Opt t = typ_out (ty.Opt t) ∙ ap (λ x. typ_layer (map-Ty Ty Typ typ_of x)) (ty.outs-Opt t)

pub ruleset travel_laws = (travels)

pub ruleset type_laws = (read_types, types_end)
