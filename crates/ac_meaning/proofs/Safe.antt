-- The interpreter never comes to what has no meaning where a term is typed.
use Rattle.std.proofs.Common.{◌≡◌, refl, sym, ap, ap₂, ◌∙◌, subst, ℕ, zero, suc, Bool, true, false, cond, List, [], ◌∷◌, ◌++◌, Option, Some}
use Rattle.std.specs.Prelude.{ℤ, pos, ◌+◌, nat_le, int_div, int_rem, take, drop, length, codes, slice_get}
use Rattle.std.specs.Int.{int_wrap, w64}
use Rattle.ac_types.proofs.FirstLaws.{none≢some, some_eq}
use Rattle.ac_types.specs.Types.{Bytes, Typ, TInt, TBool, TStr, TUnit, TExn, TTuple, Typs, no_types, typ, same_all}
use Rattle.ac_terms.specs.Terms.{Home, Value, VInt, VBool, VStr, VUnit, VTuple, Values, no_values, value}
use Rattle.ac_terms.specs.Defs.{Environment}
use Rattle.ac_terms.specs.PrimitiveTypes.{Rule, arithmetic, comparison, by_rules, primitives, primitive_type}
use Rattle.ac_types.specs.Limits.{longest_string}
use Rattle.ac_code.specs.Constants.{Const, CInt, CBool, CStr, CUnit, CPart, PrimitiveAnswer, Yields, Prints, Sends, Receives, Fails, NoSense, Meaning, meaning, primitive_answer, sum, difference, product, quotient, remainder, negation, equal, less, concatenated, opposite, printed_int, printed_string, sent_string, received_string, length_answer, part_of_string, int_as_string, bytes_between, meanings, same_int, raise_division_by_zero, raise_invalid_argument}
use Rattle.ac_rules.specs.Views.{Mode}
use Rattle.ac_rules.specs.Coherent.{IsCoherent}
use Rattle.ac_rules.proofs.Rules.{then_some}
use Rattle.ac_meaning.specs.Worlds.{Exception, World}
use Rattle.ac_outside.specs.Frames.{Frame, Whole, Bad as bad, AtEnd, next_frame}
use Rattle.ac_meaning.specs.Substitution.{Written, slot_in}
use Rattle.ac_meaning.specs.PrimitiveSteps.{const_of, all_there, consts_of, answer_at}
use Rattle.ac_rules.specs.Growth.{Grows}
use Rattle.ac_rules.proofs.Growth.{grows_not, grows_on}
use Rattle.ac_meaning.proofs.Results.{Result, Fine, Raising, Spending, Wrongly, TooDeep, M, then', raise, Pure, Got, Bad, Deep, lift}
use Rattle.ac_meaning.proofs.Eval.{found, branching, throws, sends, receives, answering, constant}
use Rattle.ac_meaning.specs.Typed.{ValuesTyped, WrittenTyped}
use Rattle.ac_meaning.proofs.FromTypes.{all_equal}
use Rattle.ac_meaning.proofs.Shapes.{IsOf, shape, values_shape, no_values_shape}
use Rattle.ac_meaning.proofs.Sound.{PureOk}

-- constants of types, and answers of a type
abbrev ConstOf : Typ → Const → Type 0
ConstOf T (CInt n) = T ≡ TInt
ConstOf T (CBool b) = T ≡ TBool
ConstOf T (CStr s) = T ≡ TStr
ConstOf T CUnit = T ≡ TUnit
ConstOf T (CPart s i n) = T ≡ TTuple (typ TStr (typ TInt (typ TInt no_types)))

abbrev pub ConstsOf : Typs → List Const → Type 0
ConstsOf Ts [] = Ts ≡ no_types
ConstsOf Ts (k ∷ ks) = (U : Typ) × (Us : Typs) × (Ts ≡ typ U Us) × ConstOf U k × ConstsOf Us ks

abbrev pub AnswerOf : Typ → PrimitiveAnswer → Type 0
AnswerOf T (Yields k) = ConstOf T k
AnswerOf T (Prints s) = T ≡ TUnit
AnswerOf T (Sends s) = T ≡ TUnit
AnswerOf T Receives = T ≡ TStr
AnswerOf T (Fails k s) = Unit {0}
AnswerOf T NoSense = ⊥

-- a constant by its type
abbrev ConstShape : Typ → Const → Type 0
ConstShape TInt k = (n : ℤ) × (k ≡ CInt n)
ConstShape TBool k = (b : Bool) × (k ≡ CBool b)
ConstShape TStr k = (s : Bytes) × (k ≡ CStr s)
ConstShape TUnit k = k ≡ CUnit
ConstShape (TTuple Ts) k = (s : Bytes) × (i n : ℤ) × (k ≡ CPart s i n)
ConstShape T k = ⊥

const_shape : (k : Const) (T : Typ) → ConstOf T k → ConstShape T k
const_shape (CInt n) T h = subst (λ X. ConstShape X (CInt n)) (sym h) (n, refl)
const_shape (CBool b) T h = subst (λ X. ConstShape X (CBool b)) (sym h) (b, refl)
const_shape (CStr s) T h = subst (λ X. ConstShape X (CStr s)) (sym h) (s, refl)
const_shape CUnit T h = subst (λ X. ConstShape X CUnit) (sym h) refl
const_shape (CPart s i n) T h = subst (λ X. ConstShape X (CPart s i n)) (sym h) (s, i, n, refl)

consts_shape : (ks : List Const) (U : Typ) (Us : Typs) → ConstsOf (typ U Us) ks → (k : Const) × (js : List Const) × (ks ≡ k ∷ js) × ConstOf U k × ConstsOf Us js
consts_shape [] U Us h = absurd cc
consts_shape (k ∷ js) U Us h =
    let e = h.2 in
    let p : h.0 ≡ U = cc in
    let q : h.1 ≡ Us = cc in
    (k, js, refl, subst (λ X. ConstOf X k) p h.3, subst (λ X. ConstsOf X js) q h.4)

no_consts : (ks : List Const) → ConstsOf no_types ks → ks ≡ []
no_consts [] h = refl
no_consts (k ∷ js) h = let e = h.2 in absurd cc

-- one constant of a type, or two
one_const : (ks : List Const) (T : Typ) → ConstsOf (typ T no_types) ks → (k : Const) × (ks ≡ k ∷ []) × ConstShape T k
one_const ks T h =
    let s = consts_shape ks T no_types h in
    (s.0, s.2 ∙ ap (λ x. s.0 ∷ x) (no_consts s.1 s.4), const_shape s.0 T s.3)

two_consts : (ks : List Const) (T U : Typ) → ConstsOf (typ T (typ U no_types)) ks → (k j : Const) × (ks ≡ k ∷ j ∷ []) × ConstShape T k × ConstShape U j
two_consts ks T U h =
    let s = consts_shape ks T (typ U no_types) h in
    let r = one_const s.1 U s.4 in
    (s.0, r.0, s.2 ∙ ap (λ x. s.0 ∷ x) r.1, const_shape s.0 T s.3, r.2)

-- what a primitive of a rule answers has the rule's type
abbrev Answers : Meaning → Rule → Type 0
Answers m r = (ks : List Const) → ConstsOf r.0 ks → AnswerOf r.1 (primitive_answer m ks)

abbrev AllAnswer : Meaning → List Rule → Type 0
AllAnswer m [] = Unit {0}
AllAnswer m (r ∷ rs) = Answers m r × AllAnswer m rs

ints : (f : Const → Const → PrimitiveAnswer) (U : Typ) → ((x y : ℤ) → AnswerOf U (f (CInt x) (CInt y))) → (ks : List Const) → ConstsOf (typ TInt (typ TInt no_types)) ks → AnswerOf U (primitive_answer (Meaning.Two f) ks)
ints f U h ks k =
    let s = two_consts ks TInt TInt k in
    subst (λ x. AnswerOf U (primitive_answer (Meaning.Two f) x)) (sym (s.2 ∙ ap₂ (λ a b. a ∷ b ∷ []) s.3.1 s.4.1)) (h s.3.0 s.4.0)

bools : (f : Const → Const → PrimitiveAnswer) (U : Typ) → ((x y : Bool) → AnswerOf U (f (CBool x) (CBool y))) → (ks : List Const) → ConstsOf (typ TBool (typ TBool no_types)) ks → AnswerOf U (primitive_answer (Meaning.Two f) ks)
bools f U h ks k =
    let s = two_consts ks TBool TBool k in
    subst (λ x. AnswerOf U (primitive_answer (Meaning.Two f) x)) (sym (s.2 ∙ ap₂ (λ a b. a ∷ b ∷ []) s.3.1 s.4.1)) (h s.3.0 s.4.0)

strs : (f : Const → Const → PrimitiveAnswer) (U : Typ) → ((x y : Bytes) → AnswerOf U (f (CStr x) (CStr y))) → (ks : List Const) → ConstsOf (typ TStr (typ TStr no_types)) ks → AnswerOf U (primitive_answer (Meaning.Two f) ks)
strs f U h ks k =
    let s = two_consts ks TStr TStr k in
    subst (λ x. AnswerOf U (primitive_answer (Meaning.Two f) x)) (sym (s.2 ∙ ap₂ (λ a b. a ∷ b ∷ []) s.3.1 s.4.1)) (h s.3.0 s.4.0)

an_int : (f : Const → PrimitiveAnswer) (U : Typ) → ((x : ℤ) → AnswerOf U (f (CInt x))) → (ks : List Const) → ConstsOf (typ TInt no_types) ks → AnswerOf U (primitive_answer (Meaning.One f) ks)
an_int f U h ks k = let s = one_const ks TInt k in subst (λ x. AnswerOf U (primitive_answer (Meaning.One f) x)) (sym (s.1 ∙ ap (λ a. a ∷ []) s.2.1)) (h s.2.0)

a_bool : (f : Const → PrimitiveAnswer) (U : Typ) → ((x : Bool) → AnswerOf U (f (CBool x))) → (ks : List Const) → ConstsOf (typ TBool no_types) ks → AnswerOf U (primitive_answer (Meaning.One f) ks)
a_bool f U h ks k = let s = one_const ks TBool k in subst (λ x. AnswerOf U (primitive_answer (Meaning.One f) x)) (sym (s.1 ∙ ap (λ a. a ∷ []) s.2.1)) (h s.2.0)

a_str : (f : Const → PrimitiveAnswer) (U : Typ) → ((x : Bytes) → AnswerOf U (f (CStr x))) → (ks : List Const) → ConstsOf (typ TStr no_types) ks → AnswerOf U (primitive_answer (Meaning.One f) ks)
a_str f U h ks k = let s = one_const ks TStr k in subst (λ x. AnswerOf U (primitive_answer (Meaning.One f) x)) (sym (s.1 ∙ ap (λ a. a ∷ []) s.2.1)) (h s.2.0)

-- an answer under a test
tested : (b : Bool) (T : Typ) (x y : PrimitiveAnswer) → AnswerOf T x → AnswerOf T y → AnswerOf T (cond b x y)
tested true T x y h k = h
tested false T x y h k = k

part_of : (s : Bytes) (i n : ℤ) → AnswerOf TStr (bytes_between s i n)
part_of s (pos i) (pos n) = tested (nat_le (i + n) (length s)) TStr (Yields (CStr (take n (drop i s)))) (raise_invalid_argument (codes "sub")) refl tt
part_of s _ _ = tt

-- a string with two ints
abbrev pub PartTypes : Typs
PartTypes = typ TStr (typ TInt (typ TInt no_types))

a_part : (ks : List Const) → ConstsOf (typ (TTuple PartTypes) no_types) ks → AnswerOf TStr (primitive_answer (Meaning.One part_of_string) ks)
a_part ks k =
    let s = one_const ks (TTuple PartTypes) k in
    subst (λ x. AnswerOf TStr (primitive_answer (Meaning.One part_of_string) x)) (sym (s.1 ∙ ap (λ a. a ∷ []) s.2.3)) (part_of s.2.0 s.2.1 s.2.2)

a_unit : (ks : List Const) → ConstsOf (typ TUnit no_types) ks → AnswerOf TStr (primitive_answer (Meaning.One received_string) ks)
a_unit ks k = let s = one_const ks TUnit k in subst (λ x. AnswerOf TStr (primitive_answer (Meaning.One received_string) x)) (sym (s.1 ∙ ap (λ a. a ∷ []) s.2)) refl

-- the types of constants
abbrev pub ConstType : Typ → Type 0
ConstType TInt = Unit {0}
ConstType TBool = Unit {0}
ConstType TStr = Unit {0}
ConstType TUnit = Unit {0}
ConstType (TTuple Ts) = Ts ≡ PartTypes
ConstType T = ⊥

abbrev pub ConstTypes : Typs → Type 0
ConstTypes no_types = Unit {0}
ConstTypes (typ T Ts) = ConstType T × ConstTypes Ts

abbrev AllConst : List Rule → Type 0
AllConst [] = Unit {0}
AllConst (r ∷ rs) = ConstTypes r.0 × AllConst rs

-- all primitives, with their rules
abbrev EachAnswers : List Meaning → List (List Rule) → Type 0
EachAnswers [] [] = Unit {0}
EachAnswers (m ∷ ms) (rs ∷ rss) = AllConst rs × AllAnswer m rs × EachAnswers ms rss
EachAnswers ms rss = ⊥

each_answers : EachAnswers meanings primitives
each_answers =
    let one : Unit {0} × Unit {0} = (tt, tt) in
    let two : Unit {0} × (Unit {0} × Unit {0}) = (tt, (tt, tt)) in
    let sums : AllConst arithmetic = (two, tt) in
    let tests : AllConst comparison = (two, (two, (two, tt))) in (
      sums,
      (ints sum TInt (λ x y. refl), tt),
      (
        sums,
        (ints difference TInt (λ x y. refl), tt),
        (
          sums,
          (ints product TInt (λ x y. refl), tt),
          (
            sums,
            (ints quotient TInt (λ x y. tested (same_int y (pos 0)) TInt raise_division_by_zero (Yields (CInt (int_wrap w64 (int_div x y)))) tt refl), tt),
            (
              sums,
              (ints remainder TInt (λ x y. tested (same_int y (pos 0)) TInt raise_division_by_zero (Yields (CInt (int_rem x y))) tt refl), tt),
              (
                (one, tt),
                (an_int negation TInt (λ x. refl), tt),
                (
                  tests,
                  (ints equal TBool (λ x y. refl), (bools equal TBool (λ x y. refl), (strs equal TBool (λ x y. refl), tt))),
                  (
                    tests,
                    (ints less TBool (λ x y. refl), (bools less TBool (λ x y. refl), (strs less TBool (λ x y. refl), tt))),
                    (
                      (two, tt),
                      (strs concatenated TStr (λ x y. tested (nat_le (length x + length y) longest_string) TStr (Yields (CStr (x ++ y))) (raise_invalid_argument (codes "string")) refl tt), tt),
                      (
                        (one, tt),
                        (a_bool opposite TBool (λ x. refl), tt),
                        (
                          (one, tt),
                          (an_int printed_int TUnit (λ x. refl), tt),
                          (
                            (one, tt),
                            (a_str printed_string TUnit (λ x. refl), tt),
                            (
                              (one, tt),
                              (a_str sent_string TUnit (λ x. refl), tt),
                              (
                                (one, tt),
                                (a_unit, tt),
                                (
                                  (one, tt),
                                  (a_str length_answer TInt (λ x. refl), tt),
                                  (
                                    ((refl, tt), tt),
                                    (a_part, tt),
                                    (
                                      (one, tt),
                                      (an_int int_as_string TStr (λ x. refl), tt),
                                      tt,
                                    ),
                                  ),
                                ),
                              ),
                            ),
                          ),
                        ),
                      ),
                    ),
                  ),
                ),
              ),
            ),
          ),
        ),
      ),
    )

-- what is said of primitive k
each_at : (ms : List Meaning) (rss : List (List Rule)) → EachAnswers ms rss → (k : ℕ) (rs : List Rule) → slice_get rss k ≡ Some rs → (m : Meaning) × (slice_get ms k ≡ Some m) × AllConst rs × AllAnswer m rs
each_at [] [] e k rs h = absurd (none≢some h)
each_at (m ∷ ms) (x ∷ rss) e zero rs h = (m, refl, subst AllConst (some_eq h) e.0, subst (AllAnswer m) (some_eq h) e.1)
each_at (m ∷ ms) (x ∷ rss) e (suc k) rs h = each_at ms rss e.2 k rs h
each_at [] (x ∷ rss) e k rs h = absurd e
each_at (m ∷ ms) [] e k rs h = absurd e

-- the rule by which arguments have a type
ruled : (m : Meaning) (rs : List Rule) (Ts : Typs) (T : Typ) → AllConst rs → AllAnswer m rs → by_rules rs Ts ≡ Some T → ConstTypes Ts × ((ks : List Const) → ConstsOf Ts ks → AnswerOf T (primitive_answer m ks))
ruled m [] Ts T c a h = absurd (none≢some h)
ruled m (r ∷ rs) Ts T c a h = by (ruled m rs Ts T c.1 a.1) (same_all r.0 Ts) refl h
  where
    by : (by_rules rs Ts ≡ Some T → ConstTypes Ts × ((ks : List Const) → ConstsOf Ts ks → AnswerOf T (primitive_answer m ks))) → (b : Bool) → same_all r.0 Ts ≡ b → elim b as (λ x. Option Typ) [ true ↦ Some r.1 | false ↦ by_rules rs Ts ] ≡ Some T →
        ConstTypes Ts × ((ks : List Const) → ConstsOf Ts ks → AnswerOf T (primitive_answer m ks))
    by more true p q =
        let e : r.0 ≡ Ts = all_equal r.0 Ts p in
        let f : r.1 ≡ T = some_eq q in
        (subst ConstTypes e c.0, λ ks k. subst (λ X. AnswerOf X (primitive_answer m ks)) f (a.0 ks (subst (λ X. ConstsOf X ks) (sym e) k)))
    by more false p q = more q

pub prim_ok : (k : ℕ) (Ts : Typs) (T : Typ) → primitive_type k Ts ≡ Some T → ConstTypes Ts × ((ks : List Const) → ConstsOf Ts ks → AnswerOf T (answer_at (meaning k) (Some ks)))
prim_ok k Ts T h =
    let p = then_some (λ rs. by_rules rs Ts) (slice_get primitives k) T h in
    let e = each_at meanings primitives each_answers k p.0 p.1 in
    let r = ruled e.0 p.0 Ts T e.2 e.3 p.2 in
    (r.0, λ ks c. subst (λ o. AnswerOf T (answer_at o (Some ks))) (sym e.1) (r.1 ks c))

module _ (mode : Mode) (E : Environment) where
  -- values of the types of constants are constants
  const_ok : (T : Typ) → ConstType T → (v : Value) (c : Home) → IsOf mode E c T v → (k : Const) × (const_of v ≡ Some k) × ConstOf T k
  const_ok TInt k v c h = let s = shape mode E v c TInt TInt refl h in (CInt s.0, ap const_of s.1, refl)
  const_ok TBool k v c h = let s = shape mode E v c TBool TBool refl h in (CBool s.0, ap const_of s.1, refl)
  const_ok TStr k v c h = let s = shape mode E v c TStr TStr refl h in (CStr s.0, ap const_of s.1, refl)
  const_ok TUnit k v c h = let s = shape mode E v c TUnit TUnit refl h in (CUnit, ap const_of s, refl)
  const_ok (TTuple Ts) k v c h =
      let s = shape mode E v c (TTuple Ts) (TTuple PartTypes) (ap TTuple k) h in
      let a = values_shape mode E s.0 c TStr (typ TInt (typ TInt no_types)) s.2 in
      let b = values_shape mode E a.1 c TInt (typ TInt no_types) a.4 in
      let d = values_shape mode E b.1 c TInt no_types b.4 in
      let x = shape mode E a.0 c TStr TStr refl a.3 in
      let y = shape mode E b.0 c TInt TInt refl b.3 in
      let z = shape mode E d.0 c TInt TInt refl d.3 in
      let rest : d.1 ≡ no_values = no_values_shape mode E d.1 c d.4 in
      let e : s.0 ≡ value (VStr x.0) (value (VInt y.0) (value (VInt z.0) no_values)) = a.2 ∙ ap₂ value x.1 (b.2 ∙ ap₂ value y.1 (d.2 ∙ ap₂ value z.1 rest)) in
      (CPart x.0 y.0 z.0, ap const_of (s.1 ∙ ap VTuple e), ap TTuple k)
  const_ok _ k v c h = absurd k

  pub consts_ok : (Ts : Typs) → ConstTypes Ts → (vs : Values) (c : Home) → ValuesTyped mode E vs c Ts → (ks : List Const) × (consts_of vs ≡ Some ks) × ConstsOf Ts ks
  consts_ok no_types k vs c h = ([], ap consts_of (no_values_shape mode E vs c h), refl)
  consts_ok (typ T Ts) k vs c h =
      let s = values_shape mode E vs c T Ts h in
      let a = const_ok T k.0 s.0 c s.3 in
      let b = consts_ok Ts k.1 s.1 c s.4 in
      (a.0 ∷ b.0, ap consts_of s.2 ∙ ap₂ all_there a.1 b.1, (T, Ts, refl, a.2, b.2))

  constant_ok : (k : Const) (c : Home) (T : Typ) → ConstOf T k → IsOf mode E c T (constant k)
  constant_ok (CInt n) c T h = h
  constant_ok (CBool b) c T h = h
  constant_ok (CStr s) c T h = h
  constant_ok CUnit c T h = h
  constant_ok (CPart s i n) c T h = (PartTypes, h, (TStr, typ TInt (typ TInt no_types), refl, refl, (TInt, typ TInt no_types, refl, refl, (TInt, no_types, refl, refl, refl))))

-- the definitions grow from E on, and a value has its type in what they are then
abbrev pub Ok : {A : Type 0} → Environment → (Environment → A → Type 0) → Result A → Type 0
Ok E P (Fine a z) = Grows E z.environment × P z.environment a
Ok E P (Raising x z) = Grows E z.environment
Ok E P (Spending z) = Unit {0}
Ok E P Wrongly = ⊥
Ok E P TooDeep = Unit {0}

pub ok_more : {A : Type 0} (E F : Environment) (P : Environment → A → Type 0) (r : Result A) → Grows E F → Ok F P r → Ok E P r
ok_more E F P (Fine a z) g h = (grows_on E F z.environment g h.0, h.1)
ok_more E F P (Raising x z) g h = grows_on E F z.environment g h
ok_more E F P (Spending z) g h = tt
ok_more E F P Wrongly g h = h
ok_more E F P TooDeep g h = tt

pub then_ok : {A B : Type 0} (E : Environment) (P : Environment → A → Type 0) (Q : Environment → B → Type 0) (r : Result A) (f : A → M B) (g : Exception → M B) → Ok E P r → ((a : A) (y : World) → Grows E y.environment → P y.environment a → Ok y.environment Q (f a y)) →
    ((x : Exception) (y : World) → Grows E y.environment → Ok y.environment Q (g x y)) → Ok E Q (then' r f g)
then_ok E P Q (Fine a y) f g h k l = ok_more E y.environment Q (f a y) h.0 (k a y h.0 h.1)
then_ok E P Q (Raising x y) f g h k l = ok_more E y.environment Q (g x y) h (l x y h)
then_ok E P Q (Spending y) f g h k l = tt
then_ok E P Q Wrongly f g h k l = h
then_ok E P Q TooDeep f g h k l = tt

pub seq_ok : {A B : Type 0} (E : Environment) (P : Environment → A → Type 0) (Q : Environment → B → Type 0) (r : Result A) (f : A → M B) → Ok E P r → ((a : A) (y : World) → Grows E y.environment → P y.environment a → Ok y.environment Q (f a y)) → Ok E Q (then' r f raise)
seq_ok E P Q r f h k = then_ok E P Q r f raise h k (λ x y g. grows_not y.environment g.after)

pub lift_ok : {A : Type 0} (P : Environment → A → Type 0) (p : Pure A) (z : World) → IsCoherent z.environment → PureOk (P z.environment) p → Ok z.environment P (lift p z)
lift_ok P (Got a) z i h = (grows_not z.environment i, h)
lift_ok P Bad z i h = h
lift_ok P Deep z i h = tt

module _ (mode : Mode) where
  abbrev pub Of : Home → Typ → Environment → Value → Type 0
  Of c T E v = IsOf mode E c T v

  send_ok : (b : Bool) (s : Bytes) (c : Home) (T : Typ) (z : World) → IsCoherent z.environment → T ≡ TUnit → Ok z.environment (Of c T) (sends b VUnit s z)
  send_ok true s c T z i h = (grows_not z.environment i, h)
  send_ok false s c T z i h = grows_not z.environment i

  receive_ok : (f : Frame) (c : Home) (T : Typ) (z : World) → IsCoherent z.environment → T ≡ TStr → Ok z.environment (Of c T) (receives constant f z)
  receive_ok (Whole s rest) c T z i h = (grows_not z.environment i, h)
  receive_ok (bad n got) c T z i h = grows_not z.environment i
  receive_ok AtEnd c T z i h = grows_not z.environment i

  pub answer_ok : (a : PrimitiveAnswer) (c : Home) (T : Typ) (z : World) → IsCoherent z.environment → AnswerOf T a → Ok z.environment (Of c T) (answering constant a z)
  answer_ok (Yields k) c T z i h = (grows_not z.environment i, constant_ok mode z.environment k c T h)
  answer_ok (Prints s) c T z i h = (grows_not z.environment i, h)
  answer_ok (Sends s) c T z i h = send_ok z.has_channel s c T z i h
  answer_ok Receives c T z i h = receive_ok (next_frame z.input) c T z i h
  answer_ok (Fails k s) c T z i h = grows_not z.environment i
  answer_ok NoSense c T z i h = absurd h

  pub throw_ok : (v : Value) (c : Home) (T : Typ) (z : World) → IsCoherent z.environment → Of c TExn z.environment v → Ok z.environment (Of c T) (throws v z)
  throw_ok v c T z i h = let s = shape mode z.environment v c TExn TExn refl h in subst (λ x. Ok z.environment (Of c T) (throws x z)) (sym s.2) (grows_not z.environment i)

  pub branch_ok : (v : Value) (c : Home) (T : Typ) (m n : M Value) (z : World) → Of c TBool z.environment v → Ok z.environment (Of c T) (m z) → Ok z.environment (Of c T) (n z) → Ok z.environment (Of c T) (branching v m n z)
  branch_ok v c T m n z h k l = let s = shape mode z.environment v c TBool TBool refl h in subst (λ x. Ok z.environment (Of c T) (branching x m n z)) (sym s.1) (by s.0)
    where
      by : (b : Bool) → Ok z.environment (Of c T) (branching (VBool b) m n z)
      by true = k
      by false = l

  pub found_ok : (c : Home) (us : Written) (G : List Typ) (i : ℕ) (T : Typ) (z : World) → IsCoherent z.environment → WrittenTyped mode z.environment us c G → slice_get G i ≡ Some T → Ok z.environment (Of c T) (found (slot_in us i) z)
  found_ok c [] G i T z e h k = absurd (none≢some (ap (λ X. slice_get X i) (sym h) ∙ k))
  found_ok c (u ∷ us) G zero T z e h k = (grows_not z.environment e, subst (λ X. Of c X z.environment u.1) (some_eq (ap (λ X. slice_get X 0) (sym h.1) ∙ k)) h.2)
  found_ok c (u ∷ us) G (suc i) T z e h k = found_ok c us h.0 i T z e h.3 (ap (λ X. slice_get X (suc i)) (sym h.1) ∙ k)
