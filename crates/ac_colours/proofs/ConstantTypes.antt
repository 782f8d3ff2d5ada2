-- Primitives by the rules: values of the types of constants are constants, and each exception that a primitive raises has a text exactly where its number wants one.
use Rattle.std.proofs.Common.{◌≡◌, refl, sym, ap, ap₂, ◌∙◌, subst, ℕ, zero, suc, Bool, true, false, cond, length, List, [], ◌∷◌, ◌++◌, take, drop, Option, Some, None}
use Rattle.std.specs.Prelude.{ℤ, pos, negsuc, ◌+◌, nat_le, int_div, int_rem, slice_get, codes}
use Rattle.std.specs.Int.{int_wrap, w64}
use Rattle.ac_types.proofs.FirstLaws.{none≢some, some_eq}
use Rattle.ac_types.specs.Limits.{longest_string}
use Rattle.ac_types.specs.Types.{Bytes, Typ, TInt, TBool, TStr, TUnit, TTuple, Typs, no_types, typ}
use Rattle.ac_terms.specs.Terms.{Home, Value, VInt, VStr, VTuple, Values, no_values, value}
use Rattle.ac_terms.specs.Defs.{Environment}
use Rattle.ac_terms.specs.PrimitiveTypes.{is_exception}
use Rattle.ac_rules.specs.Views.{Coloured}
use Rattle.ac_code.specs.Constants.{Const, CInt, CBool, CStr, CUnit, CPart, PrimitiveAnswer, Yields, Prints, Sends, Receives, Fails, NoSense, Meaning, meanings, meaning, primitive_answer, sum, difference, product, quotient, remainder, negation, equal, less, concatenated, opposite, printed_int, printed_string, sent_string, received_string, length_answer, bytes_between, part_of_string, int_as_string, same_int, raise_invalid_argument, raise_division_by_zero}
use Rattle.ac_meaning.specs.PrimitiveSteps.{answer_at}
use Rattle.ac_meaning.specs.Typed.{ValueTyped, ValuesTyped}
use Rattle.ac_meaning.proofs.Safe.{PartTypes, ConstType, ConstTypes}
use Rattle.ac_colours.proofs.TypedShapes.{type_in, types_in, looks, values_look, no_values_look}

-- what a primitive answers, if it is an exception
abbrev pub FailsWell : PrimitiveAnswer → Type 0
FailsWell (Fails k s) = is_exception k s ≡ true
FailsWell (Yields c) = Unit {0}
FailsWell (Prints s) = Unit {0}
FailsWell (Sends s) = Unit {0}
FailsWell Receives = Unit {0}
FailsWell NoSense = Unit {0}

tested : (b : Bool) (x y : PrimitiveAnswer) → FailsWell x → FailsWell y → FailsWell (cond b x y)
tested true x y h k = h
tested false x y h k = k

one_well : (f : Const → PrimitiveAnswer) → ((a : Const) → FailsWell (f a)) → (cs : List Const) → FailsWell (primitive_answer (Meaning.One f) cs)
one_well f h (a ∷ []) = h a
one_well f h [] = tt
one_well f h (a ∷ b ∷ cs) = tt

two_well : (f : Const → Const → PrimitiveAnswer) → ((a b : Const) → FailsWell (f a b)) → (cs : List Const) → FailsWell (primitive_answer (Meaning.Two f) cs)
two_well f h (a ∷ b ∷ []) = h a b
two_well f h [] = tt
two_well f h (a ∷ []) = tt
two_well f h (a ∷ b ∷ c ∷ cs) = tt

sum_well : (a b : Const) → FailsWell (sum a b)
sum_well (CInt x) (CInt y) = tt
sum_well _ _ = tt

difference_well : (a b : Const) → FailsWell (difference a b)
difference_well (CInt x) (CInt y) = tt
difference_well _ _ = tt

product_well : (a b : Const) → FailsWell (product a b)
product_well (CInt x) (CInt y) = tt
product_well _ _ = tt

quotient_well : (a b : Const) → FailsWell (quotient a b)
quotient_well (CInt x) (CInt y) = tested (same_int y (pos 0)) raise_division_by_zero (Yields (CInt (int_wrap w64 (int_div x y)))) refl tt
quotient_well _ _ = tt

remainder_well : (a b : Const) → FailsWell (remainder a b)
remainder_well (CInt x) (CInt y) = tested (same_int y (pos 0)) raise_division_by_zero (Yields (CInt (int_rem x y))) refl tt
remainder_well _ _ = tt

negation_well : (a : Const) → FailsWell (negation a)
negation_well (CInt x) = tt
negation_well _ = tt

equal_well : (a b : Const) → FailsWell (equal a b)
equal_well (CInt x) (CInt y) = tt
equal_well (CBool x) (CBool y) = tt
equal_well (CStr x) (CStr y) = tt
equal_well _ _ = tt

less_well : (a b : Const) → FailsWell (less a b)
less_well (CInt x) (CInt y) = tt
less_well (CBool x) (CBool y) = tt
less_well (CStr x) (CStr y) = tt
less_well _ _ = tt

concatenated_well : (a b : Const) → FailsWell (concatenated a b)
concatenated_well (CStr s) (CStr t) = tested (nat_le (length s + length t) longest_string) (Yields (CStr (s ++ t))) (raise_invalid_argument (codes "string")) tt refl
concatenated_well _ _ = tt

opposite_well : (a : Const) → FailsWell (opposite a)
opposite_well (CBool b) = tt
opposite_well _ = tt

printed_int_well : (a : Const) → FailsWell (printed_int a)
printed_int_well (CInt n) = tt
printed_int_well _ = tt

printed_string_well : (a : Const) → FailsWell (printed_string a)
printed_string_well (CStr s) = tt
printed_string_well _ = tt

sent_string_well : (a : Const) → FailsWell (sent_string a)
sent_string_well (CStr s) = tt
sent_string_well _ = tt

received_string_well : (a : Const) → FailsWell (received_string a)
received_string_well CUnit = tt
received_string_well _ = tt

size_well : (a : Const) → FailsWell (length_answer a)
size_well (CStr s) = tt
size_well _ = tt

between_well : (s : Bytes) (i n : ℤ) → FailsWell (bytes_between s i n)
between_well s (pos i) (pos n) = tested (nat_le (i + n) (length s)) (Yields (CStr (take n (drop i s)))) (raise_invalid_argument (codes "sub")) tt refl
between_well s (pos i) (negsuc n) = refl
between_well s (negsuc i) n = refl

part_well : (a : Const) → FailsWell (part_of_string a)
part_well (CPart s i n) = between_well s i n
part_well _ = tt

int_as_string_well : (a : Const) → FailsWell (int_as_string a)
int_as_string_well (CInt n) = tt
int_as_string_well _ = tt

abbrev AllWell : List Meaning → Type 0
AllWell [] = Unit {0}
AllWell (m ∷ ms) = ((cs : List Const) → FailsWell (primitive_answer m cs)) × AllWell ms

all_well : AllWell meanings
all_well = (
  two_well sum sum_well,
  (
    two_well difference difference_well,
    (
      two_well product product_well,
      (
        two_well quotient quotient_well,
        (
          two_well remainder remainder_well,
          (
            one_well negation negation_well,
            (
              two_well equal equal_well,
              (
                two_well less less_well,
                (
                  two_well concatenated concatenated_well,
                  (
                    one_well opposite opposite_well,
                    (
                      one_well printed_int printed_int_well,
                      (
                        one_well printed_string printed_string_well,
                        (
                          one_well sent_string sent_string_well,
                          (
                            one_well received_string received_string_well,
                            (one_well length_answer size_well, (one_well part_of_string part_well, (one_well int_as_string int_as_string_well, tt))),
                          ),
                        ),
                      ),
                    ),
                  ),
                ),
              ),
            ),
          ),
        ),
      ),
    ),
  ),
)

well_at : (ms : List Meaning) → AllWell ms → (k : ℕ) (m : Meaning) → slice_get ms k ≡ Some m → (cs : List Const) → FailsWell (primitive_answer m cs)
well_at [] h k m e = absurd (none≢some e)
well_at (n ∷ ms) h zero m e = subst (λ x. (cs : List Const) → FailsWell (primitive_answer x cs)) (some_eq e) h.0
well_at (n ∷ ms) h (suc k) m e = well_at ms h.1 k m e

pub fails_well : (k : ℕ) (o : Option (List Const)) → FailsWell (answer_at (meaning k) o)
fails_well k o = by (meaning k) refl o
  where
    by : (p : Option Meaning) → meaning k ≡ p → (o : Option (List Const)) → FailsWell (answer_at p o)
    by None e o = tt
    by (Some m) e None = tt
    by (Some m) e (Some cs) = well_at meanings all_well k m e cs

-- values of the types of constants
module _ (E : Environment) where
  constant_typed : (T : Typ) → ConstType T → (v : Value) (c : Home) → type_in E c v ≡ Some T → ValueTyped Coloured E v c T
  constant_typed TInt k v c h = let s = looks E v c TInt h in subst (λ x. ValueTyped Coloured E x c TInt) (sym s.1) refl
  constant_typed TBool k v c h = let s = looks E v c TBool h in subst (λ x. ValueTyped Coloured E x c TBool) (sym s.1) refl
  constant_typed TStr k v c h = let s = looks E v c TStr h in subst (λ x. ValueTyped Coloured E x c TStr) (sym s.1) refl
  constant_typed TUnit k v c h = let s = looks E v c TUnit h in subst (λ x. ValueTyped Coloured E x c TUnit) (sym s) refl
  constant_typed (TTuple Ts) k v c h =
      let s = looks E v c (TTuple Ts) h in
      let a = values_look E s.0 c TStr (typ TInt (typ TInt no_types)) (s.2 ∙ ap Some k) in
      let b = values_look E a.1 c TInt (typ TInt no_types) a.4 in
      let d = values_look E b.1 c TInt no_types b.4 in
      let x = looks E a.0 c TStr a.3 in
      let y = looks E b.0 c TInt b.3 in
      let z = looks E d.0 c TInt d.3 in
      let rest : d.1 ≡ no_values = no_values_look E d.1 c d.4 in
      let e : s.0 ≡ value (VStr x.0) (value (VInt y.0) (value (VInt z.0) no_values)) = a.2 ∙ ap₂ value x.1 (b.2 ∙ ap₂ value y.1 (d.2 ∙ ap₂ value z.1 rest)) in
      let there : ValueTyped Coloured E (VTuple (value (VStr x.0) (value (VInt y.0) (value (VInt z.0) no_values)))) c (TTuple PartTypes) =
      (PartTypes, refl, (TStr, typ TInt (typ TInt no_types), refl, refl, (TInt, typ TInt no_types, refl, refl, (TInt, no_types, refl, refl, refl)))) in
      subst (λ X. ValueTyped Coloured E v c X) (ap TTuple (sym k)) (subst (λ x. ValueTyped Coloured E x c (TTuple PartTypes)) (sym (s.1 ∙ ap VTuple e)) there)
  constant_typed _ k v c h = absurd k

  pub constants_typed : (Ts : Typs) → ConstTypes Ts → (vs : Values) (c : Home) → types_in E c vs ≡ Some Ts → ValuesTyped Coloured E vs c Ts
  constants_typed no_types k vs c h = subst (λ x. ValuesTyped Coloured E x c no_types) (sym (no_values_look E vs c h)) refl
  constants_typed (typ T Ts) k vs c h =
      let s = values_look E vs c T Ts h in
      subst (λ x. ValuesTyped Coloured E x c (typ T Ts)) (sym s.2) (T, Ts, refl, constant_typed T k.0 s.0 c s.3, constants_typed Ts k.1 s.1 c s.4)
