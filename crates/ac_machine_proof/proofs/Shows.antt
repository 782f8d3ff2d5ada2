-- Machine values and what they stand for: constants, texts and exceptions; values pushed and taken in order.
use Rattle.std.proofs.Common.{◌≡◌, ℕ, ℤ, suc, ◌+◌, List, [], ◌∷◌, ◌++◌, length, Option, Some, None, refl, ap, ap₂, ◌∙◌, arith}
use Rattle.std.specs.Prelude.{option_and_then, option_map}
use Rattle.ac_types.specs.Types.{Bytes}
use Rattle.ac_code.specs.Code.{Code}
use Rattle.ac_code.specs.Constants.{Const, CInt, CBool, CStr, CUnit, CPart}
use Rattle.ac_values.specs.Values.{MValue, MStr, MExnOf, MTuple, MClosure, MValues, nothing, also}
use Rattle.ac_values.specs.ValueReaders.{int_in, text_in}
use Rattle.ac_machine_primitives.specs.Consts.{part_in, const_in, consts_in, const_value}
use Rattle.ac_machine_engine.specs.Machine.{newest_taken, parts_of_value, exn_value}
use Rattle.ac_meaning.specs.PrimitiveSteps.{all_there}
use Rattle.ac_meaning.specs.BareTerms.{BareValue, WInt, WStr, WExn, BareValues, no_bare_values, bare_value'}
use Rattle.ac_meaning.specs.BareReduction.{const_of_parts, const_of, consts_of}
use Rattle.ac_machine_meaning.specs.Stands.{stands, all_stand}
use Rattle.ac_machine_meaning.specs.Valid.{Valid}
use Rattle.ac_machine_meaning.proofs.Meanings.{closure_no}
use Rattle.ac_meaning.proofs.BareEval.{constant}

-- texts and ints of bare values
abbrev text_of : BareValue → Option Bytes
text_of (WStr s) = Some s
text_of v = None

abbrev int_of : BareValue → Option ℤ
int_of (WInt n) = Some n
int_of v = None

abbrev part_of : Option Bytes → Option ℤ → Option ℤ → Option Const
part_of o p q = option_and_then (λ (s : Bytes). option_and_then (λ (i : ℤ). option_map (λ (n : ℤ). CPart s i n) q) p) o

parts_of : (u v w : BareValue) → const_of_parts (bare_value' u (bare_value' v (bare_value' w no_bare_values))) ≡ part_of (text_of u) (int_of v) (int_of w)
parts_of (WStr s) (WInt i) (WInt n) = refl
parts_of (WStr s) (WInt i) _ = refl
parts_of (WStr s) _ w = refl
parts_of _ v w = refl

no_parts_of : (u v w x : BareValue) (vs : BareValues) → const_of_parts (bare_value' u (bare_value' v (bare_value' w (bare_value' x vs)))) ≡ None
no_parts_of (WStr s) (WInt i) (WInt n) x vs = refl
no_parts_of (WStr s) (WInt i) _ x vs = refl
no_parts_of (WStr s) _ w x vs = refl
no_parts_of _ v w x vs = refl

two_parts_of : (u v : BareValue) → const_of_parts (bare_value' u (bare_value' v no_bare_values)) ≡ None
two_parts_of (WStr s) (WInt i) = refl
two_parts_of (WStr s) _ = refl
two_parts_of _ v = refl

one_part_of : (u : BareValue) → const_of_parts (bare_value' u no_bare_values) ≡ None
one_part_of (WStr s) = refl
one_part_of _ = refl

all_there_is : (o : Option Const) (p : Option (List Const)) → all_there o p ≡ option_and_then (λ (d : Const). option_map (λ ds. d ∷ ds) p) o
all_there_is None p = refl
all_there_is (Some d) None = refl
all_there_is (Some d) (Some ds) = refl

module _ (K : Code) where
  text_is : (m : MValue) → text_of (stands K m) ≡ text_in m
  text_is (MClosure b r es) = closure_no K text_of (λ h T e. refl) (λ h T U e. refl) b r es
  text_is (MExnOf k (MStr s)) = refl
  text_is (MExnOf k _) = refl
  text_is _ = refl

  int_is : (m : MValue) → int_of (stands K m) ≡ int_in m
  int_is (MClosure b r es) = closure_no K int_of (λ h T e. refl) (λ h T U e. refl) b r es
  int_is (MExnOf k (MStr s)) = refl
  int_is (MExnOf k _) = refl
  int_is _ = refl

  part_is : (ms : MValues) → const_of_parts (all_stand K ms) ≡ part_in ms
  part_is nothing = refl
  part_is (also a nothing) = one_part_of (stands K a)
  part_is (also a (also b nothing)) = two_parts_of (stands K a) (stands K b)
  part_is (also a (also b (also c nothing))) = parts_of (stands K a) (stands K b) (stands K c) ∙ ap₂ (λ o p. part_of o p (int_of (stands K c))) (text_is a) (int_is b) ∙ ap (part_of (text_in a) (int_in b)) (int_is c)
  part_is (also a (also b (also c (also d ms)))) = no_parts_of (stands K a) (stands K b) (stands K c) (stands K d) (all_stand K ms)

  pub const_is : (m : MValue) → const_of (stands K m) ≡ const_in m
  const_is (MTuple ms) = part_is ms
  const_is (MClosure b r es) = closure_no K const_of (λ h T e. refl) (λ h T U e. refl) b r es
  const_is (MExnOf k (MStr s)) = refl
  const_is (MExnOf k _) = refl
  const_is _ = refl

  pub consts_is : (ms : List MValue) → consts_of (all_stand K (parts_of_value ms)) ≡ consts_in ms
  consts_is [] = refl
  consts_is (m ∷ ms) = ap₂ all_there (const_is m) (consts_is ms) ∙ all_there_is (const_in m) (consts_in ms)

  pub constant_is : (d : Const) → stands K (const_value d) ≡ constant d
  constant_is (CInt n) = refl
  constant_is (CBool b) = refl
  constant_is (CStr s) = refl
  constant_is CUnit = refl
  constant_is (CPart s i n) = refl

  pub exception_is : (k : ℕ) (s : Option Bytes) → stands K (exn_value k s) ≡ WExn k s
  exception_is k None = refl
  exception_is k (Some s) = refl

  pub constant_valid : (d : Const) → Valid K (const_value d)
  constant_valid (CInt n) = tt
  constant_valid (CBool b) = tt
  constant_valid (CStr s) = tt
  constant_valid CUnit = tt
  constant_valid (CPart s i n) = (tt, (tt, (tt, tt)))

  pub exception_valid : (k : ℕ) (s : Option Bytes) → Valid K (exn_value k s)
  exception_valid k None = tt
  exception_valid k (Some s) = tt

-- values pushed in order
abbrev pub push_all : List MValue → List MValue → List MValue
push_all [] st = st
push_all (m ∷ ms) st = push_all ms (m ∷ st)

taken_more : (ms : List MValue) (n : ℕ) (got st : List MValue) → newest_taken (length ms + n) got (push_all ms st) ≡ newest_taken n (ms ++ got) st
taken_more [] n got st = let e : 0 + n ≡ n = omega arith in ap (λ k. newest_taken k got st) e
taken_more (m ∷ ms) n got st = let e : suc (length ms) + n ≡ length ms + suc n = omega arith in ap (λ k. newest_taken k got (push_all ms (m ∷ st))) e ∙ taken_more ms (suc n) got (m ∷ st)

append_nil : (ms : List MValue) → ms ++ [] ≡ ms
append_nil [] = refl
append_nil (m ∷ ms) = ap (λ l. m ∷ l) (append_nil ms)

pub takes_all : (ms st : List MValue) (n : ℕ) → length ms ≡ n → newest_taken n [] (push_all ms st) ≡ Some (ms, st)
takes_all ms st n h =
    let e : n ≡ length ms + 0 = omega (arith, h) in
    ap (λ k. newest_taken k [] (push_all ms st)) e ∙ taken_more ms 0 [] st ∙ ap (λ got. Some (got, st)) (append_nil ms)
