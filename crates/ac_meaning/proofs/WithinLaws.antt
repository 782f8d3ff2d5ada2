-- What is written into a term and what a pattern binds stays within the bounds.
use Rattle.std.proofs.Common.{◌≡◌, refl, sym, ap, ◌∙◌, subst, ℕ, zero, suc, ◌+◌, ◌≤◌, Bool, true, false, ◌&&◌, List, [], ◌∷◌, ◌++◌, Option, Some, None}
use Rattle.std.specs.Prelude.{option_map, option_and_then, nat_eq, nat_le}
use Rattle.std.specs.List.{list_all}
use Rattle.std.specs.Option.{option_or}
use Rattle.std.proofs.lemmas.Bool.Decides.{nat_tests}
use native.Mathlib.Omega.{arith}
use Rattle.ac_types.proofs.FirstLaws.{none≢some, some_eq, given_some}
use Rattle.ac_types.proofs.Same.{both_true}
use Rattle.ac_types.specs.Partial.{given}
use Rattle.ac_types.specs.Types.{is_small}
use Rattle.ac_terms.specs.Terms.{Pattern, PWild, PVar, PInt, PBool, PStr, PUnit, PTuple, PNil, PCons, PAbsent, PPresent, PExn, PExnOf, Patterns, no_patterns, pattern', Expr, Int, Boolean, Str, Unit', Exn, ExnOf, Tuple, Nil, Empty, Present, Cons, Var, Own, Ref, Lam, Rec, App, Let, If, Seq, Match, Try, Raise, Prim, Marshal, Unmarshal, Val, Evaluated, Bracket, Exprs, no_exprs, expr, Arms, no_arms, arm, Value, VInt, VBool, VStr, VUnit, VExn, VTuple, VNil, VCons, VAbsent, VPresent, Values, no_values, value}
use Rattle.ac_terms.specs.Spelling.{term_count, arm_count}
use Rattle.ac_terms.specs.PrimitiveTypes.{primitives}
use Rattle.ac_terms.specs.Parts.{pattern_types, all_pattern_types}
use Rattle.ac_terms.specs.Bounds.{is_string, is_two, is_four, is_width, fit_patterns, takes}
use Rattle.ac_terms.proofs.AllLaws.{all_left, all_right}
use Rattle.ac_meaning.specs.Writes.{Write, string_of}
use Rattle.ac_meaning.specs.Worlds.{Exception}
use Rattle.ac_meaning.specs.Acts.{Act, Is, Goes, Turns, Applies, Raises, Wrong, or_raises, within}
use Rattle.ac_meaning.specs.Substitution.{Written, Slot, Free, Bound, up, slot_in, slot, from_slot, binders, inst, inst_all, inst_arms}
use Rattle.ac_meaning.specs.Matching.{fit, fit_all, chosen}
use Rattle.ac_meaning.proofs.Within.{TypeFits, PatternFits, Strictly, Within, AllWithin, ArmsWithin, ValueWithin, ValuesWithin, WrittenWithin, RaisedWithin, WritesWithin, ActWithin}

pub strictly : (s : Bool) (P : Type 0) → P → Strictly s P
strictly true P h = h
strictly false P h = tt

-- what may stand within a function may stand on its own
mutual
  pub loosened : (e : Expr) → Within true e → Within false e
  loosened (Int n) h = h
  loosened (Boolean b) h = h
  loosened (Str x) h = h
  loosened Unit' h = h
  loosened (Exn k) h = h
  loosened (ExnOf k e) h = (h.0, loosened e h.1)
  loosened (Tuple es) h = (h.0, all_loosened es h.1)
  loosened (Nil T) h = tt
  loosened (Empty T) h = tt
  loosened (Present e) h = loosened e h
  loosened (Cons a b) h = (loosened a h.0, loosened b h.1)
  loosened (Var i) h = h
  loosened (Own f) h = h
  loosened (Ref j x) h = h
  loosened (Lam T e) h = h
  loosened (Rec T U e) h = h
  loosened (App f a) h = (loosened f h.0, loosened a h.1)
  loosened (Let T e b) h = (h.0, loosened e h.1, h.2)
  loosened (If c a b) h = (loosened c h.0, loosened a h.1, loosened b h.2)
  loosened (Seq es) h = (tt, all_loosened es h.1)
  loosened (Match e arms) h = (loosened e h.0, h.1, h.2)
  loosened (Try e arms) h = (loosened e h.0, h.1, h.2)
  loosened (Raise T e) h = (h.0, loosened e h.1)
  loosened (Prim k es) h = (tt, all_loosened es h.1)
  loosened (Marshal T m e) h = (h.0, loosened m h.1, loosened e h.2)
  loosened (Unmarshal T e) h = (h.0, loosened e h.1)
  loosened (Val T v) h = h
  loosened (Evaluated T v) h = (tt, h.1)
  loosened (Bracket c T e) h = h

  pub all_loosened : (es : Exprs) → AllWithin true es → AllWithin false es
  all_loosened no_exprs h = tt
  all_loosened (expr e es) h = (loosened e h.0, all_loosened es h.1)

-- a variable stays, or moves down, or has a value
abbrev SlotWithin : ℕ → Slot Value → Type 0
SlotWithin i (Free j) = j ≤ i
SlotWithin i (Bound T v) = TypeFits T × ValueWithin v

up_within : (i : ℕ) (s : Slot Value) → SlotWithin i s → SlotWithin (suc i) (up s)
up_within i (Free j) h = omega (arith, h)
up_within i (Bound T v) h = h

slot_in_within : (ws : Written) (i n : ℕ) → i ≤ n → WrittenWithin ws → SlotWithin n (slot_in ws i)
slot_in_within [] i n l h = l
slot_in_within (w ∷ ws) zero n l h = (h.0, h.1)
slot_in_within (w ∷ ws) (suc i) n l h = slot_in_within ws i n (omega (arith, l)) h.2

slot_within : (d : ℕ) (ws : Written) (i : ℕ) → WrittenWithin ws → SlotWithin i (slot d ws i)
slot_within zero ws i h = slot_in_within ws i i (omega arith) h
slot_within (suc d) ws zero h = omega arith
slot_within (suc d) ws (suc i) h = up_within i (slot d ws i) (slot_within d ws i h)

less_two : (j i : ℕ) → j ≤ i → is_two i ≡ true → is_two j ≡ true
less_two j i l h = grind (arith, nat_tests)

from_within : (s : Bool) (i : ℕ) (x : Slot Value) → is_two i ≡ true → SlotWithin i x → Within s (from_slot x)
from_within s i (Free j) t h = less_two j i h t
from_within s i (Bound T v) t h = (strictly s (TypeFits T) h.0, h.1)

count_inst : (es : Exprs) (d : ℕ) (ws : Written) → term_count (inst_all d ws es) ≡ term_count es
count_inst no_exprs d ws = refl
count_inst (expr e es) d ws = ap (λ n. suc n) (count_inst es d ws)

arms_inst : (arms : Arms) (d : ℕ) (ws : Written) → arm_count (inst_arms d ws arms) ≡ arm_count arms
arms_inst no_arms d ws = refl
arms_inst (arm p e rest) d ws = ap (λ n. suc n) (arms_inst rest d ws)

counted_within : (s : Bool) (test : ℕ → Bool) (n m : ℕ) → n ≡ m → Strictly s (test m ≡ true) → Strictly s (test n ≡ true)
counted_within s test n m e h = subst (λ k. Strictly s (test k ≡ true)) (sym e) h

mutual
  pub inst_within : (s : Bool) (e : Expr) (d : ℕ) (ws : Written) → WrittenWithin ws → Within s e → Within s (inst d ws e)
  inst_within s (Int n) d ws w h = h
  inst_within s (Boolean b) d ws w h = h
  inst_within s (Str x) d ws w h = h
  inst_within s Unit' d ws w h = h
  inst_within s (Exn k) d ws w h = h
  inst_within s (ExnOf k e) d ws w h = (h.0, inst_within s e d ws w h.1)
  inst_within s (Tuple es) d ws w h = (ap is_width (count_inst es d ws) ∙ h.0, inst_all_within s es d ws w h.1)
  inst_within s (Nil T) d ws w h = h
  inst_within s (Empty T) d ws w h = h
  inst_within s (Present e) d ws w h = inst_within s e d ws w h
  inst_within s (Cons a b) d ws w h = (inst_within s a d ws w h.0, inst_within s b d ws w h.1)
  inst_within s (Var i) d ws w h = from_within s i (slot d ws i) h (slot_within d ws i w)
  inst_within s (Own f) d ws w h = h
  inst_within s (Ref j x) d ws w h = h
  inst_within s (Lam T e) d ws w h = (h.0, inst_within true e (suc d) ws w h.1)
  inst_within s (Rec T U e) d ws w h = (h.0, h.1, h.2, inst_within true e (suc (suc d)) ws w h.3)
  inst_within s (App f a) d ws w h = (inst_within s f d ws w h.0, inst_within s a d ws w h.1)
  inst_within s (Let T e b) d ws w h = (h.0, inst_within s e d ws w h.1, inst_within true b (suc d) ws w h.2)
  inst_within s (If c a b) d ws w h = (inst_within s c d ws w h.0, inst_within s a d ws w h.1, inst_within s b d ws w h.2)
  inst_within s (Seq es) d ws w h = (counted_within s (λ n. nat_le 2 n && is_four n) _ _ (count_inst es d ws) h.0, inst_all_within s es d ws w h.1)
  inst_within s (Match e arms) d ws w h = (inst_within s e d ws w h.0, inst_arms_within arms d ws w h.1, ap (λ n. nat_le 1 n && nat_le n 1024) (arms_inst arms d ws) ∙ h.2)
  inst_within s (Try e arms) d ws w h = (inst_within s e d ws w h.0, inst_arms_within arms d ws w h.1, ap (λ n. nat_le 1 n && nat_le n 1024) (arms_inst arms d ws) ∙ h.2)
  inst_within s (Raise T e) d ws w h = (h.0, inst_within s e d ws w h.1)
  inst_within s (Prim k es) d ws w h = (counted_within s (takes primitives k) _ _ (count_inst es d ws) h.0, inst_all_within s es d ws w h.1)
  inst_within s (Marshal T m e) d ws w h = (h.0, inst_within s m d ws w h.1, inst_within s e d ws w h.2)
  inst_within s (Unmarshal T e) d ws w h = (h.0, inst_within s e d ws w h.1)
  inst_within s (Val T v) d ws w h = h
  inst_within s (Evaluated T v) d ws w h = h
  inst_within s (Bracket c T e) d ws w h = h

  pub inst_all_within : (s : Bool) (es : Exprs) (d : ℕ) (ws : Written) → WrittenWithin ws → AllWithin s es → AllWithin s (inst_all d ws es)
  inst_all_within s no_exprs d ws w h = tt
  inst_all_within s (expr e es) d ws w h = (inst_within s e d ws w h.0, inst_all_within s es d ws w h.1)

  pub inst_arms_within : (arms : Arms) (d : ℕ) (ws : Written) → WrittenWithin ws → ArmsWithin arms → ArmsWithin (inst_arms d ws arms)
  inst_arms_within no_arms d ws w h = tt
  inst_arms_within (arm p e rest) d ws w h = (h.0, inst_within true e (binders p + d) ws w h.1, inst_arms_within rest d ws w h.2)

-- patterns
given_is : (b : Bool) (o : Option Written) (us : Written) → given b o ≡ Some us → o ≡ Some us
given_is b o us h = (given_some b o h).1

same_written : (ws us : Written) → Some ws ≡ Some us → WrittenWithin ws → WrittenWithin us
same_written ws us e h = subst WrittenWithin (some_eq e) h

then_is : (f : Written → Option Written) (o : Option Written) (us : Written) → option_and_then f o ≡ Some us → (vs : Written) × (o ≡ Some vs) × (f vs ≡ Some us)
then_is f None us h = absurd (none≢some h)
then_is f (Some vs) us h = (vs, refl, h)

mutual
  pub fit_within : (p : Pattern) (v : Value) (ws us : Written) → fit p v ws ≡ Some us → PatternFits p → ValueWithin v → WrittenWithin ws → WrittenWithin us
  fit_within PWild v ws us e q h w = same_written ws us e w
  fit_within (PVar T) v ws us e q h w = same_written ((T, v) ∷ ws) us e ((q.0, (both_true (is_small T) true q.1).0), h, w)
  fit_within (PInt n) (VInt x) ws us e q h w = same_written ws us (given_is _ (Some ws) us e) w
  fit_within (PBool n) (VBool x) ws us e q h w = same_written ws us (given_is _ (Some ws) us e) w
  fit_within (PStr n) (VStr x) ws us e q h w = same_written ws us (given_is _ (Some ws) us e) w
  fit_within PUnit VUnit ws us e q h w = same_written ws us e w
  fit_within (PTuple ps) (VTuple vs) ws us e q h w = all_fit_within ps vs ws us e ((both_true _ _ q.0).1, q.1) h.1 w
  fit_within PNil (VNil T) ws us e q h w = same_written ws us e w
  fit_within (PCons p r) (VCons x y) ws us e q h w =
      let f = then_is (fit r y) (fit p x ws) us e in
      let b = both_true _ _ q.0 in
      fit_within r y f.0 us f.2 (b.1, all_right is_small (pattern_types p) (pattern_types r) q.1) h.1 (fit_within p x ws f.0 f.1 (b.0, all_left is_small (pattern_types p) (pattern_types r) q.1) h.0 w)
  fit_within PAbsent (VAbsent T) ws us e q h w = same_written ws us e w
  fit_within (PPresent p) (VPresent x) ws us e q h w = fit_within p x ws us e q h w
  fit_within (PExn n) (VExn j None) ws us e q h w = same_written ws us (given_is (nat_eq n j) (Some ws) us e) w
  fit_within (PExnOf n p) (VExn j (Some x)) ws us e q h w = fit_within p (VStr x) ws us (given_is (nat_eq n j) (fit p (VStr x) ws) us e) ((both_true _ _ q.0).1, q.1) h.1 w
  fit_within _ _ ws us e q h w = absurd (none≢some e)

  all_fit_within : (ps : Patterns) (vs : Values) (ws us : Written) → fit_all ps vs ws ≡ Some us → (fit_patterns ps ≡ true) × (list_all is_small (all_pattern_types ps) ≡ true) → ValuesWithin vs → WrittenWithin ws → WrittenWithin us
  all_fit_within no_patterns no_values ws us e q h w = same_written ws us e w
  all_fit_within (pattern' p ps) (value v vs) ws us e q h w =
      let f = then_is (fit_all ps vs) (fit p v ws) us e in
      let b = both_true _ _ q.0 in
      all_fit_within ps vs f.0 us f.2 (b.1, all_right is_small (pattern_types p) (all_pattern_types ps) q.1) h.1 (fit_within p v ws f.0 f.1 (b.0, all_left is_small (pattern_types p) (all_pattern_types ps) q.1) h.0 w)
  all_fit_within _ _ ws us e q h w = absurd (none≢some e)

abbrev pub Good : Act Expr Value → Type 0
Good a = ActWithin (Within false) ValueWithin a

abbrev pub AllGood : Act Exprs Values → Type 0
AllGood a = ActWithin (AllWithin false) ValuesWithin a

-- what is next in a part is next in the whole
pub part_within : {S T A B : Type 0} (f : S → Type 0) (f' : T → Type 0) (g : A → Type 0) (g' : B → Type 0) (wrap : S → T) (done : A → Act T B) (catch : Exception → Act T B) (a : Act S A) → ActWithin f g a → ((s : S) → f s → f' (wrap s)) → ((v : A) → g v → ActWithin f' g' (done v)) → ((x : Exception) → RaisedWithin x → ActWithin f' g' (catch x)) → ActWithin f' g' (within wrap done catch a)
part_within f f' g g' wrap done catch (Is v) h w k x = k v h
part_within f f' g g' wrap done catch (Goes s) h w k x = w s h
part_within f f' g g' wrap done catch (Turns y s) h w k x = (w s h.0, h.1)
part_within f f' g g' wrap done catch (Applies s) h w k x = w s h
part_within f f' g g' wrap done catch (Raises y) h w k x = x y h
part_within f f' g g' wrap done catch Wrong h w k x = tt

-- one write more
pub one_more : (ws : List Write) (w : Write) → WritesWithin ws → is_string (string_of w) ≡ true → WritesWithin (ws ++ w ∷ [])
one_more [] w h k = (k, tt)
one_more (x ∷ ws) w h k = (h.0, one_more ws w h.1 k)

-- arms
arm_within : (p : Pattern) (t : Expr) (v : Value) (o : Option Written) (rest : Option Expr) (x : Exception) → fit p v [] ≡ o → PatternFits p → ValueWithin v → Within true t → Good (or_raises x rest) → Good (or_raises x (option_or (option_map (λ ws. inst 0 ws t) o) rest))
arm_within p t v None rest x q f h k r = r
arm_within p t v (Some ws) rest x q f h k r = loosened (inst 0 ws t) (inst_within true t 0 ws (fit_within p v [] ws q f h tt) k)

pub chosen_within : (arms : Arms) (v : Value) (x : Exception) → ArmsWithin arms → ValueWithin v → RaisedWithin x → Good (or_raises x (chosen arms v))
chosen_within no_arms v x h k r = r
chosen_within (arm p t rest) v x h k r = arm_within p t v (fit p v []) (chosen rest v) x refl h.0 k h.1 (chosen_within rest v x h.2 k r)
