-- Each step keeps what stands in a state within the bounds of its spelling, in either mode.
use Rattle.std.proofs.Common.{◌≡◌, refl, ap, ap₂, ◌∙◌, ℕ, suc, Bool, true, false, ◌&&◌, nat_lt, cond, [], ◌∷◌, Option, Some, None}
use Rattle.std.specs.Prelude.{option_map, is_some}
use Rattle.ac_types.proofs.FirstLaws.{none≢some}
use Rattle.ac_types.specs.Types.{Bytes, same_bytes, Typ, TInt, TBool, TStr, TUnit, TExn, TTuple, TList, TOpt, TFun, TAbs, Typs, no_types, typ}
use Rattle.ac_terms.specs.Terms.{Home, Main, In, Expr, Int, Boolean, Str, Unit', Exn, ExnOf, Tuple, Nil, Empty, Present, Cons, Var, Own, Ref, Lam, Rec, App, Let, If, Seq, Match, Try, Raise, Prim, Marshal, Unmarshal, Val, Evaluated, Bracket, Exprs, no_exprs, expr, PValue, Value, VInt, VBool, VStr, VUnit, VExn, VTuple, VNil, VCons, VAbsent, VPresent, VLam, VRec, VProxy, VSeal, Values, no_values, value}
use Rattle.ac_terms.specs.Spelling.{term_count}
use Rattle.ac_terms.specs.Bounds.{is_width, is_string}
use Rattle.ac_types.specs.Exceptions.{has_text}
use Rattle.ac_terms.specs.Defs.{Environment}
use Rattle.ac_rules.specs.Plain.{packed}
use Rattle.ac_rules.specs.Views.{Mode, opens, representation}
use Rattle.ac_rules.specs.Coherent.{IsCoherent}
use Rattle.ac_meaning.specs.Worlds.{Exception, World, match_failure_exn, counted, Read, with_crossing}
use Rattle.ac_meaning.specs.Acts.{Act, Is, Goes, Turns, Applies, Raises, Wrong, becomes, or_raises, part, State, At, Over, Returned, Raised, Spent, Stuck, after}
use Rattle.ac_meaning.specs.Substitution.{inst}
use Rattle.ac_meaning.specs.Matching.{chosen}
use Rattle.ac_meaning.specs.PrimitiveSteps.{spelled, primitive, answered, exception_of, exception_value, thrown}
use Rattle.ac_meaning.specs.Brackets.{enclosed, all_enclosed, is_function_value, inside_seal, unsealed_term, at_name, bracket_step}
use Rattle.ac_meaning.specs.References.{own_field, Route, Nowhere, Once, Twice, route, routed}
use Rattle.ac_meaning.specs.Packing.{Packing, CannotPack, Packs, packs, packing, Arrival, Unfit, Brings, arrival, brings, raising, marshal_step, unmarshal_step}
use Rattle.ac_meaning.specs.BareTerms.{BareValue}
use Rattle.ac_meaning.specs.Reduction.{apply, branch, look, look_all, look_main, step}
use Rattle.ac_meaning.proofs.Within.{TypeFits, Within, AllWithin, ValueWithin, ValuesWithin, width, RaisedWithin, WritesWithin, ActWithin}
use Rattle.ac_meaning.proofs.WithinLaws.{Good, loosened, inst_within, chosen_within, part_within}
use Rattle.ac_meaning.proofs.WithinAnswers.{primitive_answered}

-- a state, with what was written
abbrev pub StateWithin : State Expr Value → Type 0
StateWithin (At e z) = Within false e × WritesWithin z.writes
StateWithin (Over (Returned v z)) = ValueWithin v × WritesWithin z.writes
StateWithin (Over (Raised x z)) = RaisedWithin x × WritesWithin z.writes
StateWithin (Over (Spent z)) = WritesWithin z.writes
StateWithin (Over Stuck) = Unit {0}

-- what comes into a state from outside its term: fields, and what strings bring; and the exceptions for which nothing is packed or brought
pub record ComesWithin : Type 0 where
  pub fields : (E : Environment) → IsCoherent E → (j f : ℕ) (e : Expr) → own_field E (In j) f ≡ Some e → Within false e
  pub brought : (mode : Mode) (z : World) (c : Home) (T : Typ) (s : Bytes) (F : Environment) (v : Mode → Value) (w : BareValue) → IsCoherent z.environment → arrival z c T s ≡ Brings F v w → ValueWithin (v mode)
  pub unfit : (z : World) (c : Home) (T : Typ) (s : Bytes) (x : Exception) → IsCoherent z.environment → arrival z c T s ≡ Unfit x → RaisedWithin x
  pub refused : (z : World) (T : Typ) (mark : Bytes) (v : PValue) (x : Exception) → packing z T mark v ≡ CannotPack x → RaisedWithin x
  pub packed : (z : World) (T : Typ) (mark : Bytes) (v : PValue) (s : Bytes) → packing z T mark v ≡ Packs s → is_string s ≡ true

no_text : RaisedWithin match_failure_exn
no_text = (refl, refl)

apply_within : (c : Home) (v w : Value) → ValueWithin v → ValueWithin w → Good (apply c v w)
apply_within c (VLam T e) w h k = loosened (inst 0 ((T, w) ∷ []) e) (inst_within true e 0 ((T, w) ∷ []) (h.0, k, tt) h.1)
apply_within c (VRec T U e) w h k =
    let both : TypeFits (TFun T U) = (ap₂ (λ a b. a && b) h.0.0 h.1.0, h.2) in
    loosened (inst 0 ((T, w) ∷ (TFun T U, VRec T U e) ∷ []) e) (inst_within true e 0 ((T, w) ∷ (TFun T U, VRec T U e) ∷ []) (h.0, k, (both, h, tt)) h.3)
apply_within c (VProxy b T U f) w h k = ((tt, h), (tt, k))
apply_within c _ w h k = tt

branch_within : (v : Value) (a b : Expr) → Within false a → Within false b → Good (branch v a b)
branch_within (VBool true) a b h k = h
branch_within (VBool false) a b h k = k
branch_within _ a b h k = tt

text_within : (k : ℕ) (v : Value) → has_text k ≡ true → ValueWithin v → Good (exception_of k v)
text_within k (VStr s) t h = (t, h)
text_within k _ t h = tt

thrown_within : (v : Value) → ValueWithin v → Good (thrown v)
thrown_within (VExn k s) h = h
thrown_within _ h = tt

-- brackets
abbrev AllOf : ℕ → Option Exprs → Type 0
AllOf n None = Unit {0}
AllOf n (Some es) = (term_count es ≡ n) × AllWithin false es

cons_within : (n : ℕ) (e : Expr) (o : Option Exprs) → Within false e → AllOf n o → AllOf (suc n) (option_map (expr e) o)
cons_within n e None h k = tt
cons_within n e (Some es) h k = (ap (λ m. suc m) k.0, (h, k.1))

all_enclosed_within : (b : Home) (Ts : Typs) (vs : Values) → ValuesWithin vs → AllOf (width vs) (all_enclosed b Ts vs)
all_enclosed_within b no_types no_values h = (refl, tt)
all_enclosed_within b (typ T Ts) (value v vs) h = cons_within (width vs) (enclosed b T v) (all_enclosed b Ts vs) (tt, h.0) (all_enclosed_within b Ts vs h.1)
all_enclosed_within b no_types (value v vs) h = tt
all_enclosed_within b (typ T Ts) no_values h = tt

tuple_within : (n : ℕ) (o : Option Exprs) → is_width n ≡ true → AllOf n o → Good (becomes (option_map Tuple o))
tuple_within n None w h = tt
tuple_within n (Some es) w h = (ap is_width h.0 ∙ w, h.1)

abbrev InsideWithin : Option (Home × Value) → Type 0
InsideWithin None = Unit {0}
InsideWithin (Some p) = ValueWithin p.1

inside_within : (n t : Bytes) (v : Value) → ValueWithin v → InsideWithin (inside_seal n t v)
inside_within n t (VSeal d m u w) h = by (same_bytes m n && same_bytes u t)
  where
    by : (b : Bool) → InsideWithin (cond b (Some (d, w)) None)
    by true = h
    by false = tt
inside_within n t _ h = tt

unsealed_within : (o : Option (Home × Value)) (R : Option Typ) → InsideWithin o → Good (becomes (unsealed_term o R))
unsealed_within None R h = tt
unsealed_within (Some p) None h = tt
unsealed_within (Some p) (Some T) h = (tt, h)

opened_within : (b : Home) (v : Value) (R : Option Typ) → ValueWithin v → Good (becomes (option_map (λ T. enclosed b T v) R))
opened_within b v None h = tt
opened_within b v (Some T) h = (tt, h)

stays_within : (b : Bool) (n t : Bytes) (v : Value) → ValueWithin v → Good (cond b (Goes (Evaluated (TAbs n t) v)) Wrong)
stays_within true n t v h = (tt, h)
stays_within false n t v h = tt

name_within : (b : Home) (n t : Bytes) (R : Option Typ) (v : Value) (x y : Bool) → ValueWithin v → Good (at_name b n t R v x y)
name_within b n t R v true true h = opened_within b v R h
name_within b n t R v true false h = (tt, h)
name_within b n t R v false true h = unsealed_within (inside_seal n t v) R (inside_within n t v h)
name_within b n t R v false false h = stays_within (is_some (inside_seal n t v)) n t v h

proxy_within : (s : Bool) (v : Value) → ValueWithin v → Good (cond s (Is v) Wrong)
proxy_within true v h = h
proxy_within false v h = tt

module _ (comes : ComesWithin) (mode : Mode) (z : World) (coherent : IsCoherent z.environment) (written : WritesWithin z.writes) where
  abbrev E : Environment
  E = z.environment

  bracket_within : (b c : Home) (T : Typ) (v : Value) → ValueWithin v → Good (bracket_step mode E b c T v)
  bracket_within b c TInt (VInt k) h = (tt, h)
  bracket_within b c TBool (VBool k) h = (tt, h)
  bracket_within b c TStr (VStr k) h = (tt, h)
  bracket_within b c TUnit VUnit h = (tt, h)
  bracket_within b c TExn (VExn k s) h = (tt, h)
  bracket_within b c (TTuple Ts) (VTuple vs) h = tuple_within (width vs) (all_enclosed b Ts vs) h.0 (all_enclosed_within b Ts vs h.1)
  bracket_within b c (TList T) (VNil U) h = tt
  bracket_within b c (TList T) (VCons v w) h = ((tt, h.0), (tt, h.1))
  bracket_within b c (TOpt T) (VAbsent U) h = tt
  bracket_within b c (TOpt T) (VPresent v) h = (tt, h)
  bracket_within b c (TFun T U) v h = proxy_within (is_function_value v) (VProxy b T U v) h
  bracket_within b c (TAbs m u) v h = name_within b m u (representation E m u) v (opens mode E b m) (opens mode E c m) h
  bracket_within b c _ _ h = tt

  packs_within : (p : Packing) → ((x : Exception) → p ≡ CannotPack x → RaisedWithin x) → ((s : Bytes) → p ≡ Packs s → is_string s ≡ true) → Good (packs z p)
  packs_within (CannotPack x) h k = h x refl
  packs_within (Packs s) h k = (k s refl, written)

  marshal_within : (c : Home) (T : Typ) (m v : Value) → Good (marshal_step z c T m v)
  marshal_within c T (VStr mark) v = let p : PValue = packed z.environment c v T in packs_within (packing z T mark p) (λ x e. comes.refused z T mark p x e) (λ s e. comes.packed z T mark p s e)
  marshal_within c T _ v = tt

  brings_within : (y : World) → WritesWithin y.writes → (T : Typ) → TypeFits T → (a : Arrival) → ((x : Exception) → a ≡ Unfit x → RaisedWithin x) → ((F : Environment) (v : Mode → Value) (w : BareValue) → a ≡ Brings F v w → ValueWithin (v mode)) → Good (brings mode y T a)
  brings_within y written T t (Unfit x) h k = ((t, (tt, h x refl)), written)
  brings_within y written T t (Brings F v w) h k = ((tt, k F v w refl), written)

  unmarshal_within : (c : Home) (T : Typ) (v : Value) → TypeFits T → Good (unmarshal_step mode z c T v)
  unmarshal_within c T (VStr s) t = brings_within (with_crossing (Read s) z) written T t (arrival z c T s) (λ x e. comes.unfit z c T s x coherent e) (λ F v w e. comes.brought mode z c T s F v w coherent e)
  unmarshal_within c T _ t = tt

  own_within : (c : Home) (f : ℕ) (o : Option Expr) → own_field E c f ≡ o → Good (becomes o)
  own_within c f None q = tt
  own_within Main f (Some t) q = absurd (none≢some q)
  own_within (In j) f (Some t) q = comes.fields E coherent j f t q

  once_within : (wrap : Expr → Expr) → ((e : Expr) → Within false e → Within false (wrap e)) → (o : Option Expr) → Good (becomes o) → Good (becomes (option_map wrap o))
  once_within wrap w None h = tt
  once_within wrap w (Some t) h = w t h

  routed_within : (j : ℕ) (way : Route) → Good (becomes (routed E j way))
  routed_within j Nowhere = tt
  routed_within j (Once m f T) = once_within (Bracket (In m) T) (λ e h. h) (own_field E (In m) f) (own_within (In m) f (own_field E (In m) f) refl)
  routed_within j (Twice m f T S) = once_within (λ e. Bracket (In j) T (Bracket (In m) S e)) (λ e h. h) (own_field E (In m) f) (own_within (In m) f (own_field E (In m) f) refl)

  abbrev next : Home → Expr → Act Expr Value
  next c e = look mode z c e

  abbrev all_next : Home → Exprs → Act Exprs Values
  all_next c es = look_all mode z c es

  one_part : (wrap : Expr → Expr) (done : Value → Act Expr Value) (a : Act Expr Value) → Good a → ((s : Expr) → Within false s → Within false (wrap s)) → ((v : Value) → ValueWithin v → Good (done v)) → Good (part wrap done a)
  one_part wrap done a h w k = part_within (Within false) (Within false) ValueWithin ValueWithin wrap done Raises a h w k (λ x y. y)

  -- terms from left to right, as many as there are
  abbrev Counted : ℕ → Exprs → Type 0
  Counted n es = (term_count es ≡ n) × AllWithin false es

  abbrev Wide : ℕ → Values → Type 0
  Wide n vs = (width vs ≡ n) × ValuesWithin vs

  mutual
    pub kept_within : (e : Expr) (c : Home) → Within false e → Good (next c e)
    kept_within (Int k) c h = h
    kept_within (Boolean b) c h = tt
    kept_within (Str s) c h = h
    kept_within Unit' c h = tt
    kept_within (Exn k) c h = (h, refl)
    kept_within (Nil T) c h = tt
    kept_within (Empty T) c h = tt
    kept_within (Lam T e) c h = h
    kept_within (Rec T U e) c h = h
    kept_within (Evaluated T v) c h = h.1
    kept_within (ExnOf k e) c h = one_part (ExnOf k) (exception_of k) (next c e) (kept_within e c h.1) (λ s p. (h.0, p)) (λ v p. text_within k v h.0 p)
    kept_within (Tuple es) c h =
        part_within (Counted (term_count es)) (Within false) (Wide (term_count es)) ValueWithin Tuple (λ vs. Is (VTuple vs)) Raises (all_next c es) (all_kept_within es c h.1)
        (λ s p. (ap is_width p.0 ∙ h.0, p.1)) (λ vs p. (ap is_width p.0 ∙ h.0, p.1)) (λ x y. y)
    kept_within (Present e) c h = one_part Present (λ v. Is (VPresent v)) (next c e) (kept_within e c h) (λ s p. p) (λ v p. p)
    kept_within (Cons a b) c h =
        one_part (λ x. Cons x b) (λ v. part (λ y. Cons a y) (λ w. Is (VCons v w)) (next c b)) (next c a) (kept_within a c h.0) (λ s p. (p, h.1))
        (λ v p. one_part (λ y. Cons a y) (λ w. Is (VCons v w)) (next c b) (kept_within b c h.1) (λ s r. (h.0, r)) (λ w r. (p, r)))
    kept_within (App f a) c h =
        one_part (λ x. App x a) (λ v. part (λ y. App f y) (λ w. apply c v w) (next c a)) (next c f) (kept_within f c h.0) (λ s p. (p, h.1))
        (λ v p. one_part (λ y. App f y) (λ w. apply c v w) (next c a) (kept_within a c h.1) (λ s r. (h.0, r)) (λ w r. apply_within c v w p r))
    kept_within (Let T e b) c h =
        one_part (λ x. Let T x b) (λ v. Goes (inst 0 ((T, v) ∷ []) b)) (next c e) (kept_within e c h.1) (λ s p. (h.0, p, h.2))
        (λ v p. loosened (inst 0 ((T, v) ∷ []) b) (inst_within true b 0 ((T, v) ∷ []) (h.0, p, tt) h.2))
    kept_within (If e a b) c h = one_part (λ x. If x a b) (λ v. branch v a b) (next c e) (kept_within e c h.0) (λ s p. (p, h.1, h.2)) (λ v p. branch_within v a b h.1 h.2)
    kept_within (Match e arms) c h = one_part (λ x. Match x arms) (λ v. or_raises match_failure_exn (chosen arms v)) (next c e) (kept_within e c h.0) (λ s p. (p, h.1, h.2)) (λ v p. chosen_within arms v match_failure_exn h.1 p no_text)
    kept_within (Seq no_exprs) c h = tt
    kept_within (Seq (expr e no_exprs)) c h = h.1.0
    kept_within (Seq (expr e (expr d es))) c h = one_part (λ x. Seq (expr x (expr d es))) (λ v. Goes (Seq (expr d es))) (next c e) (kept_within e c h.1.0) (λ s p. (tt, (p, h.1.1))) (λ v p. (tt, h.1.1))
    kept_within (Raise T e) c h = one_part (Raise T) thrown (next c e) (kept_within e c h.1) (λ s p. (h.0, p)) (λ v p. thrown_within v p)
    kept_within (Try e arms) c h =
        part_within (Within false) (Within false) ValueWithin ValueWithin (λ x. Try x arms) (λ v. Goes e) (λ x. or_raises x (chosen arms (exception_value x))) (next c e) (kept_within e c h.0) (λ s p. (p, h.1, h.2)) (λ v p. h.0)
        (λ x y. chosen_within arms (exception_value x) x h.1 y y)
    kept_within (Prim k es) c h =
        part_within (Counted (term_count es)) (Within false) (Wide (term_count es)) ValueWithin (Prim k) (λ vs. answered spelled (raising TStr) z (primitive k vs)) Raises (all_next c es) (all_kept_within es c h.1)
        (λ s p. (tt, p.1)) (λ vs p. primitive_answered k vs z written p.1) (λ x y. y)
    kept_within (Marshal T m e) c h =
        one_part (λ x. Marshal T x e) (λ v. part (λ y. Marshal T m y) (λ w. marshal_step z c T v w) (next c e)) (next c m) (kept_within m c h.1) (λ s p. (h.0, p, h.2))
        (λ v p. one_part (λ y. Marshal T m y) (λ w. marshal_step z c T v w) (next c e) (kept_within e c h.2) (λ s r. (h.0, h.1, r)) (λ w r. marshal_within c T v w))
    kept_within (Unmarshal T e) c h = one_part (Unmarshal T) (unmarshal_step mode z c T) (next c e) (kept_within e c h.1) (λ s p. (h.0, p)) (λ v p. unmarshal_within c T v h.0)
    kept_within (Own f) c h = own_within c f (own_field E c f) refl
    kept_within (Ref j x) c h = routed_within j (route E j x)
    kept_within (Bracket b T e) c h = one_part (Bracket b T) (bracket_step mode E b c T) (next b e) (kept_within e b h) (λ s p. p) (λ v p. bracket_within b c T v p)
    kept_within (Var i) c h = tt
    kept_within (Val T v) c h = tt

    pub all_kept_within : (es : Exprs) (c : Home) → AllWithin false es → ActWithin (Counted (term_count es)) (Wide (term_count es)) (all_next c es)
    all_kept_within no_exprs c h = (refl, tt)
    all_kept_within (expr e es) c h =
        part_within (Within false) (Counted (suc (term_count es))) ValueWithin (Wide (suc (term_count es))) (λ x. expr x es) (λ v. part (λ y. expr e y) (λ vs. Is (value v vs)) (all_next c es)) Raises (next c e) (kept_within e c h.0) (λ s p. (refl, (p, h.1)))
        (λ v p. part_within (Counted (term_count es)) (Counted (suc (term_count es))) (Wide (term_count es)) (Wide (suc (term_count es))) (λ y. expr e y) (λ vs. Is (value v vs)) Raises (all_next c es) (all_kept_within es c h.1)
        (λ s r. (ap (λ n. suc n) r.0, (h.0, r.1))) (λ vs r. (ap (λ n. suc n) r.0, (p, r.1))) (λ x y. y)) (λ x y. y)

  after_within : (N : ℕ) (a : Act Expr Value) → Good a → StateWithin (after N z a)
  after_within N (Is v) h = (h, written)
  after_within N (Goes e) h = (h, written)
  after_within N (Turns y e) h = h
  after_within N (Applies e) h = by (nat_lt z.made N)
    where
      by : (b : Bool) → StateWithin (cond b (At e (counted z)) (Over (Spent z)))
      by true = (h, written)
      by false = written
  after_within N (Raises x) h = (h, written)
  after_within N Wrong h = tt

-- over coherent definitions each step keeps it
pub within_kept : ComesWithin → (mode : Mode) (N : ℕ) (e : Expr) (z : World) → IsCoherent z.environment → StateWithin (At e z) → StateWithin (step mode N (At e z))
within_kept comes mode N e z i h = after_within comes mode z i h.1 N (look_main mode z e) (kept_within comes mode z i h.1 e Main h.0)
