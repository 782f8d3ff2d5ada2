-- Laws of what numbers stand for.
use Rattle.std.proofs.Common.{◌≡◌, ℕ, zero, suc, ◌<◌, ◌≤◌, ◌+◌, List, [], ◌∷◌, ◌++◌, Some, None, slice_get, length, refl, sym, ◌∙◌, ap, ap₂, arith, zero-add, subst}
use Rattle.std.specs.List.{All}
use Rattle.std.proofs.Math.Seq.{get_or-append_seam}
use Rattle.std.proofs.Math.ListN.{get_or-append}
use Rattle.std.proofs.lemmas.List.{get_or_past}
use Rattle.ac_values.specs.declared.node.Node.{Node}
use Rattle.ac_values.specs.declared.node.Value.{Value}
use Rattle.ac_types.specs.ReadNumbers.{texted_number}
use Rattle.ac_values.specs.declared.node.Node.TheVariants.{Int, Bool, Str, Unit as UnitNode, Exn, ExnOf, Tuple, Nil, Cons, Absent, Present, Closure, EnvEnd, EnvCons}
use Rattle.ac_values.proofs.BuiltLaws.{built-push, length-built, built-at}
use Rattle.ac_values.specs.Below.{Below, IsOrdered}
use Rattle.ac_values.specs.Values.{MValue, MUnit, MTuple, MExnOf, MCons, MPresent, MClosure, MMore, also, value_at, values_at, node_value, values, stands_as}

abbrev pub Agree : List MValue → List MValue → ℕ → Type 0
Agree ts us n = (k : ℕ) → k < n → value_at ts k ≡ value_at us k

pub values_at_near : (ts us : List MValue) (n : ℕ) (vs : List Value) → All (λ v. v.0 < n) vs → Agree ts us n → values_at ts vs ≡ values_at us vs
values_at_near ts us n [] h e = refl
values_at_near ts us n (v ∷ vs) h e =
    ap₂ also (e v.0 (h 0 v (omega arith))) (values_at_near ts us n vs (λ k d l. h (suc k) d (omega arith)) e)

-- a node's value depends on its parts alone
pub value_of_near : (ts us : List MValue) (n : ℕ) (a : Node) → Below n a → Agree ts us n → node_value ts a ≡ node_value us a
value_of_near ts us n (ExnOf x v) h e = ap (MExnOf (texted_number x)) (e v.0 h)
value_of_near ts us n (Tuple vs) h e = ap MTuple (values_at_near ts us n vs h e)
value_of_near ts us n (Cons a b) h e = ap₂ MCons (e a.0 h.0) (e b.0 h.1)
value_of_near ts us n (Present a) h e = ap MPresent (e a.0 h)
value_of_near ts us n (Closure b r env) h e = ap (MClosure b.0 r) (e env.0 h)
value_of_near ts us n (EnvCons a b) h e = ap₂ MMore (e a.0 h.0) (e b.0 h.1)
value_of_near ts us n (Int i) h e = refl
value_of_near ts us n (Bool b) h e = refl
value_of_near ts us n (Str s) h e = refl
value_of_near ts us n UnitNode h e = refl
value_of_near ts us n (Exn x) h e = refl
value_of_near ts us n Nil h e = refl
value_of_near ts us n Absent h e = refl
value_of_near ts us n EnvEnd h e = refl

pub length_values : (ns : List Node) → length (values ns) ≡ length ns
unfolding values
length_values ns = length-built node_value [] ns ∙ zero-add (length ns)

pub values_push : (ns : List Node) (n : Node) → values (ns ++ n ∷ []) ≡ values ns ++ node_value (values ns) n ∷ []
unfolding values
values_push ns n = built-push node_value [] ns n

-- a push keeps what older numbers stand for
pub push_keeps : (ns : List Node) (n : Node) (k : ℕ) → k < length ns → stands_as (ns ++ n ∷ []) k ≡ stands_as ns k
push_keeps ns n k h =
    rw (values_push ns n) (get_or-append (values ns) (node_value (values ns) n ∷ []) MUnit k (omega (arith, length_values ns)))

-- the new number stands for the new node's value
pub push_adds : (ns : List Node) (n : Node) → stands_as (ns ++ n ∷ []) (length ns) ≡ node_value (values ns) n
push_adds ns n =
    rw (values_push ns n, ← (length_values ns)) (get_or-append_seam (values ns) (node_value (values ns) n) [] MUnit)

-- a number stands for the value of its node
pub stands_for : (ns : List Node) (k : ℕ) (n : Node) → IsOrdered ns → slice_get ns k ≡ Some n → stands_as ns k ≡ node_value (values ns) n
unfolding values
stands_for ns k n o e =
    let zeroth : (j : ℕ) → 0 + j ≡ j = λ j. omega arith in
    subst (λ i. value_at (values ns) i ≡ node_value (values ns) n) (zeroth k)
    (built-at node_value Below MUnit value_of_near [] ns k n (λ j x h. subst (λ i. Below i x) (sym (zeroth j)) (o j x h)) e)

-- a number that isn't there
pub stands_past : (ns : List Node) (k : ℕ) → length ns ≤ k → stands_as ns k ≡ MUnit
stands_past ns k h = get_or_past (values ns) k MUnit (omega (arith, length_values ns))

pub none_past : (ns : List Node) (k : ℕ) → slice_get ns k ≡ None → length ns ≤ k
none_past [] k e = omega arith
none_past (x ∷ xs) zero e = absurd (cc)
none_past (x ∷ xs) (suc k) e = omega (arith, none_past xs k e)

pub ruleset node_laws = (stands_for, stands_past, none_past)
