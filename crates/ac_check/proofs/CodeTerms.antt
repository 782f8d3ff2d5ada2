-- A term of the code is read as one of the code.
use Rattle.std.proofs.Common.{◌≡◌, refl, ap, ◌∙◌, subst, true, List, [], ◌∷◌, map, Some, None}
use Rattle.ac_types.proofs.Same.{and_true}
use Rattle.ac_terms.specs.Terms.{Pattern, Expr, exprs, arms, PValue}
use Rattle.ac_terms.specs.Read.{expr_of, value_of, value_layer, expr_layer, arm_layer}
use Rattle.ac_terms.specs.declared.term.Term.{Term}
use Rattle.ac_terms.specs.declared.term.PVal.{PVal}
use Rattle.ac_terms.specs.declared.term.Arm.{Arm}
use Rattle.ac_terms.specs.declared.term.PVal.TheOpen as code
use Rattle.ac_terms.specs.declared.term.PVal.TheOpen.{Term-F, PVal-F, Arm-F}
use Rattle.ac_terms.specs.declared.term.PVal.TheFolds.{ind-Term, map-Term, map-PVal, map-Arm, fold-roll-Term, fold-roll-Arm}
use Rattle.ac_terms.specs.declared.term.PVal.TheViews.{roll-Term, roll-PVal, roll-Arm}
use Rattle.ac_terms.proofs.ReadLaws.{read_arm}
use Rattle.ac_check.specs.inner.Captured.{is_code, are_code, arms_are_code}

-- trees with the fact of them; nothing is asked of packed values
abbrev IsValue : PVal → Type 0
IsValue v = Unit {0}

abbrev IsTerm : Term → Type 0
IsTerm t = is_code (expr_of t) ≡ true

abbrev IsArm : Arm → Type 0
IsArm a = is_code (read_arm a).1 ≡ true

abbrev ShownValue : Type 0
ShownValue = (v : PVal) × IsValue v

abbrev ShownTerm : Type 0
ShownTerm = (t : Term) × IsTerm t

abbrev ShownArm : Type 0
ShownArm = (a : Arm) × IsArm a

all_terms : (es : List ShownTerm) → are_code (exprs (map expr_of (map (λ (e : ShownTerm). e.0) es))) ≡ true
all_terms [] = refl
all_terms (e ∷ es) = and_true e.1 (all_terms es)

all_arms : (es : List ShownArm) → arms_are_code (arms (map read_arm (map (λ (e : ShownArm). e.0) es))) ≡ true
all_arms [] = refl
all_arms (e ∷ es) = and_true e.1 (all_arms es)

-- a layer of shown trees, and what it is read as
abbrev term_of : Term-F ShownValue ShownTerm ShownArm → Term-F PVal Term Arm
term_of = map-Term ShownValue ShownTerm ShownArm PVal Term Arm (λ e. e.0) (λ e. e.0) (λ e. e.0)

abbrev term_read : Term-F PVal Term Arm → Expr
term_read z = expr_layer (map-Term PVal Term Arm PValue Expr (Pattern × Expr) value_of expr_of read_arm z)

abbrev value_of_shown : PVal-F ShownValue ShownTerm ShownArm → PVal-F PVal Term Arm
value_of_shown = map-PVal ShownValue ShownTerm ShownArm PVal Term Arm (λ e. e.0) (λ e. e.0) (λ e. e.0)

abbrev arm_of_shown : Arm-F ShownValue ShownTerm ShownArm → Arm-F PVal Term Arm
arm_of_shown = map-Arm ShownValue ShownTerm ShownArm PVal Term Arm (λ e. e.0) (λ e. e.0) (λ e. e.0)

abbrev arm_read : Arm-F PVal Term Arm → Pattern × Expr
arm_read z = arm_layer (map-Arm PVal Term Arm PValue Expr (Pattern × Expr) value_of expr_of read_arm z)

term_layer : (y : Term-F ShownValue ShownTerm ShownArm) → is_code (term_read (term_of y)) ≡ true
term_layer (code.Term::Int n) = refl
term_layer (code.Term::Bool b) = refl
term_layer (code.Term::Str s) = refl
term_layer code.Term::Unit = refl
term_layer (code.ExnVal k) = refl
term_layer (code.ExnOf k e) = e.1
term_layer (code.Term::Tuple es) = all_terms es
term_layer (code.Nil T) = refl
term_layer (code.Empty T) = refl
term_layer (code.Term::Present e) = e.1
term_layer (code.Cons a b) = and_true a.1 b.1
term_layer (code.Var i) = refl
term_layer (code.Own f) = refl
term_layer (code.Ref j x) = refl
term_layer (code.Lam T e) = e.1
term_layer (code.Rec T U e) = e.1
term_layer (code.App f a) = and_true f.1 a.1
term_layer (code.Let T e b) = and_true e.1 b.1
term_layer (code.If c a b) = and_true c.1 (and_true a.1 b.1)
term_layer (code.Seq es) = all_terms es
term_layer (code.Match e cases) = and_true e.1 (all_arms cases)
term_layer (code.Try e cases) = and_true e.1 (all_arms cases)
term_layer (code.Raise T e) = e.1
term_layer (code.Prim k es) = all_terms es
term_layer (code.Marshal T m e) = and_true m.1 e.1
term_layer (code.Unmarshal T e) = e.1
term_layer (code.Val T v) = refl

value_step : (x : PVal-F PVal Term Arm) (y : PVal-F ShownValue ShownTerm ShownArm) → value_of_shown y ≡ x → IsValue (roll-PVal x)
value_step x y is = tt

term_step : (x : Term-F PVal Term Arm) (y : Term-F ShownValue ShownTerm ShownArm) → term_of y ≡ x → IsTerm (roll-Term x)
unfolding expr_of value_of read_arm
term_step x y is =
    ap is_code (fold-roll-Term PValue Expr (Pattern × Expr) value_layer expr_layer arm_layer x) ∙
    subst (λ (z : Term-F PVal Term Arm). is_code (term_read z) ≡ true) is (term_layer y)

arm_step : (x : Arm-F PVal Term Arm) (y : Arm-F ShownValue ShownTerm ShownArm) → arm_of_shown y ≡ x → IsArm (roll-Arm x)
unfolding expr_of value_of read_arm
arm_step x y is =
    ap (λ (a : Pattern × Expr). is_code a.1) (fold-roll-Arm PValue Expr (Pattern × Expr) value_layer expr_layer arm_layer x) ∙
    subst (λ (z : Arm-F PVal Term Arm). is_code (arm_read z).1 ≡ true) is y.body.1

pub code_term : (t : Term) → is_code (expr_of t) ≡ true
code_term = ind-Term IsValue IsTerm IsArm value_step term_step arm_step
