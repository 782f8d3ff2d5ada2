-- The reading of terms and packed values loses nothing.
use Rattle.std.proofs.Common.{ℕ, ◌≡◌, refl, sym, ap, ◌∙◌, subst, List, [], ◌∷◌, map, Option, Some, None}
use mathlib.Core.Path.{ap₂}
use Rattle.ac_types.specs.Types.{Bytes}
use Rattle.ac_types.specs.declared.exceptions.Exn as code_exn
use Rattle.ac_types.specs.ReadNumbers.{exn_number, exn_text}
use Rattle.ac_types.proofs.TypeReading.{back, typ_back}
use Rattle.ac_types.proofs.NumberLaws.{primitive_back, primitive_again, bare_back, bare_again, texted_back, texted_again}
use Rattle.ac_terms.specs.Terms as terms
use Rattle.ac_terms.specs.Terms.{Pattern, Expr, Exprs, no_exprs, expr, exprs, Arms, no_arms, arm, arms, PValue, KInt, KBool, KStr, KUnit, KExn, KTuple, KList, KAbsent, KPresent, KFun, PValues, no_pvalues, pvalue, pvalues}
use Rattle.ac_terms.specs.Read.{home_of, expr_of, value_of, value_layer, expr_layer, arm_layer}
use Rattle.ac_terms.specs.declared.term.Home as code_home
use Rattle.ac_terms.specs.declared.term.Term.{Term}
use Rattle.ac_terms.specs.declared.term.PVal.{PVal}
use Rattle.ac_terms.specs.declared.term.Arm.{Arm}
use Rattle.ac_terms.specs.declared.term.PVal.TheOpen as code
use Rattle.ac_terms.specs.declared.term.PVal.TheOpen.{Term-F, PVal-F, Arm-F}
use Rattle.ac_terms.specs.declared.term.PVal.TheFolds.{ind-Term, ind-PVal, map-Term, map-PVal, map-Arm, fold-roll-Term, fold-roll-PVal, fold-roll-Arm}
use Rattle.ac_terms.specs.declared.term.PVal.TheViews.{roll-Term, roll-PVal, roll-Arm}
use Rattle.ac_terms.proofs.ReadLaws.{read_arm}
use Rattle.ac_terms.proofs.PatternReading.{find_pattern, pattern_back}

ap₃ : {A B C D : Type 0} (f : A → B → C → D) {a a' : A} {b b' : B} {c c' : C} → a ≡ a' → b ≡ b' → c ≡ c' → f a b c ≡ f a' b' c'
ap₃ f {a' = a'} {b} {b'} {c} p q r = ap (λ x. f x b c) p ∙ ap₂ (f a') q r

abbrev find_home : terms.Home → code_home.Home
find_home terms.Main = code_home.Home.Main
find_home (terms.In k) = code_home.Home.In k

home_back : (h : code_home.Home) → find_home (home_of h) ≡ h
home_back code_home.Home.Main = refl
home_back (code_home.Home.In k) = refl

abbrev find_exn : ℕ → Option Bytes → code_exn.Exn
find_exn k None = code_exn.Exn.Bare (bare_back k)
find_exn k (Some s) = code_exn.Exn.Text (texted_back k) (record { 0 = s })

exn_back : (x : code_exn.Exn) → find_exn (exn_number x) (exn_text x) ≡ x
exn_back (code_exn.Exn.Bare x) = ap code_exn.Exn.Bare (bare_again x)
exn_back (code_exn.Exn.Text x text) = ap (λ y. code_exn.Exn.Text y text) (texted_again x)

-- the term and the packed value that are read as these; those of the reduction alone are read from none
abbrev mutual
  pub find_term : Expr → Term
  find_term (terms.Int n) = roll-Term (code.Term::Int n)
  find_term (terms.Boolean b) = roll-Term (code.Term::Bool b)
  find_term (terms.Str s) = roll-Term (code.Term::Str (record { 0 = s }))
  find_term terms.Unit' = roll-Term code.Term::Unit
  find_term (terms.Exn k) = roll-Term (code.ExnVal (bare_back k))
  find_term (terms.ExnOf k e) = roll-Term (code.ExnOf (texted_back k) (find_term e))
  find_term (terms.Tuple es) = roll-Term (code.Term::Tuple (find_terms es))
  find_term (terms.Nil T) = roll-Term (code.Nil (back T))
  find_term (terms.Empty T) = roll-Term (code.Empty (back T))
  find_term (terms.Present e) = roll-Term (code.Term::Present (find_term e))
  find_term (terms.Cons a b) = roll-Term (code.Cons (find_term a) (find_term b))
  find_term (terms.Var i) = roll-Term (code.Var i)
  find_term (terms.Own f) = roll-Term (code.Own f)
  find_term (terms.Ref j x) = roll-Term (code.Ref j x)
  find_term (terms.Lam T e) = roll-Term (code.Lam (back T) (find_term e))
  find_term (terms.Rec T U e) = roll-Term (code.Rec (back T) (back U) (find_term e))
  find_term (terms.App f a) = roll-Term (code.App (find_term f) (find_term a))
  find_term (terms.Let T e b) = roll-Term (code.Let (back T) (find_term e) (find_term b))
  find_term (terms.If c a b) = roll-Term (code.If (find_term c) (find_term a) (find_term b))
  find_term (terms.Seq es) = roll-Term (code.Seq (find_terms es))
  find_term (terms.Match e cases) = roll-Term (code.Match (find_term e) (find_arms cases))
  find_term (terms.Try e cases) = roll-Term (code.Try (find_term e) (find_arms cases))
  find_term (terms.Raise T e) = roll-Term (code.Raise (back T) (find_term e))
  find_term (terms.Prim k es) = roll-Term (code.Prim (primitive_back k) (find_terms es))
  find_term (terms.Marshal T m e) = roll-Term (code.Marshal (back T) (find_term m) (find_term e))
  find_term (terms.Unmarshal T e) = roll-Term (code.Unmarshal (back T) (find_term e))
  find_term (terms.Val T v) = roll-Term (code.Val (back T) (find_value v))
  find_term (terms.Evaluated T v) = roll-Term code.Term::Unit
  find_term (terms.Bracket c T e) = roll-Term code.Term::Unit

  pub find_terms : Exprs → List Term
  find_terms no_exprs = []
  find_terms (expr e es) = find_term e ∷ find_terms es

  pub find_arms : Arms → List Arm
  find_arms no_arms = []
  find_arms (arm p e rest) = roll-Arm (record { pat = find_pattern p; body = find_term e }) ∷ find_arms rest

  pub find_value : PValue → PVal
  find_value (KInt n) = roll-PVal (code.PVal::Int n)
  find_value (KBool b) = roll-PVal (code.PVal::Bool b)
  find_value (KStr s) = roll-PVal (code.PVal::Str (record { 0 = s }))
  find_value KUnit = roll-PVal code.PVal::Unit
  find_value (KExn k s) = roll-PVal (code.Exn (find_exn k s))
  find_value (KTuple vs) = roll-PVal (code.PVal::Tuple (find_values vs))
  find_value (KList vs) = roll-PVal (code.List (find_values vs))
  find_value KAbsent = roll-PVal code.Absent
  find_value (KPresent v) = roll-PVal (code.PVal::Present (find_value v))
  find_value (KFun h l) = roll-PVal (code.Fun (find_home h) (find_term l))

  pub find_values : PValues → List PVal
  find_values no_pvalues = []
  find_values (pvalue v vs) = find_value v ∷ find_values vs

abbrev find_arm : Pattern × Expr → Arm
find_arm a = roll-Arm (record { pat = find_pattern a.0; body = find_term a.1 })

-- trees with the fact of them
abbrev IsValue : PVal → Type 0
IsValue v = find_value (value_of v) ≡ v

abbrev IsTerm : Term → Type 0
IsTerm t = find_term (expr_of t) ≡ t

abbrev IsArm : Arm → Type 0
IsArm a = find_arm (read_arm a) ≡ a

abbrev ShownValue : Type 0
ShownValue = (v : PVal) × IsValue v

abbrev ShownTerm : Type 0
ShownTerm = (t : Term) × IsTerm t

abbrev ShownArm : Type 0
ShownArm = (a : Arm) × IsArm a

of_terms : (es : List ShownTerm) → find_terms (exprs (map expr_of (map (λ (e : ShownTerm). e.0) es))) ≡ map (λ (e : ShownTerm). e.0) es
of_terms [] = refl
of_terms (e ∷ es) = ap₂ (λ x xs. x ∷ xs) e.1 (of_terms es)

of_arms : (es : List ShownArm) → find_arms (arms (map read_arm (map (λ (e : ShownArm). e.0) es))) ≡ map (λ (e : ShownArm). e.0) es
of_arms [] = refl
of_arms (e ∷ es) = ap₂ (λ x xs. x ∷ xs) e.1 (of_arms es)

of_values : (es : List ShownValue) → find_values (pvalues (map value_of (map (λ (e : ShownValue). e.0) es))) ≡ map (λ (e : ShownValue). e.0) es
of_values [] = refl
of_values (e ∷ es) = ap₂ (λ x xs. x ∷ xs) e.1 (of_values es)

-- a layer of shown trees, and what it is read as
abbrev term_of : Term-F ShownValue ShownTerm ShownArm → Term-F PVal Term Arm
term_of = map-Term ShownValue ShownTerm ShownArm PVal Term Arm (λ e. e.0) (λ e. e.0) (λ e. e.0)

abbrev term_read : Term-F PVal Term Arm → Expr
term_read z = expr_layer (map-Term PVal Term Arm PValue Expr (Pattern × Expr) value_of expr_of read_arm z)

abbrev value_of_shown : PVal-F ShownValue ShownTerm ShownArm → PVal-F PVal Term Arm
value_of_shown = map-PVal ShownValue ShownTerm ShownArm PVal Term Arm (λ e. e.0) (λ e. e.0) (λ e. e.0)

abbrev value_read : PVal-F PVal Term Arm → PValue
value_read z = value_layer (map-PVal PVal Term Arm PValue Expr (Pattern × Expr) value_of expr_of read_arm z)

abbrev arm_of_shown : Arm-F ShownValue ShownTerm ShownArm → Arm-F PVal Term Arm
arm_of_shown = map-Arm ShownValue ShownTerm ShownArm PVal Term Arm (λ e. e.0) (λ e. e.0) (λ e. e.0)

abbrev arm_read : Arm-F PVal Term Arm → Pattern × Expr
arm_read z = arm_layer (map-Arm PVal Term Arm PValue Expr (Pattern × Expr) value_of expr_of read_arm z)

term_layer : (y : Term-F ShownValue ShownTerm ShownArm) → find_term (term_read (term_of y)) ≡ roll-Term (term_of y)
term_layer (code.Term::Int n) = refl
term_layer (code.Term::Bool b) = refl
term_layer (code.Term::Str s) = refl
term_layer code.Term::Unit = refl
term_layer (code.ExnVal x) = ap (λ y. roll-Term (code.ExnVal y)) (bare_again x)
term_layer (code.ExnOf x e) = ap₂ (λ y t. roll-Term (code.ExnOf y t)) (texted_again x) e.1
term_layer (code.Term::Tuple es) = ap (λ ts. roll-Term (code.Term::Tuple ts)) (of_terms es)
term_layer (code.Nil T) = ap (λ t. roll-Term (code.Nil t)) (typ_back T)
term_layer (code.Empty T) = ap (λ t. roll-Term (code.Empty t)) (typ_back T)
term_layer (code.Term::Present e) = ap (λ t. roll-Term (code.Term::Present t)) e.1
term_layer (code.Cons a b) = ap₂ (λ t u. roll-Term (code.Cons t u)) a.1 b.1
term_layer (code.Var i) = refl
term_layer (code.Own f) = refl
term_layer (code.Ref j x) = refl
term_layer (code.Lam T e) = ap₂ (λ t u. roll-Term (code.Lam t u)) (typ_back T) e.1
term_layer (code.Rec T U e) = ap₃ (λ t u b. roll-Term (code.Rec t u b)) (typ_back T) (typ_back U) e.1
term_layer (code.App f a) = ap₂ (λ t u. roll-Term (code.App t u)) f.1 a.1
term_layer (code.Let T e b) = ap₃ (λ t u w. roll-Term (code.Let t u w)) (typ_back T) e.1 b.1
term_layer (code.If c a b) = ap₃ (λ t u w. roll-Term (code.If t u w)) c.1 a.1 b.1
term_layer (code.Seq es) = ap (λ ts. roll-Term (code.Seq ts)) (of_terms es)
term_layer (code.Match e cases) = ap₂ (λ t u. roll-Term (code.Match t u)) e.1 (of_arms cases)
term_layer (code.Try e cases) = ap₂ (λ t u. roll-Term (code.Try t u)) e.1 (of_arms cases)
term_layer (code.Raise T e) = ap₂ (λ t u. roll-Term (code.Raise t u)) (typ_back T) e.1
term_layer (code.Prim p es) = ap₂ (λ q ts. roll-Term (code.Prim q ts)) (primitive_again p) (of_terms es)
term_layer (code.Marshal T m e) = ap₃ (λ t u w. roll-Term (code.Marshal t u w)) (typ_back T) m.1 e.1
term_layer (code.Unmarshal T e) = ap₂ (λ t u. roll-Term (code.Unmarshal t u)) (typ_back T) e.1
term_layer (code.Val T v) = ap₂ (λ t u. roll-Term (code.Val t u)) (typ_back T) v.1

value_layer_back : (y : PVal-F ShownValue ShownTerm ShownArm) → find_value (value_read (value_of_shown y)) ≡ roll-PVal (value_of_shown y)
value_layer_back (code.PVal::Int n) = refl
value_layer_back (code.PVal::Bool b) = refl
value_layer_back (code.PVal::Str s) = refl
value_layer_back code.PVal::Unit = refl
value_layer_back (code.Exn x) = ap (λ e. roll-PVal (code.Exn e)) (exn_back x)
value_layer_back (code.PVal::Tuple es) = ap (λ vs. roll-PVal (code.PVal::Tuple vs)) (of_values es)
value_layer_back (code.List es) = ap (λ vs. roll-PVal (code.List vs)) (of_values es)
value_layer_back code.Absent = refl
value_layer_back (code.PVal::Present e) = ap (λ v. roll-PVal (code.PVal::Present v)) e.1
value_layer_back (code.Fun h e) = ap₂ (λ g l. roll-PVal (code.Fun g l)) (home_back h) e.1

arm_layer_back : (y : Arm-F ShownValue ShownTerm ShownArm) → find_arm (arm_read (arm_of_shown y)) ≡ roll-Arm (arm_of_shown y)
arm_layer_back y = ap₂ (λ p e. roll-Arm (record { pat = p; body = e })) (pattern_back y.pat) y.body.1

value_step : (x : PVal-F PVal Term Arm) (y : PVal-F ShownValue ShownTerm ShownArm) → value_of_shown y ≡ x → IsValue (roll-PVal x)
unfolding expr_of value_of read_arm
value_step x y is =
    ap find_value (fold-roll-PVal PValue Expr (Pattern × Expr) value_layer expr_layer arm_layer x) ∙
    subst (λ (z : PVal-F PVal Term Arm). find_value (value_read z) ≡ roll-PVal z) is (value_layer_back y)

term_step : (x : Term-F PVal Term Arm) (y : Term-F ShownValue ShownTerm ShownArm) → term_of y ≡ x → IsTerm (roll-Term x)
unfolding expr_of value_of read_arm
term_step x y is =
    ap find_term (fold-roll-Term PValue Expr (Pattern × Expr) value_layer expr_layer arm_layer x) ∙
    subst (λ (z : Term-F PVal Term Arm). find_term (term_read z) ≡ roll-Term z) is (term_layer y)

arm_step : (x : Arm-F PVal Term Arm) (y : Arm-F ShownValue ShownTerm ShownArm) → arm_of_shown y ≡ x → IsArm (roll-Arm x)
unfolding expr_of value_of read_arm
arm_step x y is =
    ap find_arm (fold-roll-Arm PValue Expr (Pattern × Expr) value_layer expr_layer arm_layer x) ∙
    subst (λ (z : Arm-F PVal Term Arm). find_arm (arm_read z) ≡ roll-Arm z) is (arm_layer_back y)

pub term_back : (t : Term) → find_term (expr_of t) ≡ t
term_back = ind-Term IsValue IsTerm IsArm value_step term_step arm_step

pub value_back : (v : PVal) → find_value (value_of v) ≡ v
value_back = ind-PVal IsValue IsTerm IsArm value_step term_step arm_step

-- two terms, and two packed values, that are read as one are equal
pub expr_of-injective : (t u : Term) → expr_of t ≡ expr_of u → t ≡ u
expr_of-injective t u e = sym (term_back t) ∙ ap find_term e ∙ term_back u

pub value_of-injective : (v w : PVal) → value_of v ≡ value_of w → v ≡ w
value_of-injective v w e = sym (value_back v) ∙ ap find_value e ∙ value_back w
