-- The reading of each form of terms.
use Rattle.std.proofs.Common.{◌≡◌, ◌∙◌, sym, ap, ap₂, refl, ℕ, ℤ, Bool, true, false, ◌||◌, List, [], ◌∷◌, map}
use Rattle.ac_types.specs.ReadTypes.{typ_of}
use Rattle.ac_types.specs.ReadNumbers.{bare_number, texted_number}
use Rattle.ac_types.specs.declared.exceptions.BareExn.{BareExn}
use Rattle.ac_types.specs.declared.exceptions.TextExn.{TextExn}
use Rattle.ac_types.specs.declared.text.Text.{Text}
use Rattle.ac_types.specs.declared.ty.Ty.{Ty}
use Rattle.ac_terms.specs.declared.term.Term.{Term}
use Rattle.ac_terms.specs.declared.term.Term.TheVariants as term
use Rattle.ac_terms.specs.declared.term.PVal.{PVal}
use Rattle.ac_terms.specs.declared.term.Arm.{Arm}
use Rattle.ac_terms.specs.declared.term.PVal.TheOpen as code
use Rattle.ac_terms.specs.declared.term.PVal.TheOpen.{Term-F}
use Rattle.ac_terms.specs.declared.term.PVal.TheViews.{out-Term, roll-Term, roll-out-Term}
use Rattle.ac_terms.specs.declared.term.PVal.TheFolds.{fold_out-Arm}
use Rattle.ac_terms.specs.Terms.{Pattern, Expr, Int, Boolean, Str, Unit', Exn, ExnOf, Nil, Empty, Present, Cons, Var, Own, Ref, Lam, Rec, App, Let, If, Match, Try, Raise, Marshal, Unmarshal, Val, arms, PValue}
use Rattle.ac_terms.specs.Bounds.{is_lambda, is_wanted}
use Rattle.ac_terms.specs.Read.{expr_of, value_of, arm_of, value_layer, expr_layer, arm_layer}
use Rattle.ac_terms.proofs.ReadLaws.{read_arm, read_parts, expr_out, expr_of-Tuple, expr_of-Seq, expr_of-Prim}

one_arm : (a : Arm) → read_arm a ≡ arm_of a
unfolding read_arm expr_of value_of
one_arm a = fold_out-Arm PValue Expr (Pattern × Expr) value_layer expr_layer arm_layer a

-- one layer, read
abbrev layer : Term-F PVal Term Arm → Expr
layer x = expr_layer (read_parts x)

pub expr_of-Int : (n : ℤ) → expr_of (term.Int n) ≡ Int n
expr_of-Int n = expr_out (term.Int n) ∙ ap layer (term.outs-Int n)

pub expr_of-Bool : (b : Bool) → expr_of (term.Bool b) ≡ Boolean b
expr_of-Bool b = expr_out (term.Bool b) ∙ ap layer (term.outs-Bool b)

pub expr_of-Str : (s : Text) → expr_of (term.Str s) ≡ Str s.0
expr_of-Str s = expr_out (term.Str s) ∙ ap layer (term.outs-Str s)

pub expr_of-Unit : expr_of term.Unit ≡ Unit'
expr_of-Unit = expr_out term.Unit ∙ ap layer term.outs-Unit

pub expr_of-Exn : (x : BareExn) → expr_of (term.ExnVal x) ≡ Exn (bare_number x)
expr_of-Exn x = expr_out (term.ExnVal x) ∙ ap layer (term.outs-ExnVal x)

pub expr_of-ExnOf : (x : TextExn) (e : Term) → expr_of (term.ExnOf x e) ≡ ExnOf (texted_number x) (expr_of e)
expr_of-ExnOf x e = expr_out (term.ExnOf x e) ∙ ap layer (term.outs-ExnOf x e)

pub expr_of-Nil : (t : Ty) → expr_of (term.Nil t) ≡ Nil (typ_of t)
expr_of-Nil t = expr_out (term.Nil t) ∙ ap layer (term.outs-Nil t)

pub expr_of-Empty : (t : Ty) → expr_of (term.Empty t) ≡ Empty (typ_of t)
expr_of-Empty t = expr_out (term.Empty t) ∙ ap layer (term.outs-Empty t)

pub expr_of-Present : (e : Term) → expr_of (term.Present e) ≡ Present (expr_of e)
expr_of-Present e = expr_out (term.Present e) ∙ ap layer (term.outs-Present e)

pub expr_of-Cons : (a b : Term) → expr_of (term.Cons a b) ≡ Cons (expr_of a) (expr_of b)
expr_of-Cons a b = expr_out (term.Cons a b) ∙ ap layer (term.outs-Cons a b)

pub expr_of-Var : (i : ℕ) → expr_of (term.Var i) ≡ Var i
expr_of-Var i = expr_out (term.Var i) ∙ ap layer (term.outs-Var i)

pub expr_of-Own : (f : ℕ) → expr_of (term.Own f) ≡ Own f
expr_of-Own f = expr_out (term.Own f) ∙ ap layer (term.outs-Own f)

pub expr_of-Ref : (j : ℕ) (x : List ℕ) → expr_of (term.Ref j x) ≡ Ref j x
expr_of-Ref j x = expr_out (term.Ref j x) ∙ ap layer (term.outs-Ref j x)

pub expr_of-Lam : (t : Ty) (e : Term) → expr_of (term.Lam t e) ≡ Lam (typ_of t) (expr_of e)
expr_of-Lam t e = expr_out (term.Lam t e) ∙ ap layer (term.outs-Lam t e)

pub expr_of-Rec : (t u : Ty) (e : Term) → expr_of (term.Rec t u e) ≡ Rec (typ_of t) (typ_of u) (expr_of e)
expr_of-Rec t u e = expr_out (term.Rec t u e) ∙ ap layer (term.outs-Rec t u e)

pub expr_of-App : (f a : Term) → expr_of (term.App f a) ≡ App (expr_of f) (expr_of a)
expr_of-App f a = expr_out (term.App f a) ∙ ap layer (term.outs-App f a)

pub expr_of-Let : (t : Ty) (a b : Term) → expr_of (term.Let t a b) ≡ Let (typ_of t) (expr_of a) (expr_of b)
expr_of-Let t a b = expr_out (term.Let t a b) ∙ ap layer (term.outs-Let t a b)

pub expr_of-If : (c a b : Term) → expr_of (term.If c a b) ≡ If (expr_of c) (expr_of a) (expr_of b)
expr_of-If c a b = expr_out (term.If c a b) ∙ ap layer (term.outs-If c a b)

pub expr_of-Raise : (t : Ty) (e : Term) → expr_of (term.Raise t e) ≡ Raise (typ_of t) (expr_of e)
expr_of-Raise t e = expr_out (term.Raise t e) ∙ ap layer (term.outs-Raise t e)

pub expr_of-Marshal : (t : Ty) (m e : Term) → expr_of (term.Marshal t m e) ≡ Marshal (typ_of t) (expr_of m) (expr_of e)
expr_of-Marshal t m e = expr_out (term.Marshal t m e) ∙ ap layer (term.outs-Marshal t m e)

pub expr_of-Unmarshal : (t : Ty) (e : Term) → expr_of (term.Unmarshal t e) ≡ Unmarshal (typ_of t) (expr_of e)
expr_of-Unmarshal t e = expr_out (term.Unmarshal t e) ∙ ap layer (term.outs-Unmarshal t e)

pub expr_of-Val : (t : Ty) (v : PVal) → expr_of (term.Val t v) ≡ Val (typ_of t) (value_of v)
expr_of-Val t v = expr_out (term.Val t v) ∙ ap layer (term.outs-Val t v)

-- the forms that have arms
same_arms : (cases : List Arm) → map read_arm cases ≡ map arm_of cases
same_arms [] = refl
same_arms (c ∷ cases) = ap₂ (λ (x : Pattern × Expr) xs. x ∷ xs) (one_arm c) (same_arms cases)

pub expr_of-Match : (e : Term) (cases : List Arm) → expr_of (term.Match e cases) ≡ Match (expr_of e) (arms (map arm_of cases))
expr_of-Match e cases = expr_out (term.Match e cases) ∙ ap layer (term.outs-Match e cases) ∙ ap (λ xs. Match (expr_of e) (arms xs)) (same_arms cases)

pub expr_of-Try : (e : Term) (cases : List Arm) → expr_of (term.Try e cases) ≡ Try (expr_of e) (arms (map arm_of cases))
expr_of-Try e cases = expr_out (term.Try e cases) ∙ ap layer (term.outs-Try e cases) ∙ ap (λ xs. Try (expr_of e) (arms xs)) (same_arms cases)

pub ruleset armless_forms = (expr_of-Int, expr_of-Bool, expr_of-Str, expr_of-Unit, expr_of-Exn, expr_of-ExnOf, expr_of-Tuple, expr_of-Nil, expr_of-Empty, expr_of-Present, expr_of-Cons, expr_of-Var, expr_of-Own, expr_of-Ref, expr_of-Lam, expr_of-Rec, expr_of-App, expr_of-Let, expr_of-If, expr_of-Seq, expr_of-Raise, expr_of-Prim, expr_of-Marshal, expr_of-Unmarshal, expr_of-Val)

pub ruleset term_forms = (armless_forms, expr_of-Match, expr_of-Try)

pub either_wanted : (e : Expr) → (is_wanted e false || is_wanted e true) ≡ is_lambda e
either_wanted (Lam T e) = refl
either_wanted (Rec T U e) = refl
either_wanted e = refl

pub ruleset lambda_forms = (expr_of-Lam, expr_of-Rec)

-- a term that is no lambda is not wanted
pub no_lambda : (t : Term) (r : Bool) → ((T : Ty) (e : Term) → t ≡ term.Lam T e → ⊥) → ((T U : Ty) (e : Term) → t ≡ term.Rec T U e → ⊥) → false ≡ is_wanted (expr_of t) r
no_lambda t r lambda recursive = sym (ap (λ e. is_wanted e r) (expr_out t) ∙ unwanted (out-Term t) refl)
  where
    rolled : (y : Term-F PVal Term Arm) → out-Term t ≡ y → t ≡ roll-Term y
    rolled y q = sym (roll-out-Term t) ∙ ap roll-Term q

    unwanted : (y : Term-F PVal Term Arm) → out-Term t ≡ y → is_wanted (layer y) r ≡ false
    unwanted (code.Lam T e) q = absurd (lambda T e (rolled (code.Lam T e) q ∙ term.rolls-Lam T e))
    unwanted (code.Rec T U e) q = absurd (recursive T U e (rolled (code.Rec T U e) q ∙ term.rolls-Rec T U e))
    unwanted y q = refl
