-- Each form of a term as it is read, and its type from those of its parts.
use Rattle.std.proofs.Common.{ℕ, ◌≡◌, sym, ap, ap₂, ◌∙◌, subst, true, List, map, Option}
use Rattle.std.specs.Prelude.{option_map, Result, Ok, IfOk}
use Rattle.ac_types.specs.Types.{Typ}
use Rattle.ac_types.specs.ReadNumbers.{primitive_number}
use Rattle.ac_types.specs.ReadTypes.{typ_of}
use Rattle.ac_types.specs.declared.primitives.Primitive.{Primitive}
use Rattle.ac_types.specs.declared.memory.Memory.{Memory}
use Rattle.ac_types.specs.declared.ty.Ty.{Ty}
use Rattle.ac_types.specs.declared.text.Word.{Word}
use Rattle.ac_terms.specs.Terms.{Expr, Tuple, Nil, Empty, Present, Cons, Var, Own, Ref, Lam, Rec, App, Let, If, Seq, Try, Raise, Prim, Marshal, Unmarshal, Val, exprs, arms}
use Rattle.ac_terms.specs.Defs.{Environment}
use Rattle.ac_terms.specs.Read.{expr_of, arm_of, value_of, expr_layer}
use Rattle.ac_terms.specs.declared.term.Term.{Term}
use Rattle.ac_terms.specs.declared.term.PVal.{PVal}
use Rattle.ac_terms.specs.declared.term.Arm.{Arm}
use Rattle.ac_terms.specs.declared.term.PVal.TheOpen.{Term-F}
use Rattle.ac_terms.specs.declared.term.PVal.TheViews.{out-Term}
use Rattle.ac_terms.specs.declared.term.Term.TheVariants as term
use Rattle.ac_terms.proofs.ReadLaws.{read_parts, expr_out, expr_of-Tuple, expr_of-Seq, expr_of-Prim}
use Rattle.ac_terms.proofs.TermForms.{expr_of-Try}
use Rattle.ac_rules.specs.Views.{Coloured}
use Rattle.ac_rules.specs.Typing.{Scope, type_of}
use Rattle.ac_check_terms.proofs.FormLaws.{carry}

-- one layer, read
abbrev layer : Term-F PVal Term Arm → Expr
layer x = expr_layer (read_parts x)

formed : (t u : Term) (x : Term-F PVal Term Arm) → t ≡ u → out-Term u ≡ x → expr_of t ≡ layer x
formed t u x e o = ap expr_of e ∙ expr_out u ∙ ap layer o

pub tuple_form : (t : Term) (ps xs : List Term) → t ≡ term.Tuple ps → xs ≡ ps → expr_of t ≡ Tuple (exprs (map expr_of xs))
tuple_form t ps xs e p = ap expr_of e ∙ ap (λ (us : List Term). expr_of (term.Tuple us)) (sym p) ∙ expr_of-Tuple xs

pub seq_form : (t : Term) (ps xs : List Term) → t ≡ term.Seq ps → xs ≡ ps → expr_of t ≡ Seq (exprs (map expr_of xs))
seq_form t ps xs e p = ap expr_of e ∙ ap (λ (us : List Term). expr_of (term.Seq us)) (sym p) ∙ expr_of-Seq xs

pub prim_form : (t : Term) (k : Primitive) (ps xs : List Term) → t ≡ term.Prim k ps → xs ≡ ps → expr_of t ≡ Prim (primitive_number k) (exprs (map expr_of xs))
prim_form t k ps xs e p = ap expr_of e ∙ ap (λ (us : List Term). expr_of (term.Prim k us)) (sym p) ∙ expr_of-Prim k xs

pub nil_form : (t : Term) (T : Ty) → t ≡ term.Nil T → expr_of t ≡ Nil (typ_of T)
nil_form t T e = formed t (term.Nil T) _ e (term.outs-Nil T)

pub empty_form : (t : Term) (T : Ty) → t ≡ term.Empty T → expr_of t ≡ Empty (typ_of T)
empty_form t T e = formed t (term.Empty T) _ e (term.outs-Empty T)

pub var_form : (t : Term) (i : ℕ) → t ≡ term.Var i → expr_of t ≡ Var i
var_form t i e = formed t (term.Var i) _ e (term.outs-Var i)

pub present_form : (t a x : Term) → t ≡ term.Present a → x ≡ a → expr_of t ≡ Present (expr_of x)
present_form t a x e p = formed t (term.Present a) _ e (term.outs-Present a) ∙ ap (λ (u : Term). Present (expr_of u)) (sym p)

pub cons_form : (t a b x y : Term) → t ≡ term.Cons a b → x ≡ a → y ≡ b → expr_of t ≡ Cons (expr_of x) (expr_of y)
cons_form t a b x y e p q = formed t (term.Cons a b) _ e (term.outs-Cons a b) ∙ ap₂ (λ (u v : Term). Cons (expr_of u) (expr_of v)) (sym p) (sym q)

pub app_form : (t a b x y : Term) → t ≡ term.App a b → x ≡ a → y ≡ b → expr_of t ≡ App (expr_of x) (expr_of y)
app_form t a b x y e p q = formed t (term.App a b) _ e (term.outs-App a b) ∙ ap₂ (λ (u v : Term). App (expr_of u) (expr_of v)) (sym p) (sym q)

pub lam_form : (t : Term) (T : Ty) (a x : Term) → t ≡ term.Lam T a → x ≡ a → expr_of t ≡ Lam (typ_of T) (expr_of x)
lam_form t T a x e p = formed t (term.Lam T a) _ e (term.outs-Lam T a) ∙ ap (λ (u : Term). Lam (typ_of T) (expr_of u)) (sym p)

pub rec_form : (t : Term) (T U : Ty) (a x : Term) → t ≡ term.Rec T U a → x ≡ a → expr_of t ≡ Rec (typ_of T) (typ_of U) (expr_of x)
rec_form t T U a x e p = formed t (term.Rec T U a) _ e (term.outs-Rec T U a) ∙ ap (λ (u : Term). Rec (typ_of T) (typ_of U) (expr_of u)) (sym p)

pub let_form : (t : Term) (T : Ty) (a b x y : Term) → t ≡ term.Let T a b → x ≡ a → y ≡ b → expr_of t ≡ Let (typ_of T) (expr_of x) (expr_of y)
let_form t T a b x y e p q = formed t (term.Let T a b) _ e (term.outs-Let T a b) ∙ ap₂ (λ (u v : Term). Let (typ_of T) (expr_of u) (expr_of v)) (sym p) (sym q)

pub if_form : (t a b d x y z : Term) → t ≡ term.If a b d → x ≡ a → y ≡ b → z ≡ d → expr_of t ≡ If (expr_of x) (expr_of y) (expr_of z)
if_form t a b d x y z e p q r =
    formed t (term.If a b d) _ e (term.outs-If a b d) ∙ ap (λ (u : Term). If (expr_of u) (expr_of b) (expr_of d)) (sym p)
    ∙ ap₂ (λ (u v : Term). If (expr_of x) (expr_of u) (expr_of v)) (sym q) (sym r)

pub try_form : (t a : Term) (cs : List Arm) (x : Term) (ds : List Arm) → t ≡ term.Try a cs → x ≡ a → ds ≡ cs → expr_of t ≡ Try (expr_of x) (arms (map arm_of ds))
try_form t a cs x ds e p q = ap expr_of e ∙ expr_of-Try a cs ∙ ap₂ (λ (u : Term) (vs : List Arm). Try (expr_of u) (arms (map arm_of vs))) (sym p) (sym q)

pub raise_form : (t : Term) (T : Ty) (a x : Term) → t ≡ term.Raise T a → x ≡ a → expr_of t ≡ Raise (typ_of T) (expr_of x)
raise_form t T a x e p = formed t (term.Raise T a) _ e (term.outs-Raise T a) ∙ ap (λ (u : Term). Raise (typ_of T) (expr_of u)) (sym p)

pub own_form : (t : Term) (f : ℕ) → t ≡ term.Own f → expr_of t ≡ Own f
own_form t f e = formed t (term.Own f) _ e (term.outs-Own f)

pub ref_form : (t : Term) (j : ℕ) (x : Word) → t ≡ term.Ref j x → expr_of t ≡ Ref j x
ref_form t j x e = formed t (term.Ref j x) _ e (term.outs-Ref j x)

pub marshal_form : (t : Term) (T : Ty) (a b x y : Term) → t ≡ term.Marshal T a b → x ≡ a → y ≡ b → expr_of t ≡ Marshal (typ_of T) (expr_of x) (expr_of y)
marshal_form t T a b x y e p q = formed t (term.Marshal T a b) _ e (term.outs-Marshal T a b) ∙ ap₂ (λ (u v : Term). Marshal (typ_of T) (expr_of u) (expr_of v)) (sym p) (sym q)

pub unmarshal_form : (t : Term) (T : Ty) (a x : Term) → t ≡ term.Unmarshal T a → x ≡ a → expr_of t ≡ Unmarshal (typ_of T) (expr_of x)
unmarshal_form t T a x e p = formed t (term.Unmarshal T a) _ e (term.outs-Unmarshal T a) ∙ ap (λ (u : Term). Unmarshal (typ_of T) (expr_of u)) (sym p)

pub val_form : (t : Term) (T : Ty) (v : PVal) → t ≡ term.Val T v → expr_of t ≡ Val (typ_of T) (value_of v)
val_form t T v e = formed t (term.Val T v) _ e (term.outs-Val T v)

-- what an answer says of the value that it holds
pub from_ok : (r : Result (Option Ty) Memory) (o : Option Ty) (X : Option Typ) → r ≡ Ok o → IfOk r (λ u. option_map typ_of u ≡ X) → option_map typ_of o ≡ X
from_ok r o X e h = subst (λ (s : Result (Option Ty) Memory). IfOk s (λ u. option_map typ_of u ≡ X)) e h

module _ (E : Environment) (S : Scope) where
  abbrev typed : Expr → Option Typ
  typed e = type_of Coloured true E S e

  pub same_type : (e f : Expr) (x : Option Typ) → e ≡ f → x ≡ typed f → x ≡ typed e
  same_type e f x q h = h ∙ ap typed (sym q)

  pub same_answer : (r : Result (Option Ty) Memory) (e f : Expr) (x : Option Typ) → e ≡ f → x ≡ typed f → IfOk r (λ o. option_map typ_of o ≡ x) → IfOk r (λ o. option_map typ_of o ≡ typed e)
  same_answer r e f x q h a = carry r x (typed e) (h ∙ ap typed (sym q)) a
