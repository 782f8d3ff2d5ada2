-- Terms that are joined of the terms of a tree's parts.
use Rattle.std.proofs.Common.{◌≡◌, ◌∙◌, ap, sym, subst, Bool, Option, Result, Ok, Err}
use Rattle.std.specs.Prelude.{IfOk}
use Rattle.ac_types.specs.Types.{Typ}
use Rattle.ac_types.specs.ReadTypes.{typ_of}
use Rattle.ac_types.specs.declared.ty.Ty.{Ty}
use Rattle.ac_types.specs.declared.memory.Memory.{Memory}
use Rattle.ac_terms.specs.declared.term.Term.{Term}
use Rattle.ac_terms.specs.Terms.{Expr, Boolean, If, Let, Marshal}
use Rattle.ac_terms.specs.declared.term.Term.TheVariants as term
use Rattle.ac_terms.specs.Read.{expr_of}
use Rattle.ac_terms.proofs.TermForms.{expr_of-Bool}
use Rattle.ac_syntax.specs.declared.surface.SExpr.{SExpr}
use Rattle.ac_syntax.specs.declared.surface.SArm.{SArm}
use Rattle.ac_syntax.specs.declared.surface.SFun.{SFun}
use Rattle.ac_syntax.specs.declared.surface.SExprKind.{SExprKind}
use Rattle.ac_syntax.specs.declared.surface.SExprKind.TheOpen.{SExprKind-F}
use Rattle.ac_syntax.specs.declared.surface.SExprKind.TheViews.{out-SExpr, out-SExprKind}
use Rattle.ac_syntax.specs.ReadTrees.{tree_of, expr_kind_of}
use Rattle.ac_syntax.proofs.ReadLaws.{expr_out, expr_kind_out, kind_at}
use Rattle.ac_resolve_scopes.specs.Standard.{NamedPrimitive}
use Rattle.ac_resolve_scopes.specs.Written.{applied_tree}
use Rattle.ac_resolve_terms.specs.inner.Joining.{AppliedOf, ChoiceOf, LetOf, MarshalOf}

-- a tree of a kind
pub shown : (e : SExpr) (k : SExprKind) (x : SExprKind-F SExprKind SArm SExpr SFun) → (out-SExpr e).kind ≡ k → out-SExprKind k ≡ x → tree_of e ≡ kind_at (out-SExpr e).at x
shown e k x is out = expr_out e ∙ ap (λ j. expr_kind_of j (out-SExpr e).at) is ∙ ap (λ f. f (out-SExpr e).at) (expr_kind_out k) ∙ ap (kind_at (out-SExpr e).at) out

if_ok : {A E : Type 0} {P Q : A → Type 0} (r : Result A E) → ((x : A) → P x → Q x) → IfOk r P → IfOk r Q
if_ok (Ok x) f h = f x h
if_ok (Err e) f h = h

pub flag_ok : (r : Result Term Memory) (b : Bool) → IfOk r (λ x. x ≡ term.Bool b) → IfOk r (λ x. expr_of x ≡ Boolean b)
flag_ok r b h = if_ok {P = λ x. x ≡ term.Bool b} r (λ x is. ap expr_of is ∙ expr_of-Bool b) h

was_ok : {A E : Type 0} (P : A → Type 0) (r : Result A E) (x : A) → r ≡ Ok x → IfOk r P → P x
was_ok P r x is h = subst (λ s. IfOk s P) is h

-- the term of a part, or its type
term_was : (r : Result Term Memory) (A : Expr) (x : Term) → IfOk r (λ t. expr_of t ≡ A) → r ≡ Ok x → expr_of x ≡ A
term_was r A x h is = was_ok (λ t. expr_of t ≡ A) r x is h

type_was : (r : Result Ty Memory) (T : Typ) (x : Ty) → IfOk r (λ t. typ_of t ≡ T) → r ≡ Ok x → typ_of x ≡ T
type_was r T x h is = was_ok (λ t. typ_of t ≡ T) r x is h

module _ (r a b : Result Term Memory) (E A B : Expr) where
  pub chosen : (d : Result Term Memory) (D : Expr) → E ≡ If A B D → IfOk a (λ t. expr_of t ≡ A) → IfOk b (λ t. expr_of t ≡ B) → IfOk d (λ t. expr_of t ≡ D) → IfOk r (λ t. ChoiceOf a b d t) → IfOk r (λ t. expr_of t ≡ E)
  chosen d D is ha hb hd h =
      if_ok {P = λ t. ChoiceOf a b d t} r
      (λ t m.
      m.is ∙ ap (λ x. If x (expr_of m.so) (expr_of m.otherwise)) (term_was a A m.test ha m.was_test) ∙ ap (λ x. If A x (expr_of m.otherwise)) (term_was b B m.so hb m.was_so)
      ∙ ap (If A B) (term_was d D m.otherwise hd m.was_otherwise) ∙ sym is)
      h

  pub bound : (c : Result Ty Memory) (T : Typ) → E ≡ Let T A B → IfOk c (λ t. typ_of t ≡ T) → IfOk a (λ t. expr_of t ≡ A) → IfOk b (λ t. expr_of t ≡ B) → IfOk r (λ t. LetOf c a b t) → IfOk r (λ t. expr_of t ≡ E)
  bound c T is hc ha hb h =
      if_ok {P = λ t. LetOf c a b t} r
      (λ t m.
      m.is ∙ ap (λ U. Let U (expr_of m.bound) (expr_of m.body)) (type_was c T m.ty hc m.was_ty) ∙ ap (λ x. Let T x (expr_of m.body)) (term_was a A m.bound ha m.was_bound)
      ∙ ap (Let T A) (term_was b B m.body hb m.was_body) ∙ sym is)
      h

  pub marshalled : (c : Result Ty Memory) (T : Typ) → E ≡ Marshal T A B → IfOk c (λ t. typ_of t ≡ T) → IfOk a (λ t. expr_of t ≡ A) → IfOk b (λ t. expr_of t ≡ B) → IfOk r (λ t. MarshalOf c a b t) → IfOk r (λ t. expr_of t ≡ E)
  marshalled c T is hc ha hb h =
      if_ok {P = λ t. MarshalOf c a b t} r
      (λ t m.
      m.is ∙ ap (λ U. Marshal U (expr_of m.mark) (expr_of m.value)) (type_was c T m.ty hc m.was_ty) ∙ ap (λ x. Marshal T x (expr_of m.value)) (term_was a A m.mark ha m.was_mark)
      ∙ ap (Marshal T A) (term_was b B m.value hb m.was_value) ∙ sym is)
      h

  pub applied_to : (p q : Option NamedPrimitive) → E ≡ applied_tree q A B → p ≡ q → IfOk a (λ t. expr_of t ≡ A) → IfOk b (λ t. expr_of t ≡ B) → IfOk r (λ t. AppliedOf p a b t) → IfOk r (λ t. expr_of t ≡ E)
  applied_to p q is hp ha hb h =
      if_ok {P = λ t. AppliedOf p a b t} r
      (λ t m.
      m.is ∙ ap (λ x. applied_tree p x (expr_of m.argument)) (term_was a A m.function ha m.was_function) ∙ ap (applied_tree p A) (term_was b B m.argument hb m.was_argument)
      ∙ ap (λ o. applied_tree o A B) hp ∙ sym is)
      h
