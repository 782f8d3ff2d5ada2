use Rattle.std.proofs.Common.{sym, ap, ap₂, ◌∙◌, Bool, ◌&&◌, Some}
use Rattle.std.proofs.lemmas.Bool.{and_left}
use Rattle.ac_terms.specs.Read.{expr_of}
use Rattle.ac_terms.specs.declared.term.Term.{Term}
use Rattle.ac_terms.specs.declared.term.Term.TheVariants as term
use Rattle.ac_terms.proofs.ReadLaws.{expr_of-Tuple, expr_of-Seq, expr_of-Prim}
use Rattle.ac_terms.proofs.TermForms.{expr_of-Int, expr_of-Bool, expr_of-Str, expr_of-Unit, expr_of-Exn, expr_of-ExnOf, expr_of-Nil, expr_of-Empty, expr_of-Present, expr_of-Cons, expr_of-Var, expr_of-Own, expr_of-Ref, expr_of-Lam, expr_of-Rec, expr_of-App, expr_of-Let, expr_of-If, expr_of-Match, expr_of-Try, expr_of-Raise, expr_of-Marshal, expr_of-Unmarshal, expr_of-Val}
use Rattle.ac_rules.specs.Modules.{is_valuable}
use Rattle.ac_modules.proofs.ValuableLaws.{valued}
use Rattle.ac_modules.proofs.fields.+valuable.Goals as goal

pub valuable-returns-in-Int : goal.valuable-returns-in-Int
valuable-returns-in-Int t c =
    valued _ _ _ c.in-Int.is (expr_of-Int _)

pub valuable-returns-in-Bool : goal.valuable-returns-in-Bool
valuable-returns-in-Bool t c =
    valued _ _ _ c.in-Bool.is (expr_of-Bool _)

pub valuable-returns-in-Str : goal.valuable-returns-in-Str
valuable-returns-in-Str t c =
    valued _ _ _ c.in-Str.is (expr_of-Str _)

pub valuable-returns-in-Unit : goal.valuable-returns-in-Unit
valuable-returns-in-Unit t c =
    valued _ _ _ c.in-Unit.is expr_of-Unit

pub valuable-returns-in-ExnVal : goal.valuable-returns-in-ExnVal
valuable-returns-in-ExnVal t c =
    valued _ _ _ c.in-ExnVal.is (expr_of-Exn _)

pub valuable-returns-in-ExnOf : goal.valuable-returns-in-ExnOf
valuable-returns-in-ExnOf t c =
    c.valuable.ensures ∙ valued _ _ _ (c.in-ExnOf.is ∙ ap (term.ExnOf _) (sym c.deref.ensures)) (expr_of-ExnOf _ _)

pub valuable-returns-in-Tuple : goal.valuable-returns-in-Tuple
valuable-returns-in-Tuple t c =
    c.are_valuable.ensures ∙ valued _ _ _ (c.in-Tuple.is ∙ ap term.Tuple (sym c.as_slice.ensures)) (expr_of-Tuple _)

pub valuable-returns-in-Nil : goal.valuable-returns-in-Nil
valuable-returns-in-Nil t c =
    valued _ _ _ c.in-Nil.is (expr_of-Nil _)

pub valuable-returns-in-Empty : goal.valuable-returns-in-Empty
valuable-returns-in-Empty t c =
    valued _ _ _ c.in-Empty.is (expr_of-Empty _)

pub valuable-returns-in-Present : goal.valuable-returns-in-Present
valuable-returns-in-Present t c =
    c.valuable-in-Present.ensures ∙ valued _ _ _ (c.in-Present.is ∙ ap term.Present (sym c.deref-in-Present.ensures)) (expr_of-Present _)

pub valuable-returns-then-valuable : goal.valuable-returns-then-valuable
valuable-returns-then-valuable t c =
    let is = c.in-Cons.is ∙ ap₂ term.Cons (sym c.deref-in-Cons.ensures) (sym c.deref-then-valuable.ensures) in
    c.valuable-then-valuable.ensures ∙ ap (λ (b : Bool). b && is_valuable (expr_of c.deref-then-valuable.result.now)) (sym c.if-valuable.true ∙ c.valuable-in-Cons.ensures)
    ∙ valued _ _ _ is (expr_of-Cons _ _)

pub valuable-returns-else-valuable : goal.valuable-returns-else-valuable
valuable-returns-else-valuable t c =
    let is = c.in-Cons.is ∙ ap (λ (x : Term). term.Cons x c.in-Cons.tail) (sym c.deref-in-Cons.ensures) in
    c.if-valuable.false ∙ sym (and_left _ _ (sym c.valuable-in-Cons.ensures ∙ c.if-valuable.false)) ∙ valued _ _ _ is (expr_of-Cons _ _)

pub valuable-returns-in-Own : goal.valuable-returns-in-Own
valuable-returns-in-Own t c =
    valued _ _ _ c.in-Own.is (expr_of-Own _)

pub valuable-returns-in-Ref : goal.valuable-returns-in-Ref
valuable-returns-in-Ref t c =
    valued _ _ _ c.in-Ref.is (expr_of-Ref _ _)

pub valuable-returns-in-Lam : goal.valuable-returns-in-Lam
valuable-returns-in-Lam t c =
    valued _ _ _ c.in-Lam.is (expr_of-Lam _ _)

pub valuable-returns-in-Rec : goal.valuable-returns-in-Rec
valuable-returns-in-Rec t c =
    valued _ _ _ c.in-Rec.is (expr_of-Rec _ _ _)

pub valuable-returns-in-Var : goal.valuable-returns-in-Var
valuable-returns-in-Var t c =
    valued _ _ _ c.in-Var.is (expr_of-Var _)

pub valuable-returns-in-App : goal.valuable-returns-in-App
valuable-returns-in-App t c =
    valued _ _ _ c.in-App.is (expr_of-App _ _)

pub valuable-returns-in-Let : goal.valuable-returns-in-Let
valuable-returns-in-Let t c =
    valued _ _ _ c.in-Let.is (expr_of-Let _ _ _)

pub valuable-returns-in-If : goal.valuable-returns-in-If
valuable-returns-in-If t c =
    valued _ _ _ c.in-If.is (expr_of-If _ _ _)

pub valuable-returns-in-Seq : goal.valuable-returns-in-Seq
valuable-returns-in-Seq t c =
    valued _ _ _ c.in-Seq.is (expr_of-Seq _)

pub valuable-returns-in-Match : goal.valuable-returns-in-Match
valuable-returns-in-Match t c =
    valued _ _ _ c.in-Match.is (expr_of-Match _ _)

pub valuable-returns-in-Try : goal.valuable-returns-in-Try
valuable-returns-in-Try t c =
    valued _ _ _ c.in-Try.is (expr_of-Try _ _)

pub valuable-returns-in-Raise : goal.valuable-returns-in-Raise
valuable-returns-in-Raise t c =
    valued _ _ _ c.in-Raise.is (expr_of-Raise _ _)

pub valuable-returns-in-Prim : goal.valuable-returns-in-Prim
valuable-returns-in-Prim t c =
    valued _ _ _ c.in-Prim.is (expr_of-Prim _ _)

pub valuable-returns-in-Marshal : goal.valuable-returns-in-Marshal
valuable-returns-in-Marshal t c =
    valued _ _ _ c.in-Marshal.is (expr_of-Marshal _ _ _)

pub valuable-returns-in-Unmarshal : goal.valuable-returns-in-Unmarshal
valuable-returns-in-Unmarshal t c =
    valued _ _ _ c.in-Unmarshal.is (expr_of-Unmarshal _ _)

pub valuable-returns-in-Val : goal.valuable-returns-in-Val
valuable-returns-in-Val t c =
    valued _ _ _ c.in-Val.is (expr_of-Val _ _)
