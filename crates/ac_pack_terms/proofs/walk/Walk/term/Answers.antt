use Rattle.std.proofs.Common.{sym, ap, ap₂, ◌∙◌}
use Rattle.ac_terms.specs.Terms.{Str}
use Rattle.ac_terms.specs.Read.{expr_of}
use Rattle.ac_terms.specs.declared.term.Term.{Term}
use Rattle.ac_terms.specs.declared.term.Term.TheVariants as term
use Rattle.ac_terms.proofs.ReadLaws.{expr_of-Tuple, expr_of-Seq}
use Rattle.ac_terms.proofs.TermForms.{expr_of-Bool, expr_of-Str, expr_of-Unit, expr_of-Exn, expr_of-ExnOf, expr_of-Nil, expr_of-Empty, expr_of-Present, expr_of-Var, expr_of-Own, expr_of-Lam, expr_of-Rec, expr_of-Let, expr_of-If, expr_of-Marshal}
use Rattle.ac_pack_terms.proofs.VisitLaws.{as_form, as_tuple, as_sequence}
use Rattle.ac_pack_terms.proofs.walk.Walk.term.Goals as goal

pub returns-in-Bool : goal.returns-in-Bool
returns-in-Bool c = as_form c.args.around c.args.t.now _ _ _ _ c.args.self.now _ (ap expr_of c.in-Bool.is ∙ expr_of-Bool _) c.in_ok-d.ensures c.truth.ensures

pub returns-in-Str : goal.returns-in-Str
returns-in-Str c = as_form c.args.around c.args.t.now _ _ _ _ c.args.self.now _ (ap expr_of c.in-Str.is ∙ expr_of-Str _ ∙ ap Str (sym c.as_slice.ensures)) c.in_ok-d.ensures c.string.ensures

pub returns-in-Unit : goal.returns-in-Unit
returns-in-Unit c = as_form c.args.around c.args.t.now _ _ _ _ c.args.self.now _ (ap expr_of c.in-Unit.is ∙ expr_of-Unit) c.in_ok-d.ensures c.head.ensures

pub returns-in-ExnVal : goal.returns-in-ExnVal
returns-in-ExnVal c = as_form c.args.around c.args.t.now _ _ _ _ c.args.self.now _ (ap expr_of c.in-ExnVal.is ∙ expr_of-Exn _) c.in_ok-d.ensures (rw c.number.ensures at c.head-in-ExnVal.ensures)

pub returns-in-ExnOf : goal.returns-in-ExnOf
returns-in-ExnOf c = as_form c.args.around c.args.t.now _ _ _ _ c.args.self.now _ (ap expr_of (c.in-ExnOf.is ∙ ap (term.ExnOf _) (sym c.deref.ensures)) ∙ expr_of-ExnOf _ _) c.in_ok-d.ensures (rw c.number-in-ExnOf.ensures at c.one_term.ensures)

pub returns-in-Tuple : goal.returns-in-Tuple
returns-in-Tuple c =
    as_tuple c.args.around c.in_ok-d.d c.few.result c.args.self.now c.few.new.self c.args.t.now c.len.result c.as_slice-in-Tuple.result.now c.in-Tuple.parts _ c.in_ok-d.ensures
    c.as_slice-in-Tuple.ensures c.len.ensures (ap expr_of c.in-Tuple.is ∙ expr_of-Tuple _) c.few.ensures

pub returns-in-Nil : goal.returns-in-Nil
returns-in-Nil c = as_form c.args.around c.args.t.now _ _ _ _ c.args.self.now _ (ap expr_of c.in-Nil.is ∙ expr_of-Nil _) c.in_ok-d.ensures c.one.ensures

pub returns-in-Empty : goal.returns-in-Empty
returns-in-Empty c = as_form c.args.around c.args.t.now _ _ _ _ c.args.self.now _ (ap expr_of c.in-Empty.is ∙ expr_of-Empty _) c.in_ok-d.ensures c.one-in-Empty.ensures

pub returns-in-Present : goal.returns-in-Present
returns-in-Present c = as_form c.args.around c.args.t.now _ _ _ _ c.args.self.now _ (ap expr_of (c.in-Present.is ∙ ap term.Present (sym c.deref-in-Present.ensures)) ∙ expr_of-Present _) c.in_ok-d.ensures c.one_term-in-Present.ensures

pub returns-in-Var : goal.returns-in-Var
returns-in-Var c = as_form c.args.around c.args.t.now _ _ _ _ c.args.self.now _ (ap expr_of c.in-Var.is ∙ expr_of-Var _) c.in_ok-d.ensures c.variable.ensures

pub returns-in-Own : goal.returns-in-Own
returns-in-Own c = as_form c.args.around c.args.t.now _ _ _ _ c.args.self.now _ (ap expr_of c.in-Own.is ∙ expr_of-Own _) c.in_ok-d.ensures c.short.ensures

pub returns-in-Lam : goal.returns-in-Lam
returns-in-Lam c = as_form c.args.around c.args.t.now _ _ _ _ c.args.self.now _ (ap expr_of (c.in-Lam.is ∙ ap (term.Lam _) (sym c.deref-in-Lam.ensures)) ∙ expr_of-Lam _ _) c.in_ok-d.ensures c.lambda.ensures

pub returns-in-Rec : goal.returns-in-Rec
returns-in-Rec c = as_form c.args.around c.args.t.now _ _ _ _ c.args.self.now _ (ap expr_of (c.in-Rec.is ∙ ap (term.Rec _ _) (sym c.deref-in-Rec.ensures)) ∙ expr_of-Rec _ _ _) c.in_ok-d.ensures c.recursive.ensures

pub returns-in-Let : goal.returns-in-Let
returns-in-Let c = as_form c.args.around c.args.t.now _ _ _ _ c.args.self.now _ (ap expr_of (c.in-Let.is ∙ ap₂ (term.Let _) (sym c.deref-in-Let.ensures) (sym c.deref-in-Let-2.ensures)) ∙ expr_of-Let _ _ _) c.in_ok-d.ensures c.local.ensures

pub returns-in-Seq : goal.returns-in-Seq
returns-in-Seq c =
    as_sequence c.args.around c.in_ok-d.d c.many.result c.args.self.now c.many.new.self c.args.t.now c.len-in-Seq.result c.as_slice-in-Seq.result.now c.in-Seq.parts _ c.in_ok-d.ensures
    c.as_slice-in-Seq.ensures c.len-in-Seq.ensures (ap expr_of c.in-Seq.is ∙ expr_of-Seq _) c.many.ensures

pub returns-in-Marshal : goal.returns-in-Marshal
returns-in-Marshal c = as_form c.args.around c.args.t.now _ _ _ _ c.args.self.now _ (ap expr_of (c.in-Marshal.is ∙ ap₂ (term.Marshal _) (sym c.deref-in-Marshal.ensures) (sym c.deref-in-Marshal-2.ensures)) ∙ expr_of-Marshal _ _ _) c.in_ok-d.ensures c.marshal.ensures

pub returns-in-If : goal.returns-in-If
returns-in-If c = as_form c.args.around c.args.t.now _ _ _ _ c.args.self.now _ (ap expr_of (c.in-If.is ∙ ap₂ (λ (x y : Term). term.If x y c.in-If.otherwise) (sym c.deref-in-If.ensures) (sym c.deref-in-If-2.ensures) ∙ ap (term.If c.deref-in-If.result.now c.deref-in-If-2.result.now) (sym c.deref-in-If-3.ensures)) ∙ expr_of-If _ _ _) c.in_ok-d.ensures c.choice.ensures
