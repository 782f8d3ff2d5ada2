use Rattle.std.proofs.Common.{◌∙◌, sym, ap, refl}
use Rattle.std.proofs.lemmas.List.Folds.{list_all-append}
use Rattle.ac_terms.proofs.ReadLaws.{expr_of-Tuple, expr_of-Seq, expr_of-Prim}
use Rattle.ac_terms.proofs.TermForms.{expr_of-Int, expr_of-Bool, expr_of-Str, expr_of-Unit, expr_of-Exn, expr_of-ExnOf, expr_of-Nil, expr_of-Empty, expr_of-Present, expr_of-Cons, expr_of-Var, expr_of-Own, expr_of-Ref, expr_of-Lam, expr_of-Rec, expr_of-App, expr_of-Let, expr_of-If, expr_of-Match, expr_of-Try, expr_of-Raise, expr_of-Marshal, expr_of-Unmarshal, expr_of-Val}
use Rattle.ac_terms.proofs.ValueForms.{value_of-Int, value_of-Bool, value_of-Str, value_of-Unit, value_of-Exn, value_of-Tuple, value_of-List, value_of-Absent, value_of-Present, value_of-Fun}
use Rattle.ac_terms.specs.declared.term.PVal.TheVariants.{Present}
use Rattle.ac_terms_renumber.proofs.WalkLaws.{of_term, of_value, both_so, alone}
use Rattle.ac_terms_renumber.proofs.terms.+term.Goals as goal

pub term_passes-returns-in-Int : goal.term_passes-returns-in-Int
term_passes-returns-in-Int g t c = of_term _ _ _ _ _ c.in-Int.is (expr_of-Int _) refl

pub term_passes-returns-in-Bool : goal.term_passes-returns-in-Bool
term_passes-returns-in-Bool g t c = of_term _ _ _ _ _ c.in-Bool.is (expr_of-Bool _) refl

pub term_passes-returns-in-Str : goal.term_passes-returns-in-Str
term_passes-returns-in-Str g t c = of_term _ _ _ _ _ c.in-Str.is (expr_of-Str _) refl

pub term_passes-returns-in-Unit : goal.term_passes-returns-in-Unit
term_passes-returns-in-Unit g t c = of_term _ _ _ _ _ c.in-Unit.is expr_of-Unit refl

pub term_passes-returns-in-ExnVal : goal.term_passes-returns-in-ExnVal
term_passes-returns-in-ExnVal g t c = of_term _ _ _ _ _ c.in-ExnVal.is (expr_of-Exn _) refl

pub term_passes-returns-in-ExnOf : goal.term_passes-returns-in-ExnOf
term_passes-returns-in-ExnOf g t c = of_term _ _ _ _ _ c.in-ExnOf.is (expr_of-ExnOf _ _) c.boxed_passes.ensures

pub term_passes-returns-in-Tuple : goal.term_passes-returns-in-Tuple
term_passes-returns-in-Tuple g t c = of_term _ _ _ _ _ c.in-Tuple.is (expr_of-Tuple _) c.terms_pass.ensures

pub term_passes-returns-in-Nil : goal.term_passes-returns-in-Nil
term_passes-returns-in-Nil g t c = of_term _ _ _ _ _ c.in-Nil.is (expr_of-Nil _) (alone c.passes_type.ensures)

pub term_passes-returns-in-Empty : goal.term_passes-returns-in-Empty
term_passes-returns-in-Empty g t c = of_term _ _ _ _ _ c.in-Empty.is (expr_of-Empty _) (alone c.passes_type-in-Empty.ensures)

pub term_passes-returns-in-Present : goal.term_passes-returns-in-Present
term_passes-returns-in-Present g t c = of_term _ _ _ _ _ c.in-Present.is (expr_of-Present _) c.boxed_passes-in-Present.ensures

pub term_passes-returns-in-Cons : goal.term_passes-returns-in-Cons
term_passes-returns-in-Cons g t c = of_term _ _ _ _ _ c.in-Cons.is (expr_of-Cons _ _) (rw list_all-append (both_so c.boxed_passes-in-Cons.ensures c.boxed_passes-in-Cons-2.ensures))

pub term_passes-returns-in-Var : goal.term_passes-returns-in-Var
term_passes-returns-in-Var g t c = of_term _ _ _ _ _ c.in-Var.is (expr_of-Var _) refl

pub term_passes-returns-in-Own : goal.term_passes-returns-in-Own
term_passes-returns-in-Own g t c = of_term _ _ _ _ _ c.in-Own.is (expr_of-Own _) refl

pub term_passes-returns-in-Ref : goal.term_passes-returns-in-Ref
term_passes-returns-in-Ref g t c = of_term _ _ _ _ _ c.in-Ref.is (expr_of-Ref _ _) (alone c.passes_reference.ensures)

pub term_passes-returns-in-Lam : goal.term_passes-returns-in-Lam
term_passes-returns-in-Lam g t c = of_term _ _ _ _ _ c.in-Lam.is (expr_of-Lam _ _) (both_so c.passes_type-in-Lam.ensures c.boxed_passes-in-Lam.ensures)

pub term_passes-returns-in-Raise : goal.term_passes-returns-in-Raise
term_passes-returns-in-Raise g t c = of_term _ _ _ _ _ c.in-Raise.is (expr_of-Raise _ _) (both_so c.passes_type-in-Raise.ensures c.boxed_passes-in-Raise.ensures)

pub term_passes-returns-in-Unmarshal : goal.term_passes-returns-in-Unmarshal
term_passes-returns-in-Unmarshal g t c = of_term _ _ _ _ _ c.in-Unmarshal.is (expr_of-Unmarshal _ _) (both_so c.passes_type-in-Unmarshal.ensures c.boxed_passes-in-Unmarshal.ensures)

pub term_passes-returns-in-Rec : goal.term_passes-returns-in-Rec
term_passes-returns-in-Rec g t c = of_term _ _ _ _ _ c.in-Rec.is (expr_of-Rec _ _ _) (both_so c.passes_type-in-Rec.ensures (both_so c.passes_type-in-Rec-2.ensures c.boxed_passes-in-Rec.ensures))

pub term_passes-returns-in-App : goal.term_passes-returns-in-App
term_passes-returns-in-App g t c = of_term _ _ _ _ _ c.in-App.is (expr_of-App _ _) (rw list_all-append (both_so c.boxed_passes-in-App.ensures c.boxed_passes-in-App-2.ensures))

pub term_passes-returns-in-Let : goal.term_passes-returns-in-Let
term_passes-returns-in-Let g t c = of_term _ _ _ _ _ c.in-Let.is (expr_of-Let _ _ _) (rw list_all-append (both_so (both_so c.passes_type-in-Let.ensures c.boxed_passes-in-Let.ensures) c.boxed_passes-in-Let-2.ensures))

pub term_passes-returns-in-Marshal : goal.term_passes-returns-in-Marshal
term_passes-returns-in-Marshal g t c = of_term _ _ _ _ _ c.in-Marshal.is (expr_of-Marshal _ _ _) (rw list_all-append (both_so (both_so c.passes_type-in-Marshal.ensures c.boxed_passes-in-Marshal.ensures) c.boxed_passes-in-Marshal-2.ensures))

pub term_passes-returns-in-If : goal.term_passes-returns-in-If
term_passes-returns-in-If g t c = of_term _ _ _ _ _ c.in-If.is (expr_of-If _ _ _) (simp list_all-append (both_so (both_so c.boxed_passes-in-If.ensures c.boxed_passes-in-If-2.ensures) c.boxed_passes-in-If-3.ensures))

pub term_passes-returns-in-Seq : goal.term_passes-returns-in-Seq
term_passes-returns-in-Seq g t c = of_term _ _ _ _ _ c.in-Seq.is (expr_of-Seq _) c.terms_pass-in-Seq.ensures

pub term_passes-returns-in-Match : goal.term_passes-returns-in-Match
term_passes-returns-in-Match g t c = of_term _ _ _ _ _ c.in-Match.is (expr_of-Match _ _) (rw list_all-append (both_so c.boxed_passes-in-Match.ensures c.arms_pass.ensures))

pub term_passes-returns-in-Try : goal.term_passes-returns-in-Try
term_passes-returns-in-Try g t c = of_term _ _ _ _ _ c.in-Try.is (expr_of-Try _ _) (rw list_all-append (both_so c.boxed_passes-in-Try.ensures c.arms_pass-in-Try.ensures))

pub term_passes-returns-in-Prim : goal.term_passes-returns-in-Prim
term_passes-returns-in-Prim g t c = of_term _ _ _ _ _ c.in-Prim.is (expr_of-Prim _ _) c.terms_pass-in-Prim.ensures

pub term_passes-returns-in-Val : goal.term_passes-returns-in-Val
term_passes-returns-in-Val g t c = of_term _ _ _ _ _ c.in-Val.is (expr_of-Val _ _) (both_so c.passes_type-in-Val.ensures (both_so c.passes_captured.ensures c.value_passes.ensures))

pub value_passes-returns-in-Int : goal.value_passes-returns-in-Int
value_passes-returns-in-Int g t c = of_value _ _ _ _ _ c.in-Int.is (value_of-Int _) refl

pub value_passes-returns-in-Bool : goal.value_passes-returns-in-Bool
value_passes-returns-in-Bool g t c = of_value _ _ _ _ _ c.in-Bool.is (value_of-Bool _) refl

pub value_passes-returns-in-Str : goal.value_passes-returns-in-Str
value_passes-returns-in-Str g t c = of_value _ _ _ _ _ c.in-Str.is (value_of-Str _) refl

pub value_passes-returns-in-Unit : goal.value_passes-returns-in-Unit
value_passes-returns-in-Unit g t c = of_value _ _ _ _ _ c.in-Unit.is value_of-Unit refl

pub value_passes-returns-in-Exn : goal.value_passes-returns-in-Exn
value_passes-returns-in-Exn g t c = of_value _ _ _ _ _ c.in-Exn.is (value_of-Exn _) refl

pub value_passes-returns-in-Tuple : goal.value_passes-returns-in-Tuple
value_passes-returns-in-Tuple g t c = of_value _ _ _ _ _ c.in-Tuple.is (value_of-Tuple _) c.values_pass.ensures

pub value_passes-returns-in-List : goal.value_passes-returns-in-List
value_passes-returns-in-List g t c = of_value _ _ _ _ _ c.in-List.is (value_of-List _) c.values_pass-in-List.ensures

pub value_passes-returns-in-Absent : goal.value_passes-returns-in-Absent
value_passes-returns-in-Absent g t c = of_value _ _ _ _ _ c.in-Absent.is value_of-Absent refl

pub value_passes-returns-in-Present : goal.value_passes-returns-in-Present
value_passes-returns-in-Present g t c = of_value _ _ _ _ _ (c.in-Present.is ∙ ap Present (sym c.deref.ensures)) (value_of-Present _) c.value_passes.ensures

pub value_passes-returns-in-Fun : goal.value_passes-returns-in-Fun
value_passes-returns-in-Fun g t c = of_value _ _ _ _ _ c.in-Fun.is (value_of-Fun _ _) (both_so c.passes_home.ensures c.boxed_passes.ensures)
