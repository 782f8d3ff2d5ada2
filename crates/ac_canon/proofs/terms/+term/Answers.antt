use Rattle.std.proofs.Common.{rules, ◌∙◌, sym, ap, ap₂}
use Rattle.std.specs.Int.{w64}
use Rattle.std.specs.Prelude.{FitsSigned}
use Rattle.std.proofs.lemmas.Int.{to_z-of_z}
use Rattle.ac_terms.specs.declared.term.Term.TheVariants as term
use Rattle.ac_terms.specs.declared.term.PVal.TheVariants as value
use Rattle.ac_terms.proofs.ReadLaws.{expr_of-Tuple, expr_of-Seq, expr_of-Prim}
use Rattle.ac_terms.proofs.TermForms.{expr_of-Int, expr_of-Bool, expr_of-Str, expr_of-Unit, expr_of-Exn, expr_of-ExnOf, expr_of-Nil, expr_of-Empty, expr_of-Present, expr_of-Cons, expr_of-Var, expr_of-Own, expr_of-Ref, expr_of-Lam, expr_of-Rec, expr_of-App, expr_of-Let, expr_of-If, expr_of-Match, expr_of-Try, expr_of-Raise, expr_of-Marshal, expr_of-Unmarshal, expr_of-Val}
use Rattle.ac_terms.proofs.ValueForms.{value_of-Int, value_of-Bool, value_of-Str, value_of-Unit, value_of-Exn, value_of-Tuple, value_of-List, value_of-Absent, value_of-Present, value_of-Fun}
use Rattle.ac_canon.proofs.Puts.{put_next, put_behind, put_two_behind, put_third, put_term_as, put_value_as}
use Rattle.ac_canon.proofs.ValueForms.{count_terms, count_arms, count_values}
use Rattle.ac_canon.proofs.terms.+term.Goals as goal

pub put_term-returns-in-Int : goal.put_term-returns-in-Int
put_term-returns-in-Int g t c =
    let n = c.in-Int.n in
    let fits : FitsSigned w64 n = search rules in
    put_term_as _ _ _ _ _ _ _ _ c.in-Int.is (expr_of-Int n) (rw (to_z-of_z w64 n fits) at c.put_int.ensures)

pub put_term-returns-in-Bool : goal.put_term-returns-in-Bool
put_term-returns-in-Bool g t c = put_term_as _ _ _ _ _ _ _ _ c.in-Bool.is (expr_of-Bool _) c.put_bool.ensures

pub put_term-returns-in-Str : goal.put_term-returns-in-Str
put_term-returns-in-Str g t c = put_term_as _ _ _ _ _ _ _ _ c.in-Str.is (expr_of-Str _) c.put_string.ensures

pub put_term-returns-in-Unit : goal.put_term-returns-in-Unit
put_term-returns-in-Unit g t c = put_term_as _ _ _ _ _ _ _ _ c.in-Unit.is expr_of-Unit c.put_u8.ensures.ok

pub put_term-returns-in-ExnVal : goal.put_term-returns-in-ExnVal
put_term-returns-in-ExnVal g t c = put_term_as _ _ _ _ _ _ _ _ c.in-ExnVal.is (expr_of-Exn _) (rw c.number.ensures at c.put_tagged_byte.ensures)

pub put_term-returns-in_ok-put_tagged_byte-in-ExnOf : goal.put_term-returns-in_ok-put_tagged_byte-in-ExnOf
put_term-returns-in_ok-put_tagged_byte-in-ExnOf g t c =
    put_term_as _ _ _ _ _ _ _ _ (c.in-ExnOf.is ∙ ap (term.ExnOf _) (sym c.deref.ensures)) (expr_of-ExnOf _ _)
    (put_behind _ _ _ _ _ _ (rw c.number-in-ExnOf.ensures at c.in_ok-put_tagged_byte-in-ExnOf.ensures) c.put_term.ensures)

pub put_term-returns-in-Tuple : goal.put_term-returns-in-Tuple
put_term-returns-in-Tuple g t c = put_term_as _ _ _ _ _ _ _ _ (c.in-Tuple.is ∙ ap term.Tuple (sym c.as_slice.ensures)) (expr_of-Tuple _) c.put_tuple.ensures

pub put_term-returns-in-Nil : goal.put_term-returns-in-Nil
put_term-returns-in-Nil g t c = put_term_as _ _ _ _ _ _ _ _ c.in-Nil.is (expr_of-Nil _) c.put_tagged_type.ensures

pub put_term-returns-in-Empty : goal.put_term-returns-in-Empty
put_term-returns-in-Empty g t c = put_term_as _ _ _ _ _ _ _ _ c.in-Empty.is (expr_of-Empty _) c.put_tagged_type-in-Empty.ensures

pub put_term-returns-in-Present : goal.put_term-returns-in-Present
put_term-returns-in-Present g t c = put_term_as _ _ _ _ _ _ _ _ (c.in-Present.is ∙ ap term.Present (sym c.deref-in-Present.ensures)) (expr_of-Present _) c.put_one.ensures

pub put_term-returns-in_ok-put_one-in-Cons : goal.put_term-returns-in_ok-put_one-in-Cons
put_term-returns-in_ok-put_one-in-Cons g t c =
    put_term_as _ _ _ _ _ _ _ _ (c.in-Cons.is ∙ ap₂ term.Cons (sym c.deref-in-Cons.ensures) (sym c.deref-in-Cons-2.ensures)) (expr_of-Cons _ _)
    (put_behind _ _ _ _ _ _ c.in_ok-put_one-in-Cons.ensures c.put_term-in-Cons.ensures)

pub put_term-returns-in-Var : goal.put_term-returns-in-Var
put_term-returns-in-Var g t c = put_term_as _ _ _ _ _ _ _ _ c.in-Var.is (expr_of-Var _) c.put_tagged_number.ensures

pub put_term-returns-in-Own : goal.put_term-returns-in-Own
put_term-returns-in-Own g t c = put_term_as _ _ _ _ _ _ _ _ c.in-Own.is (expr_of-Own _) c.put_tagged_number-in-Own.ensures

pub put_term-returns-in-Ref : goal.put_term-returns-in-Ref
put_term-returns-in-Ref g t c = put_term_as _ _ _ _ _ _ _ _ c.in-Ref.is (expr_of-Ref _ _) c.put_field_of.ensures

pub put_term-returns-in-Lam : goal.put_term-returns-in-Lam
put_term-returns-in-Lam g t c = put_term_as _ _ _ _ _ _ _ _ (c.in-Lam.is ∙ ap (term.Lam _) (sym c.deref-in-Lam.ensures)) (expr_of-Lam _ _) c.put_typed.ensures

pub put_term-returns-in-Rec : goal.put_term-returns-in-Rec
put_term-returns-in-Rec g t c = put_term_as _ _ _ _ _ _ _ _ (c.in-Rec.is ∙ ap (term.Rec _ _) (sym c.deref-in-Rec.ensures)) (expr_of-Rec _ _ _) c.put_recursive.ensures

pub put_term-returns-in_ok-put_one-in-App : goal.put_term-returns-in_ok-put_one-in-App
put_term-returns-in_ok-put_one-in-App g t c =
    put_term_as _ _ _ _ _ _ _ _ (c.in-App.is ∙ ap₂ term.App (sym c.deref-in-App.ensures) (sym c.deref-in-App-2.ensures)) (expr_of-App _ _)
    (put_behind _ _ _ _ _ _ c.in_ok-put_one-in-App.ensures c.put_term-in-App.ensures)

pub put_term-returns-in_ok-put_typed-in-Let : goal.put_term-returns-in_ok-put_typed-in-Let
put_term-returns-in_ok-put_typed-in-Let g t c =
    put_term_as _ _ _ _ _ _ _ _ (c.in-Let.is ∙ ap₂ (term.Let _) (sym c.deref-in-Let.ensures) (sym c.deref-in-Let-2.ensures)) (expr_of-Let _ _ _)
    (put_behind _ _ _ _ _ _ c.in_ok-put_typed-in-Let.ensures c.put_term-in-Let.ensures)

pub put_term-returns-in_ok-put_term-in-If : goal.put_term-returns-in_ok-put_term-in-If
put_term-returns-in_ok-put_term-in-If g t c =
    let test = c.in-If.is ∙ ap (λ x. term.If x c.in-If.so c.in-If.otherwise) (sym c.deref-in-If.ensures) in
    put_term_as _ _ _ _ _ _ _ _ (test ∙ ap₂ (term.If _) (sym c.deref-in-If-2.ensures) (sym c.deref-in-If-3.ensures)) (expr_of-If _ _ _)
    (put_third _ _ _ _ _ _ _ _ c.in_ok-put_one-in-If.ensures c.in_ok-put_term-in-If.ensures c.put_term-in-If-2.ensures)

pub put_term-returns-in-Seq : goal.put_term-returns-in-Seq
put_term-returns-in-Seq g t c = put_term_as _ _ _ _ _ _ _ _ (c.in-Seq.is ∙ ap term.Seq (sym c.as_slice-in-Seq.ensures)) (expr_of-Seq _) c.put_sequence.ensures

pub put_term-returns-in_ok-put_one-in-Match : goal.put_term-returns-in_ok-put_one-in-Match
put_term-returns-in_ok-put_one-in-Match g t c =
    put_term_as _ _ _ _ _ _ _ _ (c.in-Match.is ∙ ap₂ term.Match (sym c.deref-in-Match.ensures) (sym c.as_slice-in-Match.ensures)) (expr_of-Match _ _)
    (put_two_behind _ _ _ _ _ _ _ c.in_ok-put_one-in-Match.ensures (rw (sym (count_arms c.as_slice-in-Match.result.now)) at c.put_cases.ensures))

pub put_term-returns-in_ok-put_one-in-Try : goal.put_term-returns-in_ok-put_one-in-Try
put_term-returns-in_ok-put_one-in-Try g t c =
    put_term_as _ _ _ _ _ _ _ _ (c.in-Try.is ∙ ap₂ term.Try (sym c.deref-in-Try.ensures) (sym c.as_slice-in-Try.ensures)) (expr_of-Try _ _)
    (put_two_behind _ _ _ _ _ _ _ c.in_ok-put_one-in-Try.ensures (rw (sym (count_arms c.as_slice-in-Try.result.now)) at c.put_cases-in-Try.ensures))

pub put_term-returns-in-Raise : goal.put_term-returns-in-Raise
put_term-returns-in-Raise g t c = put_term_as _ _ _ _ _ _ _ _ (c.in-Raise.is ∙ ap (term.Raise _) (sym c.deref-in-Raise.ensures)) (expr_of-Raise _ _) c.put_typed-in-Raise.ensures

pub put_term-returns-in-Prim : goal.put_term-returns-in-Prim
put_term-returns-in-Prim g t c =
    put_term_as _ _ _ _ _ _ _ _ (c.in-Prim.is ∙ ap (term.Prim _) (sym c.as_slice-in-Prim.ensures)) (expr_of-Prim _ _) c.put_primitive.ensures

pub put_term-returns-in_ok-put_typed-in-Marshal : goal.put_term-returns-in_ok-put_typed-in-Marshal
put_term-returns-in_ok-put_typed-in-Marshal g t c =
    put_term_as _ _ _ _ _ _ _ _ (c.in-Marshal.is ∙ ap₂ (term.Marshal _) (sym c.deref-in-Marshal.ensures) (sym c.deref-in-Marshal-2.ensures)) (expr_of-Marshal _ _ _)
    (put_behind _ _ _ _ _ _ c.in_ok-put_typed-in-Marshal.ensures c.put_term-in-Marshal.ensures)

pub put_term-returns-in-Unmarshal : goal.put_term-returns-in-Unmarshal
put_term-returns-in-Unmarshal g t c = put_term_as _ _ _ _ _ _ _ _ (c.in-Unmarshal.is ∙ ap (term.Unmarshal _) (sym c.deref-in-Unmarshal.ensures)) (expr_of-Unmarshal _ _) c.put_typed-in-Unmarshal.ensures

pub put_term-returns-in-Val : goal.put_term-returns-in-Val
put_term-returns-in-Val g t c = put_term_as _ _ _ _ _ _ _ _ c.in-Val.is (expr_of-Val _ _) c.put_captured.ensures

pub put_one-returns : goal.put_one-returns
put_one-returns g t c = put_behind _ _ _ _ _ _ c.in_ok-put_u8.ensures.ok c.put_term.ensures

pub put_typed-returns : goal.put_typed-returns
put_typed-returns g t c = put_behind _ _ _ _ _ _ c.in_ok-put_tagged_type.ensures c.put_term.ensures

pub put_recursive-returns : goal.put_recursive-returns
put_recursive-returns g t c = put_third _ _ _ _ _ _ _ _ c.in_ok-put_tagged_type.ensures c.in_ok-put_type.ensures c.put_term.ensures

pub put_tuple-returns : goal.put_tuple-returns
put_tuple-returns g t c = put_third _ _ _ _ _ _ _ _ c.in_ok-put_u8.ensures.ok (rw (sym (count_terms c.args.parts.now)) at c.in_ok-put_count_u8.ensures) c.put_terms.ensures

pub put_sequence-returns : goal.put_sequence-returns
put_sequence-returns g t c = put_third _ _ _ _ _ _ _ _ c.in_ok-put_u8.ensures.ok (rw (sym (count_terms c.args.parts.now)) at c.in_ok-put_count_u32.ensures) c.put_terms.ensures

pub put_primitive-returns : goal.put_primitive-returns
put_primitive-returns g t c = put_behind _ _ _ _ _ _ (rw c.number.ensures at c.in_ok-put_tagged_byte.ensures) c.put_terms.ensures

pub put_cases-returns : goal.put_cases-returns
put_cases-returns g t c = put_next _ _ _ _ _ c.in_ok-put_count_u16.ensures c.put_arms.ensures

pub put_arm-returns : goal.put_arm-returns
put_arm-returns g t c = put_next _ _ _ _ _ c.in_ok-put_pattern.ensures c.put_term.ensures

pub put_captured-returns : goal.put_captured-returns
put_captured-returns g t c = put_behind _ _ _ _ _ _ c.in_ok-put_tagged_type.ensures c.put_value.ensures

pub put_value-returns-in-Int : goal.put_value-returns-in-Int
put_value-returns-in-Int g t c =
    let n = c.in-Int.n in
    let fits : FitsSigned w64 n = search rules in
    put_value_as _ _ _ _ _ _ _ _ c.in-Int.is (value_of-Int n) (rw (to_z-of_z w64 n fits) at c.put_int.ensures)

pub put_value-returns-in-Bool : goal.put_value-returns-in-Bool
put_value-returns-in-Bool g t c = put_value_as _ _ _ _ _ _ _ _ c.in-Bool.is (value_of-Bool _) c.put_bool.ensures

pub put_value-returns-in-Str : goal.put_value-returns-in-Str
put_value-returns-in-Str g t c = put_value_as _ _ _ _ _ _ _ _ c.in-Str.is (value_of-Str _) c.put_string.ensures

pub put_value-returns-in-Unit : goal.put_value-returns-in-Unit
put_value-returns-in-Unit g t c = put_value_as _ _ _ _ _ _ _ _ c.in-Unit.is value_of-Unit c.put_u8.ensures.ok

pub put_value-returns-in-Exn : goal.put_value-returns-in-Exn
put_value-returns-in-Exn g t c = put_value_as _ _ _ _ _ _ _ _ c.in-Exn.is (value_of-Exn _) c.put_exn.ensures

pub put_value-returns-in-Tuple : goal.put_value-returns-in-Tuple
put_value-returns-in-Tuple g t c = put_value_as _ _ _ _ _ _ _ _ (c.in-Tuple.is ∙ ap value.Tuple (sym c.as_slice.ensures)) (value_of-Tuple _) c.put_value_tuple.ensures

pub put_value-returns-in-List : goal.put_value-returns-in-List
put_value-returns-in-List g t c = put_value_as _ _ _ _ _ _ _ _ (c.in-List.is ∙ ap value.List (sym c.as_slice-in-List.ensures)) (value_of-List _) c.put_value_list.ensures

pub put_value-returns-in-Absent : goal.put_value-returns-in-Absent
put_value-returns-in-Absent g t c = put_value_as _ _ _ _ _ _ _ _ c.in-Absent.is value_of-Absent c.put_u8-in-Absent.ensures.ok

pub put_value-returns-in_ok-put_u8-in-Present : goal.put_value-returns-in_ok-put_u8-in-Present
put_value-returns-in_ok-put_u8-in-Present g t c =
    put_value_as _ _ _ _ _ _ _ _ (c.in-Present.is ∙ ap value.Present (sym c.deref.ensures)) (value_of-Present _) (put_behind _ _ _ _ _ _ c.in_ok-put_u8-in-Present.ensures.ok c.put_value.ensures)

pub put_value-returns-in_ok-put_home-in-Fun : goal.put_value-returns-in_ok-put_home-in-Fun
put_value-returns-in_ok-put_home-in-Fun g t c =
    put_value_as _ _ _ _ _ _ _ _ (c.in-Fun.is ∙ ap (value.Fun _) (sym c.deref-in-Fun.ensures)) (value_of-Fun _ _) (put_behind _ _ _ _ _ _ c.in_ok-put_home-in-Fun.ensures c.put_term.ensures)

pub put_value_tuple-returns : goal.put_value_tuple-returns
put_value_tuple-returns g t c = put_third _ _ _ _ _ _ _ _ c.in_ok-put_u8.ensures.ok (rw (sym (count_values c.args.parts.now)) at c.in_ok-put_count_u8.ensures) c.put_values.ensures

pub put_value_list-returns : goal.put_value_list-returns
put_value_list-returns g t c = put_third _ _ _ _ _ _ _ _ c.in_ok-put_u8.ensures.ok (rw (sym (count_values c.args.parts.now)) at c.in_ok-put_count_u32.ensures) c.put_values.ensures
