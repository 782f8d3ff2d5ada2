use Rattle.std.proofs.Common.{rules, ◌∙◌, sym, ap, ap₂, length}
use Rattle.std.specs.Int.{w64}
use Rattle.std.specs.Prelude.{FitsSigned}
use Rattle.std.proofs.lemmas.Int.{to_z-of_z}
use Rattle.ac_terms.specs.declared.pat.Pat.TheVariants as pat
use Rattle.ac_terms.proofs.PatternForms.{pattern_of-Wild, pattern_of-Var, pattern_of-Int, pattern_of-Bool, pattern_of-Str, pattern_of-Unit, pattern_of-Tuple, pattern_of-Nil, pattern_of-Cons, pattern_of-Absent, pattern_of-Present, pattern_of-Exn, pattern_of-ExnOf}
use Rattle.ac_canon.proofs.PatternForms.{count_patterns}
use Rattle.ac_canon.proofs.Puts.{put_behind, put_third, put_pattern_as}
use Rattle.ac_canon.proofs.patterns.+pat.Goals as goal

pub put_pattern-returns-in-Wild : goal.put_pattern-returns-in-Wild
put_pattern-returns-in-Wild g t c = put_pattern_as _ _ _ _ _ _ _ c.in-Wild.is pattern_of-Wild c.put_u8.ensures.ok

pub put_pattern-returns-in_ok-put_u8-in-Var : goal.put_pattern-returns-in_ok-put_u8-in-Var
put_pattern-returns-in_ok-put_u8-in-Var g t c = put_pattern_as _ _ _ _ _ _ _ c.in-Var.is (pattern_of-Var _) (put_behind _ _ _ _ _ _ c.in_ok-put_u8-in-Var.ensures.ok c.put_type.ensures)

pub put_pattern-returns-in-Int : goal.put_pattern-returns-in-Int
put_pattern-returns-in-Int g t c =
    let n = c.in-Int.n in
    let fits : FitsSigned w64 n = search rules in
    put_pattern_as _ _ _ _ _ _ _ c.in-Int.is (pattern_of-Int n) (rw (to_z-of_z w64 n fits) at c.put_int.ensures)

pub put_pattern-returns-in-Bool : goal.put_pattern-returns-in-Bool
put_pattern-returns-in-Bool g t c = put_pattern_as _ _ _ _ _ _ _ c.in-Bool.is (pattern_of-Bool _) c.put_bool.ensures

pub put_pattern-returns-in-Str : goal.put_pattern-returns-in-Str
put_pattern-returns-in-Str g t c = put_pattern_as _ _ _ _ _ _ _ c.in-Str.is (pattern_of-Str _) c.put_string.ensures

pub put_pattern-returns-in-Unit : goal.put_pattern-returns-in-Unit
put_pattern-returns-in-Unit g t c = put_pattern_as _ _ _ _ _ _ _ c.in-Unit.is pattern_of-Unit c.put_u8-in-Unit.ensures.ok

pub put_pattern-returns-in_ok-put_count_u8-in-Tuple : goal.put_pattern-returns-in_ok-put_count_u8-in-Tuple
put_pattern-returns-in_ok-put_count_u8-in-Tuple g t c =
    let count = c.len.ensures ∙ sym (ap length c.as_slice.ensures) ∙ sym (count_patterns c.as_slice.result.now) in
    put_pattern_as _ _ _ _ _ _ _ (c.in-Tuple.is ∙ ap pat.Tuple (sym c.as_slice.ensures)) (pattern_of-Tuple _)
    (put_third _ _ _ _ _ _ _ _ c.in_ok-put_u8-in-Tuple.ensures.ok (rw count at c.in_ok-put_count_u8-in-Tuple.ensures) c.put_patterns.ensures)

pub put_pattern-returns-in-Nil : goal.put_pattern-returns-in-Nil
put_pattern-returns-in-Nil g t c = put_pattern_as _ _ _ _ _ _ _ c.in-Nil.is pattern_of-Nil c.put_u8-in-Nil.ensures.ok

pub put_pattern-returns-in_ok-put_pattern-in-Cons : goal.put_pattern-returns-in_ok-put_pattern-in-Cons
put_pattern-returns-in_ok-put_pattern-in-Cons g t c =
    put_pattern_as _ _ _ _ _ _ _ (c.in-Cons.is ∙ ap₂ pat.Cons (sym c.deref.ensures) (sym c.deref-in-Cons.ensures)) (pattern_of-Cons _ _)
    (put_third _ _ _ _ _ _ _ _ c.in_ok-put_u8-in-Cons.ensures.ok c.in_ok-put_pattern-in-Cons.ensures c.put_pattern-in-Cons.ensures)

pub put_pattern-returns-in-Absent : goal.put_pattern-returns-in-Absent
put_pattern-returns-in-Absent g t c = put_pattern_as _ _ _ _ _ _ _ c.in-Absent.is pattern_of-Absent c.put_u8-in-Absent.ensures.ok

pub put_pattern-returns-in_ok-put_u8-in-Present : goal.put_pattern-returns-in_ok-put_u8-in-Present
put_pattern-returns-in_ok-put_u8-in-Present g t c =
    put_pattern_as _ _ _ _ _ _ _ (c.in-Present.is ∙ ap pat.Present (sym c.deref-in-Present.ensures)) (pattern_of-Present _) (put_behind _ _ _ _ _ _ c.in_ok-put_u8-in-Present.ensures.ok c.put_pattern-in-Present.ensures)

pub put_pattern-returns-in-Exn : goal.put_pattern-returns-in-Exn
put_pattern-returns-in-Exn g t c = put_pattern_as _ _ _ _ _ _ _ c.in-Exn.is (pattern_of-Exn _) (rw c.number.ensures at c.put_tagged_byte.ensures)

pub put_pattern-returns-in_ok-put_tagged_byte-in-ExnOf : goal.put_pattern-returns-in_ok-put_tagged_byte-in-ExnOf
put_pattern-returns-in_ok-put_tagged_byte-in-ExnOf g t c =
    put_pattern_as _ _ _ _ _ _ _ (c.in-ExnOf.is ∙ ap (pat.ExnOf _) (sym c.deref-in-ExnOf.ensures)) (pattern_of-ExnOf _ _)
    (put_behind _ _ _ _ _ _ (rw c.number-in-ExnOf.ensures at c.in_ok-put_tagged_byte-in-ExnOf.ensures) c.put_pattern-in-ExnOf.ensures)
