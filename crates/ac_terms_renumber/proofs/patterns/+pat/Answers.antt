use Rattle.std.proofs.Common.{refl}
use Rattle.std.proofs.lemmas.List.Folds.{list_all-append}
use Rattle.ac_terms.proofs.PatternForms.{pattern_of-Wild, pattern_of-Var, pattern_of-Int, pattern_of-Bool, pattern_of-Str, pattern_of-Unit, pattern_of-Tuple, pattern_of-Nil, pattern_of-Cons, pattern_of-Absent, pattern_of-Present, pattern_of-Exn, pattern_of-ExnOf}
use Rattle.ac_terms_renumber.proofs.WalkLaws.{of_pattern, both_so, alone}
use Rattle.ac_terms_renumber.proofs.patterns.+pat.Goals as goal

pub pattern_passes-returns-in-Wild : goal.pattern_passes-returns-in-Wild
pattern_passes-returns-in-Wild g t c = of_pattern _ _ _ _ _ c.in-Wild.is pattern_of-Wild refl

pub pattern_passes-returns-in-Var : goal.pattern_passes-returns-in-Var
pattern_passes-returns-in-Var g t c = of_pattern _ _ _ _ _ c.in-Var.is (pattern_of-Var _) (alone c.passes_type.ensures)

pub pattern_passes-returns-in-Int : goal.pattern_passes-returns-in-Int
pattern_passes-returns-in-Int g t c = of_pattern _ _ _ _ _ c.in-Int.is (pattern_of-Int _) refl

pub pattern_passes-returns-in-Bool : goal.pattern_passes-returns-in-Bool
pattern_passes-returns-in-Bool g t c = of_pattern _ _ _ _ _ c.in-Bool.is (pattern_of-Bool _) refl

pub pattern_passes-returns-in-Str : goal.pattern_passes-returns-in-Str
pattern_passes-returns-in-Str g t c = of_pattern _ _ _ _ _ c.in-Str.is (pattern_of-Str _) refl

pub pattern_passes-returns-in-Unit : goal.pattern_passes-returns-in-Unit
pattern_passes-returns-in-Unit g t c = of_pattern _ _ _ _ _ c.in-Unit.is pattern_of-Unit refl

pub pattern_passes-returns-in-Tuple : goal.pattern_passes-returns-in-Tuple
pattern_passes-returns-in-Tuple g t c = of_pattern _ _ _ _ _ c.in-Tuple.is (pattern_of-Tuple _) c.patterns_pass.ensures

pub pattern_passes-returns-in-Nil : goal.pattern_passes-returns-in-Nil
pattern_passes-returns-in-Nil g t c = of_pattern _ _ _ _ _ c.in-Nil.is pattern_of-Nil refl

pub pattern_passes-returns-in-Cons : goal.pattern_passes-returns-in-Cons
pattern_passes-returns-in-Cons g t c = of_pattern _ _ _ _ _ c.in-Cons.is (pattern_of-Cons _ _) (rw list_all-append (both_so c.boxed_passes.ensures c.boxed_passes-in-Cons.ensures))

pub pattern_passes-returns-in-Absent : goal.pattern_passes-returns-in-Absent
pattern_passes-returns-in-Absent g t c = of_pattern _ _ _ _ _ c.in-Absent.is pattern_of-Absent refl

pub pattern_passes-returns-in-Present : goal.pattern_passes-returns-in-Present
pattern_passes-returns-in-Present g t c = of_pattern _ _ _ _ _ c.in-Present.is (pattern_of-Present _) c.boxed_passes-in-Present.ensures

pub pattern_passes-returns-in-Exn : goal.pattern_passes-returns-in-Exn
pattern_passes-returns-in-Exn g t c = of_pattern _ _ _ _ _ c.in-Exn.is (pattern_of-Exn _) refl

pub pattern_passes-returns-in-ExnOf : goal.pattern_passes-returns-in-ExnOf
pattern_passes-returns-in-ExnOf g t c = of_pattern _ _ _ _ _ c.in-ExnOf.is (pattern_of-ExnOf _ _) c.boxed_passes-in-ExnOf.ensures
