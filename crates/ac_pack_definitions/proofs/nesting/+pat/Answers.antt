use Rattle.std.proofs.Common.{rules}
use Rattle.ac_pack_definitions.proofs.NestingLaws.{pattern_laws}
use Rattle.ac_pack_definitions.proofs.nesting.+pat.Goals as goal

pub pattern_nests-returns-in-Wild : goal.pattern_nests-returns-in-Wild
pattern_nests-returns-in-Wild t c = search (rules, pattern_laws)

pub pattern_nests-returns-in-Var : goal.pattern_nests-returns-in-Var
pattern_nests-returns-in-Var t c = search (rules, pattern_laws)

pub pattern_nests-returns-in-Int : goal.pattern_nests-returns-in-Int
pattern_nests-returns-in-Int t c = search (rules, pattern_laws)

pub pattern_nests-returns-in-Bool : goal.pattern_nests-returns-in-Bool
pattern_nests-returns-in-Bool t c = search (rules, pattern_laws)

pub pattern_nests-returns-in-Str : goal.pattern_nests-returns-in-Str
pattern_nests-returns-in-Str t c = search (rules, pattern_laws)

pub pattern_nests-returns-in-Unit : goal.pattern_nests-returns-in-Unit
pattern_nests-returns-in-Unit t c = search (rules, pattern_laws)

pub pattern_nests-returns-in-Tuple : goal.pattern_nests-returns-in-Tuple
pattern_nests-returns-in-Tuple t c = search (rules, pattern_laws)

pub pattern_nests-returns-in-Nil : goal.pattern_nests-returns-in-Nil
pattern_nests-returns-in-Nil t c = search (rules, pattern_laws)

pub pattern_nests-returns-in-Cons : goal.pattern_nests-returns-in-Cons
pattern_nests-returns-in-Cons t c = search (rules, pattern_laws)

pub pattern_nests-returns-in-Absent : goal.pattern_nests-returns-in-Absent
pattern_nests-returns-in-Absent t c = search (rules, pattern_laws)

pub pattern_nests-returns-in-Present : goal.pattern_nests-returns-in-Present
pattern_nests-returns-in-Present t c = search (rules, pattern_laws)

pub pattern_nests-returns-in-Exn : goal.pattern_nests-returns-in-Exn
pattern_nests-returns-in-Exn t c = search (rules, pattern_laws)

pub pattern_nests-returns-in-ExnOf : goal.pattern_nests-returns-in-ExnOf
pattern_nests-returns-in-ExnOf t c = search (rules, pattern_laws)
