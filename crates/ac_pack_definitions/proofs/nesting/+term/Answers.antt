use Rattle.std.proofs.Common.{rules}
use Rattle.ac_pack_definitions.proofs.NestingLaws.{term_laws}
use Rattle.ac_pack_definitions.proofs.nesting.+term.Goals as goal

pub term_nests-returns-in-Int : goal.term_nests-returns-in-Int
term_nests-returns-in-Int t c = search (rules, term_laws)

pub term_nests-returns-in-Bool : goal.term_nests-returns-in-Bool
term_nests-returns-in-Bool t c = search (rules, term_laws)

pub term_nests-returns-in-Str : goal.term_nests-returns-in-Str
term_nests-returns-in-Str t c = search (rules, term_laws)

pub term_nests-returns-in-Unit : goal.term_nests-returns-in-Unit
term_nests-returns-in-Unit t c = search (rules, term_laws)

pub term_nests-returns-in-ExnVal : goal.term_nests-returns-in-ExnVal
term_nests-returns-in-ExnVal t c = search (rules, term_laws)

pub term_nests-returns-in-ExnOf : goal.term_nests-returns-in-ExnOf
term_nests-returns-in-ExnOf t c = search (rules, term_laws)

pub term_nests-returns-in-Tuple : goal.term_nests-returns-in-Tuple
term_nests-returns-in-Tuple t c = search (rules, term_laws)

pub term_nests-returns-in-Nil : goal.term_nests-returns-in-Nil
term_nests-returns-in-Nil t c = search (rules, term_laws)

pub term_nests-returns-in-Empty : goal.term_nests-returns-in-Empty
term_nests-returns-in-Empty t c = search (rules, term_laws)

pub term_nests-returns-in-Present : goal.term_nests-returns-in-Present
term_nests-returns-in-Present t c = search (rules, term_laws)

pub term_nests-returns-in-Cons : goal.term_nests-returns-in-Cons
term_nests-returns-in-Cons t c = search (rules, term_laws)

pub term_nests-returns-in-Var : goal.term_nests-returns-in-Var
term_nests-returns-in-Var t c = search (rules, term_laws)

pub term_nests-returns-in-Own : goal.term_nests-returns-in-Own
term_nests-returns-in-Own t c = search (rules, term_laws)

pub term_nests-returns-in-Ref : goal.term_nests-returns-in-Ref
term_nests-returns-in-Ref t c = search (rules, term_laws)

pub term_nests-returns-in-Lam : goal.term_nests-returns-in-Lam
term_nests-returns-in-Lam t c = search (rules, term_laws)

pub term_nests-returns-in-Rec : goal.term_nests-returns-in-Rec
term_nests-returns-in-Rec t c = search (rules, term_laws)

pub term_nests-returns-in-App : goal.term_nests-returns-in-App
term_nests-returns-in-App t c = search (rules, term_laws)

pub term_nests-returns-in-Let : goal.term_nests-returns-in-Let
term_nests-returns-in-Let t c = search (rules, term_laws)

pub term_nests-returns-in-If : goal.term_nests-returns-in-If
term_nests-returns-in-If t c = search (rules, term_laws)

pub term_nests-returns-in-Seq : goal.term_nests-returns-in-Seq
term_nests-returns-in-Seq t c = search (rules, term_laws)

pub term_nests-returns-in-Match : goal.term_nests-returns-in-Match
term_nests-returns-in-Match t c = search (rules, term_laws)

pub term_nests-returns-in-Try : goal.term_nests-returns-in-Try
term_nests-returns-in-Try t c = search (rules, term_laws)

pub term_nests-returns-in-Raise : goal.term_nests-returns-in-Raise
term_nests-returns-in-Raise t c = search (rules, term_laws)

pub term_nests-returns-in-Prim : goal.term_nests-returns-in-Prim
term_nests-returns-in-Prim t c = search (rules, term_laws)

pub term_nests-returns-in-Marshal : goal.term_nests-returns-in-Marshal
term_nests-returns-in-Marshal t c = search (rules, term_laws)

pub term_nests-returns-in-Unmarshal : goal.term_nests-returns-in-Unmarshal
term_nests-returns-in-Unmarshal t c = search (rules, term_laws)

pub term_nests-returns-in-Val : goal.term_nests-returns-in-Val
term_nests-returns-in-Val t c = search (rules, term_laws)

pub value_nests-returns-in-Int : goal.value_nests-returns-in-Int
value_nests-returns-in-Int t c = search (rules, term_laws)

pub value_nests-returns-in-Bool : goal.value_nests-returns-in-Bool
value_nests-returns-in-Bool t c = search (rules, term_laws)

pub value_nests-returns-in-Str : goal.value_nests-returns-in-Str
value_nests-returns-in-Str t c = search (rules, term_laws)

pub value_nests-returns-in-Unit : goal.value_nests-returns-in-Unit
value_nests-returns-in-Unit t c = search (rules, term_laws)

pub value_nests-returns-in-Exn : goal.value_nests-returns-in-Exn
value_nests-returns-in-Exn t c = search (rules, term_laws)

pub value_nests-returns-in-Tuple : goal.value_nests-returns-in-Tuple
value_nests-returns-in-Tuple t c = search (rules, term_laws)

pub value_nests-returns-in-List : goal.value_nests-returns-in-List
value_nests-returns-in-List t c = search (rules, term_laws)

pub value_nests-returns-in-Absent : goal.value_nests-returns-in-Absent
value_nests-returns-in-Absent t c = search (rules, term_laws)

pub value_nests-returns-in-Present : goal.value_nests-returns-in-Present
value_nests-returns-in-Present t c = search (rules, term_laws)

pub value_nests-returns-in-Fun : goal.value_nests-returns-in-Fun
value_nests-returns-in-Fun t c = search (rules, term_laws)
