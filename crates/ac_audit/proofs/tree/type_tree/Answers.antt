use Rattle.std.proofs.Common.{List, length, subst}
use Rattle.std.proofs.lemmas.Result.{err_from_is_err_and}
use Rattle.ac_lexer.specs.declared.tokens.Token.{Token}
use Rattle.ac_syntax.specs.Signs.{signs}
use Rattle.ac_syntax.specs.PartParsing.{OnSyntax}
use Rattle.ac_syntax.specs.Texts.{FaultAt}
use Rattle.ac_audit.proofs.TreeLaws.{NoWholeType, fault_of, unread_fault}
use Rattle.ac_audit.proofs.tree.type_tree.Goals as goal

pub returns-in_err-found-clause-fault : goal.returns-in_err-found-clause-fault
returns-in_err-found-clause-fault c =
    let p = err_from_is_err_and c.from_residual.result c.from_residual.ensures.1 in
    rw (p.1, p.2) (unread_fault _ _ c.in_err-found.ensures.fault)

pub returns-clause-fault : goal.returns-clause-fault
returns-clause-fault c =
    fault_of _ _ _ _ c.in_ok-found.ensures.read
    (subst (λ (l : List Token). FaultAt l (length c.args.text.now) c.in-Err.stop c.fault.result) c.as_slice-in-Err.ensures c.fault.ensures)
    (subst (λ (l : List Token). OnSyntax c.in-Err.stop (NoWholeType (signs l))) c.as_slice.ensures c.in-Err.ensures.none)
