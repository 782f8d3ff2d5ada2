use Rattle.std.proofs.Common.{List, length, ap, subst, ◌∙◌}
use Rattle.std.proofs.lemmas.Result.{err_from_is_err_and}
use Rattle.ac_lexer.specs.declared.tokens.Token.{Token}
use Rattle.ac_syntax.specs.Signs.{Sign, signs}
use Rattle.ac_syntax.specs.Programs.{IsModule}
use Rattle.ac_syntax.specs.ReadSigns.{read_signs}
use Rattle.ac_syntax.proofs.OnStop.{on_syntax_more}
use Rattle.ac_parser.specs.inner.ProgramParsing.{NoProgramTree}
use Rattle.ac_syntax.specs.Texts.{FaultAt}
use Rattle.ac_parser.proofs.TextLaws.{fault_of, unread_fault}
use Rattle.ac_parser.proofs.texts.parse_module.Goals as goal

pub returns-in_err-found-clause-fault : goal.returns-in_err-found-clause-fault
returns-in_err-found-clause-fault c =
    let p = err_from_is_err_and c.from_residual.result c.from_residual.ensures.1 in
    rw (p.1, p.2) (unread_fault IsModule _ _ c.in_err-found.ensures.fault)

pub returns-clause-fault : goal.returns-clause-fault
returns-clause-fault c =
    let all = ap read_signs c.as_slice-2.ensures.value ∙ c.in_ok-all.ensures ∙ ap signs c.as_slice.ensures in
    fault_of IsModule _ _ _ _ c.in_ok-found.ensures.read (subst (λ (l : List Token). FaultAt l (length c.args.bytes.now) c.in-Err.stop c.fault.result) c.as_slice-in-Err.ensures c.fault.ensures)
    (on_syntax_more _ (λ (none : NoProgramTree IsModule (read_signs c.as_slice-2.result.now)). subst (λ (l : List Sign). NoProgramTree IsModule l) all none) c.in-Err.ensures)
