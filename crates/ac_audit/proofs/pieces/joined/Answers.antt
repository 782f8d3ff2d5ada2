use Rattle.std.proofs.Common.{◌≡◌, ◌∙◌, ap, sym, subst, Some, List, [], ◌∷◌, ◌++◌, Result, append_assoc}
use Rattle.ac_types.specs.declared.memory.Memory.{Memory}
use Rattle.ac_audit.specs.declared.verdict.AuditVerdict.{AuditVerdict}
use Rattle.ac_audit.specs.inner.Pieces.{joined}
use Rattle.ac_audit.proofs.PieceLaws.{joined_more}
use Rattle.ac_audit.proofs.pieces.joined.Goals as goal

pub loop-piece-preserved : goal.loop-piece-preserved
loop-piece-preserved c =
    let done = c.loop-piece.yielded in
    let more : List AuditVerdict = c.in_ok-piece.field-0 in
    record {
      all = c.loop-piece.invariant.all ∙ ap (λ xs. done ++ xs) c.in-Some.ensures.steps.0 ∙ sym (append_assoc done (c.in-Some.piece ∷ []) c.next.new.self.rest.items);
      read =
          subst (λ (r : Result (List AuditVerdict) Memory). joined (done ++ r ∷ []) ≡ Some c.append.new.self.items) (sym c.in_ok-piece.was)
          (joined_more done c.loop-piece.all.items more c.loop-piece.invariant.read ∙ ap Some (sym (c.in_ok-append.ensures.items ∙ ap (λ (xs : List AuditVerdict). c.loop-piece.all.items ++ xs) c.into_vec-more.ensures)));
    }
