use Rattle.std.proofs.Common.{◌∙◌, subst, List, ℕ}
use Rattle.ac_types.specs.ReadTypes.{typ_of}
use Rattle.ac_terms.specs.Defs.{Environment}
use Rattle.ac_terms.specs.Read.{environment_of}
use Rattle.ac_audit.specs.FrameVerdicts.{HasVerdict}
use Rattle.ac_audit.proofs.PieceLaws.{more_read}
use Rattle.ac_audit.proofs.pieces.verdicts_in_turn.Goals as goal

pub loop-frame-preserved : goal.loop-frame-preserved
loop-frame-preserved c =
    let E = environment_of c.args.env.now in
    let T = typ_of c.args.expected.now in
    let v = c.in_ok-verdict.verdict in
    let l = c.loop-frame in
    record {
      same = c.frame_verdict.ensures.same ∙ l.invariant.same;
      read =
          more_read E T c.args.frames.now l.frame-index c.frame-item.result l.all v c.push.new.self c.loop-frame-test.true c.frame-item.is c.in_ok-push.ensures.ok l.invariant.read
          (subst (λ (F : Environment). HasVerdict F T c.frame-item.result.0 v) l.invariant.same
          (subst (λ (s : List ℕ). HasVerdict (environment_of l.env) T s v) c.as_slice.ensures c.in_ok-verdict.ensures.verdict));
    }
