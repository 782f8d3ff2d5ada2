use Rattle.std.proofs.Common.{◌≡◌, ◌<◌, ◌*◌, ◌∙◌, ℕ, List, Some, map, length, get_or, take, drop, ap, sym, subst, arith}
use Rattle.std.specs.Arc.{arc_value}
use Rattle.std.specs.Prelude.{IfOk}
use Rattle.std.specs.declared.result.Result.{Result}
use Rattle.std.proofs.lemmas.Result.{IfOk-weaker}
use Rattle.ac_types.specs.Types.{Typ}
use Rattle.ac_types.specs.ReadTypes.{typ_of}
use Rattle.ac_types.specs.declared.memory.Memory.{Memory}
use Rattle.ac_types.specs.declared.text.Text.{Text}
use Rattle.ac_terms.specs.Defs.{Environment}
use Rattle.ac_terms.specs.Read.{bytes_of, entry_of, environment_of}
use Rattle.ac_audit.specs.FrameVerdicts.{HaveVerdicts}
use Rattle.ac_audit.specs.inner.Pieces.{joined}
use Rattle.ac_audit.specs.declared.verdict.AuditVerdict.{AuditVerdict}
use Rattle.ac_audit.proofs.PieceLaws.{all_read}
use Rattle.ac_audit.proofs.audit.audit_all.Goals as goal

pub returns : goal.returns
returns g c =
    let E : Environment = environment_of c.args.env.now in
    let D : Environment = map entry_of (arc_value c.in_ok-entries.field-0) in
    let T : Typ = typ_of c.args.expected.now in
    let ys : List Text = c.as_slice-frames.result.now in
    let size : ℕ = c.max-size.result in
    let rs : List (Result (List AuditVerdict) Memory) = c.in_ok-pieces.pieces.items in
    let same : D ≡ E = ap (map entry_of) (c.in_ok-entries.ensures.ok ∙ c.in_ok-copied.ensures ∙ c.entries.ensures) in
    let each : (k : ℕ) (d : Result (List AuditVerdict) Memory) → k < length rs → IfOk (get_or rs k d) (HaveVerdicts D T (map bytes_of (take size (drop (k * size) ys)))) =
    (λ k d lt. let h = (c.in_ok-pieces.ensures.each k d lt).1 in subst (λ (zs : List Text). IfOk (get_or rs k d) (HaveVerdicts D T (map bytes_of zs))) h.argument_is.value h.call) in
    let some : 0 < size = omega (arith, c.max-size.ensures) in
    IfOk-weaker c.joined.result (λ (vs : List AuditVerdict). joined rs ≡ Some vs) (HaveVerdicts E T (map bytes_of c.args.frames.now))
    (λ vs is.
    subst (λ (F : Environment). HaveVerdicts F T (map bytes_of c.args.frames.now) vs) same
    (subst (λ (zs : List Text). HaveVerdicts D T (map bytes_of zs) vs) c.as_slice-frames.ensures (all_read D T ys size rs vs some (sym c.in_ok-pieces.pieces.ok.0 ∙ c.in_ok-pieces.ensures.len) each is)))
    c.joined.ensures
