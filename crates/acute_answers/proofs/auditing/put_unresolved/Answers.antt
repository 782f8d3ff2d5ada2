use Rattle.std.proofs.Common.{◌≡◌, ◌∙◌, ◌++◌, codes, ap, append_assoc}
use Rattle.std.proofs.lemmas.Result.{IfOk-weaker}
use Rattle.ac_types.specs.Types.{Bytes}
use Rattle.acute_answers.proofs.auditing.put_unresolved.Goals as goal

pub returns : goal.returns
returns c =
    let before : Bytes = c.args.lines.now.0 in
    let word : c.as_slice.result.now ≡ c.args.name.now = c.as_slice.ensures ∙ c.text.ensures.bytes in
    IfOk-weaker c.extend-2.result _ _
    (λ u added.
    added ∙ ap (λ (b : Bytes). b ++ c.as_slice.result.now) c.in_ok-extend.ensures.ok ∙ append_assoc before (codes "unresolved ") c.as_slice.result.now
    ∙ ap (λ (w : Bytes). before ++ (codes "unresolved " ++ w)) word)
    c.extend-2.ensures.ok
