use Rattle.lens_explain.proofs.Right.{refused_right}
use Rattle.lens_explain.proofs.module.explain_fault.Goals as goal

pub returns-clause-right : goal.returns-clause-right
returns-clause-right c = λ shelf h. refused_right c.args.text.now shelf h c.explain_subject.result c.explain_subject.ensures.refused
