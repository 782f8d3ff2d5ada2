use Rattle.std.proofs.Common.{IfSome, sym, subst}
use Rattle.lens_explain.specs.Verdicts.{SaysVerdict}
use Rattle.lens_explain.specs.declared.heading.Form.{Form}
use Rattle.lens_explain.proofs.heading.Heading.headed.Goals as goal

pub returns-in-Lines : goal.returns-in-Lines
returns-in-Lines c = subst (λ (f : Form). IfSome c.in_lines.result (SaysVerdict f c.args.verdict)) (sym c.in-Lines.is) c.in_lines.ensures

pub returns-in-Json : goal.returns-in-Json
returns-in-Json c = subst (λ (f : Form). IfSome c.in_json.result (SaysVerdict f c.args.verdict)) (sym c.in-Json.is) c.in_json.ensures
