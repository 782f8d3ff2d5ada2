use Rattle.std.proofs.Common.{◌≡◌, ◌∙◌, sym, ap, subst, true, ℕ, Option}
use Rattle.std.specs.Prelude.{is_some}
use Rattle.ac_terms.specs.Read.{environment_of, import_of_code}
use Rattle.ac_rules.specs.Links.{When, linked}
use Rattle.ac_rules.proofs.Wider.{linked_moved}
use Rattle.ac_link.specs.Fronts.{IsFront}
use Rattle.ac_link.proofs.ArrivedLaws.{rebound}
use Rattle.ac_link.proofs.FrontLaws.{whole_front}
use Rattle.ac_link.proofs.resolving.resolve.Goals as goal

pub resolve_with_front-requires-clause-front : goal.resolve_with_front-requires-clause-front
resolve_with_front-requires-clause-front c = subst (IsFront (environment_of c.args.env.now)) (sym c.len.ensures) (whole_front c.args.env.now)

pub returns-clause-rebound : goal.returns-clause-rebound
returns-clause-rebound c = λ F differ in_packet by_version.
    let E = environment_of c.args.env.now in let i = import_of_code c.args.import.now in
    c.resolve_with_front.ensures ∙ ap (λ (w : When). linked E i w) in_packet ∙ rebound E F i differ by_version

pub returns-clause-widened : goal.returns-clause-widened
returns-clause-widened c = λ F widens coherent in_packet some.
    let E = environment_of c.args.env.now in let i = import_of_code c.args.import.now in
    let here = c.resolve_with_front.ensures ∙ ap (λ (w : When). linked E i w) in_packet in
    linked_moved E F widens coherent i (subst (λ (o : Option ℕ). is_some o ≡ true) here some)
