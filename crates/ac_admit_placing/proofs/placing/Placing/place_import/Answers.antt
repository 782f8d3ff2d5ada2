use Rattle.std.proofs.Common.{◌∙◌, sym, ap}
use Rattle.ac_types.specs.ReadTypes.{constraint_of}
use Rattle.ac_terms.specs.Read.{environment_of, import_of_code}
use Rattle.ac_rules.specs.Links.{is_exact}
use Rattle.ac_admit_placing.specs.Placed.{state_of}
use Rattle.ac_admit_placing.proofs.StateLaws.{exact_state, ranges_state}
use Rattle.ac_admit_placing.proofs.placing.Placing.place_import.Goals as goal

pub returns-in_ok-place_ranges-in-Ranges-clause-placed : goal.returns-in_ok-place_ranges-in-Ranges-clause-placed
returns-in_ok-place_ranges-in-Ranges-clause-placed c =
    let E = environment_of c.args.site.env.now in
    c.in_ok-place_ranges-in-Ranges.ensures.placed ∙ sym (ranges_state E (state_of E c.args.self.now) (import_of_code c.args.i.now) (ap (λ x. is_exact (constraint_of x)) c.in-Ranges.is))

pub returns-in_ok-place_exact-in-Exact-clause-placed : goal.returns-in_ok-place_exact-in-Exact-clause-placed
returns-in_ok-place_exact-in-Exact-clause-placed c =
    let E = environment_of c.args.site.env.now in
    c.in_ok-place_exact-in-Exact.ensures.placed ∙ sym (exact_state E (state_of E c.args.self.now) (import_of_code c.args.i.now) (ap (λ x. is_exact (constraint_of x)) c.in-Exact.is))
