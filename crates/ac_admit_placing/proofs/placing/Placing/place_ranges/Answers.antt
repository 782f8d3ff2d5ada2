use Rattle.std.proofs.Common.{◌∙◌, sym, ap, true, Some, None}
use Rattle.sha2.specs.Sha256.{sha256}
use Rattle.ac_terms.specs.Defs.{AnImport}
use Rattle.ac_terms.specs.Read.{environment_of, import_of_code}
use Rattle.ac_rules.specs.Packets.{put, found_or_put, place_ranges}
use Rattle.ac_admit_placing.specs.Placed.{state_of}
use Rattle.ac_admit_placing.proofs.BoundLaws.{few_specs}
use Rattle.ac_admit_placing.proofs.placing.Placing.place_ranges.Goals as goal

pub resolve_with_front-requires-clause-specs : goal.resolve_with_front-requires-clause-specs
resolve_with_front-requires-clause-specs c = few_specs c.args.i.now c.requires.fits

pub returns-in_ok-put-in-None-clause-placed : goal.returns-in_ok-put-in-None-clause-placed
returns-in_ok-put-in-None-clause-placed c =
    let s = state_of (environment_of c.args.site.env.now) c.args.self.now in
    c.in_ok-put-in-None.ensures.put ∙ ap (λ x. put sha256 s (AnImport (import_of_code x)) None true) c.in_ok-copy.ensures
    ∙ sym (ap (place_ranges sha256 s (import_of_code c.args.i.now)) (sym c.resolve_with_front.ensures ∙ c.in-None.is))

pub returns-in_ok-find_or_put-in-Some-clause-placed : goal.returns-in_ok-find_or_put-in-Some-clause-placed
returns-in_ok-find_or_put-in-Some-clause-placed c =
    let s = state_of (environment_of c.args.site.env.now) c.args.self.now in
    c.in_ok-find_or_put-in-Some.ensures.placed ∙ ap (λ x. found_or_put sha256 s (AnImport (import_of_code x)) (Some c.in-Some.j)) c.in_ok-copy.ensures
    ∙ sym (ap (place_ranges sha256 s (import_of_code c.args.i.now)) (sym c.resolve_with_front.ensures ∙ c.in-Some.is))
