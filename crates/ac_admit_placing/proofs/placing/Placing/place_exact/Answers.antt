use Rattle.std.proofs.Common.{◌∙◌, sym, ap, true, false, Some, None}
use Rattle.sha2.specs.Sha256.{sha256}
use Rattle.ac_terms.specs.Read.{environment_of}
use Rattle.ac_rules.specs.Packets.{place_exact}
use Rattle.ac_admit_placing.specs.Placed.{state_of}
use Rattle.ac_admit_placing.proofs.BoundLaws.{few_specs}
use Rattle.ac_admit_placing.proofs.StateLaws.{stays, stays_state}
use Rattle.ac_admit_placing.proofs.placing.Placing.place_exact.Goals as goal

pub resolve_with_front-requires-clause-specs : goal.resolve_with_front-requires-clause-specs
resolve_with_front-requires-clause-specs c = few_specs c.args.i.now c.requires.fits

pub returns-in_ok-stands-in-None-clause-sound : goal.returns-in_ok-stands-in-None-clause-sound
returns-in_ok-stands-in-None-clause-sound c =
    let s = c.in_ok-stands-in-None.ensures in
    stays (environment_of c.args.site.env.now) c.args.self.now c.stands.new.self c.requires.sound None true s.numbers s.places s.more s.keys

pub returns-in_ok-stands-in-None-clause-placed : goal.returns-in_ok-stands-in-None-clause-placed
returns-in_ok-stands-in-None-clause-placed c =
    let E = environment_of c.args.site.env.now in
    let s = c.in_ok-stands-in-None.ensures in
    stays_state E c.args.self.now c.stands.new.self c.requires.sound None true s.places s.more ∙ sym (ap (place_exact sha256 (state_of E c.args.self.now)) (sym c.resolve_with_front.ensures ∙ c.in-None.is))

pub returns-in_ok-stands-in-Some-clause-sound : goal.returns-in_ok-stands-in-Some-clause-sound
returns-in_ok-stands-in-Some-clause-sound c =
    let s = c.in_ok-stands-in-Some.ensures in
    stays (environment_of c.args.site.env.now) c.args.self.now c.stands-in-Some.new.self c.requires.sound (Some c.in-Some.j) false s.numbers s.places s.more s.keys

pub returns-in_ok-stands-in-Some-clause-placed : goal.returns-in_ok-stands-in-Some-clause-placed
returns-in_ok-stands-in-Some-clause-placed c =
    let E = environment_of c.args.site.env.now in
    let s = c.in_ok-stands-in-Some.ensures in
    stays_state E c.args.self.now c.stands-in-Some.new.self c.requires.sound (Some c.in-Some.j) false s.places s.more ∙ sym (ap (place_exact sha256 (state_of E c.args.self.now)) (sym c.resolve_with_front.ensures ∙ c.in-Some.is))
