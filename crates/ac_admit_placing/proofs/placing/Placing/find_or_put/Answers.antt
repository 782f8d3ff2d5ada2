use Rattle.std.proofs.Common.{◌≡◌, ◌∙◌, sym, false, Some, None}
use Rattle.ac_terms.specs.Read.{environment_of, def_of_code}
use Rattle.ac_rules.specs.Packets.{find_def}
use Rattle.ac_admit_placing.specs.Placed.{state_of}
use Rattle.ac_admit_placing.proofs.StateLaws.{stays_state, found_is, found_state, unfound_state}
use Rattle.ac_admit_placing.proofs.placing.Placing.find_or_put.Goals as goal

pub returns-in_ok-stands-in-Ok-Some-clause-placed : goal.returns-in_ok-stands-in-Ok-Some-clause-placed
returns-in_ok-stands-in-Ok-Some-clause-placed c =
    let E = environment_of c.args.site.env.now in
    let p = c.args.self.now in
    let d = def_of_code c.args.def in
    let s = c.in_ok-stands-in-Ok-Some.ensures in
    let k = c.in-Ok-Some.ensures in
    let at : find_def (state_of E p).0 d c.args.link ≡ Some c.in-Ok-Some.j = sym (found_is E p c.requires.sound d c.args.link c.requires.short k.0 k.1) ∙ sym k.2 ∙ c.in-Ok-Some.field-0-is in
    stays_state E p c.stands.new.self c.requires.sound (Some c.in-Ok-Some.j) false s.places s.more ∙ sym (found_state (state_of E p) d c.args.link c.in-Ok-Some.j at)

pub returns-in_ok-put-in-Ok-None-clause-placed : goal.returns-in_ok-put-in-Ok-None-clause-placed
returns-in_ok-put-in-Ok-None-clause-placed c =
    let E = environment_of c.args.site.env.now in
    let p = c.args.self.now in
    let d = def_of_code c.args.def in
    let k = c.in-Ok-None.ensures in
    let at : find_def (state_of E p).0 d c.args.link ≡ None = sym (found_is E p c.requires.sound d c.args.link c.requires.short k.0 k.1) ∙ sym k.2 ∙ c.in-Ok-None.field-0-is in
    c.in_ok-put-in-Ok-None.ensures.put ∙ sym (unfound_state (state_of E p) d c.args.link at)
