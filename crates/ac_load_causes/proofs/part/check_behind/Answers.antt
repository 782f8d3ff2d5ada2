use Rattle.std.proofs.Common.{◌≡◌, ◌∙◌, sym, ap, Some, None}
use Rattle.std.specs.Prelude.{option_map}
use Rattle.ac_terms.specs.Read.{environment_of}
use Rattle.ac_load_rules.specs.Causes.{Clash}
use Rattle.ac_load_causes.specs.inner.Named.{clash}
use Rattle.ac_load_causes.proofs.Orders.{tells_first, second_told, third_told, fourth_told, last_is}
use Rattle.ac_load_causes.proofs.part.check_behind.Goals as goal

pub returns-in-Some-clause-refused : goal.returns-in-Some-clause-refused
returns-in-Some-clause-refused c = tells_first c.in-Some.fault _ _ c.in-Some.ensures

pub returns-in-Some-asked_behind-clause-refused : goal.returns-in-Some-asked_behind-clause-refused
returns-in-Some-asked_behind-clause-refused c = second_told (environment_of c.args.env.now) c.args.front c.in-Some-asked_behind.fault c.in_default.ensures c.in-Some-asked_behind.ensures

pub returns-in-Some-asked_behind-2-clause-refused : goal.returns-in-Some-asked_behind-2-clause-refused
returns-in-Some-asked_behind-2-clause-refused c =
    third_told (environment_of c.args.env.now) c.args.front c.in-Some-asked_behind-2.fault c.in_default.ensures c.in_default-asked_behind.ensures c.in-Some-asked_behind-2.ensures

pub returns-in-Some-asked_behind-3-clause-refused : goal.returns-in-Some-asked_behind-3-clause-refused
returns-in-Some-asked_behind-3-clause-refused c =
    fourth_told (environment_of c.args.env.now) c.args.front c.in-Some-asked_behind-3.fault c.in_default.ensures c.in_default-asked_behind.ensures c.in_default-asked_behind-2.ensures c.in-Some-asked_behind-3.ensures

pub returns-in-Some-2-clause-refused : goal.returns-in-Some-2-clause-refused
returns-in-Some-2-clause-refused c =
    last_is (environment_of c.args.env.now) c.args.front (Some (Clash c.in-Some-2.first c.in-Some-2.second))
    c.in_default.ensures c.in_default-asked_behind.ensures c.in_default-asked_behind-2.ensures c.in_default-asked_behind-3.ensures
    (ap (option_map clash) (sym c.in-Some-2.is) ∙ c.in_ok-first.ensures)

pub returns-in-None-clause-sound : goal.returns-in-None-clause-sound
returns-in-None-clause-sound c =
    last_is (environment_of c.args.env.now) c.args.front None
    c.in_default.ensures c.in_default-asked_behind.ensures c.in_default-asked_behind-2.ensures c.in_default-asked_behind-3.ensures
    (ap (option_map clash) (sym c.in-None.is) ∙ c.in_ok-first.ensures)
