use Rattle.std.proofs.Common.{◌≡◌, ◌∙◌, sym, ap, subst, map, drop}
use Rattle.std.specs.List.{list_all}
use Rattle.ac_terms.specs.Defs.{Entry, Environment}
use Rattle.ac_terms.specs.Read.{environment_of, entry_of}
use Rattle.ac_load_rules.specs.Causes.{first_at}
use Rattle.ac_load_rules.specs.Counted.{has_counted}
use Rattle.ac_load_causes.specs.PartCauses.{Finds}
use Rattle.ac_load_causes.specs.inner.Asked.{asked}
use Rattle.ac_load_causes.proofs.Firsts.{rest_read, rest_counted}
use Rattle.ac_load_causes.proofs.asked.asked_behind.Goals as goal

pub first_asked-requires-clause-counted : goal.first_asked-requires-clause-counted
first_asked-requires-clause-counted c = rest_counted has_counted c.args.env.now.entries c.entries.result.now c.args.front c.entries.ensures c.requires.counted

pub returns : goal.returns
returns c =
    subst (λ (es : Environment). Finds c.first_asked.result (first_at 0 (asked c.args.question) es)) (rest_read c.args.env.now.entries c.entries.result.now c.args.front c.entries.ensures) c.first_asked.ensures
