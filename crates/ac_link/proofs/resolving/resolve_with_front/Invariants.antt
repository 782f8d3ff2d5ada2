use Rattle.std.proofs.Common.{◌≡◌, drop, map, true, None}
use Rattle.ac_types.specs.Partial.{first_some}
use Rattle.ac_types.specs.Sigs.{HereAlready}
use Rattle.ac_types.specs.ReadTypes.{resolve_of}
use Rattle.ac_terms.specs.Read.{import_of_code, environment_of}
use Rattle.ac_rules.specs.Links.{gives, linked}
use Rattle.ac_link.specs.LinkFaults.{when_of}
use Rattle.ac_link.proofs.resolving.resolve_with_front.Given as goal

abbrev pub invariant-loop-atom : goal.invariant-loop-atom
invariant-loop-atom l =
    let given = gives (environment_of l.env) (import_of_code l.import) (when_of l.when) in
    record {
      left :
          linked (environment_of l.env) (import_of_code l.import) (when_of l.when)
          ≡ first_some (map given (map resolve_of (drop l.atom-index l.import.by)));
      none : l.looked ≡ true → given HereAlready ≡ None;
    }
