use Rattle.std.proofs.Common.{◌≡◌, ◌≤◌, length}
use Rattle.ac_terms.specs.Read.{import_of_code, environment_of}
use Rattle.ac_rules.specs.Links.{last_below}
use Rattle.ac_link.specs.inner.Candidates.{comes_from, is_candidate}
use Rattle.ac_link.proofs.resolving.latest_of_first.Given as goal

abbrev pub invariant-loop-j : goal.invariant-loop-j
invariant-loop-j l =
    let test = is_candidate (comes_from l.origin) (environment_of l.env) (import_of_code l.import) in
    record {
      within : l.j ≤ length l.env.entries;
      left : last_below test l.first ≡ last_below test l.j;
    }

abbrev pub decreases-loop-j : goal.decreases-loop-j
decreases-loop-j l = l.j
