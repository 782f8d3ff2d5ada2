use Rattle.std.proofs.Common.{◌≡◌, length, drop, Some}
use Rattle.ac_terms.specs.Read.{home_of}
use Rattle.ac_rules.specs.Typing.{variables_joined}
use Rattle.ac_check_views.specs.Sites.{entries_of}
use Rattle.ac_check_terms.specs.inner.Parts.{newest_first}
use Rattle.ac_check_terms.proofs.PatternLaws.{vars_of_all}
use Rattle.ac_check_terms.proofs.patterns.+patterns.Given as goal

abbrev pub invariant-all_variables-loop-i : goal.invariant-all_variables-loop-i
invariant-all_variables-loop-i l = record {
  lengths : length l.pats ≡ length l.tys;
  left :
      variables_joined (Some (newest_first l.initial.found)) (vars_of_all (entries_of l.site) (home_of l.site.home) l.pats l.tys)
      ≡ variables_joined (Some (newest_first l.found)) (vars_of_all (entries_of l.site) (home_of l.site.home) (drop l.i l.pats) (drop l.i l.tys));
}
