-- What is wrong with patterns, by what is known of a scope.
use Rattle.ac_types.specs.Limits.{widest_tuple}
use Rattle.ac_syntax.specs.Trees.{PatTree, PatWild, PatVar, PatInt, PatBool, PatStr, PatUnit, PatTuple, PatNil, PatCons, PatAbsent, PatPresent, PatExn, PatExnOf, PatTrees, no_pat_trees, pat_tree}
use Rattle.ac_resolve_scopes.specs.Counts.{over, pat_count}
use Rattle.ac_resolve_signatures.specs.declared.flaws.Flaws.{Flaws}
use Rattle.ac_resolve_signatures.specs.Joined.{no_flaws, counts, flaws_joined}
use Rattle.ac_resolve_signatures.specs.KnownScopes.{KnownScope}
use Rattle.ac_resolve_signatures.specs.TypeFlaws.{type_flaws}

-- of a pattern, but for its repetitions
abbrev mutual
  pub pat_flaws : KnownScope → PatTree → Flaws
  pat_flaws K (PatWild at) = no_flaws
  pat_flaws K (PatVar at name ty) = type_flaws K ty
  pat_flaws K (PatInt at n) = no_flaws
  pat_flaws K (PatBool at b) = no_flaws
  pat_flaws K (PatStr at text) = no_flaws
  pat_flaws K (PatUnit at) = no_flaws
  pat_flaws K (PatTuple at parts) = flaws_joined (counts (over widest_tuple (pat_count parts))) (pats_flaws K parts)
  pat_flaws K (PatNil at) = no_flaws
  pat_flaws K (PatCons at head tail) = flaws_joined (pat_flaws K head) (pat_flaws K tail)
  pat_flaws K (PatAbsent at) = no_flaws
  pat_flaws K (PatPresent at item) = pat_flaws K item
  pat_flaws K (PatExn at number) = no_flaws
  pat_flaws K (PatExnOf at number item) = pat_flaws K item

  pub pats_flaws : KnownScope → PatTrees → Flaws
  pats_flaws K no_pat_trees = no_flaws
  pats_flaws K (pat_tree p ps) = flaws_joined (pat_flaws K p) (pats_flaws K ps)
