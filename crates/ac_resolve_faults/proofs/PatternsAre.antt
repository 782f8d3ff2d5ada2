-- What is wrong with patterns by what is known is what is wrong with them in the scope.
use Rattle.std.proofs.Common.{◌≡◌, ap, refl, None}
use Rattle.ac_types.specs.Limits.{widest_tuple}
use Rattle.ac_syntax.specs.Trees.{PatTree, PatWild, PatVar, PatInt, PatBool, PatStr, PatUnit, PatTuple, PatNil, PatCons, PatAbsent, PatPresent, PatExn, PatExnOf, PatTrees, no_pat_trees, pat_tree}
use Rattle.ac_resolve_scopes.specs.Scopes.{NameScope}
use Rattle.ac_resolve_scopes.specs.Unbound.{unbound_pattern, unbound_patterns}
use Rattle.ac_resolve_scopes.specs.Counts.{over, large_pattern, large_patterns, pat_count}
use Rattle.ac_resolve_signatures.specs.declared.flaws.Flaws.{Flaws}
use Rattle.ac_resolve_signatures.specs.Joined.{counts, flaws_joined}
use Rattle.ac_resolve_signatures.specs.KnownScopes.{KnownScope}
use Rattle.ac_resolve_faults.specs.inner.PatFlaws.{pat_flaws, pats_flaws}
use Rattle.ac_resolve_signatures.proofs.Leasts.{both_joined}
use Rattle.ac_resolve_signatures.proofs.Knowing.{Knows}
use Rattle.ac_resolve_signatures.proofs.TypesAre.{type_flaws-are}

-- what is wrong with patterns in a scope
abbrev pub pattern_faults : NameScope → PatTree → Flaws
pattern_faults S p = record { unbound = unbound_pattern S p; repeated = None; count = large_pattern S p }

abbrev patterns_faults : NameScope → PatTrees → Flaws
patterns_faults S ps = record { unbound = unbound_patterns S ps; repeated = None; count = large_patterns S ps }

module _ (K : KnownScope) (S : NameScope) (k : Knows K S) where
  mutual
    pub pat_flaws-are : (p : PatTree) → pat_flaws K p ≡ pattern_faults S p
    pat_flaws-are (PatWild at) = refl
    pat_flaws-are (PatVar at name ty) = type_flaws-are K S k ty
    pat_flaws-are (PatInt at n) = refl
    pat_flaws-are (PatBool at b) = refl
    pat_flaws-are (PatStr at text) = refl
    pat_flaws-are (PatUnit at) = refl
    pat_flaws-are (PatTuple at ps) = ap (flaws_joined (counts (over widest_tuple (pat_count ps)))) (pats_flaws-are ps)
    pat_flaws-are (PatNil at) = refl
    pat_flaws-are (PatCons at p q) = both_joined _ _ _ _ (pat_flaws-are p) (pat_flaws-are q)
    pat_flaws-are (PatAbsent at) = refl
    pat_flaws-are (PatPresent at p) = pat_flaws-are p
    pat_flaws-are (PatExn at number) = refl
    pat_flaws-are (PatExnOf at number p) = pat_flaws-are p

    pats_flaws-are : (ps : PatTrees) → pats_flaws K ps ≡ patterns_faults S ps
    pats_flaws-are no_pat_trees = refl
    pats_flaws-are (pat_tree p ps) = both_joined _ _ _ _ (pat_flaws-are p) (pats_flaws-are ps)
