use Rattle.std.proofs.Common.{◌≡◌, refl, arith, length, map, List}
use Rattle.ac_types.specs.declared.sig.Resolve as code
use Rattle.ac_types.specs.ReadTypes.{resolve_of}
use Rattle.ac_resolve_scopes.specs.Searches.{least_of}
use Rattle.ac_resolve_scopes.specs.Counts.{long_uri}
use Rattle.ac_resolve_signatures.specs.declared.flaws.Flaws.{Flaws}
use Rattle.ac_resolve_signatures.specs.Joined.{counts}
use Rattle.ac_resolve_signatures.proofs.Leasts.{next_part, last_part}
use Rattle.ac_resolve_faults.proofs.atoms.atom_flaws.Goals as goal

abbrev of_all : List code.Resolve → Flaws
of_all by = counts (least_of long_uri (map resolve_of by))

pub loop-resolve-preserved : goal.loop-resolve-preserved
loop-resolve-preserved c =
    next_part of_all (λ r. counts (long_uri (resolve_of r))) (λ r rs. refl) _ c.loop-resolve.found c.uri_flaws-here.result c.join-found.result _ _ _ c.loop-resolve-test.true c.resolve-item.is c.loop-resolve.invariant c.uri_flaws-here.ensures c.join-found.ensures

pub returns : goal.returns
returns c = let e : c.loop-resolve.resolve-index ≡ length c.args.by.now = omega arith in last_part of_all _ c.loop-resolve.found _ _ refl e c.loop-resolve.invariant
