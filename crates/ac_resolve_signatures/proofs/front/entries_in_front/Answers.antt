use Rattle.std.proofs.Common.{◌≡◌, ap, refl, arith, length, map, List, Option}
use Rattle.ac_types.specs.Types.{Bytes}
use Rattle.ac_terms.specs.declared.def.Entry as code
use Rattle.ac_terms.specs.Read.{entry_of, def_of_code}
use Rattle.ac_resolve_signatures.specs.KnownScopes.{Members}
use Rattle.ac_resolve_signatures.specs.EntriesInFront.{past_entry, past_entries}
use Rattle.ac_resolve_signatures.specs.Reads.{externals_of}
use Rattle.ac_types.proofs.Loops.{next_fold, last_fold}
use Rattle.ac_resolve_signatures.proofs.Lookups.{nothing_outside}
use Rattle.ac_resolve_signatures.proofs.front.entries_in_front.Goals as goal

abbrev of_all : (Bytes → Option Members) → List code.Entry → Bytes → Option Members
of_all outer es = past_entries outer (map entry_of es)

pub loop-entry-init : goal.loop-entry-init
loop-entry-init c = ap (λ outer. of_all outer c.args.entries.now) (nothing_outside c.new-externals.result c.new-externals.ensures.empty)

pub loop-entry-preserved : goal.loop-entry-preserved
loop-entry-preserved c =
    next_fold of_all (λ outer e. past_entry outer (def_of_code e.def)) (λ outer e es. refl) _ (externals_of c.loop-entry.externals) _ _ _ _ c.loop-entry-test.true c.entry-item.is c.loop-entry.invariant c.in_ok-put_entry.ensures

pub returns : goal.returns
returns c = let e : c.loop-entry.entry-index ≡ length c.args.entries.now = omega arith in last_fold of_all _ (externals_of c.loop-entry.externals) _ _ e c.loop-entry.invariant
