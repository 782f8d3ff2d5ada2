use Rattle.std.proofs.Common.{◌≡◌, ◌∙◌, ap, refl, arith, not, length}
use Rattle.ac_resolve_signatures.specs.Reads.{contains_name}
use Rattle.ac_resolve_signatures.proofs.Lookups.{nothing_has}
use Rattle.ac_resolve_signatures.proofs.Repeats.{has_one_more, again_once_more, again_all, all_seen}
use Rattle.ac_resolve_signatures.proofs.named.list_names.Goals as goal

pub loop-name-init : goal.loop-name-init
loop-name-init c = record { seen = λ x. nothing_has c.new-words.result c.new-words.ensures.empty x; first = refl }

pub loop-name-preserved : goal.loop-name-preserved
loop-name-preserved c = record {
  seen = has_one_more (contains_name c.loop-name.words) _ _ _ _ c.loop-name-test.true c.loop-name.invariant.seen c.in_ok-added.ensures.updates.0;
  first =
      again_once_more _ c.loop-name.repeated c.unless-again.result c.least-repeated.result _ _ _ _ c.loop-name-test.true c.loop-name.invariant.first (c.in_ok-added.ensures.added ∙ ap not (c.loop-name.invariant.seen _)) c.unless-again.ensures c.least-repeated.ensures;
}

pub returns : goal.returns
returns c =
    let e : c.loop-name.name-index ≡ length c.args.names.now = omega arith in
    record {
      words = all_seen (contains_name c.loop-name.words) _ _ e c.loop-name.invariant.seen;
      repeated = again_all _ _ _ _ e c.loop-name.invariant.first;
    }
