use Rattle.std.proofs.Common.{◌≡◌, ap, arith, length, map}
use Rattle.std.specs.Prelude.{option_map}
use Rattle.std.specs.Option.{option_or}
use Rattle.ac_types.specs.Sigs.{type_under}
use Rattle.ac_types.specs.ReadTypes.{sig_type_of}
use Rattle.ac_resolve_signatures.specs.EntriesInFront.{size_of_manifest}
use Rattle.ac_resolve_signatures.specs.Reads.{under}
use Rattle.ac_resolve_signatures.proofs.Lookups.{nothing_under, next_manifest, last_manifest}
use Rattle.ac_resolve_signatures.proofs.front.sizes_of.Goals as goal

pub loop-ty-init : goal.loop-ty-init
loop-ty-init c = λ t. ap (λ o. option_or o (option_map size_of_manifest (type_under t (map sig_type_of c.args.types.now)))) (nothing_under c.new-sizes.result c.new-sizes.ensures.empty t)

pub loop-ty-preserved : goal.loop-ty-preserved
loop-ty-preserved c = λ t. next_manifest t (under c.loop-ty.sizes t) _ _ _ _ _ _ c.loop-ty-test.true c.ty-item.is (c.loop-ty.invariant t) c.size_of.ensures (c.in_ok-keep_size.ensures t)

pub returns : goal.returns
returns c = let e : c.loop-ty.ty-index ≡ length c.args.types.now = omega arith in λ t. last_manifest t (under c.loop-ty.sizes t) _ _ _ e (c.loop-ty.invariant t)
