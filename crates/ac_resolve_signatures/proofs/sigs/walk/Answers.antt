use Rattle.std.proofs.Common.{◌≡◌, ◌∙◌, ap, sym, refl, arith, length, map, List}
use Rattle.std.specs.Option.{option_or}
use Rattle.ac_syntax.specs.declared.surface.SSpec.{SSpec}
use Rattle.ac_syntax.specs.ReadTrees.{spec_of}
use Rattle.ac_resolve_scopes.specs.Standard.{beside_name}
use Rattle.ac_resolve_signatures.specs.declared.flaws.Flaws.{Flaws}
use Rattle.ac_resolve_signatures.specs.Joined.{flaws_joined}
use Rattle.ac_resolve_signatures.specs.KnownScopes.{KnownScope}
use Rattle.ac_resolve_signatures.specs.SigFlaws.{past_spec, spec_flaws, flaws_in, spec_sizes}
use Rattle.ac_resolve_signatures.specs.Reads.{under, known_in}
use Rattle.ac_resolve_signatures.proofs.Leasts.{next_item, last_part}
use Rattle.ac_resolve_signatures.proofs.Lookups.{nothing_under, next_sizes, last_sizes}
use Rattle.ac_resolve_signatures.proofs.sigs.walk.Goals as goal

abbrev of_all : KnownScope → List SSpec → Flaws
of_all K xs = flaws_in past_spec spec_flaws K (map spec_of xs)

pub loop-spec-init : goal.loop-spec-init
loop-spec-init c = record {
  wrong = ap (λ K. of_all K c.args.specs.now) (sym c.new-scan.ensures) ∙ ap (λ (f : Flaws). flaws_joined f (of_all (known_in c.new-scan.result) c.args.specs.now)) (sym c.none-flaws.ensures);
  sizes =
      λ t. ap (λ o. option_or o (beside_name t (spec_sizes (known_in c.new-scan.result) (map spec_of c.args.specs.now)))) (nothing_under c.new-types.result c.new-types.ensures.empty t)
      ∙ ap (λ K. beside_name t (spec_sizes K (map spec_of c.args.specs.now))) c.new-scan.ensures;
}

pub loop-spec-preserved : goal.loop-spec-preserved
loop-spec-preserved c = record {
  wrong =
      next_item of_all (λ K x. spec_flaws K (spec_of x)) (λ K x. past_spec K (spec_of x)) (λ K x xs. refl) known_in c.loop-spec.scan c.walk_spec.new.scan _ c.loop-spec.flaws _ _ _ _ _ c.loop-spec-test.true c.spec-item.is c.loop-spec.invariant.wrong c.in_ok-here.ensures.flaws c.in_ok-here.ensures.scan c.join-flaws.ensures;
  sizes = λ t. next_sizes (under c.loop-spec.types t) _ (known_in c.loop-spec.scan) _ t _ _ _ _ c.loop-spec-test.true c.spec-item.is (c.loop-spec.invariant.sizes t) c.in_ok-here.ensures.scan (c.in_ok-here.ensures.types t);
}

pub returns : goal.returns
returns c =
    let e : c.loop-spec.spec-index ≡ length c.args.specs.now = omega arith in
    record {
      flaws = last_part (of_all (known_in c.loop-spec.scan)) _ c.loop-spec.flaws _ _ refl e c.loop-spec.invariant.wrong;
      types = λ t. last_sizes (under c.loop-spec.types t) (known_in c.loop-spec.scan) t _ _ _ e (c.loop-spec.invariant.sizes t);
    }
