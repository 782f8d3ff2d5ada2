use Rattle.std.proofs.Common.{◌≡◌, ◌∙◌, ap, sym, refl, arith, length, map, List}
use Rattle.ac_syntax.specs.declared.surface.SAbbrev.{SAbbrev}
use Rattle.ac_syntax.specs.ReadTrees.{abbrev_of}
use Rattle.ac_resolve_signatures.specs.declared.flaws.Flaws.{Flaws}
use Rattle.ac_resolve_signatures.specs.Joined.{flaws_joined}
use Rattle.ac_resolve_signatures.specs.KnownScopes.{KnownScope}
use Rattle.ac_resolve_signatures.specs.SigFlaws.{past_abbrev, abbrev_flaws, flaws_in}
use Rattle.ac_resolve_signatures.specs.Reads.{known_in}
use Rattle.ac_resolve_signatures.proofs.Leasts.{next_item, last_part}
use Rattle.ac_resolve_faults.proofs.defs.walk_like.Goals as goal

abbrev of_all : KnownScope → List SAbbrev → Flaws
of_all K xs = flaws_in past_abbrev abbrev_flaws K (map abbrev_of xs)

pub loop-alias-init : goal.loop-alias-init
loop-alias-init c = ap (λ K. of_all K c.args.like.now) (sym c.new-scan.ensures) ∙ ap (λ (f : Flaws). flaws_joined f (of_all (known_in c.new-scan.result) c.args.like.now)) (sym c.none-found.ensures)

pub loop-alias-preserved : goal.loop-alias-preserved
loop-alias-preserved c =
    next_item of_all (λ K x. abbrev_flaws K (abbrev_of x)) (λ K x. past_abbrev K (abbrev_of x)) (λ K x xs. refl) known_in c.loop-alias.scan c.walk_abbrev.new.scan _ c.loop-alias.found _ _ _ _ _ c.loop-alias-test.true c.alias-item.is c.loop-alias.invariant c.in_ok-here.ensures.flaws c.in_ok-here.ensures.scan c.join-found.ensures

pub returns : goal.returns
returns c = let e : c.loop-alias.alias-index ≡ length c.args.like.now = omega arith in last_part (of_all (known_in c.loop-alias.scan)) _ c.loop-alias.found _ _ refl e c.loop-alias.invariant
