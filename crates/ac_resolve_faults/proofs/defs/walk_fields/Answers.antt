use Rattle.std.proofs.Common.{◌≡◌, ◌∙◌, ap, sym, refl, arith, length, map, List}
use Rattle.ac_syntax.specs.declared.surface.SField.{SField}
use Rattle.ac_syntax.specs.ReadTrees.{field_tree_of}
use Rattle.ac_resolve_signatures.specs.declared.flaws.Flaws.{Flaws}
use Rattle.ac_resolve_signatures.specs.Joined.{flaws_joined}
use Rattle.ac_resolve_signatures.specs.KnownScopes.{KnownScope}
use Rattle.ac_resolve_faults.specs.inner.DefFlaws.{past_field, field_flaws}
use Rattle.ac_resolve_signatures.specs.SigFlaws.{flaws_in}
use Rattle.ac_resolve_signatures.specs.Reads.{known_in}
use Rattle.ac_resolve_signatures.proofs.Leasts.{next_item, last_part}
use Rattle.ac_resolve_faults.proofs.defs.walk_fields.Goals as goal

abbrev of_all : KnownScope → List SField → Flaws
of_all K xs = flaws_in past_field field_flaws K (map field_tree_of xs)

pub loop-field-init : goal.loop-field-init
loop-field-init c = ap (λ K. of_all K c.args.fields.now) (sym c.new-scan.ensures) ∙ ap (λ (f : Flaws). flaws_joined f (of_all (known_in c.new-scan.result) c.args.fields.now)) (sym c.none-found.ensures)

pub loop-field-preserved : goal.loop-field-preserved
loop-field-preserved c =
    next_item of_all (λ K x. field_flaws K (field_tree_of x)) (λ K x. past_field K (field_tree_of x)) (λ K x xs. refl) known_in c.loop-field.scan c.walk_field.new.scan _ c.loop-field.found _ _ _ _ _ c.loop-field-test.true c.field-item.is c.loop-field.invariant c.in_ok-here.ensures.flaws c.in_ok-here.ensures.scan c.join-found.ensures

pub returns : goal.returns
returns c = let e : c.loop-field.field-index ≡ length c.args.fields.now = omega arith in last_part (of_all (known_in c.loop-field.scan)) _ c.loop-field.found _ _ refl e c.loop-field.invariant
