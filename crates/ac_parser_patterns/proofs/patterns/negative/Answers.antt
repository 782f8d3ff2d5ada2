use Rattle.std.proofs.Common.{rules, ◌∷◌, ◌∙◌, ap, sym, subst, w64, ℤ, FitsSigned}
use Rattle.std.proofs.lemmas.Int.{to_z-of_z}
use Rattle.ac_syntax.specs.Signs.{Fixed}
use Rattle.ac_syntax.specs.Trees.{PatInt}
use Rattle.ac_syntax.specs.ReadSigns.{read_signs}
use Rattle.ac_syntax.specs.ReadTrees.{pat_of}
use Rattle.ac_syntax.specs.declared.sign.Symbol.TheVariants.{Minus}
use Rattle.ac_syntax.specs.declared.surface.SPatKind.{Int}
use Rattle.ac_syntax.specs.declared.surface.SPatKind.TheViews.{roll-SPat}
use Rattle.ac_syntax.proofs.OnStop.{refused}
use Rattle.ac_parser_patterns.specs.PatternPieces.{PatLeafAt}
use Rattle.ac_parser_patterns.proofs.PatLaws.{pat_of-Int}
use Rattle.ac_parser_patterns.proofs.PatSteps.{negative_leaf, negative_none}
use Rattle.ac_parser_patterns.proofs.patterns.negative.Goals as goal

pub returns-in_default : goal.returns-in_default
returns-in_default c = refused _ _ c.refused_at.ensures (negative_none _ _ c.in_default.ensures)

pub returns : goal.returns
returns c =
    let f : FitsSigned w64 c.in_ok-negated.field-0 = search rules in
    record {
      found = subst (λ (z : ℤ). PatLeafAt (Fixed c.args.at Minus ∷ read_signs c.args.signs.now) (pat_of (roll-SPat (record { at = c.args.at; kind = Int z }))) (read_signs c.in-Some.rest.now)) (sym (to_z-of_z w64 c.in_ok-negated.field-0 f))
          (negative_leaf _ _ _ _ _ c.in-Some.ensures.found (pat_of-Int c.args.at c.in_ok-negated.field-0 ∙ ap (PatInt c.args.at) c.in_ok-negated.ensures));
      shorter = c.in-Some.ensures.shorter;
    }
