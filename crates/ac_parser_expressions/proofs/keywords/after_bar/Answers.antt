use Rattle.std.proofs.Common.{◌≡◌, List, ◌∷◌, refl}
use Rattle.ac_syntax.specs.Signs.{Sign, Fixed}
use Rattle.ac_syntax.specs.Expressions.{after_bar}
use Rattle.ac_syntax.specs.PartParsing.{NoSymbol}
use Rattle.ac_syntax.specs.declared.sign.Symbol.TheVariants.{Bar}
use Rattle.ac_parser_expressions.proofs.keywords.after_bar.Goals as goal

no_bar : (ts : List Sign) → NoSymbol Bar ts → ts ≡ after_bar ts
no_bar (Fixed a Bar ∷ ts) none' = absurd (none' ts (record { at = a; is = refl }))
no_bar ts none' = refl

pub returns-clause-found : goal.returns-clause-found
returns-clause-found c = no_bar _ c.in_default.ensures.found
