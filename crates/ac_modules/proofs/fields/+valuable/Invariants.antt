use Rattle.std.proofs.Common.{◌≡◌, drop, map}
use Rattle.ac_terms.specs.Terms.{exprs}
use Rattle.ac_terms.specs.Read.{expr_of}
use Rattle.ac_rules.specs.Modules.{are_valuable}
use Rattle.ac_modules.proofs.fields.+valuable.Given as goal

abbrev pub invariant-are_valuable-loop-t : goal.invariant-are_valuable-loop-t
invariant-are_valuable-loop-t l = are_valuable (exprs (map expr_of l.terms)) ≡ are_valuable (exprs (map expr_of (drop l.t-index l.terms)))
