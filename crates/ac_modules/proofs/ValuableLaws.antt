-- Whether a term computes nothing, by what it is at the top.
use Rattle.std.proofs.Common.{◌≡◌, sym, ap, ◌∙◌}
use Rattle.ac_terms.specs.Terms.{Expr}
use Rattle.ac_terms.specs.Read.{expr_of}
use Rattle.ac_terms.specs.declared.term.Term.{Term}
use Rattle.ac_rules.specs.Modules.{is_valuable}

pub valued : (t u : Term) (e : Expr) → t ≡ u → expr_of u ≡ e → is_valuable e ≡ is_valuable (expr_of t)
valued t u e is reads = sym (ap is_valuable (ap expr_of is ∙ reads))
