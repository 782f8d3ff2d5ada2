use Rattle.std.proofs.Common.{◌∙◌, ap, sym}
use Rattle.ac_resolve_scopes.specs.Written.{primitive_at}
use Rattle.ac_syntax.proofs.TreeLaws.{tree_of-Of}
use Rattle.ac_resolve_terms.proofs.term.primitive_at.Goals as goal

pub returns-in-Of : goal.returns-in-Of
returns-in-Of c = c.named.ensures ∙ ap primitive_at (sym (tree_of-Of _ _ _ c.in-Of.is))
