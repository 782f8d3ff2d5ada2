use Rattle.std.proofs.Common.{ap, List}
use Rattle.ac_types.specs.Types.{Bytes}
use Rattle.ac_resolve_scopes.specs.Scopes.{NameScope}
use Rattle.ac_resolve_names.specs.Fronts.{outer_of, scope_of}
use Rattle.ac_resolve_names.proofs.VariableForms.{names_in-Inner}
use Rattle.ac_resolve_names.proofs.outer.Scope.under.Goals as goal

pub returns : goal.returns
unfolding scope_of
returns c = ap (λ (v : List Bytes). let S : NameScope = record (outer_of c.args.self.now.outer.now) { variables = v } in S) (names_in-Inner _ _)
