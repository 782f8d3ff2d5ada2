-- The scopes of the code as the variables in them.
use Rattle.std.specs.Prelude.{List, [], ◌∷◌, map}
use Rattle.ac_types.specs.Types.{Bytes}
use Rattle.ac_resolve_scopes.specs.Scopes.{scope_with}
use Rattle.ac_resolve_faults.specs.declared.scope.VariableScope.{VariableScope, fold-VariableScope}
use Rattle.ac_resolve_faults.specs.declared.scope.VariableScope.TheOpen.{VariableScope-F}
use Rattle.ac_resolve_signatures.specs.Reads.{named}

-- the variables in scope, the newest first
abbrev pub scope_layer : VariableScope-F (List Bytes) → List Bytes
scope_layer VariableScope-F.Empty = []
scope_layer (VariableScope-F.Inner outer name) = name.now.word ∷ outer.now
scope_layer (VariableScope-F.Arm outer names) = scope_with (map named names.now) outer.now

unfoldable pub variables_in : VariableScope → List Bytes
variables_in = fold-VariableScope (List Bytes) scope_layer
