-- The equations of the reading of variables.
use Rattle.std.proofs.Common.{◌≡◌, ◌∙◌, ap, Bor, List, [], ◌∷◌, map}
use Rattle.ac_types.specs.Types.{Bytes}
use Rattle.ac_syntax.specs.declared.surface.SName.{SName}
use Rattle.ac_syntax.specs.ReadTrees.{name_of}
use Rattle.ac_resolve_scopes.specs.Scopes.{scope_with}
use Rattle.ac_resolve_names.specs.declared.variables.Variables.{Variables, out-Variables, map-Variables, fold_out-Variables}
use Rattle.ac_resolve_names.specs.declared.variables.Variables.TheOpen.{Variables-F}
use Rattle.ac_resolve_names.specs.declared.variables.Variables.TheVariants as variables
use Rattle.ac_resolve_names.specs.inner.VariableNames.{names_in, variables_layer}

variables_out : (s : Variables) → names_in s ≡ variables_layer (map-Variables Variables (List Bytes) names_in (out-Variables s))
unfolding names_in
variables_out s = fold_out-Variables (List Bytes) variables_layer s

abbrev one_layer : Variables-F Variables → List Bytes
one_layer x = variables_layer (map-Variables Variables (List Bytes) names_in x)

pub names_in-Empty : names_in variables.Empty ≡ []
names_in-Empty = variables_out variables.Empty ∙ ap one_layer variables.outs-Empty

pub names_in-Inner : (outer : Bor Variables) (name : Bor SName) → names_in (variables.Inner outer name) ≡ name.now.word ∷ names_in outer.now
names_in-Inner outer name = variables_out (variables.Inner outer name) ∙ ap one_layer (variables.outs-Inner outer name)

pub names_in-Arm : (outer : Bor Variables) (names : Bor (List SName)) → names_in (variables.Arm outer names) ≡ scope_with (map name_of names.now) (names_in outer.now)
names_in-Arm outer names = variables_out (variables.Arm outer names) ∙ ap one_layer (variables.outs-Arm outer names)

pub ruleset variable_laws = (names_in-Empty, names_in-Inner, names_in-Arm)
