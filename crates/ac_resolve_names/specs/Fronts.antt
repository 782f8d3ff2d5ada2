-- The scopes that the code keeps, as those of the definitions.
use Rattle.std.specs.Prelude.{[], map}
use Rattle.ac_types.specs.Types.{Bytes, Typ}
use Rattle.ac_types.specs.ReadTypes.{typ_of}
use Rattle.ac_types.specs.declared.ty.Ty.{Ty}
use Rattle.ac_terms.specs.Read.{environment_of}
use Rattle.ac_resolve_scopes.specs.Scopes.{NameScope, scope_behind}
use Rattle.ac_resolve_names.specs.declared.front.Front.{Front}
use Rattle.ac_resolve_names.specs.declared.outer.Outer.{Outer}
use Rattle.ac_resolve_names.specs.declared.outer.Scope.{Scope}
use Rattle.ac_resolve_names.specs.inner.Places.{word_of}
use Rattle.ac_resolve_names.specs.inner.VariableNames.{names_in}

unfoldable pub front_of : Front → NameScope
front_of f = record (scope_behind (environment_of f.env)) { externals = f.externals }

-- a type with its name, read
abbrev pub read_named_type : Bytes × Ty → Bytes × Typ
read_named_type e = (e.0, typ_of e.1)

unfoldable pub outer_of : Outer → NameScope
outer_of o = record {
  entries = environment_of o.env.now;
  externals = o.externals.now;
  types = map read_named_type o.types;
  fields = map word_of o.fields;
  variables = [];
}

unfoldable pub scope_of : Scope → NameScope
scope_of s = record (outer_of s.outer.now) { variables = names_in s.variables }
