use Rattle.std.proofs.Common.{◌≡◌, drop, map}
use Rattle.ac_types.specs.ReadTypes.{typed_of}
use Rattle.ac_closure.specs.inner.Chosen.{with_types}
use Rattle.ac_closure.specs.inner.Forms.{types_beside}
use Rattle.ac_closure.specs.inner.Names.{entry_named}
use Rattle.ac_closure.proofs.forms.add_typed.Given as goal

abbrev pub invariant-loop-one : goal.invariant-loop-one
invariant-loop-one l = with_types (entry_named l.names) l.set (types_beside (map typed_of (drop l.one-index l.typed))) ≡ with_types (entry_named l.names) l.initial.set (types_beside (map typed_of l.typed))
