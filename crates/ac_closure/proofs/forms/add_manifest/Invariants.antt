use Rattle.std.proofs.Common.{◌≡◌, drop, map}
use Rattle.ac_types.specs.ReadTypes.{sig_type_of}
use Rattle.ac_closure.specs.inner.Chosen.{with_types}
use Rattle.ac_closure.specs.inner.Forms.{manifest_types}
use Rattle.ac_closure.specs.inner.Names.{entry_named}
use Rattle.ac_closure.proofs.forms.add_manifest.Given as goal

abbrev pub invariant-loop-spec : goal.invariant-loop-spec
invariant-loop-spec l = with_types (entry_named l.names) l.set (manifest_types (map sig_type_of (drop l.spec-index l.types))) ≡ with_types (entry_named l.names) l.initial.set (manifest_types (map sig_type_of l.types))
