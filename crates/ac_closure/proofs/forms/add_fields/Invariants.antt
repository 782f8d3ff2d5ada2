use Rattle.std.proofs.Common.{◌≡◌, drop, map}
use Rattle.ac_terms.specs.Read.{field_of}
use Rattle.ac_closure.specs.inner.Chosen.{with_parts}
use Rattle.ac_closure.specs.inner.Forms.{field_parts}
use Rattle.ac_closure.specs.inner.Names.{entry_named}
use Rattle.ac_closure.proofs.forms.add_fields.Given as goal

abbrev pub invariant-loop-field : goal.invariant-loop-field
invariant-loop-field l = with_parts (entry_named l.names) l.set (field_parts (map field_of (drop l.field-index l.fields))) ≡ with_parts (entry_named l.names) l.initial.set (field_parts (map field_of l.fields))
