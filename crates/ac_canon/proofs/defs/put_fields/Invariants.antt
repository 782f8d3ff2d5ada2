use Rattle.std.proofs.Common.{◌≡◌, ◌++◌, drop, map}
use Rattle.std.specs.Prelude.{flat_map}
use Rattle.ac_terms.specs.Read.{field_of}
use Rattle.ac_terms.specs.SpelledBy.{field_bytes}
use Rattle.ac_canon.proofs.defs.put_fields.Given as goal

abbrev pub invariant-loop-field : goal.invariant-loop-field
invariant-loop-field g l =
    let bytes = field_bytes (g.S.Spelling.spelled_type l.spelling) (g.S.Spelling.spelled_reference l.spelling) in
    l.out ++ flat_map bytes (map field_of (drop l.field-index l.fields)) ≡ l.initial.out ++ flat_map bytes (map field_of l.fields)
