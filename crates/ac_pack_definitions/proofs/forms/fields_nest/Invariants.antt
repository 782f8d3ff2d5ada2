use Rattle.std.proofs.Common.{◌≡◌, ℕ, drop, map}
use Rattle.std.specs.Prelude.{nat_le}
use Rattle.std.specs.List.{list_all}
use Rattle.ac_terms.specs.Defs.{Field}
use Rattle.ac_terms.specs.Nesting.{nesting}
use Rattle.ac_terms.specs.Read.{field_of}
use Rattle.ac_pack_definitions.proofs.forms.fields_nest.Given as goal

abbrev pub invariant-loop-field : goal.invariant-loop-field
invariant-loop-field l =
    let little = λ (n : ℕ). nat_le n 500 in
    let far = λ (f : Field). nesting f.term in
    list_all little (map far (map field_of l.fields)) ≡ list_all little (map far (map field_of (drop l.field-index l.fields)))
