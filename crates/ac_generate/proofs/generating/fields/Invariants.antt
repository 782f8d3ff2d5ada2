use Rattle.std.proofs.Common.{◌≡◌, ◌++◌, map, drop}
use Rattle.ac_terms.specs.Read.{home_of, field_of}
use Rattle.ac_code.specs.ReadCode.{table_code, block_id}
use Rattle.ac_generate.specs.Generated.{fields_generated, field_numbers, KeepsBlocks}
use Rattle.ac_generate.proofs.generating.fields.Given as goal

abbrev pub invariant-loop-field : goal.invariant-loop-field
invariant-loop-field l = record {
  generated : fields_generated (home_of l.home) (map field_of (drop l.field-index l.fields)) (table_code l.table) ≡ fields_generated (home_of l.home) (map field_of l.fields) (table_code l.fn.table);
  numbers : map block_id l.numbers ++ field_numbers (home_of l.home) (map field_of (drop l.field-index l.fields)) (table_code l.table) ≡ field_numbers (home_of l.home) (map field_of l.fields) (table_code l.fn.table);
  blocks : KeepsBlocks l.table l.fn.table;
  fields : l.table.fields ≡ l.fn.table.fields;
}
