-- The reading of types, tests of what is joined, and all entries of the code.
use Rattle.std.proofs.Common.{◌≡◌, List, map, length, take, arith}
use Rattle.std.proofs.lemmas.Grind.{common_steps}
use Rattle.std.proofs.lemmas.List.{length-map, take_all}
use Rattle.std.proofs.lemmas.List.Folds.{list_all-append}
use Rattle.ac_types.proofs.SizeLaws.{type_laws as read_types}
use Rattle.ac_terms.specs.declared.def.Entry as code
use Rattle.ac_terms.specs.Read.{entry_of}

pub all_entries : (es : List code.Entry) → take (length es) (map entry_of es) ≡ map entry_of es
all_entries es = let same = length-map es entry_of in take_all (length es) (map entry_of es) (omega (arith, same))

pub ruleset type_laws = (read_types, list_all-append, common_steps)
