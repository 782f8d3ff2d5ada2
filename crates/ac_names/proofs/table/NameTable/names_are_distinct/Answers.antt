use Rattle.std.proofs.Common.{sym, subst, List}
use Rattle.std.specs.List.{IsDistinct}
use Rattle.ac_types.specs.Types.{Bytes, same_bytes}
use Rattle.ac_names.specs.Table.{HasDistinctNames}
use Rattle.ac_names.proofs.TableLaws.{names_shown}
use Rattle.ac_names.proofs.table.NameTable.names_are_distinct.Goals as goal

pub returns : goal.returns
returns c = subst HasDistinctNames c.self.view_is (subst (λ (ns : List Bytes). IsDistinct same_bytes ns) (sym (names_shown c.self.inside.texts.entries)) c.len-unique.ensures.unique)
