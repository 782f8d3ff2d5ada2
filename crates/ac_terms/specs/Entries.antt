-- What contracts see of an environment.
use Rattle.std.specs.Prelude.{List}
use Rattle.ac_terms.specs.declared.def.Entry.{Entry}

-- the entries in order; the number of a definition counts them from 0
pub record Entries : Type 0 where
  pub entries : List Entry
