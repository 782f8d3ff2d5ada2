-- What a program has that is ready to run.
use Rattle.std.specs.Prelude.{false, IsTrue}
use Rattle.std.specs.List.{list_all}
use Rattle.ac_types.specs.Types.{Typ}
use Rattle.ac_terms.specs.Terms.{Expr}
use Rattle.ac_terms.specs.Defs.{Environment}
use Rattle.ac_terms.specs.Bounds.{fits_term}
use Rattle.ac_terms.specs.Parts.{term_parts, part_mentions}
use Rattle.ac_rules.specs.Views.{is_known}
use Rattle.ac_meaning.specs.Laws.{IsTypedProgram}

-- a typed program whose term is within the bounds of its spelling; each abstract type that the term mentions is in the signature of an entry of that name
pub record IsLoaded (E : Environment) (e : Expr) (T : Typ) : Type 0 where
  pub program : IsTypedProgram E e T
  pub fits : IsTrue (fits_term false e)
  pub known : IsTrue (list_all (is_known E) (part_mentions (term_parts e)))
