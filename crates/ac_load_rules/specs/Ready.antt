-- What holds of every text that is accepted.
use Rattle.std.specs.Prelude.{false, IsTrue}
use Rattle.std.specs.List.{list_all}
use Rattle.ac_types.specs.Types.{Typ}
use Rattle.ac_terms.specs.Terms.{Main, Expr}
use Rattle.ac_terms.specs.Defs.{Environment}
use Rattle.ac_terms.specs.Parts.{term_parts, part_mentions}
use Rattle.ac_terms.specs.Bounds.{fits_term, has_small_types}
use Rattle.ac_rules.specs.Views.{Coloured, is_known}
use Rattle.ac_rules.specs.Typing.{all_of, HasType}
use Rattle.ac_rules.specs.Coherent.{IsCoherent}

-- coherent entries, and a term of the main program over them: of its type, with known names, within the bounds of its spelling, with small types
pub record IsWellLoaded (F : Environment) (e : Expr) (T : Typ) : Type 0 where
  pub coherent : IsCoherent F
  pub typed : HasType Coloured F (all_of F Main) e T
  pub known : IsTrue (list_all (is_known F) (part_mentions (term_parts e)))
  pub fits : IsTrue (fits_term false e)
  pub small : IsTrue (has_small_types (term_parts e))
