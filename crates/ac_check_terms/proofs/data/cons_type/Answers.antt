use Rattle.std.proofs.Common.{sym, ap₂, ◌∙◌, Option}
use Rattle.std.specs.Prelude.{option_map}
use Rattle.ac_types.specs.Types.{TList}
use Rattle.ac_types.specs.ReadTypes.{typ_of}
use Rattle.ac_types.specs.declared.ty.Ty.{Ty}
use Rattle.ac_types.specs.Partial.{both_same}
use Rattle.ac_check_terms.proofs.Equalities.{cons_same}
use Rattle.ac_check_terms.proofs.data.cons_type.Goals as goal

pub returns-then-fits : goal.returns-then-fits
returns-then-fits c =
    cons_same (TList (typ_of c.in-Some.head)) (typ_of c.in-Some-tail.tail) (sym c.is_list_of-fits.ensures ∙ c.if-fits.true)
    ∙ ap₂ (λ (a b : Option Ty). both_same (option_map TList (option_map typ_of a)) (option_map typ_of b)) (sym c.in-Some.is) (sym c.in-Some-tail.is)
