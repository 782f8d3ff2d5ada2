use Rattle.std.proofs.Common.{ap, sym, Bool, [], ◌∷◌, Some, None, true, false}
use Rattle.ac_types.specs.Types.{Typ, TStr}
use Rattle.ac_types.specs.ReadTypes.{typ_of}
use Rattle.ac_check_views.proofs.PairLaws.{unlike_lengths}
use Rattle.ac_check_terms.proofs.Equalities.{slice_argument}
use Rattle.ac_check_terms.proofs.primitives.slice_type.Goals as goal

pub returns-in_default : goal.returns-in_default
returns-in_default c = sym (ap (λ (b : Bool). elim b [ true ↦ Some TStr | false ↦ None ]) (unlike_lengths (λ (T : Typ). T) typ_of (slice_argument ∷ []) c.args.args.now (λ e. c.in_default.ensures (sym e))))
