use Rattle.std.proofs.Common.{sym}
use Rattle.ac_types.specs.ReadTypes.{typ_of}
use Rattle.ac_check_views.specs.Sites.{base_typ}
use Rattle.ac_check_views.proofs.PairLaws.{unlike_lengths}
use Rattle.ac_check_terms.proofs.primitives.are.Goals as goal

pub returns-then-args-bases : goal.returns-then-args-bases
returns-then-args-bases c = sym (unlike_lengths base_typ typ_of c.args.bases.now c.args.args.now (λ e. c.if-args-bases.true (sym e)))
