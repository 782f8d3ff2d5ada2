use Rattle.std.proofs.Common.{◌∷◌, [], ◌++◌, suc}
use Rattle.ac_terms.specs.Terms.{Main}
use Rattle.ac_terms.specs.Spelling.{home_bytes}
use Rattle.ac_terms.specs.Heads.{next_head}
use Rattle.ac_terms.specs.Tags.{term_unit, value_fun}
use Rattle.ac_pack_terms.specs.inner.Goes.{Visits}
use Rattle.ac_pack_terms.proofs.walk.Walk.lost.Goals as goal

pub returns : goal.returns
unfolding Visits
returns c = λ ks ns f q ls. c.lost.ensures (value_fun ∷ home_bytes Main) f q ((next_head (suc (suc c.args.d)) (term_unit ∷ []) ∷ ks) ++ ls)
