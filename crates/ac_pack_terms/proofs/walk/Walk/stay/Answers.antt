use Rattle.std.proofs.Common.{◌∷◌, [], suc}
use Rattle.ac_terms.specs.Terms.{Main}
use Rattle.ac_terms.specs.Spelling.{home_bytes}
use Rattle.ac_terms.specs.Heads.{next_head}
use Rattle.ac_terms.specs.Tags.{term_unit, value_fun}
use Rattle.ac_pack_terms.specs.inner.Goes.{Visits}
use Rattle.ac_pack_terms.proofs.WalkLaws.{stops_behind}
use Rattle.ac_pack_terms.proofs.walk.Walk.stay.Goals as goal

pub returns : goal.returns
unfolding Visits
returns c = stops_behind _ _ _ (next_head (suc c.args.d) (term_unit ∷ []) ∷ []) (c.stays.ensures c.args.self.now.text.0 (value_fun ∷ home_bytes Main))
