use Rattle.std.proofs.Common.{refl, subst, ◌∷◌}
use Rattle.std.specs.Prelude.{ℤ}
use Rattle.std.specs.Int.{w64}
use Rattle.std.proofs.lemmas.Int.{to_z-of_z}
use Rattle.ac_terms.specs.Spelling.{eight_written}
use Rattle.ac_terms.specs.Heads.{next_head}
use Rattle.ac_pack_heads.specs.Outcomes.{Puts}
use Rattle.ac_pack_terms.proofs.WalkLaws.{put}
use Rattle.ac_pack_terms.proofs.walk.Walk.int.Goals as goal

pub returns : goal.returns
returns c =
    put _ _ _ _ refl refl refl
    (subst (λ (z : ℤ). Puts c.int_head.result (next_head c.args.d (c.args.tag ∷ eight_written z)) c.args.self.now.text.0 c.int_head.new.text.0) (to_z-of_z w64 c.args.n c.ranges.n) c.int_head.ensures)
