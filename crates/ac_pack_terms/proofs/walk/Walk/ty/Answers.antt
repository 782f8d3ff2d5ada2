use Rattle.std.proofs.Common.{◌≡◌, refl, subst, rules}
use Rattle.ac_types.specs.ReadTypes.{typ_of}
use Rattle.ac_types.specs.Types.{Bytes}
use Rattle.ac_terms.specs.Spelling.{type_bytes}
use Rattle.ac_terms.specs.Heads.{next_head}
use Rattle.ac_pack_heads.specs.Outcomes.{Puts}
use Rattle.ac_pack_terms.proofs.WalkLaws.{put_spoken}
use Rattle.ac_pack_terms.proofs.walk.Walk.ty.Goals as goal

pub returns : goal.returns
returns c =
    let e : c.as_slice.result.now ≡ type_bytes (typ_of c.args.ty.now) = search rules in
    put_spoken _ _ _ _ _ refl c.in_ok-speak_of.ensures refl (subst (λ (bs : Bytes). Puts c.write_head.result (next_head 0 bs) c.args.self.now.text.0 c.write_head.new.text.0) e c.write_head.ensures)
