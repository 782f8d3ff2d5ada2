-- The name of a module, computed.
use Rattle.std.proofs.Common.{◌≡◌, refl}
use Rattle.std.specs.Prelude.{[], ◌∷◌, Some}
use Rattle.sha2.specs.Sha256.{sha256, digest_bytes, hash_after, compress, rounds, schedule, first_words}
use Rattle.ac_terms.specs.Names.{name_by}
use Rattle.ac_terms.proofs.Samples.{six}

pub name_of_six : name_by sha256 [] six ≡ Some (0xF7 ∷ 0x4F ∷ 0xB4 ∷ 0x3C ∷ 0x40 ∷ 0xD9 ∷ 0x37 ∷ 0x0A ∷ 0x91 ∷ 0xF9 ∷ 0xA5 ∷ 0x48 ∷ 0xE7 ∷ 0x59 ∷ 0xD7 ∷ 0x56 ∷ 0x56 ∷ 0xEE ∷ 0xEC ∷ 0x26 ∷ 0x94 ∷ 0x73 ∷ 0xA3 ∷ 0xEB ∷ 0xF5 ∷ 0xB9 ∷ 0x56 ∷ 0x2B ∷ 0x82 ∷ 0x43 ∷ 0x23 ∷ 0x2D ∷ [])
unfolding sha256 digest_bytes hash_after compress rounds schedule first_words
name_of_six = refl
