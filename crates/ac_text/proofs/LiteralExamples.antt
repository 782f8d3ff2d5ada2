-- A literal, computed.
use Rattle.std.proofs.Common.{◌≡◌, refl}
use Rattle.std.specs.Prelude.{[], ◌∷◌, codes}
use Rattle.ac_text.specs.Literals.{literal}

-- `\`, `"`, line feed, tab, return, 0, 31, space, `~`, 127 and 255
pub each_escape : literal (92 ∷ 34 ∷ 10 ∷ 9 ∷ 13 ∷ 0 ∷ 31 ∷ 32 ∷ 126 ∷ 127 ∷ 255 ∷ []) ≡ codes "\"\\\\\\\"\\n\\t\\r\\x00\\x1f ~\\x7f\\xff\""
each_escape = refl
