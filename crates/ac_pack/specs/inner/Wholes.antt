-- What writing a whole packet comes to.
use Rattle.std.specs.Prelude.{◌≡◌, ◌≤◌, length, Result, MatchResult}
use Rattle.ac_types.specs.Limits.{longest_packet}
use Rattle.ac_types.specs.Types.{Bytes}
use Rattle.ac_types.specs.declared.text.Text.{Text}
use Rattle.ac_pack_heads.specs.declared.stop.Stop.{Stop}
use Rattle.ac_pack_definitions.specs.Forms.{IsLong}

-- these bytes, of which there are no more than a packet has; or it stops since there are more
abbrev pub IsWhole : Result Text Stop → Bytes → Type 0
IsWhole r bs = MatchResult r (λ (t : Text). (t.0 ≡ bs) × (length t.0 ≤ longest_packet)) (λ (e : Stop). IsLong e bs)
