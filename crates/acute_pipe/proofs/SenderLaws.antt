-- The line of a sender that hasn't ended with 0.
use Rattle.std.proofs.Common.{◌≡◌, ℤ, pos, negsuc, zero, suc, Some, refl}
use Rattle.acute_pipe.specs.Senders.{ended_with, sender_line}

pub line_behind : (s : ℤ) → (s ≡ pos 0 → ⊥) → ended_with s ≡ sender_line (Some s)
line_behind (pos zero) other = absurd (other refl)
line_behind (pos (suc n)) other = refl
line_behind (negsuc n) other = refl
