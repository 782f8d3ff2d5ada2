-- Names and their lengths.
use Rattle.std.proofs.Common.{◌≡◌, ◌≤◌, ◌<◌, ℕ, Bool, true, false, cond, List, refl, arith, length}
use Rattle.std.specs.Prelude.{slice_index, nat_le}
use Rattle.std.proofs.lemmas.Bool.{lt-leb, leb-true}
use Rattle.ac_types.specs.Words.{is_between, is_reserved, reserved}
use Rattle.ac_lexer.specs.declared.tokens.TokenKind.TheVariants.{Lower, Upper, Fixed}
use Rattle.ac_lexer.specs.Spellings.{name_kind, is_within_limits}
use Rattle.ac_lexer.proofs.Spelled.{any_all}

-- a reserved word is no longer than a name may be
reserved_length : (bytes : List ℕ) → is_reserved bytes ≡ true → length bytes ≤ 255
unfolding is_reserved
reserved_length bytes h = leb-true (length bytes) 255 (any_all (λ w. nat_le (length w) 255) reserved bytes h refl)

too_long : (r u : Bool) (bytes : List ℕ) → (r ≡ true → length bytes ≤ 255) → 255 < length bytes → is_within_limits (cond r (Fixed (record { 0 = bytes })) (cond u (Upper bytes) (Lower bytes))) ≡ false
too_long true u bytes h l = absurd (omega (arith, h refl))
too_long false true bytes h l = lt-leb (length bytes) 255 l
too_long false false bytes h l = lt-leb (length bytes) 255 l

pub long_name : (bytes : List ℕ) → 255 < length bytes → is_within_limits (name_kind bytes) ≡ false
long_name bytes l = too_long (is_reserved bytes) (is_between 65 90 (slice_index bytes 0)) bytes (reserved_length bytes) l
