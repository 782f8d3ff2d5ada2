-- Spellings, comments and strings by example.
use Rattle.std.proofs.Common.{◌≡◌, [], ◌∷◌, ◌++◌, true, false, refl}
use Rattle.std.specs.Prelude.{codes}
use Rattle.ac_types.specs.Words.{is_reserved}
use Rattle.ac_lexer.specs.declared.tokens.TokenKind.TheVariants.{Lower, Upper, Int, Str, Fixed}
use Rattle.ac_lexer.specs.Gaps.{Inside, closed, nested, byte}
use Rattle.ac_lexer.specs.Spellings.{value, name_kind, is_identifier, is_symbol, itself, escape, hex, quote, more, SpellsToken, number, symbol, string, is_within_limits}

ex_value : value (codes "007") ≡ 7
ex_value = refl

ex_number : SpellsToken (codes "12") (Int 12)
ex_number = number refl

ex_lower : name_kind (codes "x'") ≡ Lower (codes "x'")
unfolding is_reserved
ex_lower = refl

ex_upper : name_kind (codes "M_1") ≡ Upper (codes "M_1")
unfolding is_reserved
ex_upper = refl

ex_reserved : name_kind (codes "match") ≡ Fixed (record { 0 = codes "match" })
unfolding is_reserved
ex_reserved = refl

ex_wild : name_kind (codes "_") ≡ Fixed (record { 0 = codes "_" })
unfolding is_reserved
ex_wild = refl

ex_digit_first : is_identifier (codes "1x") ≡ false
ex_digit_first = refl

ex_arrow : SpellsToken (codes "->") (Fixed (record { 0 = codes "->" }))
unfolding is_symbol
ex_arrow = symbol refl

ex_and : is_symbol (codes "&") ≡ false
unfolding is_symbol
ex_and = refl

ex_largest : is_within_limits (Int 9223372036854775807) ≡ true
ex_largest = refl

ex_too_large : is_within_limits (Int 9223372036854775808) ≡ false
ex_too_large = refl

-- `"aJ` and a line feed, as `a`, `\x4a` and `\n`
ex_string : SpellsToken (34 ∷ codes "a" ++ 92 ∷ codes "x4a" ++ 92 ∷ codes "n" ++ 34 ∷ []) (Str (record { 0 = 97 ∷ 74 ∷ 10 ∷ [] }))
ex_string = string (more (itself refl) (more (hex refl refl) (more (escape refl) quote)))

-- `a(*b*)*)c`, from behind a `(*` on
ex_comment : Inside (codes "a(*b*)*)c") (codes "c")
ex_comment = byte refl refl (nested (byte refl refl closed) closed)

-- `(*)` has no end
ex_unclosed : Inside (codes ")*)") []
ex_unclosed = byte refl refl closed
