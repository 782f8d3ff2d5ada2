-- The spellings are the lexer's symbols and then the reserved words, so no token of a text reads as `Other`.
use Rattle.std.proofs.Common.{◌≡◌, ℕ, Bool, true, false, ◌||◌, List, [], ◌∷◌, ◌++◌, map, refl, ◌∙◌, ap, Option, Some, None, if◌then◌else◌}
use Rattle.std.specs.Prelude.{bytes_eq}
use Rattle.std.specs.List.{list_any}
use Rattle.std.proofs.lemmas.Bool.{false≢true}
use Rattle.std.proofs.lemmas.List.Folds.{list_any-append}
use Rattle.ac_types.specs.Types.{Bytes}
use Rattle.ac_types.specs.Words.{reserved, is_reserved}
use Rattle.ac_types.proofs.FirstLaws.{none≢some}
use Rattle.ac_lexer.specs.declared.tokens.TokenKind.{TokenKind}
use Rattle.ac_lexer.specs.declared.tokens.TokenKind.TheVariants as kind
use Rattle.ac_lexer.specs.Spellings.{symbols, is_symbol, SpellsToken, number, name, symbol, string}
use Rattle.ac_syntax.specs.Signs.{Other, spellings, sign_spelled, symbol_of, fixed, sign_at}
use Rattle.ac_syntax.specs.declared.sign.Symbol.{Symbol}

pub same_spellings : map (λ (x : Bytes × Symbol). x.0) spellings ≡ symbols ++ reserved
same_spellings = refl

-- bytes stand for some symbol
abbrev Known : Option Symbol → Type 0
Known o = (s : Symbol) × (o ≡ Some s)

either : (b c : Bool) (s : Symbol) (o : Option Symbol) → (b || c) ≡ true → (c ≡ true → Known o) → Known (if b then Some s else o)
either true c s o h later = (s, refl)
either false c s o h later = later h

found : (bytes : Bytes) (xs : List (Bytes × Symbol)) → list_any (λ w. bytes_eq w bytes) (map (λ (x : Bytes × Symbol). x.0) xs) ≡ true → Known (sign_spelled bytes xs)
found bytes [] h = absurd (false≢true h)
found bytes (x ∷ xs) h =
    either (bytes_eq x.0 bytes) (list_any (λ w. bytes_eq w bytes) (map (λ (y : Bytes × Symbol). y.0) xs)) x.1 (sign_spelled bytes xs) h (found bytes xs)

or_left : (a b : Bool) → a ≡ true → (a || b) ≡ true
or_left true b e = refl
or_left false b e = absurd (false≢true e)

or_right : (a b : Bool) → b ≡ true → (a || b) ≡ true
or_right true b e = refl
or_right false b e = e

known : (bytes : Bytes) → (list_any (λ w. bytes_eq w bytes) symbols || list_any (λ w. bytes_eq w bytes) reserved) ≡ true → Known (symbol_of bytes)
unfolding symbol_of
known bytes h = found bytes spellings (ap (list_any (λ w. bytes_eq w bytes)) same_spellings ∙ list_any-append (λ w. bytes_eq w bytes) symbols reserved ∙ h)

symbol_known : (bytes : Bytes) → is_symbol bytes ≡ true → Known (symbol_of bytes)
unfolding is_symbol
symbol_known bytes h = known bytes (or_left _ _ h)

reserved_known : (bytes : Bytes) → is_reserved bytes ≡ true → Known (symbol_of bytes)
unfolding is_reserved
reserved_known bytes h = known bytes (or_right (list_any (λ w. bytes_eq w bytes) symbols) _ h)

fixed_read : (at b : ℕ) (o : Option Symbol) → Known o → fixed at o ≡ Other b → ⊥
fixed_read at b (Some s) k e = cc
fixed_read at b None k e = none≢some k.1

name_read : (at n : ℕ) (bytes : Bytes) (b c : Bool) → (b ≡ true → Known (symbol_of bytes)) → sign_at at (if b then kind.Fixed (record { 0 = bytes }) else if c then kind.Upper bytes else kind.Lower bytes) ≡ Other n → ⊥
name_read at n bytes true c k e = fixed_read at n (symbol_of bytes) (k refl) e
name_read at n bytes false true k e = cc
name_read at n bytes false false k e = cc

pub no_other : (at n : ℕ) (bytes : List ℕ) (k : TokenKind) → SpellsToken bytes k → sign_at at k ≡ Other n → ⊥
no_other at n bytes k (number h) e = cc
no_other at n bytes k (name h) e = name_read at n bytes (is_reserved bytes) _ (reserved_known bytes) e
no_other at n bytes k (symbol h) e = fixed_read at n (symbol_of bytes) (symbol_known bytes h) e
no_other at n bytes k (string q) e = cc
