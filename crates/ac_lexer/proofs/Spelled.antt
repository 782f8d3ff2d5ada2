-- What a token's first byte tells of it.
use Rattle.std.proofs.Common.{◌≡◌, ℕ, Bool, true, false, List, [], ◌∷◌, refl, sym, ◌∙◌, ap, subst, arith, not, ⊎_elim}
use Rattle.std.specs.Prelude.{slice_index, bytes_eq, ◌==◌}
use Rattle.std.specs.List.{list_any, list_all}
use Rattle.std.specs.Cmp.Lexicographic.{bytes_decides}
use Rattle.std.proofs.lemmas.Bool.{or_cases, and_parts, both_ways, not-true, false≢true}
use Rattle.std.proofs.lemmas.Bool.Decides.{nat_tests}
use Rattle.ac_types.specs.Words.{is_start, is_part}
use Rattle.ac_lexer.specs.declared.tokens.TokenKind.{TokenKind}
use Rattle.ac_lexer.specs.declared.tokens.TokenKind.TheVariants.{Int, Str, Fixed}
use Rattle.ac_lexer.specs.Gaps.{is_separator}
use Rattle.ac_lexer.specs.Spellings.{is_digit, is_number, value, is_identifier, name_kind, symbols, is_symbol, Quoted, SpellsToken, number, name, symbol, string}

-- what holds of each of some words holds of each word that is equal to one of them
pub any_all : (P : List ℕ → Bool) (words : List (List ℕ)) (bytes : List ℕ) → list_any (λ w. bytes_eq w bytes) words ≡ true → list_all P words ≡ true → P bytes ≡ true
any_all P [] bytes h a = absurd (false≢true h)
any_all P (w ∷ words) bytes h a =
    let p = and_parts (P w) (list_all P words) a in
    ⊎_elim (λ (e : bytes_eq w bytes ≡ true). subst (λ (b : List ℕ). P b ≡ true) ((bytes_decides w bytes).0 e) p.0) (λ (e : list_any (λ v. bytes_eq v bytes) words ≡ true). any_all P words bytes e p.1) (or_cases (bytes_eq w bytes) (list_any (λ v. bytes_eq v bytes) words) h)

pub of_symbols : (P : List ℕ → Bool) (bytes : List ℕ) → is_symbol bytes ≡ true → list_all P symbols ≡ true → P bytes ≡ true
unfolding is_symbol
of_symbols P bytes h a = any_all P symbols bytes h a

-- no symbol begins with a byte of this kind
pub no_symbol : (p : ℕ → Bool) (bytes : List ℕ) → list_all (λ s. not (p (slice_index s 0))) symbols ≡ true → is_symbol bytes ≡ true → p (slice_index bytes 0) ≡ true → ⊥
no_symbol p bytes a h t = both_ways (p (slice_index bytes 0)) (not-true (p (slice_index bytes 0)) (of_symbols (λ s. not (p (slice_index s 0))) bytes h a)) t

digit_no_start : (c : ℕ) → is_digit c ≡ true → is_start c ≡ true → ⊥
digit_no_start c d s = grind (arith, nat_tests)

pub first_of_number : (bytes : List ℕ) → is_number bytes ≡ true → is_digit (slice_index bytes 0) ≡ true
first_of_number bytes h = (and_parts (is_digit (slice_index bytes 0)) (list_all is_digit bytes) h).0

pub first_of_name : (bytes : List ℕ) → is_identifier bytes ≡ true → is_start (slice_index bytes 0) ≡ true
first_of_name bytes h = (and_parts (is_start (slice_index bytes 0)) (list_all is_part bytes) h).0

-- what begins with a digit is a number
pub by_digit : {bytes : List ℕ} {kind : TokenKind} → SpellsToken bytes kind → is_digit (slice_index bytes 0) ≡ true → (is_number bytes ≡ true) × (kind ≡ Int (value bytes))
by_digit (number h) d = (h, refl)
by_digit {bytes} (name h) d = absurd (digit_no_start (slice_index bytes 0) d (first_of_name bytes h))
by_digit {bytes} (symbol h) d = absurd (no_symbol is_digit bytes refl h d)
by_digit (string q) d = absurd (false≢true d)

-- what begins with a letter or `_` is a name
pub by_start : {bytes : List ℕ} {kind : TokenKind} → SpellsToken bytes kind → is_start (slice_index bytes 0) ≡ true → (is_identifier bytes ≡ true) × (kind ≡ name_kind bytes)
by_start {bytes} (number h) s = absurd (digit_no_start (slice_index bytes 0) (first_of_number bytes h) s)
by_start (name h) s = (h, refl)
by_start {bytes} (symbol h) s = absurd (no_symbol is_start bytes refl h s)
by_start (string q) s = absurd (false≢true s)

-- what begins with a quote is a string
pub by_quote : {bytes : List ℕ} {kind : TokenKind} → SpellsToken bytes kind → slice_index bytes 0 ≡ 34 → (inner : List ℕ) × (content : List ℕ) × (bytes ≡ 34 ∷ inner) × Quoted inner content [] × (kind ≡ Str (record { 0 = content }))
by_quote {bytes} (number h) e = absurd (false≢true (sym (ap is_digit e) ∙ first_of_number bytes h))
by_quote {bytes} (name h) e = absurd (false≢true (sym (ap is_start e) ∙ first_of_name bytes h))
by_quote {bytes} (symbol h) e = absurd (no_symbol (λ c. c == 34) bytes refl h (ap (λ c. c == 34) e))
by_quote (string {bytes} {content} q) e = (bytes, content, refl, q, refl)

-- what begins with another byte is a symbol
pub by_other : {bytes : List ℕ} {kind : TokenKind} → SpellsToken bytes kind → is_digit (slice_index bytes 0) ≡ false → is_start (slice_index bytes 0) ≡ false → (slice_index bytes 0 ≡ 34 → ⊥) → (is_symbol bytes ≡ true) × (kind ≡ Fixed (record { 0 = bytes }))
by_other {bytes} (number h) d s q = absurd (both_ways (is_digit (slice_index bytes 0)) d (first_of_number bytes h))
by_other {bytes} (name h) d s q = absurd (both_ways (is_start (slice_index bytes 0)) s (first_of_name bytes h))
by_other (symbol h) d s q = (h, refl)
by_other (string h) d s q = absurd (q refl)

digit_no_gap : (c : ℕ) → is_digit c ≡ true → is_separator c ≡ true → ⊥
digit_no_gap c d s = grind (arith, nat_tests)

start_no_gap : (c : ℕ) → is_start c ≡ true → is_separator c ≡ true → ⊥
start_no_gap c d s = grind (arith, nat_tests)

-- no token begins with a separator
pub by_separator : {bytes : List ℕ} {kind : TokenKind} → SpellsToken bytes kind → is_separator (slice_index bytes 0) ≡ true → ⊥
by_separator {bytes} (number h) s = digit_no_gap (slice_index bytes 0) (first_of_number bytes h) s
by_separator {bytes} (name h) s = start_no_gap (slice_index bytes 0) (first_of_name bytes h) s
by_separator {bytes} (symbol h) s = no_symbol is_separator bytes refl h s
by_separator (string q) s = false≢true s

-- no bytes spell no token
pub no_empty : {kind : TokenKind} → SpellsToken [] kind → ⊥
unfolding is_symbol
no_empty (number h) = false≢true h
no_empty (name h) = false≢true h
no_empty (symbol h) = false≢true h
