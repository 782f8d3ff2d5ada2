-- The signs of a text are within bounds: numbers of 63 bits, identifiers, and strings and signs as few as the text has bytes.
use Rattle.std.proofs.Common.{◌≡◌, ◌≤◌, ◌<◌, ◌+◌, ◌^◌, ℕ, Bool, true, false, List, [], ◌∷◌, length, length-append, Option, Some, None, refl, sym, ap, ◌∙◌, arith}
use Rattle.std.specs.Prelude.{nat_lt, nat_le, not, ◌||◌, ◌==◌, if◌then◌else◌, slice_index}
use Rattle.std.specs.List.{list_all}
use mathlib.Core.Bool.{true≢false}
use Rattle.std.proofs.lemmas.Bool.{le-leb}
use Rattle.ac_types.specs.Limits.{longest_text}
use Rattle.ac_types.specs.Types.{Bytes}
use Rattle.ac_types.specs.Words.{is_between, is_start, is_part, is_reserved, is_word}
use Rattle.ac_types.proofs.Same.{both_true, and_true}
use Rattle.ac_terms.specs.Bounds.{is_lower, is_upper, is_string}
use Rattle.ac_lexer.specs.declared.tokens.Token.{Token}
use Rattle.ac_lexer.specs.declared.tokens.TokenKind.{TokenKind}
use Rattle.ac_lexer.specs.declared.tokens.TokenKind.TheVariants as kind
use Rattle.ac_lexer.specs.Gaps.{Inside, closed, nested, byte, Gap, separator, comment}
use Rattle.ac_lexer.specs.Spellings.{Piece, itself, escape, hex, Quoted, quote, more, name_kind, is_identifier, SpellsToken, number, name, symbol, string, is_within_limits}
use Rattle.ac_lexer.specs.Tokens.{TokenAt, Reads, nothing, gap, token, Tokens}
use Rattle.ac_lexer.proofs.Spelled.{no_empty, first_of_name}
use Rattle.ac_syntax.specs.Signs.{Sign, Int, Str, Lower, Upper, Fixed, Other, fixed, symbol_of, sign_at, signs}
use Rattle.ac_syntax.specs.declared.sign.Symbol.{Symbol}

abbrev pub SignFits : Sign → Type 0
SignFits (Int at n) = nat_lt n (2 ^ 63) ≡ true
SignFits (Str at text) = is_string text ≡ true
SignFits (Lower at word) = is_lower word ≡ true
SignFits (Upper at word) = is_upper word ≡ true
SignFits (Fixed at s) = Unit {0}
SignFits (Other at) = Unit {0}

abbrev pub AllFit : List Sign → Type 0
AllFit [] = Unit {0}
AllFit (t ∷ ts) = SignFits t × AllFit ts

-- these signs are within bounds, and no more than a text may have bytes
pub record Fit (ts : List Sign) : Type 0 where
  pub all : AllFit ts
  pub few : length ts ≤ longest_text

pub rest_fits : {t : Sign} {ts : List Sign} → Fit (t ∷ ts) → Fit ts
rest_fits f = record { all = f.all.1; few = let h = f.few in omega (arith, h) }

-- what is left of the first signs is the second, or fewer
pub record Leaves (ts r : List Sign) : Type 0 where
  pub fit : AllFit ts → AllFit r
  pub fewer : length r ≤ length ts

pub here : {ts : List Sign} → Leaves ts ts
here = record { fit = λ f. f; fewer = omega arith }

pub behind : {t : Sign} {ts r : List Sign} → Leaves ts r → Leaves (t ∷ ts) r
behind x = record { fit = λ f. x.fit f.1; fewer = let h = x.fewer in omega (arith, h) }

pub further : {ts r s : List Sign} → Leaves ts r → Leaves r s → Leaves ts s
further x y = record { fit = λ f. y.fit (x.fit f); fewer = let h = x.fewer in let k = y.fewer in omega (arith, h, k) }

-- behind a sign that is left goes what is left
pub on : {t : Sign} {ts r s : List Sign} → Leaves ts (t ∷ r) → Leaves r s → Leaves ts s
on x y = further x (behind y)

pub left : {ts r : List Sign} → Leaves ts r → Fit ts → Fit r
left x f = record { all = x.fit f.all; few = let h = x.fewer in let k = f.few in omega (arith, h, k) }

-- behind a comment there is no more than before it
inside_shorter : {text rest : List ℕ} → Inside text rest → length rest ≤ length text
inside_shorter closed = omega arith
inside_shorter (nested a b) = let h = inside_shorter a in let k = inside_shorter b in omega (arith, h, k)
inside_shorter (byte o c a) = let h = inside_shorter a in omega (arith, h)

gap_shorter : {text rest : List ℕ} → Gap text rest → length rest ≤ length text
gap_shorter (separator s) = omega arith
gap_shorter (comment a) = let h = inside_shorter a in omega (arith, h)

-- a string has no more bytes than what spells it
piece_shorter : {text rest : List ℕ} {b : ℕ} → Piece text b rest → length rest < length text
piece_shorter (itself p) = omega arith
piece_shorter (escape e) = omega arith
piece_shorter (hex h l) = omega arith

content_shorter : {text content rest : List ℕ} → Quoted text content rest → length content ≤ length text
content_shorter quote = omega arith
content_shorter (more p q) = let h = piece_shorter p in let k = content_shorter q in omega (arith, h, k)

abbrev string_size : TokenKind → ℕ
string_size (kind.Str text) = length text.0
string_size k = 0

name_size : (a b : Bool) (w : List ℕ) → string_size (if a then kind.Fixed (record { 0 = w }) else if b then kind.Upper w else kind.Lower w) ≤ 0
name_size true b w = omega arith
name_size false true w = omega arith
name_size false false w = omega arith

size_spelled : {front : List ℕ} {k : TokenKind} → SpellsToken front k → string_size k ≤ length front
size_spelled (number h) = omega arith
size_spelled (name {bytes} h) = let z : string_size (name_kind bytes) ≤ 0 = name_size (is_reserved bytes) (is_between 65 90 (slice_index bytes 0)) bytes in omega (arith, z)
size_spelled (symbol h) = omega arith
size_spelled (string q) = let h = content_shorter q in omega (arith, h)

fixed_fits : (at : ℕ) (o : Option Symbol) → SignFits (fixed at o)
fixed_fits at (Some s) = tt
fixed_fits at None = tt

-- an identifier within the limit that isn't reserved
word_from : (w : Bytes) → is_identifier w ≡ true → nat_le (length w) 255 ≡ true → is_reserved w ≡ false → is_word w ≡ true
word_from [] h short free = absurd (true≢false (sym h))
word_from (c ∷ w) h short free =
    let r = both_true (is_start c) (list_all is_part (c ∷ w)) h in
    and_true (and_true (and_true (and_true (le-leb 1 (length (c ∷ w)) (omega arith)) short) r.0) r.1) (ap not free)

is_lower_start : (c : ℕ) → is_between 65 90 c ≡ false → is_start c ≡ true → (is_between 97 122 c || c == 95) ≡ true
is_lower_start c upper start = on (is_between 97 122 c) (is_between 65 90 c) (c == 95) upper start where
  on : (a b d : Bool) → b ≡ false → (a || b || d) ≡ true → (a || d) ≡ true
  on true b d h k = refl
  on false false d h k = k
  on false true d h k = absurd (true≢false h)

name_fits : (at : ℕ) (w : Bytes) → is_identifier w ≡ true → is_within_limits (name_kind w) ≡ true → SignFits (sign_at at (name_kind w))
name_fits at w identifier within = on (is_reserved w) refl (is_between 65 90 (slice_index w 0)) refl within where
  kind_as : Bool → Bool → TokenKind
  kind_as a b = if a then kind.Fixed (record { 0 = w }) else if b then kind.Upper w else kind.Lower w

  a_word : is_reserved w ≡ false → nat_le (length w) 255 ≡ true → is_word w ≡ true
  a_word free short = word_from w identifier short free

  on : (a : Bool) → is_reserved w ≡ a → (b : Bool) → is_between 65 90 (slice_index w 0) ≡ b → is_within_limits (kind_as a b) ≡ true → SignFits (sign_at at (kind_as a b))
  on true r b u h = fixed_fits at (symbol_of w)
  on false r true u h = and_true (a_word r h) u
  on false r false u h = and_true (a_word r h) (is_lower_start (slice_index w 0) u (first_of_name w identifier))

kind_fits : (at : ℕ) {front : List ℕ} {k : TokenKind} → SpellsToken front k → is_within_limits k ≡ true → string_size k ≤ longest_text → SignFits (sign_at at k)
kind_fits at (number h) w s = w
kind_fits at (string {content} q) w s = le-leb (length content) longest_text s
kind_fits at (name {bytes} h) w s = name_fits at bytes h w
kind_fits at (symbol {bytes} h) w s = fixed_fits at (symbol_of bytes)

some_front : (front : List ℕ) {k : TokenKind} → SpellsToken front k → 0 < length front
some_front [] x = absurd (no_empty x)
some_front (c ∷ front) x = omega arith

token_split : {text after : List ℕ} {k : TokenKind} (t : TokenAt text k after) → length text ≡ length t.front + length after
token_split {after = after} t = ap length t.split ∙ length-append t.front after

-- the signs of tokens, of which the text has as many bytes at least
pub record Lexed (text : List ℕ) (tokens : List Token) (rest : List ℕ) : Type 0 where
  pub all : AllFit (signs tokens)
  pub few : length (signs tokens) + length rest ≤ length text

pub reads_fit : {whole text rest : List ℕ} {tokens : List Token} → Reads whole text tokens rest → length text ≤ longest_text → Lexed text tokens rest
reads_fit nothing short = record { all = tt; few = omega arith }
reads_fit (gap g x) short =
    let h = gap_shorter g in
    let y = reads_fit x (omega (arith, h, short)) in
    record { all = y.all; few = let k = y.few in omega (arith, h, k) }
reads_fit (token {kind = k} t x) short =
    let split = token_split t in
    let some = some_front t.front t.spelled in
    let size = size_spelled t.spelled in
    let y = reads_fit x (omega (arith, split, short)) in
    record {
      all = (kind_fits _ t.spelled t.within_limits (omega (arith, size, split, short)), y.all);
      few = let h = y.few in omega (arith, h, split, some);
    }

pub text_fits : {text : Bytes} {tokens : List Token} → length text ≤ longest_text → Tokens text tokens → Fit (signs tokens)
text_fits short lexed =
    let x = reads_fit lexed short in
    record { all = x.all; few = let h = x.few in omega (arith, h, short) }
