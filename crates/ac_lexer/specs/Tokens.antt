-- The tokens of a text, with their places.
use Rattle.std.specs.Prelude.{◌≡◌, ℕ, ◌-◌, ◌<◌, ◌≤◌, true, false, List, [], ◌∷◌, ◌++◌, length}
use Rattle.ac_types.specs.Limits.{longest_text}
use Rattle.ac_lexer.specs.declared.tokens.Token.{Token}
use Rattle.ac_lexer.specs.declared.tokens.TokenKind.{TokenKind}
use Rattle.ac_lexer.specs.declared.tokens.LexFault.{LexFault}
use Rattle.ac_lexer.specs.declared.tokens.LexFault.TheVariants.{TooLong, Lexical, Memory}
use Rattle.ac_lexer.specs.Gaps.{Gap, NoGap, begins_comment}
use Rattle.ac_lexer.specs.Spellings.{SpellsToken, is_within_limits}

-- no longer front of the text spells a token
abbrev pub IsLongest : List ℕ → List ℕ → Type 0
IsLongest text front = (other behind : List ℕ) (kind : TokenKind) → text ≡ other ++ behind → SpellsToken other kind → length other ≤ length front

-- the text begins with this token, the longest that begins there, and `rest` is behind it; `(*` begins no token
pub record TokenAt (text : List ℕ) (kind : TokenKind) (rest : List ℕ) : Type 0 where
  pub front : List ℕ
  pub split : text ≡ front ++ rest
  pub spelled : SpellsToken front kind
  pub longest : IsLongest text front
  pub within_limits : is_within_limits kind ≡ true
  pub no_comment : begins_comment text ≡ false

-- how many bytes of the whole text stand before this rest of it
abbrev pub place_of_rest : List ℕ → List ℕ → ℕ
place_of_rest whole rest = length whole - length rest

-- the text, which is the end of a whole one, is separators, comments and these tokens, and then `rest`
pub data Reads (whole : List ℕ) : List ℕ → List Token → List ℕ → Type 0 where
  nothing : {text : List ℕ} → Reads whole text [] text
  gap : {text after rest : List ℕ} {tokens : List Token} → Gap text after → Reads whole after tokens rest → Reads whole text tokens rest
  token : {text after rest : List ℕ} {kind : TokenKind} {tokens : List Token} → TokenAt text kind after → Reads whole after tokens rest → Reads whole text (record { kind = kind; at = place_of_rest whole text } ∷ tokens) rest

-- the text is these tokens, with separators and comments between
abbrev pub Tokens : List ℕ → List Token → Type 0
Tokens text tokens = Reads text text tokens []

-- no token begins the text
abbrev pub NoToken : List ℕ → Type 0
NoToken text = (kind : TokenKind) (rest : List ℕ) → TokenAt text kind rest → ⊥

-- no separator, no whole comment and no token begins the text
pub record NothingBegins (text : List ℕ) : Type 0 where
  pub no_gap : NoGap text
  pub no_token : NoToken text

-- separators, comments and tokens go up to this place of the text, and nothing begins there
pub record FailsAt (text : List ℕ) (at : ℕ) : Type 0 where
  pub tokens : List Token
  pub rest : List ℕ
  pub reads : Reads text text tokens rest
  pub some : 0 < length rest
  pub nothing_begins : NothingBegins rest
  pub here : at ≡ place_of_rest text rest

-- a text is refused where it is too long, and at the place where nothing begins; for any that is not too long memory may run out
abbrev pub IsFault : List ℕ → LexFault → Type 0
IsFault text (TooLong len) = (longest_text < length text) × (len ≡ length text)
IsFault text (Lexical at) = (length text ≤ longest_text) × FailsAt text at
IsFault text Memory = length text ≤ longest_text

-- what holds of a fault in the text's bytes
abbrev pub OnLexical : LexFault → Type 0 → Type 0
OnLexical (Lexical at) P = P
OnLexical _ P = Unit {0}
