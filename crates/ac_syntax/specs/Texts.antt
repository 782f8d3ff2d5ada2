-- What a text is answered by: its tree, or why it has none, the first cause that applies.
use Rattle.std.specs.Prelude.{◌≡◌, ◌⊎◌, ℕ, ◌<◌, ◌≤◌, List, length, Some, option_map, slice_get}
use Rattle.ac_types.specs.Limits.{longest_text}
use Rattle.ac_types.specs.Types.{Bytes}
use Rattle.ac_lexer.specs.declared.tokens.Token.{Token}
use Rattle.ac_lexer.specs.Tokens.{Tokens, FailsAt}
use Rattle.ac_syntax.specs.Signs.{Sign, signs}
use Rattle.ac_syntax.specs.Openers.{IsShallow, IsDeep}
use Rattle.ac_syntax.specs.Trees.{ProgramTree}
use Rattle.ac_syntax.specs.declared.fault.ParseFault.{ParseFault}
use Rattle.ac_syntax.specs.declared.stop.ParseError.{ParseError}
use Rattle.ac_syntax.specs.declared.stop.ParseError.TheVariants as stop
use Rattle.ac_syntax.specs.declared.fault.ParseFault.TheVariants as fault

-- the text is not too long and has these tokens, no front of which has too many unclosed openers
pub record IsRead (text : Bytes) (tokens : List Token) : Type 0 where
  pub short : length text ≤ longest_text
  pub lexed : Tokens text tokens
  pub shallow : IsShallow (signs tokens)

-- the text has this tree by a grammar, which says which signs are which tree
pub record HasTree (Grammar : List Sign → ProgramTree → Type 0) (text : Bytes) (tree : ProgramTree) : Type 0 where
  pub tokens : List Token
  pub read : IsRead text tokens
  pub is : Grammar (signs tokens) tree

-- the place of a token, or the end of the text
abbrev pub token_place : Token → ℕ
token_place token = token.at

abbrev pub IsPlace : List Token → ℕ → ℕ → Type 0
IsPlace tokens end at = (at ≡ end) ⊎ ((i : ℕ) × (option_map token_place (slice_get tokens i) ≡ Some at))

-- the text is not read: it is too long, or has no tokens, or too many openers are unclosed
pub data UnreadText (text : Bytes) : ParseFault → Type 0 where
  too_long : longest_text < length text → UnreadText text (fault.TooLong (length text))
  lexical : {at : ℕ} → length text ≤ longest_text → FailsAt text at → UnreadText text (fault.Lexical at)
  too_deep : {at : ℕ} {tokens : List Token} → length text ≤ longest_text → Tokens text tokens → IsDeep (signs tokens) at → UnreadText text (fault.TooDeep at)

-- the text is refused: it is not read, or its signs have no tree by the grammar
pub data Refused (Grammar : List Sign → ProgramTree → Type 0) (text : Bytes) : ParseFault → Type 0 where
  unread : {e : ParseFault} → UnreadText text e → Refused Grammar text e
  syntax : {at : ℕ} {tokens : List Token} → IsRead text tokens → ((tree : ProgramTree) → Grammar (signs tokens) tree → ⊥) → IsPlace tokens (length text) at → Refused Grammar text (fault.Syntax at)

-- what a fault says of the text; memory may run out at any that is not too long
abbrev pub IsUnread : Bytes → ParseFault → Type 0
IsUnread text fault.Memory = length text ≤ longest_text
IsUnread text e = UnreadText text e

abbrev pub IsTextFault : (List Sign → ProgramTree → Type 0) → Bytes → ParseFault → Type 0
IsTextFault Grammar text fault.Memory = length text ≤ longest_text
IsTextFault Grammar text e = Refused Grammar text e

-- the same cause at the same place; the place of a fault of syntax may be that of any token
pub data SameCause : ParseFault → ParseFault → Type 0 where
  same : {e : ParseFault} → SameCause e e
  both_syntax : {a b : ℕ} → SameCause (fault.Syntax a) (fault.Syntax b)

-- the fault that a stop of the parser is answered by
pub data FaultAt (tokens : List Token) (end : ℕ) : ParseError → ParseFault → Type 0 where
  memory : FaultAt tokens end stop.Memory fault.Memory
  at_place : {left at : ℕ} → IsPlace tokens end at → FaultAt tokens end (stop.Syntax left) (fault.Syntax at)
