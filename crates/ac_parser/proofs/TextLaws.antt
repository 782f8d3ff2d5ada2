-- What the parsers say of signs, over the text.
use Rattle.std.proofs.Common.{◌≡◌, ℕ, ◌<◌, ◌≤◌, List, length, sym, subst}
use Rattle.ac_types.specs.Limits.{longest_text}
use Rattle.ac_types.specs.Types.{Bytes}
use Rattle.ac_lexer.specs.declared.tokens.Token.{Token}
use Rattle.ac_lexer.specs.Tokens.{Tokens, FailsAt}
use Rattle.ac_lexer.proofs.Unique as lexed
use Rattle.ac_syntax.specs.Signs.{Sign, signs}
use Rattle.ac_syntax.specs.Openers.{IsDeep}
use Rattle.ac_syntax.specs.Trees.{ProgramTree}
use Rattle.ac_syntax.specs.declared.fault.ParseFault.{ParseFault}
use Rattle.ac_syntax.specs.declared.fault.ParseFault.TheVariants as fault
use Rattle.ac_syntax.specs.declared.stop.ParseError.{ParseError}
use Rattle.ac_syntax.specs.declared.stop.ParseError.TheVariants as stop
use Rattle.ac_syntax.specs.PartParsing.{OnSyntax}
use Rattle.ac_parser.specs.inner.ProgramParsing.{NoProgramTree}
use Rattle.ac_syntax.specs.Texts.{IsRead, IsPlace, UnreadText, too_long, lexical, too_deep, unread, syntax, IsUnread, IsTextFault, FaultAt, memory, at_place}

pub fault_of : (G : List Sign → ProgramTree → Type 0) (text : Bytes) (tokens : List Token) (s : ParseError) (e : ParseFault) → IsRead text tokens → FaultAt tokens (length text) s e → OnSyntax s (NoProgramTree G (signs tokens)) → IsTextFault G text e
fault_of G text tokens s e read memory none = read.short
fault_of G text tokens s e read (at_place here) none = syntax read none here

pub unread_fault : (G : List Sign → ProgramTree → Type 0) (text : Bytes) (e : ParseFault) → IsUnread text e → IsTextFault G text e
unread_fault G text (fault.TooLong len) u = unread u
unread_fault G text (fault.Lexical at) u = unread u
unread_fault G text (fault.TooDeep at) u = unread u
unread_fault G text (fault.Syntax at) u = unread u
unread_fault G text fault.Memory u = u

pub long_text : (text : Bytes) (len : ℕ) → (longest_text < length text) × (len ≡ length text) → UnreadText text (fault.TooLong len)
long_text text len is = subst (λ (n : ℕ). UnreadText text (fault.TooLong n)) (sym is.1) (too_long is.0)

pub unlexed_text : (text : Bytes) (at : ℕ) → (length text ≤ longest_text) × FailsAt text at → UnreadText text (fault.Lexical at)
unlexed_text text at is = lexical is.0 is.1

pub deep_text : (text : Bytes) (tokens : List Token) (at : ℕ) → length text ≤ longest_text → Tokens text tokens → IsDeep (signs tokens) at → UnreadText text (fault.TooDeep at)
deep_text text tokens at short lexes deep = too_deep short lexes deep

pub memory_fault : (tokens : List Token) (end : ℕ) (s : ParseError) → s ≡ stop.Memory → FaultAt tokens end s fault.Memory
memory_fault tokens end s is = subst (λ (x : ParseError). FaultAt tokens end x fault.Memory) (sym is) memory

pub syntax_fault : (tokens : List Token) (end left at : ℕ) (s : ParseError) → s ≡ stop.Syntax left → IsPlace tokens end at → FaultAt tokens end s (fault.Syntax at)
syntax_fault tokens end left at s is here = subst (λ (x : ParseError). FaultAt tokens end x (fault.Syntax at)) (sym is) (at_place here)
