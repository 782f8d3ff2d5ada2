-- Signs behind which others stand are no type, and what stops and faults say of a text.
use Rattle.std.proofs.Common.{◌≡◌, ap, ◌<◌, false, List, [], ◌∷◌, length, arith}
use Rattle.std.specs.Bool.{◌==◌}
use Rattle.ac_types.specs.Types.{Bytes}
use Rattle.ac_lexer.specs.declared.tokens.Token.{Token}
use Rattle.ac_syntax.specs.ReadSigns.{read_signs}
use Rattle.ac_syntax.specs.Signs.{Sign, signs}
use Rattle.ac_syntax.specs.declared.sign.Sign as code
use Rattle.ac_syntax.specs.Trees.{TypeTree}
use Rattle.ac_syntax.specs.TypeForms.{IsType}
use Rattle.ac_syntax.specs.declared.fault.ParseFault.{ParseFault}
use Rattle.ac_syntax.specs.declared.fault.ParseFault.TheVariants as fault
use Rattle.ac_syntax.specs.declared.stop.ParseError.{ParseError}
use Rattle.ac_syntax.specs.PartParsing.{OnSyntax}
use Rattle.ac_syntax.specs.Texts.{IsRead, IsUnread, FaultAt, memory, at_place}
use Rattle.ac_syntax.proofs.UniqueTypes.{same_type}
use Rattle.ac_audit.specs.TypeTexts.{unread_type, no_type}
use Rattle.ac_audit.specs.inner.Faults.{IsTreeFault}

-- these signs are no type
abbrev pub NoWholeType : List Sign → Type 0
NoWholeType ts = (tree : TypeTree) → IsType ts tree [] → ⊥

not_empty : (rest : List Sign) → 0 < length rest → [] ≡ rest → ⊥
not_empty rest some e = let n : 0 ≡ length rest = ap length e in absurd (omega (arith, some, n))

pub some_left : (rest : List code.Sign) → false ≡ (length rest == 0) → 0 < length (read_signs rest)
some_left [] e = absurd (cc)
some_left (x ∷ rest) e = omega arith

pub more_behind : (ts rest : List Sign) (tree : TypeTree) → IsType ts tree rest → 0 < length rest → NoWholeType ts
more_behind ts rest tree is some other whole = not_empty rest some (same_type whole is).rest

pub fault_of : (text : Bytes) (tokens : List Token) (s : ParseError) (e : ParseFault) → IsRead text tokens → FaultAt tokens (length text) s e → OnSyntax s (NoWholeType (signs tokens)) → IsTreeFault text e
fault_of text tokens s e read memory none = tt
fault_of text tokens s e read (at_place here) none = no_type read none here

pub unread_fault : (text : Bytes) (e : ParseFault) → IsUnread text e → IsTreeFault text e
unread_fault text (fault.TooLong len) u = unread_type u
unread_fault text (fault.Lexical at) u = unread_type u
unread_fault text (fault.TooDeep at) u = unread_type u
unread_fault text (fault.Syntax at) u = unread_type u
unread_fault text fault.Memory u = tt
