-- The signs that the grammar reads: tokens, with symbols and reserved words in place of their bytes.
use Rattle.std.specs.Prelude.{ℕ, List, [], ◌∷◌, map, codes, bytes_eq, Option, Some, None, if◌then◌else◌}
use Rattle.ac_types.specs.Types.{Bytes}
use Rattle.ac_lexer.specs.declared.tokens.Token.{Token}
use Rattle.ac_lexer.specs.declared.tokens.TokenKind.{TokenKind}
use Rattle.ac_lexer.specs.declared.tokens.TokenKind.TheVariants as kind
use Rattle.ac_syntax.specs.declared.sign.Symbol.{Symbol}
use Rattle.ac_syntax.specs.declared.sign.Symbol.TheVariants.{Open, Close, OpenSquare, CloseSquare, Comma, Semicolon, Colon, Dot, Equals, Less, Plus, Minus, Star, Slash, Caret, Cons, Arrow, And, Or, Bar, Wild, As, BoolType, By, Else, End, ExnType, False, Fun, If, Import, In, IntType, Let, Like, ListType, Mark, Marshal, Match, Mod, Module, MyName, NameWord, Not, OptionType, Raise, Rec, Sig, StringType, Struct, Then, True, Try, TypeWord, UnitType, Unmarshal, Val, Version, With, SomeWord, NoneWord, StaticLink, HereAlready, Failure, InvalidArgument, NotFound, DivisionByZero, MatchFailure, EndOfFile, SysError, MarshalFailure, UnmarshalFailure, ResolveFailure}

-- each sign has the place of its first byte; `Other` is what no text has: bytes that are neither a symbol nor a reserved word
pub data Sign : Type 0 where
  Int : (at n : ℕ) → Sign
  Str : (at : ℕ) (text : Bytes) → Sign
  Lower : (at : ℕ) (word : Bytes) → Sign
  Upper : (at : ℕ) (word : Bytes) → Sign
  Fixed : (at : ℕ) (symbol : Symbol) → Sign
  Other : (at : ℕ) → Sign

-- how each symbol and each reserved word is spelled
abbrev pub spellings : List (Bytes × Symbol)
spellings =
    (codes "(", Open) ∷ (codes ")", Close) ∷ (codes "[", OpenSquare) ∷ (codes "]", CloseSquare) ∷ (codes ",", Comma) ∷ (codes ";", Semicolon) ∷ (codes ":", Colon) ∷ (codes ".", Dot) ∷ (codes "=", Equals) ∷ (codes "<", Less) ∷ (codes "+", Plus) ∷ (codes "-", Minus) ∷ (codes "*", Star) ∷ (codes "/", Slash) ∷ (codes "^", Caret) ∷ (codes "::", Cons) ∷ (codes "->", Arrow) ∷ (codes "&&", And) ∷ (codes "||", Or) ∷ (codes "|", Bar) ∷ (codes "_", Wild) ∷ (codes "as", As) ∷ (codes "bool", BoolType) ∷ (codes "by", By) ∷ (codes "else", Else) ∷ (codes "end", End) ∷ (codes "exn", ExnType) ∷ (codes "false", False) ∷ (codes "fun", Fun) ∷ (codes "if", If) ∷ (codes "import", Import) ∷ (codes "in", In) ∷ (codes "int", IntType) ∷ (codes "let", Let) ∷ (codes "like", Like) ∷ (codes "list", ListType) ∷ (codes "mark", Mark) ∷ (codes "marshal", Marshal) ∷ (codes "match", Match) ∷ (codes "mod", Mod) ∷ (codes "module", Module) ∷ (codes "myname", MyName) ∷ (codes "name", NameWord) ∷ (codes "not", Not) ∷ (codes "option", OptionType) ∷ (codes "raise", Raise) ∷ (codes "rec", Rec) ∷ (codes "sig", Sig) ∷ (codes "string", StringType) ∷ (codes "struct", Struct) ∷ (codes "then", Then) ∷ (codes "true", True) ∷ (codes "try", Try) ∷ (codes "type", TypeWord) ∷ (codes "unit", UnitType) ∷ (codes "unmarshal", Unmarshal) ∷ (codes "val", Val) ∷ (codes "version", Version) ∷ (codes "with", With) ∷ (codes "Some", SomeWord) ∷ (codes "None", NoneWord) ∷ (codes "Static_Link", StaticLink) ∷ (codes "Here_Already", HereAlready) ∷ (codes "Failure", Failure) ∷ (codes "Invalid_argument", InvalidArgument) ∷ (codes "Not_found", NotFound) ∷ (codes "Division_by_zero", DivisionByZero) ∷ (codes "Match_failure", MatchFailure) ∷ (codes "End_of_file", EndOfFile) ∷ (codes "Sys_error", SysError) ∷ (codes "Marshal_failure", MarshalFailure) ∷ (codes "Unmarshal_failure", UnmarshalFailure) ∷ (codes "Resolve_failure", ResolveFailure) ∷ []

-- what stands under these bytes
abbrev pub sign_spelled : Bytes → List (Bytes × Symbol) → Option Symbol
sign_spelled bytes [] = None
sign_spelled bytes (x ∷ xs) = if bytes_eq x.0 bytes then Some x.1 else sign_spelled bytes xs

unfoldable pub symbol_of : Bytes → Option Symbol
symbol_of bytes = sign_spelled bytes spellings

abbrev pub fixed : ℕ → Option Symbol → Sign
fixed at (Some symbol) = Fixed at symbol
fixed at None = Other at

abbrev pub sign_at : ℕ → TokenKind → Sign
sign_at at (kind.Int n) = Int at n
sign_at at (kind.Str text) = Str at text.0
sign_at at (kind.Lower word) = Lower at word
sign_at at (kind.Upper word) = Upper at word
sign_at at (kind.Fixed text) = fixed at (symbol_of text.0)

abbrev pub sign_of : Token → Sign
sign_of token = sign_at token.at token.kind

abbrev pub signs : List Token → List Sign
signs tokens = map sign_of tokens

abbrev pub sign_place : Sign → ℕ
sign_place (Int at n) = at
sign_place (Str at text) = at
sign_place (Lower at word) = at
sign_place (Upper at word) = at
sign_place (Fixed at symbol) = at
sign_place (Other at) = at

-- the place of the first sign: that of what begins here
abbrev pub here : List Sign → ℕ
here [] = 0
here (t ∷ ts) = sign_place t
