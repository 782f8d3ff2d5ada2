-- The forms of patterns, piece by piece.
use Rattle.std.specs.Prelude.{◌≡◌, ℕ, true, false, List, Option, Some, None, Result, MatchResult}
use Rattle.std.specs.Borrow.{Bor}
use Rattle.ac_types.specs.Exceptions as exceptions
use Rattle.ac_types.specs.ReadNumbers.{texted_number}
use Rattle.ac_syntax.specs.Signs.{Sign}
use Rattle.ac_syntax.specs.Trees.{NameAt, TypeTree, PatTree, PatVar, PatWild, PatBool, PatAbsent, PatExn, PatTuple, PatPresent, PatExnOf, pat_tree, pat_trees, pat_height}
use Rattle.ac_syntax.specs.Patterns.{PatLevel, Pattern, Single, ParsesPat, IsPatTree}
use Rattle.ac_syntax.specs.ReadSigns.{read_signs}
use Rattle.ac_syntax.specs.ReadTrees.{pat_of}
use Rattle.ac_syntax.specs.PartParsing.{SymbolAt, NoSymbol}
use Rattle.ac_syntax.specs.declared.sign.Sign as sign
use Rattle.ac_syntax.specs.declared.stop.ParseError.{ParseError}
use Rattle.ac_syntax.specs.declared.stop.ParseError.TheVariants as stop
use Rattle.ac_syntax.specs.declared.sign.Symbol.{Symbol}
use Rattle.ac_syntax.specs.declared.sign.Symbol.TheVariants as symbol
use Rattle.ac_parser_patterns.specs.declared.front.Prefix.{Prefix}
use Rattle.ac_parser_patterns.specs.declared.front.Prefix.TheVariants as prefix
use Rattle.ac_parser_patterns.specs.declared.patterns.ParsedPat.{ParsedPat}
use Rattle.ac_parser_patterns.specs.Reading.{Nothing, Measured, FindsOr}
use Rattle.ac_parser_patterns.specs.Pieces.{Before, Chain, IsTypedBinder}

abbrev pub NoPat : ℕ → PatLevel → List Sign → Type 0
NoPat depth level ts = (p : PatTree) (rest : List Sign) → IsPatTree depth level ts p rest → ⊥

abbrev pub prefixed_pat : Prefix → ℕ → PatTree → PatTree
prefixed_pat prefix.Present at p = PatPresent at p
prefixed_pat (prefix.Exn exn) at p = PatExnOf at (texted_number exn) p

-- the pattern that a symbol is by itself
abbrev pub base_pat : Symbol → ℕ → Option PatTree
base_pat symbol.Wild at = Some (PatWild at)
base_pat symbol.True at = Some (PatBool at true)
base_pat symbol.False at = Some (PatBool at false)
base_pat symbol.NoneWord at = Some (PatAbsent at)
base_pat symbol.NotFound at = Some (PatExn at exceptions.not_found)
base_pat symbol.DivisionByZero at = Some (PatExn at exceptions.division_by_zero)
base_pat symbol.MatchFailure at = Some (PatExn at exceptions.match_failure)
base_pat symbol.EndOfFile at = Some (PatExn at exceptions.end_of_file)
base_pat s at = None

-- the signs begin with a pattern that is a leaf
pub record PatLeafAt (ts : List Sign) (p : PatTree) (rest : List Sign) : Type 0 where
  pub parses : ParsesPat Single ts p rest
  pub leaf : pat_height p ≡ 1

abbrev pub NoPatLeaf : List Sign → Type 0
NoPatLeaf ts = (p : PatTree) (rest : List Sign) → ParsesPat Single ts p rest → ⊥

-- the other parts of a tuple and its parenthesis
abbrev pub IsPats : ℕ → List Sign → List PatTree → List Sign → Type 0
IsPats depth = Chain (Before symbol.Comma (IsPatTree depth Pattern)) (Before symbol.Close (IsPatTree depth Pattern))

pub record PatTupleOf (depth at : ℕ) (first : PatTree) (ts : List Sign) (p : PatTree) (rest : List Sign) : Type 0 where
  pub others : List PatTree
  pub is : p ≡ PatTuple at (pat_tree first (pat_trees others))
  pub read : IsPats depth ts others rest

abbrev pub pat_measured : ParsedPat → Type 0
pat_measured p = p.height ≡ pat_height (pat_of p.tree)

-- a pattern of this kind is read here with its height, or something is missing
abbrev pub ReadsPatOr : (List Sign → Type 0) → (List Sign → PatTree → List Sign → Type 0) → List sign.Sign → Result (ParsedPat × Bor (List sign.Sign)) ParseError → Type 0
ReadsPatOr Missing R signs result = FindsOr result (λ x. Measured (λ ts rest. R ts (pat_of x.0.tree) rest) (pat_measured x.0) signs x.1.now) (Missing (read_signs signs))

abbrev pub ReadsPat : (List Sign → PatTree → List Sign → Type 0) → List sign.Sign → Result (ParsedPat × Bor (List sign.Sign)) ParseError → Type 0
ReadsPat R signs result = ReadsPatOr (Nothing R) R signs result

-- this pattern, with its height, and what was left
pub record IsMadePat (p : PatTree) (signs : List sign.Sign) (made : ParsedPat) (rest : List sign.Sign) : Type 0 where
  pub tree : pat_of made.tree ≡ p
  pub height : pat_measured made
  pub left : rest ≡ signs

-- this pattern is made in front of these signs, unless memory runs out
abbrev pub MakesPat : PatTree → List sign.Sign → Result (ParsedPat × Bor (List sign.Sign)) ParseError → Type 0
MakesPat p signs result = MatchResult result (λ x. IsMadePat p signs x.0 x.1.now) (λ e. e ≡ stop.Memory)

-- this pattern is made of what is closed by a `)` here
abbrev pub ClosesPat : PatTree → List sign.Sign → Result (ParsedPat × Bor (List sign.Sign)) ParseError → Type 0
ClosesPat p signs result = FindsOr result (λ x. Measured (λ ts rest. (pat_of x.0.tree ≡ p) × SymbolAt symbol.Close ts rest) (pat_measured x.0) signs x.1.now) (NoSymbol symbol.Close (read_signs signs))

-- a variable with its type and a `)`
pub record PatVarAt (at : ℕ) (ts : List Sign) (p : PatTree) (rest : List Sign) : Type 0 where
  pub binder : NameAt × TypeTree
  pub is : p ≡ PatVar at binder.0 binder.1
  pub read : IsTypedBinder symbol.Close ts binder rest
