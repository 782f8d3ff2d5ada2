-- The trees of expressions that are made, with their heights.
use Rattle.std.specs.Prelude.{◌≡◌, ℕ, List, Result, MatchResult}
use Rattle.std.specs.Borrow.{Bor}
use Rattle.ac_types.specs.ReadNumbers.{primitive_number, texted_number}
use Rattle.ac_syntax.specs.Signs.{Sign}
use Rattle.ac_syntax.specs.Trees.{NameAt, TypeTree, Tree, ExExnOf, ExPresent, ExFun, ExRec, ExLet, ExLetRec, ExIf, ExRaise, ExMarshal, ExUnmarshal, tree_height}
use Rattle.ac_syntax.specs.Expressions.{Operator, Prim, Consing, Both, Either}
use Rattle.ac_syntax.specs.ReadSigns.{read_signs}
use Rattle.ac_syntax.specs.ReadTrees.{tree_of}
use Rattle.ac_syntax.specs.PartParsing.{SymbolAt, NoSymbol}
use Rattle.ac_syntax.specs.declared.sign.Sign as sign
use Rattle.ac_syntax.specs.declared.sign.Symbol.TheVariants as symbol
use Rattle.ac_syntax.specs.declared.stop.ParseError.{ParseError}
use Rattle.ac_syntax.specs.declared.stop.ParseError.TheVariants as stop
use Rattle.ac_parser_patterns.specs.declared.build.Parsed.{Parsed}
use Rattle.ac_parser_patterns.specs.declared.build.Operator as code
use Rattle.ac_parser_patterns.specs.declared.build.Operator.TheVariants as operator
use Rattle.ac_parser_patterns.specs.declared.front.Prefix.{Prefix}
use Rattle.ac_parser_patterns.specs.declared.front.Prefix.TheVariants as prefix
use Rattle.ac_parser_patterns.specs.Reading.{Measured, FindsOr}

abbrev pub is_measured : Parsed → Type 0
is_measured p = p.height ≡ tree_height (tree_of p.tree)

-- this expression, with its height, and what was left
pub record IsMadeTree (e : Tree) (signs : List sign.Sign) (made : Parsed) (rest : List sign.Sign) : Type 0 where
  pub tree : tree_of made.tree ≡ e
  pub height : is_measured made
  pub left : rest ≡ signs

-- this expression is made in front of these signs, unless memory runs out
abbrev pub MakesTree : Tree → List sign.Sign → Result (Parsed × Bor (List sign.Sign)) ParseError → Type 0
MakesTree e signs result = MatchResult result (λ x. IsMadeTree e signs x.0 x.1.now) (λ s. s ≡ stop.Memory)

-- this expression is made of what is closed by a `)` here
abbrev pub Closes : Tree → List sign.Sign → Result (Parsed × Bor (List sign.Sign)) ParseError → Type 0
Closes e signs result = FindsOr result (λ x. Measured (λ ts rest. (tree_of x.0.tree ≡ e) × SymbolAt symbol.Close ts rest) (is_measured x.0) signs x.1.now) (NoSymbol symbol.Close (read_signs signs))

abbrev pub prefixed : Prefix → ℕ → Tree → Tree
prefixed prefix.Present at e = ExPresent at e
prefixed (prefix.Exn exn) at e = ExExnOf at (texted_number exn) e

abbrev pub operator_read : code.Operator → Operator
operator_read (operator.Prim primitive) = Prim (primitive_number primitive)
operator_read operator.Consing = Consing
operator_read operator.Both = Both
operator_read operator.Either = Either

abbrev pub let_tree : ℕ → (NameAt × TypeTree) × (Tree × Tree) → Tree
let_tree at x = ExLet at x.0.0 x.0.1 x.1.0 x.1.1

abbrev pub let_rec_tree : ℕ → (NameAt × ((NameAt × TypeTree) × TypeTree)) × (Tree × Tree) → Tree
let_rec_tree at x = ExLetRec at x.0.0 x.0.1.0.0 x.0.1.0.1 x.0.1.1 x.1.0 x.1.1

abbrev pub fun_tree : ℕ → (NameAt × TypeTree) × Tree → Tree
fun_tree at x = ExFun at x.0.0 x.0.1 x.1

abbrev pub rec_tree : ℕ → (NameAt × ((NameAt × TypeTree) × TypeTree)) × Tree → Tree
rec_tree at x = ExRec at x.0.0 x.0.1.0.0 x.0.1.0.1 x.0.1.1 x.1

abbrev pub if_tree : ℕ → Tree × (Tree × Tree) → Tree
if_tree at x = ExIf at x.0 x.1.0 x.1.1

abbrev pub marshal_tree : ℕ → Tree × (Tree × TypeTree) → Tree
marshal_tree at x = ExMarshal at x.0 x.1.0 x.1.1

abbrev pub unmarshal_tree : ℕ → Tree × TypeTree → Tree
unmarshal_tree at x = ExUnmarshal at x.0 x.1

abbrev pub raise_tree : ℕ → Tree × TypeTree → Tree
raise_tree at x = ExRaise at x.0 x.1
