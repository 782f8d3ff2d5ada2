-- The levels of expressions, piece by piece, and what their parsers answer.
use Rattle.std.specs.Prelude.{◌≡◌, ℕ, List, Result, ◌<◌, ◌≤◌, ◌-◌, true, false, ◌∷◌, map, length, Option, Some, None}
use Rattle.std.specs.Borrow.{Bor}
use Rattle.ac_types.specs.Exceptions as exceptions
use Rattle.ac_syntax.specs.Signs.{Sign, Fixed}
use Rattle.ac_syntax.specs.Trees.{NameAt, TypeTree, Tree, ExTuple, ExSeq, tree, trees, tree_height, PatTree, ExBool, ExExn, arm_trees, highest_arm}
use Rattle.ac_syntax.specs.Expressions.{Operator, Level, IsTree, operator_of, after_bar, Expr, Part, Binary, Atom, Closed, Parses, front}
use Rattle.ac_syntax.specs.ReadSigns.{read_signs}
use Rattle.ac_syntax.specs.ReadTrees.{tree_of, arm_tree_of}
use Rattle.ac_syntax.specs.PartParsing.{SymbolAt, NoSymbol}
use Rattle.ac_syntax.specs.Patterns.{IsPattern}
use Rattle.ac_syntax.specs.declared.sign.Sign as sign
use Rattle.ac_syntax.specs.declared.sign.Symbol.TheVariants as symbol
use Rattle.ac_syntax.specs.declared.stop.ParseError.{ParseError}
use Rattle.ac_syntax.specs.declared.sign.Symbol.{Symbol}
use Rattle.ac_syntax.specs.declared.surface.SArm.{SArm}
use Rattle.ac_parser_patterns.specs.declared.build.Parsed.{Parsed}
use Rattle.ac_parser_expressions.specs.declared.keywords.Keyword.TheVariants as keyword
use Rattle.ac_parser_patterns.specs.declared.build.Choice.{Choice}
use Rattle.ac_parser_expressions.specs.declared.keywords.Keyword.{Keyword}
use Rattle.ac_parser_patterns.specs.Reading.{Nothing, Measured, FindsOr}
use Rattle.ac_parser_patterns.specs.Pieces.{Made, Before, Behind, Chain, IsArgument, IsHead, IsLastType, IsTypedBinder, Then}
use Rattle.ac_parser_patterns.specs.Forms.{is_measured}

abbrev pub NoTree : ℕ → Level → List Sign → Type 0
NoTree depth level ts = (e : Tree) (rest : List Sign) → IsTree depth level ts e rest → ⊥

-- what stands at one level here is what stands at another there
pub record Same (D : ℕ) (l : Level) (ts : List Sign) (m : Level) (us : List Sign) : Type 0 where
  pub back : (e : Tree) (s : List Sign) → IsTree D m us e s → IsTree D l ts e s
  pub forth : (e : Tree) (s : List Sign) → IsTree D l ts e s → IsTree D m us e s

-- an expression of this kind is read here with its height, or something is missing
abbrev pub ReadsTreeOr : (List Sign → Type 0) → (List Sign → Tree → List Sign → Type 0) → List sign.Sign → Result (Parsed × Bor (List sign.Sign)) ParseError → Type 0
ReadsTreeOr Missing R signs result = FindsOr result (λ x. Measured (λ ts rest. R ts (tree_of x.0.tree) rest) (is_measured x.0) signs x.1.now) (Missing (read_signs signs))

abbrev pub ReadsTree : (List Sign → Tree → List Sign → Type 0) → List sign.Sign → Result (Parsed × Bor (List sign.Sign)) ParseError → Type 0
ReadsTree R signs result = ReadsTreeOr (Nothing R) R signs result

-- an expression is made of what is read here, or nothing of the kind begins the signs
abbrev pub ReadsMade : {A : Type 0} → (List Sign → A → List Sign → Type 0) → (A → Tree) → List sign.Sign → Result (Parsed × Bor (List sign.Sign)) ParseError → Type 0
ReadsMade R make signs result = ReadsTreeOr (Nothing R) (Made R make) signs result

-- what goes on with an expression, with its height, and no more signs are left
pub record Continued (P : List Sign → List Sign → Type 0) (Height : Type 0) (signs rest : List sign.Sign) : Type 0 where
  pub tree : P (read_signs signs) (read_signs rest)
  pub height : Height
  pub within : length rest ≤ length signs

-- an expression goes on so, or it can't
abbrev pub GoesOn : (List Sign → Tree → List Sign → Type 0) → List sign.Sign → Result (Parsed × Bor (List sign.Sign)) ParseError → Type 0
GoesOn R signs result = FindsOr result (λ x. Continued (λ ts rest. R ts (tree_of x.0.tree) rest) (is_measured x.0) signs x.1.now) (Nothing R (read_signs signs))

-- the expression that a symbol is by itself
abbrev pub base_expr : Symbol → ℕ → Option Tree
base_expr symbol.True at = Some (ExBool at true)
base_expr symbol.False at = Some (ExBool at false)
base_expr symbol.NotFound at = Some (ExExn at exceptions.not_found)
base_expr symbol.DivisionByZero at = Some (ExExn at exceptions.division_by_zero)
base_expr symbol.MatchFailure at = Some (ExExn at exceptions.match_failure)
base_expr symbol.EndOfFile at = Some (ExExn at exceptions.end_of_file)
base_expr s at = None

-- the signs begin with an atom that is a leaf
pub record FormLeafAt (ts : List Sign) (e : Tree) (rest : List Sign) : Type 0 where
  pub parses : Parses Atom Closed ts e rest
  pub leaf : tree_height e ≡ 1

abbrev pub NoFormLeaf : List Sign → Type 0
NoFormLeaf ts = (e : Tree) (rest : List Sign) → Parses Atom Closed ts e rest → ⊥

-- no leaf stands here, if nothing does that begins with one of these symbols
abbrev pub NoOtherLeaf : List Sign → Type 0
NoOtherLeaf ts = NoSymbol symbol.Open ts → NoSymbol symbol.Match ts → NoSymbol symbol.Try ts → NoFormLeaf ts

-- the first sign is an operator of this level
pub record OperatorAt (level : ℕ) (o : Operator) (ts rest : List Sign) : Type 0 where
  pub symbol : Symbol
  pub at : ℕ
  pub is : ts ≡ Fixed at symbol ∷ rest
  pub named : operator_of symbol ≡ Some (level, o)

abbrev pub NoOperator : ℕ → List Sign → Type 0
NoOperator level ts = (o : Operator) (rest : List Sign) → OperatorAt level o ts rest → ⊥

-- an operand of the next tighter level, behind which no operator of this level stands
pub record IsLastOperand (level depth : ℕ) (ts : List Sign) (e : Tree) (rest : List Sign) : Type 0 where
  pub is : IsTree depth (Binary (level - 1)) ts e rest
  pub ends : NoOperator level rest

-- the words that begin a part
abbrev pub keyword_symbol : Keyword → Symbol
keyword_symbol keyword.Let = symbol.Let
keyword_symbol keyword.Fun = symbol.Fun
keyword_symbol keyword.Rec = symbol.Rec
keyword_symbol keyword.If = symbol.If
keyword_symbol keyword.Marshal = symbol.Marshal
keyword_symbol keyword.Unmarshal = symbol.Unmarshal
keyword_symbol keyword.Raise = symbol.Raise

abbrev pub NoKeyword : List Sign → Type 0
NoKeyword ts = (k : Keyword) (rest : List Sign) → SymbolAt (keyword_symbol k) ts rest → ⊥

-- what stands behind the first word of a part, with trees of at most this height
abbrev pub IsLet : ℕ → List Sign → (NameAt × TypeTree) × (Tree × Tree) → List Sign → Type 0
IsLet depth = Then (IsTypedBinder symbol.Equals) (Then (Before symbol.In (IsTree depth Expr)) (IsTree depth Expr))

abbrev pub IsLetRec : ℕ → List Sign → (NameAt × ((NameAt × TypeTree) × TypeTree)) × (Tree × Tree) → List Sign → Type 0
IsLetRec depth = Then IsHead (Then (Before symbol.In (IsTree depth Expr)) (IsTree depth Expr))

abbrev pub IsFun : ℕ → List Sign → (NameAt × TypeTree) × Tree → List Sign → Type 0
IsFun depth = Then IsArgument (Behind symbol.Arrow (IsTree depth Expr))

abbrev pub IsRec : ℕ → List Sign → (NameAt × ((NameAt × TypeTree) × TypeTree)) × Tree → List Sign → Type 0
IsRec depth = Then IsHead (IsTree depth Expr)

abbrev pub IsIf : ℕ → List Sign → Tree × (Tree × Tree) → List Sign → Type 0
IsIf depth = Then (Before symbol.Then (IsTree depth Expr)) (Then (Before symbol.Else (IsTree depth Expr)) (IsTree depth Part))

abbrev pub IsMarshal : ℕ → List Sign → Tree × (Tree × TypeTree) → List Sign → Type 0
IsMarshal depth = Then (IsTree depth Atom) (Then (IsTree depth Atom) (Behind symbol.Colon IsLastType))

abbrev pub IsUnmarshal : ℕ → List Sign → Tree × TypeTree → List Sign → Type 0
IsUnmarshal depth = Then (IsTree depth Atom) (Behind symbol.As IsLastType)

abbrev pub IsRaise : ℕ → List Sign → Tree × TypeTree → List Sign → Type 0
IsRaise depth = Then (IsTree depth Atom) (Behind symbol.Colon IsLastType)

-- the parts of a sequence behind its first `;`
pub record IsLastPart (depth : ℕ) (ts : List Sign) (e : Tree) (rest : List Sign) : Type 0 where
  pub is : IsTree depth Part ts e rest
  pub ends : 8 < front rest

abbrev pub IsParts : ℕ → List Sign → List Tree → List Sign → Type 0
IsParts depth = Chain (Before symbol.Semicolon (IsTree depth Part)) (IsLastPart depth)

abbrev pub sequence_tree : ℕ → Tree → List Tree → Tree
sequence_tree at first others = ExSeq at (tree first (trees others))

-- the parts of a tuple behind its first comma, and its parenthesis
abbrev pub IsItems : ℕ → List Sign → List Tree → List Sign → Type 0
IsItems depth = Chain (Before symbol.Comma (IsTree depth Expr)) (Before symbol.Close (IsTree depth Expr))

abbrev pub tuple_tree : ℕ → Tree → List Tree → Tree
tuple_tree at first others = ExTuple at (tree first (trees others))

-- a pattern, and the expression that it leads to
abbrev pub IsArm : ℕ → List Sign → PatTree × Tree → List Sign → Type 0
IsArm depth = Then (Before symbol.Arrow IsPattern) (IsTree depth Expr)

-- an arm is read here, with the height of its expression, or none begins the signs
abbrev pub ReadsArm : ℕ → List sign.Sign → Result ((SArm × ℕ) × Bor (List sign.Sign)) ParseError → Type 0
ReadsArm depth signs result = FindsOr result (λ x. Measured (λ ts rest. IsArm depth ts (arm_tree_of x.0.0) rest) (x.0.1 ≡ tree_height (arm_tree_of x.0.0).1) signs x.1.now) (Nothing (IsArm depth) (read_signs signs))

-- arms and their `end`
abbrev pub IsArms : ℕ → List Sign → List (PatTree × Tree) → List Sign → Type 0
IsArms depth = Chain (Before symbol.Bar (IsArm depth)) (Before symbol.End (IsArm depth))

-- the height of the highest of some arms, which is within the bound
pub record ArmsMeasured (depth : ℕ) (arms : List SArm) (most : ℕ) : Type 0 where
  pub is : most ≡ highest_arm (arm_trees (map arm_tree_of arms))
  pub low : most ≤ depth

-- arms are read here with their `end` and the height of the highest, or none begin the signs
abbrev pub ReadsArms : ℕ → List sign.Sign → Result ((List SArm × ℕ) × Bor (List sign.Sign)) ParseError → Type 0
ReadsArms depth signs result = FindsOr result (λ x. Measured (λ ts rest. IsArms depth ts (map arm_tree_of x.0.0) rest) (ArmsMeasured depth x.0.0 x.0.1) signs x.1.now) (Nothing (IsArms depth) (read_signs signs))

-- what stands behind a `match` or a `try`
abbrev pub IsChoice : ℕ → List Sign → Tree × List (PatTree × Tree) → List Sign → Type 0
IsChoice depth = Then (Before symbol.With (IsTree depth Expr)) (λ ts arms rest. IsArms depth (after_bar ts) arms rest)

-- the expression and the arms have these heights
pub record ChoiceMeasured (depth : ℕ) (choice : Choice) : Type 0 where
  pub of : is_measured choice.of
  pub arms : ArmsMeasured depth choice.arms choice.height

-- what stands behind a `match` or a `try` is read here with its heights, or nothing of the kind begins the signs
abbrev pub ReadsChoice : ℕ → List sign.Sign → Result (Choice × Bor (List sign.Sign)) ParseError → Type 0
ReadsChoice depth signs result = FindsOr result (λ x. Measured (λ ts rest. IsChoice depth ts (tree_of x.0.of.tree, map arm_tree_of x.0.arms) rest) (ChoiceMeasured depth x.0) signs x.1.now) (Nothing (IsChoice depth) (read_signs signs))
