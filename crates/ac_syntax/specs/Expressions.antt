-- Which signs are which expression.
--
--   expr    = closed | closed ';' expr | swallow
--   swallow = 'let' lower ':' type '=' expr 'in' expr
--           | 'let' 'rec' lower '(' lower ':' type ')' ':' type '=' expr 'in' expr
--           | 'fun' '(' lower ':' type ')' '->' expr
--           | 'rec' lower '(' lower ':' type ')' ':' type '=' expr
--           | 'if' expr 'then' expr 'else' swallow
--   closed  = 'if' expr 'then' expr 'else' closed
--           | 'marshal' atom atom ':' type | 'unmarshal' atom 'as' type
--           | 'raise' atom ':' type | or
--   or      = and ['||' or]
--   and     = cmp ['&&' and]
--   cmp     = cons [('=' | '<') cons]
--   cons    = sum ['::' cons]
--   sum     = prod (('+' | '-' | '^') prod)*        (to the left)
--   prod    = unary (('*' | '/' | 'mod') unary)*    (to the left)
--   unary   = '-' unary | 'not' unary | app
--   app     = 'Some' atom | EXN1 atom | atom (atom)*   (to the left)
--   atom    = INT | STRING | 'true' | 'false' | '(' ')' | EXN0 | lower | UPPER '.' lower
--           | '(' expr ')' | '(' expr (',' expr)* ')' | '(' '[' ']' ':' type ')' | '(' 'None' ':' type ')'
--           | 'match' expr 'with' arms | 'try' expr 'with' arms
--   arms    = ['|'] pat '->' expr ('|' pat '->' expr)* 'end'
--
-- In the tuple form there is at least one comma. A `-` before a single INT that stands without parentheses makes one constant of both.
-- A sequence in parentheses is one part of the sequence around it, also at its end.
use Rattle.std.specs.Prelude.{◌≡◌, ℕ, zero, suc, ◌<◌, ◌≤◌, pos, neg_ℤ, Bool, true, false, List, ◌∷◌, Option, Some, None, if◌then◌else◌, nat_le, nat_eq}
use Rattle.ac_types.specs.Limits.{highest_expression}
use Rattle.ac_types.specs.Types.{Bytes}
use Rattle.ac_syntax.specs.Signs.{Sign, Int, Str, Lower, Upper, Fixed, here}
use Rattle.ac_types.specs.Primitives as primitives
use Rattle.ac_syntax.specs.Trees.{TypeTree, PatTree, Tree, ExInt, ExBool, ExStr, ExUnit, ExExn, ExExnOf, ExTuple, ExNil, ExAbsent, ExPresent, ExCons, ExVar, ExOf, ExFun, ExRec, ExApp, ExLet, ExLetRec, ExIf, ExSeq, ExMatch, ExTry, ExRaise, ExAnd, ExOr, ExOp, ExMarshal, ExUnmarshal, Trees, no_trees, tree, ArmTrees, no_arm_trees, arm_tree, tree_height}
use Rattle.ac_syntax.specs.TypeForms.{IsType}
use Rattle.ac_syntax.specs.Patterns.{IsPattern, exception_sign, exception_with_string}
use Rattle.ac_syntax.specs.declared.sign.Symbol.{Symbol}
use Rattle.ac_syntax.specs.declared.sign.Symbol.TheVariants as symbol
use Rattle.ac_syntax.specs.declared.sign.Symbol.TheVariants.{Open, Close, OpenSquare, CloseSquare, Comma, Semicolon, Colon, Dot, Equals, Minus, Arrow, Bar, As, Else, End, False, Fun, If, In, Let, Marshal, Match, NoneWord, Not, Raise, Rec, SomeWord, Then, True, Try, Unmarshal, With}

-- an operator between two sides: a primitive by its number, or one that is a form of its own
pub data Operator : Type 0 where
  Prim : (number : ℕ) → Operator
  Consing : Operator
  Both : Operator
  Either : Operator

-- an operator, with its level, 1 the tightest
abbrev pub operator_of : Symbol → Option (ℕ × Operator)
operator_of symbol.Star = Some (1, Prim primitives.mul)
operator_of symbol.Slash = Some (1, Prim primitives.div)
operator_of symbol.Mod = Some (1, Prim primitives.rem)
operator_of symbol.Plus = Some (2, Prim primitives.add)
operator_of symbol.Minus = Some (2, Prim primitives.sub)
operator_of symbol.Caret = Some (2, Prim primitives.concat)
operator_of symbol.Cons = Some (3, Consing)
operator_of symbol.Equals = Some (4, Prim primitives.eq)
operator_of symbol.Less = Some (4, Prim primitives.lt)
operator_of symbol.And = Some (5, Both)
operator_of symbol.Or = Some (6, Either)
operator_of s = None

-- how the operators of a level group
pub data Side : Type 0 where
  ToLeft : Side
  ToRight : Side
  Once : Side

abbrev pub side_of : ℕ → Side
side_of k = if nat_le k 2 then ToLeft else if nat_eq k 4 then Once else ToRight

-- the tree of an operator and its sides
abbrev pub operator_tree : ℕ → Operator → Tree → Tree → Tree
operator_tree at (Prim number) a b = ExOp at number (tree a (tree b no_trees))
operator_tree at Consing a b = ExCons at a b
operator_tree at Both a b = ExAnd at a b
operator_tree at Either a b = ExOr at a b

-- whether the operand of a `-` that begins with these signs and has this tree is a single INT
abbrev pub is_bare : List Sign → Tree → Bool
is_bare (Int a n ∷ ts) (ExInt b m) = true
is_bare ts e = false

-- the signs without a `|` at their front
abbrev pub after_bar : List Sign → List Sign
after_bar (Fixed a Bar ∷ ts) = ts
after_bar ts = ts

-- Expr, Unary, App and Atom are those of the grammar. Part is what is closed or swallows.
-- Binary k is an operand of level k or tighter: 0 is unary, 1 prod, 2 sum, 3 cons, 4 cmp, 5 and, 6 or.
-- After k at a is what may follow a first operand a that begins at this place, at level k. Args at f is what may follow a function f.
pub data Level : Type 0 where
  Expr : Level
  Part : Level
  Binary : (k : ℕ) → Level
  After : (k at : ℕ) (a : Tree) → Level
  Unary : Level
  App : Level
  Args : (at : ℕ) (f : Tree) → Level
  Atom : Level

-- What swallows ends in an expr of its own, to which a `;` behind it belongs.
pub data Ending : Type 0 where
  Closed : Ending
  Swallow : Ending

-- At this level, a front of the signs has this tree with this ending, and these signs are left.
mutual
  pub data Parses : Level → Ending → List Sign → Tree → List Sign → Type 0 where
    alone : {k : Ending} {e : Tree} {ts r : List Sign} → Parses Part k ts e r → Parses Expr k ts e r
    sequence : {k : Ending} {a : ℕ} {e : Tree} {es : Trees} {ts r s : List Sign}
        → Parses Part Closed ts e (Fixed a Semicolon ∷ r) → ParsesParts k r es s → Parses Expr k ts (ExSeq (here ts) (tree e es)) s
    let_in : {j k : Ending} {p q c d f : ℕ} {x : Bytes} {T : TypeTree} {a b : Tree} {ts r s u : List Sign}
        → IsType ts T (Fixed d Equals ∷ r) → Parses Expr j r a (Fixed f In ∷ s) → Parses Expr k s b u
        → Parses Part Swallow (Fixed p Let ∷ Lower q x ∷ Fixed c Colon ∷ ts) (ExLet p (record { at = q; word = x }) T a b) u
    let_rec : {j k : Ending} {p q c d f g h i l m : ℕ} {x y : Bytes} {T U : TypeTree} {a b : Tree} {ts r s u v : List Sign}
        → IsType ts T (Fixed g Close ∷ Fixed h Colon ∷ r) → IsType r U (Fixed i Equals ∷ s) → Parses Expr j s a (Fixed l In ∷ u) → Parses Expr k u b v
        → Parses Part Swallow (Fixed p Let ∷ Fixed q Rec ∷ Lower c x ∷ Fixed d Open ∷ Lower f y ∷ Fixed m Colon ∷ ts)
        (ExLetRec p (record { at = c; word = x }) (record { at = f; word = y }) T U a b) v
    fun : {k : Ending} {p q c d f g : ℕ} {x : Bytes} {T : TypeTree} {b : Tree} {ts r s : List Sign}
        → IsType ts T (Fixed f Close ∷ Fixed g Arrow ∷ r) → Parses Expr k r b s
        → Parses Part Swallow (Fixed p Fun ∷ Fixed q Open ∷ Lower c x ∷ Fixed d Colon ∷ ts) (ExFun p (record { at = c; word = x }) T b) s
    rec : {k : Ending} {p c d f g h i m : ℕ} {x y : Bytes} {T U : TypeTree} {b : Tree} {ts r s u : List Sign}
        → IsType ts T (Fixed g Close ∷ Fixed h Colon ∷ r) → IsType r U (Fixed i Equals ∷ s) → Parses Expr k s b u
        → Parses Part Swallow (Fixed p Rec ∷ Lower c x ∷ Fixed d Open ∷ Lower f y ∷ Fixed m Colon ∷ ts)
        (ExRec p (record { at = c; word = x }) (record { at = f; word = y }) T U b) u
    if_else : {i j k : Ending} {p q d : ℕ} {c a b : Tree} {ts r s u : List Sign}
        → Parses Expr i ts c (Fixed q Then ∷ r) → Parses Expr j r a (Fixed d Else ∷ s) → Parses Part k s b u
        → Parses Part k (Fixed p If ∷ ts) (ExIf p c a b) u
    marshal : {p c : ℕ} {a b : Tree} {T : TypeTree} {ts r s u : List Sign}
        → Parses Atom Closed ts a r → Parses Atom Closed r b (Fixed c Colon ∷ s) → IsType s T u
        → Parses Part Closed (Fixed p Marshal ∷ ts) (ExMarshal p a b T) u
    unmarshal : {p c : ℕ} {a : Tree} {T : TypeTree} {ts r s : List Sign}
        → Parses Atom Closed ts a (Fixed c As ∷ r) → IsType r T s → Parses Part Closed (Fixed p Unmarshal ∷ ts) (ExUnmarshal p a T) s
    raise : {p c : ℕ} {a : Tree} {T : TypeTree} {ts r s : List Sign}
        → Parses Atom Closed ts a (Fixed c Colon ∷ r) → IsType r T s → Parses Part Closed (Fixed p Raise ∷ ts) (ExRaise p a T) s
    operators : {e : Tree} {ts r : List Sign} → Parses (Binary 6) Closed ts e r → Parses Part Closed ts e r
    binary : {k : ℕ} {a e : Tree} {ts r s : List Sign}
        → Parses (Binary k) Closed ts a r → Parses (After (suc k) (here ts) a) Closed r e s → Parses (Binary (suc k)) Closed ts e s
    unary : {e : Tree} {ts r : List Sign} → Parses Unary Closed ts e r → Parses (Binary zero) Closed ts e r
    stop : {k at : ℕ} {a : Tree} {ts : List Sign} → Parses (After k at a) Closed ts a ts
    left : {k at p : ℕ} {t : Symbol} {o : Operator} {a b e : Tree} {ts r s : List Sign} → operator_of t ≡ Some (suc k, o) → side_of (suc k) ≡ ToLeft
        → Parses (Binary k) Closed ts b r → Parses (After (suc k) at (operator_tree at o a b)) Closed r e s → Parses (After (suc k) at a) Closed (Fixed p t ∷ ts) e s
    right : {k at p : ℕ} {t : Symbol} {o : Operator} {a b : Tree} {ts r : List Sign} → operator_of t ≡ Some (suc k, o) → side_of (suc k) ≡ ToRight
        → Parses (Binary (suc k)) Closed ts b r → Parses (After (suc k) at a) Closed (Fixed p t ∷ ts) (operator_tree at o a b) r
    once : {k at p : ℕ} {t : Symbol} {o : Operator} {a b : Tree} {ts r : List Sign} → operator_of t ≡ Some (suc k, o) → side_of (suc k) ≡ Once
        → Parses (Binary k) Closed ts b r → Parses (After (suc k) at a) Closed (Fixed p t ∷ ts) (operator_tree at o a b) r
    minus : {p : ℕ} {e : Tree} {ts r : List Sign} → is_bare ts e ≡ false
        → Parses Unary Closed ts e r → Parses Unary Closed (Fixed p Minus ∷ ts) (ExOp p primitives.neg (tree e no_trees)) r
    negative : {p q n : ℕ} {ts : List Sign} → Parses Unary Closed (Fixed p Minus ∷ Int q n ∷ ts) (ExInt p (neg_ℤ (pos n))) ts
    not_ : {p : ℕ} {e : Tree} {ts r : List Sign} → Parses Unary Closed ts e r → Parses Unary Closed (Fixed p Not ∷ ts) (ExOp p primitives.not (tree e no_trees)) r
    app : {e : Tree} {ts r : List Sign} → Parses App Closed ts e r → Parses Unary Closed ts e r
    some : {p : ℕ} {e : Tree} {ts r : List Sign} → Parses Atom Closed ts e r → Parses App Closed (Fixed p SomeWord ∷ ts) (ExPresent p e) r
    exn_with_string : {p k : ℕ} {t : Symbol} {e : Tree} {ts r : List Sign} → exception_with_string t ≡ Some k
        → Parses Atom Closed ts e r → Parses App Closed (Fixed p t ∷ ts) (ExExnOf p k e) r
    applied : {f e : Tree} {ts r s : List Sign} → Parses Atom Closed ts f r → Parses (Args (here ts) f) Closed r e s → Parses App Closed ts e s
    no_argument : {at : ℕ} {f : Tree} {ts : List Sign} → Parses (Args at f) Closed ts f ts
    argument : {at : ℕ} {f a e : Tree} {ts r s : List Sign}
        → Parses Atom Closed ts a r → Parses (Args at (ExApp at f a)) Closed r e s → Parses (Args at f) Closed ts e s
    number : {p n : ℕ} {ts : List Sign} → Parses Atom Closed (Int p n ∷ ts) (ExInt p (pos n)) ts
    string : {p : ℕ} {text : Bytes} {ts : List Sign} → Parses Atom Closed (Str p text ∷ ts) (ExStr p text) ts
    true_ : {p : ℕ} {ts : List Sign} → Parses Atom Closed (Fixed p True ∷ ts) (ExBool p true) ts
    false_ : {p : ℕ} {ts : List Sign} → Parses Atom Closed (Fixed p False ∷ ts) (ExBool p false) ts
    unit : {p q : ℕ} {ts : List Sign} → Parses Atom Closed (Fixed p Open ∷ Fixed q Close ∷ ts) (ExUnit p) ts
    exn : {p k : ℕ} {t : Symbol} {ts : List Sign} → exception_sign t ≡ Some k → Parses Atom Closed (Fixed p t ∷ ts) (ExExn p k) ts
    var : {p : ℕ} {x : Bytes} {ts : List Sign} → Parses Atom Closed (Lower p x ∷ ts) (ExVar p x) ts
    of_module : {p q c : ℕ} {m x : Bytes} {ts : List Sign}
        → Parses Atom Closed (Upper p m ∷ Fixed q Dot ∷ Lower c x ∷ ts) (ExOf p (record { at = p; word = m }) (record { at = c; word = x })) ts
    parens : {k : Ending} {p q : ℕ} {e : Tree} {ts r : List Sign} → Parses Expr k ts e (Fixed q Close ∷ r) → Parses Atom Closed (Fixed p Open ∷ ts) e r
    tuple : {k : Ending} {p q : ℕ} {e : Tree} {es : Trees} {ts r s : List Sign}
        → Parses Expr k ts e (Fixed q Comma ∷ r) → ParsesItems r es s → Parses Atom Closed (Fixed p Open ∷ ts) (ExTuple p (tree e es)) s
    nil : {p q c d f : ℕ} {T : TypeTree} {ts r : List Sign} → IsType ts T (Fixed f Close ∷ r)
        → Parses Atom Closed (Fixed p Open ∷ Fixed q OpenSquare ∷ Fixed c CloseSquare ∷ Fixed d Colon ∷ ts) (ExNil p T) r
    none : {p q d f : ℕ} {T : TypeTree} {ts r : List Sign} → IsType ts T (Fixed f Close ∷ r)
        → Parses Atom Closed (Fixed p Open ∷ Fixed q NoneWord ∷ Fixed d Colon ∷ ts) (ExAbsent p T) r
    match_with : {k : Ending} {p q : ℕ} {e : Tree} {arms : ArmTrees} {ts r s : List Sign}
        → Parses Expr k ts e (Fixed q With ∷ r) → ParsesArms (after_bar r) arms s → Parses Atom Closed (Fixed p Match ∷ ts) (ExMatch p e arms) s
    try_with : {k : Ending} {p q : ℕ} {e : Tree} {arms : ArmTrees} {ts r s : List Sign}
        → Parses Expr k ts e (Fixed q With ∷ r) → ParsesArms (after_bar r) arms s → Parses Atom Closed (Fixed p Try ∷ ts) (ExTry p e arms) s

  -- the parts of a sequence behind its first `;`
  pub data ParsesParts : Ending → List Sign → Trees → List Sign → Type 0 where
    last_part : {k : Ending} {e : Tree} {ts r : List Sign} → Parses Part k ts e r → ParsesParts k ts (tree e no_trees) r
    more_parts : {k : Ending} {a : ℕ} {e : Tree} {es : Trees} {ts r s : List Sign}
        → Parses Part Closed ts e (Fixed a Semicolon ∷ r) → ParsesParts k r es s → ParsesParts k ts (tree e es) s

  -- the parts of a tuple behind its first comma, and its parenthesis
  pub data ParsesItems : List Sign → Trees → List Sign → Type 0 where
    last_item : {k : Ending} {a : ℕ} {e : Tree} {ts r : List Sign} → Parses Expr k ts e (Fixed a Close ∷ r) → ParsesItems ts (tree e no_trees) r
    more_items : {k : Ending} {a : ℕ} {e : Tree} {es : Trees} {ts r s : List Sign}
        → Parses Expr k ts e (Fixed a Comma ∷ r) → ParsesItems r es s → ParsesItems ts (tree e es) s

  -- an arm and those behind it, and their `end`
  pub data ParsesArms : List Sign → ArmTrees → List Sign → Type 0 where
    last_arm : {k : Ending} {a b : ℕ} {p : PatTree} {e : Tree} {ts r s : List Sign}
        → IsPattern ts p (Fixed a Arrow ∷ r) → Parses Expr k r e (Fixed b End ∷ s) → ParsesArms ts (arm_tree p e no_arm_trees) s
    more_arms : {k : Ending} {a b : ℕ} {p : PatTree} {e : Tree} {arms : ArmTrees} {ts r s u : List Sign}
        → IsPattern ts p (Fixed a Arrow ∷ r) → Parses Expr k r e (Fixed b Bar ∷ s) → ParsesArms s arms u → ParsesArms ts (arm_tree p e arms) u

abbrev pub symbol_begins_atom : Symbol → Bool
symbol_begins_atom Open = true
symbol_begins_atom True = true
symbol_begins_atom False = true
symbol_begins_atom Match = true
symbol_begins_atom Try = true
symbol_begins_atom symbol.NotFound = true
symbol_begins_atom symbol.DivisionByZero = true
symbol_begins_atom symbol.MatchFailure = true
symbol_begins_atom symbol.EndOfFile = true
symbol_begins_atom s = false

-- whether an atom may begin with these signs
abbrev pub begins_atom : List Sign → Bool
begins_atom (Int a n ∷ ts) = true
begins_atom (Str a text ∷ ts) = true
begins_atom (Lower a x ∷ ts) = true
begins_atom (Upper a x ∷ ts) = true
begins_atom (Fixed a t ∷ ts) = symbol_begins_atom t
begins_atom ts = false

abbrev pub operator_front : Option (ℕ × Operator) → ℕ
operator_front (Some x) = suc x.0
operator_front None = 9

abbrev pub symbol_front : Symbol → ℕ
symbol_front Semicolon = 8
symbol_front s = operator_front (operator_of s)

abbrev pub sign_front : List Sign → ℕ
sign_front (Fixed a t ∷ ts) = symbol_front t
sign_front ts = 9

-- the loosest level that goes on with the first sign: 1 for an argument, one more than an operator's level, 8 for `;`, 9 where none does
abbrev pub front : List Sign → ℕ
front ts = if begins_atom ts then 1 else sign_front ts

-- the loosest level that a part of this level goes on with
abbrev pub looseness : Level → Ending → ℕ
looseness Expr k = 8
looseness Part Closed = 7
looseness Part Swallow = 8
looseness (Binary k) j = suc k
looseness (After k at a) j = suc k
looseness Unary j = 1
looseness App j = 1
looseness (Args at f) j = 1
looseness Atom j = 0

-- what is left doesn't go on with this level
abbrev pub Stops : Level → Ending → List Sign → Type 0
Stops level ending rest = looseness level ending < front rest

-- a tree of at most this height at this level, behind which these signs are left
pub record IsTree (depth : ℕ) (level : Level) (ts : List Sign) (e : Tree) (rest : List Sign) : Type 0 where
  pub ending : Ending
  pub parses : Parses level ending ts e rest
  pub stops : Stops level ending rest
  pub low : tree_height e ≤ depth

-- an expression, of a height of at most `highest_expression`
abbrev pub IsExpr : List Sign → Tree → List Sign → Type 0
IsExpr ts e rest = IsTree highest_expression Expr ts e rest
