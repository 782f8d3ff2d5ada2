-- Where a part of a form is missing, the form is missing.
use Rattle.std.proofs.Common.{◌≡◌, ℕ, List, sym, subst}
use Rattle.ac_syntax.specs.Signs.{Sign}
use Rattle.ac_syntax.specs.Trees.{NameAt, TypeTree, PatTree, Tree}
use Rattle.ac_syntax.specs.Patterns.{IsPattern}
use Rattle.ac_syntax.specs.Expressions.{after_bar, Expr, Part, Atom, IsTree}
use Rattle.ac_syntax.specs.PartParsing.{SymbolAt, NoSymbol}
use Rattle.ac_syntax.specs.declared.sign.Symbol.{Symbol}
use Rattle.ac_syntax.specs.declared.sign.Symbol.TheVariants.{Arrow, As, Colon, Else, Equals, In, Then, With}
use Rattle.ac_parser_expressions.specs.inner.Levels.{NoTree, IsLet, IsLetRec, IsFun, IsRec, IsIf, IsMarshal, IsUnmarshal, IsRaise, IsArm, IsArms, IsChoice}
use Rattle.ac_parser_patterns.proofs.PatSteps.{one_pattern}
use Rattle.ac_parser_patterns.specs.Reading.{Nothing}
use Rattle.ac_parser_patterns.specs.Pieces.{Before, Behind, IsTypedBinder, IsArgument, IsHead, IsLastType}
use Rattle.ac_parser_patterns.proofs.Readers.{first_none, later_none, no_symbol, behind_none, symbol_none, one_before, one_typed, one_argument, one_head}
use Rattle.ac_parser_expressions.proofs.Levels.{one_tree}

pub unbefore : (D : ℕ) (t : Symbol) (e : Tree) (ts m : List Sign) → IsTree D Expr ts e m → NoSymbol t m → Nothing (Before t (IsTree D Expr)) ts
unbefore D t e ts m p none = symbol_none (one_tree D Expr) p none

module _ (D : ℕ) (ts : List Sign) where
  pub arm_no_body : (p : PatTree) (m : List Sign) → Before Arrow IsPattern ts p m → NoTree D Expr m → Nothing (IsArm D) ts
  arm_no_body p m at none = later_none (one_before Arrow one_pattern) at none

  pub choice_no_arms : (e : Tree) (m us : List Sign) → Before With (IsTree D Expr) ts e m → us ≡ after_bar m → Nothing (IsArms D) us → Nothing (IsChoice D) ts
  choice_no_arms e m us p is none = later_none (one_before With (one_tree D Expr)) p (λ arms rest w. none arms rest (subst (λ (l : List Sign). IsArms D l arms rest) (sym is) w))

  module _ (x : NameAt × TypeTree) (m : List Sign) (at : IsTypedBinder Equals ts x m) where
    pub let_no_bound : Nothing (Before In (IsTree D Expr)) m → Nothing (IsLet D) ts
    let_no_bound none = later_none (one_typed Equals) at (first_none none)

    pub let_no_body : (a : Tree) (r : List Sign) → Before In (IsTree D Expr) m a r → NoTree D Expr r → Nothing (IsLet D) ts
    let_no_body a r p none = later_none (one_typed Equals) at (later_none (one_before In (one_tree D Expr)) p none)

  module _ (x : NameAt × ((NameAt × TypeTree) × TypeTree)) (m : List Sign) (at : IsHead ts x m) where
    pub let_rec_no_bound : Nothing (Before In (IsTree D Expr)) m → Nothing (IsLetRec D) ts
    let_rec_no_bound none = later_none one_head at (first_none none)

    pub let_rec_no_body : (a : Tree) (r : List Sign) → Before In (IsTree D Expr) m a r → NoTree D Expr r → Nothing (IsLetRec D) ts
    let_rec_no_body a r p none = later_none one_head at (later_none (one_before In (one_tree D Expr)) p none)

    pub rec_no_body : NoTree D Expr m → Nothing (IsRec D) ts
    rec_no_body none = later_none one_head at none

  module _ (x : NameAt × TypeTree) (m : List Sign) (at : IsArgument ts x m) where
    pub fun_no_arrow : NoSymbol Arrow m → Nothing (IsFun D) ts
    fun_no_arrow none = later_none one_argument at (no_symbol none)

    pub fun_no_body : (r : List Sign) → SymbolAt Arrow m r → NoTree D Expr r → Nothing (IsFun D) ts
    fun_no_body r arrow none = later_none one_argument at (behind_none arrow none)

  module _ (c : Tree) (m : List Sign) (at : Before Then (IsTree D Expr) ts c m) where
    pub if_no_so : Nothing (Before Else (IsTree D Expr)) m → Nothing (IsIf D) ts
    if_no_so none = later_none (one_before Then (one_tree D Expr)) at (first_none none)

    pub if_no_otherwise : (a : Tree) (r : List Sign) → Before Else (IsTree D Expr) m a r → NoTree D Part r → Nothing (IsIf D) ts
    if_no_otherwise a r p none = later_none (one_before Then (one_tree D Expr)) at (later_none (one_before Else (one_tree D Expr)) p none)

  module _ (a : Tree) (m : List Sign) (at : IsTree D Atom ts a m) where
    pub marshal_no_value : NoTree D Atom m → Nothing (IsMarshal D) ts
    marshal_no_value none = later_none (one_tree D Atom) at (first_none none)

    pub marshal_no_type : (b : Tree) (r : List Sign) → IsTree D Atom m b r → Nothing (Behind Colon IsLastType) r → Nothing (IsMarshal D) ts
    marshal_no_type b r p none = later_none (one_tree D Atom) at (later_none (one_tree D Atom) p none)

    pub unmarshal_no_type : Nothing (Behind As IsLastType) m → Nothing (IsUnmarshal D) ts
    unmarshal_no_type none = later_none (one_tree D Atom) at none

    pub raise_no_type : Nothing (Behind Colon IsLastType) m → Nothing (IsRaise D) ts
    raise_no_type none = later_none (one_tree D Atom) at none
