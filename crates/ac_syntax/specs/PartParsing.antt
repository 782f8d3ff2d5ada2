-- What the parsers may answer.
use Rattle.std.specs.Prelude.{◌≡◌, ℕ, ◌<◌, ◌≤◌, List, ◌∷◌, Option, Some, None}
use Rattle.ac_syntax.specs.Signs.{Sign, Lower, Fixed}
use Rattle.ac_syntax.specs.Trees.{NameAt, TypeTree, TyInt, TyBool, TyStr, TyUnit, TyExn, TyTuple, TyList, TyOpt, TypeTrees, type_tree, type_height, highest_type_tree}
use Rattle.ac_syntax.specs.TypeForms.{TypeLevel, Whole, Single, ParsesType, ParsesFactors, type_front, IsTypeTree}
use Rattle.ac_syntax.specs.Trees.{SpecTree, SigTree}
use Rattle.ac_syntax.specs.Programs.{ParsesSpecs, IsSig}
use Rattle.ac_syntax.specs.declared.fault.ParseFault.{ParseFault}
use Rattle.ac_syntax.specs.declared.fault.ParseFault.TheVariants as fault
use Rattle.ac_syntax.specs.declared.sign.Symbol.{Symbol}
use Rattle.ac_syntax.specs.declared.sign.Symbol.TheVariants.{Open, Close, IntType, BoolType, StringType, UnitType, ExnType, ListType, OptionType}
use Rattle.ac_syntax.specs.declared.types.Suffix.{Suffix}
use Rattle.ac_syntax.specs.declared.types.Suffix.TheVariants as suffix
use Rattle.ac_syntax.specs.declared.stop.ParseError.{ParseError}
use Rattle.ac_syntax.specs.declared.stop.ParseError.TheVariants as stop

-- a stop says that no tree is there, unless memory ran out
abbrev pub OnSyntax : ParseError → Type 0 → Type 0
OnSyntax stop.Memory P = Unit {0}
OnSyntax (stop.Syntax left) P = P

-- the first sign is this symbol
pub record SymbolAt (symbol : Symbol) (ts rest : List Sign) : Type 0 where
  pub at : ℕ
  pub is : ts ≡ Fixed at symbol ∷ rest

abbrev pub NoSymbol : Symbol → List Sign → Type 0
NoSymbol symbol ts = (rest : List Sign) → SymbolAt symbol ts rest → ⊥

abbrev pub NoFixed : List Sign → Type 0
NoFixed ts = (symbol : Symbol) (rest : List Sign) → SymbolAt symbol ts rest → ⊥

-- the first sign is this lower name
abbrev pub LowerAt : NameAt → List Sign → List Sign → Type 0
LowerAt name ts rest = ts ≡ Lower name.at name.word ∷ rest

abbrev pub NoLower : List Sign → Type 0
NoLower ts = (name : NameAt) (rest : List Sign) → LowerAt name ts rest → ⊥

-- the signs begin with no type of this level and height
abbrev pub NoType : ℕ → TypeLevel → List Sign → Type 0
NoType depth level ts = (t : TypeTree) (rest : List Sign) → IsTypeTree depth level ts t rest → ⊥

-- the type that a symbol is by itself
abbrev pub base_type : Symbol → ℕ → Option TypeTree
base_type IntType at = Some (TyInt at)
base_type BoolType at = Some (TyBool at)
base_type StringType at = Some (TyStr at)
base_type UnitType at = Some (TyUnit at)
base_type ExnType at = Some (TyExn at)
base_type symbol at = None

-- the signs begin with a type that is a leaf
pub record LeafAt (ts : List Sign) (t : TypeTree) (rest : List Sign) : Type 0 where
  pub parses : ParsesType Single ts t rest
  pub leaf : type_height t ≡ 1

-- the signs begin with a type in parentheses
pub record Enclosed (ts : List Sign) (t : TypeTree) (rest : List Sign) : Type 0 where
  pub inner : List Sign
  pub opened : SymbolAt Open ts inner
  pub close : ℕ
  pub parses : ParsesType Whole inner t (Fixed close Close ∷ rest)

-- a type that stands by itself here stands in parentheses
abbrev pub NoLeaf : List Sign → Type 0
NoLeaf ts = (t : TypeTree) (rest : List Sign) → ParsesType Single ts t rest → Enclosed ts t rest

abbrev pub suffix_symbol : Suffix → Symbol
suffix_symbol suffix.List = ListType
suffix_symbol suffix.Opt = OptionType

abbrev pub suffixed_by : Suffix → ℕ → TypeTree → TypeTree
suffixed_by suffix.List at t = TyList at t
suffixed_by suffix.Opt at t = TyOpt at t

abbrev pub NoSuffix : List Sign → Type 0
NoSuffix ts = (s : Suffix) (rest : List Sign) → SymbolAt (suffix_symbol s) ts rest → ⊥

-- the tuple of a first part, and of those that stand here
pub record TupleOf (depth at : ℕ) (first : TypeTree) (ts : List Sign) (t : TypeTree) (rest : List Sign) : Type 0 where
  pub others : TypeTrees
  pub parses : ParsesFactors ts others rest
  pub is : t ≡ TyTuple at (type_tree first others)
  pub stops : 2 < type_front rest
  pub low : type_height t ≤ depth

-- no further parts of a tuple stand here
abbrev pub NoFactors : ℕ → List Sign → Type 0
NoFactors depth ts = (others : TypeTrees) (rest : List Sign) → ParsesFactors ts others rest → 2 < type_front rest → highest_type_tree others ≤ depth → ⊥

-- the specs are this one and those that stand at the rest
pub record OtherSpecs (spec : SpecTree) (rest : List Sign) (specs : List SpecTree) (end : List Sign) : Type 0 where
  pub others : List SpecTree
  pub is : specs ≡ spec ∷ others
  pub parses : ParsesSpecs rest others end

-- one spec stands here, and what follows it in a signature stands at the rest
pub record SpecAt (ts : List Sign) (spec : SpecTree) (rest : List Sign) : Type 0 where
  pub back : (specs : List SpecTree) (end : List Sign) → ParsesSpecs rest specs end → ParsesSpecs ts (spec ∷ specs) end
  pub forth : (specs : List SpecTree) (end : List Sign) → ParsesSpecs ts specs end → OtherSpecs spec rest specs end

-- no specs and no `end` of a signature stand here
abbrev pub NoSpecs : List Sign → Type 0
NoSpecs ts = (specs : List SpecTree) (end : List Sign) → ParsesSpecs ts specs end → ⊥

abbrev pub NoSig : List Sign → Type 0
NoSig ts = (sig : SigTree) (rest : List Sign) → IsSig ts sig rest → ⊥

-- a fault of syntax comes only there; the others never come but want of memory, which is free
abbrev pub OnFault : ParseFault → Type 0 → Type 0
OnFault fault.Memory P = Unit {0}
OnFault (fault.Syntax at) P = P
OnFault _ _ = ⊥

-- the fault that a stop is answered by
abbrev pub faulted : ParseError → ParseFault → Type 0
faulted stop.Memory e = e ≡ fault.Memory
faulted (stop.Syntax left) e = (at : ℕ) × (e ≡ fault.Syntax at)
