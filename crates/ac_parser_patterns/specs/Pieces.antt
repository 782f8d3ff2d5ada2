-- The pieces of patterns and expressions, as the parsers read them.
use Rattle.std.specs.Prelude.{◌≡◌, ℕ, ◌<◌, Bool, true, false, List, [], ◌∷◌, Some}
use Rattle.ac_types.specs.ReadNumbers.{texted_number}
use Rattle.ac_syntax.specs.Signs.{Sign, Int, Lower, Fixed}
use Rattle.ac_syntax.specs.Trees.{NameAt, TypeTree, Tree}
use Rattle.ac_syntax.specs.TypeForms.{IsType}
use Rattle.ac_syntax.specs.Patterns.{exception_with_string}
use Rattle.ac_syntax.specs.Expressions.{begins_atom, front}
use Rattle.ac_syntax.specs.ReadTrees.{name_of, type_tree_of}
use Rattle.ac_syntax.specs.PartParsing.{SymbolAt, LowerAt}
use Rattle.ac_syntax.specs.declared.sign.Symbol.{Symbol}
use Rattle.ac_syntax.specs.declared.sign.Symbol.TheVariants as symbol
use Rattle.ac_parser_patterns.specs.declared.binders.Binder.{Binder}
use Rattle.ac_parser_patterns.specs.declared.binders.FunctionHead.{FunctionHead}
use Rattle.ac_parser_patterns.specs.declared.front.Prefix.{Prefix}
use Rattle.ac_parser_patterns.specs.declared.front.Prefix.TheVariants as prefix

-- one thing, and another behind it
pub record Then {A B : Type 0} (R : List Sign → A → List Sign → Type 0) (S : List Sign → B → List Sign → Type 0) (ts : List Sign) (x : A × B) (rest : List Sign) : Type 0 where
  pub middle : List Sign
  pub first : R ts x.0 middle
  pub second : S middle x.1 rest

-- a symbol, and something behind it
pub record Behind {A : Type 0} (s : Symbol) (R : List Sign → A → List Sign → Type 0) (ts : List Sign) (x : A) (rest : List Sign) : Type 0 where
  pub middle : List Sign
  pub at : SymbolAt s ts middle
  pub then : R middle x rest

-- something, and a symbol behind it
pub record Before {A : Type 0} (s : Symbol) (R : List Sign → A → List Sign → Type 0) (ts : List Sign) (x : A) (rest : List Sign) : Type 0 where
  pub middle : List Sign
  pub first : R ts x middle
  pub at : SymbolAt s middle rest

-- what is read once this sign stands in front
abbrev pub Past : {A : Type 0} → Sign → (List Sign → A → List Sign → Type 0) → List Sign → A → List Sign → Type 0
Past t R ts x rest = R (t ∷ ts) x rest

-- several things of which each but the last is followed by more
pub data Chain {A : Type 0} (More Last : List Sign → A → List Sign → Type 0) : List Sign → List A → List Sign → Type 0 where
  last : {x : A} {ts r : List Sign} → Last ts x r → Chain More Last ts (x ∷ []) r
  more : {x : A} {xs : List A} {ts r s : List Sign} → More ts x r → Chain More Last r xs s → Chain More Last ts (x ∷ xs) s

-- the tree that is made of what stands here
pub record Made {A : Type 0} (R : List Sign → A → List Sign → Type 0) (make : A → Tree) (ts : List Sign) (e : Tree) (rest : List Sign) : Type 0 where
  pub parts : A
  pub is : e ≡ make parts
  pub read : R ts parts rest

-- lower names and types

abbrev pub IsName : List Sign → NameAt → List Sign → Type 0
IsName ts name rest = LowerAt name ts rest

-- ':' type, with a symbol behind it
abbrev pub IsAscribed : Symbol → List Sign → TypeTree → List Sign → Type 0
IsAscribed s = Behind symbol.Colon (Before s IsType)

-- lower ':' type, with a symbol behind it
abbrev pub IsTypedBinder : Symbol → List Sign → NameAt × TypeTree → List Sign → Type 0
IsTypedBinder s = Then IsName (IsAscribed s)

-- '(' lower ':' type ')'
abbrev pub IsArgument : List Sign → NameAt × TypeTree → List Sign → Type 0
IsArgument = Behind symbol.Open (IsTypedBinder symbol.Close)

-- lower '(' lower ':' type ')' ':' type '='
abbrev pub IsHead : List Sign → NameAt × ((NameAt × TypeTree) × TypeTree) → List Sign → Type 0
IsHead = Then IsName (Then IsArgument (IsAscribed symbol.Equals))

-- a type at the end of what is closed: behind it nothing goes on with a part
pub record IsLastType (ts : List Sign) (T : TypeTree) (rest : List Sign) : Type 0 where
  pub is : IsType ts T rest
  pub ends : 7 < front rest

abbrev pub binder_of : Binder → NameAt × TypeTree
binder_of b = (name_of b.name, type_tree_of b.ty)

abbrev pub head_of : FunctionHead → NameAt × ((NameAt × TypeTree) × TypeTree)
head_of h = (name_of h.name, (binder_of h.argument, type_tree_of h.result))

-- the first sign is a number
pub record NumberAt (n : ℕ) (ts rest : List Sign) : Type 0 where
  pub at : ℕ
  pub is : ts ≡ Int at n ∷ rest

abbrev pub NoNumber : List Sign → Type 0
NoNumber ts = (n : ℕ) (rest : List Sign) → NumberAt n ts rest → ⊥

-- the first sign is a number to which nothing is an argument
pub record LoneNumber (n : ℕ) (ts rest : List Sign) : Type 0 where
  pub number : NumberAt n ts rest
  pub alone : begins_atom rest ≡ false

abbrev pub NoLoneNumber : List Sign → Type 0
NoLoneNumber ts = (n : ℕ) (rest : List Sign) → LoneNumber n ts rest → ⊥

abbrev pub begins_lower : List Sign → Bool
begins_lower (Lower a x ∷ ts) = true
begins_lower ts = false

-- a word that takes one argument: `Some`, or an exception with a string
abbrev pub IsPrefix : Prefix → Symbol → Type 0
IsPrefix prefix.Present s = s ≡ symbol.SomeWord
IsPrefix (prefix.Exn exn) s = exception_with_string s ≡ Some (texted_number exn)

pub record PrefixAt (p : Prefix) (at : ℕ) (ts rest : List Sign) : Type 0 where
  pub symbol : Symbol
  pub is : ts ≡ Fixed at symbol ∷ rest
  pub prefix : IsPrefix p symbol

abbrev pub NoPrefix : List Sign → Type 0
NoPrefix ts = (p : Prefix) (at : ℕ) (rest : List Sign) → PrefixAt p at ts rest → ⊥
