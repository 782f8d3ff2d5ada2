-- Which signs are which type.
--
--   type  = ptype ['->' type]
--   ptype = stype ('*' stype)*
--   stype = atype ('list' | 'option')*
--   atype = 'int' | 'bool' | 'string' | 'unit' | 'exn' | lower | UPPER '.' lower | '(' type ')'
use Rattle.std.specs.Prelude.{ℕ, ◌<◌, ◌≤◌, List, ◌∷◌}
use Rattle.ac_types.specs.Limits.{highest_written_type}
use Rattle.ac_types.specs.Types.{Bytes}
use Rattle.ac_syntax.specs.Signs.{Sign, Lower, Upper, Fixed, here}
use Rattle.ac_syntax.specs.Trees.{TypeTree, TyInt, TyBool, TyStr, TyUnit, TyExn, TyLocal, TyOf, TyTuple, TyList, TyOpt, TyFun, TypeTrees, no_type_trees, type_tree, type_height}
use Rattle.ac_syntax.specs.declared.sign.Symbol.TheVariants.{Open, Close, Dot, Star, Arrow, IntType, BoolType, StringType, UnitType, ExnType, ListType, OptionType}

-- `Suffixes at t` is what may follow a type t that begins at this place, at the level of `Suffixed`.
pub data TypeLevel : Type 0 where
  Whole : TypeLevel
  Product : TypeLevel
  Suffixed : TypeLevel
  Suffixes : (at : ℕ) (t : TypeTree) → TypeLevel
  Single : TypeLevel

-- At this level, a front of the signs has this tree, and these signs are left.
mutual
  pub data ParsesType : TypeLevel → List Sign → TypeTree → List Sign → Type 0 where
    no_arrow : {t : TypeTree} {ts r : List Sign} → ParsesType Product ts t r → ParsesType Whole ts t r
    arrow : {t u : TypeTree} {a : ℕ} {ts r s : List Sign}
        → ParsesType Product ts t (Fixed a Arrow ∷ r) → ParsesType Whole r u s → ParsesType Whole ts (TyFun (here ts) t u) s
    one_factor : {t : TypeTree} {ts r : List Sign} → ParsesType Suffixed ts t r → ParsesType Product ts t r
    factors : {t : TypeTree} {us : TypeTrees} {a : ℕ} {ts r s : List Sign}
        → ParsesType Suffixed ts t (Fixed a Star ∷ r) → ParsesFactors r us s → ParsesType Product ts (TyTuple (here ts) (type_tree t us)) s
    suffixed : {t u : TypeTree} {ts r s : List Sign} → ParsesType Single ts t r → ParsesType (Suffixes (here ts) t) r u s → ParsesType Suffixed ts u s
    no_suffix : {at : ℕ} {t : TypeTree} {ts : List Sign} → ParsesType (Suffixes at t) ts t ts
    list_of : {at a : ℕ} {t u : TypeTree} {ts r : List Sign} → ParsesType (Suffixes at (TyList at t)) ts u r → ParsesType (Suffixes at t) (Fixed a ListType ∷ ts) u r
    option_of : {at a : ℕ} {t u : TypeTree} {ts r : List Sign} → ParsesType (Suffixes at (TyOpt at t)) ts u r → ParsesType (Suffixes at t) (Fixed a OptionType ∷ ts) u r
    int : {a : ℕ} {ts : List Sign} → ParsesType Single (Fixed a IntType ∷ ts) (TyInt a) ts
    bool : {a : ℕ} {ts : List Sign} → ParsesType Single (Fixed a BoolType ∷ ts) (TyBool a) ts
    string : {a : ℕ} {ts : List Sign} → ParsesType Single (Fixed a StringType ∷ ts) (TyStr a) ts
    unit : {a : ℕ} {ts : List Sign} → ParsesType Single (Fixed a UnitType ∷ ts) (TyUnit a) ts
    exn : {a : ℕ} {ts : List Sign} → ParsesType Single (Fixed a ExnType ∷ ts) (TyExn a) ts
    local : {a : ℕ} {x : Bytes} {ts : List Sign} → ParsesType Single (Lower a x ∷ ts) (TyLocal a x) ts
    of_module : {a b c : ℕ} {m x : Bytes} {ts : List Sign}
        → ParsesType Single (Upper a m ∷ Fixed b Dot ∷ Lower c x ∷ ts) (TyOf a (record { at = a; word = m }) (record { at = c; word = x })) ts
    parens : {a b : ℕ} {t : TypeTree} {ts r : List Sign} → ParsesType Whole ts t (Fixed b Close ∷ r) → ParsesType Single (Fixed a Open ∷ ts) t r

  -- the parts behind the first `*`
  pub data ParsesFactors : List Sign → TypeTrees → List Sign → Type 0 where
    last_factor : {t : TypeTree} {ts r : List Sign} → ParsesType Suffixed ts t r → ParsesFactors ts (type_tree t no_type_trees) r
    more_factors : {t : TypeTree} {us : TypeTrees} {a : ℕ} {ts r s : List Sign}
        → ParsesType Suffixed ts t (Fixed a Star ∷ r) → ParsesFactors r us s → ParsesFactors ts (type_tree t us) s

-- the loosest level that goes on with the first sign: 1 for a suffix, 2 for `*`, 3 for `->`, 4 where none does
abbrev pub type_front : List Sign → ℕ
type_front (Fixed a ListType ∷ ts) = 1
type_front (Fixed a OptionType ∷ ts) = 1
type_front (Fixed a Star ∷ ts) = 2
type_front (Fixed a Arrow ∷ ts) = 3
type_front ts = 4

-- the loosest level that a type of this level goes on with
abbrev pub type_looseness : TypeLevel → ℕ
type_looseness Whole = 3
type_looseness Product = 2
type_looseness Suffixed = 1
type_looseness (Suffixes at t) = 1
type_looseness Single = 0

-- what is left doesn't go on with a type of this level
abbrev pub TypeStops : TypeLevel → List Sign → Type 0
TypeStops level rest = type_looseness level < type_front rest

-- a type of at most this height at this level, taken as long as it can be
pub record IsTypeTree (depth : ℕ) (level : TypeLevel) (ts : List Sign) (t : TypeTree) (rest : List Sign) : Type 0 where
  pub parses : ParsesType level ts t rest
  pub stops : TypeStops level rest
  pub low : type_height t ≤ depth

-- a type, taken as long as it can be; by itself it has a height of at most `highest_written_type`
abbrev pub IsType : List Sign → TypeTree → List Sign → Type 0
IsType ts t rest = IsTypeTree highest_written_type Whole ts t rest
