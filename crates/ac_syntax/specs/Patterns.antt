-- Which signs are which pattern.
--
--   pat   = papp ['::' pat]
--   papp  = 'Some' patom | EXN1 patom | patom
--   patom = '_' | '(' lower ':' type ')' | INT | '-' INT | STRING | 'true' | 'false' | '(' ')'
--         | '[' ']' | 'None' | EXN0 | '(' pat ')' | '(' pat (',' pat)* ')'
--
-- EXN1 are the exceptions with a string, EXN0 the others. In the tuple form there is at least one comma.
use Rattle.std.specs.Prelude.{◌≡◌, ℕ, ◌<◌, ◌≤◌, pos, neg_ℤ, true, false, List, ◌∷◌, Option, Some, None}
use Rattle.ac_types.specs.Limits.{highest_pattern}
use Rattle.ac_types.specs.Exceptions as exceptions
use Rattle.ac_types.specs.Types.{Bytes}
use Rattle.ac_syntax.specs.Signs.{Sign, Int, Str, Lower, Fixed, here}
use Rattle.ac_syntax.specs.Trees.{TypeTree, PatTree, PatWild, PatVar, PatInt, PatBool, PatStr, PatUnit, PatTuple, PatNil, PatCons, PatAbsent, PatPresent, PatExn, PatExnOf, PatTrees, no_pat_trees, pat_tree, pat_height}
use Rattle.ac_syntax.specs.TypeForms.{IsType}
use Rattle.ac_syntax.specs.declared.sign.Symbol.{Symbol}
use Rattle.ac_syntax.specs.declared.sign.Symbol.TheVariants.{Open, Close, OpenSquare, CloseSquare, Comma, Colon, Minus, Cons, Wild, True, False, SomeWord, NoneWord, Failure, InvalidArgument, NotFound, DivisionByZero, MatchFailure, EndOfFile, SysError, MarshalFailure, UnmarshalFailure, ResolveFailure}

-- the number of an exception that has no string
abbrev pub exception_sign : Symbol → Option ℕ
exception_sign NotFound = Some exceptions.not_found
exception_sign DivisionByZero = Some exceptions.division_by_zero
exception_sign MatchFailure = Some exceptions.match_failure
exception_sign EndOfFile = Some exceptions.end_of_file
exception_sign s = None

-- the number of an exception that has a string
abbrev pub exception_with_string : Symbol → Option ℕ
exception_with_string Failure = Some exceptions.failure
exception_with_string InvalidArgument = Some exceptions.invalid_argument
exception_with_string SysError = Some exceptions.sys_error
exception_with_string MarshalFailure = Some exceptions.marshal_failure
exception_with_string UnmarshalFailure = Some exceptions.unmarshal_failure
exception_with_string ResolveFailure = Some exceptions.resolve_failure
exception_with_string s = None

pub data PatLevel : Type 0 where
  Pattern : PatLevel
  Prefixed : PatLevel
  Single : PatLevel

-- At this level, a front of the signs has this tree, and these signs are left.
mutual
  pub data ParsesPat : PatLevel → List Sign → PatTree → List Sign → Type 0 where
    no_cons : {p : PatTree} {ts r : List Sign} → ParsesPat Prefixed ts p r → ParsesPat Pattern ts p r
    cons : {p q : PatTree} {a : ℕ} {ts r s : List Sign}
        → ParsesPat Prefixed ts p (Fixed a Cons ∷ r) → ParsesPat Pattern r q s → ParsesPat Pattern ts (PatCons (here ts) p q) s
    some : {a : ℕ} {p : PatTree} {ts r : List Sign} → ParsesPat Single ts p r → ParsesPat Prefixed (Fixed a SomeWord ∷ ts) (PatPresent a p) r
    exn_with_string : {a k : ℕ} {t : Symbol} {p : PatTree} {ts r : List Sign} → exception_with_string t ≡ Some k
        → ParsesPat Single ts p r → ParsesPat Prefixed (Fixed a t ∷ ts) (PatExnOf a k p) r
    single : {p : PatTree} {ts r : List Sign} → ParsesPat Single ts p r → ParsesPat Prefixed ts p r
    wild : {a : ℕ} {ts : List Sign} → ParsesPat Single (Fixed a Wild ∷ ts) (PatWild a) ts
    var : {a b c d : ℕ} {x : Bytes} {T : TypeTree} {ts r : List Sign} → IsType ts T (Fixed d Close ∷ r)
        → ParsesPat Single (Fixed a Open ∷ Lower b x ∷ Fixed c Colon ∷ ts) (PatVar a (record { at = b; word = x }) T) r
    number : {a n : ℕ} {ts : List Sign} → ParsesPat Single (Int a n ∷ ts) (PatInt a (pos n)) ts
    negative : {a b n : ℕ} {ts : List Sign} → ParsesPat Single (Fixed a Minus ∷ Int b n ∷ ts) (PatInt a (neg_ℤ (pos n))) ts
    string : {a : ℕ} {text : Bytes} {ts : List Sign} → ParsesPat Single (Str a text ∷ ts) (PatStr a text) ts
    true_ : {a : ℕ} {ts : List Sign} → ParsesPat Single (Fixed a True ∷ ts) (PatBool a true) ts
    false_ : {a : ℕ} {ts : List Sign} → ParsesPat Single (Fixed a False ∷ ts) (PatBool a false) ts
    unit : {a b : ℕ} {ts : List Sign} → ParsesPat Single (Fixed a Open ∷ Fixed b Close ∷ ts) (PatUnit a) ts
    nil : {a b : ℕ} {ts : List Sign} → ParsesPat Single (Fixed a OpenSquare ∷ Fixed b CloseSquare ∷ ts) (PatNil a) ts
    none : {a : ℕ} {ts : List Sign} → ParsesPat Single (Fixed a NoneWord ∷ ts) (PatAbsent a) ts
    exn : {a k : ℕ} {t : Symbol} {ts : List Sign} → exception_sign t ≡ Some k → ParsesPat Single (Fixed a t ∷ ts) (PatExn a k) ts
    parens : {a b : ℕ} {p : PatTree} {ts r : List Sign} → ParsesPat Pattern ts p (Fixed b Close ∷ r) → ParsesPat Single (Fixed a Open ∷ ts) p r
    tuple : {a b : ℕ} {p : PatTree} {ps : PatTrees} {ts r s : List Sign}
        → ParsesPat Pattern ts p (Fixed b Comma ∷ r) → ParsesPats r ps s → ParsesPat Single (Fixed a Open ∷ ts) (PatTuple a (pat_tree p ps)) s

  -- the parts of a tuple behind its first comma, and its parenthesis
  pub data ParsesPats : List Sign → PatTrees → List Sign → Type 0 where
    last_pat : {a : ℕ} {p : PatTree} {ts r : List Sign} → ParsesPat Pattern ts p (Fixed a Close ∷ r) → ParsesPats ts (pat_tree p no_pat_trees) r
    more_pats : {a : ℕ} {p : PatTree} {ps : PatTrees} {ts r s : List Sign}
        → ParsesPat Pattern ts p (Fixed a Comma ∷ r) → ParsesPats r ps s → ParsesPats ts (pat_tree p ps) s

-- 1 where `::` goes on with the pattern, 2 where nothing does
abbrev pub pat_front : List Sign → ℕ
pat_front (Fixed a Cons ∷ ts) = 1
pat_front ts = 2

abbrev pub pat_looseness : PatLevel → ℕ
pat_looseness Pattern = 1
pat_looseness Prefixed = 0
pat_looseness Single = 0

-- what is left doesn't go on with a pattern of this level
abbrev pub PatStops : PatLevel → List Sign → Type 0
PatStops level rest = pat_looseness level < pat_front rest

-- a pattern of at most this height at this level, behind which these signs are left
pub record IsPatTree (depth : ℕ) (level : PatLevel) (ts : List Sign) (p : PatTree) (rest : List Sign) : Type 0 where
  pub parses : ParsesPat level ts p rest
  pub stops : PatStops level rest
  pub low : pat_height p ≤ depth

-- a pattern; it has a height of its own, of at most `highest_pattern`
abbrev pub IsPattern : List Sign → PatTree → List Sign → Type 0
IsPattern ts p rest = IsPatTree highest_pattern Pattern ts p rest
