-- Openers and closers, and where too many openers are unclosed.
use Rattle.std.specs.Prelude.{◌≡◌, ℕ, ◌+◌, ◌-◌, ◌≤◌, Bool, true, false, List, [], ◌∷◌, ◌++◌, if◌then◌else◌}
use Rattle.ac_types.specs.Limits.{most_openers}
use Rattle.ac_syntax.specs.Signs.{Sign, Fixed, sign_place}
use Rattle.ac_syntax.specs.declared.sign.Symbol.{Symbol}
use Rattle.ac_syntax.specs.declared.sign.Symbol.TheVariants as symbol

abbrev pub opens_part : Symbol → Bool
opens_part symbol.Open = true
opens_part symbol.OpenSquare = true
opens_part symbol.Sig = true
opens_part symbol.Struct = true
opens_part symbol.Match = true
opens_part symbol.Try = true
opens_part s = false

abbrev pub closes_part : Symbol → Bool
closes_part symbol.Close = true
closes_part symbol.CloseSquare = true
closes_part symbol.End = true
closes_part s = false

-- the unclosed openers after one more sign; a closer where nothing is open leaves the count at 0
abbrev pub open_after : ℕ → Sign → ℕ
open_after n (Fixed at s) = if opens_part s then n + 1 else if closes_part s then n - 1 else n
open_after n t = n

-- the unclosed openers of some signs, with so many before
abbrev pub unclosed : ℕ → List Sign → ℕ
unclosed n [] = n
unclosed n (t ∷ ts) = unclosed (open_after n t) ts

-- no front of the signs has too many unclosed openers
abbrev pub IsShallow : List Sign → Type 0
IsShallow ts = (front rest : List Sign) → ts ≡ front ++ rest → unclosed 0 front ≤ most_openers

-- at this place stands the first sign at which too many openers are unclosed
pub record IsDeep (ts : List Sign) (at : ℕ) : Type 0 where
  pub before : List Sign
  pub opener : Sign
  pub rest : List Sign
  pub split : ts ≡ before ++ opener ∷ rest
  pub shallow : IsShallow before
  pub deep : most_openers + 1 ≤ unclosed 0 (before ++ opener ∷ [])
  pub here : at ≡ sign_place opener
