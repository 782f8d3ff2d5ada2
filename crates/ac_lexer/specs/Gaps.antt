-- What may stand between tokens: separators and comments.
use Rattle.std.specs.Prelude.{◌≡◌, ℕ, ◌==◌, ◌||◌, Bool, true, false, List, ◌∷◌, ◌++◌, codes, nat_eq}
use Rattle.std.specs.List.{starts_with}

-- space, tab, carriage return and line feed
abbrev pub is_separator : ℕ → Bool
is_separator c = c == 32 || c == 9 || c == 13 || c == 10

-- whether a text begins with `(*`, or with `*)`
abbrev pub begins_comment : List ℕ → Bool
begins_comment text = starts_with nat_eq text (codes "(*")

abbrev pub ends_comment : List ℕ → Bool
ends_comment text = starts_with nat_eq text (codes "*)")

-- a comment from behind its `(*` on: comments and other bytes up to its `*)`, and `rest` is behind that
pub data Inside : List ℕ → List ℕ → Type 0 where
  closed : {rest : List ℕ} → Inside (codes "*)" ++ rest) rest
  nested : {text middle rest : List ℕ} → Inside text middle → Inside middle rest → Inside (codes "(*" ++ text) rest
  byte : {b : ℕ} {text rest : List ℕ} → begins_comment (b ∷ text) ≡ false → ends_comment (b ∷ text) ≡ false → Inside text rest → Inside (b ∷ text) rest

-- the text begins with a separator or a whole comment, and `rest` is behind it
pub data Gap : List ℕ → List ℕ → Type 0 where
  separator : {b : ℕ} {rest : List ℕ} → is_separator b ≡ true → Gap (b ∷ rest) rest
  comment : {text rest : List ℕ} → Inside text rest → Gap (codes "(*" ++ text) rest

-- no separator and no whole comment begins the text
abbrev pub NoGap : List ℕ → Type 0
NoGap text = (rest : List ℕ) → Gap text rest → ⊥
