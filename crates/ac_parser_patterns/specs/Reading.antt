-- What a parser answers: what it reads and the signs that are left, or that it isn't there.
use Rattle.std.specs.Prelude.{◌<◌, List, length, Result, MatchResult}
use Rattle.std.specs.Borrow.{Bor}
use Rattle.ac_syntax.specs.Signs.{Sign}
use Rattle.ac_syntax.specs.ReadSigns.{read_signs}
use Rattle.ac_syntax.specs.PartParsing.{OnSyntax}
use Rattle.ac_syntax.specs.declared.sign.Sign as code
use Rattle.ac_syntax.specs.declared.stop.ParseError.{ParseError}

-- nothing of this kind begins the signs
abbrev pub Nothing : {A : Type 0} → (List Sign → A → List Sign → Type 0) → List Sign → Type 0
Nothing {A} R ts = (x : A) (rest : List Sign) → R ts x rest → ⊥

-- this stands at the front of the signs, and fewer are left
pub record TakenSigns (P : List Sign → List Sign → Type 0) (signs rest : List code.Sign) : Type 0 where
  pub found : P (read_signs signs) (read_signs rest)
  pub shorter : length rest < length signs

-- the same of a tree that comes with its height
pub record Measured (P : List Sign → List Sign → Type 0) (Height : Type 0) (signs rest : List code.Sign) : Type 0 where
  pub tree : P (read_signs signs) (read_signs rest)
  pub height : Height
  pub shorter : length rest < length signs

-- what is found, or a stop; a stop of syntax says what isn't there
abbrev pub FindsOr : {X : Type 0} → Result X ParseError → (X → Type 0) → Type 0 → Type 0
FindsOr result Found Missing = MatchResult result Found (λ e. OnSyntax e Missing)

-- one kind of thing is read here, or something is missing
abbrev pub ReadsOr : {A X : Type 0} → (List Sign → Type 0) → (List Sign → A → List Sign → Type 0) → (X → A) → List code.Sign → Result (X × Bor (List code.Sign)) ParseError → Type 0
ReadsOr Missing R value signs result = FindsOr result (λ x. TakenSigns (λ ts rest. R ts (value x.0) rest) signs x.1.now) (Missing (read_signs signs))

-- something of this kind is read here, or nothing of the kind begins the signs
abbrev pub ReadsKind : {A X : Type 0} → (List Sign → A → List Sign → Type 0) → (X → A) → List code.Sign → Result (X × Bor (List code.Sign)) ParseError → Type 0
ReadsKind R value signs result = ReadsOr (Nothing R) R value signs result
