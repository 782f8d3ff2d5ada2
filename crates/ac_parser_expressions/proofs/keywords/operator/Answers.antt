use Rattle.std.proofs.Common.{◌≡◌, ℕ, List, [], ◌∷◌, Some, refl, sym, ap, ◌∙◌}
use Rattle.ac_syntax.specs.Signs.{Sign, Fixed}
use Rattle.ac_syntax.specs.Expressions.{Operator, operator_of}
use Rattle.ac_syntax.specs.ReadSigns.{read_kind, read_signs}
use Rattle.ac_syntax.specs.declared.sign.Symbol.{Symbol}
use Rattle.ac_syntax.specs.declared.sign.SignKind.{SignKind}
use Rattle.ac_syntax.specs.declared.sign.SignKind.TheVariants as kind
use Rattle.ac_syntax.proofs.Exceptions.{nothing_there, same_value}
use Rattle.ac_parser_expressions.specs.inner.Levels.{NoOperator}
use Rattle.ac_parser_patterns.specs.Forms.{operator_read}
use Rattle.ac_parser_expressions.proofs.keywords.operator.Goals as goal

nothing_here : {level : ℕ} {ts : List Sign} → ts ≡ [] → NoOperator level ts
nothing_here none o r w = let e = sym none ∙ w.is in cc

not_fixed : (at : ℕ) (k : SignKind) {p : ℕ} {s : Symbol} {rest r : List Sign} → ((symbol : Symbol) → k ≡ kind.Fixed symbol → ⊥) → read_kind at k ∷ rest ≡ Fixed p s ∷ r → ⊥
not_fixed at (kind.Int n) other e = cc
not_fixed at (kind.Str text) other e = cc
not_fixed at (kind.Lower word) other e = cc
not_fixed at (kind.Upper word) other e = cc
not_fixed at (kind.Fixed symbol) other e = other symbol refl
not_fixed at kind.Other other e = cc

same_symbol : {a b : ℕ} {s t : Symbol} {rest r : List Sign} → Fixed a s ∷ rest ≡ Fixed b t ∷ r → s ≡ t
same_symbol e = cc

-- a symbol that names no operator of the level
unnamed : {level at : ℕ} {symbol : Symbol} {ts rest : List Sign} → ts ≡ Fixed at symbol ∷ rest → ((o : Operator) → operator_of symbol ≡ Some (level, o) → ⊥) → NoOperator level ts
unnamed is none o r w = none o (ap operator_of (same_symbol (sym is ∙ w.is)) ∙ w.named)

pub returns-in_err-first : goal.returns-in_err-first
returns-in_err-first c = rw c.from_residual.ensures (nothing_here c.in_err-first.ensures.first)

pub returns-in_default : goal.returns-in_default
returns-in_default c = λ o r w. not_fixed _ _ c.in_default.not-Fixed (sym c.in_ok-first.ensures.first ∙ w.is)

pub returns-in_err-own : goal.returns-in_err-own
returns-in_err-own c =
    let is = c.in_ok-first.ensures.first ∙ ap (λ (k : SignKind). read_kind c.in_ok-first.first.at k ∷ read_signs c.in_ok-first.rest.now) c.in-Fixed.is in
    rw c.from_residual-in_err-own.ensures (unnamed is (λ o named. nothing_there (sym c.in_err-own.ensures ∙ named)))

pub returns-then-own-level : goal.returns-then-own-level
returns-then-own-level c = record {
  found = record {
    symbol = c.in-Fixed.symbol;
    at = c.in_ok-first.first.at;
    is = c.in_ok-first.ensures.first ∙ ap (λ (k : SignKind). read_kind c.in_ok-first.first.at k ∷ read_signs c.in_ok-first.rest.now) c.in-Fixed.is;
    named = c.in_ok-own.ensures ∙ ap (λ (n : ℕ). Some (n, operator_read c.in_ok-own.operator)) c.if-own-level.true;
  };
  shorter = c.in_ok-first.ensures.shorter;
}

pub returns-else-own-level : goal.returns-else-own-level
returns-else-own-level c =
    let is = c.in_ok-first.ensures.first ∙ ap (λ (k : SignKind). read_kind c.in_ok-first.first.at k ∷ read_signs c.in_ok-first.rest.now) c.in-Fixed.is in
    unnamed is (λ o named. c.if-own-level.false (ap (λ (x : ℕ × Operator). x.0) (same_value c.in_ok-own.ensures named)))
