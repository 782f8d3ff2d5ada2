-- Which gap begins a text.
use Rattle.std.proofs.Common.{◌≡◌, ℕ, true, List, ◌∷◌, Option, Some, None, sym, subst, MatchOption}
use Rattle.std.specs.Borrow.{Bor}
use Rattle.std.proofs.lemmas.Bool.{false≢true}
use Rattle.ac_lexer.specs.Gaps.{is_separator, Inside, Gap, NoGap, separator, comment}

pub by_separator : (text rest : List ℕ) (b : ℕ) → text ≡ b ∷ rest → is_separator b ≡ true → Gap text rest
by_separator text rest b e h = subst (λ (l : List ℕ). Gap l rest) (sym e) (separator h)

behind : {text rest : List ℕ} → Gap (40 ∷ 42 ∷ text) rest → Inside text rest
behind (separator h) = absurd (false≢true h)
behind (comment x) = x

pub by_comment : (text after : List ℕ) → text ≡ 40 ∷ 42 ∷ after → (o : Option (Bor (List ℕ))) → MatchOption o ((rest : List ℕ) → Inside after rest → ⊥) (λ rest. Inside after rest.now) → MatchOption o (NoGap text) (λ rest. Gap text rest.now)
by_comment text after e None none = λ rest g. none rest (behind (subst (λ (l : List ℕ). Gap l rest) e g))
by_comment text after e (Some rest) x = subst (λ (l : List ℕ). Gap l rest.now) (sym e) (comment x)
