use Rattle.std.proofs.Common.{◌∙◌, ap, ℕ, ◌∷◌, arith}
use Rattle.std.proofs.lemmas.List.{nil_from_length}
use Rattle.ac_lexer.proofs.Strings.{goes_on, ends, breaks, unclosed}
use Rattle.ac_lexer.proofs.quoted.quoted.Goals as goal

pub returns-then-first-eq34-clause-quoted : goal.returns-then-first-eq34-clause-quoted
returns-then-first-eq34-clause-quoted c =
    ends c.loop-first.invariant.begun (c.in-Some.ensures.cases.0 ∙ ap (λ (n : ℕ). n ∷ c.in-Some.after.now) c.if-first-eq34.true)

pub returns-in_default-piece-clause-quoted : goal.returns-in_default-piece-clause-quoted
returns-in_default-piece-clause-quoted c =
    breaks c.loop-first.invariant.begun c.in-Some.ensures.cases.0 c.if-first-eq34.false c.in_default-piece.ensures.piece

pub loop-first-preserved : goal.loop-first-preserved
loop-first-preserved c =
    let on = goes_on c.loop-first.invariant.begun c.in-Some-piece.ensures.piece in
    record {
      begun = rw c.in_ok-push.ensures.ok on;
      within = omega (arith, c.loop-first.invariant.within, c.in-Some-piece.ensures.shorter);
    }

pub returns-clause-quoted : goal.returns-clause-quoted
returns-clause-quoted c = unclosed c.loop-first.invariant.begun (nil_from_length _ c.in_default.ensures.cases)
