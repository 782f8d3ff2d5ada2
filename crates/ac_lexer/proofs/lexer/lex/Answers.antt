use Rattle.std.proofs.Common.{◌≡◌, refl, ◌<◌, arith, length, rules}
use Rattle.std.proofs.lemmas.List.{nil_from_length}
use Rattle.ac_lexer.specs.Tokens.{nothing}
use Rattle.ac_lexer.proofs.Reading.{past_gap, past_token, whole_text, no_tokens, only}
use Rattle.ac_lexer.proofs.lexer.lex.Goals as goal

pub loop-rest-init : goal.loop-rest-init
loop-rest-init c = record { reads = rw c.new-tokens.ensures nothing; within = omega arith; short = omega arith }

pub loop-rest-preserved-in-Some : goal.loop-rest-preserved-in-Some
loop-rest-preserved-in-Some c = record {
  reads = past_gap c.loop-rest.invariant.reads c.in-Some.ensures.gap;
  within = omega (arith, c.loop-rest.invariant.within, c.in-Some.ensures.shorter);
  short = c.loop-rest.invariant.short;
}

pub loop-rest-preserved : goal.loop-rest-preserved
loop-rest-preserved c =
    let token = rw c.in-Some-2.is at c.in_ok-kind.ensures.token in
    let shorter = rw c.in-Some-2.is at c.in_ok-kind.ensures.shorter in
    record {
      reads = rw c.in_ok-push.ensures.ok (past_token c.loop-rest.invariant.reads token _ refl);
      within = omega (arith, c.loop-rest.invariant.within, shorter);
      short = c.loop-rest.invariant.short;
    }

pub returns-clause-only : goal.returns-clause-only
returns-clause-only c =
    let none : length c.loop-rest.rest.now ≡ 0 = search rules in
    only (whole_text c.loop-rest.invariant.reads (nil_from_length _ none))

pub returns-in_default-2-clause-none : goal.returns-in_default-2-clause-none
returns-in_default-2-clause-none c =
    let some : 0 < length c.loop-rest.rest.now = search rules in
    no_tokens c.loop-rest.invariant.reads some c.in_default.ensures.gap (rw c.in_default-2.is at c.in_ok-kind.ensures.token)
