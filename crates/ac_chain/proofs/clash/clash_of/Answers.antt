use Rattle.std.proofs.Common.{◌<◌, ◌≤◌, ◌+◌, length, arith}
use Rattle.std.proofs.lemmas.List.{length-map}
use Rattle.ac_terms.specs.Read.{environment_of, entry_of}
use Rattle.ac_chain.specs.Clashes.{clash_behind}
use Rattle.ac_chain.specs.ChainTexts.{programs_of}
use Rattle.ac_chain.proofs.Searches.{found_below, none_below}
use Rattle.ac_chain.proofs.clash.clash_of.Goals as goal

pub returns-then-is_some : goal.returns-then-is_some
returns-then-is_some c =
    let long = length-map c.args.env.now.entries entry_of in
    let within : c.loop-i.i < length (environment_of c.args.env.now) = omega (arith, long) in
    found_below (length (environment_of c.args.env.now)) c.loop-i.i _ c.in_ok-clash.clash within c.in_ok-clash.ensures c.if-is_some.ensures c.loop-i.invariant

pub returns : goal.returns
returns c =
    let long = length-map c.args.env.now.entries entry_of in
    let all : length (environment_of c.args.env.now) ≤ c.loop-i.i = omega (arith, long) in
    none_below (length (environment_of c.args.env.now)) c.loop-i.i (λ k. clash_behind c.args.a (environment_of c.args.env.now) k (c.args.a + 1) (programs_of c.args.later.now)) all c.loop-i.invariant
