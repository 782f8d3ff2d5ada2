use Rattle.std.proofs.Common.{◌∙◌, ◌<◌, ◌≤◌, sym, length, arith}
use Rattle.std.proofs.lemmas.List.{length-map}
use Rattle.ac_terms.specs.Read.{environment_of, entry_of}
use Rattle.ac_chain.proofs.Searches.{here, nowhere}
use Rattle.ac_chain.proofs.clash.clash_in.Goals as goal

pub returns-then-branch : goal.returns-then-branch
returns-then-branch c =
    let long = length-map c.args.other.now.entries entry_of in
    let within : c.loop-j.j < length (environment_of c.args.other.now) = omega (arith, long) in
    sym (here (environment_of c.args.env.now) (environment_of c.args.other.now) c.args.i c.loop-j.j within (sym c.in_ok-is_clash.ensures ∙ c.if-branch.true) c.loop-j.invariant)

pub returns : goal.returns
returns c =
    let long = length-map c.args.other.now.entries entry_of in
    let all : length (environment_of c.args.other.now) ≤ c.loop-j.j = omega (arith, long) in
    sym (nowhere (environment_of c.args.env.now) (environment_of c.args.other.now) c.args.i c.loop-j.j all c.loop-j.invariant)
