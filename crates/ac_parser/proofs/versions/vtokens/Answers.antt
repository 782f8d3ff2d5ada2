use Rattle.std.proofs.Common.{List, sym, subst, ◌∙◌, arith}
use Rattle.ac_version.specs.declared.read.VToken.{VToken}
use Rattle.ac_syntax.specs.Programs.{VTokens}
use Rattle.ac_syntax.specs.ReadSigns.{read_signs}
use Rattle.ac_parser.proofs.VersionSteps.{no_tokens_yet, stops_here, stopped_here, none_here, none_more, more_here}
use Rattle.ac_parser.proofs.versions.vtokens.Goals as goal

pub loop-sign-init : goal.loop-sign-init
loop-sign-init c = record {
  read = subst (λ (l : List VToken). VTokens (read_signs c.args.signs.now) l (read_signs c.args.signs.now)) (sym c.new-tokens.ensures.items) (no_tokens_yet _);
  count = c.new-tokens.ensures.len;
}

pub returns-in_default-clause-all : goal.returns-in_default-clause-all
returns-in_default-clause-all c =
    let count = c.len.ensures ∙ c.loop-sign.invariant.count in
    stops_here _ _ _ _ c.loop-sign.invariant.read count (none_here _ _ _ _ c.loop-sign.invariant.read count _ c.loop-sign-test.true c.sign-item.is (sym c.vtoken.ensures ∙ c.in_default.is))

pub returns-in_default-clause-stops : goal.returns-in_default-clause-stops
returns-in_default-clause-stops c =
    let count = c.len.ensures ∙ c.loop-sign.invariant.count in
    stopped_here _ _ _ _ c.loop-sign.invariant.read count (none_here _ _ _ _ c.loop-sign.invariant.read count _ c.loop-sign-test.true c.sign-item.is (sym c.vtoken.ensures ∙ c.in_default.is))

pub loop-sign-preserved : goal.loop-sign-preserved
loop-sign-preserved c = record {
  read = more_here _ _ _ _ c.loop-sign.invariant.read c.loop-sign.invariant.count _ _ _ c.loop-sign-test.true c.sign-item.is (sym c.vtoken.ensures ∙ c.in-Some.is) c.in_ok-push.ensures.items;
  count = omega (arith, c.loop-sign.invariant.count, c.in_ok-push.ensures.len);
}

pub returns-clause-all : goal.returns-clause-all
returns-clause-all c =
    let count = c.len-2.ensures ∙ c.loop-sign.invariant.count in
    stops_here _ _ _ _ c.loop-sign.invariant.read count (none_more _ _ _ _ c.loop-sign.invariant.read count c.loop-sign-test.false)

pub returns-clause-stops : goal.returns-clause-stops
returns-clause-stops c =
    let count = c.len-2.ensures ∙ c.loop-sign.invariant.count in
    stopped_here _ _ _ _ c.loop-sign.invariant.read count (none_more _ _ _ _ c.loop-sign.invariant.read count c.loop-sign-test.false)
