use Rattle.std.proofs.Common.{◌≡◌, sym, ap, ◌∙◌, arith, true, false, List, map, rules, tests}
use Rattle.std.proofs.lemmas.Grind.{common_steps}
use Rattle.std.proofs.lemmas.Result.{err_from_is_err_and}
use Rattle.sha2.specs.Sha256.{sha256}
use Rattle.ac_types.specs.ReadTypes.{typ_of}
use Rattle.ac_types.specs.Types.{same}
use Rattle.ac_terms.specs.declared.def.PDef as code_def
use Rattle.ac_terms.specs.Read.{environment_of, packet_of, pdef_of}
use Rattle.ac_rules.specs.Packets.{alone}
use Rattle.ac_admit.specs.inner.Spoken.{defs_of, spoken_in}
use Rattle.ac_admit.proofs.CauseLaws.{front_for, not_spoken}
use Rattle.ac_admit.proofs.RoomLaws.{own_spoken}
use Rattle.ac_admit.proofs.judging.judged.Goals as goal

pub returns-in_err-placing-clause-refused : goal.returns-in_err-placing-clause-refused
returns-in_err-placing-clause-refused c =
    let p = err_from_is_err_and c.from_residual-in_err-placing.result c.from_residual-in_err-placing.ensures.1 in
    rw (p.1, p.2) (front_for (environment_of c.args.env.now) (packet_of c.args.p.now) (typ_of c.args.expected.now) c.in_err-placing.field-0.0 c.in_err-placing.ensures.judged)

pub returns-then-not-speaks_of_its_own-clause-refused : goal.returns-then-not-speaks_of_its_own-clause-refused
returns-then-not-speaks_of_its_own-clause-refused c =
    let E = environment_of c.args.env.now in
    let P = packet_of c.args.p.now in
    let own = environment_of c.in_ok-own.own in
    let is : own ≡ alone sha256 P.defs = c.in_ok-own.ensures ∙ ap (λ (xs : List code_def.PDef). alone sha256 (map pdef_of xs)) c.as_slice.ensures in
    let of_type : same P.ty (typ_of c.args.expected.now) ≡ true =
    (let h = c.if-not-same_types.false in let e = c.same_types.ensures in let f = c.if-not-same_types.ensures in first_of (cc, search (rules, tests), grind (arith, common_steps))) in
    let wrong : spoken_in own (defs_of own) P ≡ false =
    (let h = c.if-not-speaks_of_its_own.true in let e = c.speaks_of_its_own.ensures in let f = c.if-not-speaks_of_its_own.ensures in first_of (cc, search (rules, tests), grind (arith, common_steps))) in
    not_spoken E P (typ_of c.args.expected.now) c.in_ok-placing.ensures.judged of_type (sym (own_spoken c.args.p.now c.requires.fits c.in_ok-own.own is) ∙ wrong)

pub returns-clause-spoken : goal.returns-clause-spoken
returns-clause-spoken c =
    let P = packet_of c.args.p.now in
    let own = environment_of c.in_ok-own.own in
    let is : own ≡ alone sha256 P.defs = c.in_ok-own.ensures ∙ ap (λ (xs : List code_def.PDef). alone sha256 (map pdef_of xs)) c.as_slice.ensures in
    let right : spoken_in own (defs_of own) P ≡ true =
    (let h = c.if-not-speaks_of_its_own.false in let e = c.speaks_of_its_own.ensures in let f = c.if-not-speaks_of_its_own.ensures in first_of (cc, search (rules, tests), grind (arith, common_steps))) in
    sym (own_spoken c.args.p.now c.requires.fits c.in_ok-own.own is) ∙ right
