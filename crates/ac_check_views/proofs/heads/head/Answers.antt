use Rattle.std.proofs.Common.{◌+◌, ◌-◌, ◌<◌, sym, ap, ◌∙◌, arith, length, Option, Bor}
use Rattle.std.specs.Prelude.{option_map, unwrap_or}
use Rattle.std.specs.Option.{option_copied}
use Rattle.ac_types.specs.ReadTypes.{typ_of}
use Rattle.ac_types.specs.declared.ty.Ty.{Ty}
use Rattle.ac_terms.specs.Read.{environment_of}
use Rattle.ac_rules.specs.Views.{rounds, unsealed}
use Rattle.ac_check_views.proofs.HeadLaws.{rounds_still, next_round}
use Rattle.ac_check_views.proofs.heads.head.Goals as goal

pub returns-in-None : goal.returns-in-None
returns-in-None c =
    sym (c.loop-i.invariant ∙ rounds_still (length c.args.env.now.entries - c.loop-i.i) (unsealed (environment_of c.args.env.now)) (typ_of c.loop-i.found.now)
    (sym c.unsealed.ensures ∙ ap (λ (o : Option (Bor Ty)). unwrap_or (option_map typ_of (option_copied o)) (typ_of c.loop-i.found.now)) c.in-None.is))

pub loop-i-preserved : goal.loop-i-preserved
loop-i-preserved c =
    let n = length c.args.env.now.entries in
    let f = unsealed (environment_of c.args.env.now) in
    let l : c.loop-i.i < n = omega arith in
    c.loop-i.invariant ∙ next_round n c.loop-i.i f (typ_of c.loop-i.found.now) l
    ∙ ap (rounds (n - (c.loop-i.i + 1)) f)
    (sym c.unsealed.ensures ∙ ap (λ (o : Option (Bor Ty)). unwrap_or (option_map typ_of (option_copied o)) (typ_of c.loop-i.found.now)) c.in-Some.is)
