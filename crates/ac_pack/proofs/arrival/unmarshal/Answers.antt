use Rattle.std.proofs.Common.{sym, subst, ◌≤◌, length}
use Rattle.ac_types.specs.ReadTypes.{typ_of}
use Rattle.ac_terms.specs.Read.{environment_of}
use Rattle.ac_pack.proofs.EntryCodes.{few_entries, no_fewer}
use Rattle.ac_pack.proofs.Landings.{grown}
use Rattle.ac_pack.proofs.arrival.unmarshal.Goals as goal

pub generate_arrived-requires-clause-few : goal.generate_arrived-requires-clause-few
generate_arrived-requires-clause-few c =
    let g = grown (environment_of c.args.env.now) (environment_of c.land.new.env) (typ_of c.args.ty.now) c.args.text.now.0 c.in_ok-value.value c.requires c.in_ok-value.ensures in
    few_entries c.land.new.env g.after

pub generate_arrived-requires-clause-within : goal.generate_arrived-requires-clause-within
generate_arrived-requires-clause-within c =
    let g = grown (environment_of c.args.env.now) (environment_of c.land.new.env) (typ_of c.args.ty.now) c.args.text.now.0 c.in_ok-value.value c.requires c.in_ok-value.ensures in
    subst (λ n. n ≤ length c.land.new.env.entries) (sym c.len-first.ensures) (no_fewer c.args.env.now c.land.new.env g)
