use Rattle.std.proofs.Common.{refl}
use Rattle.ac_types.specs.ReadTypes.{typ_of}
use Rattle.ac_terms.specs.Read.{environment_of, packet_of}
use Rattle.ac_pack.proofs.Landings.{string_lands, nothing_lands}
use Rattle.ac_pack.proofs.arrival.land.Goals as goal

pub returns-in-Err : goal.returns-in-Err
returns-in-Err c =
    let E = environment_of c.args.env.now in
    nothing_lands E E (typ_of c.args.ty.now) c.args.text.now.0 c.in-Err.fault refl c.in-Err.ensures

pub returns-in-Ok : goal.returns-in-Ok
returns-in-Ok c =
    string_lands (environment_of c.args.env.now) (environment_of c.take_in.new.env) (typ_of c.args.ty.now) c.args.text.now.0 (packet_of c.in-Ok.packet) c.take_in.result c.in-Ok.ensures.0 c.take_in.ensures
