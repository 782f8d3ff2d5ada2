use Rattle.std.proofs.Common.{sym, subst}
use Rattle.ac_types.specs.Types.{Bytes}
use Rattle.ac_terms.specs.Bounds.{Spells}
use Rattle.ac_terms.specs.Defs.{Packet}
use Rattle.ac_terms.specs.Read.{packet_of}
use Rattle.ac_pack.proofs.Landings.{packet_read, of_format, no_packet, not_read}
use Rattle.ac_pack.proofs.arrival.read.Goals as goal

pub returns-in-Ok : goal.returns-in-Ok
returns-in-Ok c = packet_read c.args.text.now.0 c.in-Ok.packet (subst (λ (b : Bytes). Spells b (packet_of c.in-Ok.packet)) c.as_slice.ensures c.in-Ok.ensures.packet)

pub returns-in-Err-Format : goal.returns-in-Err-Format
returns-in-Err-Format c =
    let none = of_format c.in-Err-Format.field-0 c.in-Err-Format.field-0-0 ((p : Packet) → Spells c.as_slice.result.now p → ⊥) c.in-Err-Format.field-0-is c.in-Err-Format.ensures.format in
    not_read c.args.text.now.0 c.of_format.result
    (no_packet c.args.text.now.0 (λ p s. none p (subst (λ (b : Bytes). Spells b p) (sym c.as_slice.ensures) s))) c.of_format.ensures
