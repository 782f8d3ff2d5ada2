use Rattle.std.proofs.lemmas.Result.{IfOk-weaker}
use Rattle.ac_terms.specs.Read.{packet_of, bytes_of}
use Rattle.ac_decode.proofs.Decoding.{spells_same}
use Rattle.ac_decode.proofs.spelling.encode.Goals as goal

pub returns : goal.returns
returns c = IfOk-weaker c.bytes_of_packet.result _ _ (λ text e. spells_same (bytes_of text) c.requires.0 (packet_of c.args.packet.now) c.requires.1 e) c.bytes_of_packet.ensures
