use Rattle.std.proofs.Common.{◌≡◌, ◌-◌, [], ◌∷◌, map}
use Rattle.ac_terms.specs.Defs.{Field}
use Rattle.ac_terms.specs.Read.{field_of}
use Rattle.ac_decode.specs.inner.ExactPackets.{exact_field}
use Rattle.ac_terms.specs.PacketReading.{times}
use Rattle.ac_decode_pieces.proofs.Loops.{with_front}
use Rattle.ac_decode.proofs.defs.some_fields.Given as goal

abbrev pub invariant-loop : goal.invariant-loop
invariant-loop g l =
    with_front (λ (x : Field) xs. x ∷ xs) (map field_of l.items) (times [] (λ (x : Field) xs. x ∷ xs) (exact_field (g.T.Types.reads_type l.types)) (l.count - l.counter) l.cursor.left) ≡ times [] (λ (x : Field) xs. x ∷ xs) (exact_field (g.T.Types.reads_type l.types)) l.count l.fn.cursor.left
