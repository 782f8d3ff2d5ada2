use Rattle.std.proofs.Common.{◌≡◌, ◌-◌, [], ◌∷◌, map}
use Rattle.ac_types.specs.Sigs.{Range}
use Rattle.ac_types.specs.ReadTypes.{range_of}
use Rattle.ac_decode_pieces.specs.ExactReading.{exact_range}
use Rattle.ac_terms.specs.PacketReading.{times}
use Rattle.ac_decode_pieces.proofs.Loops.{with_front}
use Rattle.ac_decode_pieces.proofs.versions.all_ranges.Given as goal

abbrev pub invariant-loop : goal.invariant-loop
invariant-loop l =
    with_front (λ (x : Range) xs. x ∷ xs) (map range_of l.items) (times [] (λ (x : Range) xs. x ∷ xs) exact_range (l.count - l.counter) l.cursor.left) ≡ times [] (λ (x : Range) xs. x ∷ xs) exact_range l.count l.fn.cursor.left
