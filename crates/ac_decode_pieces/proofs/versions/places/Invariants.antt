use Rattle.std.proofs.Common.{◌≡◌, ◌-◌, [], ◌∷◌, map}
use Rattle.ac_types.specs.Sigs.{Resolve}
use Rattle.ac_types.specs.ReadTypes.{resolve_of}
use Rattle.ac_decode_pieces.specs.ExactReading.{exact_resolve}
use Rattle.ac_terms.specs.PacketReading.{times}
use Rattle.ac_decode_pieces.proofs.Loops.{with_front}
use Rattle.ac_decode_pieces.proofs.versions.places.Given as goal

abbrev pub invariant-loop : goal.invariant-loop
invariant-loop l =
    with_front (λ (x : Resolve) xs. x ∷ xs) (map resolve_of l.items) (times [] (λ (x : Resolve) xs. x ∷ xs) exact_resolve (l.count - l.counter) l.cursor.left) ≡ times [] (λ (x : Resolve) xs. x ∷ xs) exact_resolve l.count l.fn.cursor.left
