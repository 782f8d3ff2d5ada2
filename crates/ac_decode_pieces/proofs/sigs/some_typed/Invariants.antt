use Rattle.std.proofs.Common.{◌≡◌, ◌-◌, [], ◌∷◌, map}
use Rattle.ac_types.specs.Sigs.{Typed_name}
use Rattle.ac_types.specs.ReadTypes.{typed_of}
use Rattle.ac_decode_pieces.specs.ExactTypes.{exact_typed}
use Rattle.ac_terms.specs.PacketReading.{times}
use Rattle.ac_decode_pieces.proofs.Loops.{with_front}
use Rattle.ac_decode_pieces.proofs.sigs.some_typed.Given as goal

abbrev pub invariant-loop : goal.invariant-loop
invariant-loop g l =
    with_front (λ (x : Typed_name) xs. x ∷ xs) (map typed_of l.items) (times [] (λ (x : Typed_name) xs. x ∷ xs) (exact_typed (g.T.Types.reads_type l.types) l.own) (l.count - l.counter) l.cursor.left) ≡ times [] (λ (x : Typed_name) xs. x ∷ xs) (exact_typed (g.T.Types.reads_type l.types) l.own) l.count l.fn.cursor.left
