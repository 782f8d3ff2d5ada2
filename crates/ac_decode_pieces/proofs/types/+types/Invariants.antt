use Rattle.std.proofs.Common.{◌≡◌, ◌-◌, ◌+◌, ◌*◌, map}
use Rattle.ac_types.specs.Types.{no_types, typ}
use Rattle.ac_types.specs.ReadTypes.{typ_of}
use Rattle.ac_decode_pieces.specs.ExactTypes.{exact_type_of}
use Rattle.ac_terms.specs.PacketReading.{times}
use Rattle.ac_decode_pieces.proofs.Loops.{with_front}
use Rattle.ac_decode_pieces.proofs.types.+types.Given as goal

-- three for each level
abbrev pub decreases-type_of : goal.decreases-type_of
decreases-type_of l = 3 * l.depth

abbrev pub decreases-boxed : goal.decreases-boxed
decreases-boxed l = 3 * l.depth + 1

abbrev pub decreases-all : goal.decreases-all
decreases-all l = 3 * l.depth + 1

abbrev pub decreases-two_types : goal.decreases-two_types
decreases-two_types l = 3 * l.depth + 2

abbrev pub invariant-all-loop : goal.invariant-all-loop
invariant-all-loop l =
    with_front typ (map typ_of l.items) (times no_types typ (exact_type_of l.own l.depth) (l.count - l.counter) l.cursor.left) ≡ times no_types typ (exact_type_of l.own l.depth) l.count l.fn.cursor.left
