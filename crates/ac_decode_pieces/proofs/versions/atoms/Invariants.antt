use Rattle.std.proofs.Common.{◌≡◌, ◌-◌, [], ◌∷◌, map}
use Rattle.ac_types.specs.Sigs.{Atom}
use Rattle.ac_types.specs.ReadTypes.{atom_of}
use Rattle.ac_decode_pieces.specs.ExactReading.{exact_atom}
use Rattle.ac_terms.specs.PacketReading.{times}
use Rattle.ac_decode_pieces.proofs.Loops.{with_front}
use Rattle.ac_decode_pieces.proofs.versions.atoms.Given as goal

abbrev pub invariant-loop : goal.invariant-loop
invariant-loop l =
    with_front (λ (x : Atom) xs. x ∷ xs) (map atom_of l.items) (times [] (λ (x : Atom) xs. x ∷ xs) exact_atom (l.count - l.counter) l.cursor.left) ≡ times [] (λ (x : Atom) xs. x ∷ xs) exact_atom l.count l.fn.cursor.left
