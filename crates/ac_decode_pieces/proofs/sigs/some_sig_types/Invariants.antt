use Rattle.std.proofs.Common.{◌≡◌, ◌-◌, [], ◌∷◌, map}
use Rattle.ac_types.specs.Sigs.{Sig_type}
use Rattle.ac_types.specs.ReadTypes.{sig_type_of}
use Rattle.ac_decode_pieces.specs.ExactTypes.{exact_sig_type}
use Rattle.ac_terms.specs.PacketReading.{times}
use Rattle.ac_decode_pieces.proofs.Loops.{with_front}
use Rattle.ac_decode_pieces.proofs.sigs.some_sig_types.Given as goal

abbrev pub invariant-loop : goal.invariant-loop
invariant-loop g l =
    with_front (λ (x : Sig_type) xs. x ∷ xs) (map sig_type_of l.items) (times [] (λ (x : Sig_type) xs. x ∷ xs) (exact_sig_type (g.T.Types.reads_type l.types)) (l.count - l.counter) l.cursor.left) ≡ times [] (λ (x : Sig_type) xs. x ∷ xs) (exact_sig_type (g.T.Types.reads_type l.types)) l.count l.fn.cursor.left
