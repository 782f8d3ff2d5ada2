use Rattle.std.proofs.Common.{◌≡◌, ◌-◌, [], ◌∷◌, map}
use Rattle.ac_terms.specs.Defs.{Def}
use Rattle.ac_terms.specs.Read.{pdef_of}
use Rattle.ac_decode.specs.inner.ExactPackets.{exact_def}
use Rattle.ac_terms.specs.PacketReading.{times}
use Rattle.ac_decode_pieces.proofs.Loops.{with_front}
use Rattle.ac_decode.proofs.defs.some_defs.Given as goal

abbrev pub invariant-loop : goal.invariant-loop
invariant-loop g l =
    with_front (λ (x : Def) xs. x ∷ xs) (map pdef_of l.items) (times [] (λ (x : Def) xs. x ∷ xs) (exact_def (g.T.Types.reads_type l.types)) (l.count - l.counter) l.cursor.left) ≡ times [] (λ (x : Def) xs. x ∷ xs) (exact_def (g.T.Types.reads_type l.types)) l.count l.fn.cursor.left
