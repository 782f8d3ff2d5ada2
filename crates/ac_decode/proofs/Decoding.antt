-- What is read of all bytes is what they spell, and where nothing is read of all they spell nothing.
use Rattle.std.proofs.Common.{◌≡◌, sym, ap, subst, ◌∙◌, ◌≤◌, [], ◌∷◌, length, Option, Some, None, append-nil}
use Rattle.std.specs.Prelude.{option_and_then}
use Rattle.ac_types.proofs.FirstLaws.{none≢some, some_eq}
use Rattle.ac_types.specs.Limits.{longest_packet}
use Rattle.ac_types.specs.Types.{Bytes}
use Rattle.ac_terms.specs.Defs.{Packet}
use Rattle.ac_terms.specs.Spelling.{packet_bytes}
use Rattle.ac_terms.specs.Bounds.{Spells}
use Rattle.ac_decode_pieces.specs.ExactTypes.{exact_type}
use Rattle.ac_decode.specs.inner.ExactPackets.{exact_packet}
use Rattle.ac_decode.specs.inner.Ends.{then_end, to_the_end}
use Rattle.ac_decode.proofs.PacketsExact.{packet_sound, packet_back}

ended : {A : Type 0} (o : Option (A × Bytes)) (a : A) (rest : Bytes) → option_and_then then_end o ≡ Some (a, rest) → (o ≡ Some (a, [])) × (rest ≡ [])
ended None a rest e = absurd (none≢some e)
ended (Some (x, [])) a rest e = let q = some_eq e in (ap (λ (z : _ × Bytes). Some (z.0, [])) q, sym (ap (λ (z : _ × Bytes). z.1) q))
ended (Some (x, (b ∷ bs))) a rest e = absurd (none≢some e)

pub spelled : (bs : Bytes) (p : Packet) (rest : Bytes) → to_the_end (exact_packet exact_type) bs ≡ Some (p, rest) → length bs ≤ longest_packet → Spells bs p
spelled bs p rest e short =
    let q = ended (exact_packet exact_type bs) p rest e in
    let t = packet_sound bs p [] q.0 in
    record { fits = t.fits; spelled = t.parts ∙ append-nil (packet_bytes p); short = short }

pub unspelled : (bs : Bytes) → to_the_end (exact_packet exact_type) bs ≡ None → (p : Packet) → Spells bs p → ⊥
unspelled bs e p s =
    let whole : exact_packet exact_type bs ≡ Some (p, []) = ap (exact_packet exact_type) (s.spelled ∙ sym (append-nil (packet_bytes p))) ∙ (packet_back p s.fits).reads [] in
    none≢some (sym e ∙ ap (option_and_then then_end) whole)

-- the bytes of a packet that some bytes spell
pub spells_same : (text bs : Bytes) (p : Packet) → Spells bs p → text ≡ packet_bytes p → Spells text p
spells_same text bs p s e = subst (λ (t : Bytes). Spells t p) (s.spelled ∙ sym e) s
