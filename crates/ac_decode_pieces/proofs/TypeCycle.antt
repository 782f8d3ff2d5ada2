-- Steps of reading a type.
use Rattle.std.proofs.Common.{◌≡◌, ap, ◌∙◌, ℕ, suc, Bool, Some, None}
use Rattle.std.specs.Prelude.{option_and_then, slice_get}
use Rattle.ac_types.specs.Types.{Bytes, Typ}
use Rattle.ac_terms.specs.PacketReading.{ReadsPart, read_byte}
use Rattle.ac_decode_pieces.specs.ExactTypes.{exact_type_table, exact_type_of}
use Rattle.ac_decode_pieces.specs.declared.fault.PieceFault.{PieceFault}
use Rattle.ac_decode_pieces.specs.Readers.{NoneRead}
use Rattle.ac_decode_pieces.proofs.Tags.{no_tag, tag_read}
use Rattle.ac_decode_pieces.proofs.Steps.{refused_by}

pub none_of_no_height : (own : Bool) (n : ℕ) (bs : Bytes) → n ≡ 0 → exact_type_of own n bs ≡ None
unfolding exact_type_of
none_of_no_height own n bs e = ap (λ k. exact_type_of own k bs) e

pub type_led : (own : Bool) (n k : ℕ) (bs : Bytes) (tag : ℕ) (mid : Bytes) → n ≡ suc k → read_byte bs ≡ Some (tag, mid) →
    exact_type_of own n bs ≡ option_and_then (λ (g : ReadsPart Typ). g mid) (slice_get (exact_type_table own (exact_type_of own k)) tag)
unfolding exact_type_of
type_led own n k bs tag mid e r = ap (λ j. exact_type_of own j bs) e ∙ tag_read (exact_type_table own (exact_type_of own k)) bs tag mid r

pub no_type_tag : (own : Bool) (n k : ℕ) (bs : Bytes) (e : PieceFault) → n ≡ suc k → NoneRead e (read_byte bs) → NoneRead e (exact_type_of own n bs)
unfolding exact_type_of
no_type_tag own n k bs e is r = refused_by e (ap (λ j. exact_type_of own j bs) is) (no_tag (exact_type_table own (exact_type_of own k)) bs e r)
