-- A tag is read first.
use Rattle.std.proofs.Common.{◌≡◌, sym, ap, subst, ℕ, List, Some, None}
use Rattle.std.specs.Prelude.{option_and_then, slice_get, Result}
use Rattle.ac_types.specs.Types.{Bytes}
use Rattle.ac_terms.specs.PacketReading.{ReadsPart, read_byte, tagged}
use Rattle.ac_decode_pieces.specs.declared.fault.PieceFault.{PieceFault}
use Rattle.ac_decode_pieces.specs.declared.fault.PieceFault.TheVariants as fault
use Rattle.ac_decode_pieces.specs.Readers.{NoneRead, ReadsAs}
use Rattle.ac_decode_pieces.proofs.Taken.{byte_front, no_byte}

pub tag_read : {A : Type 0} (table : List (ReadsPart A)) (bs : Bytes) (tag : ℕ) (mid : Bytes) → read_byte bs ≡ Some (tag, mid) → tagged table bs ≡ option_and_then (λ (g : ReadsPart A). g mid) (slice_get table tag)
tag_read table bs tag mid e = ap (tagged table) (byte_front bs tag mid e)

tag_none : {A : Type 0} (table : List (ReadsPart A)) (bs : Bytes) → read_byte bs ≡ None → tagged table bs ≡ None
tag_none table bs e = ap (tagged table) (no_byte bs e)

-- without a tag nothing is read
pub no_tag : {A : Type 0} (table : List (ReadsPart A)) (bs : Bytes) (e : PieceFault) → NoneRead e (read_byte bs) → NoneRead e (tagged table bs)
no_tag table bs (fault.Misfit at) r = tag_none table bs r
no_tag table bs fault.Short r = tag_none table bs r
no_tag table bs fault.Memory r = tt

-- what is read behind it is read with it
pub after_tag : {X A : Type 0} (view : X → A) (table : List (ReadsPart A)) (bs : Bytes) (tag : ℕ) (mid : Bytes) (r : Result X PieceFault) (left : Bytes) → read_byte bs ≡ Some (tag, mid) →
    ReadsAs view r (option_and_then (λ (g : ReadsPart A). g mid) (slice_get table tag)) left → ReadsAs view r (tagged table bs) left
after_tag view table bs tag mid r left e a = subst (λ o. ReadsAs view r o left) (sym (tag_read table bs tag mid e)) a
