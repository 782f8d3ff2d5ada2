-- What the last of some parts has sent.
use Rattle.std.proofs.Common.{◌≡◌, ap, ℕ, zero, suc, ◌-◌, List, [], ◌∷◌, length, Some, slice_get, arith}
use Rattle.ac_types.specs.Types.{Bytes}
use Rattle.ac_types.proofs.FirstLaws.{none≢some, some_eq}
use Rattle.ac_chain.specs.declared.chained.ChainPart.{ChainPart}
use Rattle.ac_chain.specs.inner.Running.{last_sent}

sent_at : (before : Bytes) (parts : List ChainPart) (k : ℕ) (part : ChainPart) → suc k ≡ length parts → slice_get parts k ≡ Some part → last_sent before parts ≡ part.sent.0
sent_at before [] k part e is = absurd (omega (arith, e))
sent_at before (p ∷ []) zero part e is = ap (λ (x : ChainPart). x.sent.0) (some_eq is)
sent_at before (p ∷ []) (suc k) part e is = absurd (omega (arith, e))
sent_at before (p ∷ q ∷ parts) zero part e is = absurd (omega (arith, e))
sent_at before (p ∷ q ∷ parts) (suc k) part e is = sent_at p.sent.0 (q ∷ parts) k part (omega (arith, e)) is

no_part : (k : ℕ) (part : ChainPart) → slice_get {X = ChainPart} [] k ≡ Some part → ⊥
no_part k part is = none≢some is

pub sent_last : (parts : List ChainPart) (part : ChainPart) → slice_get parts (length parts - 1) ≡ Some part → last_sent [] parts ≡ part.sent.0
sent_last [] part is = absurd (no_part (length {A = ChainPart} [] - 1) part is)
sent_last (p ∷ parts) part is = sent_at [] (p ∷ parts) (length (p ∷ parts) - 1) part (omega arith) is
