-- A tag that no term has.
use Rattle.std.proofs.Common.{◌≡◌, ap, ℕ, ◌≤◌, Bool, None, inl, inr, arith}
use Rattle.std.specs.Prelude.{option_and_then, slice_get}
use Rattle.std.proofs.lemmas.Bool.{cases_lt}
use Rattle.std.proofs.lemmas.Option.{slice_get_past}
use Rattle.ac_types.specs.Types.{Bytes, Typ}
use Rattle.ac_terms.specs.Terms.{Pattern, Expr, PValue}
use Rattle.ac_terms.specs.PacketReading.{ReadsPart}
use Rattle.ac_decode.specs.inner.ExactTerms.{exact_term_table}

pub no_entry : (read_type : Bool → ReadsPart Typ) (i : Bool) (p : ReadsPart Pattern) (f : ReadsPart Expr) (g : ReadsPart PValue) (tag : ℕ) (bs : Bytes) → (tag ≤ 26 → tag ≡ 0) →
    option_and_then (λ (r : ReadsPart Expr). r bs) (slice_get (exact_term_table read_type i p f g) tag) ≡ None
no_entry read_type i p f g tag bs low =
    elim (cases_lt 26 tag) [
      | inl past ↦ ap (option_and_then (λ (r : ReadsPart Expr). r bs)) (slice_get_past (exact_term_table read_type i p f g) tag (omega arith))
      | inr within ↦ ap (λ k. option_and_then (λ (r : ReadsPart Expr). r bs) (slice_get (exact_term_table read_type i p f g) k)) (low within)
    ]
