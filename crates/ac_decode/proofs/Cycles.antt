-- Steps of reading a pattern, a term and a packed value.
use Rattle.std.proofs.Common.{◌≡◌, ap, ◌∙◌, ℕ, suc, Bool, true, Some, None}
use Rattle.std.specs.Prelude.{option_and_then, slice_get}
use Rattle.ac_types.specs.Partial.{given}
use Rattle.ac_types.specs.Types.{Bytes, Typ}
use Rattle.ac_terms.specs.Terms.{Pattern, Expr, PValue}
use Rattle.ac_terms.specs.PacketReading.{ReadsPart, read_byte}
use Rattle.ac_decode_pieces.specs.declared.fault.PieceFault.{PieceFault}
use Rattle.ac_decode_pieces.specs.declared.fault.PieceFault.TheVariants as fault
use Rattle.ac_decode_pieces.specs.Readers.{NoneRead}
use Rattle.ac_decode_pieces.specs.ExactReading.{passing}
use Rattle.ac_decode_pieces.proofs.Tags.{no_tag, tag_read}
use Rattle.ac_decode_pieces.proofs.Steps.{refused_by}
use Rattle.ac_decode.specs.inner.ExactTerms.{exact_pattern_table, exact_pattern, exact_term_table, exact_term, exact_value_table, exact_value}

module _ (read_type : Bool → ReadsPart Typ) where
  pub no_pattern_deeper : (n : ℕ) (bs : Bytes) → n ≡ 0 → exact_pattern read_type n bs ≡ None
  unfolding exact_pattern
  no_pattern_deeper n bs e = ap (λ k. exact_pattern read_type k bs) e

  pub pattern_led : (n k : ℕ) (bs : Bytes) (tag : ℕ) (mid : Bytes) → n ≡ suc k → read_byte bs ≡ Some (tag, mid) →
      exact_pattern read_type n bs ≡ option_and_then (λ (g : ReadsPart Pattern). g mid) (slice_get (exact_pattern_table read_type (exact_pattern read_type k)) tag)
  unfolding exact_pattern
  pattern_led n k bs tag mid e r = ap (λ j. exact_pattern read_type j bs) e ∙ tag_read (exact_pattern_table read_type (exact_pattern read_type k)) bs tag mid r

  pub no_pattern_tag : (n k : ℕ) (bs : Bytes) (e : PieceFault) → n ≡ suc k → NoneRead e (read_byte bs) → NoneRead e (exact_pattern read_type n bs)
  unfolding exact_pattern
  no_pattern_tag n k bs e is r = refused_by e (ap (λ j. exact_pattern read_type j bs) is) (no_tag (exact_pattern_table read_type (exact_pattern read_type k)) bs e r)

  pub no_term_deeper : (i : Bool) (n : ℕ) (bs : Bytes) → n ≡ 0 → exact_term read_type i n bs ≡ None
  unfolding exact_term
  no_term_deeper i n bs e = ap (λ k. exact_term read_type i k bs) e

  pub term_led : (i : Bool) (n k : ℕ) (bs : Bytes) (tag : ℕ) (mid : Bytes) → n ≡ suc k → read_byte bs ≡ Some (tag, mid) →
      exact_term read_type i n bs ≡ option_and_then (λ (g : ReadsPart Expr). g mid) (slice_get (exact_term_table read_type i (exact_pattern read_type k) (exact_term read_type i k) (exact_value read_type k)) tag)
  unfolding exact_term
  term_led i n k bs tag mid e r =
      ap (λ j. exact_term read_type i j bs) e ∙ tag_read (exact_term_table read_type i (exact_pattern read_type k) (exact_term read_type i k) (exact_value read_type k)) bs tag mid r

  pub no_term_tag : (i : Bool) (n k : ℕ) (bs : Bytes) (e : PieceFault) → n ≡ suc k → NoneRead e (read_byte bs) → NoneRead e (exact_term read_type i n bs)
  unfolding exact_term
  no_term_tag i n k bs e is r =
      refused_by e (ap (λ j. exact_term read_type i j bs) is) (no_tag (exact_term_table read_type i (exact_pattern read_type k) (exact_term read_type i k) (exact_value read_type k)) bs e r)

  pub no_value_deeper : (n : ℕ) (bs : Bytes) → n ≡ 0 → exact_value read_type n bs ≡ None
  unfolding exact_value
  no_value_deeper n bs e = ap (λ k. exact_value read_type k bs) e

  pub value_led : (n k : ℕ) (bs : Bytes) (tag : ℕ) (mid : Bytes) → n ≡ suc k → read_byte bs ≡ Some (tag, mid) →
      exact_value read_type n bs ≡ option_and_then (λ (g : ReadsPart PValue). g mid) (slice_get (exact_value_table (exact_term read_type true k) (exact_value read_type k)) tag)
  unfolding exact_value
  value_led n k bs tag mid e r = ap (λ j. exact_value read_type j bs) e ∙ tag_read (exact_value_table (exact_term read_type true k) (exact_value read_type k)) bs tag mid r

  pub no_value_tag : (n k : ℕ) (bs : Bytes) (e : PieceFault) → n ≡ suc k → NoneRead e (read_byte bs) → NoneRead e (exact_value read_type n bs)
  unfolding exact_value
  no_value_tag n k bs e is r =
      refused_by e (ap (λ j. exact_value read_type j bs) is) (no_tag (exact_value_table (exact_term read_type true k) (exact_value read_type k)) bs e r)

-- what is read under a test
pub tested_read : {A : Type 0} (test : A → Bool) (f : ReadsPart A) (bs : Bytes) (a : A) (mid : Bytes) → f bs ≡ Some (a, mid) → passing test f bs ≡ given (test a) (Some (a, mid))
tested_read test f bs a mid e = ap (option_and_then (λ p. given (test p.0) (Some p))) e

pub tested_none : {A : Type 0} (test : A → Bool) (f : ReadsPart A) (bs : Bytes) (e : PieceFault) → NoneRead e (f bs) → NoneRead e (passing test f bs)
tested_none test f bs (fault.Misfit at) r = ap (option_and_then (λ p. given (test p.0) (Some p))) r
tested_none test f bs fault.Short r = ap (option_and_then (λ p. given (test p.0) (Some p))) r
tested_none test f bs fault.Memory r = tt
