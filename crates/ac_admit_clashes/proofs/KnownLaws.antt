-- What a map of names has, after each name that goes in where it isn't there yet.
use Rattle.std.proofs.Common.{◌≡◌, refl, sym, ap, ◌∙◌, ℕ, cond, Bool, true, false, Option, Some, None}
use Rattle.std.specs.Ordering.{nat_cmp}
use Rattle.std.specs.Cmp.Lexicographic.{slice_cmp}
use Rattle.std.specs.BTreeMap.{BTreeMap, IsEmpty, Updates, get}
use Rattle.std.specs.Option.{option_or}
use Rattle.ac_types.proofs.Same.{bytes_eq}
use Rattle.ac_types.specs.Types.{Bytes, same_bytes}
use Rattle.ac_types.specs.Partial.{given}
use Rattle.ac_index.proofs.NotedLaws.{same_order, or_none}
use Rattle.ac_admit_clashes.specs.inner.Known.{name_found}

pub none_found : (m : BTreeMap Bytes ℕ) → IsEmpty m → (n : Bytes) → name_found m n ≡ None
unfolding name_found
none_found m e n = rw e refl

put : (old new : BTreeMap Bytes ℕ) (kept : Bytes) (i : ℕ) → Updates (slice_cmp nat_cmp) old new kept (Some i) → (n : Bytes) → name_found new n ≡ cond (same_bytes kept n) (Some i) (name_found old n)
unfolding name_found
put old new kept i u n = u.0 n ∙ ap (λ b. cond b (Some i) (get (slice_cmp nat_cmp) old n)) (same_order kept n)

-- a name that isn't there goes in
pub noted_new : (old new : BTreeMap Bytes ℕ) (kept : Bytes) (i : ℕ) → name_found old kept ≡ None → Updates (slice_cmp nat_cmp) old new kept (Some i) →
    (n : Bytes) → name_found new n ≡ option_or (name_found old n) (given (same_bytes kept n) (Some i))
noted_new old new kept i h u n = put old new kept i u n ∙ by (same_bytes kept n) refl
  where
    by : (b : Bool) → same_bytes kept n ≡ b → cond b (Some i) (name_found old n) ≡ option_or (name_found old n) (given b (Some i))
    by true e = ap (λ o. option_or o (Some i)) (sym (ap (name_found old) (sym (bytes_eq kept n e)) ∙ h))
    by false e = sym (or_none (name_found old n))

-- one that is there stays
pub noted_old : (old : BTreeMap Bytes ℕ) (kept : Bytes) (i j : ℕ) → name_found old kept ≡ Some j →
    (n : Bytes) → name_found old n ≡ option_or (name_found old n) (given (same_bytes kept n) (Some i))
noted_old old kept i j h n = by (same_bytes kept n) refl
  where
    by : (b : Bool) → same_bytes kept n ≡ b → name_found old n ≡ option_or (name_found old n) (given b (Some i))
    by true e = let at = ap (name_found old) (sym (bytes_eq kept n e)) ∙ h in at ∙ sym (ap (λ o. option_or o (Some i)) at)
    by false e = sym (or_none (name_found old n))

pub noted_none : (o : Option ℕ) (i : Option ℕ) → o ≡ option_or o (given false i)
noted_none o i = sym (or_none o)

pub ruleset noted = (noted_new, noted_old, noted_none)
