-- The first number below another at which something is found.
use Rattle.std.proofs.Common.{◌≡◌, ◌∙◌, ◌⊎◌, inl, inr, refl, sym, ap, ℕ, zero, suc, ◌<◌, Option, Some, None, arith}
use Rattle.std.proofs.lemmas.Bool.{cases_order}
use Rattle.std.specs.Option.{option_or}
use Rattle.ac_types.proofs.FirstLaws.{none≢some, some_eq}
use Rattle.ac_load_rules.specs.Causes.{first_below}

pub else_none : {A : Type 0} (a b : Option A) → a ≡ None → option_or a b ≡ b
else_none {A} a b h = ap (λ (o : Option A). option_or o b) h

pub else_some : {A : Type 0} (a b : Option A) (x : A) → a ≡ Some x → option_or a b ≡ Some x
else_some {A} a b x h = ap (λ (o : Option A). option_or o b) h

-- the least number at which it is found
pub record Least {A : Type 0} (f : ℕ → Option A) (n : ℕ) (a : A) : Type 0 where
  pub at : ℕ
  pub below : at < n
  pub is : f at ≡ Some a
  pub none : (j : ℕ) → j < at → f j ≡ None

pub below_all : {A : Type 0} (n : ℕ) (f : ℕ → Option A) → ((j : ℕ) → j < n → f j ≡ None) → first_below n f ≡ None
below_all zero f h = refl
below_all (suc n) f h = else_none (first_below n f) (f n) (below_all n f (λ j lt. h j (omega (arith, lt)))) ∙ h n (omega arith)

pub below_none : {A : Type 0} (n : ℕ) (f : ℕ → Option A) → first_below n f ≡ None → (j : ℕ) → j < n → f j ≡ None
below_none zero f h j lt = absurd (omega (arith, lt))
below_none {A} (suc n) f h j lt = on (λ e before. below_none n f e j before) (first_below n f) refl (cases_order j n) where
  on : (first_below n f ≡ None → j < n → f j ≡ None) → (o : Option A) → first_below n f ≡ o → (j ≡ n) ⊎ ((j < n) ⊎ (n < j)) → f j ≡ None
  on earlier (Some a) e order = absurd (none≢some (sym h ∙ else_some (first_below n f) (f n) a e))
  on earlier None e (inl is) = ap f is ∙ sym (else_none (first_below n f) (f n) e) ∙ h
  on earlier None e (inr (inl before)) = earlier e before
  on earlier None e (inr (inr after)) = absurd (omega (arith, lt, after))

pub below_some : {A : Type 0} (n : ℕ) (f : ℕ → Option A) (a : A) → first_below n f ≡ Some a → Least f n a
below_some zero f a h = absurd (none≢some h)
below_some {A} (suc n) f a h = on (λ e. below_some n f a e) (first_below n f) refl where
  on : (first_below n f ≡ Some a → Least f n a) → (o : Option A) → first_below n f ≡ o → Least f (suc n) a
  on earlier (Some b) e =
      let l = earlier (e ∙ ap Some (some_eq (sym (else_some (first_below n f) (f n) b e) ∙ h))) in
      let lt = l.below in
      record { at = l.at; below = omega (arith, lt); is = l.is; none = l.none }
  on earlier None e = record { at = n; below = omega arith; is = sym (else_none (first_below n f) (f n) e) ∙ h; none = below_none n f e }

pub below_is : {A : Type 0} (n : ℕ) (f : ℕ → Option A) (k : ℕ) (a : A) → k < n → f k ≡ Some a → ((j : ℕ) → j < k → f j ≡ None) → first_below n f ≡ Some a
below_is zero f k a lt is none = absurd (omega (arith, lt))
below_is {A} (suc n) f k a lt is none = on (λ before. below_is n f k a before is none) (cases_order k n) where
  on : (k < n → first_below n f ≡ Some a) → (k ≡ n) ⊎ ((k < n) ⊎ (n < k)) → first_below (suc n) f ≡ Some a
  on earlier (inl e) = else_none (first_below n f) (f n) (below_all n f (λ j l. none j (omega (arith, l, e)))) ∙ sym (ap f e) ∙ is
  on earlier (inr (inl before)) = else_some (first_below n f) (f n) a (earlier before)
  on earlier (inr (inr after)) = absurd (omega (arith, lt, after))
