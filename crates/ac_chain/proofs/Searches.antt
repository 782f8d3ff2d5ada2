-- The search for the first clash, step by step.
use Rattle.std.proofs.Common.{◌≡◌, sym, ap, subst, ℕ, zero, suc, ◌<◌, ◌≤◌, ◌^◌, true, false, List, [], ◌∷◌, length, drop, get_or, Option, Some, None, arith}
use mathlib.Core.Bool.{true≢false}
use Rattle.std.specs.Prelude.{is_some}
use Rattle.ac_types.specs.Partial.{given}
use Rattle.ac_terms.specs.Defs.{Environment}
use Rattle.ac_rules.specs.declared.loaded.Loaded.{Loaded}
use Rattle.ac_load_rules.specs.Causes.{first_below}
use Rattle.ac_chain.specs.Clashes.{is_clash, clash_in}
use Rattle.ac_chain.specs.inner.Running.{AreFew}
use Rattle.ac_load_rules.proofs.Firsts.{below_all, below_is}

-- within the entries of one program
pub here : (E F : Environment) (i j : ℕ) → j < length F → is_clash E i F j ≡ true → ((k : ℕ) → k < j → is_clash E i F k ≡ false) → clash_in E i F ≡ Some j
here E F i j within clash none =
    below_is (length F) (λ k. given (is_clash E i F k) (Some k)) j j within (ap (λ b. given b (Some j)) clash) (λ k lt. ap (λ b. given b (Some k)) (none k lt))

pub nowhere : (E F : Environment) (i n : ℕ) → length F ≤ n → ((k : ℕ) → k < n → is_clash E i F k ≡ false) → clash_in E i F ≡ None
nowhere E F i n all none = below_all (length F) (λ k. given (is_clash E i F k) (Some k)) (λ k lt. ap (λ b. given b (Some k)) (none k (omega (arith, lt, all))))

-- among the entries of a program, whatever is looked for at each
pub found_below : {A : Type 0} (n i : ℕ) (f : ℕ → Option A) (o : Option A) → i < n → o ≡ f i → true ≡ is_some o → ((k : ℕ) → k < i → f k ≡ None) → o ≡ first_below n f
found_below n i f None lt is some none = absurd (true≢false some)
found_below n i f (Some a) lt is some none = sym (below_is n f i a lt (sym is) none)

pub none_below : {A : Type 0} (n i : ℕ) (f : ℕ → Option A) → n ≤ i → ((k : ℕ) → k < i → f k ≡ None) → None ≡ first_below n f
none_below n i f all none = sym (below_all n f (λ k lt. none k (omega (arith, lt, all))))

-- programs with few entries
pub few_at : (ls : List Loaded) (i : ℕ) (d : Loaded) → AreFew ls → i < length ls → length (get_or ls i d).env.entries < 2 ^ 32
few_at [] i d few lt = absurd (omega (arith, lt))
few_at (l ∷ ls) zero d few lt = few.0
few_at (l ∷ ls) (suc i) d few lt = few_at ls i d few.1 (omega (arith, lt))

pub few_of : (ls : List Loaded) (i : ℕ) (x : Loaded) → AreFew ls → i < length ls → x ≡ get_or ls i x → length x.env.entries < 2 ^ 32
few_of ls i x few lt is = subst (λ (y : Loaded). length y.env.entries < 2 ^ 32) (sym is) (few_at ls i x few lt)

pub few_behind : (ls : List Loaded) (i : ℕ) → AreFew ls → AreFew (drop i ls)
few_behind ls zero few = few
few_behind [] (suc i) few = tt
few_behind (l ∷ ls) (suc i) few = few_behind ls i few.1
