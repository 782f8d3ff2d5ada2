-- What the steps of a term come to, part by part.
use Rattle.std.proofs.Common.{◌≡◌, ℕ, zero, suc, ◌+◌, ◌≤◌, Bool, true, false, nat_lt, cond, refl, ap, ◌∙◌, arith, le_refl}
use Rattle.ac_meaning.specs.Worlds.{Exception, World, counted}
use Rattle.ac_meaning.specs.Acts.{Act, Is, Goes, Turns, Applies, Raises, Wrong, within, part, parts, Outcome, Returned, Raised, Spent, Stuck, At, Over, after, step_by, iter, Leads}
use Rattle.ac_meaning.proofs.Runs.{iter_still, leads_on}
use Rattle.ac_meaning.proofs.Results.{Result, Fine, Raising, Spending, Wrongly, TooDeep, M, then', give, raise, follow, Pure, Got, Bad, Deep, lift, and_then}

-- with N applications at most, and with what holds of each world that is reached
module _ (N : ℕ) (Stays : World → Type 0) where
  abbrev pub Reaches : {T A : Type 0} → (World → T → Act T A) → T → World → T → World → Type 0
  Reaches look t z u z' = Leads (step_by look N) (At t z) (At u z')

  -- the steps of a term come to this result; a value that is reached looks the same in every world
  abbrev pub Does : {T A : Type 0} → (World → T → Act T A) → T → World → Result A → Type 0
  Does {T} look t z (Fine a z') = (u : T) × Reaches look t z u z' × ((y : World) → look y u ≡ Is a) × (z.made ≤ z'.made) × Stays z'
  Does {T} look t z (Raising x z') = (u : T) × Reaches look t z u z' × (look z' u ≡ Raises x) × (z.made ≤ z'.made) × Stays z'
  Does {T} look t z (Spending z') = (u v : T) × Reaches look t z u z' × (look z' u ≡ Applies v) × (nat_lt z'.made N ≡ false)
  Does {T} look t z Wrongly = (u : T) × (z' : World) × Reaches look t z u z' × (look z' u ≡ Wrong)
  Does look t z TooDeep = ⊥

  -- after some steps
  pub does_on : {T A : Type 0} (look : World → T → Act T A) (t u : T) (z y : World) (r : Result A) → Reaches look t z u y → z.made ≤ y.made → Does look u y r → Does look t z r
  does_on look t u z y (Fine a z') l le d = (d.0, leads_on _ _ _ _ l d.1, d.2, omega (arith, le, d.3), d.4)
  does_on look t u z y (Raising x z') l le d = (d.0, leads_on _ _ _ _ l d.1, d.2, omega (arith, le, d.3), d.4)
  does_on look t u z y (Spending z') l le d = (d.0, d.1, leads_on _ _ _ _ l d.2, d.3, d.4)
  does_on look t u z y Wrongly l le d = (d.0, d.1, leads_on _ _ _ _ l d.2, d.3)
  does_on look t u z y TooDeep l le d = d

  pub goes : {T A : Type 0} (look : World → T → Act T A) (t u : T) (z : World) (r : Result A) → look z t ≡ Goes u → Does look u z r → Does look t z r
  goes look t u z r e d = does_on look t u z z r (1, ap (after N z) e) (le_refl z.made) d

  pub turns : {T A : Type 0} (look : World → T → Act T A) (t u : T) (z y : World) (r : Result A) → look z t ≡ Turns y u → z.made ≤ y.made → Does look u y r → Does look t z r
  turns look t u z y r e le d = does_on look t u z y r (1, ap (after N z) e) le d

  -- a value at once
  pub is : {T A : Type 0} (look : World → T → Act T A) (t : T) (a : A) (z : World) → Stays z → ((y : World) → look y t ≡ Is a) → Does look t z (Fine a z)
  is look t a z st e = (t, (0, refl), e, le_refl z.made, st)

  pub raises : {T A : Type 0} (look : World → T → Act T A) (t : T) (x : Exception) (z : World) → Stays z → look z t ≡ Raises x → Does look t z (Raising x z)
  raises look t x z st e = (t, (0, refl), e, le_refl z.made, st)

  pub wrong : {T A : Type 0} (look : World → T → Act T A) (t : T) (z : World) → look z t ≡ Wrong → Does look t z Wrongly
  wrong look t z e = (t, z, (0, refl), e)

  module _ {S T A B : Type 0} (wrap : S → T) (done : World → S → A → Act T B) (catch : Exception → Act T B) (look_s : World → S → Act S A) (look_t : World → T → Act T B) (h : (z : World) (s : S) → look_t z (wrap s) ≡ within wrap (done z s) catch (look_s z s)) where
    -- the steps of the part are steps of the whole, for the next k steps
    abbrev Inside : ℕ → S → World → Type 0
    Inside k s' z' = (s : S) (z : World) → iter (step_by look_s N) k (At s z) ≡ At s' z' → iter (step_by look_t N) k (At (wrap s) z) ≡ At (wrap s') z'

    ended : (k : ℕ) (p : Outcome A) (s' : S) (z' : World) → iter (step_by look_s N) k (Over p) ≡ At s' z' → ⊥
    ended k p s' z' e = let same = iter_still (step_by look_s N) k (Over p) refl in cc

    test_within : (k : ℕ) (s' : S) (z' : World) → Inside k s' z' → (z : World) (b : Bool) (s1 : S) → iter (step_by look_s N) k (cond b (At s1 (counted z)) (Over (Spent z))) ≡ At s' z' →
        iter (step_by look_t N) k (cond b (At (wrap s1) (counted z)) (Over (Spent z))) ≡ At (wrap s') z'
    test_within k s' z' again z true s1 e = again s1 (counted z) e
    test_within k s' z' again z false s1 e = absurd (ended k (Spent z) s' z' e)

    act_within : (k : ℕ) (s' : S) (z' : World) → Inside k s' z' → (f : A → Act T B) (z : World) (a : Act S A) → iter (step_by look_s N) k (after N z a) ≡ At s' z' →
        iter (step_by look_t N) k (after N z (within wrap f catch a)) ≡ At (wrap s') z'
    act_within k s' z' again f z (Is a) e = absurd (ended k (Returned a z) s' z' e)
    act_within k s' z' again f z (Goes s1) e = again s1 z e
    act_within k s' z' again f z (Turns y s1) e = again s1 y e
    act_within k s' z' again f z (Applies s1) e = test_within k s' z' again z (nat_lt z.made N) s1 e
    act_within k s' z' again f z (Raises x) e = absurd (ended k (Raised x z) s' z' e)
    act_within k s' z' again f z Wrong e = absurd (ended k Stuck s' z' e)

    steps_within : (k : ℕ) (s' : S) (z' : World) → Inside k s' z'
    steps_within zero s' z' s z e = cc
    steps_within (suc k) s' z' s z e = ap (λ a. iter (step_by look_t N) k (after N z a)) (h z s) ∙ act_within k s' z' (steps_within k s' z') (done z s) z (look_s z s) e

    reaches_within : (s s' : S) (z z' : World) → Reaches look_s s z s' z' → Reaches look_t (wrap s) z (wrap s') z'
    reaches_within s s' z z' l = (l.0, steps_within l.0 s' z' s z l.1)

    looks : (z : World) (s : S) (a : Act S A) → look_s z s ≡ a → look_t z (wrap s) ≡ within wrap (done z s) catch a
    looks z s a e = h z s ∙ ap (within wrap (done z s) catch) e

    -- a part, and then what follows its value or its exception
    pub part_does : (s : S) (z : World) (r : Result A) (f : A → M B) (g : Exception → M B) → Does look_s s z r →
        ((s' : S) (a : A) (z' : World) → ((y : World) → look_t y (wrap s') ≡ done y s' a) → ((y : World) → look_s y s' ≡ Is a) → z.made ≤ z'.made → Stays z' → Does look_t (wrap s') z' (f a z')) →
        ((s' : S) (x : Exception) (z' : World) → look_t z' (wrap s') ≡ catch x → z.made ≤ z'.made → Stays z' → Does look_t (wrap s') z' (g x z')) → Does look_t (wrap s) z (then' r f g)
    part_does s z (Fine a z') f g d go out = does_on look_t _ _ z z' (f a z') (reaches_within s d.0 z z' d.1) d.3 (go d.0 a z' (λ y. looks y d.0 (Is a) (d.2 y)) d.2 d.3 d.4)
    part_does s z (Raising x z') f g d go out = does_on look_t _ _ z z' (g x z') (reaches_within s d.0 z z' d.1) d.3 (out d.0 x z' (looks z' d.0 (Raises x) d.2) d.3 d.4)
    part_does s z (Spending z') f g d go out = (wrap d.0, wrap d.1, reaches_within s d.0 z z' d.2, looks z' d.0 (Applies d.1) d.3, d.4)
    part_does s z Wrongly f g d go out = (wrap d.0, d.1, reaches_within s d.0 z d.1 d.2, looks d.1 d.0 Wrong d.3)
    part_does s z TooDeep f g d go out = d

    -- a pure part, and then what follows its value
    pub pure_does : (s : S) (z : World) (p : Pure A) (f : A → Pure B) → Does look_s s z (lift p z) →
        ((s' : S) (a : A) → ((y : World) → look_t y (wrap s') ≡ done y s' a) → ((y : World) → look_s y s' ≡ Is a) → Does look_t (wrap s') z (lift (f a) z)) → Does look_t (wrap s) z (lift (and_then p f) z)
    pure_does s z (Got a) f d go = does_on look_t _ _ z z (lift (f a) z) (reaches_within s d.0 z z d.1) (le_refl z.made) (go d.0 a (λ y. looks y d.0 (Is a) (d.2 y)) d.2)
    pure_does s z Bad f d go = (wrap d.0, d.1, reaches_within s d.0 z d.1 d.2, looks d.1 d.0 Wrong d.3)
    pure_does s z Deep f d go = d

  -- a term does what an evaluation says, in each world in which k applications more are enough
  abbrev pub Follows : {T A : Type 0} → ℕ → (World → T → Act T A) → T → M A → Type 0
  Follows k look t m = (z : World) → Stays z → N ≤ k + z.made → Does look t z (m z)

  -- where the whole raises what its part raises
  raise_does : {T A : Type 0} (look : World → T → Act T A) (t : T) (x : Exception) (z z' : World) → look z' t ≡ Raises x → z.made ≤ z'.made → Stays z' → Does look t z' (raise x z')
  raise_does look t x z z' e le st = raises look t x z' st e

  pub part_follows : {S T A B : Type 0} (k : ℕ) (wrap : S → T) (done : World → A → Act T B) (look_s : World → S → Act S A) (look_t : World → T → Act T B) → ((z : World) (s : S) → look_t z (wrap s) ≡ part wrap (done z) (look_s z s)) →
      (s : S) (m : M A) (f : A → M B) → Follows k look_s s m → ((t : T) (a : A) → ((y : World) → look_t y t ≡ done y a) → Follows k look_t t (f a)) → Follows k look_t (wrap s) (follow m f)
  part_follows k wrap done look_s look_t h s m f d go z st le =
      part_does wrap (λ y s. done y) Raises look_s look_t h s z (m z) f raise (d z st le) (λ s' a z' l q le' st'. go (wrap s') a l z' st' (omega (arith, le, le'))) (λ s' x z' e le' st'. raise_does look_t (wrap s') x z z' e le' st')

  pub parts_follow : {R S T A B C : Type 0} (k : ℕ) (wrap : R → S → T) (done : World → A → B → Act T C) (look_r : World → R → Act R A) (look_s : World → S → Act S B) (look_t : World → T → Act T C) →
      ((z : World) (r : R) (s : S) → look_t z (wrap r s) ≡ parts wrap r s (done z) (look_r z r) (look_s z s)) → (r : R) (s : S) (m : M A) (n : M B) (f : A → B → M C) → Follows k look_r r m → Follows k look_s s n →
      ((t : T) (a : A) (b : B) → ((y : World) → look_t y t ≡ done y a b) → Follows k look_t t (f a b)) → Follows k look_t (wrap r s) (follow m (λ a. follow n (f a)))
  parts_follow k wrap done look_r look_s look_t h r s m n f d e go z st le =
      part_does (λ r'. wrap r' s) (λ y r' a. part (wrap r') (done y a) (look_s y s)) Raises look_r look_t (λ y r'. h y r' s) r z (m z) (λ a. follow n (f a)) raise (d z st le)
      (λ r' a z1 l1 q1 le1 st1.
      part_does (wrap r') (λ y s' b. done y a b) Raises look_s look_t (λ y s'. h y r' s' ∙ ap (part (λ x. wrap x s') (λ v. part (wrap r') (done y v) (look_s y s'))) (q1 y)) s z1 (n z1) (f a) raise (e z1 st1 (omega (arith, le, le1)))
      (λ s' b z2 l2 q2 le2 st2. go (wrap r' s') a b l2 z2 st2 (omega (arith, le, le1, le2))) (λ s' x z2 l2 le2 st2. raise_does look_t (wrap r' s') x z1 z2 l2 le2 st2))
      (λ r' x z1 l1 le1 st1. raise_does look_t (wrap r' s) x z z1 l1 le1 st1)

  -- two pure parts
  pub pure_parts : {R S T A B C : Type 0} (wrap : R → S → T) (done : World → A → B → Act T C) (look_r : World → R → Act R A) (look_s : World → S → Act S B) (look_t : World → T → Act T C) →
      ((z : World) (r : R) (s : S) → look_t z (wrap r s) ≡ parts wrap r s (done z) (look_r z r) (look_s z s)) → (r : R) (s : S) (z : World) (p : Pure A) (q : Pure B) (f : A → B → Pure C) → Does look_r r z (lift p z) → Does look_s s z (lift q z) →
      ((t : T) (a : A) (b : B) → ((y : World) → look_t y t ≡ done y a b) → Does look_t t z (lift (f a b) z)) → Does look_t (wrap r s) z (lift (and_then p (λ a. and_then q (f a))) z)
  pure_parts wrap done look_r look_s look_t h r s z p q f d e go =
      pure_does (λ r'. wrap r' s) (λ y r' a. part (wrap r') (done y a) (look_s y s)) Raises look_r look_t (λ y r'. h y r' s) r z p (λ a. and_then q (f a)) d
      (λ r' a l1 q1.
      pure_does (wrap r') (λ y s' b. done y a b) Raises look_s look_t (λ y s'. h y r' s' ∙ ap (part (λ x. wrap x s') (λ v. part (wrap r') (done y v) (look_s y s'))) (q1 y)) s z q (f a) e (λ s' b l2 q2. go (wrap r' s') a b l2))

  -- a value in each world in which it stands
  pub gives : {A T : Type 0} (k : ℕ) (look : World → T → Act T A) (t : T) (a : A) → ((y : World) → look y t ≡ Is a) → Follows k look t (give a)
  gives k look t a e z st le = is look t a z st e

  pub does_give : {A T : Type 0} (look : World → T → Act T A) (t : T) (z : World) (r : Result A) → Does look t z r → Does look t z (then' r give raise)
  does_give look t z (Fine a z') d = d
  does_give look t z (Raising x z') d = d
  does_give look t z (Spending z') d = d
  does_give look t z Wrongly d = d
  does_give look t z TooDeep d = d

  pub does_given : {A T : Type 0} (look : World → T → Act T A) (t : T) (z : World) (r : Result A) → Does look t z (then' r give raise) → Does look t z r
  does_given look t z (Fine a z') d = d
  does_given look t z (Raising x z') d = d
  does_given look t z (Spending z') d = d
  does_given look t z Wrongly d = d
  does_given look t z TooDeep d = d
