-- What a world collects in a run: each item is added by a term that the run comes to, behind all that were added before it, and no other is.
use Rattle.std.proofs.Common.{◌≡◌, ◌⊎◌, inl, inr, ℕ, zero, suc, Bool, true, false, nat_lt, cond, List, [], ◌∷◌, ◌++◌, refl, sym, ap, ap₂, ◌∙◌, subst, append_assoc, append-nil}
use Rattle.ac_types.specs.Types.{Bytes}
use Rattle.ac_terms.specs.Terms.{Main, Expr, Value}
use Rattle.ac_terms.specs.Defs.{Environment}
use Rattle.ac_rules.specs.Views.{Mode}
use Rattle.ac_meaning.specs.Worlds.{World, fresh, counted}
use Rattle.ac_meaning.specs.Acts.{Act, Is, Goes, Turns, Applies, Raises, Wrong, Outcome, Returned, Raised, Spent, Stuck, State, At, Over, after, iter, Leads}
use Rattle.ac_meaning.specs.Reduction.{look_main, step, Ends}
use Rattle.ac_meaning.proofs.Runs.{iter_still}
use Rattle.ac_meaning.proofs.Changes.{Changes, Keeps, look_keeps}

module _ {X : Type 0} where
  pub not_nil : (before after : List X) (x : X) → [] ≡ before ++ x ∷ after → ⊥
  not_nil [] after x e = absurd cc
  not_nil (b ∷ before) after x e = absurd cc

  -- w is the one item behind xs, or among them
  last_or_earlier : (xs before after : List X) (v w : X) → xs ++ v ∷ [] ≡ before ++ w ∷ after → ((xs ≡ before) × (v ≡ w)) ⊎ ((rest : List X) × (xs ≡ before ++ w ∷ rest))
  last_or_earlier [] [] after v w e = let same : v ≡ w = cc in inl (refl, same)
  last_or_earlier [] (b ∷ before) after v w e = let none : [] ≡ before ++ w ∷ after = cc in absurd (not_nil before after w none)
  last_or_earlier (x ∷ xs) [] after v w e = let same : x ≡ w = cc in inr (xs, ap (λ u. u ∷ xs) same)
  last_or_earlier (x ∷ xs) (b ∷ before) after v w e =
      let same : x ≡ b = cc in
      let rest : xs ++ v ∷ [] ≡ before ++ w ∷ after = cc in
      by same (last_or_earlier xs before after v w rest)
    where
      by : x ≡ b → ((xs ≡ before) × (v ≡ w)) ⊎ ((rest : List X) × (xs ≡ before ++ w ∷ rest)) → ((x ∷ xs ≡ b ∷ before) × (v ≡ w)) ⊎ ((rest : List X) × (x ∷ xs ≡ b ∷ (before ++ w ∷ rest)))
      by same (inl p) = inl (ap₂ (λ u us. u ∷ us) same p.0, p.1)
      by same (inr p) = inr (p.0, ap₂ (λ u us. u ∷ us) same p.1)

-- the end of a run stands still
same_end : (mode : Mode) (N k : ℕ) (p o : Outcome Value) → iter (step mode N) k (Over p) ≡ Over o → p ≡ o
same_end mode N k p o e = let stands : Over p ≡ Over o = sym (iter_still (step mode N) k (Over p) refl) ∙ e in cc

module _ {X : Type 0} (items : World → List X) (Adds : X → World → World → Type 0) where
  -- the items of a run by its end
  abbrev pub items_of : Outcome Value → List X
  items_of (Returned v z) = items z
  items_of (Raised x z) = items z
  items_of (Spent z) = items z
  items_of Stuck = []

  -- at first there is none, and a step adds one or leaves them as they are
  pub record IsCollected : Type 0 where
    pub none : (E : Environment) (input : Bytes) (sends : Bool) → items (fresh E input sends) ≡ []
    pub counts : (z : World) → items (counted z) ≡ items z
    pub adding : (x : X) (z y : World) → Adds x z y → items y ≡ items z ++ x ∷ []
    pub changes : (z y : World) → Changes z y → (items y ≡ items z) ⊎ ((x : X) × Adds x z y)

  -- a run comes to a term that adds this item next, behind these
  pub record ComesToAdd (mode : Mode) (N : ℕ) (start : State Expr Value) (before : List X) (x : X) : Type 0 where
    pub term : Expr
    pub world : World
    pub passes : Leads (step mode N) start (At term world)
    pub so_far : items world ≡ before
    pub later : World
    pub next : Expr
    pub turns : look_main mode world term ≡ Turns later next
    pub adds : Adds x world later

  module _ (is : IsCollected) (mode : Mode) (N : ℕ) where
    abbrev run : ℕ → State Expr Value → State Expr Value
    run k s = iter (step mode N) k s

    module _ (before : List X) (w : X) where
      abbrev Comes : State Expr Value → Type 0
      Comes s = ComesToAdd mode N s before w

      -- a step earlier
      earlier : (s s' : State Expr Value) → step mode N s ≡ s' → Comes s' → Comes s
      earlier s s' e c = record {
        term = c.term;
        world = c.world;
        passes = (suc c.passes.0, ap (run c.passes.0) e ∙ c.passes.1);
        so_far = c.so_far;
        later = c.later;
        next = c.next;
        turns = c.turns;
        adds = c.adds;
      }

      -- the item was added by then, or a run from there comes to it
      abbrev Made : Expr → World → Type 0
      Made t z = ((rest : List X) × (items z ≡ before ++ w ∷ rest)) ⊎ Comes (At t z)

      still : (t t' : Expr) (z y : World) → step mode N (At t z) ≡ At t' y → items y ≡ items z → Made t' y → Made t z
      still t t' z y e same (inl h) = inl (h.0, sym same ∙ h.1)
      still t t' z y e same (inr c) = inr (earlier (At t z) (At t' y) e c)

      onward : (t t' : Expr) (z y : World) (v : X) → look_main mode z t ≡ Turns y t' → Adds v z y → Made t' y → Made t z
      onward t t' z y v q a (inr c) = inr (earlier (At t z) (At t' y) (ap (after N z) q) c)
      onward t t' z y v q a (inl h) = by (last_or_earlier (items z) before h.0 v w (sym (is.adding v z y a) ∙ h.1))
        where
          by : ((items z ≡ before) × (v ≡ w)) ⊎ ((rest : List X) × (items z ≡ before ++ w ∷ rest)) → Made t z
          by (inl p) = inr (record {
            term = t;
            world = z;
            passes = (0, refl);
            so_far = p.0;
            later = y;
            next = t';
            turns = q;
            adds = subst (λ x. Adds x z y) p.1 a;
          })
          by (inr p) = inl p

      turned : (t t' : Expr) (z y : World) → look_main mode z t ≡ Turns y t' → (items y ≡ items z) ⊎ ((x : X) × Adds x z y) → Made t' y → Made t z
      turned t t' z y q (inl e) m = still t t' z y (ap (after N z) q) e m
      turned t t' z y q (inr a) m = onward t t' z y a.0 q a.1 m

      module _ (rest : List X) where
        ended : (k : ℕ) (p o : Outcome Value) → run k (Over p) ≡ Over o → items_of o ≡ before ++ w ∷ rest → items_of p ≡ before ++ w ∷ rest
        ended k p o e h = ap items_of (same_end mode N k p o e) ∙ h

        -- seen from where k steps lead to the end
        abbrev Making : ℕ → Type 0
        Making k = (t : Expr) (z : World) (o : Outcome Value) → run k (At t z) ≡ Over o → items_of o ≡ before ++ w ∷ rest → Made t z

        test_made : (k : ℕ) → Making k → (t t' : Expr) (z : World) → look_main mode z t ≡ Applies t' → (b : Bool) → nat_lt z.made N ≡ b → (o : Outcome Value) → run k (cond b (At t' (counted z)) (Over (Spent z))) ≡ Over o → items_of o ≡ before ++ w ∷ rest → Made t z
        test_made k again t t' z q true r o e h = still t t' z (counted z) (ap (after N z) q ∙ ap (λ b. cond b (At t' (counted z)) (Over (Spent z))) r) (is.counts z) (again t' (counted z) o e h)
        test_made k again t t' z q false r o e h = inl (rest, ended k (Spent z) o e h)

        act_made : (k : ℕ) → Making k → (t : Expr) (z : World) (a : Act Expr Value) → look_main mode z t ≡ a → Keeps z a → (o : Outcome Value) → run k (after N z a) ≡ Over o → items_of o ≡ before ++ w ∷ rest → Made t z
        act_made k again t z (Is v) q c o e h = inl (rest, ended k (Returned v z) o e h)
        act_made k again t z (Goes t') q c o e h = still t t' z z (ap (after N z) q) refl (again t' z o e h)
        act_made k again t z (Turns y t') q c o e h = turned t t' z y q (is.changes z y c) (again t' y o e h)
        act_made k again t z (Applies t') q c o e h = test_made k again t t' z q (nat_lt z.made N) refl o e h
        act_made k again t z (Raises x) q c o e h = inl (rest, ended k (Raised x z) o e h)
        act_made k again t z Wrong q c o e h = absurd (not_nil before rest w (ended k Stuck o e h))

        made_there : (k : ℕ) → Making k
        made_there zero t z o e h = absurd cc
        made_there (suc k) t z o e h = act_made k (made_there k) t z (look_main mode z t) refl (look_keeps mode z t Main) o e h

      pub in_order : (E : Environment) (e : Expr) (input : Bytes) (sends : Bool) (o : Outcome Value) → Ends mode E e input sends N o → (rest : List X) → items_of o ≡ before ++ w ∷ rest → Comes (At e (fresh E input sends))
      in_order E e input sends o end rest h = by (made_there rest end.0 e (fresh E input sends) o end.1 h)
        where
          by : Made e (fresh E input sends) → Comes (At e (fresh E input sends))
          by (inl p) = absurd (not_nil before p.0 w (sym (is.none E input sends) ∙ p.1))
          by (inr c) = c

    -- the other way: what was added by some state of a run stands in front of all that the run has added at its end
    module _ (o : Outcome Value) (stops : o ≡ Stuck → ⊥) where
      abbrev GoesOn : List X → Type 0
      GoesOn xs = (more : List X) × (items_of o ≡ xs ++ more)

      at_once : (k : ℕ) (p : Outcome Value) → run k (Over p) ≡ Over o → GoesOn (items_of p)
      at_once k p e = ([], sym (ap items_of (same_end mode N k p o e)) ∙ sym (append-nil (items_of p)))

      before_change : (z y : World) → (items y ≡ items z) ⊎ ((x : X) × Adds x z y) → GoesOn (items y) → GoesOn (items z)
      before_change z y (inl e) h = subst GoesOn e h
      before_change z y (inr a) h =
          let goes = subst GoesOn (is.adding a.0 z y a.1) h in
          (a.0 ∷ goes.0, goes.1 ∙ append_assoc (items z) (a.0 ∷ []) goes.0)

      abbrev Going : ℕ → Type 0
      Going k = (t : Expr) (z : World) → run k (At t z) ≡ Over o → GoesOn (items z)

      test_going : (k : ℕ) → Going k → (t : Expr) (z : World) (b : Bool) → run k (cond b (At t (counted z)) (Over (Spent z))) ≡ Over o → GoesOn (items z)
      test_going k again t z true e = subst GoesOn (is.counts z) (again t (counted z) e)
      test_going k again t z false e = at_once k (Spent z) e

      act_going : (k : ℕ) → Going k → (z : World) (a : Act Expr Value) → Keeps z a → run k (after N z a) ≡ Over o → GoesOn (items z)
      act_going k again z (Is v) c e = at_once k (Returned v z) e
      act_going k again z (Goes t) c e = again t z e
      act_going k again z (Turns y t) c e = before_change z y (is.changes z y c) (again t y e)
      act_going k again z (Applies t) c e = test_going k again t z (nat_lt z.made N) e
      act_going k again z (Raises x) c e = at_once k (Raised x z) e
      act_going k again z Wrong c e = absurd (stops (sym (same_end mode N k Stuck o e)))

      going : (k : ℕ) → Going k
      going zero t z e = absurd cc
      going (suc k) t z e = act_going k (going k) z (look_main mode z t) (look_keeps mode z t Main) e

      -- a run that passes through a term comes to its end from there
      from_there : (k j : ℕ) (s : State Expr Value) (t : Expr) (z : World) → run k s ≡ At t z → run j s ≡ Over o → Leads (step mode N) (At t z) (Over o)
      from_there zero j s t z p e = (j, ap (run j) (sym p) ∙ e)
      from_there (suc k) zero s t z p e =
          let stands : Over o ≡ At t z = sym (iter_still (step mode N) (suc k) (Over o) refl) ∙ ap (run (suc k)) (sym e) ∙ p in
          absurd cc
      from_there (suc k) (suc j) s t z p e = from_there k j (step mode N s) t z p e

      pub in_front : (start : State Expr Value) → Leads (step mode N) start (Over o) → (t : Expr) (z : World) → Leads (step mode N) start (At t z) → GoesOn (items z)
      in_front start end t z passes = let there = from_there passes.0 end.0 start t z passes.1 end.1 in going there.0 t z there.1

      added_there : (k : ℕ) (t u : Expr) (z y : World) (w : X) → look_main mode z t ≡ Turns y u → Adds w z y → run k (At t z) ≡ Over o → GoesOn (items z ++ w ∷ [])
      added_there zero t u z y w q a e = absurd cc
      added_there (suc k) t u z y w q a e = subst GoesOn (is.adding w z y a) (going k u y (ap (λ b. run k (after N z b)) (sym q) ∙ e))

      pub only_these : (start : State Expr Value) → Leads (step mode N) start (Over o) → (before : List X) (w : X) → ComesToAdd mode N start before w → (rest : List X) × (items_of o ≡ before ++ w ∷ rest)
      only_these start end before w c =
          let there = from_there c.passes.0 end.0 start c.term c.world c.passes.1 end.1 in
          let goes = added_there there.0 c.term c.next c.world c.later w c.turns c.adds there.1 in
          (goes.0, goes.1 ∙ ap (λ ws. (ws ++ w ∷ []) ++ goes.0) c.so_far ∙ append_assoc before (w ∷ []) goes.0)
