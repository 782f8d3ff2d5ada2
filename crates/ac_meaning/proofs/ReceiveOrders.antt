-- The receives of a run are those that its terms come to, in their order; what was done in front of one stands in front of all that is done.
use Rattle.std.proofs.Common.{◌≡◌, ◌⊎◌, inl, inr, ℕ, Bool, List, [], ◌∷◌, ◌++◌, refl, sym, ap, ◌∙◌}
use Rattle.ac_types.specs.Types.{Bytes}
use Rattle.ac_terms.specs.Terms.{Expr, Value}
use Rattle.ac_terms.specs.Defs.{Environment}
use Rattle.ac_rules.specs.Views.{Mode}
use Rattle.ac_meaning.specs.Writes.{Write}
use Rattle.ac_meaning.specs.Worlds.{Crossing, Trace, World, fresh, done_by, with_receive, with_left}
use Rattle.ac_meaning.specs.Acts.{Turns, Outcome, Returned, Raised, Spent, Stuck, State, At, Over, Leads, writes_of, crossings_of, receives_of}
use Rattle.ac_meaning.specs.Reduction.{step, Ends}
use Rattle.ac_meaning.specs.Laws.{ComesToReceive}
use Rattle.ac_meaning.proofs.Changes.{Changes, Writes, Takes, Crosses, Grown}
use Rattle.ac_meaning.proofs.InOrder.{not_nil, items_of, IsCollected, ComesToAdd, in_order, in_front, only_these}
use Rattle.ac_meaning.proofs.WriteOrders.{writes_in, Wrote, writes_collected, writes_by}

abbrev receives_in : World → List Trace
receives_in z = z.receives

-- a world in which this was done comes to a receive
abbrev Took : Trace → World → World → Type 0
Took r z y = (done_by z ≡ r) × ((left : Bytes) × (y ≡ with_left left (with_receive z)))

took : (z y : World) → Changes z y → (y.receives ≡ z.receives) ⊎ ((r : Trace) × Took r z y)
took z y (Writes v e) = inl (ap receives_in e)
took z y (Takes left e) = inr (done_by z, (refl, (left, e)))
took z y (Crosses x e) = inl (ap receives_in e)
took z y (Grown F x e) = inl (ap receives_in e)

receives_collected : IsCollected receives_in Took
receives_collected = record {
  none = λ E input sends. refl;
  counts = λ z. refl;
  adding = λ r z y t. ap receives_in t.1.1 ∙ ap (λ r. z.receives ++ r ∷ []) t.0;
  changes = took;
}

receives_by : (o : Outcome Value) → receives_of o ≡ items_of receives_in Took o
receives_by (Returned v z) = refl
receives_by (Raised x z) = refl
receives_by (Spent z) = refl
receives_by Stuck = refl

module _ (mode : Mode) (N : ℕ) (start : State Expr Value) (before : List Trace) (r : Trace) where
  comes : ComesToAdd receives_in Took mode N start before r → ComesToReceive mode N start before r
  comes c = record {
    term = c.term;
    world = c.world;
    passes = c.passes;
    so_far = c.so_far;
    has_done = c.adds.0;
    left = c.adds.1.0;
    next = c.next;
    receives = c.turns ∙ ap (λ y. Turns y c.next) c.adds.1.1;
  }

  adds : ComesToReceive mode N start before r → ComesToAdd receives_in Took mode N start before r
  adds c = record {
    term = c.term;
    world = c.world;
    passes = c.passes;
    so_far = c.so_far;
    later = with_left c.left (with_receive c.world);
    next = c.next;
    turns = c.receives;
    adds = (c.has_done, (c.left, refl));
  }

pub receives_in_order : (mode : Mode) (E : Environment) (e : Expr) (input : Bytes) (sends : Bool) (N : ℕ) (o : Outcome Value) → Ends mode E e input sends N o → (before after : List Trace) (r : Trace) → receives_of o ≡ before ++ r ∷ after → ComesToReceive mode N (At e (fresh E input sends)) before r
receives_in_order mode E e input sends N o end before after r h = comes mode N (At e (fresh E input sends)) before r (in_order receives_in Took receives_collected mode N before r E e input sends o end after (sym (receives_by o) ∙ h))

pub only_these_receives : (mode : Mode) (E : Environment) (e : Expr) (input : Bytes) (sends : Bool) (N : ℕ) (o : Outcome Value) → Ends mode E e input sends N o → (o ≡ Stuck → ⊥) → (before : List Trace) (r : Trace) → ComesToReceive mode N (At e (fresh E input sends)) before r → (after : List Trace) × (receives_of o ≡ before ++ r ∷ after)
only_these_receives mode E e input sends N o end stops before r c =
    let start = At e (fresh E input sends) in
    let found = only_these receives_in Took receives_collected mode N o stops start end before r (adds mode N start before r c) in
    (found.0, receives_by o ∙ found.1)

-- the strings that cross
abbrev crossings_in : World → List Crossing
crossings_in z = z.crossings

abbrev Crossed : Crossing → World → World → Type 0
Crossed x z y = y.crossings ≡ z.crossings ++ x ∷ []

crossed : (z y : World) → Changes z y → (y.crossings ≡ z.crossings) ⊎ ((x : Crossing) × Crossed x z y)
crossed z y (Writes v e) = inl (ap crossings_in e)
crossed z y (Takes left e) = inl (ap crossings_in e)
crossed z y (Crosses x e) = inr (x, ap crossings_in e)
crossed z y (Grown F x e) = inr (x, ap crossings_in e)

crossings_collected : IsCollected crossings_in Crossed
crossings_collected = record {
  none = λ E input sends. refl;
  counts = λ z. refl;
  adding = λ x z y e. e;
  changes = crossed;
}

crossings_by : (o : Outcome Value) → crossings_of o ≡ items_of crossings_in Crossed o
crossings_by (Returned v z) = refl
crossings_by (Raised x z) = refl
crossings_by (Spent z) = refl
crossings_by Stuck = refl

-- what has crossed by some state of a run stands in front of all that crosses until its end
pub crossed_there : (mode : Mode) (N : ℕ) (o : Outcome Value) → (o ≡ Stuck → ⊥) → (start : State Expr Value) → Leads (step mode N) start (Over o) → (t : Expr) (z : World) → Leads (step mode N) start (At t z) → (later : List Crossing) × (crossings_of o ≡ z.crossings ++ later)
crossed_there mode N o stops start end t z passes =
    let f = in_front crossings_in Crossed crossings_collected mode N o stops start end t z passes in
    (f.0, crossings_by o ∙ f.1)

module _ (mode : Mode) (E : Environment) (e : Expr) (input : Bytes) (sends : Bool) (N : ℕ) (o : Outcome Value) (end : Ends mode E e input sends N o) (before after : List Trace) (r : Trace) (among : receives_of o ≡ before ++ r ∷ after) where
  abbrev start : State Expr Value
  start = At e (fresh E input sends)

  comes_there : ComesToReceive mode N start before r
  comes_there = receives_in_order mode E e input sends N o end before after r among

  not_stuck : o ≡ Stuck → ⊥
  not_stuck is = not_nil before after r (sym (ap receives_of is) ∙ among)

  pub written_in_front : (later : List Write) × (writes_of o ≡ r.writes ++ later)
  written_in_front =
      let c = comes_there in
      let f = in_front writes_in Wrote writes_collected mode N o not_stuck start end c.term c.world c.passes in
      (f.0, writes_by o ∙ f.1 ∙ ap (λ (t : Trace). t.writes ++ f.0) c.has_done)

  pub crossed_in_front : (later : List Crossing) × (crossings_of o ≡ r.crossings ++ later)
  crossed_in_front =
      let c = comes_there in
      let f = crossed_there mode N o not_stuck start end c.term c.world c.passes in
      (f.0, f.1 ∙ ap (λ (t : Trace). t.crossings ++ f.0) c.has_done)
