-- What is said to have been done in front of each write was done where the run comes to it, and it stands in front of all that is done.
use Rattle.std.proofs.Common.{◌≡◌, ◌⊎◌, inl, inr, ℕ, Bool, List, [], ◌∷◌, ◌++◌, refl, sym, ap, ◌∙◌}
use Rattle.ac_types.specs.Types.{Bytes}
use Rattle.ac_terms.specs.Terms.{Expr, Value}
use Rattle.ac_terms.specs.Defs.{Environment}
use Rattle.ac_rules.specs.Views.{Mode}
use Rattle.ac_meaning.specs.Writes.{Write}
use Rattle.ac_meaning.specs.Worlds.{Crossing, Trace, World, fresh, done_by, with_write}
use Rattle.ac_meaning.specs.Acts.{Turns, Outcome, Returned, Raised, Spent, Stuck, State, At, writes_of, crossings_of, before_writes_of}
use Rattle.ac_meaning.specs.Reduction.{Ends}
use Rattle.ac_meaning.specs.Laws.{ComesTo}
use Rattle.ac_meaning.proofs.Changes.{Changes, Writes, Takes, Crosses, Grown}
use Rattle.ac_meaning.proofs.InOrder.{not_nil, items_of, IsCollected, ComesToAdd, in_order, only_these}
use Rattle.ac_meaning.proofs.WriteOrders.{writes_in_order}
use Rattle.ac_meaning.proofs.ReceiveOrders.{crossed_there}

abbrev fronts_in : World → List Trace
fronts_in z = z.before_writes

-- a world in which this was done writes
abbrev WroteBehind : Trace → World → World → Type 0
WroteBehind t z y = (done_by z ≡ t) × ((w : Write) × (y ≡ with_write w z))

wrote_behind : (z y : World) → Changes z y → (y.before_writes ≡ z.before_writes) ⊎ ((t : Trace) × WroteBehind t z y)
wrote_behind z y (Writes w e) = inr (done_by z, (refl, (w, e)))
wrote_behind z y (Takes left e) = inl (ap fronts_in e)
wrote_behind z y (Crosses x e) = inl (ap fronts_in e)
wrote_behind z y (Grown F x e) = inl (ap fronts_in e)

fronts_collected : IsCollected fronts_in WroteBehind
fronts_collected = record {
  none = λ E input sends. refl;
  counts = λ z. refl;
  adding = λ t z y h. ap fronts_in h.1.1 ∙ ap (λ t. z.before_writes ++ t ∷ []) h.0;
  changes = wrote_behind;
}

fronts_by : (o : Outcome Value) → before_writes_of o ≡ items_of fronts_in WroteBehind o
fronts_by (Returned v z) = refl
fronts_by (Raised x z) = refl
fronts_by (Spent z) = refl
fronts_by Stuck = refl

-- a run comes to a write where it has done this
abbrev WritesBehind : Mode → ℕ → State Expr Value → Trace → Type 0
WritesBehind mode N start t = (w : Write) × (c : ComesTo mode N start t.writes w) × (done_by c.world ≡ t)

module _ (mode : Mode) (N : ℕ) (start : State Expr Value) where
  comes : (before : List Trace) (t : Trace) → ComesToAdd fronts_in WroteBehind mode N start before t → WritesBehind mode N start t
  comes before t c = (
    c.adds.1.0,
    record {
      term = c.term;
      world = c.world;
      passes = c.passes;
      so_far = ap (λ (t : Trace). t.writes) c.adds.0;
      next = c.next;
      writes = c.turns ∙ ap (λ y. Turns y c.next) c.adds.1.1;
    },
    c.adds.0,
  )

  adds : (before : List Write) (w : Write) (c : ComesTo mode N start before w) → ComesToAdd fronts_in WroteBehind mode N start c.world.before_writes (done_by c.world)
  adds before w c = record {
    term = c.term;
    world = c.world;
    passes = c.passes;
    so_far = refl;
    later = with_write w c.world;
    next = c.next;
    turns = c.writes;
    adds = (refl, (w, refl));
  }

module _ (mode : Mode) (E : Environment) (e : Expr) (input : Bytes) (sends : Bool) (N : ℕ) (o : Outcome Value) (end : Ends mode E e input sends N o) where
  abbrev start : State Expr Value
  start = At e (fresh E input sends)

  pub done_there : (before after : List Trace) (t : Trace) → before_writes_of o ≡ before ++ t ∷ after → WritesBehind mode N start t
  done_there before after t among = comes mode N start before t (in_order fronts_in WroteBehind fronts_collected mode N before t E e input sends o end after (sym (fronts_by o) ∙ among))

  pub said_of_each : (before after : List Write) (w : Write) → writes_of o ≡ before ++ w ∷ after → (c : ComesTo mode N start before w) × (earlier : List Trace) × (later : List Trace) × (before_writes_of o ≡ earlier ++ done_by c.world ∷ later)
  said_of_each before after w among =
      let c = writes_in_order mode E e input sends N o end before after w among in
      let stops : o ≡ Stuck → ⊥ = λ is. not_nil before after w (sym (ap writes_of is) ∙ among) in
      let found = only_these fronts_in WroteBehind fronts_collected mode N o stops start end c.world.before_writes (done_by c.world) (adds mode N start before w c) in
      (c, c.world.before_writes, found.0, fronts_by o ∙ found.1)

  pub crossed_before : (before after : List Trace) (t : Trace) → before_writes_of o ≡ before ++ t ∷ after → (later : List Crossing) × (crossings_of o ≡ t.crossings ++ later)
  crossed_before before after t among =
      let stops : o ≡ Stuck → ⊥ = λ is. not_nil before after t (sym (ap before_writes_of is) ∙ among) in
      let d = done_there before after t among in
      let f = crossed_there mode N o stops start end d.1.term d.1.world d.1.passes in
      (f.0, f.1 ∙ ap (λ (t : Trace). t.crossings ++ f.0) d.2)
