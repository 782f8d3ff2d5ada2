-- The writes of a run are those that its terms make, each behind all that were made before it.
use Rattle.std.proofs.Common.{◌≡◌, ◌⊎◌, inl, inr, ℕ, Bool, List, ◌∷◌, ◌++◌, refl, sym, ap, ◌∙◌}
use Rattle.ac_types.specs.Types.{Bytes}
use Rattle.ac_terms.specs.Terms.{Expr, Value}
use Rattle.ac_terms.specs.Defs.{Environment}
use Rattle.ac_rules.specs.Views.{Mode}
use Rattle.ac_meaning.specs.Writes.{Write}
use Rattle.ac_meaning.specs.Worlds.{World, fresh, with_write}
use Rattle.ac_meaning.specs.Acts.{Turns, Outcome, Returned, Raised, Spent, Stuck, State, At, writes_of}
use Rattle.ac_meaning.specs.Reduction.{Ends}
use Rattle.ac_meaning.specs.Laws.{ComesTo}
use Rattle.ac_meaning.proofs.Changes.{Changes, Writes, Takes, Crosses, Grown}
use Rattle.ac_meaning.proofs.InOrder.{items_of, IsCollected, ComesToAdd, in_order, only_these}

abbrev pub writes_in : World → List Write
writes_in z = z.writes

abbrev pub Wrote : Write → World → World → Type 0
Wrote w z y = y ≡ with_write w z

wrote : (z y : World) → Changes z y → (y.writes ≡ z.writes) ⊎ ((w : Write) × Wrote w z y)
wrote z y (Writes v e) = inr (v, e)
wrote z y (Takes left e) = inl (ap writes_in e)
wrote z y (Crosses x e) = inl (ap writes_in e)
wrote z y (Grown F x e) = inl (ap writes_in e)

pub writes_collected : IsCollected writes_in Wrote
writes_collected = record {
  none = λ E input sends. refl;
  counts = λ z. refl;
  adding = λ w z y e. ap writes_in e;
  changes = wrote;
}

pub writes_by : (o : Outcome Value) → writes_of o ≡ items_of writes_in Wrote o
writes_by (Returned v z) = refl
writes_by (Raised x z) = refl
writes_by (Spent z) = refl
writes_by Stuck = refl

module _ (mode : Mode) (N : ℕ) (start : State Expr Value) (before : List Write) (w : Write) where
  comes : ComesToAdd writes_in Wrote mode N start before w → ComesTo mode N start before w
  comes c = record {
    term = c.term;
    world = c.world;
    passes = c.passes;
    so_far = c.so_far;
    next = c.next;
    writes = c.turns ∙ ap (λ y. Turns y c.next) c.adds;
  }

  adds : ComesTo mode N start before w → ComesToAdd writes_in Wrote mode N start before w
  adds c = record {
    term = c.term;
    world = c.world;
    passes = c.passes;
    so_far = c.so_far;
    later = with_write w c.world;
    next = c.next;
    turns = c.writes;
    adds = refl;
  }

pub writes_in_order : (mode : Mode) (E : Environment) (e : Expr) (input : Bytes) (sends : Bool) (N : ℕ) (o : Outcome Value) → Ends mode E e input sends N o → (before after : List Write) (w : Write) → writes_of o ≡ before ++ w ∷ after → ComesTo mode N (At e (fresh E input sends)) before w
writes_in_order mode E e input sends N o end before after w h = comes mode N (At e (fresh E input sends)) before w (in_order writes_in Wrote writes_collected mode N before w E e input sends o end after (sym (writes_by o) ∙ h))

pub only_these_writes : (mode : Mode) (E : Environment) (e : Expr) (input : Bytes) (sends : Bool) (N : ℕ) (o : Outcome Value) → Ends mode E e input sends N o → (o ≡ Stuck → ⊥) → (before : List Write) (w : Write) → ComesTo mode N (At e (fresh E input sends)) before w → (after : List Write) × (writes_of o ≡ before ++ w ∷ after)
only_these_writes mode E e input sends N o end stops before w c =
    let start = At e (fresh E input sends) in
    let found = only_these writes_in Wrote writes_collected mode N o stops start end before w (adds mode N start before w c) in
    (found.0, writes_by o ∙ found.1)
