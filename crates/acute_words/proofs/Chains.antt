-- Chains of steps that may give none.
use Rattle.std.proofs.Common.{◌≡◌, refl, Option, Some, None}
use Rattle.std.specs.Prelude.{option_and_then, option_map}

-- steps that give none
pub none_each : {X Y : Type 0} (step : X → Option Y) (o : Option X) → ((x : X) → step x ≡ None) → option_and_then step o ≡ None
none_each step None each = refl
none_each step (Some x) each = each x

-- steps that give the same
pub same_each : {X Y : Type 0} (a b : X → Option Y) (o : Option X) → ((x : X) → a x ≡ b x) → option_and_then a o ≡ option_and_then b o
same_each a b None each = refl
same_each a b (Some x) each = each x

-- two steps as one
pub two_steps : {X Y Z : Type 0} (a : X → Option Y) (b : Y → Option Z) (o : Option X)
    → option_and_then b (option_and_then a o) ≡ option_and_then (λ x. option_and_then b (a x)) o
two_steps a b None = refl
two_steps a b (Some x) = refl

-- two steps that don't need each other, in the other order
pub other_order : {X Y Z : Type 0} (a : X → Y → Option Z) (o : Option X) (q : Option Y)
    → option_and_then (λ y. option_and_then (λ x. a x y) o) q ≡ option_and_then (λ x. option_and_then (a x) q) o
other_order a None q = none_each (λ y. None) q (λ y. refl)
other_order a (Some x) q = refl

-- a step that keeps what it has
pub some_step : {X : Type 0} (o : Option X) → option_and_then (λ x. Some x) o ≡ o
some_step None = refl
some_step (Some x) = refl

-- a step that always gives something
pub map_step : {X Y : Type 0} (a : X → Y) (o : Option X) → option_and_then (λ x. Some (a x)) o ≡ option_map a o
map_step a None = refl
map_step a (Some x) = refl
