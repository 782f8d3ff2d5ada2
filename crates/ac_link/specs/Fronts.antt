-- How many entries stand in front of those that have arrived.
use Rattle.std.specs.Prelude.{◌≡◌, ℕ, ◌≤◌, length, take, drop, IsTrue}
use Rattle.std.specs.List.{list_all}
use Rattle.ac_terms.specs.Defs.{Environment, Entry}
use Rattle.ac_rules.specs.Links.{has_arrived}

-- all entries behind the first k have arrived
abbrev pub IsFront : Environment → ℕ → Type 0
IsFront E k = (k ≤ length E) × IsTrue (list_all (λ (e : Entry). has_arrived e.seen) (drop k E))

-- E and F differ in arrived entries alone: the same entries stand in front of these
pub record DifferInArrived (E F : Environment) : Type 0 where
  pub front : ℕ
  pub front_of_one : IsFront E front
  pub front_of_other : IsFront F front
  pub same : take front E ≡ take front F
