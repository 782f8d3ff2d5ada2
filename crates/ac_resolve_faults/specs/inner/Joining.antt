-- What is wrong with trees together, where memory served for each.
use Rattle.std.specs.Prelude.{◌≡◌, Result, Ok}
use Rattle.ac_types.specs.declared.memory.Memory.{Memory}
use Rattle.ac_resolve_signatures.specs.declared.flaws.Flaws.{Flaws}
use Rattle.ac_syntax.specs.Trees.{TypeTree}
use Rattle.ac_resolve_signatures.specs.Joined.{flaws_joined}
use Rattle.ac_resolve_signatures.specs.KnownScopes.{KnownScope}
use Rattle.ac_resolve_signatures.specs.TypeFlaws.{type_flaws}

pub record Joins (a b : Result Flaws Memory) (f : Flaws) : Type 0 where
  pub first : Flaws
  pub second : Flaws
  pub was_first : a ≡ Ok first
  pub was_second : b ≡ Ok second
  pub is : f ≡ flaws_joined first second

-- what is wrong with a tree and its parts
pub record JoinsBehind (first : Flaws) (b : Result Flaws Memory) (f : Flaws) : Type 0 where
  pub second : Flaws
  pub was : b ≡ Ok second
  pub is : f ≡ flaws_joined first second

-- what is wrong with two types and what stands behind them
pub record JoinsTyped (K : KnownScope) (T U : TypeTree) (b : Result Flaws Memory) (f : Flaws) : Type 0 where
  pub second : Flaws
  pub was : b ≡ Ok second
  pub is : f ≡ flaws_joined (type_flaws K T) (flaws_joined (type_flaws K U) second)
