use Rattle.std.proofs.Common.{List, ℕ, Bor, Option, map, refl, ap}
use Rattle.std.specs.Prelude.{option_map}
use Rattle.ac_load.specs.Loading.{shelved}
use Rattle.acute_files.proofs.Wider.{none_given}
use Rattle.acute_files.proofs.shelf.read_shelf.Goals as goal

pub returns-in-None-clause-shelf : goal.returns-in-None-clause-shelf
returns-in-None-clause-shelf g c =
    none_given _ _ _ (ap (λ (o : Option (Bor (List ℕ))). option_map (λ s. s.now) o) c.in-None.is) (ap (map shelved) c.empty.ensures.none)

pub returns-in-None-clause-only : goal.returns-in-None-clause-only
returns-in-None-clause-only g c = rw c.in-None.is refl

pub returns-in-Some-clause-only : goal.returns-in-Some-clause-only
returns-in-Some-clause-only g c = rw c.in-Some.is c.read_listed.ensures.only
