-- Pages that grow.
use Rattle.std.specs.Prelude.{◌≡◌, ◌++◌, ◌⊎◌, Option, None, option_map}
use Rattle.ac_types.specs.Types.{Bytes}

-- a page is lost, or some bytes were added to it
abbrev pub Adds : Option Bytes → Option Bytes → Type 0
Adds old new = (new ≡ None) ⊎ ((bytes : Bytes) × (new ≡ option_map (λ b. b ++ bytes) old))
