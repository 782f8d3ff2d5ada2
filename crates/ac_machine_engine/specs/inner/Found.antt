-- The exception that was found in a store, as its number and its text.
use Rattle.std.specs.Prelude.{ℕ, Option, Some, None}
use Rattle.ac_types.specs.ReadNumbers.{bare_number, texted_number}
use Rattle.ac_types.specs.Types.{Bytes}
use Rattle.ac_machine_engine.specs.declared.handlers.Found.{Found}
use Rattle.ac_machine_engine.specs.declared.handlers.Found.TheVariants as found

abbrev pub exn_found : Found → ℕ × Option Bytes
exn_found (found.Bare x) = (bare_number x, None)
exn_found (found.Text x text) = (texted_number x, Some text.now.0)
