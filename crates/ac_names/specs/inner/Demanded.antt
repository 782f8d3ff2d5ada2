-- The names that entries demand.
use Rattle.std.specs.Prelude.{ℕ, Option, None, option_and_then}
use Rattle.ac_types.specs.Types.{Bytes}
use Rattle.ac_terms.specs.Defs.{Environment, Def, AnImport, def_of}
use Rattle.ac_terms.specs.Names.{demanded}

-- an import by exact name demands one
abbrev pub demanded_of : Def → Option Bytes
demanded_of (AnImport i) = demanded i.constraint
demanded_of _ = None

abbrev pub demanded_at : Environment → ℕ → Option Bytes
demanded_at E i = option_and_then demanded_of (def_of E i)
