-- How canonical texts spell references.
use Rattle.std.specs.Prelude.{ℕ, [], unwrap_or}
use Rattle.ac_types.specs.Types.{Bytes}
use Rattle.ac_terms.specs.Defs.{Environment, name_at}

-- by the name that the entry keeps
abbrev pub kept : Environment → ℕ → Bytes
kept E j = unwrap_or (name_at E j) []
