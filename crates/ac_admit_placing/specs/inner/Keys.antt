-- The bytes by which definitions with their links are looked up.
use Rattle.std.specs.Prelude.{ℕ, Bool, true, ◌∷◌, [], ◌++◌, Option, None, Some, position}
use Rattle.ac_terms.specs.Bounds.{is_four}
use Rattle.ac_types.specs.Types.{Bytes, same_bytes}
use Rattle.ac_terms.specs.Spelling.{four_written}
use Rattle.ac_terms.specs.Defs.{Environment, Entry, Def}
use Rattle.ac_rules.specs.Packets.{wide_bytes}

-- no link, or the number of an entry
abbrev pub link_bytes : Option ℕ → Bytes
link_bytes None = 0 ∷ []
link_bytes (Some j) = 1 ∷ four_written j

abbrev pub key_bytes : Def → Option ℕ → Bytes
key_bytes d link = link_bytes link ++ wide_bytes d

-- the least entry of a key
abbrev pub keyed : Environment → Bytes → Option ℕ
keyed E k = position (λ (e : Entry). same_bytes (key_bytes e.def e.link) k) E

-- a link that four bytes can say
abbrev pub is_short : Option ℕ → Bool
is_short None = true
is_short (Some j) = is_four j
