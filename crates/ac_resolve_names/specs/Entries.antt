-- What each entry shows from outside, and that it keeps a name for it.
use Rattle.std.specs.Prelude.{ℕ, Bool, true, None, is_some}
use Rattle.sha2.specs.Sha256.{sha256}
use Rattle.ac_types.specs.Types.{Bytes}
use Rattle.ac_terms.specs.Defs.{Environment, Def, AModule, AnImport, AMark, Entry, Own', name_at}
use Rattle.ac_terms.specs.Names.{name_by}

-- modules and imports keep names
abbrev pub keeps_name : Entry → Bool
keeps_name e = elim e.def [ AModule m ↦ is_some e.name | AnImport i ↦ is_some e.name | AMark t ↦ true ]

-- the entry that a name calls keeps a name
abbrev pub is_called : Environment → Bytes × ℕ → Bool
is_called E e = is_some (name_at E e.1)

-- an own entry behind others, under its name, without a link
abbrev pub own_entry : Environment → Def → Entry
own_entry E d = record { def = d; name = name_by sha256 E d; seen = Own'; link = None }
