-- The types that an entry shows under a name.
use Rattle.std.specs.Prelude.{[], Option, option_map, option_and_then, unwrap_or}
use Rattle.ac_types.specs.Types.{Bytes, Typ, TAbs, TMine, with_mine}
use Rattle.ac_types.specs.Sigs.{Signature, named_type, type_under}
use Rattle.ac_terms.specs.Defs.{Entry, signature}

-- the type of a name that an entry shows: its manifest type, or it is abstract
abbrev pub entry_type : Bytes → Entry → Option Typ
entry_type t e =
    option_and_then (λ (s : Signature). option_map (λ m. with_mine (TAbs (unwrap_or e.name [])) (unwrap_or m (TMine t))) (type_under t s.types)) (signature e.def)

-- the type of the value of that name
abbrev pub entry_value : Bytes → Entry → Option Typ
entry_value x e = option_and_then (λ (s : Signature). named_type x s.vals) (signature e.def)
