-- What the entries in front of a surface show behind their names and a dot.
use Rattle.std.specs.Prelude.{is_some, [], ◌∷◌, Option, None, option_map}
use Rattle.std.specs.Option.{option_map_or}
use Rattle.ac_types.specs.Types.{Bytes, Typ}
use Rattle.ac_types.specs.Sigs.{Signature, named_type, type_under}
use Rattle.ac_terms.specs.Defs.{Environment, Def, AModule, AnImport, AMark}
use Rattle.ac_resolve_signatures.specs.declared.size.Size.{Size}
use Rattle.ac_resolve_signatures.specs.KnownScopes.{Members, updated, size_of, size_of_leaf}

-- what the signature of an entry shows behind a dot
abbrev pub size_of_manifest : Option Typ → Size
size_of_manifest m = option_map_or size_of m size_of_leaf

abbrev pub signature_members : Signature → Members
signature_members s = record { types = λ t. option_map size_of_manifest (type_under t s.types); values = λ x. is_some (named_type x s.vals) }

-- the definitions that are called by a name, behind an entry and behind some
abbrev pub past_entry : (Bytes → Option Members) → Def → Bytes → Option Members
past_entry outer (AModule m) = updated m.name (signature_members m.sig) outer
past_entry outer (AnImport i) = updated i.name (signature_members i.sig) outer
past_entry outer (AMark text) = outer

abbrev pub past_entries : (Bytes → Option Members) → Environment → Bytes → Option Members
past_entries outer [] = outer
past_entries outer (e ∷ E) = past_entries (past_entry outer e.def) E

abbrev pub no_outer : Bytes → Option Members
no_outer m = None
