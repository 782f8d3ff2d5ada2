-- The entries that are there and those that come.
use Rattle.std.specs.Prelude.{◌++◌, map, Option, None, Some, option_map}
use Rattle.ac_types.specs.Types.{Bytes}
use Rattle.ac_terms.specs.Defs.{Environment}
use Rattle.ac_terms.specs.Read.{environment_of, entry_of, name_of_code}
use Rattle.ac_terms.specs.declared.def.Entry as code
use Rattle.ac_admit_placing.specs.declared.names.Behind.{Behind}

abbrev pub all_entries : Behind → Environment
all_entries s = environment_of s.env.now ++ map entry_of s.more.now

-- the name that an entry of the code keeps
abbrev pub kept_entry_name : Option code.Entry → Option Bytes
kept_entry_name None = None
kept_entry_name (Some e) = option_map name_of_code e.name
