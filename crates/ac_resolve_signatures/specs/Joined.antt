-- What is wrong with trees, of each kind the least, as one record.
use Rattle.std.specs.Prelude.{ℕ, Option, None}
use Rattle.ac_resolve_scopes.specs.Searches.{least}
use Rattle.ac_resolve_signatures.specs.declared.flaws.Flaws.{Flaws}

abbrev pub no_flaws : Flaws
no_flaws = record { unbound = None; repeated = None; count = None }

abbrev pub missing : Option ℕ → Flaws
missing o = record { unbound = o; repeated = None; count = None }

abbrev pub repeats : Option ℕ → Flaws
repeats o = record { unbound = None; repeated = o; count = None }

abbrev pub counts : Option ℕ → Flaws
counts o = record { unbound = None; repeated = None; count = o }

abbrev pub flaws_joined : Flaws → Flaws → Flaws
flaws_joined a b = record { unbound = least a.unbound b.unbound; repeated = least a.repeated b.repeated; count = least a.count b.count }
