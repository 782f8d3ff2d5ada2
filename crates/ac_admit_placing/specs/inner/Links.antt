-- What a new entry is linked to.
use Rattle.std.specs.Prelude.{ℕ, Bool, true, false, Option, None}
use Rattle.ac_admit_placing.specs.declared.link.Link.{Link}
use Rattle.ac_admit_placing.specs.declared.link.Link.TheVariants as link

-- the entry, if it is linked to one
abbrev pub link_target : Link → Option ℕ
link_target (link.Resolved l) = l
link_target link.Unresolved = None

-- whether it is an import without a link
abbrev pub link_open : Link → Bool
link_open (link.Resolved l) = false
link_open link.Unresolved = true
