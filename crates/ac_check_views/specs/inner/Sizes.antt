-- Some types as a site's home sees them.
use Rattle.std.specs.Prelude.{Bool, List}
use Rattle.std.specs.List.{list_all}
use Rattle.ac_types.specs.Types.{Typ, Typs, all_with_each, mentions_of_all}
use Rattle.ac_types.specs.declared.ty.Ty.{Ty}
use Rattle.ac_terms.specs.Defs.{Environment}
use Rattle.ac_terms.specs.Read.{home_of}
use Rattle.ac_rules.specs.Views.{Coloured, is_known, view, opened_at_home}
use Rattle.ac_check_views.specs.Sites.{typs_of, entries_of}
use Rattle.ac_check_views.specs.declared.site.Site.{Site}

-- whether the names that some types mention are known
abbrev pub are_known_in : Environment → Typs → Bool
are_known_in E Ts = list_all (is_known E) (mentions_of_all Ts)

-- what the site's home sees of a type, and of some
abbrev pub from_home : Site → Typ → Typ
from_home p T = view Coloured (entries_of p) (home_of p.home) T

abbrev pub all_from_home : Site → List Ty → Typs
all_from_home p ts = all_with_each (opened_at_home (entries_of p) (home_of p.home)) (typs_of ts)
