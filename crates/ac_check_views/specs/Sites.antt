-- The trees of the code at a site, as those of the definitions.
use Rattle.std.specs.Prelude.{List, map, Option, Some, None}
use Rattle.std.specs.Borrow.{Bor}
use Rattle.ac_types.specs.Types.{Typ, TInt, TBool, TStr, TUnit, TExn, TFun, Typs, typs}
use Rattle.ac_types.specs.ReadTypes.{typ_of}
use Rattle.ac_types.specs.declared.ty.Ty.{Ty}
use Rattle.ac_terms.specs.Defs.{Environment}
use Rattle.ac_terms.specs.Read.{environment_of, home_of}
use Rattle.ac_rules.specs.Typing.{Scope}
use Rattle.ac_check_views.specs.declared.types.Base.{Base}
use Rattle.ac_check_views.specs.declared.types.Base.TheVariants as base
use Rattle.ac_check_views.specs.declared.site.Site.{Site}

-- the types of a list
abbrev pub typs_of : List Ty → Typs
typs_of ts = typs (map typ_of ts)

abbrev pub base_typ : Base → Typ
base_typ base.Int = TInt
base_typ base.Bool = TBool
base_typ base.Str = TStr
base_typ base.Unit = TUnit
base_typ base.Exn = TExn

-- the entries of a site, and the scope of a term there
abbrev pub entries_of : Site → Environment
entries_of p = environment_of p.env.now

abbrev pub scope_at : Site → List Typ → Scope
scope_at p vars = record { home = home_of p.home; own = p.own; refs = p.refs; vars = vars }

-- the argument and the result of a function type
abbrev pub ends_of : Typ → Option (Typ × Typ)
ends_of (TFun T U) = Some (T, U)
ends_of _ = None

abbrev pub read_ends : Bor Ty × Bor Ty → Typ × Typ
read_ends p = (typ_of p.0.now, typ_of p.1.now)
