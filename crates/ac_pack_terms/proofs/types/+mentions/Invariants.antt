use Rattle.std.proofs.Common.{◌≡◌, ◌++◌, drop}
use Rattle.ac_types.specs.Types.{mentions_of_all}
use Rattle.ac_terms.specs.Read.{environment_of}
use Rattle.ac_check_views.specs.Sites.{typs_of}
use Rattle.ac_pack_terms.specs.Spoken.{first_named}
use Rattle.ac_pack_terms.proofs.types.+mentions.Given as goal

abbrev pub invariant-speak_of_all-loop-ty : goal.invariant-speak_of_all-loop-ty
invariant-speak_of_all-loop-ty l =
    l.roots ++ first_named (environment_of l.site.env.now) (mentions_of_all (typs_of (drop l.ty-index l.tys))) ≡ l.initial.roots ++ first_named (environment_of l.site.env.now) (mentions_of_all (typs_of l.tys))
