use Rattle.std.proofs.Common.{◌≡◌, ◌++◌, length, drop, map}
use Rattle.ac_types.specs.Types.{Bytes}
use Rattle.ac_types.specs.ReadTypes.{sig_type_of}
use Rattle.ac_index.specs.Noted.{first_under, forgetting}
use Rattle.ac_terms.proofs.LookUpLaws.{type_at}
use Rattle.ac_terms.proofs.look_ups.forget_types.Given as goal

abbrev pub invariant-loop-spec : goal.invariant-loop-spec
invariant-loop-spec l =
    (n t : Bytes) → length n ≡ 32 → forgetting (type_at l.name.0 (map sig_type_of (drop l.spec-index l.specs)) n t) l.number (first_under l.types (n ++ t))
    ≡ forgetting (type_at l.name.0 (map sig_type_of l.specs) n t) l.number (first_under l.fn.types (n ++ t))
