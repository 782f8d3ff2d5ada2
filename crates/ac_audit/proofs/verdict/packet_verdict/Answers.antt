use Rattle.std.proofs.Common.{◌<◌, ℕ, subst}
use Rattle.ac_terms.specs.Read.{environment_of, packet_of, pdef_of}
use Rattle.ac_types.specs.ReadTypes.{typ_of}
use Rattle.ac_audit.proofs.CauseLaws.{import_within}
use Rattle.ac_audit.proofs.CutLaws.{cut_back, map_length}
use Rattle.ac_audit.proofs.verdict.packet_verdict.Goals as goal

pub returns-in-Ok-clause-same : goal.returns-in-Ok-clause-same
returns-in-Ok-clause-same c = let l = c.in-Ok.ensures.longer in cut_back c.args.env.now c.admit.new.env c.cut.new.self c.len-many.result l.0 l.1 c.len-many.ensures c.cut.ensures

pub external_name-requires : goal.external_name-requires
external_name-requires c =
    subst (λ (n : ℕ). c.in-Err-Unresolved.i < n) (map_length pdef_of c.args.p.now.defs)
    (import_within (environment_of c.args.env.now) (packet_of c.args.p.now) (typ_of c.args.expected.now) c.in-Err-Unresolved.i (rw c.in-Err-Unresolved.field-0-is at c.in-Err-Unresolved.ensures.refused))
