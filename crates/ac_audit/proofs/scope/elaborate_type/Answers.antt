use Rattle.std.proofs.Common.{◌<◌, ◌^◌, IsTrue, length, sym, subst, arith}
use Rattle.std.specs.List.{list_all}
use Rattle.ac_terms.specs.Defs.{Environment}
use Rattle.ac_terms.specs.Read.{entry_of, environment_of}
use Rattle.ac_resolve_names.specs.Entries.{keeps_name}
use Rattle.ac_audit.proofs.CutLaws.{map_length}
use Rattle.ac_audit.proofs.OwnLaws.{own_named, own_few}
use Rattle.ac_audit.proofs.scope.elaborate_type.Goals as goal

pub seeing-requires-clause-names : goal.seeing-requires-clause-names
seeing-requires-clause-names c = subst (λ (E : Environment). IsTrue (list_all keeps_name E)) (sym c.in_ok-own.ensures) (own_named (environment_of c.args.env.now) c.requires.names)

pub seeing-requires-clause-length : goal.seeing-requires-clause-length
seeing-requires-clause-length c =
    subst (λ (E : Environment). length E < 2 ^ 32) (sym c.in_ok-own.ensures) (own_few (environment_of c.args.env.now) (2 ^ 32) (let same = map_length entry_of c.args.env.now.entries in omega (arith, c.requires.few, same)))
