use Rattle.std.proofs.Common.{◌≡◌, drop, map}
use Rattle.std.specs.List.{list_all}
use Rattle.ac_terms.specs.Defs.{Field}
use Rattle.ac_terms.specs.Read.{field_of}
use Rattle.ac_rules.specs.Modules.{is_valuable}
use Rattle.ac_admit_formed.proofs.fields.are_valuable.Given as goal

abbrev pub invariant-loop-f : goal.invariant-loop-f
invariant-loop-f l = list_all (λ (f : Field). is_valuable f.term) (map field_of l.fields) ≡ list_all (λ (f : Field). is_valuable f.term) (map field_of (drop l.f-index l.fields))
