use Rattle.std.proofs.Common.{◌≡◌, ℕ, ◌+◌}
use Rattle.ac_code.specs.Contexts.{types_left}
use Rattle.ac_values.specs.Values.{stands_as}
use Rattle.ac_meaning.specs.Substitution.{slot_in}
use Rattle.ac_machine_meaning.specs.Stands.{environment_values}
use Rattle.ac_pack_terms.specs.Pieces.{code_at}
use Rattle.ac_pack_terms.proofs.around.held_slot.Given as goal

abbrev pub invariant-loop-k : goal.invariant-loop-k
invariant-loop-k l =
    (m : ℕ) → l.j ≡ l.k + m →
    slot_in (environment_values (code_at l.site) (stands_as l.site.store.now l.fn.list.0) (types_left l.fn.context)) l.j ≡ slot_in (environment_values (code_at l.site) (stands_as l.site.store.now l.rest.0) (types_left l.types)) m
