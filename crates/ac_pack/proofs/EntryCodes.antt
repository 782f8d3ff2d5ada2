-- How many entries there may be.
use Rattle.std.proofs.Common.{◌<◌, ◌≤◌, ◌^◌, length, arith, ap, ◌∙◌, length-append}
use Rattle.ac_terms.specs.Read.{environment_of}
use Rattle.ac_terms.specs.declared.env.Env.{Env}
use Rattle.ac_rules.specs.Coherent.{IsCoherent}
use Rattle.ac_rules.specs.Growth.{Grows}
use Rattle.ac_generate.proofs.EntrySteps.{entries_length}

-- coherent definitions are few
pub few_entries : (env : Env) → IsCoherent (environment_of env) → length env.entries < 2 ^ 32
few_entries env i = let same = entries_length env.entries in let few = i.few in omega (arith, same, few)

-- where definitions grow, there are no fewer
pub no_fewer : (old new : Env) → Grows (environment_of old) (environment_of new) → length old.entries ≤ length new.entries
no_fewer old new g =
    let a = entries_length old.entries in
    let b = entries_length new.entries in
    let longer = ap length g.extends.is_more ∙ length-append (environment_of old) g.extends.more in
    omega (arith, a, b, longer)
