-- The code of one entry more.
use Rattle.std.proofs.Common.{◌≡◌, ℕ, zero, suc, ◌<◌, ◌+◌, List, [], ◌∷◌, length, map, drop, refl, sym, ap, ◌∙◌, subst, arith}
use Rattle.ac_terms.specs.Defs.{Environment, Entry}
use Rattle.ac_terms.specs.Read.{environment_of, entry_of}
use Rattle.ac_terms.specs.declared.env.Env.{Env}
use Rattle.ac_terms.specs.declared.def.Entry as code_entry
use Rattle.ac_code.specs.Code.{Code}
use Rattle.ac_generate.specs.Generated.{entry_generated, entries_generated}

-- the entries from a place on, and the first of them
from_place : (i : ℕ) (es : List Entry) → i < length es → (e : Entry) × (drop i es ≡ e ∷ drop (suc i) es)
from_place i [] lt = absurd (omega (arith, lt))
from_place zero (e ∷ es) lt = (e, refl)
from_place (suc i) (e ∷ es) lt = from_place i es (omega (arith, lt))

entry_next : (E : Environment) (i : ℕ) (K K' all : Code) → i < length E → K' ≡ entry_generated E i K → entries_generated E i (drop i E) K ≡ all → entries_generated E (suc i) (drop (suc i) E) K' ≡ all
entry_next E i K K' all lt is rest =
    let f = from_place i E lt in
    ap (entries_generated E (suc i) (drop (suc i) E)) is ∙ ap (λ es. entries_generated E i es K) (sym f.1) ∙ rest

pub entries_length : (es : List code_entry.Entry) → length (map entry_of es) ≡ length es
entries_length [] = refl
entries_length (e ∷ es) = ap suc (entries_length es)

pub next_entry : (env : Env) (i : ℕ) (K K' all : Code) → i < length env.entries → K' ≡ entry_generated (environment_of env) i K → entries_generated (environment_of env) i (drop i (environment_of env)) K ≡ all → entries_generated (environment_of env) (i + 1) (drop (i + 1) (environment_of env)) K' ≡ all
next_entry env i K K' all lt is rest =
    let same = entries_length env.entries in
    let e : suc i ≡ i + 1 = omega arith in
    subst (λ j. entries_generated (environment_of env) j (drop j (environment_of env)) K' ≡ all) e (entry_next (environment_of env) i K K' all (omega (arith, lt, same)) is rest)
