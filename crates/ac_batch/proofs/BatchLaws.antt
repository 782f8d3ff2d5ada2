-- What the pieces give are the verdicts of the texts.
use Rattle.std.proofs.Common.{ℕ, suc, ◌≡◌, ◌<◌, List, [], ◌∷◌, map, length, get_or, Option, Some, slice_get, Ok, Err, subst, arith}
use Rattle.std.specs.Prelude.{IfOk, IfSome}
use Rattle.std.specs.declared.result.Result.{Result}
use Rattle.ac_types.specs.declared.text.Text.{Text}
use Rattle.ac_types.specs.declared.memory.Memory.{Memory}
use Rattle.ac_load_rules.specs.Accepting.{Shelved}
use Rattle.ac_batch.specs.declared.verdict.Verdict.{Verdict}
use Rattle.ac_batch.specs.Verdicts.{IsVerdict, AreVerdicts}

-- the piece of a text gives a verdict of it, where it gives any
abbrev pub GivesVerdict : List Shelved → Option Text → Result Verdict Memory → Type 0
GivesVerdict shelf text r = IfOk r (λ v. IfSome text (λ t. IsVerdict t.0 shelf v))

pub all_verdicts :
    (ts : List Text) (shelf : List Shelved) (rs : List (Result Verdict Memory)) (vs : List Verdict) → map Ok vs ≡ rs → length rs ≡ length ts →
    ((i : ℕ) (d : Result Verdict Memory) → i < length ts → GivesVerdict shelf (slice_get ts i) (get_or rs i d)) →
    AreVerdicts ts shelf vs
all_verdicts [] shelf [] [] e l h = tt
all_verdicts [] shelf [] (v ∷ vs) e l h = absurd (cc)
all_verdicts [] shelf (r ∷ rs) vs e l h = absurd (omega arith)
all_verdicts (t ∷ ts) shelf [] vs e l h = absurd (omega arith)
all_verdicts (t ∷ ts) shelf (r ∷ rs) [] e l h = absurd (cc)
all_verdicts (t ∷ ts) shelf (r ∷ rs) (v ∷ vs) e l h =
    let first : r ≡ Ok v = cc in
    let rest : map Ok vs ≡ rs = cc in
    (subst (GivesVerdict shelf (Some t)) first (h 0 r (omega arith)), all_verdicts ts shelf rs vs rest (omega arith) (λ i d k. h (suc i) d (omega arith)))

pub all_collected :
    (ts : List Text) (shelf : List Shelved) (rs : List (Result Verdict Memory)) (found : Result (List Verdict) Memory) → IfOk found (λ vs. map Ok vs ≡ rs) → length rs ≡ length ts →
    ((i : ℕ) (d : Result Verdict Memory) → i < length ts → GivesVerdict shelf (slice_get ts i) (get_or rs i d)) →
    IfOk found (λ vs. AreVerdicts ts shelf vs)
all_collected ts shelf rs (Ok vs) e l h = all_verdicts ts shelf rs vs e l h
all_collected ts shelf rs (Err m) e l h = tt
