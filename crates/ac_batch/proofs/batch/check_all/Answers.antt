use Rattle.std.proofs.Common.{rules, ◌<◌, ◌∙◌, ℕ, sym, length, get_or, slice_get, subst}
use Rattle.std.specs.Prelude.{IfOk}
use Rattle.std.specs.declared.result.Result.{Result}
use Rattle.ac_types.specs.declared.memory.Memory.{Memory}
use Rattle.ac_load.specs.Loading.{shelf_of}
use Rattle.ac_batch.specs.declared.verdict.Verdict.{Verdict}
use Rattle.ac_batch.specs.Verdicts.{AreVerdicts}
use Rattle.ac_batch.proofs.BatchLaws.{GivesVerdict, all_collected}
use Rattle.ac_batch.proofs.batch.check_all.Goals as goal

pub returns : goal.returns
returns g c =
    let texts = c.as_slice-texts.result.now in
    let shelf = shelf_of c.args.shelf.now in
    let results = c.in_ok-results.results.items in
    let each : (i : ℕ) (d : Result Verdict Memory) → i < length texts → GivesVerdict shelf (slice_get texts i) (get_or results i d) =
    search rules in
    let found = subst (λ rs. (i : ℕ) (d : Result Verdict Memory) → i < length texts → GivesVerdict shelf (slice_get texts i) (get_or rs i d)) (sym c.as_slice.ensures.value) each in
    subst (λ ts. IfOk c.collected.result (λ vs. AreVerdicts ts shelf vs)) c.as_slice-texts.ensures
    (all_collected texts shelf c.as_slice.result.now c.collected.result c.collected.ensures (c.as_slice.ensures.len ∙ c.in_ok-results.ensures.len) found)
