use Rattle.std.proofs.Common.{sym, refl}
use Rattle.acute_top.specs.Endings.{texts}
use Rattle.acute_top.specs.Stages.{AtTexts}
use Rattle.acute_top.proofs.EndingLaws.{words_refused, end_at_words}
use Rattle.acute_top.proofs.FewFiles.{words_short}
use Rattle.acute_top.proofs.PlaceLaws.{untouched_by}
use Rattle.acute_top.proofs.StageLaws.{no_texts}
use Rattle.acute_top.proofs.WordLaws.{words_apart}
use Rattle.acute_top.proofs.top.acute.Goals as goal

pub obey-requires-clause-apart : goal.obey-requires-clause-apart
obey-requires-clause-apart g c κs within =
    let some = rw c.in-Ok-Some.field-0-is at c.in-Ok-Some.ensures in
    words_apart (texts c.args.words.now) _ (sym some)

pub obey-requires-clause-short : goal.obey-requires-clause-short
obey-requires-clause-short g c κs within =
    let some = rw c.in-Ok-Some.field-0-is at c.in-Ok-Some.ensures in
    words_short (texts c.args.words.now) _ (sym some)

pub returns-in-Ok-None-clause-ends : goal.returns-in-Ok-None-clause-ends
returns-in-Ok-None-clause-ends g c =
    let none = rw c.in-Ok-None.field-0-is at c.in-Ok-None.ensures in
    rw (sym none) (AtTexts, (refl, refl), words_refused _ (record { same = refl }) _ c.refuse_words.ensures)

pub returns-in-Ok-Some-clause-ends : goal.returns-in-Ok-Some-clause-ends
returns-in-Ok-Some-clause-ends g c =
    let some = rw c.in-Ok-Some.field-0-is at c.in-Ok-Some.ensures in
    rw (sym some) c.obey.ensures.ends

pub returns-in-Err-clause-ends : goal.returns-in-Err-clause-ends
returns-in-Err-clause-ends g c = (AtTexts, (refl, no_texts g.F.Files _ _), end_at_words _ _ _ (record { same = refl }) (λ to. untouched_by _ _ _ _ _ _ _ to (λ t. refl)) refl (record { started = λ t. refl; left = λ t. refl }) _ c.no_memory.ensures)

pub returns-in-Ok-None-clause-kept : goal.returns-in-Ok-None-clause-kept
returns-in-Ok-None-clause-kept g c = λ told name h. refl

pub returns-in-Ok-Some-clause-kept : goal.returns-in-Ok-Some-clause-kept
returns-in-Ok-Some-clause-kept g c =
    let some = rw c.in-Ok-Some.field-0-is at c.in-Ok-Some.ensures in
    rw (sym some) c.obey.ensures.kept

pub returns-in-Err-clause-kept : goal.returns-in-Err-clause-kept
returns-in-Err-clause-kept g c = λ told name h. refl

pub returns-in-Ok-Some-clause-unspawned : goal.returns-in-Ok-Some-clause-unspawned
returns-in-Ok-Some-clause-unspawned g c =
    let some = rw c.in-Ok-Some.field-0-is at c.in-Ok-Some.ensures in
    rw (sym some) c.obey.ensures.unspawned
