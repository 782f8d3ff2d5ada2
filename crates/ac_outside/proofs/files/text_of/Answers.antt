use Rattle.std.proofs.Common.{◌≡◌, ◌∙◌, ◌<◌, ◌^◌, ap, sym, subst, length, Some}
use native.Mathlib.Omega.{arith}
use Rattle.ac_outside.specs.Outside.{IsShort}
use Rattle.ac_outside.specs.Kept.{file_contents}
use Rattle.ac_outside.proofs.Places.{found}
use Rattle.ac_outside.proofs.files.text_of.Goals as goal

pub returns-clause-text : goal.returns-clause-text
returns-clause-text c = found _ _ _ _ c.in_ok-at.ensures.place

pub returns-clause-short : goal.returns-clause-short
returns-clause-short c =
    let short : length c.index-files-at.result.bytes.0 < 2 ^ 64 = grind arith in
    let is : file_contents c.args.files.now c.args.name.now ≡ Some c.index-files-at.result.bytes.0 =
    found _ _ _ c.index-files-at.result c.in_ok-at.ensures.place ∙ ap (λ f. Some f.bytes.0) (sym c.index-files-at.is) in
    subst IsShort (sym is) short
