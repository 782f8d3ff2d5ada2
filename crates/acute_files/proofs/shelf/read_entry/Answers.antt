use Rattle.std.proofs.Common.{List, ℕ, subst}
use Rattle.acute_files.specs.inner.Fronts.{IsFrontOf}
use Rattle.acute_files.proofs.Pieces.{within_limit}
use Rattle.acute_files.proofs.shelf.read_entry.Goals as goal

pub returns-in-Ok-copy-clause-text : goal.returns-in-Ok-copy-clause-text
returns-in-Ok-copy-clause-text g c = λ told.
    within_limit _ _ (subst (λ (name : List ℕ). IsFrontOf (g.F.Files.contents c.args.files.now name) c.in-Ok.text.0) c.as_str.ensures.value (c.in-Ok.ensures.text told))

pub returns-in-Ok-copy-clause-only : goal.returns-in-Ok-copy-clause-only
returns-in-Ok-copy-clause-only g c = subst (λ (name : List ℕ). g.F.Files.reads name c.args.files.now c.read_text.new.files) c.as_str.ensures.value c.in-Ok.ensures.only
