use Rattle.std.proofs.Common.{◌++◌, ◌∙◌, sym, ap, refl}
use Rattle.std.proofs.lemmas.List.{append-nil}
use Rattle.ac_types.specs.Types.{Bytes}
use Rattle.ac_outside.proofs.filling.add_some.Goals as goal

pub returns-in-Ok-clause-cause : goal.returns-in-Ok-clause-cause
returns-in-Ok-clause-cause g c = λ e. cc

pub returns-in-Ok-clause-later : goal.returns-in-Ok-clause-later
returns-in-Ok-clause-later g c = c.read.ensures.later

pub returns-in-Ok-clause-passes : goal.returns-in-Ok-clause-passes
returns-in-Ok-clause-passes g c = c.read.ensures.passes

pub returns-in-Err-clause-cause : goal.returns-in-Err-clause-cause
returns-in-Err-clause-cause g c = λ e. cc

pub returns-in-Err-clause-later : goal.returns-in-Err-clause-later
returns-in-Err-clause-later g c = c.read.ensures.later

pub returns-in-Err-clause-passes : goal.returns-in-Err-clause-passes
returns-in-Err-clause-passes g c = c.read.ensures.passes

pub returns-in-End-clause-added : goal.returns-in-End-clause-added
returns-in-End-clause-added g c = refl

pub returns-in-End-clause-moves : goal.returns-in-End-clause-moves
returns-in-End-clause-moves g c = λ told.
    let none = c.in-End.ensures.bytes told in
    (ap (λ (l : Bytes). c.args.text.now.0 ++ l) none ∙ append-nil c.args.text.now.0, c.in-End.ensures.rest told ∙ none)

pub returns-in-End-clause-cause : goal.returns-in-End-clause-cause
returns-in-End-clause-cause g c = λ e. cc

pub returns-in-End-clause-later : goal.returns-in-End-clause-later
returns-in-End-clause-later g c = c.read.ensures.later

pub returns-in-End-clause-passes : goal.returns-in-End-clause-passes
returns-in-End-clause-passes g c = c.read.ensures.passes

pub returns-in-Failed-clause-added : goal.returns-in-Failed-clause-added
returns-in-Failed-clause-added g c = refl

pub returns-in-Failed-clause-moves : goal.returns-in-Failed-clause-moves
returns-in-Failed-clause-moves g c = λ told. ap (λ (l : Bytes). c.args.text.now.0 ++ l) (sym (c.in-Failed.ensures.rest told))

pub returns-in-Failed-clause-cause : goal.returns-in-Failed-clause-cause
returns-in-Failed-clause-cause g c = λ e. c.in-Failed.ensures.cause refl

pub returns-in-Failed-clause-later : goal.returns-in-Failed-clause-later
returns-in-Failed-clause-later g c = c.read.ensures.later

pub returns-in-Failed-clause-passes : goal.returns-in-Failed-clause-passes
returns-in-Failed-clause-passes g c = c.read.ensures.passes
