use Rattle.std.proofs.Common.{◌∙◌, ◌-◌, ◌<◌, ◌≤◌, sym, ap, length, arith}
use Rattle.std.specs.Prelude.{slice_get}
use Rattle.ac_admit_placing.specs.inner.Behind.{kept_entry_name}
use Rattle.ac_admit_placing.proofs.BehindLaws.{name_there, name_coming}
use Rattle.ac_admit_placing.proofs.names.kept_name.Goals as goal

pub returns-then-j-many : goal.returns-then-j-many
returns-then-j-many c =
    let es = c.args.env.now.entries in
    let l : c.args.j < length es = omega arith in
    c.name_in.ensures ∙ ap (λ xs. kept_entry_name (slice_get xs c.args.j)) c.entries.ensures ∙ sym (name_there es c.args.more.now c.args.j l)

pub returns : goal.returns
returns c =
    let es = c.args.env.now.entries in
    let l : length es ≤ c.args.j = omega arith in
    c.name_in-2.ensures ∙ ap (λ n. kept_entry_name (slice_get c.args.more.now (c.args.j - n))) c.len-many.ensures ∙ sym (name_coming es c.args.more.now c.args.j l)
