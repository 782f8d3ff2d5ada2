use Rattle.std.proofs.Common.{◌∙◌, sym, ap, ℕ, ◌≤◌, length, map, take, arith}
use Rattle.std.proofs.lemmas.List.{take_all}
use Rattle.ac_terms.specs.Read.{entry_of}
use Rattle.ac_admit_placing.specs.inner.Keys.{keyed}
use Rattle.ac_admit_placing.specs.inner.Maps.{key_found}
use Rattle.ac_admit_placing.proofs.FindLaws.{none_keyed, keys_next, entries_next, entries_taken}
use Rattle.ac_admit_placing.proofs.finding.keys_of.Goals as goal

pub loop-i-init : goal.loop-i-init
loop-i-init c = λ k. none_keyed c.new-keys.result c.new-keys.ensures.empty k

pub loop-i-preserved : goal.loop-i-preserved
loop-i-preserved c =
    let es = c.args.entries.now in
    let i : ℕ = c.loop-i.i in
    let x = c.index-entries-i.result in
    λ k. keys_next (map entry_of (take i es)) (entry_of x) i (entries_taken i es (omega arith)) (key_found c.loop-i.keys) (key_found c.note.new.keys) c.loop-i.invariant _ c.in_ok-key.ensures c.in_ok-note.ensures k
    ∙ ap (λ Y. keyed Y k.items) (sym (entries_next i es x (omega arith) c.index-entries-i.is))

pub returns : goal.returns
returns c =
    let es = c.args.entries.now in
    let all : length es ≤ c.loop-i.i = omega arith in
    λ k. c.loop-i.invariant k ∙ ap (λ xs. keyed (map entry_of xs) k.items) (take_all c.loop-i.i es all)
