use Rattle.std.proofs.Common.{◌∙◌, ap, refl, ◌∷◌, drop, ◌+◌}
use Rattle.ac_chain.specs.inner.Made.{has_string}
use Rattle.ac_chain.proofs.Lists.{left_next, left_none}
use Rattle.ac_chain.proofs.MadeLaws.{starts, next_made, next_read, all_come}
use Rattle.ac_chain.proofs.made.natives.Goals as goal
use Rattle.ac_chain.proofs.made.natives.Goals.{in-Made+in_ok-note-in-Made, in-Read+in_ok-push-in-Read}

pub loop-crossing-init : goal.loop-crossing-init
loop-crossing-init c = λ earlier so. starts c.args.journal.now c.args.journal.now c.new-native.result c.args.made.now earlier refl c.new-native.ensures so

pub loop-crossing-preserved : goal.loop-crossing-preserved
loop-crossing-preserved c =
    let i = c.loop-crossing.crossing-index in
    let journal = c.args.journal.now in
    let next = left_next i journal c.crossing-item.result c.loop-crossing-test.true c.crossing-item.is in
    elim c.match-crossing.branch [
      | in-Made+in_ok-note-in-Made w ↦ λ earlier so.
          next_made journal (drop i journal) (drop (i + 1) journal) w.in-Made.text c.loop-crossing.native c.match-crossing.native c.loop-crossing.made c.match-crossing.made earlier (next ∙ ap (λ x. x ∷ drop (i + 1) journal) w.in-Made.is) (c.loop-crossing.invariant earlier so)
          w.native-is (λ now h s. ap (λ x. has_string x s) w.made-is ∙ w.in_ok-note-in-Made.ensures now h s)
      | in-Read+in_ok-push-in-Read w ↦ λ earlier so.
          next_read journal (drop i journal) (drop (i + 1) journal) w.in-Read.text c.loop-crossing.native c.match-crossing.native w.is_made.result c.loop-crossing.made c.match-crossing.made earlier (next ∙ ap (λ x. x ∷ drop (i + 1) journal) w.in-Read.is) (c.loop-crossing.invariant earlier so)
          (w.native-is ∙ w.in_ok-push-in-Read.ensures.ok) w.is_made.ensures w.made-is
    ]

pub returns : goal.returns
returns c =
    let i = c.loop-crossing.crossing-index in
    let journal = c.args.journal.now in
    let none = left_none i journal c.loop-crossing-test.false c.loop-crossing.auto.crossing-index-end in
    record {
      native = λ earlier so. (all_come journal (drop i journal) c.loop-crossing.native c.loop-crossing.made earlier none (c.loop-crossing.invariant earlier so)).0;
      made = λ earlier so. (all_come journal (drop i journal) c.loop-crossing.native c.loop-crossing.made earlier none (c.loop-crossing.invariant earlier so)).1;
    }
