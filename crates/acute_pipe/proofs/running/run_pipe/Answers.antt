use Rattle.std.proofs.Common.{◌≡◌, ◌∙◌, List, map, string_bytes, ap, subst}
use Rattle.ac_types.specs.Types.{Bytes}
use Rattle.acute_pipe.specs.Senders.{words_for}
use Rattle.acute_pipe.specs.Spawnings.{Spawning, PipesSo, spawning}
use Rattle.acute_pipe.proofs.PipedLaws.{pipes_so, ran_by}
use Rattle.acute_pipe.proofs.ReceivedLaws.{received}
use Rattle.acute_pipe.proofs.running.run_pipe.Goals as goal

pub returns-in-Ok-clause-child : goal.returns-in-Ok-clause-child
returns-in-Ok-clause-child g c =
    let e = c.pipe.ensures in
    let s : Spawning = spawning g.P.Spawner c.args.spawner.now c.pipe.new.spawner in
    let words : map string_bytes c.as_slice.result.now ≡ words_for c.args.asked = ap (λ (ws : List _). map string_bytes ws) c.as_slice.ensures.value ∙ c.in-Ok.ensures in
    subst (λ (ws : List Bytes). PipesSo s ws c.pipe.result) words (pipes_so (map string_bytes c.as_slice.result.now) s c.pipe.result e.started e.untaken e.cause_start e.cause_read e.sender e.drained)

pub returns-in-Ok-clause-ran : goal.returns-in-Ok-clause-ran
returns-in-Ok-clause-ran g c = λ text shelf accepted. ran_by _ _ _ (λ end rest_failed sender. received text shelf _ c.args.receiver accepted c.requires.loaded.program _ _ end _ _) c.pipe.ensures.ran
