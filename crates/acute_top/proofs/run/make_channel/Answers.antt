use Rattle.std.proofs.Common.{◌≡◌, ◌∙◌, Option, Some, option_map, ap, sym, subst}
use Rattle.acute_words.specs.Commands.{ChannelName, channel_of, file}
use Rattle.acute_words.specs.declared.command.Channel.{Channel}
use Rattle.acute_words.specs.declared.command.Channel.TheVariants as channel
use Rattle.acute_files.specs.Files.{files_seen}
use Rattle.acute_top.specs.Stages.{Makes}
use Rattle.acute_top.specs.inner.Runs.{MakesFile}
use Rattle.acute_top.proofs.run.make_channel.Goals as goal

pub returns-in-Some-File-clause-makes : goal.returns-in-Some-File-clause-makes
returns-in-Some-File-clause-makes g c =
    let e = c.create.ensures in
    let seen = files_seen g.F.Files.contents g.F.Files.read_faults g.F.Files.write_faults in
    let channel_is : c.in-Some-File.field-0 ≡ channel.File c.in-Some-File.name = rw c.in-Some-File.is at c.in-Some-File.field-0-is in
    let is : option_map channel_of c.args.to ≡ Some (file c.in-Some-File.name.now) = ap (λ (o : Option Channel). option_map channel_of o) c.in-Some-File.is ∙ ap (λ (x : Channel). Some (channel_of x)) channel_is in
    subst (λ (to : Option ChannelName). MakesFile to g.F.Files.told c.create.result (seen c.args.files.now) (seen c.create.new.self)) (sym is) (e.bytes, (e.others, (e.cause, (e.later, e.later_writes))))

pub returns-in-Some-File-clause-touches : goal.returns-in-Some-File-clause-touches
returns-in-Some-File-clause-touches g c =
    let channel_is : c.in-Some-File.field-0 ≡ channel.File c.in-Some-File.name = rw c.in-Some-File.is at c.in-Some-File.field-0-is in
    let is : option_map channel_of c.args.to ≡ Some (file c.in-Some-File.name.now) = ap (λ (o : Option Channel). option_map channel_of o) c.in-Some-File.is ∙ ap (λ (x : Channel). Some (channel_of x)) channel_is in
    subst (λ (to : Option ChannelName). Makes g.F.Files to c.args.files.now c.create.new.self) (sym is) c.create.ensures.writes
