use Rattle.std.proofs.Common.{◌≡◌, ◌∙◌, Option, Some, option_map, ap, sym}
use Rattle.acute_words.specs.Commands.{channel_of, file}
use Rattle.acute_words.specs.declared.command.Channel.{Channel}
use Rattle.acute_words.specs.declared.command.Channel.TheVariants as channel
use Rattle.acute_top.proofs.StageLaws.{since_write}
use Rattle.acute_top.proofs.world.JoinedWorld.send.Goals as goal

pub invariant_of-self-in-Some-File-clause-uses : goal.invariant_of-self-in-Some-File-clause-uses
invariant_of-self-in-Some-File-clause-uses g c =
    let s = c.args.self.now in
    let f = c.in-Some-File in
    let channel_is : f.field-0 ≡ channel.File f.name = rw f.is at f.field-0-is in
    let at : g.K.Fixed.to ≡ Some (file f.name.now) = sym s.same_to ∙ ap (λ (o : Option Channel). option_map channel_of o) f.is ∙ ap (λ (x : Channel). Some (channel_of x)) channel_is in
    since_write g.F.Files g.K.Fixed.start g.K.Fixed.from g.K.Fixed.to g.K.Fixed.contents f.name.now s.files.now c.append.new.self at s.uses c.append.ensures.writes
