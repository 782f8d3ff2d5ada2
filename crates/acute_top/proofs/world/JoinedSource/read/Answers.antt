use Rattle.std.proofs.Common.{◌≡◌, ◌∙◌, Option, Some, option_map, false, ap, subst, sym, arith}
use Rattle.acute_words.specs.Commands.{ChannelName, are_one, channel_of, file}
use Rattle.acute_words.specs.declared.command.Channel.{Channel}
use Rattle.acute_words.specs.declared.command.Channel.TheVariants as channel
use Rattle.acute_top.proofs.PlaceLaws.{other}
use Rattle.acute_top.proofs.StageLaws.{next_place, since_read}
use Rattle.acute_top.proofs.world.JoinedSource.read.Goals as goal

pub invariant_of-self-in-Bytes-clause-within : goal.invariant_of-self-in-Bytes-clause-within
invariant_of-self-in-Bytes-clause-within g c = λ told.
    let s = c.args.self.now in
    let f = c.in-Some-File in
    let channel_is : f.field-0 ≡ channel.File f.name = rw f.is at f.field-0-is in
    let at : g.K.Fixed.from ≡ Some (file f.name.now) = sym s.same_from ∙ ap (λ (o : Option Channel). option_map channel_of o) f.is ∙ ap (λ (x : Channel). Some (channel_of x)) channel_is in
    next_place g.K.Fixed.from f.name.now g.K.Fixed.contents (g.F.Files.contents s.files.now) s.place c.saturating_add-self.result c.in-Bytes.count c.read-got.new.buf at (s.kept told f.name.now (other f.name.now g.K.Fixed.to (subst (λ (x : Option ChannelName). are_one x g.K.Fixed.to ≡ false) at s.apart))) (s.within told) (c.in-Bytes.ensures.bytes told) (omega (arith, c.saturating_add-self.ensures))

pub invariant_of-self-in-Bytes-clause-uses : goal.invariant_of-self-in-Bytes-clause-uses
invariant_of-self-in-Bytes-clause-uses g c =
    let s = c.args.self.now in
    let f = c.in-Some-File in
    let channel_is : f.field-0 ≡ channel.File f.name = rw f.is at f.field-0-is in
    let at : g.K.Fixed.from ≡ Some (file f.name.now) = sym s.same_from ∙ ap (λ (o : Option Channel). option_map channel_of o) f.is ∙ ap (λ (x : Channel). Some (channel_of x)) channel_is in
    since_read g.F.Files g.K.Fixed.start g.K.Fixed.from g.K.Fixed.to g.K.Fixed.contents f.name.now s.files.now c.read-got.new.self s.place at s.within s.uses c.in-Bytes.ensures.reads

pub invariant_of-self-in_default-clause-uses : goal.invariant_of-self-in_default-clause-uses
invariant_of-self-in_default-clause-uses g c =
    let s = c.args.self.now in
    let f = c.in-Some-File in
    let channel_is : f.field-0 ≡ channel.File f.name = rw f.is at f.field-0-is in
    let at : g.K.Fixed.from ≡ Some (file f.name.now) = sym s.same_from ∙ ap (λ (o : Option Channel). option_map channel_of o) f.is ∙ ap (λ (x : Channel). Some (channel_of x)) channel_is in
    since_read g.F.Files g.K.Fixed.start g.K.Fixed.from g.K.Fixed.to g.K.Fixed.contents f.name.now s.files.now c.read-got.new.self s.place at s.within s.uses c.read-got.ensures.reads
