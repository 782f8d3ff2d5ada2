use Rattle.std.proofs.Common.{◌<◌, ◌∙◌, ℕ, length, drop, sym, arith}
use Rattle.std.proofs.lemmas.List.{length-append, length-take}
use Rattle.ac_outside.specs.declared.traits.Got.TheVariants as got
use Rattle.ac_channels.specs.ChannelFrames.{longest_channel}
use Rattle.acute_files.specs.inner.FileFronts.{longest_front}
use Rattle.acute_files.proofs.FileFrontLaws.{held_taken, nothing_left, read_on, within_more, all_left, same_left}
use Rattle.acute_files.proofs.channel.FileFrontSource.read.Goals as goal

pub returns-in-Some-clause-bytes : goal.returns-in-Some-clause-bytes
returns-in-Some-clause-bytes g c = λ told. held_taken c.args.self.now.held c.in-Some.byte _ c.args.buf.now (sym c.take.ensures.value ∙ c.in-Some.is) c.requires

pub overflow_sub-self : goal.overflow_sub-self
unfolding longest_front longest_channel
overflow_sub-self g c = c.args.self.now.within

pub returns-then-most-eq0-clause-bytes : goal.returns-then-most-eq0-clause-bytes
unfolding longest_front longest_channel
returns-then-most-eq0-clause-bytes g c = λ told.
    let some : 0 < length c.args.buf.now = c.requires in
    nothing_left c.args.self.now.held (g.F.Files.contents c.args.self.now.files.now c.args.self.now.name.now) c.args.self.now.place (sym c.take.ensures.value ∙ c.in_default.is) (omega arith)

pub invariant_of-self-in-Bytes : goal.invariant_of-self-in-Bytes
unfolding longest_front longest_channel
invariant_of-self-in-Bytes g c =
    let within = c.in-Bytes.ensures.bound.1 in
    let before = c.args.self.now.within in
    record { within = omega (arith, within, before, c.read-got.auto.buf, length-take c.min-most.result c.args.buf.now) }

pub returns-in-Bytes-clause-bytes : goal.returns-in-Bytes-clause-bytes
unfolding longest_front longest_channel
returns-in-Bytes-clause-bytes g c = λ told.
    let s = c.args.self.now in
    let before = s.within in
    read_on (got.Bytes c.in-Bytes.count) s.held (g.F.Files.contents s.files.now s.name.now) s.place c.min-most.result c.read-got.new.buf (drop c.min-most.result c.args.buf.now) (sym c.take.ensures.value ∙ c.in_default.is) (c.in-Bytes.ensures.bytes told) c.in-Bytes.ensures.bound (omega (arith, c.read-got.auto.buf, length-take c.min-most.result c.args.buf.now)) (omega (arith, before))

pub returns-in_default-got-clause-bound : goal.returns-in_default-got-clause-bound
returns-in_default-got-clause-bound g c =
    within_more c.read-got.result (length c.read-got.new.buf) _ (omega (arith, length-append {A = ℕ})) c.read-got.ensures.bound

pub returns-in_default-got-clause-bytes : goal.returns-in_default-got-clause-bytes
unfolding longest_front longest_channel
returns-in_default-got-clause-bytes g c = λ told.
    let s = c.args.self.now in
    let before = s.within in
    read_on c.read-got.result s.held (g.F.Files.contents s.files.now s.name.now) s.place c.min-most.result c.read-got.new.buf (drop c.min-most.result c.args.buf.now) (sym c.take.ensures.value ∙ c.in_default.is) (c.read-got.ensures.bytes told) c.read-got.ensures.bound (omega (arith, c.read-got.auto.buf, length-take c.min-most.result c.args.buf.now)) (omega (arith, before))

pub returns-in_default-got-clause-rest : goal.returns-in_default-got-clause-rest
returns-in_default-got-clause-rest g c = λ told.
    let s = c.args.self.now in
    all_left c.read-got.result _ _ c.in_default-got.not-Bytes (same_left s.held c.take.new.self (g.F.Files.contents s.files.now) (g.F.Files.contents c.read-got.new.self) s.name.now s.place c.take.ensures.after (sym c.take.ensures.value ∙ c.in_default.is) (c.read-got.ensures.same told))
