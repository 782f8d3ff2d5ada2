use Rattle.std.proofs.Common.{◌≡◌, ◌<◌, ◌≤◌, ◌∙◌, sym, ap, arith, refl}
use Rattle.std.specs.Int.{from_be_bytes, w32}
use Rattle.ac_types.specs.Types.{Bytes}
use Rattle.ac_types.specs.Limits.{longest_frame}
use Rattle.ac_outside.specs.Frames.{Whole}
use Rattle.ac_outside.proofs.ReaderLaws.{over_goes, whole_gives, early_goes}
use Rattle.ac_outside.proofs.frames.read_body.Goals as goal

pub returns-then-length-gt-LONGEST_FRAME-clause-goes : goal.returns-then-length-gt-LONGEST_FRAME-clause-goes
returns-then-length-gt-LONGEST_FRAME-clause-goes g c =
    let is : c.length_in-length.result ≡ from_be_bytes w32 c.args.part.now.head.0 = c.length_in-length.ensures ∙ ap (λ (h : Bytes). from_be_bytes w32 h) c.as_slice.ensures in
    let over : longest_frame < c.length_in-length.result = omega arith in
    over_goes c.args.part.now.head.0 c.args.part.now.body.0 c.args.part.now.body.0 _ c.requires.head is over

pub returns-in-Done-clause-gives : goal.returns-in-Done-clause-gives
returns-in-Done-clause-gives g c = λ told.
    let is : c.length_in-length.result ≡ from_be_bytes w32 c.args.part.now.head.0 = c.length_in-length.ensures ∙ ap (λ (h : Bytes). from_be_bytes w32 h) c.as_slice.ensures in
    let le : c.length_in-length.result ≤ longest_frame = omega arith in
    whole_gives c.args.part.now.head.0 c.args.part.now.body.0 _ _ c.requires.head is _ _ le c.in-Done.ensures.filled.1 (c.in-Done.ensures.moves told)
    ∙ ap (λ (s : Bytes). Whole s (g.S.Source.left c.fill_to.new.source)) (sym c.taken.ensures.bytes)

pub returns-in-End-clause-goes : goal.returns-in-End-clause-goes
returns-in-End-clause-goes g c =
    let is : c.length_in-length.result ≡ from_be_bytes w32 c.args.part.now.head.0 = c.length_in-length.ensures ∙ ap (λ (h : Bytes). from_be_bytes w32 h) c.as_slice.ensures in
    let le : c.length_in-length.result ≤ longest_frame = omega arith in
    let goes = early_goes c.args.part.now.head.0 c.args.part.now.body.0 c.args.part.now.body.0 _ c.requires.head is _ le c.in-End.ensures.filled.1 in
    rw c.len.ensures goes

pub returns-then-length-gt-LONGEST_FRAME-clause-part : goal.returns-then-length-gt-LONGEST_FRAME-clause-part
returns-then-length-gt-LONGEST_FRAME-clause-part g c = c.requires.part

pub returns-then-length-gt-LONGEST_FRAME-clause-cause : goal.returns-then-length-gt-LONGEST_FRAME-clause-cause
returns-then-length-gt-LONGEST_FRAME-clause-cause g c = λ e. cc

pub returns-then-length-gt-LONGEST_FRAME-clause-passes : goal.returns-then-length-gt-LONGEST_FRAME-clause-passes
returns-then-length-gt-LONGEST_FRAME-clause-passes g c = g.met.S.Source.passes_none _

pub returns-in-Done-clause-cause : goal.returns-in-Done-clause-cause
returns-in-Done-clause-cause g c = λ e. cc

pub returns-in-Done-clause-later : goal.returns-in-Done-clause-later
returns-in-Done-clause-later g c = c.in-Done.ensures.later

pub returns-in-Done-clause-passes : goal.returns-in-Done-clause-passes
returns-in-Done-clause-passes g c = c.in-Done.ensures.passes

pub returns-in-End-clause-cause : goal.returns-in-End-clause-cause
returns-in-End-clause-cause g c = λ e. cc

pub returns-in-End-clause-later : goal.returns-in-End-clause-later
returns-in-End-clause-later g c = c.in-End.ensures.later

pub returns-in-End-clause-passes : goal.returns-in-End-clause-passes
returns-in-End-clause-passes g c = c.in-End.ensures.passes

pub returns-in-Failed-clause-cause : goal.returns-in-Failed-clause-cause
returns-in-Failed-clause-cause g c = λ e. c.in-Failed.ensures.cause refl

pub returns-in-Failed-clause-later : goal.returns-in-Failed-clause-later
returns-in-Failed-clause-later g c = c.in-Failed.ensures.later

pub returns-in-Failed-clause-passes : goal.returns-in-Failed-clause-passes
returns-in-Failed-clause-passes g c = c.in-Failed.ensures.passes

pub returns-in-Memory-clause-cause : goal.returns-in-Memory-clause-cause
returns-in-Memory-clause-cause g c = λ e. cc

pub returns-in-Memory-clause-later : goal.returns-in-Memory-clause-later
returns-in-Memory-clause-later g c = c.in-Memory.ensures.later

pub returns-in-Memory-clause-passes : goal.returns-in-Memory-clause-passes
returns-in-Memory-clause-passes g c = c.in-Memory.ensures.passes

pub returns-in-Memory-clause-goes : goal.returns-in-Memory-clause-goes
returns-in-Memory-clause-goes g c = refl
