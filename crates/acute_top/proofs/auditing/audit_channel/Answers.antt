use Rattle.std.proofs.Common.{Err, ap, refl, sym, subst, map}
use Rattle.std.proofs.lemmas.Result.{IfOk-weaker}
use Rattle.ac_types.specs.Types.{Typ}
use Rattle.ac_types.specs.ReadTypes.{typ_of}
use Rattle.ac_terms.specs.Defs.{Environment}
use Rattle.ac_terms.specs.Read.{bytes_of, environment_of}
use Rattle.ac_channels.specs.ChannelFrames.{AllFrames, BadFrame}
use Rattle.ac_channels.specs.declared.reading.ChannelFault.{ChannelFault}
use Rattle.acute_files.specs.Files.{Reading, reading}
use Rattle.acute_answers.specs.Auditing.{AuditsFrames, refused_channel}
use Rattle.acute_top.specs.Streams.{writing}
use Rattle.acute_top.specs.inner.Audited.{no_frames, no_memory_for_frames}
use Rattle.acute_top.proofs.AuditLaws.{found_of}
use Rattle.acute_top.proofs.EndingLaws.{still_whole}
use Rattle.acute_top.proofs.auditing.audit_channel.Goals as goal

pub returns-in-Ok-clause-ends : goal.returns-in-Ok-clause-ends
returns-in-Ok-clause-ends g c =
    let E : Environment = environment_of c.args.auditor.now.program.env in
    let T : Typ = typ_of c.args.auditor.now.ty in
    let file : Reading = reading g.F.Files c.args.files.now c.read_frames.new.files c.args.channel.now in
    found_of E T file _ _ (AllFrames (map bytes_of c.in-Ok.frames)) c.in-Ok.ensures.frames c.audit-found.result c.audit-found.ensures _ c.deliver.ensures

pub returns-in-Err-BadFrame-clause-ends : goal.returns-in-Err-BadFrame-clause-ends
returns-in-Err-BadFrame-clause-ends g c =
    let E : Environment = environment_of c.args.auditor.now.program.env in
    let T : Typ = typ_of c.args.auditor.now.ty in
    let file : Reading = reading g.F.Files c.args.files.now c.read_frames.new.files c.args.channel.now in
    let arm = c.in-Err-BadFrame in
    found_of E T file _ _ (BadFrame arm.number) (arm.ensures.refused arm.number (ap (λ (f : ChannelFault). Err f) arm.field-0-is)) c.refused_channel-found.result
    (IfOk-weaker c.refused_channel-found.result _ _ (λ a is. subst (AuditsFrames E T (BadFrame arm.number)) (sym is) (refused_channel arm.number)) c.refused_channel-found.ensures) _ c.deliver-in-Err-BadFrame.ensures

pub returns-in-Err-Failed-clause-ends : goal.returns-in-Err-Failed-clause-ends
returns-in-Err-Failed-clause-ends g c =
    no_frames (c.in-Err-Failed.ensures.failed (ap (λ (f : ChannelFault). Err f) c.in-Err-Failed.field-0-is)) (still_whole (writing g.O.Sink c.args.output.now c.args.output.now) (record { same = refl })) c.say.ensures.said

pub returns-in-Err-Memory-clause-ends : goal.returns-in-Err-Memory-clause-ends
returns-in-Err-Memory-clause-ends g c = no_memory_for_frames (still_whole (writing g.O.Sink c.args.output.now c.args.output.now) (record { same = refl })) c.no_memory.ensures
