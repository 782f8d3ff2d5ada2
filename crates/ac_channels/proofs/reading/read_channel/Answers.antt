use Rattle.std.proofs.Common.{rules, ◌≡◌, ◌∙◌, ◌+◌, ◌-◌, ◌≤◌, ap, sym, subst, ℕ, suc, length, [], ◌∷◌, MatchOption, Option, length-append, arith}
use Rattle.std.proofs.lemmas.Result.{err_from_is_err_and}
use Rattle.ac_types.specs.Types.{Bytes}
use Rattle.ac_types.specs.declared.text.Text.{Text}
use Rattle.ac_outside.specs.Frames.{Whole, AtEnd, next_frame}
use Rattle.ac_channels.specs.ChannelFrames.{BadFrame, most_frames}
use Rattle.ac_channels.proofs.ReadingLaws.{HasRead, read_none, room_for_one, all_there, error_alone, its_number, read_bad, read_full, read_past, read_more, read_all}
use Rattle.ac_channels.proofs.reading.read_channel.Goals as goal
use Rattle.ac_channels.proofs.reading.read_channel.Goals.{then-len-eq-MOST_FRAMES-via-then-len-eq-MOST_FRAMES, then-len-eq-MOST_FRAMES-via-else-len-eq-MOST_FRAMES+then-size-room}

pub loop-texts-init : goal.loop-texts-init
loop-texts-init g c = record {
  few = let n = ap length c.new-texts.ensures in omega (arith, n);
  read = λ told. read_none (g.S.Source.left c.args.source.now) c.new-texts.result c.new-texts.ensures;
  later = omega arith;
  passes = search rules;
}

pub returns-in_err-text-clause-refused : goal.returns-in_err-text-clause-refused
returns-in_err-text-clause-refused g c =
    let p = err_from_is_err_and c.from_residual.result c.from_residual.ensures.1 in
    rw (p.1, p.2) (λ told k e.
    read_bad (g.S.Source.left c.args.source.now) (g.S.Source.left c.loop-texts.source) c.loop-texts.texts c.loop-texts.room _ (c.loop-texts.invariant.read told) (c.in_err-text.ensures.bad told k (error_alone e))
    ∙ ap BadFrame (sym (c.in_err-text.ensures.number k (error_alone e) ∙ ap (λ (n : ℕ). n + 1) c.len.ensures)))

pub returns-then-len-eq-MOST_FRAMES-clause-refused :
    goal.returns-then-len-eq-MOST_FRAMES-clause-refused
returns-then-len-eq-MOST_FRAMES-clause-refused g c told k e =
    let left : Bytes = g.S.Source.left c.loop-texts.source in
    let rest : Bytes = g.S.Source.left c.next.new.source in
    let whole : next_frame left ≡ Whole c.in-Some.text.0 rest = subst (λ (o : Option Text). MatchOption o (next_frame left ≡ AtEnd) (λ text. next_frame left ≡ Whole text.0 rest)) c.in-Some.is (c.in_ok-text.ensures.string told) in
    let read = c.loop-texts.invariant.read told in
    let number : k ≡ length c.loop-texts.texts + 1 = its_number _ _ e ∙ ap (λ (n : ℕ). n + 1) c.len-then-len-eq-MOST_FRAMES.ensures in
    rw number (elim c.then-len-eq-MOST_FRAMES.branch [
      | then-len-eq-MOST_FRAMES-via-then-len-eq-MOST_FRAMES w ↦ read_full _ _ c.loop-texts.texts c.loop-texts.room _ read (all_there c.loop-texts.texts (sym c.len-in-Some.ensures ∙ w.if-len-eq-MOST_FRAMES.true)) c.in-Some.text.0 rest whole
      | then-len-eq-MOST_FRAMES-via-else-len-eq-MOST_FRAMES+then-size-room w ↦ read_past _ _ c.loop-texts.texts c.loop-texts.room _ read c.in-Some.text.0 rest whole (let n = ap length c.as_slice.ensures in omega (arith, n, w.if-size-room.true))
    ])

pub loop-texts-preserved : goal.loop-texts-preserved
loop-texts-preserved g c =
    let start : Bytes = g.S.Source.left c.args.source.now in
    let left : Bytes = g.S.Source.left c.loop-texts.source in
    let rest : Bytes = g.S.Source.left c.next.new.source in
    let few : length c.push.new.self ≤ most_frames = room_for_one c.loop-texts.texts c.push.new.self c.in-Some.text c.in_ok-push.ensures.ok c.loop-texts.invariant.few (λ e. c.if-len-eq-MOST_FRAMES.false (c.len-in-Some.ensures ∙ e)) in
    record {
      few = few;
      read = λ told.
          let whole : next_frame left ≡ Whole c.in-Some.text.0 rest = subst (λ (o : Option Text). MatchOption o (next_frame left ≡ AtEnd) (λ text. next_frame left ≡ Whole text.0 rest)) c.in-Some.is (c.in_ok-text.ensures.string told) in
          let count : length c.push.new.self ≡ length c.loop-texts.texts + 1 = ap length c.in_ok-push.ensures.ok ∙ length-append c.loop-texts.texts (c.in-Some.text ∷ []) in
          let more : most_frames - length c.loop-texts.texts ≡ suc (most_frames - length c.push.new.self) = omega (arith, few, count) in
          read_more start left c.loop-texts.texts c.loop-texts.room (most_frames - length c.push.new.self) (subst (λ (n : ℕ). HasRead start left c.loop-texts.texts n c.loop-texts.room) more (c.loop-texts.invariant.read told)) c.in-Some.text rest whole (let n : length c.as_slice.result.now ≡ length c.in-Some.text.0 = ap length c.as_slice.ensures in omega (arith, n, c.if-size-room.false)) c.push.new.self c.in_ok-push.ensures.ok _ (ap (λ (s : Bytes). c.loop-texts.room - (4 + length s)) c.as_slice.ensures);
      later = omega (arith, c.loop-texts.invariant.later, c.in_ok-text.ensures.later);
      passes = search rules;
    }

pub returns-clause-whole : goal.returns-clause-whole
returns-clause-whole g c told =
    read_all (g.S.Source.left c.args.source.now) (g.S.Source.left c.loop-texts.source) c.loop-texts.texts c.loop-texts.room _ (c.loop-texts.invariant.read told) (subst (λ (o : Option Text). MatchOption o (next_frame (g.S.Source.left c.loop-texts.source) ≡ AtEnd) (λ text. next_frame (g.S.Source.left c.loop-texts.source) ≡ Whole text.0 (g.S.Source.left c.next.new.source))) c.in_default.is (c.in_ok-text.ensures.string told))
