use Rattle.std.proofs.Common.{◌∙◌, ◌++◌, ◌∷◌, [], sym, ap, subst, append_assoc, arith}
use Rattle.ac_types.specs.Types.{Bytes}
use Rattle.ac_terms.specs.Read.{environment_of, expr_of}
use Rattle.ac_chain.specs.ChainTexts.{programs_of}
use Rattle.ac_chain.specs.inner.Running.{HasRunOn, HasStoppedOn, last_sent}
use Rattle.ac_chain.proofs.Lists.{empty_is}
use Rattle.ac_chain.proofs.MadeLaws.{has_none}
use Rattle.ac_chain.proofs.ChainLaws.{SoFar, none_yet, next_run, next_loaded, stops_at, stops_behind, runs_all, on_err}
use Rattle.ac_chain.proofs.chains.run_all.Goals as goal

pub loop-program-init : goal.loop-program-init
loop-program-init g c = record {
  so_far = λ mode.
      subst (λ parts. SoFar mode c.args.steps g.C.Sink.told [] parts c.new-made.result (g.C.Sink.written c.args.console.now) (g.C.Sink.written c.args.console.now)) (sym c.new-parts.ensures)
      (none_yet mode c.args.steps g.C.Sink.told c.new-made.result (g.C.Sink.written c.args.console.now) (has_none c.new-made.result c.new-made.ensures.empty));
  all = sym (c.into_iter-program-iterator.ensures.into_iter_gives.0 ∙ c.into_vec-program-items.ensures);
  later = omega arith;
}

pub run_program-requires : goal.run_program-requires
run_program-requires g c =
    next_loaded c.args.programs c.loop-program.yielded c.in-Some.program c.next.new.self.rest.items (c.loop-program.invariant.all ∙ ap (λ xs. c.loop-program.yielded ++ xs) c.in-Some.ensures.steps.0) c.requires

pub returns-in_err-part-clause-stopped : goal.returns-in_err-part-clause-stopped
returns-in_err-part-clause-stopped g c =
    let all = c.loop-program.invariant.all ∙ ap (λ xs. c.loop-program.yielded ++ xs) c.in-Some.ensures.steps.0 in
    on_err c.from_residual.result _ (λ mode.
    stops_at mode c.args.steps g.C.Sink.told c.args.programs c.loop-program.yielded c.in-Some.program c.next.new.self.rest.items c.loop-program.parts c.loop-program.made _ _ _ all c.requires (c.loop-program.invariant.so_far mode)
    (subst (λ (left : Bytes). HasStoppedOn mode c.args.steps g.C.Sink.told (environment_of c.in-Some.program.env, expr_of c.in-Some.program.main) left (g.C.Sink.written c.loop-program.console) (g.C.Sink.written c.run_program.new.console)) (c.last_sent-input.ensures ∙ ap (last_sent []) c.as_slice.ensures)
    (c.in_err-part.ensures.stopped mode)))

pub loop-program-preserved : goal.loop-program-preserved
loop-program-preserved g c = record {
  so_far = λ mode.
      subst (λ parts. SoFar mode c.args.steps g.C.Sink.told (programs_of (c.loop-program.yielded ++ c.in-Some.program ∷ [])) parts c.run_program.new.made (g.C.Sink.written c.args.console.now) (g.C.Sink.written c.run_program.new.console)) (sym c.in_ok-push.ensures.ok)
      (next_run mode c.args.steps g.C.Sink.told c.loop-program.yielded c.in-Some.program c.loop-program.parts c.in_ok-part.part c.loop-program.made c.run_program.new.made _ _ _ (c.loop-program.invariant.so_far mode)
      (subst (λ (left : Bytes). HasRunOn mode c.args.steps g.C.Sink.told (environment_of c.in-Some.program.env, expr_of c.in-Some.program.main) left c.in_ok-part.part c.loop-program.made c.run_program.new.made (g.C.Sink.written c.loop-program.console) (g.C.Sink.written c.run_program.new.console)) (c.last_sent-input.ensures ∙ ap (last_sent []) c.as_slice.ensures)
      (c.in_ok-part.ensures.ran mode)));
  all = c.loop-program.invariant.all ∙ ap (λ xs. c.loop-program.yielded ++ xs) c.in-Some.ensures.steps.0 ∙ sym (append_assoc c.loop-program.yielded (c.in-Some.program ∷ []) c.next.new.self.rest.items);
  later = let before = c.loop-program.invariant.later in let now = c.in_ok-part.ensures.later in omega (arith, before, now);
}

pub returns-in_err-push-clause-stopped : goal.returns-in_err-push-clause-stopped
returns-in_err-push-clause-stopped g c =
    let all = c.loop-program.invariant.all ∙ ap (λ xs. c.loop-program.yielded ++ xs) c.in-Some.ensures.steps.0 ∙ sym (append_assoc c.loop-program.yielded (c.in-Some.program ∷ []) c.next.new.self.rest.items) in
    on_err c.from_residual-in_err-push.result _ (λ mode.
    stops_behind mode c.args.steps g.C.Sink.told c.args.programs (c.loop-program.yielded ++ c.in-Some.program ∷ []) c.next.new.self.rest.items (c.loop-program.parts ++ c.in_ok-part.part ∷ []) c.run_program.new.made _ _ all c.requires
    (next_run mode c.args.steps g.C.Sink.told c.loop-program.yielded c.in-Some.program c.loop-program.parts c.in_ok-part.part c.loop-program.made c.run_program.new.made _ _ _ (c.loop-program.invariant.so_far mode)
    (subst (λ (left : Bytes). HasRunOn mode c.args.steps g.C.Sink.told (environment_of c.in-Some.program.env, expr_of c.in-Some.program.main) left c.in_ok-part.part c.loop-program.made c.run_program.new.made (g.C.Sink.written c.loop-program.console) (g.C.Sink.written c.run_program.new.console)) (c.last_sent-input.ensures ∙ ap (last_sent []) c.as_slice.ensures)
    (c.in_ok-part.ensures.ran mode))))

pub returns-clause-ran : goal.returns-clause-ran
returns-clause-ran g c = λ mode.
    runs_all mode c.args.steps g.C.Sink.told c.args.programs c.loop-program.yielded c.loop-program.program-iterator.rest.items c.loop-program.parts c.loop-program.made _ _ c.loop-program.invariant.all (empty_is c.loop-program.program-iterator.rest.items (sym c.loop-program.program-iterator.rest.ok.0 ∙ c.in-None.ensures.steps.0)) (c.loop-program.invariant.so_far mode)
