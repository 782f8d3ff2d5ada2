use Rattle.std.proofs.Common.{◌∷◌, [], List, map, sym, ap, subst, ◌∙◌, arith}
use Rattle.std.proofs.lemmas.List.{map-append}
use Rattle.std.proofs.lemmas.Result.{err_from_is_err_and}
use Rattle.ac_syntax.specs.Trees.{SpecTree}
use Rattle.ac_syntax.specs.ReadSigns.{read_signs}
use Rattle.ac_syntax.specs.ReadTrees.{spec_of}
use Rattle.ac_syntax.proofs.OnStop.{on_syntax_more, refused}
use Rattle.ac_syntax.proofs.SigSteps.{SigSoFar, unbegun_none, sig_begun, next_spec, sig_none, sig_ended}
use Rattle.ac_syntax.proofs.sigs.sig.Goals as goal

pub returns-in_default-clause-none : goal.returns-in_default-clause-none
returns-in_default-clause-none c = refused _ _ c.refused_at.ensures (unbegun_none _ c.in_default.ensures.found)

pub loop-end-init : goal.loop-end-init
loop-end-init c = record {
  so_far = subst (λ (l : List SpecTree). SigSoFar (read_signs c.args.signs.now) l (read_signs c.in-Some.behind.now)) (sym (ap (map spec_of) c.new-specs.ensures)) (sig_begun _ _ c.in-Some.ensures.found);
  shorter = c.in-Some.ensures.shorter;
}

pub returns-in-Some-after-clause-sig : goal.returns-in-Some-after-clause-sig
returns-in-Some-after-clause-sig c = sig_ended _ _ _ c.loop-end.invariant.so_far _ _ c.in-Some-after.ensures.found c.here-at.ensures

pub returns-in-Some-after-clause-shorter : goal.returns-in-Some-after-clause-shorter
returns-in-Some-after-clause-shorter c = omega (arith, c.loop-end.invariant.shorter, c.in-Some-after.ensures.shorter)

pub returns-in_err-next-clause-none : goal.returns-in_err-next-clause-none
returns-in_err-next-clause-none c =
    let p = err_from_is_err_and c.from_residual.result c.from_residual.ensures.1 in
    rw (p.1, p.2) (on_syntax_more _ (λ none. sig_none _ _ _ c.loop-end.invariant.so_far (none c.in_default-after.ensures.found)) c.in_err-next.ensures.none)

pub loop-end-preserved : goal.loop-end-preserved
loop-end-preserved c =
    let specs = ap (map spec_of) c.in_ok-push.ensures.ok ∙ map-append spec_of c.loop-end.specs (c.in_ok-next.next ∷ []) in
    let next = next_spec _ _ _ c.loop-end.invariant.so_far _ _ c.in_ok-next.ensures.spec in
    record {
      so_far = subst (λ (l : List SpecTree). SigSoFar (read_signs c.args.signs.now) l (read_signs c.in_ok-next.later.now)) (sym specs) next;
      shorter = omega (arith, c.loop-end.invariant.shorter, c.in_ok-next.ensures.shorter);
    }
