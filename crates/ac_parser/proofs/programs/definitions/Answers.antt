use Rattle.std.proofs.Common.{◌∷◌, ◌++◌, [], List, map, sym, ap, subst, ◌∙◌, arith}
use Rattle.std.proofs.lemmas.List.{map-append}
use Rattle.std.proofs.lemmas.Result.{err_from_is_err_and}
use Rattle.ac_syntax.specs.Trees.{DefTree}
use Rattle.ac_syntax.specs.ReadSigns.{read_signs}
use Rattle.ac_syntax.specs.ReadTrees.{def_tree_of}
use Rattle.ac_syntax.proofs.OnStop.{on_syntax_more}
use Rattle.ac_parser.specs.inner.ProgramParsing.{DefsSoFar}
use Rattle.ac_parser.proofs.ProgramSteps.{no_defs_yet, next_def, stuck, end_at, so_far_at}
use Rattle.ac_parser.proofs.programs.definitions.Goals as goal

pub returns-in_err-first : goal.returns-in_err-first
returns-in_err-first c =
    let p = err_from_is_err_and c.from_residual.result c.from_residual.ensures.1 in
    rw (p.1, p.2) (on_syntax_more _ (stuck _ _ _ (no_defs_yet _)) c.in_err-first.ensures)

pub returns-in_default : goal.returns-in_default
returns-in_default c =
    let d = rw c.in_default.is at c.in_ok-first.ensures in
    record {
      defs = subst (λ (l : List DefTree). DefsSoFar (read_signs c.args.signs.now) l (read_signs c.in_ok-first.rest.now)) (sym (ap (map def_tree_of) c.new-defs.ensures)) (so_far_at _ _ _ _ d.0 (no_defs_yet _));
      end = end_at _ _ d.0 d.1;
    }

pub loop-defs-init : goal.loop-defs-init
loop-defs-init c =
    let defs = ap (map def_tree_of) c.in_ok-push.ensures.ok ∙ map-append def_tree_of c.new-defs.result (c.in-Some.def ∷ []) ∙ ap (λ l. map def_tree_of l ++ def_tree_of c.in-Some.def ∷ []) c.new-defs.ensures in
    subst (λ (l : List DefTree). DefsSoFar (read_signs c.args.signs.now) l (read_signs c.in_ok-first.rest.now)) (sym defs)
    (next_def _ _ _ (no_defs_yet _) _ _ (rw c.in-Some.is at c.in_ok-first.ensures).found)

pub returns-in_err-next : goal.returns-in_err-next
returns-in_err-next c =
    let p = err_from_is_err_and c.from_residual-in_err-next.result c.from_residual-in_err-next.ensures.1 in
    rw (p.1, p.2) (on_syntax_more _ (stuck _ _ _ c.loop-defs.invariant) c.in_err-next.ensures)

pub loop-defs-preserved : goal.loop-defs-preserved
loop-defs-preserved c =
    let defs = ap (map def_tree_of) c.in_ok-push-2.ensures.ok ∙ map-append def_tree_of c.loop-defs.defs (c.in-Some-next.def ∷ []) in
    subst (λ (l : List DefTree). DefsSoFar (read_signs c.args.signs.now) l (read_signs c.in_ok-next.later.now)) (sym defs)
    (next_def _ _ _ c.loop-defs.invariant _ _ (rw c.in-Some-next.is at c.in_ok-next.ensures).found)

pub returns-in_default-next : goal.returns-in_default-next
returns-in_default-next c =
    let d = rw c.in_default-next.is at c.in_ok-next.ensures in
    record { defs = so_far_at _ _ _ _ d.0 c.loop-defs.invariant; end = end_at _ _ d.0 d.1 }
