use Rattle.std.proofs.Common.{List, [], ◌∷◌, ◌++◌, None, map, sym, ap, subst, ◌∙◌}
use Rattle.std.proofs.lemmas.List.{map-append}
use Rattle.ac_syntax.specs.Trees.{DefTree}
use Rattle.ac_syntax.specs.Programs.{IsModule}
use Rattle.ac_syntax.specs.ReadSigns.{read_signs}
use Rattle.ac_syntax.specs.ReadTrees.{def_tree_of}
use Rattle.std.proofs.lemmas.Result.{err_from_is_err_and}
use Rattle.ac_syntax.proofs.OnStop.{on_syntax_more, refused}
use Rattle.ac_syntax.specs.declared.sign.Symbol.TheVariants as symbol
use Rattle.ac_parser.proofs.ProgramSteps.{begins_with, no_module_word, no_module_tree, module_and_more, module_tree}
use Rattle.ac_parser.proofs.programs.module_alone.Goals as goal

pub returns-in_default : goal.returns-in_default
returns-in_default c = refused _ _ c.refused_at.ensures (no_module_word _ c.in_default.ensures.found)

pub returns-in_err-def : goal.returns-in_err-def
returns-in_err-def c =
    let p = err_from_is_err_and c.from_residual.result c.from_residual.ensures.1 in
    rw (p.1, p.2) (on_syntax_more _ (no_module_tree _ _ _ (begins_with symbol.Module _ _ _ c.in-Some.ensures.found c.here.ensures)) c.in_err-def.ensures)

pub returns-in_err-def-2 : goal.returns-in_err-def-2
returns-in_err-def-2 c =
    let p = err_from_is_err_and c.from_residual-in_err-def-2.result c.from_residual-in_err-def-2.ensures.1 in
    rw (p.1, p.2) (on_syntax_more _ (module_and_more _ _ _ (begins_with symbol.Module _ _ _ c.in-Some.ensures.found c.here.ensures) _ _ c.in_ok-def.ensures.found) c.in_err-def-2.ensures)

pub returns : goal.returns
returns c =
    let defs = ap (map def_tree_of) c.in_ok-push.ensures.ok ∙ map-append def_tree_of c.new-defs.result (c.in_ok-def-2.def ∷ []) ∙ ap (λ l. map def_tree_of l ++ def_tree_of c.in_ok-def-2.def ∷ []) c.new-defs.ensures ∙ ap (λ d. def_tree_of d ∷ []) c.in_ok-def-2.ensures.0 in
    subst (λ (l : List DefTree). IsModule (read_signs c.args.signs.now) (record { defs = l; expr = None })) (sym defs)
    (module_tree _ _ _ (begins_with symbol.Module _ _ _ c.in-Some.ensures.found c.here.ensures) _ _ c.in_ok-def.ensures.found c.in_ok-def-2.ensures.1)
