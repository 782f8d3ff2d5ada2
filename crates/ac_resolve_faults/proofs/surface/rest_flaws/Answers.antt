use Rattle.std.proofs.Common.{◌≡◌, ◌∙◌, ap, sym, refl, arith, length, map, List, Option}
use Rattle.std.specs.Prelude.{option_map}
use Rattle.ac_types.specs.Types.{Bytes}
use Rattle.ac_syntax.specs.declared.surface.SDef.{SDef}
use Rattle.ac_syntax.specs.declared.surface.SExpr.{SExpr}
use Rattle.ac_syntax.specs.ReadTrees.{tree_of, def_tree_of}
use Rattle.ac_resolve_signatures.specs.declared.flaws.Flaws.{Flaws}
use Rattle.ac_resolve_signatures.specs.Joined.{flaws_joined}
use Rattle.ac_resolve_signatures.specs.KnownScopes.{Members}
use Rattle.ac_resolve_faults.specs.inner.DefFlaws.{def_flaws, past_def}
use Rattle.ac_resolve_faults.specs.inner.SurfaceFlaws.{rest_flaws}
use Rattle.ac_resolve_signatures.specs.Reads.{externals_of}
use Rattle.ac_types.proofs.Loops.{drop_end}
use Rattle.ac_resolve_signatures.proofs.Leasts.{next_item}
use Rattle.ac_resolve_faults.proofs.surface.rest_flaws.Goals as goal

abbrev of_all : Option SExpr → (Bytes → Option Members) → List SDef → Flaws
of_all e outer ds = rest_flaws outer (map def_tree_of ds) (option_map tree_of e)

pub loop-def-preserved : goal.loop-def-preserved
loop-def-preserved c =
    next_item (of_all c.args.expr.now) (λ outer d. def_flaws outer (def_tree_of d)) (λ outer d. past_def outer (def_tree_of d)) (λ outer d ds. refl) externals_of c.loop-def.externals c.def_flaws.new.externals _ c.loop-def.found _ _ _ _ _ c.loop-def-test.true c.def-item.is c.loop-def.invariant c.in_ok-here.ensures.flaws c.in_ok-here.ensures.externals c.join-found.ensures

pub returns : goal.returns
returns c =
    let e : c.loop-def.def-index ≡ length c.args.defs.now = omega arith in
    c.join.ensures ∙ ap (flaws_joined c.loop-def.found) c.in_ok-main.ensures
    ∙ sym (c.loop-def.invariant ∙ ap (λ ds. flaws_joined c.loop-def.found (of_all c.args.expr.now (externals_of c.loop-def.externals) ds)) (drop_end _ _ e))
