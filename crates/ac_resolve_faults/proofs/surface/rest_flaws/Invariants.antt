use Rattle.std.proofs.Common.{◌≡◌, map, drop}
use Rattle.std.specs.Prelude.{option_map}
use Rattle.ac_syntax.specs.ReadTrees.{tree_of, def_tree_of}
use Rattle.ac_resolve_signatures.specs.Joined.{flaws_joined}
use Rattle.ac_resolve_faults.specs.inner.SurfaceFlaws.{rest_flaws}
use Rattle.ac_resolve_signatures.specs.Reads.{externals_of}
use Rattle.ac_resolve_faults.proofs.surface.rest_flaws.Given as goal

abbrev pub invariant-loop-def : goal.invariant-loop-def
invariant-loop-def l =
    rest_flaws (externals_of l.fn.front) (map def_tree_of l.defs) (option_map tree_of l.expr) ≡ flaws_joined l.found (rest_flaws (externals_of l.externals) (map def_tree_of (drop l.def-index l.defs)) (option_map tree_of l.expr))
