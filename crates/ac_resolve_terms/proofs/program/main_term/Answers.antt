use Rattle.std.proofs.Common.{ap}
use Rattle.std.specs.Prelude.{option_map}
use Rattle.ac_syntax.specs.ReadTrees.{tree_of}
use Rattle.ac_resolve_terms.proofs.Surfaced.{main_uncrowded}
use Rattle.ac_resolve_terms.proofs.program.main_term.Goals as goal

pub outer_term-requires : goal.outer_term-requires
outer_term-requires c = main_uncrowded _ _ _ _ c.outer-outer.ensures.scope (ap (option_map tree_of) c.in-Some.is) c.requires
