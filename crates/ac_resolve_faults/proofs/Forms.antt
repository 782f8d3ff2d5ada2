-- The equations of the readings, as the proofs of this crate use them.
use Rattle.std.proofs.Common.{◌≡◌, List, [], ◌∷◌, map, append_assoc, append-nil}
use Rattle.std.specs.Prelude.{flat_map}
use Rattle.std.proofs.lemmas.List.Concat.{flat_map_single}
use Rattle.ac_syntax.specs.Trees.{AbbrevTree}
use Rattle.ac_syntax.proofs.ReadLaws.{pat_laws, expr_laws}
use Rattle.ac_resolve_signatures.proofs.Counted.{pat_count_of, tree_count_of, arm_count_of}
use Rattle.ac_resolve_faults.specs.inner.DefFlaws.{abbrev_name}
use Rattle.ac_resolve_faults.proofs.Scoping.{scope_laws}

pub ruleset pat_forms = (pat_laws, pat_count_of, append_assoc, append-nil)

pub ruleset flaw_forms = (expr_laws, tree_count_of, arm_count_of)

pub ruleset arm_forms = (scope_laws, expr_laws)

-- the names of a likespec, one of each item
pub like_names : (like : List AbbrevTree) → flat_map (λ a. abbrev_name a ∷ []) like ≡ map abbrev_name like
like_names = flat_map_single abbrev_name
