-- What the making of patterns rests on.
use Rattle.std.proofs.Common.{append_assoc, append-nil}
use Rattle.ac_terms.specs.declared.pat.Pat.TheViews.{the_lemmas}
use Rattle.ac_terms.proofs.PatternForms.{pattern_out, pattern_of-Tuple, pattern_of-ExnOf}
use Rattle.ac_syntax.proofs.ReadLaws.{pat_laws}

pub ruleset pat_tree_forms = (pat_laws, append_assoc, append-nil)

pub ruleset pattern_forms = (pat_laws, pattern_out, pattern_of-Tuple, pattern_of-ExnOf, the_lemmas)
