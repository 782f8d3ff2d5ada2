-- How many patterns a list of them has, and what the writing of patterns rests on.
use Rattle.std.proofs.Common.{◌≡◌, ap, refl, suc, List, [], ◌∷◌, map, length}
use Rattle.ac_terms.specs.declared.pat.Pat.{Pat}
use Rattle.ac_terms.specs.Terms.{patterns}
use Rattle.ac_terms.specs.Read.{pattern_of}
use Rattle.ac_terms.specs.Spelling.{pattern_count}
use Rattle.ac_terms.proofs.PatternForms.{pattern_forms}
use Rattle.ac_canon.proofs.Joins.{joins}

pub count_patterns : (ps : List Pat) → pattern_count (patterns (map pattern_of ps)) ≡ length ps
count_patterns [] = refl
count_patterns (p ∷ ps) = ap suc (count_patterns ps)

pub ruleset pattern_laws = (pattern_forms, count_patterns, joins)
