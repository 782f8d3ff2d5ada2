-- Lines, computed.
use Rattle.std.proofs.Common.{◌≡◌, refl}
use Rattle.std.specs.Fmt.{digits}
use Rattle.std.specs.Prelude.{[], ◌∷◌, ◌++◌, Some, None, codes}
use Rattle.ac_types.specs.Exceptions as exceptions
use Rattle.ac_meaning.specs.Worlds.{exception}
use Rattle.acute_answers.specs.Lines.{uncaught_line, spent_line}

pub without_a_text : uncaught_line (exception exceptions.match_failure None) ≡ codes "uncaught: Match_failure" ++ 10 ∷ []
without_a_text = refl

pub with_a_text : uncaught_line (exception exceptions.invalid_argument (Some (codes "string"))) ≡ codes "uncaught: Invalid_argument \"string\"" ++ 10 ∷ []
with_a_text = refl

pub a_budget : spent_line 999 ≡ codes "acute: spent 999" ++ 10 ∷ []
unfolding digits
a_budget = refl
