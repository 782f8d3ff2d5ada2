-- The lines on errors of a text that is refused, of a program that has ended with an exception, and of one that has spent its budget.
use Rattle.std.specs.Prelude.{ℕ, [], ◌∷◌, ◌++◌, Option, Some, None, codes}
use Rattle.std.specs.Fmt.{decimal}
use Rattle.ac_types.specs.Types.{Bytes}
use Rattle.ac_types.specs.Exceptions.{exception_name}
use Rattle.ac_text.specs.Literals.{literal}
use Rattle.ac_meaning.specs.Worlds.{Exception}
use Rattle.ac_load.specs.declared.kind.Kind.{Kind}
use Rattle.acute_answers.specs.Reasons.{reason}

-- which part is refused, and why
abbrev pub refusal_line : ℕ → Kind → Bytes
refusal_line part kind = codes "acute: refused: " ++ reason part kind

-- the text of an exception, behind a space
abbrev pub text_part : Option Bytes → Bytes
text_part None = []
text_part (Some text) = 32 ∷ literal text

abbrev pub uncaught_line : Exception → Bytes
uncaught_line x = codes "uncaught: " ++ (exception_name x.number ++ (text_part x.text ++ 10 ∷ []))

-- the budget is the number of applications that were made
abbrev pub spent_line : ℕ → Bytes
spent_line budget = codes "acute: spent " ++ (decimal budget ++ 10 ∷ [])
