-- The requests that show something of a program.
use Rattle.acute_words.specs.Commands.{ProgramFiles, Request, names, code}
use Rattle.acute_answers.specs.declared.showing.Showing.{Showing}
use Rattle.acute_answers.specs.declared.showing.Showing.TheVariants.{Names, Code}

abbrev pub showing : Showing → ProgramFiles → Request
showing Names p = names p
showing Code p = code p
