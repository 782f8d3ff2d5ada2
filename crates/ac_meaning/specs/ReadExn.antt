-- Exceptions of the code as those of the reduction.
use Rattle.ac_types.specs.ReadNumbers.{exn_number, exn_text}
use Rattle.ac_types.specs.declared.exceptions.Exn.{Exn}
use Rattle.ac_meaning.specs.Worlds.{Exception, exception}

abbrev pub exn_of : Exn → Exception
exn_of e = exception (exn_number e) (exn_text e)
