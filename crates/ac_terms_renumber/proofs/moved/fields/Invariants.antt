use Rattle.std.proofs.Common.{◌≡◌, map, take}
use Rattle.ac_terms.specs.Read.{field_of}
use Rattle.ac_terms_renumber.proofs.MadeLaws.{field_made}
use Rattle.ac_terms_renumber.specs.Numbers.{number_for}
use Rattle.ac_terms_renumber.proofs.moved.fields.Given as goal

abbrev pub invariant-loop-one : goal.invariant-loop-one
invariant-loop-one l = map field_of l.found ≡ map (field_made (number_for l.numbers)) (take l.one-index l.all)
