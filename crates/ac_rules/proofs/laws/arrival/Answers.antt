use Rattle.ac_rules.proofs.Arrival.{arrival}
use Rattle.ac_rules.proofs.RoundTrip.{arrived_packable}
use Rattle.ac_rules.proofs.laws.arrival.Goals as goal

pub returns-clause-coherent : goal.returns-clause-coherent
returns-clause-coherent c = λ E p T F v coherent fits accepts. (arrival E p T F v coherent fits accepts).coherent

pub returns-clause-longer : goal.returns-clause-longer
returns-clause-longer c = λ E p T F v coherent fits accepts. let h = arrival E p T F v coherent fits accepts in (h.more, h.longer, h.arrived, h.no_marks)

pub returns-clause-value : goal.returns-clause-value
returns-clause-value c = λ E p T F v coherent fits accepts. (arrival E p T F v coherent fits accepts).value_holds

pub returns-clause-packable : goal.returns-clause-packable
returns-clause-packable c = λ E p T F v coherent fits accepts. let h = arrival E p T F v coherent fits accepts in (arrived_packable E p T F v h, h.nests_little)
