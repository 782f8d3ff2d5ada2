use Rattle.ac_terms.specs.Read.{environment_of}
use Rattle.ac_link.specs.Fronts.{IsFront}
use Rattle.ac_link.proofs.arrived.front.Given as goal

abbrev pub invariant-loop-front : goal.invariant-loop-front
invariant-loop-front l = IsFront (environment_of l.env) l.front

abbrev pub decreases-loop-front : goal.decreases-loop-front
decreases-loop-front l = l.front
