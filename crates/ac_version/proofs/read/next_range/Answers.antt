use Rattle.ac_version.proofs.RangeSteps.{up_to_read, one_read, between_read, from_read}
use Rattle.ac_version.proofs.read.next_range.Goals as goal

pub returns-in-Some-clause-found : goal.returns-in-Some-clause-found
returns-in-Some-clause-found c = up_to_read _ _ _ _ c.in-Some.ensures.found c.in_ok-most.ensures.found c.in_ok-most.ensures.small

pub returns-in_default-after-clause-found : goal.returns-in_default-after-clause-found
returns-in_default-after-clause-found c =
    one_read _ _ _ c.in_ok-first.ensures.found c.in_ok-first.ensures.small c.in_default-after.ensures.found

pub returns-in-Some-next_number-clause-found : goal.returns-in-Some-next_number-clause-found
returns-in-Some-next_number-clause-found c =
    between_read _ _ _ _ _ _ c.in_ok-first.ensures.found c.in-Some-after.ensures.found c.in-Some-next_number.ensures.found c.in_ok-first.ensures.small c.in-Some-next_number.ensures.small

pub returns-in-None-clause-found : goal.returns-in-None-clause-found
returns-in-None-clause-found c =
    from_read _ _ _ _ c.in_ok-first.ensures.found c.in-Some-after.ensures.found c.in_ok-first.ensures.small c.in-None.ensures.found
