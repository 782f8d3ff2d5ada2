use Rattle.ac_round_trip.proofs.WhatIsRead.{brings_copy, one_text, first_order}
use Rattle.ac_round_trip.proofs.Later.{grows_later}
use Rattle.ac_round_trip.proofs.laws.copy_is_read.Goals as goal

pub returns-clause-copied : goal.returns-clause-copied
returns-clause-copied c = brings_copy

pub returns-clause-later : goal.returns-clause-later
returns-clause-later c = grows_later

pub returns-clause-one_text : goal.returns-clause-one_text
returns-clause-one_text c = one_text

pub returns-clause-first_order : goal.returns-clause-first_order
returns-clause-first_order c = first_order
