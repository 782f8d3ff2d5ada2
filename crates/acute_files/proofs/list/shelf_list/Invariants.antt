use Rattle.std.proofs.Common.{map, length}
use Rattle.acute_files.specs.ShelfLists.{listed_of}
use Rattle.acute_files.proofs.Reached.{Reached}
use Rattle.acute_files.proofs.list.shelf_list.Given as goal

abbrev pub invariant-loop-rest : goal.invariant-loop-rest
invariant-loop-rest l = Reached l.text l.rest l.number l.place (map listed_of l.entries)

abbrev pub decreases-loop-rest : goal.decreases-loop-rest
decreases-loop-rest l = length l.rest
