use Rattle.std.proofs.Common.{◌≡◌, ◌++◌, Some}
use Rattle.ac_audit.specs.inner.Pieces.{joined}
use Rattle.ac_audit.proofs.pieces.joined.Given as goal

abbrev pub invariant-loop-piece : goal.invariant-loop-piece
invariant-loop-piece l = record {
  all : l.fn.pieces.items ≡ l.yielded ++ l.piece-iterator.rest.items;
  read : joined l.yielded ≡ Some l.all.items;
}
