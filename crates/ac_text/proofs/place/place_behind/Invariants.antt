use Rattle.std.proofs.Common.{◌≡◌, ◌≤◌, ◌+◌, drop}
use Rattle.ac_text.specs.Places.{feeds, since_feed}
use Rattle.ac_text.proofs.place.place_behind.Given as goal

abbrev pub invariant-loop-byte : goal.invariant-loop-byte
invariant-loop-byte l = record {
  few : l.feeds ≤ l.byte-index;
  near : l.since ≤ l.byte-index;
  lines : l.feeds + feeds (drop l.byte-index l.bytes) ≡ feeds l.bytes;
  columns : since_feed l.since (drop l.byte-index l.bytes) ≡ since_feed 0 l.bytes;
}
