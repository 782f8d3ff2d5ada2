use Rattle.std.proofs.Common.{◌≡◌, ◌-◌, ◌+◌, ◌*◌, map}
use Rattle.ac_terms.specs.Terms.{no_patterns, pattern'}
use Rattle.ac_terms.specs.Read.{pattern_of}
use Rattle.ac_decode.specs.inner.ExactTerms.{exact_pattern}
use Rattle.ac_terms.specs.PacketReading.{times}
use Rattle.ac_decode_pieces.proofs.Loops.{with_front}
use Rattle.ac_decode.proofs.patterns.+patterns.Given as goal

-- three for each level
abbrev pub decreases-take_pattern : goal.decreases-take_pattern
decreases-take_pattern g l = 3 * l.depth

abbrev pub decreases-boxed_pattern : goal.decreases-boxed_pattern
decreases-boxed_pattern g l = 3 * l.depth + 1

abbrev pub decreases-all_patterns : goal.decreases-all_patterns
decreases-all_patterns g l = 3 * l.depth + 1

abbrev pub decreases-two_patterns : goal.decreases-two_patterns
decreases-two_patterns g l = 3 * l.depth + 2

abbrev pub invariant-all_patterns-loop : goal.invariant-all_patterns-loop
invariant-all_patterns-loop g l =
    with_front pattern' (map pattern_of l.items) (times no_patterns pattern' (exact_pattern (g.T.Types.reads_type l.types) l.depth) (l.count - l.counter) l.cursor.left) ≡ times no_patterns pattern' (exact_pattern (g.T.Types.reads_type l.types) l.depth) l.count l.fn.cursor.left
