use Rattle.std.proofs.Common.{◌≡◌, take, map, string_bytes}
use Rattle.ac_spawn.proofs.memory.copies.Given as goal

abbrev pub invariant-loop-word : goal.invariant-loop-word
invariant-loop-word l = map string_bytes l.all ≡ map string_bytes (take l.word-index l.words)
