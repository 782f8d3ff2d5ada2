use Rattle.std.proofs.Common.{◌≡◌, drop, map, string_bytes}
use Rattle.std.specs.List.{list_all}
use Rattle.acute_words.specs.Form.{is_fit}
use Rattle.acute_words.proofs.words.are_fit.Given as goal

abbrev pub invariant-loop-i : goal.invariant-loop-i
invariant-loop-i l = list_all is_fit (drop l.i (map string_bytes l.words)) ≡ list_all is_fit (drop 1 (map string_bytes l.words))
