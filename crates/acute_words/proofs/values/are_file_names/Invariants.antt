use Rattle.std.proofs.Common.{◌≡◌, drop, map}
use Rattle.std.specs.List.{list_all}
use Rattle.acute_words.specs.WordValues.{is_file}
use Rattle.acute_words.proofs.values.are_file_names.Given as goal

abbrev pub invariant-loop-i : goal.invariant-loop-i
invariant-loop-i l = list_all is_file (drop l.i (map (λ s. s.now) l.texts)) ≡ list_all is_file (map (λ s. s.now) l.texts)
