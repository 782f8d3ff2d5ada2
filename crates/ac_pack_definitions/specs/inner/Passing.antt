-- The definitions of a packet, entry by entry.
use Rattle.std.specs.Prelude.{ℕ, suc, Bool, true, List, [], ◌∷◌, Some, None, slice_get, slice_set}
use Rattle.ac_terms.specs.Defs.{Environment}
use Rattle.ac_terms.specs.Bounds.{nests_little}
use Rattle.ac_rules.specs.Needed.{packet_form}

-- whether the form of entry i nests little
abbrev pub nests_at : Environment → ℕ → ℕ → Bool
nests_at E mark i = elim (slice_get E i) [ None ↦ true | Some e ↦ nests_little (packet_form mark i e) ]

-- numbers, with its place put at each number of a list that begins at place i
abbrev pub numbered : List ℕ → ℕ → List ℕ → List ℕ
numbered ns i [] = ns
numbered ns i (k ∷ ks) = slice_set (numbered ns (suc i) ks) k i
