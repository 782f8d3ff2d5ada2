-- The test of what a definition speaks of.
use Rattle.std.specs.Prelude.{ℕ, Bool, true, false, ◌&&◌, nat_lt, is_some, take}
use Rattle.std.specs.List.{list_all}
use Rattle.ac_types.specs.Types.{mentions, is_small}
use Rattle.ac_terms.specs.Defs.{Environment, signature_at}
use Rattle.ac_terms.specs.Parts.{Portion, OfType, OfRef, OfHome, Captured}
use Rattle.ac_rules.specs.Views.{is_known}

-- a part of definition i: a type is small and mentions earlier definitions, a reference goes to an earlier one that has a signature, and no captured value is there
abbrev pub passes_back : Environment → ℕ → Portion → Bool
passes_back E i (OfType T) = is_small T && list_all (is_known (take i E)) (mentions T)
passes_back E i (OfRef j x) = nat_lt j i && is_some (signature_at E j)
passes_back E i (OfHome c) = true
passes_back E i Captured = false
