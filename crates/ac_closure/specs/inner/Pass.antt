-- One pass over the entries, from the last to the first.
use Rattle.std.specs.Prelude.{ℕ, zero, suc, Bool, true, false, List, [], ◌∷◌, ◌++◌, Option, Some, None, slice_get, slice_index_or}
use Rattle.ac_types.specs.Types.{Bytes}
use Rattle.ac_terms.specs.Defs.{Environment}
use Rattle.ac_terms.specs.Parts.{def_parts}
use Rattle.ac_rules.specs.Needed.{packet_form}
use Rattle.ac_closure.specs.inner.Chosen.{with_parts}

module _ (find : Bytes → Option ℕ) (E : Environment) (mark : ℕ) where
  -- with what the packet form of entry k speaks of
  abbrev pub with_form : List Bool → ℕ → List Bool
  with_form set k = elim (slice_get E k) [ None ↦ set | Some e ↦ with_parts find set (def_parts (packet_form mark k e)) ]

  -- the entries of a set below entry k, where each adds what it speaks of
  abbrev pub chosen_below : ℕ → List Bool → List ℕ
  chosen_below zero set = []
  chosen_below (suc k) set =
      elim (slice_index_or set k false) [
        | true ↦ chosen_below k (with_form set k) ++ k ∷ []
        | false ↦ chosen_below k set
      ]
