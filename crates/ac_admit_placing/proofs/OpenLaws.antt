-- A test of all references, and that none of them goes to an import without a link.
use Rattle.std.proofs.Common.{◌≡◌, refl, ℕ, Bool, true, false, ◌&&◌, ◌||◌, not, List, [], ◌∷◌, map}
use Rattle.std.specs.Prelude.{slice_get, option_map}
use Rattle.std.specs.List.{list_all, list_any}
use Rattle.ac_terms.specs.Parts.{Portion, OfType, OfRef, OfHome, Captured, part_refs}
use Rattle.ac_rules.specs.Packets.{Place, is_unresolved}
use Rattle.ac_terms.proofs.EnvLaws.{slice_get-map}
use Rattle.ac_admit_placing.specs.declared.places.Place as code
use Rattle.ac_admit_placing.specs.inner.Open.{place_of, passes_resolved}

either : (a b c : Bool) → c ≡ not b → (not a && c) ≡ not (a || b)
either true b c e = refl
either false b c e = e

pub all_resolved : (ps : List Place) (xs : List Portion) → list_all (passes_resolved ps) xs ≡ not (list_any (is_unresolved ps) (part_refs xs))
all_resolved ps [] = refl
all_resolved ps (OfType T ∷ xs) = all_resolved ps xs
all_resolved ps (OfRef j x ∷ xs) = either (is_unresolved ps j) (list_any (is_unresolved ps) (part_refs xs)) (list_all (passes_resolved ps) xs) (all_resolved ps xs)
all_resolved ps (OfHome c ∷ xs) = all_resolved ps xs
all_resolved ps (Captured ∷ xs) = all_resolved ps xs

-- a place of the code, read
pub place_at : (ps : List code.Place) (k : ℕ) → slice_get (map place_of ps) k ≡ option_map place_of (slice_get ps k)
place_at ps k = slice_get-map place_of ps k
