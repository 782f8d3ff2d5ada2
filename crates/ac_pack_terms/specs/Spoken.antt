-- Which definitions some parts speak of, part by part.
use Rattle.std.specs.Prelude.{ℕ, List, [], ◌∷◌, filter_map, flat_map}
use Rattle.ac_types.specs.Types.{Bytes, Typ, mentions}
use Rattle.ac_terms.specs.Terms.{Home, Main, In}
use Rattle.ac_terms.specs.Defs.{Environment, find_name}
use Rattle.ac_terms.specs.Parts.{Portion, OfType, OfRef, OfHome, Captured}

-- the first of each name that a type mentions
abbrev pub first_named : Environment → List (Bytes × Bytes) → List ℕ
first_named E ns = filter_map (λ (p : Bytes × Bytes). find_name E p.0) ns

abbrev pub spoken_by_type : Environment → Typ → List ℕ
spoken_by_type E T = first_named E (mentions T)

abbrev pub spoken_by_home : Home → List ℕ
spoken_by_home Main = []
spoken_by_home (In k) = k ∷ []

abbrev pub spoken_by : Environment → Portion → List ℕ
spoken_by E (OfType T) = spoken_by_type E T
spoken_by E (OfRef j x) = j ∷ []
spoken_by E (OfHome h) = spoken_by_home h
spoken_by E Captured = []

abbrev pub spoken_by_all : Environment → List Portion → List ℕ
spoken_by_all E ps = flat_map (spoken_by E) ps
