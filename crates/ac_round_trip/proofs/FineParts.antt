-- What a copy asks of the parts of what was packed: small types, and definitions that are there.
use Rattle.std.proofs.Common.{◌≡◌, refl, ℕ, true, List, [], ◌∷◌, ◌++◌}
use Rattle.std.specs.List.{list_all}
use Rattle.std.specs.Prelude.{Contains}
use Rattle.ac_types.proofs.Same.{both_true, and_true}
use Rattle.ac_types.specs.Types.{is_small}
use Rattle.ac_terms.specs.Terms.{Main, In}
use Rattle.ac_terms.specs.Defs.{Environment}
use Rattle.ac_terms.specs.Bounds.{has_small_types}
use Rattle.ac_terms.specs.Parts.{Portion, OfType, OfRef, OfHome, Captured, part_types, part_refs, part_homes}
use Rattle.ac_rules.proofs.ListLaws.{head_in, tail_in}
use Rattle.ac_round_trip.specs.Copies.{HasNamesake, HomeHasNamesake}

module _ (E F : Environment) (f : ℕ → ℕ) where
  abbrev pub Fine : Portion → Type 0
  Fine (OfType T) = is_small T ≡ true
  Fine (OfRef j x) = HasNamesake E F f j
  Fine (OfHome c) = HomeHasNamesake E F f c
  Fine Captured = Unit {0}

  abbrev pub AllFine : List Portion → Type 0
  AllFine [] = Unit {0}
  AllFine (p ∷ ps) = Fine p × AllFine ps

  pub fine_both : (ps qs : List Portion) → AllFine (ps ++ qs) → AllFine ps × AllFine qs
  fine_both [] qs h = (tt, h)
  fine_both (p ∷ ps) qs h = let k = fine_both ps qs h.1 in ((h.0, k.0), k.1)

  pub small_types : (ps : List Portion) → AllFine ps → has_small_types ps ≡ true
  small_types [] h = refl
  small_types (OfType T ∷ ps) h = and_true {a = is_small T} {b = list_all is_small (part_types ps)} h.0 (small_types ps h.1)
  small_types (OfRef j x ∷ ps) h = small_types ps h.1
  small_types (OfHome c ∷ ps) h = small_types ps h.1
  small_types (Captured ∷ ps) h = small_types ps h.1

  pub all_fine : (ps : List Portion) → has_small_types ps ≡ true → ((j : ℕ) → Contains (part_refs ps) j → HasNamesake E F f j) → ((i : ℕ) → Contains (part_homes ps) i → HasNamesake E F f i) → AllFine ps
  all_fine [] s r c = tt
  all_fine (OfType T ∷ ps) s r c = let p = both_true (is_small T) (list_all is_small (part_types ps)) s in (p.0, all_fine ps p.1 r c)
  all_fine (OfRef j x ∷ ps) s r c = (r j (head_in j (part_refs ps)), all_fine ps s (λ i m. r i (tail_in j i (part_refs ps) m)) c)
  all_fine (OfHome Main ∷ ps) s r c = (tt, all_fine ps s r c)
  all_fine (OfHome (In i) ∷ ps) s r c = (c i (head_in i (part_homes ps)), all_fine ps s r (λ j m. c j (tail_in i j (part_homes ps) m)))
  all_fine (Captured ∷ ps) s r c = (tt, all_fine ps s r c)
