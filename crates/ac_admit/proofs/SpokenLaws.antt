-- One test of all that a packet's type and value speak of.
use Rattle.std.proofs.Common.{◌≡◌, refl, sym, ap, ap₂, ◌∙◌, ℕ, zero, suc, Bool, true, false, ◌&&◌, List, [], ◌∷◌, ◌++◌, map, length}
use Rattle.std.specs.Prelude.{nat_lt, slice_get}
use Rattle.std.specs.List.{list_all}
use Rattle.std.specs.Option.{option_map_or}
use Rattle.std.proofs.lemmas.List.{length-map}
use Rattle.std.proofs.lemmas.List.Folds.{list_all-append}
use Rattle.sha2.specs.Sha256.{sha256}
use Rattle.ac_types.specs.Types.{Typ, mentions}
use Rattle.ac_terms.specs.Terms.{Main, In}
use Rattle.ac_terms.specs.Defs.{Environment, Entry, Def}
use Rattle.ac_terms.specs.Parts.{Portion, OfType, OfRef, OfHome, Captured, part_mentions, part_refs, part_homes}
use Rattle.ac_rules.specs.Views.{is_known}
use Rattle.ac_rules.specs.Packets.{is_there, is_home_there, may_be_home}
use Rattle.ac_admit.specs.inner.Spoken.{defs_of, passes_there}

of_type : (k m r h : Bool) → (k && ((m && r) && h)) ≡ (((k && m) && r) && h)
of_type true m r h = refl
of_type false m r h = refl

of_ref : (x m r h : Bool) → (x && ((m && r) && h)) ≡ ((m && (x && r)) && h)
of_ref true m r h = refl
of_ref false true r h = refl
of_ref false false r h = refl

of_home : (x m r h : Bool) → (x && ((m && r) && h)) ≡ ((m && r) && (x && h))
of_home true m r h = refl
of_home false true true h = refl
of_home false true false h = refl
of_home false false r h = refl

module _ (E : Environment) where
  abbrev ds : List Def
  ds = defs_of E

  there_is : (j : ℕ) → nat_lt j (length E) ≡ is_there sha256 ds j
  there_is j = ap (nat_lt j) (sym (length-map E (λ (e : Entry). e.def)))

  home_of : (xs : List Entry) (k : ℕ) → option_map_or (λ (e : Entry). may_be_home sha256 e.def) (slice_get xs k) false ≡ option_map_or (may_be_home sha256) (slice_get (map (λ (e : Entry). e.def) xs) k) false
  home_of [] k = refl
  home_of (e ∷ xs) zero = refl
  home_of (e ∷ xs) (suc k) = home_of xs k

  abbrev K : List Portion → Bool
  K ps = list_all (is_known E) (part_mentions ps)

  abbrev R : List Portion → Bool
  R ps = list_all (is_there sha256 ds) (part_refs ps)

  abbrev H : List Portion → Bool
  H ps = list_all (is_home_there sha256 ds) (part_homes ps)

  all_there : (ps : List Portion) → list_all (passes_there E) ps ≡ ((K ps && R ps) && H ps)
  all_there [] = refl
  all_there (OfType T ∷ ps) =
      ap (λ b. list_all (is_known E) (mentions T) && b) (all_there ps) ∙ of_type (list_all (is_known E) (mentions T)) (K ps) (R ps) (H ps)
      ∙ ap (λ b. (b && R ps) && H ps) (sym (list_all-append (is_known E) (mentions T) (part_mentions ps)))
  all_there (OfRef j x ∷ ps) = ap₂ (λ a b. a && b) (there_is j) (all_there ps) ∙ of_ref (is_there sha256 ds j) (K ps) (R ps) (H ps)
  all_there (OfHome Main ∷ ps) = all_there ps
  all_there (OfHome (In k) ∷ ps) = ap₂ (λ a b. a && b) (home_of E k) (all_there ps) ∙ of_home (is_home_there sha256 ds k) (K ps) (R ps) (H ps)
  all_there (Captured ∷ ps) = all_there ps

  -- with a type in front
  pub spoken : (T : Typ) (ps : List Portion) → (list_all (is_known E) (mentions T) && list_all (passes_there E) ps) ≡ ((list_all (is_known E) (mentions T ++ part_mentions ps) && R ps) && H ps)
  spoken T ps =
      ap (λ b. list_all (is_known E) (mentions T) && b) (all_there ps) ∙ of_type (list_all (is_known E) (mentions T)) (K ps) (R ps) (H ps)
      ∙ ap (λ b. (b && R ps) && H ps) (sym (list_all-append (is_known E) (mentions T) (part_mentions ps)))
