-- What the places of a packet's definitions say: which imports have no link, how many entries come, and the number of each.
use Rattle.std.proofs.Common.{◌≡◌, refl, sym, ap, ◌∙◌, ℕ, zero, suc, ◌+◌, ◌≤◌, Bool, true, false, not, List, [], ◌∷◌, ◌++◌, map, length, Option, Some, None, append_assoc, append-nil}
use Rattle.std.specs.Prelude.{position, is_some}
use Rattle.std.specs.List.{list_any}
use Rattle.std.proofs.lemmas.List.{map-append, length-map}
use mathlib.Core.Path.{fun_ext}
use native.Mathlib.Omega.{arith}
use Rattle.sha2.specs.Sha256.{sha256}
use Rattle.ac_types.specs.Partial.{first_failing}
use Rattle.ac_terms.specs.Terms.{PValue}
use Rattle.ac_terms.specs.Defs.{Environment, Entry, Def, AModule, AnImport, AMark, Arrived, Packet}
use Rattle.ac_terms.specs.Names.{name_by}
use Rattle.ac_terms.specs.Parts.{part_refs, def_parts}
use Rattle.ac_terms.specs.Renumbered.{def_renumbered, value_renumbered}
use Rattle.ac_terms.proofs.EnvLaws.{position-map}
use Rattle.ac_rules.specs.Links.{linked, InPacket, is_exact}
use Rattle.ac_rules.specs.Packets.{Place, Placed, alone_after, alone, is_resolved, is_unresolved, placed_number, place, place_all, places, place_exact, place_ranges, put, found_or_put, placed_there, find_def, value_there}
use Rattle.ac_rules.proofs.ListLaws.{length_more}
use Rattle.ac_terms_renumber.specs.Numbers.{number_for}
use Rattle.ac_admit_placing.specs.Placed.{place_number}

-- the definitions by themselves are the definitions
defs_after : (E : Environment) (ds : List Def) → map (λ (e : Entry). e.def) (alone_after sha256 E ds) ≡ map (λ (e : Entry). e.def) E ++ ds
defs_after E [] = sym (append-nil (map (λ (e : Entry). e.def) E))
defs_after E (d ∷ ds) =
    let e : Entry = record { def = d; name = name_by sha256 E d; seen = Arrived; link = None } in
    defs_after (E ++ e ∷ []) ds ∙ ap (λ xs. xs ++ ds) (map-append (λ (x : Entry). x.def) E (e ∷ [])) ∙ append_assoc (map (λ (x : Entry). x.def) E) (d ∷ []) ds

pub defs_alone : (ds : List Def) → map (λ (e : Entry). e.def) (alone sha256 ds) ≡ ds
defs_alone ds = defs_after [] ds

-- whether a definition is an import without a link, beside its place
abbrev flag : Place → Bool
flag q = q.unresolved

abbrev is_open : Environment → Def → Bool
is_open E d = not (is_resolved sha256 E d)

module _ (E : Environment) where
  found_flag : (s : Placed) (d : Def) (link : Option ℕ) → map flag (found_or_put sha256 s d link).1 ≡ map flag s.1 ++ false ∷ []
  found_flag s d link = by (find_def s.0 d link)
    where
      by : (o : Option ℕ) → map flag (elim o as (λ z. Placed) [ Some j ↦ placed_there sha256 s j | None ↦ put sha256 s d link false ]).1 ≡ map flag s.1 ++ false ∷ []
      by (Some j) = map-append flag s.1 (record { at = Some j; unresolved = false } ∷ [])
      by None = map-append flag s.1 (record { at = Some (length s.0); unresolved = false } ∷ [])

  place_flag : (s : Placed) (d : Def) → map flag (place sha256 E s d).1 ≡ map flag s.1 ++ is_open E d ∷ []
  place_flag s (AnImport i) = by (is_exact i.constraint) (linked E i InPacket)
    where
      by : (b : Bool) (o : Option ℕ) → map flag (elim b as (λ z. Placed) [ true ↦ place_exact sha256 s o | false ↦ place_ranges sha256 s i o ]).1 ≡ map flag s.1 ++ not (is_some o) ∷ []
      by true None = map-append flag s.1 (record { at = None; unresolved = true } ∷ [])
      by true (Some j) = map-append flag s.1 (record { at = Some j; unresolved = false } ∷ [])
      by false None = map-append flag s.1 (record { at = Some (length s.0); unresolved = true } ∷ [])
      by false (Some j) = found_flag s (AnImport i) (Some j)
  place_flag s (AModule m) = by (list_any (is_unresolved s.1) (part_refs (def_parts (AModule m))))
    where
      by : (b : Bool) → map flag (elim b as (λ z. Placed) [ true ↦ put sha256 s (AMark []) None false | false ↦ found_or_put sha256 s (def_renumbered (placed_number s.1) (AModule m)) None ]).1 ≡ map flag s.1 ++ false ∷ []
      by true = map-append flag s.1 (record { at = Some (length s.0); unresolved = false } ∷ [])
      by false = found_flag s (def_renumbered (placed_number s.1) (AModule m)) None
  place_flag s (AMark t) = found_flag s (AMark t) None

  all_flags : (s : Placed) (ds : List Def) → map flag (place_all sha256 E s ds).1 ≡ map flag s.1 ++ map (is_open E) ds
  all_flags s [] = sym (append-nil (map flag s.1))
  all_flags s (d ∷ ds) = all_flags (place sha256 E s d) ds ∙ ap (λ xs. xs ++ map (is_open E) ds) (place_flag s d) ∙ append_assoc (map flag s.1) (is_open E d ∷ []) (map (is_open E) ds)

  -- each definition has a place
  pub many_places : (ds : List Def) → length (places sha256 E ds).1 ≡ length ds
  many_places ds = sym (length-map (places sha256 E ds).1 flag) ∙ ap length (all_flags (E, []) ds) ∙ length-map ds (is_open E)

  -- the first import without a link is the first of whose place that is said
  pub first_open : (ds : List Def) → position flag (places sha256 E ds).1 ≡ first_failing (is_resolved sha256 E) ds
  first_open ds =
      sym (position-map flag (λ b. b) flag (λ q. refl) (places sha256 E ds).1) ∙ ap (position (λ b. b)) (all_flags (E, []) ds)
      ∙ position-map (is_open E) (λ b. b) (is_open E) (λ d. refl) ds

  -- a definition brings one entry at most
  put_few : (s : Placed) (d : Def) (link : Option ℕ) (u : Bool) → length (put sha256 s d link u).0 ≤ suc (length s.0)
  put_few s d link u = omega (arith, length_more s.0 (record { def = d; name = name_by sha256 s.0 d; seen = Arrived; link = link }))

  found_few : (s : Placed) (d : Def) (link : Option ℕ) → length (found_or_put sha256 s d link).0 ≤ suc (length s.0)
  found_few s d link = by (find_def s.0 d link)
    where
      by : (o : Option ℕ) → length (elim o as (λ z. Placed) [ Some j ↦ placed_there sha256 s j | None ↦ put sha256 s d link false ]).0 ≤ suc (length s.0)
      by (Some j) = omega arith
      by None = put_few s d link false

  place_few : (s : Placed) (d : Def) → length (place sha256 E s d).0 ≤ suc (length s.0)
  place_few s (AnImport i) = by (is_exact i.constraint) (linked E i InPacket)
    where
      by : (b : Bool) (o : Option ℕ) → length (elim b as (λ z. Placed) [ true ↦ place_exact sha256 s o | false ↦ place_ranges sha256 s i o ]).0 ≤ suc (length s.0)
      by true None = omega arith
      by true (Some j) = omega arith
      by false None = put_few s (AnImport i) None true
      by false (Some j) = found_few s (AnImport i) (Some j)
  place_few s (AModule m) = by (list_any (is_unresolved s.1) (part_refs (def_parts (AModule m))))
    where
      by : (b : Bool) → length (elim b as (λ z. Placed) [ true ↦ put sha256 s (AMark []) None false | false ↦ found_or_put sha256 s (def_renumbered (placed_number s.1) (AModule m)) None ]).0 ≤ suc (length s.0)
      by true = put_few s (AMark []) None false
      by false = found_few s (def_renumbered (placed_number s.1) (AModule m)) None
  place_few s (AMark t) = found_few s (AMark t) None

  all_few : (s : Placed) (ds : List Def) → length (place_all sha256 E s ds).0 ≤ length s.0 + length ds
  all_few s [] = omega arith
  all_few s (d ∷ ds) = omega (arith, place_few s d, all_few (place sha256 E s d) ds)

  pub few_come : (ds : List Def) → length (places sha256 E ds).0 ≤ length E + length ds
  few_come ds = all_few (E, []) ds

-- the numbers stand for the places
same_number : (ps : List Place) (k : ℕ) → number_for (map place_number ps) k ≡ placed_number ps k
same_number [] k = refl
same_number (q ∷ ps) zero = refl
same_number (q ∷ ps) (suc k) = same_number ps k

pub value_moved : (E : Environment) (p : Packet) (ns : List ℕ) (v : PValue) → ns ≡ map place_number (places sha256 E p.defs).1 → v ≡ value_renumbered (number_for ns) p.value → v ≡ value_there sha256 E p
value_moved E p ns v n h =
    h ∙ ap (λ (xs : List ℕ). value_renumbered (number_for xs) p.value) n ∙ ap (λ (f : ℕ → ℕ). value_renumbered f p.value) (fun_ext (same_number (places sha256 E p.defs).1))
