-- Where all entries behind the first k have arrived, what has not is among the first k.
use Rattle.std.proofs.Common.{◌≡◌, refl, sym, ap, ◌∙◌, ℕ, zero, suc, ◌+◌, ◌-◌, ◌<◌, ◌≤◌, Bool, true, false, ◌&&◌, [], ◌∷◌, length, drop, Option, Some}
use Rattle.std.specs.Prelude.{slice_get, is_none}
use Rattle.std.specs.List.{list_all}
use Rattle.std.specs.Option.{option_map_or}
use Rattle.std.proofs.lemmas.List.{drop_all, length-map}
use mathlib.Core.Bool.{true≢false}
use native.Mathlib.Omega.{arith}
use Rattle.ac_types.proofs.Same.{both_true, and_true}
use Rattle.ac_terms.specs.Defs.{Environment, Entry, Import, Seen, Own', Shelf, Arrived}
use Rattle.ac_terms.specs.Read.{environment_of, entry_of}
use Rattle.ac_terms.specs.declared.env.Env.{Env}
use Rattle.ac_rules.specs.Links.{link_fault, last_below, latest, has_arrived}
use Rattle.ac_link.specs.Fronts.{IsFront}
use Rattle.ac_link.specs.inner.Candidates.{is_candidate, arrived_at}

abbrev arrived : Entry → Bool
arrived e = has_arrived e.seen

-- the last that passes, where none does from n on
last_of_first : (test : ℕ → Bool) (n : ℕ) → ((j : ℕ) → n ≤ j → test j ≡ false) → (m k : ℕ) → k ≡ n + m → last_below test k ≡ last_below test n
last_of_first test n none zero k q = let e : k ≡ n = omega (arith, q) in ap (last_below test) e
last_of_first test n none (suc m) zero q = absurd (omega (arith, q))
last_of_first test n none (suc m) (suc k) q =
    ap (λ b. elim b as (λ x. Option ℕ) [ true ↦ Some k | false ↦ last_below test k ]) (none k (omega (arith, q))) ∙ last_of_first test n none m k (omega (arith, q))

-- behind them no entry is of a kind that what has arrived is not of
module _ (kind : Seen → Bool) (other : kind Arrived ≡ false) where
  abbrev of_kind : Option Entry → Bool
  of_kind o = option_map_or (λ (e : Entry). kind e.seen) o false

  one : (s : Seen) → has_arrived s ≡ true → kind s ≡ false
  one Own' h = absurd (true≢false (sym h))
  one (Shelf u) h = absurd (true≢false (sym h))
  one Arrived h = other

  behind : (E : Environment) (k j : ℕ) → list_all arrived (drop k E) ≡ true → k ≤ j → of_kind (slice_get E j) ≡ false
  behind [] k j h l = refl
  behind (x ∷ E) zero zero h l = one x.seen (both_true (arrived x) (list_all arrived E) h).0
  behind (x ∷ E) zero (suc j) h l = behind E zero j (both_true (arrived x) (list_all arrived E) h).1 (omega arith)
  behind (x ∷ E) (suc k) zero h l = absurd (omega (arith, l))
  behind (x ∷ E) (suc k) (suc j) h l = behind E k j h (omega arith)

  pub latest_in_front : (E : Environment) (i : Import) (k : ℕ) → IsFront E k → latest kind E i ≡ last_below (is_candidate kind E i) k
  latest_in_front E i k h =
      let l : k ≤ length E = h.0 in
      last_of_first (is_candidate kind E i) k (λ j m. ap (λ b. b && is_none (link_fault E i j)) (behind E k j h.1 m)) (length E - k) (length E) (omega arith)

-- all entries, none of which has to have arrived
pub whole_front : (e : Env) → IsFront (environment_of e) (length e.entries)
whole_front e =
    let n : length (environment_of e) ≡ length e.entries = length-map e.entries entry_of in
    (omega arith, ap (list_all arrived) (drop_all (length e.entries) (environment_of e) (omega arith)))

-- one more that has arrived
pub front_less : (E : Environment) (k : ℕ) → arrived_at E k ≡ true → IsFront E (suc k) → IsFront E k
front_less E k a h = let l : suc k ≤ length E = h.0 in (omega arith, less E k a h.1)
  where
    less : (E : Environment) (k : ℕ) → arrived_at E k ≡ true → list_all arrived (drop (suc k) E) ≡ true → list_all arrived (drop k E) ≡ true
    less [] k a h = absurd (true≢false (sym a))
    less (x ∷ E) zero a h = and_true {a = arrived x} {b = list_all arrived E} a h
    less (x ∷ E) (suc k) a h = less E k a h

-- and none below one that has not
pub front_least : (E : Environment) (k : ℕ) → arrived_at E k ≡ false → k < length E → (j : ℕ) → IsFront E j → suc k ≤ j
front_least E k a l j h = least E k j a l h.1
  where
    least : (E : Environment) (k j : ℕ) → arrived_at E k ≡ false → k < length E → list_all arrived (drop j E) ≡ true → suc k ≤ j
    least [] k j a l h = absurd (omega (arith, l))
    least (x ∷ E) zero zero a l h = absurd (true≢false (sym (both_true (arrived x) (list_all arrived E) h).0 ∙ a))
    least (x ∷ E) (suc k) zero a l h = let r = least E k zero a (omega arith) (both_true (arrived x) (list_all arrived E) h).1 in absurd (omega (arith, r))
    least (x ∷ E) zero (suc j) a l h = omega arith
    least (x ∷ E) (suc k) (suc j) a l h = let r = least E k j a (omega arith) h in omega (arith, r)
