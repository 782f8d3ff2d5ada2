-- The least entry of a name, and the first item of a list that passes.
use Rattle.std.proofs.Common.{◌≡◌, refl, sym, ap, ◌∙◌, ℕ, zero, suc, ◌<◌, Bool, true, false, ◌&&◌, List, [], ◌∷◌, length, Some, None, take, Option}
use Rattle.std.specs.Prelude.{position, option_map, slice_get, ◌||◌}
use Rattle.std.specs.Option.{option_map_or, is_some}
use mathlib.Core.Bool.{true≢false}
use native.Mathlib.Omega.{arith}
use Rattle.ac_types.proofs.Same.{bytes_eq}
use Rattle.ac_types.proofs.FirstLaws.{none≢some, some_eq}
use Rattle.ac_types.specs.Types.{Bytes}
use Rattle.ac_types.specs.Sigs.{Signature, type_under, is_abstract}
use Rattle.ac_index.specs.Noted.{is_before}
use Rattle.ac_index.proofs.PositionLaws.{position-first, position-later, position_any, position_before}
use Rattle.ac_terms.specs.Defs.{Environment, Entry, names, find_name, name_at, signature, declares}
use Rattle.ac_rules.specs.Views.{is_known}
use Rattle.ac_rules.proofs.Rules.{map_some}

pub no_first : {A : Type 0} (p : A → Bool) (x : A) (xs : List A) → position p (x ∷ xs) ≡ None → (p x ≡ false) × (position p xs ≡ None)
no_first p x xs e = by (p x) refl
  where
    no_suc : (o : Option ℕ) → option_map suc o ≡ None → o ≡ None
    no_suc None q = refl
    no_suc (Some k) q = absurd (none≢some (sym q))

    by : (b : Bool) → p x ≡ b → (p x ≡ false) × (position p xs ≡ None)
    by true q = absurd (none≢some (sym e ∙ position-first p x xs q))
    by false q = (q, no_suc (position p xs) (sym (position-later p x xs q) ∙ e))

-- a name that is kept
pub names_some : (o : Option Bytes) (n : Bytes) → names o n ≡ true → o ≡ Some n
names_some None n e = absurd (true≢false (sym e))
names_some (Some a) n e = ap Some (bytes_eq a n e)

-- what is known, by the first entry that declares it: some entry does, and one of the first entries
pub some_known : (E : Environment) (n t : Bytes) → is_known E (n, t) ≡ is_some (position (declares n t) E)
some_known E n t = sym (position_any (declares n t) E)

pub early_known : (E : Environment) (i : ℕ) (n t : Bytes) → is_known (take i E) (n, t) ≡ is_before i (position (declares n t) E)
early_known E i n t = position_before (declares n t) i E

pub ruleset first_known = (some_known, early_known)

-- whether an entry keeps the name
abbrev keeps : Bytes → Entry → Bool
keeps n e = names e.name n

-- a name that is known among the entries before i is kept by one of them
pub known_earlier : (E : Environment) (i : ℕ) (n t : Bytes) → is_known (take i E) (n, t) ≡ true → (j : ℕ) × (find_name E n ≡ Some j) × (j < i)
known_earlier E zero n t h = absurd (true≢false (sym h))
known_earlier [] (suc i) n t h = absurd (true≢false (sym h))
known_earlier (e ∷ es) (suc i) n t h = by (known_earlier es i n t) (keeps n e) refl
  where
    rest : (a b : Bool) → a ≡ false → (a || b) ≡ true → b ≡ true
    rest true b p q = absurd (true≢false p)
    rest false b p q = q

    none_there : keeps n e ≡ false → declares n t e ≡ false
    none_there p = ap (λ b. b && option_map_or (λ (s : Signature). is_abstract (type_under t s.types)) (signature e.def) false) p

    by : (is_known (take i es) (n, t) ≡ true → (j : ℕ) × (find_name es n ≡ Some j) × (j < i)) → (b : Bool) → keeps n e ≡ b → (j : ℕ) × (find_name (e ∷ es) n ≡ Some j) × (j < suc i)
    by more true p = (0, position-first (keeps n) e es p, omega arith)
    by more false p =
        let r = more (rest (declares n t e) _ (none_there p) h) in
        let lt : r.0 < i = r.2 in
        (suc r.0, position-later (keeps n) e es p ∙ ap (option_map suc) r.1, omega arith)

-- the least entry of a name keeps it
pub found_keeps : (E : Environment) (n : Bytes) (i : ℕ) → find_name E n ≡ Some i → (e : Entry) × (slice_get E i ≡ Some e) × (keeps n e ≡ true)
found_keeps [] n i h = absurd (none≢some h)
found_keeps (e ∷ es) n i h = by (found_keeps es n) (keeps n e) refl
  where
    by : ((k : ℕ) → find_name es n ≡ Some k → (d : Entry) × (slice_get es k ≡ Some d) × (keeps n d ≡ true)) → (b : Bool) → keeps n e ≡ b → (d : Entry) × (slice_get (e ∷ es) i ≡ Some d) × (keeps n d ≡ true)
    by more true p = (e, ap (slice_get (e ∷ es)) (sym (some_eq (sym (position-first (keeps n) e es p) ∙ h))), p)
    by more false p =
        let q = map_some suc (find_name es n) i (sym (position-later (keeps n) e es p) ∙ h) in
        let r = more q.0 q.1 in
        (r.0, ap (slice_get (e ∷ es)) (sym q.2) ∙ r.1, r.2)

-- and no earlier entry does
pub least : (E : Environment) (n : Bytes) (i k : ℕ) → find_name E n ≡ Some i → k < i → names (name_at E k) n ≡ false
least [] n i k h lt = absurd (none≢some h)
least (e ∷ es) n i k h lt = by (least es n) (keeps n e) refl k lt
  where
    by : ((j m : ℕ) → find_name es n ≡ Some j → m < j → names (name_at es m) n ≡ false) → (b : Bool) → keeps n e ≡ b → (m : ℕ) → m < i → names (name_at (e ∷ es) m) n ≡ false
    by more true p m l = let z : 0 ≡ i = some_eq (sym (position-first (keeps n) e es p) ∙ h) in absurd (omega arith)
    by more false p zero l = p
    by more false p (suc m) l =
        let q = map_some suc (find_name es n) i (sym (position-later (keeps n) e es p) ∙ h) in
        let z : suc q.0 ≡ i = q.2 in
        more q.0 m q.1 (omega arith)
