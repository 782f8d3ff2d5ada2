-- The rows of what was given.
use Rattle.std.proofs.Common.{◌≡◌, ◌∙◌, ◌||◌, ℕ, Bool, true, false, true≢false, refl, ap, rules, List, [], ◌∷◌, ◌++◌, map, Option, append-nil}
use Rattle.std.specs.Prelude.{◌==◌}
use Rattle.std.specs.Str.{bytes_eq}
use Rattle.clap.specs.Walk.{Row, at_row, has_row, more_values, used, without}
use Rattle.clap.specs.declared.parser.matches.ValueSource.TheVariants.{CommandLine}
use Rattle.acute_words.specs.Form.{Given, Text}
use Rattle.acute_words.proofs.Reading.{has}
use Rattle.acute_words.specs.inner.Rules.{row, rule_with}

-- a change of a row that isn't there
pub at_none : (id : Text) (change : Row → List Row) (missing rows : List Row) → has_row id rows ≡ false
    → at_row id change missing rows ≡ rows ++ missing
at_none id change missing [] none = refl
at_none id change missing (r ∷ rs) none = go (bytes_eq r.id id) refl (at_none id change missing rs)
  where
    go : (b : Bool) → bytes_eq r.id id ≡ b → (has_row id rs ≡ false → at_row id change missing rs ≡ rs ++ missing)
        → at_row id change missing (r ∷ rs) ≡ r ∷ (rs ++ missing)
    go true e more = let bad : true ≡ false = rw e at none in absurd (true≢false bad)
    go false e more = let none' : has_row id rs ≡ false = rw e at none in rw e (ap (λ xs. r ∷ xs) (more none'))

-- rows have the names of what was given
pub has-rows : (id : Text) (g : Given) → has_row id (map row g) ≡ has id g
has-rows id [] = refl
has-rows id (p ∷ g) = ap (λ b. bytes_eq p.0 id || b) (has-rows id g)

-- a text is equal to itself
pub same_bytes : (a : Text) → bytes_eq a a ≡ true
same_bytes [] = refl
same_bytes (x ∷ xs) = let here : (x == x) ≡ true = search rules in rw here (same_bytes xs)

-- a first use of an argument
pub used_once : (id : Text) (long : Option Text) (index : Option ℕ) (least most : ℕ) (v : Text) (vs : List Text) (rows : List Row)
    → has_row id rows ≡ false
    → used (rule_with id long index least most) (v ∷ vs) rows ≡ rows ++ row (id, v ∷ vs) ∷ []
used_once id long index least most v vs rows none =
    let same : without id rows ≡ rows = at_none id (λ x. []) [] rows none ∙ append-nil rows in
    rw same (at_none id (more_values CommandLine (v ∷ vs)) (row (id, (v ∷ vs)) ∷ []) rows none)

-- a first use of a flag
pub used_bare : (id : Text) (long : Option Text) (index : Option ℕ) (rows : List Row) → has_row id rows ≡ false
    → used (rule_with id long index 0 0) [] rows ≡ rows ++ row (id, []) ∷ []
used_bare id long index rows none =
    let same : without id rows ≡ rows = at_none id (λ x. []) [] rows none ∙ append-nil rows in
    rw same (at_none id (more_values CommandLine []) (row (id, []) ∷ []) rows none)
