-- What the getters of the matches answer, by what was given.
use Rattle.std.proofs.Common.{◌≡◌, ◌∙◌, sym, ap, refl, List, map, Option, Some, None}
use Rattle.std.specs.Prelude.{find, is_some, option_and_then, option_map, slice_get}
use Rattle.std.specs.Str.{bytes_eq}
use Rattle.clap.proofs.WalkLemmas.{find-map, first_value-rows, raw_values-rows}
use Rattle.clap.specs.Words.{Row, all_of, first_of, first_value, found_of, matched_of, raw_values}
use Rattle.clap.specs.declared.parser.matches.ArgMatches.{ArgMatches}
use Rattle.acute_words.specs.Form.{Given, Text}
use Rattle.acute_words.specs.WordValues.{all_in, first_in}
use Rattle.acute_words.specs.inner.Rules.{row, rows_in}

-- what was given, where the matches are its rows
pub some_given : (o : Option Given) (rows : List Row) → Some rows ≡ option_map (map row) o
    → (g : Given) × (o ≡ Some g) × (rows ≡ map row g)
some_given None rows e = absurd (cc)
some_given (Some g) rows e = (g, refl, cc)

-- the values in rows
all_rows : (g : Given) (id : Text) → all_of id (map row g) ≡ all_in id g
all_rows g id =
    ap (option_map (λ (r : Row). r.values)) (sym (find-map (λ (r : Row). bytes_eq r.id id) row g))
    ∙ go (find (λ p. bytes_eq p.0 id) g)
  where
    go : (o : Option (Text × List Text)) → option_map (λ (r : Row). r.values) (option_map row o) ≡ option_map (λ p. p.1) o
    go None = refl
    go (Some p) = refl

-- the first value in rows
first_rows : (rows : List Row) (id : Text) → first_of id rows ≡ option_and_then (λ values. slice_get values 0) (all_of id rows)
first_rows rows id = go (find (λ (r : Row). bytes_eq r.id id) rows)
  where
    go : (o : Option Row) → option_and_then (λ (r : Row). slice_get r.values 0) o
        ≡ option_and_then (λ values. slice_get values 0) (option_map (λ (r : Row). r.values) o)
    go None = refl
    go (Some r) = refl

-- `get_str` answers the first value
pub first_found : (m : ArgMatches) (g : Given) (id : Text) → rows_in m ≡ map row g → first_value (found_of m) id ≡ first_in id g
first_found m g id e =
    first_value-rows (found_of m) id ∙ ap (first_of id) e ∙ first_rows (map row g) id
    ∙ ap (option_and_then (λ values. slice_get values 0)) (all_rows g id)

-- `get_strs` answers all values
pub all_found : (m : ArgMatches) (g : Given) (id : Text) → rows_in m ≡ map row g → option_map raw_values (matched_of (found_of m) id) ≡ all_in id g
all_found m g id e = raw_values-rows (found_of m) id ∙ ap (all_of id) e ∙ all_rows g id

some_mapped : {X Y : Type 0} (f : X → Y) (o : Option X) → is_some o ≡ is_some (option_map f o)
some_mapped f None = refl
some_mapped f (Some x) = refl

-- `contains_id` answers whether it was given
pub whether_found : (m : ArgMatches) (g : Given) (id : Text) → rows_in m ≡ map row g → is_some (matched_of (found_of m) id) ≡ is_some (all_in id g)
whether_found m g id e = some_mapped raw_values (matched_of (found_of m) id) ∙ ap is_some (all_found m g id e)
