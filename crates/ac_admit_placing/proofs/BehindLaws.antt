-- The names of the entries that are there and of those that come.
use Rattle.std.proofs.Common.{◌≡◌, refl, ap, ◌∙◌, ℕ, suc, ◌+◌, ◌-◌, ◌<◌, ◌≤◌, List, [], ◌∷◌, ◌++◌, map, length, Option, Some, None}
use Rattle.std.specs.Prelude.{slice_get, option_map, option_and_then}
use Rattle.std.proofs.lemmas.List.{length-map}
use native.Mathlib.Omega.{arith}
use Rattle.ac_types.specs.Types.{Bytes}
use Rattle.ac_terms.specs.declared.def.Entry as code
use Rattle.ac_terms.specs.Defs.{Entry, name_at}
use Rattle.ac_terms.specs.Read.{entry_of}
use Rattle.ac_terms.proofs.EnvLaws.{slice_get-map}
use Rattle.ac_rules.proofs.ListLaws.{get_old}
use Rattle.ac_admit_placing.specs.inner.Behind.{kept_entry_name}

name_read : (o : Option code.Entry) → option_and_then (λ (e : Entry). e.name) (option_map entry_of o) ≡ kept_entry_name o
name_read None = refl
name_read (Some e) = refl

get_behind : {A : Type 0} (xs ys : List A) (k : ℕ) → slice_get (xs ++ ys) (length xs + k) ≡ slice_get ys k
get_behind [] ys k = let none : 0 + k ≡ k = omega arith in ap (slice_get ys) none
get_behind (x ∷ xs) ys k = let next : length (x ∷ xs) + k ≡ suc (length xs + k) = omega arith in ap (slice_get (x ∷ (xs ++ ys))) next ∙ get_behind xs ys k

abbrev name_in : Option Entry → Option Bytes
name_in o = option_and_then (λ (e : Entry). e.name) o

module _ (es more : List code.Entry) (j : ℕ) where
  abbrev all : List Entry
  all = map entry_of es ++ map entry_of more

  pub name_there : j < length es → name_at all j ≡ kept_entry_name (slice_get es j)
  name_there l =
      let m : length (map entry_of es) ≡ length es = length-map es entry_of in
      let at : j < length (map entry_of es) = omega (arith, l, m) in
      ap name_in (get_old (map entry_of es) (map entry_of more) j at ∙ slice_get-map entry_of es j) ∙ name_read (slice_get es j)

  pub name_coming : length es ≤ j → name_at all j ≡ kept_entry_name (slice_get more (j - length es))
  name_coming l =
      let m : length (map entry_of es) ≡ length es = length-map es entry_of in
      let k : ℕ = j - length es in
      let at : j ≡ length (map entry_of es) + k = omega (arith, l, m) in
      ap name_in (ap (slice_get all) at ∙ get_behind (map entry_of es) (map entry_of more) k ∙ slice_get-map entry_of more k) ∙ name_read (slice_get more k)
