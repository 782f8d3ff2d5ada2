-- The type of a reference, from what its entry has.
use Rattle.std.proofs.Common.{ℕ, ◌≡◌, ap, ap₂, ◌∙◌, true, Option, Some}
use Rattle.std.specs.Prelude.{nat_lt, option_map, option_and_then, slice_get}
use Rattle.ac_types.specs.Partial.{given}
use Rattle.ac_types.specs.Types.{Bytes, Typ, TAbs, with_mine}
use Rattle.ac_types.specs.Sigs.{Signature, named_type}
use Rattle.ac_terms.specs.Defs.{Environment, Entry, signature}
use Rattle.ac_rules.specs.Typing.{Scope, value_in, ref_type}

-- what the signature of an entry writes for a value
abbrev pub written_for : Bytes → Entry → Option Typ
written_for x e = option_and_then (λ (s : Signature). named_type x s.vals) (signature e.def)

module _ (E : Environment) (S : Scope) (j : ℕ) (x : Bytes) (e : Entry) (n : Bytes) (T : Typ) (there : slice_get E j ≡ Some e) (named : e.name ≡ Some n) (writes : written_for x e ≡ Some T) where
  abbrev of_entry : Option Entry → Option Typ
  of_entry o =
      option_and_then (λ (U : Typ). option_map (λ (m : Bytes). with_mine (TAbs m) U) (option_and_then (λ (a : Entry). a.name) o))
      (option_and_then (λ (s : Signature). named_type x s.vals) (option_and_then signature (option_map (λ (a : Entry). a.def) o)))

  value_there : value_in E j x ≡ Some (with_mine (TAbs n) T)
  value_there =
      ap of_entry there
      ∙ ap (option_and_then (λ (U : Typ). option_map (λ (m : Bytes). with_mine (TAbs m) U) e.name)) writes
      ∙ ap (option_map (λ (m : Bytes). with_mine (TAbs m) T)) named

  pub ref_there : nat_lt j S.refs ≡ true → ref_type E S j x ≡ Some (with_mine (TAbs n) T)
  ref_there lt = ap₂ given lt value_there
