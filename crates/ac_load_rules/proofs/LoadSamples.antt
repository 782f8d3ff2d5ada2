-- Programs beside a shelf, for examples, and what is asked of them: names are digests that weigh a text.
use Rattle.std.proofs.Common.{ℕ, ◌+◌, suc, List, [], ◌∷◌, map, length, Option, Some, None, option_map}
use Rattle.std.specs.Prelude.{◌%◌}
use Rattle.ac_types.specs.Types.{Bytes, Typ}
use Rattle.ac_terms.specs.Defs.{Environment, Entry, Own', Shelf}
use Rattle.ac_syntax.specs.Trees.{Tree, DefTree, ProgramTree}
use Rattle.ac_load_rules.specs.Causes.{Cause, refusal_cause, loaded, main_type}

-- a program, and a module by itself where it has no expression
abbrev pub program : List DefTree → Option Tree → ProgramTree
program defs expr = record { defs = defs; expr = expr }

-- a digest of two bytes: the sum of the bytes and their number
abbrev pub sum : Bytes → ℕ
sum [] = 0
sum (b ∷ bs) = b + sum bs

abbrev pub weigh : Bytes → Bytes
weigh bs = (sum bs % 256) ∷ (length bs % 256) ∷ []

-- the first part that is refused, and its cause; part k is the first of the shelf
abbrev pub refusal_from : ℕ → Environment → List (Bytes × ProgramTree) → ProgramTree → Option (ℕ × Cause)
refusal_from k E [] p = option_map (λ c. (0, c)) (refusal_cause weigh E Own' p)
refusal_from k E (s ∷ rest) p = elim (refusal_cause weigh E (Shelf s.0) s.1) [ None ↦ refusal_from (suc k) (loaded weigh E (Shelf s.0) s.1) rest p | Some c ↦ Some (k, c) ]

abbrev pub refusal : List (Bytes × ProgramTree) → ProgramTree → Option (ℕ × Cause)
refusal shelf p = refusal_from 1 [] shelf p

-- the entries of a shelf, the links of all entries, and the type of the expression
abbrev pub front : Environment → List (Bytes × ProgramTree) → Environment
front E [] = E
front E (s ∷ rest) = front (loaded weigh E (Shelf s.0) s.1) rest

abbrev pub links : List (Bytes × ProgramTree) → ProgramTree → List (Option ℕ)
links shelf p = map (λ (e : Entry). e.link) (loaded weigh (front [] shelf) Own' p)

abbrev pub type_of_main : List (Bytes × ProgramTree) → ProgramTree → Option Typ
type_of_main shelf p = main_type weigh (front [] shelf) Own' p
