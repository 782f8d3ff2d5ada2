-- Why the entries of a part, behind the first n, or its term are refused: the causes behind those of the tree and of the scopes.
use Rattle.std.specs.Prelude.{◌≡◌, ⊤, ℕ, false, is_none, List, [], ◌∷◌, length, drop, Option, Some, None}
use Rattle.ac_types.specs.Partial.{given, first_some}
use Rattle.ac_types.specs.Types.{Typ}
use Rattle.ac_terms.specs.Terms.{Main, Expr}
use Rattle.ac_terms.specs.Defs.{Environment}
use Rattle.ac_rules.specs.Views.{Coloured}
use Rattle.ac_rules.specs.Typing.{all_of, type_of}
use Rattle.ac_load_rules.specs.Causes.{Cause, IllTyped, Uncovered, NotValuable, LikeMissing, Unresolved, Clash, first_at, ill_typed, uncovering, not_valuable, without_likespec, unlinked, first_entry_clash}
use Rattle.ac_load_causes.specs.declared.fault.PartFault.{PartFault}
use Rattle.ac_load_causes.specs.declared.fault.PartFault.TheVariants as fault

-- the type of the term in the main program
abbrev pub term_type : Environment → Expr → Option Typ
term_type E e = type_of Coloured false E (all_of E Main) e

-- what is asked behind the types
abbrev pub causes_behind : Environment → ℕ → List (Option Cause)
causes_behind E n =
    first_at 0 uncovering (drop n E) ∷
    first_at 0 not_valuable (drop n E) ∷
    first_at 0 without_likespec (drop n E) ∷
    first_at 0 unlinked (drop n E) ∷
    first_entry_clash E ∷ []

-- all of it
abbrev pub part_causes : Environment → ℕ → Expr → List (Option Cause)
part_causes E n e =
    first_at 0 (ill_typed E n) (drop n E) ∷
    given (is_none (term_type E e)) (Some (IllTyped (length (drop n E)))) ∷
    causes_behind E n

abbrev pub part_cause : Environment → ℕ → Expr → Option Cause
part_cause E n e = first_some (part_causes E n e)

-- the fault tells this cause; want of memory tells nothing
abbrev pub Tells : PartFault → Option Cause → Type 0
Tells (fault.IllTyped def) o = o ≡ Some (IllTyped def)
Tells (fault.Signature def spec) o = o ≡ Some (Uncovered def spec)
Tells (fault.NotValuable def field) o = o ≡ Some (NotValuable def field)
Tells (fault.LikeMissing def spec) o = o ≡ Some (LikeMissing def spec)
Tells (fault.Unresolved def) o = o ≡ Some (Unresolved def)
Tells (fault.Clash first second) o = o ≡ Some (Clash first second)
Tells fault.Memory o = ⊤

-- what is found: nothing exactly where no cause applies
abbrev pub Finds : Option PartFault → Option Cause → Type 0
Finds None o = o ≡ None
Finds (Some f) o = Tells f o
