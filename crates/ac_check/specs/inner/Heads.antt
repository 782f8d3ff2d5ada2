-- What types are at the top, as far as it is known.
use Rattle.std.specs.Prelude.{◌≡◌, ◌≤◌, length, IfSome}
use Rattle.std.specs.Borrow.{Bor}
use Rattle.std.specs.declared.cmp.Ordering.{Ordering}
use Rattle.std.specs.Ordering.{nat_cmp, ordering_then}
use Rattle.std.specs.Cmp.Lexicographic.{slice_cmp}
use Rattle.std.specs.BTreeMap.{get}
use Rattle.ac_types.specs.Types.{Bytes, Typ, TAbs}
use Rattle.ac_types.specs.ReadTypes.{typ_of}
use Rattle.ac_terms.specs.Defs.{Environment}
use Rattle.ac_rules.specs.Views.{rounds, unsealed}
use Rattle.ac_check.specs.declared.heads.End.{End}
use Rattle.ac_check.specs.declared.heads.Heads.{Heads}
use Rattle.ac_check.specs.declared.heads.Step.{Step}
use Rattle.ac_check.specs.declared.heads.Step.TheVariants as step

-- a name, and the word of one of its abstract types
abbrev pub Key : Type 0
Key = Bytes × Bor Bytes

abbrev pub key_cmp : Key → Key → Ordering
key_cmp a b = ordering_then (slice_cmp nat_cmp a.0 b.0) (slice_cmp nat_cmp a.1.now b.1.now)

abbrev pub abstract_type : Key → Typ
abstract_type k = TAbs k.0 k.1.now

-- a type is that one after so many openings, which no more change; a head is a type after an opening for each entry
pub record IsEnd (E : Environment) (T : Typ) (e : End) : Type 0 where
  pub reached : rounds e.openings (unsealed E) T ≡ typ_of e.ty.now
  pub still : unsealed E (typ_of e.ty.now) ≡ typ_of e.ty.now
  pub soon : e.openings ≤ length E

-- what the map has for an abstract type is its end
unfoldable pub AreHeads : Environment → Heads → Type 0
AreHeads E h = (k : Key) → IfSome (get key_cmp h.found k) (IsEnd E (abstract_type k))

-- a type's end, or the abstract type that it is with what that stands for
abbrev pub StepsTo : Environment → Typ → Step → Type 0
StepsTo E T (step.End e) = IsEnd E T e
StepsTo E T (step.Next k next) = (T ≡ abstract_type k) × (typ_of next.now ≡ unsealed E T)
