-- What becomes of a string that a program marshals.
use Rattle.std.specs.Prelude.{◌≡◌, ◌⊎◌, Some, codes}
use Rattle.ac_types.specs.Types.{Bytes, Typ}
use Rattle.ac_terms.specs.Terms.{Home, Main, Expr, Str, Marshal}
use Rattle.ac_rules.specs.Views.{Mode}
use Rattle.ac_meaning.specs.Worlds.{Made, World, with_crossing}
use Rattle.ac_meaning.specs.Acts.{Turns}
use Rattle.ac_meaning.specs.Packing.{Landing, Lands, Sinks, unmarshal_failure_exn, resolve_failure_exn}
use Rattle.ac_meaning.specs.Reduction.{look}
use Rattle.ac_meaning.specs.Redexes.{redex}

-- it lands, or is refused as full or for want of a link
abbrev pub IsReadBack : Landing → Type 0
IsReadBack (Lands F v) = Unit {0}
IsReadBack (Sinks x) = (x ≡ unmarshal_failure_exn (codes "full")) ⊎ ((name : Bytes) × (x ≡ resolve_failure_exn name))

-- what is next in a term of the main program is to marshal at a type, which gives a string
pub record Marshals (mode : Mode) (z : World) (e : Expr) (T : Typ) (s : Bytes) : Type 0 where
  pub home : Home
  pub mark : Expr
  pub packed : Expr
  pub is_next : redex Main e ≡ Some (record { home = home; term = Marshal T mark packed })
  pub gives : look mode z home (Marshal T mark packed) ≡ Turns (with_crossing (Made s) z) (Str s)
