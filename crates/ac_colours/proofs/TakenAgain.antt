-- A string that a marshal step gives is taken again by an unmarshal step at its type, there and over all that has come since.
use Rattle.std.proofs.Common.{◌≡◌, refl, inl, inr, sym, ap, subst, ℕ, Bool}
use Rattle.std.specs.Prelude.{false, IsTrue}
use Rattle.ac_types.specs.Types.{Bytes, Typ}
use Rattle.ac_terms.specs.Terms.{Home, Expr, Unmarshal, VStr}
use Rattle.ac_terms.specs.Defs.{Environment}
use Rattle.ac_terms.specs.Bounds.{fits_term}
use Rattle.ac_rules.specs.Growth.{Grows}
use Rattle.ac_rules.specs.Views.{Mode}
use Rattle.ac_meaning.specs.Acts.{Is, Turns, At, Leads, part}
use Rattle.ac_meaning.specs.Laws.{IsTypedProgram}
use Rattle.ac_meaning.specs.Packing.{Landing, Sinks, Lands, landing, brought, brings, raising, unmarshal_step}
use Rattle.ac_meaning.specs.ReadBack.{IsReadBack, Marshals}
use Rattle.ac_meaning.specs.Reduction.{look, step}
use Rattle.ac_meaning.specs.Worlds.{Read, World, with_crossing, grown, fresh}
use Rattle.ac_meaning.specs.Rebuilding.{rebuilt}
use Rattle.ac_meaning.proofs.MarshalledRead.{marshalled_is_read, marshalled_is_read_here}
use Rattle.ac_colours.specs.Retaking.{IsTakenAgain}

brings_again : (mode : Mode) (y : World) (c : Home) (U : Typ) (l : Landing) → IsReadBack l → IsTakenAgain (brings mode y U (brought c U l))
brings_again mode y c U (Sinks x) (inl e) = inr (inl (y, U, ap (λ x. Turns y (raising U x)) e))
brings_again mode y c U (Sinks x) (inr e) = inr (inr (e.0, (y, U, ap (λ x. Turns y (raising U x)) e.1)))
brings_again mode y c U (Lands F v) h = inl (grown F y, U, rebuilt mode F c U v, refl)

step_again : (mode : Mode) (y : World) (c : Home) (U : Typ) (d : Expr) (s : Bytes) → look mode y c d ≡ Is (VStr s) → IsReadBack (landing y.environment U s) → IsTakenAgain (look mode y c (Unmarshal U d))
step_again mode y c U d s q h = subst IsTakenAgain (sym (ap (part (Unmarshal U) (unmarshal_step mode y c U)) q)) (brings_again mode (with_crossing (Read s) y) c U (landing y.environment U s) h)

pub taken_again : (E : Environment) (e : Expr) (T : Typ) → IsTypedProgram E e T → IsTrue (fits_term false e) → (mode : Mode) (input : Bytes) (sends : Bool) (N : ℕ) (t : Expr) (z : World) → Leads (step mode N) (At e (fresh E input sends)) (At t z) →
    (U : Typ) (s : Bytes) → Marshals mode z t U s → (c : Home) (d : Expr) → look mode z c d ≡ Is (VStr s) → IsTakenAgain (look mode z c (Unmarshal U d))
taken_again E e T p fits mode input sends N t z leads U s m c d q = step_again mode z c U d s q (marshalled_is_read_here E e T p fits mode input sends N t z leads U s m)

pub taken_later : (E : Environment) (e : Expr) (T : Typ) → IsTypedProgram E e T → IsTrue (fits_term false e) → (mode : Mode) (input : Bytes) (sends : Bool) (N : ℕ) (t : Expr) (z : World) → Leads (step mode N) (At e (fresh E input sends)) (At t z) →
    (U : Typ) (s : Bytes) → Marshals mode z t U s → (y : World) → Grows z.environment y.environment → (c : Home) (d : Expr) → look mode y c d ≡ Is (VStr s) → IsTakenAgain (look mode y c (Unmarshal U d))
taken_later E e T p fits mode input sends N t z leads U s m y g c d q = step_again mode y c U d s q (marshalled_is_read E e T p fits mode input sends N t z leads U s m y.environment g)
