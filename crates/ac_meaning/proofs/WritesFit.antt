-- What a typed program within the bounds writes is short, and what it raises is an exception of the language.
use Rattle.std.proofs.Common.{◌≡◌, subst, ℕ, ◌≤◌, Bool, true, false, List, [], ◌∷◌, ◌++◌, length, Option, Some, None}
use Rattle.std.specs.Prelude.{IsTrue, nat_le}
use Rattle.std.specs.Option.{option_map_or}
use Rattle.std.proofs.lemmas.Bool.Decides.{nat_tests}
use native.Mathlib.Omega.{arith}
use Rattle.ac_types.specs.Types.{Bytes, Typ}
use Rattle.ac_terms.specs.Terms.{Expr, Value}
use Rattle.ac_terms.specs.Defs.{Environment}
use Rattle.ac_terms.specs.Bounds.{fits_term, is_string}
use Rattle.ac_rules.specs.Views.{Mode}
use Rattle.ac_types.specs.Limits.{longest_frame, longest_string}
use Rattle.ac_meaning.specs.Writes.{Write, string_of}
use Rattle.ac_meaning.specs.Worlds.{Exception, World, IsShortText, IsException, fresh}
use Rattle.ac_meaning.specs.Acts.{Outcome, Returned, Raised, Spent, Stuck, At, Over, writes_of}
use Rattle.ac_meaning.specs.Reduction.{Ends}
use Rattle.ac_meaning.specs.Laws.{IsTypedProgram}
use Rattle.ac_meaning.proofs.Homes.{lower}
use Rattle.ac_meaning.proofs.Within.{RaisedWithin, WritesWithin}
use Rattle.ac_meaning.proofs.WithinSteps.{StateWithin}
use Rattle.ac_meaning.proofs.MarshalledRead.{IsBounded, run_bounded, starts_bounded}

at_most : (n : ℕ) → nat_le n longest_string ≡ true → n ≤ longest_frame
at_most n h = grind (arith, nat_tests)

one_short : (ws before after : List Write) (w : Write) → ws ≡ before ++ w ∷ after → WritesWithin ws → length (string_of w) ≤ longest_frame
one_short ws before after w e h = by before (subst WritesWithin e h)
  where
    by : (before : List Write) → WritesWithin (before ++ w ∷ after) → length (string_of w) ≤ longest_frame
    by [] h = at_most (length (string_of w)) h.0
    by (b ∷ before) h = by before h.1

short_text : (o : Option Bytes) → option_map_or is_string o true ≡ true → IsShortText o
short_text None h = tt
short_text (Some s) h = at_most (length s) h

pub is_exception_of : (x : Exception) → RaisedWithin x → IsException x
is_exception_of x h = (h.0, short_text x.text h.1)

-- the end of a run is within the bounds
module _ (E : Environment) (e : Expr) (T : Typ) (typed : IsTypedProgram E e T) (fits : IsTrue (fits_term false e)) (mode : Mode) (input : Bytes) (sends : Bool) (N : ℕ) where
  end_within : (o : Outcome Value) → Ends mode E e input sends N o → StateWithin (Over o)
  end_within o end = (subst (IsBounded mode (lower E mode T)) end.1 (run_bounded mode (lower E mode T) N end.0 (At e (fresh E input sends)) (starts_bounded E e T typed fits mode input sends))).1

  written_within : (o : Outcome Value) → StateWithin (Over o) → WritesWithin (writes_of o)
  written_within (Returned v z) h = h.1
  written_within (Raised x z) h = h.1
  written_within (Spent z) h = h
  written_within Stuck h = tt

  pub writes_short : (o : Outcome Value) → Ends mode E e input sends N o → (before after : List Write) (w : Write) → writes_of o ≡ before ++ w ∷ after → length (string_of w) ≤ longest_frame
  writes_short o end before after w e = one_short (writes_of o) before after w e (written_within o (end_within o end))

  pub raises_exception : (x : Exception) (z : World) → Ends mode E e input sends N (Raised x z) → IsException x
  raises_exception x z end = is_exception_of x (end_within (Raised x z) end).0
