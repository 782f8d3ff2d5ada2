-- A value of a type without functions and abstract types comes back: in every program, in the reductions' steps, and as the same string.
use Rattle.std.proofs.Common.{◌≡◌, sym, ap, ◌∙◌, subst, ℕ, true}
use Rattle.std.specs.Prelude.{is_some}
use Rattle.ac_types.specs.Types.{Bytes, Typ}
use Rattle.ac_terms.specs.Terms.{Home, Main, Str, Unmarshal, Evaluated, PValue, Value, VStr}
use Rattle.ac_terms.specs.Defs.{Environment}
use Rattle.ac_rules.specs.Views.{Mode, Plain, Coloured, view}
use Rattle.ac_rules.specs.Typing.{is_home}
use Rattle.ac_rules.specs.Plain.{packed}
use Rattle.ac_rules.specs.Needed.{mark_at}
use Rattle.ac_rules.specs.Coherent.{IsCoherent}
use Rattle.ac_meaning.specs.Worlds.{World, Made, with_crossing}
use Rattle.ac_meaning.specs.Acts.{Turns, part, Returned, At, Over, after, iter, Leads}
use Rattle.ac_meaning.specs.BareTerms.{BStr, BUnmarshal, BVal, WStr, bare_term, bare_value, unpacked}
use Rattle.ac_meaning.specs.BarePacking.{bare_packed}
use Rattle.ac_meaning.specs.BareReduction as lean
use Rattle.ac_meaning.specs.Packing.{Packs, packing, packs, bare_packs, answer, marshal_step, bare_marshal_step, unmarshal_step, bare_unmarshal_step, brings, bare_brings, Lands, landing, Brings, brought}
use Rattle.ac_meaning.specs.Rebuilding.{rebuilt}
use Rattle.ac_meaning.specs.Reduction.{step}
use Rattle.ac_meaning.specs.Typed.{ValueTyped}
use Rattle.ac_meaning.proofs.Admitted.{arrives}
use Rattle.ac_meaning.proofs.PackedAlike.{packed_alike}
use Rattle.ac_meaning.proofs.RebuiltBare.{rebuilt_bare}
use Rattle.ac_round_trip.specs.Strings.{IsString, IsData, BringsAgain, there_and_back, given_and_read, ComesBackIn, BareComesBackIn, ComesBackThere}
use Rattle.ac_round_trip.proofs.WhatIsRead.{packing_of, made_of}
use Rattle.ac_round_trip.proofs.Unpacked.{unpacked_packed}
use Rattle.ac_round_trip.proofs.DataTypes.{data_known}
use Rattle.ac_round_trip.proofs.DataStrings.{lands_anywhere, holds_there, made_there}
use Rattle.ac_round_trip.proofs.DataAgain.{packed_again, main_again}
use Rattle.ac_round_trip.proofs.DataCopies.{data_view, data_copied}

-- without brackets the same string is given
pub bare_gives : (mode : Mode) (z : World) (c : Home) (T : Typ) (v : Value) (mark s : Bytes) → IsString mode z c T v mark s → bare_marshal_step z T (WStr mark) (bare_value c v) ≡ Turns (with_crossing (Made s) z) (BStr s)
bare_gives mode z c T v mark s h =
    ap (λ w. bare_packs z (packing z T mark w)) (packed_alike mode z.environment v c (view mode z.environment c T) T h.typed) ∙ ap (bare_packs z) (packing_of h)

module _ (mode : Mode) (z : World) (c : Home) (T : Typ) (v : Value) (mark s : Bytes) (h : IsString mode z c T v mark s) (is_data : IsData T) where
  abbrev w : PValue
  w = packed z.environment c v T

  loses_nothing : unpacked w ≡ bare_value c v
  loses_nothing = unpacked_packed z.environment v c T h.packable.value_fits

  -- it comes to each home of each program
  module _ (y : World) (coherent : IsCoherent y.environment) (d : Home) where
    abbrev F : Environment
    F = y.environment

    lands_so : landing F T s ≡ Lands F w
    lands_so = lands_anywhere z.environment h.coherent mark T w s is_data h.packable (made_of h) F coherent

    is_typed : ValueTyped mode z.environment v c T
    is_typed = subst (ValueTyped mode z.environment v c) (data_view mode z.environment c T is_data.no_name) h.typed

    pub comes_back : BringsAgain z.environment c v y d T s
    comes_back = record {
      again = λ now. rebuilt now F d T w;
      brings = ap (brought d T) lands_so ∙ ap (Brings F (λ now. rebuilt now F d T w)) loses_nothing;
      same = λ now. rebuilt_bare now F w d T ∙ loses_nothing;
      is_copy = λ now. data_copied mode now z.environment F (λ j. j) c d v T is_data is_typed;
    }

    -- what comes back is packed there into the same string
    module _ (other : Bytes) (marked : is_some (mark_at F other) ≡ true) where
      packs_again : packing y T other w ≡ Packs s
      unfolding packing
      packs_again = ap answer (made_there z.environment h.coherent mark T w s is_data h.packable (made_of h) F coherent other marked)

      bare_same : bare_packed F (bare_value c v) T ≡ w
      bare_same =
          ap (λ x. bare_packed F x T) (sym loses_nothing) ∙ packed_again F w T is_data (holds_there z.environment h.coherent mark T w s is_data h.packable (made_of h) F coherent)

      pub bare_string : bare_marshal_step y T (WStr other) (bare_value c v) ≡ Turns (with_crossing (Made s) y) (BStr s)
      bare_string = ap (λ x. bare_packs y (packing y T other x)) bare_same ∙ ap (bare_packs y) packs_again

      module _ (home : is_home F d ≡ true) (b : BringsAgain z.environment c v y d T s) (now : Mode) where
        typed : ValueTyped now F (b.again now) d (view now F d T)
        typed = arrives.typed now y d T s F b.again (bare_value c v) coherent home (data_known F T is_data.no_name) b.brings

        packed_same : packed F d (b.again now) T ≡ w
        packed_same = sym (packed_alike now F (b.again now) d (view now F d T) T typed) ∙ ap (λ x. bare_packed F x T) (b.same now) ∙ bare_same

        pub same_string : marshal_step y d T (VStr other) (b.again now) ≡ Turns (with_crossing (Made s) y) (Str s)
        same_string = ap (λ x. packs y (packing y T other x)) packed_same ∙ ap (packs y) packs_again

-- what `unmarshal (marshal MARK v : T) as T` becomes in a home
module _ (mode : Mode) (z : World) (c : Home) (T : Typ) (v : Value) (mark s : Bytes) (h : IsString mode z c T v mark s) (is_data : IsData T) where
  abbrev back : BringsAgain z.environment c v (with_crossing (Made s) z) c T s
  back = comes_back mode z c T v mark s h is_data (with_crossing (Made s) z) h.coherent c

  pub comes_back_in : ComesBackIn mode z c T v mark s
  comes_back_in = (
    back.again mode,
    back.is_copy mode,
    back.same mode,
    ap (part (Unmarshal T) (unmarshal_step mode z c T)) h.gives,
    ap (brings mode (given_and_read z s) T) back.brings,
  )

  pub bare_comes_back_in : BareComesBackIn z c T v mark s
  bare_comes_back_in = (
    ap (part (BUnmarshal T) (bare_unmarshal_step z c T)) (bare_gives mode z c T v mark s h),
    ap (bare_brings (given_and_read z s) T) back.brings,
  )

-- the steps of `unmarshal (marshal MARK v : T) as T` in the main program
module _ (z : World) (T : Typ) (v : Value) (mark s : Bytes) where
  abbrev given_world : World
  given_world = with_crossing (Made s) z

  -- in the main program it is literally the value, where no home opens a name that isn't its own
  literal : (mode : Mode) (h : IsString mode z Main T v mark s) (is_data : IsData T) → mode ≡ Coloured → (comes_back mode z Main T v mark s h is_data given_world h.coherent Main).again mode ≡ v
  unfolding comes_back
  literal Coloured h is_data e = main_again z.environment v T is_data (subst (ValueTyped Coloured z.environment v Main) (data_view Coloured z.environment Main T is_data.no_name) h.typed)
  literal Plain h is_data e = absurd cc

  module _ (mode : Mode) (h : IsString mode z Main T v mark s) (is_data : IsData T) (N : ℕ) where
    abbrev b : BringsAgain z.environment Main v given_world Main T s
    b = comes_back mode z Main T v mark s h is_data given_world h.coherent Main

    marshals : step mode N (At (there_and_back T mark v) z) ≡ At (Unmarshal T (Str s)) given_world
    marshals = ap (λ a. after N z (part (Unmarshal T) (unmarshal_step mode z Main T) a)) h.gives

    reads : step mode N (At (Unmarshal T (Str s)) given_world) ≡ At (Evaluated T (b.again mode)) (given_and_read z s)
    reads = ap (λ a. after N given_world (brings mode (given_and_read z s) T a)) b.brings

    leads : Leads (step mode N) (At (there_and_back T mark v) z) (Over (Returned (b.again mode) (given_and_read z s)))
    leads = (3, ap (iter (step mode N) 2) marshals ∙ ap (iter (step mode N) 1) reads)

    pub leads_back : ComesBackThere mode N z T v mark s
    leads_back = (b.again mode, b.is_copy mode, b.same mode, literal mode h is_data, leads)

    bare_marshals : lean.step N (At (bare_term Main (there_and_back T mark v)) z) ≡ At (BUnmarshal T (BStr s)) given_world
    bare_marshals = ap (λ a. after N z (part (BUnmarshal T) (bare_unmarshal_step z Main T) a)) (bare_gives mode z Main T v mark s h)

    bare_reads : lean.step N (At (BUnmarshal T (BStr s)) given_world) ≡ At (BVal T (bare_value Main v)) (given_and_read z s)
    bare_reads = ap (λ a. after N given_world (bare_brings (given_and_read z s) T a)) b.brings

    pub leads_back_bare : Leads (lean.step N) (At (bare_term Main (there_and_back T mark v)) z) (Over (Returned (bare_value Main v) (given_and_read z s)))
    leads_back_bare = (3, ap (iter (lean.step N) 2) bare_marshals ∙ ap (iter (lean.step N) 1) bare_reads)
