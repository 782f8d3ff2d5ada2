-- The packet's value among the entries that the packet brings: it is refused, or all is accepted; and what follows then.
use Rattle.std.proofs.Common.{◌≡◌, sym, ap, ◌∙◌, ℕ, true, false, List, ◌++◌, map, Some, None, IsTrue}
use Rattle.std.specs.Prelude.{is_none, nat_le}
use Rattle.std.specs.List.{list_all}
use Rattle.std.proofs.lemmas.List.{map-append}
use mathlib.Core.Path.{ap₂}
use Rattle.sha2.specs.Sha256.{sha256}
use Rattle.ac_types.specs.Types.{Typ, same}
use Rattle.ac_terms.specs.declared.def.Entry as code_entry
use Rattle.ac_terms.specs.declared.env.Env.{Env}
use Rattle.ac_terms.specs.declared.term.PVal.{PVal}
use Rattle.ac_terms.specs.Terms.{PValue}
use Rattle.ac_terms.specs.Defs.{Environment, Entry, Packet}
use Rattle.ac_terms.specs.Bounds.{fits_packet}
use Rattle.ac_terms.specs.Nesting.{value_nesting}
use Rattle.ac_terms.specs.Read.{environment_of, entry_of, value_of}
use Rattle.ac_terms.specs.Renumbered.{value_renumbered}
use Rattle.ac_rules.specs.Coherent.{IsCoherent, mark_of}
use Rattle.ac_rules.specs.Links.{has_arrived}
use Rattle.ac_rules.specs.Views.{Coloured}
use Rattle.ac_rules.specs.Typing.{holds, Holds}
use Rattle.ac_rules.specs.Packets.{NoValue, Accepts, cause, places, value_there}
use Rattle.ac_rules.specs.RoundTrip.{IsPackable}
use Rattle.ac_rules.specs.Widened.{Widens, IsKept}
use Rattle.ac_rules.proofs.Arrival.{HasArrived, arrival}
use Rattle.ac_rules.proofs.RoundTrip.{arrived_packable}
use Rattle.ac_rules.proofs.RebindingOwn.{rebinding_own}
use Rattle.ac_terms_renumber.specs.Numbers.{number_for}
use Rattle.ac_admit_placing.specs.Placed.{place_number}
use Rattle.ac_admit.specs.inner.Judging.{front_cause}
use Rattle.ac_admit.specs.inner.Spoken.{is_spoken}
use Rattle.ac_admit.proofs.CauseLaws.{held, not_held, no_cause}
use Rattle.ac_admit.proofs.PlaceLaws.{value_moved}

module _ (old : Env) (P : Packet) (T : Typ) (ns : List ℕ) (more : List code_entry.Entry) (v : PVal) where
  abbrev E : Environment
  E = environment_of old

  module _ (placed : E ++ map entry_of more ≡ (places sha256 E P.defs).0) (numbers : ns ≡ map place_number (places sha256 E P.defs).1) (moved : value_of v ≡ value_renumbered (number_for ns) P.value) where
    -- the entries of the code are those of the places, and so is the value
    all_there : map entry_of (old.entries ++ more) ≡ (places sha256 E P.defs).0
    all_there = map-append entry_of old.entries more ∙ placed

    value_is : value_of v ≡ value_there sha256 E P
    value_is = value_moved E P ns (value_of v) numbers moved

    held_is : holds Coloured false (map entry_of (old.entries ++ more)) (value_of v) T ≡ held E P T
    held_is = ap₂ (λ (X : Environment) (w : PValue). holds Coloured false X w T) all_there value_is

    module _ (none : front_cause E P.defs ≡ None) (of_type : same P.ty T ≡ true) (own_only : is_spoken P ≡ true) where
      pub refuses : holds Coloured false (map entry_of (old.entries ++ more)) (value_of v) T ≡ false → cause sha256 E P T ≡ Some NoValue
      refuses h = not_held E P T none of_type own_only (sym held_is ∙ h)

      pub accepts : (new : Env) → new.entries ≡ old.entries ++ more → Holds (environment_of new) (value_of v) T → Accepts E P T (environment_of new) (value_of v)
      accepts new grown holding = record {
        no_cause = no_cause E P T none of_type own_only (sym held_is ∙ ap (λ (es : List code_entry.Entry). holds Coloured false (map entry_of es) (value_of v) T) (sym grown) ∙ holding);
        entries = ap (map entry_of) grown ∙ all_there;
        value = value_is;
      }

module _ (E : Environment) (P : Packet) (T : Typ) (F : Environment) (v : PValue) (coherent : IsCoherent E) (fits : IsTrue (fits_packet P)) (accepts : Accepts E P T F v) where
  here : HasArrived E P T F v
  here = arrival E P T F v coherent fits accepts

  pub stays_coherent : IsCoherent F
  stays_coherent = here.coherent

  pub only_grows : (more : Environment) × (F ≡ E ++ more) × IsTrue (list_all (λ (e : Entry). has_arrived e.seen) more) × IsTrue (list_all (λ (e : Entry). is_none (mark_of e)) more)
  only_grows = (here.more, here.longer, here.arrived, here.no_marks)

  pub stays_packable : IsPackable F T v × IsTrue (nat_le (value_nesting v) 500)
  stays_packable = (arrived_packable E P T F v here, here.nests_little)

  pub kept_when_wider : (G : Environment) → Widens E G → IsCoherent G → IsKept (cause sha256 G P T)
  kept_when_wider G wider g_coherent = rebinding_own E G wider coherent g_coherent P T fits accepts.no_cause
