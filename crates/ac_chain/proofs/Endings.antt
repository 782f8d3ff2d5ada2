-- How a call ends, from what its steps give.
use Rattle.std.proofs.Common.{◌≡◌, inr, refl, sym, ap, subst, ℕ, zero, suc, List, [], ◌∷◌, length, Option, Some, None}
use Rattle.std.specs.Prelude.{option_map, IfOk, IfErr, OnErr, IsErrOf, Result, Ok, Err}
use Rattle.std.specs.Option.{option_or}
use Rattle.ac_types.specs.Types.{Bytes}
use Rattle.ac_terms.specs.Defs.{Environment}
use Rattle.ac_rules.specs.Views.{Mode}
use Rattle.ac_rules.specs.declared.loaded.Loaded.{Loaded}
use Rattle.ac_outside.specs.Outside.{Rose}
use Rattle.ac_load_rules.specs.Accepting.{Shelved}
use Rattle.ac_load_rules.specs.Causes.{first_below}
use Rattle.ac_colours.specs.Chains.{Programs}
use Rattle.ac_chain.specs.declared.chained.Chained.{Chained}
use Rattle.ac_chain.specs.declared.chained.ChainPart.{ChainPart}
use Rattle.ac_chain.specs.declared.chained.ChainFault.{ChainFault}
use Rattle.ac_chain.specs.declared.chained.ChainFault.TheVariants as fault
use Rattle.ac_chain.specs.Clashes.{clash_in, clash_behind, first_program_clash}
use Rattle.ac_chain.specs.ChainTexts.{programs_of, LoadAs}
use Rattle.ac_chain.specs.Endings.{Printed, HasRun, HasBegun, IsChainFault}
use Rattle.ac_chain.specs.inner.Running.{IsRunFault, AllRun, AllStopped}

-- what is found is a clash
abbrev IsClash : ChainFault → Type 0
IsClash (fault.Clash a i b j) = Unit {0}
IsClash f = ⊥

abbrev AreClash : Option ChainFault → Type 0
AreClash None = Unit {0}
AreClash (Some f) = IsClash f

either : (o p : Option ChainFault) → AreClash o → AreClash p → AreClash (option_or o p)
either None p h k = k
either (Some f) p h k = h

named : (a i b : ℕ) (o : Option ℕ) → AreClash (option_map (fault.Clash a i b) o)
named a i b None = tt
named a i b (Some j) = tt

of_behind : (a : ℕ) (E : Environment) (i b : ℕ) (qs : Programs) → AreClash (clash_behind a E i b qs)
of_behind a E i b [] = tt
of_behind a E i b (q ∷ qs) = either (option_map (fault.Clash a i b) (clash_in E i q.0)) (clash_behind a E i (suc b) qs) (named a i b (clash_in E i q.0)) (of_behind a E i (suc b) qs)

of_below : (n : ℕ) (f : ℕ → Option ChainFault) → ((i : ℕ) → AreClash (f i)) → AreClash (first_below n f)
of_below zero f h = tt
of_below (suc n) f h = either (first_below n f) (f n) (of_below n f h) (h n)

of_all : (a : ℕ) (ps : Programs) → AreClash (first_program_clash a ps)
of_all a [] = tt
of_all a (p ∷ ps) =
    either (first_below (length p.0) (λ i. clash_behind a p.0 i (suc a) ps)) (first_program_clash (suc a) ps) (of_below (length p.0) (λ i. clash_behind a p.0 i (suc a) ps) (λ i. of_behind a p.0 i (suc a) ps)) (of_all (suc a) ps)

module _ (texts : List Bytes) (shelf : List Shelved) (N : ℕ) (c : Printed) where
  module _ (ls : List Loaded) (load : LoadAs texts shelf (programs_of ls)) where
    -- two entries clash
    clash_fault_of : (f : ChainFault) → IsClash f → first_program_clash 0 (programs_of ls) ≡ Some f → IsChainFault texts shelf N c f
    clash_fault_of (fault.Refused program refusal) is h = absurd is
    clash_fault_of (fault.Clash a i b j) is h = record { programs = programs_of ls; load = load; is_first = h }
    clash_fault_of fault.WriteFault is h = absurd is
    clash_fault_of fault.Memory is h = absurd is

    pub clash_fault : (f : ChainFault) → Some f ≡ first_program_clash 0 (programs_of ls) → IsChainFault texts shelf N c f
    clash_fault f h = clash_fault_of f (subst AreClash (sym h) (of_all 0 (programs_of ls))) (sym h)

    module _ (apart : None ≡ first_program_clash 0 (programs_of ls)) where
      pub has_run : (mode : Mode) (parts : List ChainPart) → AllRun mode N c.told (programs_of ls) parts c.old c.new → HasRun texts shelf N c mode parts
      has_run mode parts r = record {
        runs = record { programs = programs_of ls; load = load; apart = sym apart; ends = r.ends; run = r.run };
        parts = r.are_parts;
        printed = r.printed;
      }

      has_begun : (mode : Mode) → AllStopped mode N c.told (programs_of ls) c.old c.new → HasBegun texts shelf N c mode
      has_begun mode s = record {
        runs = record { programs = programs_of ls; load = load; apart = sym apart; ends = s.ends; run = s.run };
        printed = s.printed;
      }

      pub run_fault : (f : ChainFault) → IsRunFault f → (f ≡ fault.WriteFault → Rose c.before c.after) → ((mode : Mode) → AllStopped mode N c.told (programs_of ls) c.old c.new) → IsChainFault texts shelf N c f
      run_fault (fault.Refused program refusal) is rose s = absurd is
      run_fault (fault.Clash a i b j) is rose s = absurd is
      run_fault fault.WriteFault is rose s = (rose refl, λ mode. has_begun mode (s mode))
      run_fault fault.Memory is rose s = inr (λ mode. has_begun mode (s mode))

      -- whatever the runs come to
      pub all_have_run : (r : Result Chained ChainFault) → IfOk r (λ x. (mode : Mode) → AllRun mode N c.told (programs_of ls) x.parts c.old c.new) → IfOk r (λ x. (mode : Mode) → HasRun texts shelf N c mode x.parts)
      all_have_run (Ok x) h = λ mode. has_run mode x.parts (h mode)
      all_have_run (Err f) h = tt

      pub all_faults : (r : Result Chained ChainFault) → IfErr r IsRunFault → (IsErrOf r fault.WriteFault → Rose c.before c.after) → OnErr r ((mode : Mode) → AllStopped mode N c.told (programs_of ls) c.old c.new) → IfErr r (IsChainFault texts shelf N c)
      all_faults (Ok x) is rose s = tt
      all_faults (Err f) is rose s = run_fault f is (λ e. rose (ap Err e)) s
