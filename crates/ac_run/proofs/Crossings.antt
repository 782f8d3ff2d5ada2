-- The machine gets what crosses, or the exception of why nothing does.
use Rattle.std.proofs.Common.{◌≡◌, inl, inr, ℕ, false, List, [], ◌∷◌, Option, Some, None, refl, sym, ◌∙◌, subst, subst₂}
use Rattle.std.specs.Prelude.{Err, OnOk, OnErr}
use Rattle.std.specs.declared.result.Result.{Result}
use Rattle.ac_types.specs.ReadNumbers.{exn_number, exn_text}
use Rattle.ac_types.specs.declared.memory.Memory.{Memory}
use Rattle.ac_types.specs.Types.{Bytes}
use Rattle.ac_terms.specs.Terms.{PValue}
use Rattle.ac_terms.specs.Defs.{Environment}
use Rattle.ac_types.specs.declared.exceptions.Exn.{Exn}
use Rattle.ac_code.specs.Code.{Code}
use Rattle.ac_generate.specs.Generated.{value_generated, value_number}
use Rattle.ac_machine_engine.specs.States.{Core, MState}
use Rattle.ac_machine_engine.specs.Resumes.{resumed, resumed_text, with_block, with_raise}
use Rattle.ac_machine_engine.specs.Seen.{MachineSeen, standing}
use Rattle.ac_rules.specs.Faults.{Marshalled, NoString, AString}
use Rattle.ac_meaning.specs.Worlds.{Exception, Crossing, Made}
use Rattle.ac_meaning.specs.ReadExn.{exn_of}
use Rattle.ac_meaning.specs.Packing.{CannotPack, Packs, answer, of_fault, Landing, Sinks, Lands}
use Rattle.ac_machine_proof.specs.Running.{with_more}
use Rattle.ac_pack.specs.Crossing.{Departs, HasLanded, Enters}
use Rattle.ac_pack.specs.declared.fault.CrossFault.{CrossFault}
use Rattle.ac_pack.specs.declared.fault.CrossFault.TheVariants as fault
use Rattle.ac_run.specs.inner.Crossed.{Answered, Marshals, Unmarshals}
use Rattle.ac_run.specs.inner.Notes.{HasTaken, Notes}
use Rattle.ac_run.specs.inner.Turns.{Served}
use Rattle.ac_run.specs.declared.end.RunEnd.{RunEnd}
use Rattle.ac_run.specs.declared.end.RunEnd.TheVariants as end
use Rattle.ac_run.specs.declared.journal.Journal.{Journal}
use Rattle.ac_run.proofs.Courses.{with_none, all_made, answers}

same_string : (s u : Bytes) → Packs s ≡ Packs u → s ≡ u
same_string s u e = cc

same_exception : (x y : Exception) → CannotPack x ≡ CannotPack y → x ≡ y
same_exception x y e = cc

same_cause : (x y : Exception) → Sinks x ≡ Sinks y → x ≡ y
same_cause x y e = cc

same_landing : (F G : Environment) (v w : PValue) → Lands F v ≡ Lands G w → (F ≡ G) × (v ≡ w)
same_landing F G v w e = (cc, cc)

noted : (xs : List Crossing) (old new : Journal) (r : Option RunEnd) → HasTaken xs old new → Notes xs old new r
noted xs old new None h = h
noted xs old new (Some e) h = inr h

-- the machine is answered, and nothing is written
module _ (m n : MachineSeen) (r : Option RunEnd) where
  lost : (gives : Core → MState) → r ≡ Some end.Memory → Answered gives m n r
  lost gives e told now = subst (λ r. Served told gives [] m n now now r) (sym e) (inr (all_made told [] now now (λ t. sym (with_none now))))

  -- an answer that the machine has taken, or for which memory ran out
  pub taken : (gives : Core → MState) (x : Result (Unit {0}) Memory) → OnOk x ((m.lost ≡ false) × (n.lost ≡ false) × (standing n ≡ resumed gives (standing m))) → OnOk x (r ≡ None) → OnErr x (r ≡ Some end.Memory) → Answered gives m n r
  taken gives x resumes ok err told now = answers told gives [] m n now now (λ t. sym (with_none now)) x r resumes ok err

  -- a fault raises its exception, or is want of memory
  abbrev FaultAnswered : CrossFault → Type 0
  FaultAnswered f = ((e : Exn) → f ≡ fault.Raise e → Answered (with_raise (exn_number e) (exn_text e)) m n r) × (f ≡ fault.Memory → r ≡ Some end.Memory)

  module _ (old new : Journal) where
    -- the string of a value is the answer
    pub string_answers : (q : Marshalled) (s : Bytes) → answer q ≡ Packs s → Answered (resumed_text s) m n r → HasTaken (Made s ∷ []) old new → Marshals q m n old new r
    string_answers (AString u) s h got taken = subst (λ u. Answered (resumed_text u) m n r × Notes (Made u ∷ []) old new r) (same_string s u (sym h)) (got, noted (Made s ∷ []) old new r taken)
    string_answers (NoString f) s h got taken = let apart : CannotPack (of_fault f) ≡ Packs s = h in absurd cc

    -- or there is no memory for it
    pub no_string : (q : Marshalled) → r ≡ Some end.Memory → new ≡ old → Marshals q m n old new r
    no_string (AString s) e same = (lost (resumed_text s) e, subst (λ r. Notes (Made s ∷ []) old new r) (sym e) (inl same))
    no_string (NoString f) e same = (lost (with_raise (of_fault f).number (of_fault f).text) e, same)

    -- or the exception of its fault is
    pub fault_answers : (q : Marshalled) (f : CrossFault) → Departs (answer q) (Err f) → FaultAnswered f → new ≡ old → Marshals q m n old new r
    fault_answers (AString u) (fault.Raise x) h got same = let apart : Packs u ≡ CannotPack (exn_of x) = h in absurd cc
    fault_answers (NoString g) (fault.Raise x) h got same = (subst (λ y. Answered (with_raise y.number y.text) m n r) (same_exception (exn_of x) (of_fault g) (sym h)) (got.0 x refl), same)
    fault_answers q fault.Memory h got same = no_string q (got.1 refl) same

  module _ (E F : Environment) (K L : Code) where
    -- the block of what has landed is the answer, over the definitions and the code then
    pub block_answers : (l : Landing) (b : ℕ) → HasLanded l E K F L b → Answered (with_block b) m n r → Unmarshals l E K F L m n r
    block_answers (Lands G v) b h got =
        let s = same_landing F G h.value v (sym h.lands) in (
          (λ is. (s.0, subst₂ (λ G v. L ≡ value_generated v (with_more E G K)) s.0 s.1 h.code)),
          subst₂ (λ G v. Answered (with_block (value_number v (with_more E G K))) m n r) s.0 s.1 (subst (λ b. Answered (with_block b) m n r) h.number got),
        )
    block_answers (Sinks x) b h got = let apart : Sinks x ≡ Lands F h.value = h.lands in absurd cc

    goes_not : {P : Type 0} → r ≡ Some end.Memory → r ≡ None → P
    goes_not e is = let same = sym is ∙ e in absurd cc

    -- or there is no memory for it
    pub no_block : (l : Landing) → r ≡ Some end.Memory → Unmarshals l E K F L m n r
    no_block (Lands G v) e = (goes_not e, lost (with_block (value_number v (with_more E G K))) e)
    no_block (Sinks x) e = (goes_not e, lost (with_raise x.number x.text) e)

    -- or the exception of why nothing has landed is, and then nothing has changed
    pub refused_answers : (l : Landing) (f : CrossFault) → Enters l E K F L (Err f) → FaultAnswered f → Unmarshals l E K F L m n r
    refused_answers (Lands G v) (fault.Raise x) h got = let apart : Lands G v ≡ Sinks (exn_of x) = h.0 in absurd cc
    refused_answers (Sinks x) (fault.Raise y) h got = ((λ is. (h.1, h.2)), subst (λ x. Answered (with_raise x.number x.text) m n r) (same_cause (exn_of y) x (sym h.0)) (got.0 y refl))
    refused_answers l fault.Memory h got = no_block l (got.1 refl)
