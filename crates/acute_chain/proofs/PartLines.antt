-- The lines of a chain's parts are those of its ends.
use Rattle.std.proofs.Common.{◌≡◌, refl, ap₂, ℕ, ◌+◌, Bool, List, [], ◌∷◌, ◌++◌, flat_map}
use Rattle.std.specs.Prelude.{codes}
use Rattle.std.specs.Fmt.{decimal}
use Rattle.ac_types.specs.Types.{Bytes}
use Rattle.ac_terms.specs.Terms.{Value}
use Rattle.ac_meaning.specs.Acts.{Outcome, Returned, Raised, Spent, Stuck, crossings_of}
use Rattle.ac_text.specs.NumberedLines.{lines_from}
use Rattle.ac_run.specs.declared.end.RunEnd.{RunEnd}
use Rattle.ac_run.specs.declared.end.RunEnd.TheVariants as end
use Rattle.ac_chain.specs.declared.chained.ChainPart.{ChainPart}
use Rattle.ac_chain.specs.Natives.{made_by}
use Rattle.ac_chain.specs.ChainMeaning.{EndsAs, IsChainPart, AreParts}
use Rattle.ac_chain.specs.StringLines.{end_status, native_line, part_lines}
use Rattle.acute_chain.specs.Chaining.{run_status, end_lines, lines_behind}

status_is : (N : ℕ) (e : RunEnd) (o : Outcome Value) → EndsAs N e o → end_status e ≡ run_status o
status_is N end.Finished (Returned v z) h = refl
status_is N end.Finished (Raised x z) h = absurd h
status_is N end.Finished (Spent z) h = absurd h
status_is N end.Finished Stuck h = absurd h
status_is N (end.Uncaught e) (Returned v z) h = absurd h
status_is N (end.Uncaught e) (Raised x z) h = refl
status_is N (end.Uncaught e) (Spent z) h = absurd h
status_is N (end.Uncaught e) Stuck h = absurd h
status_is N (end.Spent steps) (Returned v z) h = absurd h
status_is N (end.Spent steps) (Raised x z) h = absurd h
status_is N (end.Spent steps) (Spent z) h = refl
status_is N (end.Spent steps) Stuck h = absurd h
status_is N end.ReadFault (Returned v z) h = absurd h
status_is N end.ReadFault (Raised x z) h = absurd h
status_is N end.ReadFault (Spent z) h = absurd h
status_is N end.ReadFault Stuck h = absurd h
status_is N end.WriteFault (Returned v z) h = absurd h
status_is N end.WriteFault (Raised x z) h = absurd h
status_is N end.WriteFault (Spent z) h = absurd h
status_is N end.WriteFault Stuck h = absurd h
status_is N end.Memory (Returned v z) h = absurd h
status_is N end.Memory (Raised x z) h = absurd h
status_is N end.Memory (Spent z) h = absurd h
status_is N end.Memory Stuck h = absurd h

one_part : (N : ℕ) (told : Bool) (k : ℕ) (made : List Bytes) (o : Outcome Value) (part : ChainPart) → IsChainPart N told made o part → part_lines k part ≡ end_lines k made o
one_part N told k made o part h =
    ap₂ (λ (s : ℕ) (ns : List Bool). (codes "program " ++ (decimal k ++ (codes ": status " ++ (decimal s ++ codes "\n")))) ++ flat_map native_line ns) (status_is N part.end o h.ends) h.native

pub lines_are : (N : ℕ) (told : Bool) (k : ℕ) (made : List Bytes) (os : List (Outcome Value)) (parts : List ChainPart) → AreParts N told made os parts → lines_from part_lines k parts ≡ lines_behind k made os
lines_are N told k made [] [] h = refl
lines_are N told k made [] (part ∷ parts) h = absurd h
lines_are N told k made (o ∷ os) [] h = absurd h
lines_are N told k made (o ∷ os) (part ∷ parts) h =
    ap₂ (λ (a b : Bytes). a ++ b) (one_part N told k made o part h.0) (lines_are N told (k + 1) (made_by made (crossings_of o)) os parts h.1)
