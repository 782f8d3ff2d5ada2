-- The machine and the reduction without brackets, side by side.
use Rattle.std.specs.Prelude.{◌≡◌, ℕ, Bool, []}
use Rattle.ac_types.specs.Types.{Bytes}
use Rattle.ac_terms.specs.Terms.{Expr, Value}
use Rattle.ac_terms.specs.Defs.{Environment}
use Rattle.ac_code.specs.Code.{Code}
use Rattle.ac_generate.specs.Generated.{block_number, entries_generated, program_code}
use Rattle.ac_rules.specs.Views.{Mode}
use Rattle.ac_values.specs.Values.{MValue}
use Rattle.ac_meaning.specs.Acts.{Outcome, Returned, Raised, Spent, Stuck}
use Rattle.ac_meaning.specs.BareTerms.{BareValue}
use Rattle.ac_meaning.specs.Reduction.{Ends}
use Rattle.ac_meaning.specs.BareReduction.{BareEnds}
use Rattle.ac_meaning.specs.Laws.{bare_end}
use Rattle.ac_machine_meaning.specs.Stands.{stands}
use Rattle.ac_machine_proof.specs.Running.{RunEnds}

-- the end that the machine's end stands for, over the code there is then
abbrev pub bare_outcome : Outcome (Code × MValue) → Outcome BareValue
bare_outcome (Returned m z) = Returned (stands m.0 m.1) z
bare_outcome (Raised x z) = Raised x z
bare_outcome (Spent z) = Spent z
bare_outcome Stuck = Stuck

-- the main block of a program
abbrev pub program_block : Environment → Expr → ℕ
program_block E e = block_number e (entries_generated E 0 E (record { blocks = []; fields = [] }))

-- begun at a block, the machine ends as the reduction of a term does: with what stands for the same value, or with the same exception, or in front of the same application, and the same was printed and sent, in the same order, and left to read. Of a reduction that gets stuck nothing is said
pub record RunsAlike (E : Environment) (K : Code) (block : ℕ) (e : Expr) : Type 0 where
  pub ends : (input : Bytes) (sends : Bool) (N : ℕ) (o : Outcome BareValue) → BareEnds E e input sends N o → (o ≡ Stuck → ⊥) → (p : Outcome (Code × MValue)) × RunEnds E K block input sends N p × (bare_outcome p ≡ o)
  pub once : (input : Bytes) (sends : Bool) (N : ℕ) (o p : Outcome (Code × MValue)) → RunEnds E K block input sends N o → RunEnds E K block input sends N p → o ≡ p

-- on the code of a program the machine comes to one end, and is never stuck; it is the program's own end in each mode
pub record Compiles (E : Environment) (e : Expr) : Type 0 where
  pub ends : (input : Bytes) (sends : Bool) (N : ℕ) → (p : Outcome (Code × MValue)) × RunEnds E (program_code E e) (program_block E e) input sends N p
  pub once : (input : Bytes) (sends : Bool) (N : ℕ) (o p : Outcome (Code × MValue)) → RunEnds E (program_code E e) (program_block E e) input sends N o → RunEnds E (program_code E e) (program_block E e) input sends N p → o ≡ p
  pub never_stuck : (input : Bytes) (sends : Bool) (N : ℕ) → RunEnds E (program_code E e) (program_block E e) input sends N Stuck → ⊥
  pub agrees : (mode : Mode) (input : Bytes) (sends : Bool) (N : ℕ) (o : Outcome Value) (p : Outcome (Code × MValue)) → Ends mode E e input sends N o → RunEnds E (program_code E e) (program_block E e) input sends N p → bare_outcome p ≡ bare_end o
