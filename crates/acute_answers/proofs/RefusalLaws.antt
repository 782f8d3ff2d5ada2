-- An answer that refuses a text is given by what the refusal says.
use Rattle.std.proofs.Common.{◌≡◌, ℕ, Ok, Err, IfOk, sym, subst}
use Rattle.std.specs.Prelude.{Result, IsErrOf}
use Rattle.ac_types.specs.declared.memory.Memory.{Memory}
use Rattle.ac_load.specs.Kinds.{Says}
use Rattle.ac_load.specs.declared.kind.Kind.{Kind}
use Rattle.ac_load.specs.declared.kind.Kind.TheVariants as kind
use Rattle.ac_batch.proofs.Saying.{said}
use Rattle.acute_answers.specs.declared.answer.Answer.{Answer}
use Rattle.acute_answers.specs.declared.auditing.Unaudited.TheVariants as unaudited
use Rattle.acute_answers.specs.declared.status.TheConstants.Status.{REFUSED}
use Rattle.acute_answers.specs.Answers.{ShownAnswer, telling, answer_of}
use Rattle.acute_answers.specs.Lines.{refusal_line}

pub refused_so :
    (found : Result Answer Memory) (part : ℕ) (k : Kind) (P : Type 0) (Gives : ShownAnswer → Type 0) → IfOk found (λ a. answer_of a ≡ telling REFUSED (refusal_line part k)) → IfOk found (λ a. k ≡ kind.Memory → ⊥) →
    Says k P → (P → Gives (telling REFUSED (refusal_line part k))) → IfOk found (λ a. Gives (answer_of a))
refused_so (Ok a) part k P Gives is cause says gives = subst Gives (sym is) (gives (said k P cause says))
refused_so (Err m) part k P Gives is cause says gives = tt

-- one answer is that of a refused audit
pub one_refusal : {A : Type 0} (a b : Answer) → IsErrOf {T = A} (Err (unaudited.Refused b)) (unaudited.Refused a) → a ≡ b
one_refusal a b e = cc
