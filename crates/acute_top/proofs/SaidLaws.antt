-- A line that is written whole.
use Rattle.std.proofs.Common.{◌≡◌, List, ℕ, [], ◌∷◌, refl, sym}
use Rattle.ac_outside.specs.Outside.{Rose}
use Rattle.acute_answers.specs.declared.status.Status.{Status}
use Rattle.acute_answers.specs.declared.status.TheConstants.Status.{OUT_OF_MEMORY}
use Rattle.acute_top.specs.Streams.{Writing, AllWritten}
use Rattle.acute_top.specs.Saying.{Said, said, failed, no_memory, SaidIfAny}

module _ {end : Status} (m : end ≡ OUT_OF_MEMORY → ⊥) where
  pub said_wholly : (errors : Writing) → (Rose errors.before errors.after → ⊥) → {line : List ℕ} {status end' : Status} → end' ≡ end → Said errors line status end' → end ≡ status
  said_wholly errors e same (said w) = sym same
  said_wholly errors e same (failed rose p) = absurd (e rose)
  said_wholly errors e same (no_memory p) = absurd (m (sym same))

  pub said_if_any_wholly : (errors : Writing) → (Rose errors.before errors.after → ⊥) → (line : List ℕ) (status : Status) → SaidIfAny errors line status end → end ≡ status
  said_if_any_wholly errors e [] status s = s.0
  said_if_any_wholly errors e (c ∷ line) status s = said_wholly errors e refl s

  -- and stands there
  pub line_whole : (errors : Writing) → (Rose errors.before errors.after → ⊥) → {line : List ℕ} {status end' : Status} → end' ≡ end → Said errors line status end' → AllWritten errors line
  line_whole errors e same (said w) = w
  line_whole errors e same (failed rose p) = absurd (e rose)
  line_whole errors e same (no_memory p) = absurd (m (sym same))

  pub line_if_any_whole : (errors : Writing) → (Rose errors.before errors.after → ⊥) → (line : List ℕ) (status : Status) → SaidIfAny errors line status end → AllWritten errors line
  line_if_any_whole errors e [] status s = s.1
  line_if_any_whole errors e (c ∷ line) status s = line_whole errors e refl s
