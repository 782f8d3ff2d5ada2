-- The run of a text that is refused ends as the text means.
use Rattle.std.proofs.Common.{◌≡◌, ℕ, List, Option, ◌⊎◌, inl, inr, refl}
use Rattle.ac_types.specs.Types.{Bytes}
use Rattle.acute_words.specs.Commands.{ChannelName, ProgramFiles}
use Rattle.ac_load_rules.specs.Accepting.{Shelved}
use Rattle.ac_load.specs.Loading.{Rejects}
use Rattle.ac_load.specs.Kinds.{Says}
use Rattle.ac_load.specs.declared.kind.Kind.{Kind}
use Rattle.ac_load.specs.declared.kind.Kind.TheVariants as kind
use Rattle.acute_files.specs.Files.{IsTextOf}
use Rattle.acute_files.specs.ProgramTexts.{IsShelfBy}
use Rattle.ac_batch.proofs.Saying.{said}
use Rattle.acute_answers.specs.declared.status.Status.{Status}
use Rattle.acute_answers.specs.declared.status.TheConstants.Status.{REFUSED, OUT_OF_MEMORY}
use Rattle.acute_answers.specs.Lines.{refusal_line}
use Rattle.acute_answers.specs.Meaning.{refusal, refused}
use Rattle.acute_top.specs.Streams.{memory_line}
use Rattle.acute_top.specs.Saying.{Said}
use Rattle.acute_top.specs.Stages.{AtTexts}
use Rattle.acute_top.specs.Handed.{Handed, Untouched}
use Rattle.acute_top.specs.RunEndings.{RunEnded, is_refused}
use Rattle.acute_top.proofs.PlaceLaws.{read_all}
use Rattle.acute_top.proofs.EndingLaws.{Still, still_whole, end_early}

module _ (prog : ProgramFiles) (steps : ℕ) (from to : Option ChannelName) (o : Handed) (shelf : List Shelved) (is_shelf : IsShelfBy o.files prog.shelf shelf) (text : Bytes) (is_text : IsTextOf (o.files prog.file) text) (still : Still o.output) (same : Untouched to o) (at : o.stage ≡ AtTexts) where
  -- the line of a refusal, or that of want of memory in its place
  pub end_refusal : (part : ℕ) (k : Kind) → Says k (Rejects text shelf part k) → (end : Status) → (Said o.errors (refusal_line part k) REFUSED end × (k ≡ kind.Memory → ⊥)) ⊎ Said o.errors memory_line OUT_OF_MEMORY end → RunEnded prog steps from to o end
  end_refusal part k h end (inl s) =
      is_refused (read_all prog steps from to o shelf is_shelf text is_text) (refusal REFUSED (refusal_line part k)) (λ mode. refused part k (said k (Rejects text shelf part k) s.1 h)) refl (still_whole o.output still) same at s.0
  end_refusal part k h end (inr s) = end_early prog steps from to o still same at end s
