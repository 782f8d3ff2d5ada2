-- What a run leaves is what its program means.
use Rattle.std.proofs.Common.{◌≡◌, ◌≤◌, ◌⊎◌, ℕ, true, IsTrue, List, [], Option, is_some, subst, ap, ◌∙◌, refl}
use Rattle.ac_types.specs.Types.{Bytes}
use Rattle.ac_types.specs.ReadTypes.{typ_of}
use Rattle.ac_terms.specs.Terms.{Value}
use Rattle.ac_types.specs.declared.exceptions.Exn.{Exn}
use Rattle.ac_terms.specs.Read.{environment_of, expr_of}
use Rattle.ac_rules.specs.Views.{Mode, Coloured}
use Rattle.ac_rules.specs.declared.loaded.Loaded.{Loaded}
use Rattle.ac_machine_engine.specs.Seen.{MachineSeen}
use Rattle.ac_meaning.specs.Reduction.{Ends}
use Rattle.ac_meaning.specs.Worlds.{Exception}
use Rattle.ac_meaning.specs.Acts.{Outcome, Returned, Raised, Spent, Stuck, writes_of, receives_of}
use Rattle.ac_meaning.specs.Laws.{IsTypedProgram}
use Rattle.ac_meaning.specs.ReadExn.{exn_of}
use Rattle.ac_meaning.proofs.Endings.{some_end}
use Rattle.ac_meaning.proofs.NeverStuck.{never_stuck}
use Rattle.ac_meaning.proofs.Admitted.{grow, arrives}
use Rattle.ac_meaning.proofs.ReceiveOrders.{written_in_front}
use Rattle.ac_run.specs.Sessions.{Session, Streams, HasLeft, with_writes, StopsBehind, StopsAtReceive, IsEnd, Leaves, RunsTo}
use Rattle.ac_run.specs.Course.{begun}
use Rattle.ac_run.specs.declared.end.RunEnd.{RunEnd}
use Rattle.ac_run.specs.declared.end.RunEnd.TheVariants as end
use Rattle.ac_load_rules.specs.Accepting.{Shelved}
use Rattle.ac_load.specs.Loading.{Loads}
use Rattle.acute_files.specs.Files.{IsTextOf}
use Rattle.acute_files.specs.ProgramTexts.{IsShelfBy}
use Rattle.acute_words.specs.Commands.{ChannelName, ProgramFiles}
use Rattle.acute_answers.specs.declared.status.Status.{Status}
use Rattle.acute_answers.specs.declared.status.TheConstants.Status.{FINISHED, UNCAUGHT, SPENT, OUT_OF_MEMORY, READ_FAULT, WRITE_FAULT}
use Rattle.acute_words.specs.Form.{Text}
use Rattle.ac_outside.specs.Outside.{Rose}
use Rattle.acute_top.specs.Channels.{of_channel, of_console}
use Rattle.acute_top.specs.Streams.{AllWritten, read_line, write_line, memory_line}
use Rattle.acute_top.specs.Stages.{AtFile}
use Rattle.acute_top.specs.Handed.{Handed, is_told, input_of, InputFailed, OutputFailed, MakingFailed, IsMade, MadeAtMost, before_run, after_run, behind_run}
use Rattle.acute_answers.specs.Lines.{uncaught_line, spent_line}
use Rattle.acute_answers.specs.Meaning.{CommandAnswer, run_answer, Means, finished, uncaught, spent}
use Rattle.acute_top.specs.Saying.{Said}
use Rattle.acute_top.specs.RunEndings.{HasRead, GivesStatus, InputLeft, RunEnded, has_run, unmade_file, unread_input, unwritten, no_memory_making, no_memory_left}
use Rattle.acute_top.specs.inner.Told.{stream_left}
use Rattle.acute_top.specs.inner.Runs.{RanIn, StreamLeft}
use Rattle.acute_answers.proofs.TextLaws.{given_by, one_answer}
use Rattle.acute_top.proofs.PlaceLaws.{read_all, gets_moved, runs_moved, input_earlier, output_failed}
use Rattle.acute_top.proofs.EndingLaws.{end_told}

module _ (prog : ProgramFiles) (steps : ℕ) (from to : Option ChannelName) (o : Handed) (loaded : Loaded) (r : HasRead prog steps from to o)
    (accepted : Loads r.text r.shelf (environment_of loaded.env) (expr_of loaded.main) (typ_of loaded.ty))
    (typed : IsTypedProgram (environment_of loaded.env) (expr_of loaded.main) (typ_of loaded.ty)) where
  -- a run with this input ends so
  abbrev pub EndsSo : Mode → Outcome Value → Type 0
  EndsSo mode p = Ends mode (environment_of loaded.env) (expr_of loaded.main) r.input (is_some to) steps p

  abbrev pub some : (mode : Mode) → (p : Outcome Value) × EndsSo mode p
  some mode = some_end grow mode (environment_of loaded.env) (expr_of loaded.main) r.input (is_some to) steps typed.coherent

  -- each end means something
  meant_in : (mode : Mode) (p : Outcome Value) → EndsSo mode p → Means mode r.text r.shelf steps r.input (is_some to) (given_by steps p)
  meant_in mode (Returned v z) h = finished (environment_of loaded.env) (expr_of loaded.main) (typ_of loaded.ty) v z accepted h
  meant_in mode (Raised x z) h = uncaught (environment_of loaded.env) (expr_of loaded.main) (typ_of loaded.ty) x z accepted h
  meant_in mode (Spent z) h = spent (environment_of loaded.env) (expr_of loaded.main) (typ_of loaded.ty) z accepted h
  meant_in mode Stuck h = absurd (never_stuck arrives (environment_of loaded.env) (expr_of loaded.main) (typ_of loaded.ty) typed mode r.input (is_some to) steps h)

  -- and the same in each mode
  pub meant : GivesStatus prog steps from to o r (given_by steps (some Coloured).0)
  meant = λ mode. subst (λ (a : CommandAnswer). Means mode r.text r.shelf steps r.input (is_some to) a) (one_answer mode Coloured steps r.input (is_some to) typed (some mode).1 (some Coloured).1) (meant_in mode (some mode).0 (some mode).1)

  pub meant_by : (a : CommandAnswer) × (GivesStatus prog steps from to o r a × (a.runs ≡ true))
  meant_by = (given_by steps (some Coloured).0, (meant, refl))

module _ (prog : ProgramFiles) (steps : ℕ) (from to : Option ChannelName) (o : Handed) (loaded : Loaded) (machine : MachineSeen) (t : Session) (mid : Bytes) (r : HasRead prog steps from to o)
    (accepted : Loads r.text r.shelf (environment_of loaded.env) (expr_of loaded.main) (typ_of loaded.ty))
    (typed : IsTypedProgram (environment_of loaded.env) (expr_of loaded.main) (typ_of loaded.ty)) (made : IsMade to o) where
  -- the session has run to this end
  abbrev pub Runs : RunEnd → Type 0
  Runs e = RunsTo (is_told from to o) (begun loaded steps (is_some to) machine) t r.input e (before_run to o) (after_run to o mid)

  -- how the reduction ends, and what that means
  abbrev last : Outcome Value
  last = (some prog steps from to o loaded r accepted typed Coloured).0

  meaning : GivesStatus prog steps from to o r (given_by steps last)
  meaning = meant prog steps from to o loaded r accepted typed

  -- as the reduction ends
  ended : (e : RunEnd) → Runs e → IsEnd e last t × Leaves e (is_told from to o) last t (before_run to o) (after_run to o mid)
  ended e runs = let h = some prog steps from to o loaded r accepted typed Coloured in runs.ends Coloured h.0 h.1

  -- what is left of input
  abbrev pub LeavesSo : RunEnd → Type 0
  LeavesSo e = StreamLeft from (is_told from to o) (begun loaded steps (is_some to) machine) r.input e (stream_left from o.input.new)

  -- in each mode
  left_by : (e f : RunEnd) → ((p : Outcome Value) → HasLeft e p r.input o.input.new → HasLeft f p r.input o.input.new) → LeavesSo e → InputLeft prog steps from to o r f
  left_by e f fine leaves is told mode =
      let h = some prog steps from to o loaded r accepted typed mode in
      record {
        definitions = environment_of loaded.env;
        term = expr_of loaded.main;
        ty = typ_of loaded.ty;
        accepted = accepted;
        last = h.0;
        ends = h.1;
        leaves = fine h.0 (subst (HasLeft e h.0 r.input) (ap (λ (f : Option ChannelName). stream_left f o.input.new) is) (leaves is told mode h.0 h.1));
      }

  finished_by : (p : Outcome Value) → GivesStatus prog steps from to o r (given_by steps p) → IsEnd end.Finished p t → (IsTrue (is_told from to o) → after_run to o mid ≡ with_writes (writes_of p) (before_run to o)) → InputLeft prog steps from to o r end.Finished → AllWritten (behind_run to o mid) [] → RunEnded prog steps from to o FINISHED
  finished_by (Returned v z) g is all left still = has_run r (run_answer FINISHED z.writes []) mid g refl all left made (refl, still)
  finished_by (Raised x z) g is all left still = absurd is
  finished_by (Spent z) g is all left still = absurd is
  finished_by Stuck g is all left still = absurd is

  uncaught_by : (exn : Exn) (p : Outcome Value) → GivesStatus prog steps from to o r (given_by steps p) → IsEnd (end.Uncaught exn) p t → (IsTrue (is_told from to o) → after_run to o mid ≡ with_writes (writes_of p) (before_run to o)) → InputLeft prog steps from to o r end.Finished
      → (status : Status) → Said (behind_run to o mid) (uncaught_line (exn_of exn)) UNCAUGHT status ⊎ Said (behind_run to o mid) memory_line OUT_OF_MEMORY status → RunEnded prog steps from to o status
  uncaught_by exn (Returned v z) g is all left status s = absurd is
  uncaught_by exn (Raised x z) g is all left status s =
      end_told prog steps from to o r (run_answer UNCAUGHT z.writes (uncaught_line x)) mid g refl all left made _ _ refl status
      (subst (λ (x : Exception). Said (behind_run to o mid) (uncaught_line x) UNCAUGHT status ⊎ Said (behind_run to o mid) memory_line OUT_OF_MEMORY status) is.0 s)
  uncaught_by exn (Spent z) g is all left status s = absurd is
  uncaught_by exn Stuck g is all left status s = absurd is

  spent_by : (budget : ℕ) (p : Outcome Value) → t.steps ≡ steps → GivesStatus prog steps from to o r (given_by steps p) → IsEnd (end.Spent budget) p t → (IsTrue (is_told from to o) → after_run to o mid ≡ with_writes (writes_of p) (before_run to o)) → InputLeft prog steps from to o r end.Finished
      → (status : Status) → Said (behind_run to o mid) (spent_line budget) SPENT status ⊎ Said (behind_run to o mid) memory_line OUT_OF_MEMORY status → RunEnded prog steps from to o status
  spent_by budget (Returned v z) same g is all left status s = absurd is
  spent_by budget (Raised x z) same g is all left status s = absurd is
  spent_by budget (Spent z) same g is all left status s =
      end_told prog steps from to o r (run_answer SPENT z.writes (spent_line steps)) mid g refl all left made _ _ refl status
      (subst (λ (n : ℕ). Said (behind_run to o mid) (spent_line n) SPENT status ⊎ Said (behind_run to o mid) memory_line OUT_OF_MEMORY status) (is.0 ∙ same) s)
  spent_by budget Stuck same g is all left status s = absurd is

  pub has_finished : Runs end.Finished → LeavesSo end.Finished → AllWritten (behind_run to o mid) [] → RunEnded prog steps from to o FINISHED
  has_finished runs leaves still = let e = ended end.Finished runs in finished_by last meaning e.0 e.1 (left_by end.Finished end.Finished (λ p h. h) leaves) still

  pub has_raised : (exn : Exn) → Runs (end.Uncaught exn) → LeavesSo (end.Uncaught exn) → (status : Status) → Said (behind_run to o mid) (uncaught_line (exn_of exn)) UNCAUGHT status ⊎ Said (behind_run to o mid) memory_line OUT_OF_MEMORY status → RunEnded prog steps from to o status
  has_raised exn runs leaves status s = let e = ended (end.Uncaught exn) runs in uncaught_by exn last meaning e.0 e.1 (left_by (end.Uncaught exn) end.Finished (λ p h. h) leaves) status s

  pub has_spent : (budget : ℕ) → t.steps ≡ steps → Runs (end.Spent budget) → LeavesSo (end.Spent budget) → (status : Status) → Said (behind_run to o mid) (spent_line budget) SPENT status ⊎ Said (behind_run to o mid) memory_line OUT_OF_MEMORY status → RunEnded prog steps from to o status
  has_spent budget same runs leaves status s = let e = ended (end.Spent budget) runs in spent_by budget last same meaning e.0 e.1 (left_by (end.Spent budget) end.Finished (λ p h. h) leaves) status s

  -- what was written in front of a receive stands in front of all
  in_front : EndsSo prog steps from to o loaded r accepted typed Coloured last → StopsAtReceive (is_told from to o) (receives_of last) (before_run to o) (after_run to o mid) → StopsBehind (is_told from to o) (writes_of last) (before_run to o) (after_run to o mid)
  in_front ends s =
      let w = written_in_front Coloured (environment_of loaded.env) (expr_of loaded.main) r.input (is_some to) steps last ends s.before s.after s.receive s.order in
      record { before = s.receive.writes; after = w.0; order = w.1; made = s.made }

  pub has_unread : Runs end.ReadFault → LeavesSo end.ReadFault → InputFailed from o → (status : Status) → Said (behind_run to o mid) read_line READ_FAULT status → RunEnded prog steps from to o status
  has_unread runs leaves rose status s =
      unread_input r _ mid meaning refl made rose (in_front (some prog steps from to o loaded r accepted typed Coloured).1 (ended end.ReadFault runs).1.0)
      (λ mode.
      let h = some prog steps from to o loaded r accepted typed mode in
      record {
        definitions = environment_of loaded.env;
        term = expr_of loaded.main;
        ty = typ_of loaded.ty;
        accepted = accepted;
        last = h.0;
        ends = h.1;
        stops = (runs.ends mode h.0 h.1).1.0;
      }) (left_by end.ReadFault end.ReadFault (λ p h. h) leaves) s

  pub has_failed : Runs end.WriteFault → LeavesSo end.WriteFault → OutputFailed to o → (status : Status) → Said (behind_run to o mid) write_line WRITE_FAULT status → RunEnded prog steps from to o status
  has_failed runs leaves rose status s = unwritten r _ mid meaning refl made rose (ended end.WriteFault runs).1.0.stops (left_by end.WriteFault end.WriteFault (λ p h. h) leaves) s

  pub has_lost : Runs end.Memory → (status : Status) → Said (behind_run to o mid) memory_line OUT_OF_MEMORY status → RunEnded prog steps from to o status
  has_lost runs status s = no_memory_left r _ mid meaning refl made (ended end.Memory runs).1.0 s

-- where the file of the channel isn't made
module _ (prog : ProgramFiles) (steps : ℕ) (from to : Option ChannelName) (o : Handed) (shelf : List Shelved) (is_shelf : IsShelfBy o.files prog.shelf shelf) (text : Bytes) (is_text : IsTextOf (o.files prog.file) text) (loaded : Loaded)
    (accepted : Loads text shelf (environment_of loaded.env) (expr_of loaded.main) (typ_of loaded.ty))
    (typed : IsTypedProgram (environment_of loaded.env) (expr_of loaded.main) (typ_of loaded.ty)) where
  meaning_all : (a : CommandAnswer) × (GivesStatus prog steps from to o (read_all prog steps from to o shelf is_shelf text is_text) a × (a.runs ≡ true))
  meaning_all = meant_by prog steps from to o loaded (read_all prog steps from to o shelf is_shelf text is_text) accepted typed

  pub unmade_in : MakingFailed to o → AllWritten o.output [] → MadeAtMost to o → o.stage ≡ AtFile → (end : Status) → Said o.errors write_line WRITE_FAULT end → RunEnded prog steps from to o end
  unmade_in rose none most at end s = unmade_file (read_all prog steps from to o shelf is_shelf text is_text) meaning_all.0 meaning_all.1.0 meaning_all.1.1 rose none most at s

  pub lost_making : AllWritten o.output [] → MadeAtMost to o → o.stage ≡ AtFile → (end : Status) → Said o.errors memory_line OUT_OF_MEMORY end → RunEnded prog steps from to o end
  lost_making none most at end s = no_memory_making (read_all prog steps from to o shelf is_shelf text is_text) meaning_all.0 meaning_all.1.0 meaning_all.1.1 none most at s

-- a session has run, from what was read and made in front of it
pub record Setting (prog : ProgramFiles) (steps : ℕ) (from to : Option ChannelName) (o : Handed) (mid : Bytes) (s t : Session) (e : RunEnd) : Type 0 where
  pub shelf : List Shelved
  pub is_shelf : IsShelfBy o.files prog.shelf shelf
  pub text : Bytes
  pub is_text : IsTextOf (o.files prog.file) text
  pub loaded : Loaded
  pub accepted : Loads text shelf (environment_of loaded.env) (expr_of loaded.main) (typ_of loaded.ty)
  pub typed : IsTypedProgram (environment_of loaded.env) (expr_of loaded.main) (typ_of loaded.ty)
  pub machine : MachineSeen
  pub is : s ≡ begun loaded steps (is_some to) machine
  pub left : Bytes
  pub left_is : IsTrue (is_told from to o) → left ≡ input_of from o
  pub old : Streams
  pub old_is : IsTrue (is_told from to o) → old ≡ before_run to o
  pub made : IsMade to o
  pub ran : RanIn from (is_told from to o) left (stream_left from o.input.new) old (after_run to o mid) s t e

module _ {prog : ProgramFiles} {steps : ℕ} {from to : Option ChannelName} {o : Handed} {mid : Bytes} {s t : Session} where
  abbrev read_in : {e : RunEnd} → Setting prog steps from to o mid s t e → HasRead prog steps from to o
  read_in x = record { shelf = x.shelf; is_shelf = x.is_shelf; text = x.text; is_text = x.is_text; input = x.ran.input; is_input = gets_moved from (is_told from to o) x.left (input_of from o) x.ran.input x.left_is x.ran.gets }

  runs_in : {e : RunEnd} (x : Setting prog steps from to o mid s t e) → RunsTo (is_told from to o) (begun x.loaded steps (is_some to) x.machine) t x.ran.input e (before_run to o) (after_run to o mid)
  runs_in {e} x =
      subst (λ (y : Session). RunsTo (is_told from to o) y t x.ran.input e (before_run to o) (after_run to o mid)) x.is
      (runs_moved (is_told from to o) x.old (before_run to o) (after_run to o mid) x.old_is s t x.ran.input e x.ran.runs)

  leaves_in : {e : RunEnd} (x : Setting prog steps from to o mid s t e) → StreamLeft from (is_told from to o) (begun x.loaded steps (is_some to) x.machine) x.ran.input e (stream_left from o.input.new)
  leaves_in {e} x = subst (λ (y : Session). StreamLeft from (is_told from to o) y x.ran.input e (stream_left from o.input.new)) x.is x.ran.leaves

  pub finished_in : Setting prog steps from to o mid s t end.Finished → AllWritten (behind_run to o mid) [] → RunEnded prog steps from to o FINISHED
  finished_in x still = has_finished prog steps from to o x.loaded x.machine t mid (read_in x) x.accepted x.typed x.made (runs_in x) (leaves_in x) still

  pub raised_in : {exn : Exn} → Setting prog steps from to o mid s t (end.Uncaught exn) → (status : Status) → Said (behind_run to o mid) (uncaught_line (exn_of exn)) UNCAUGHT status ⊎ Said (behind_run to o mid) memory_line OUT_OF_MEMORY status → RunEnded prog steps from to o status
  raised_in {exn} x status told = has_raised prog steps from to o x.loaded x.machine t mid (read_in x) x.accepted x.typed x.made exn (runs_in x) (leaves_in x) status told

  pub spent_in : {budget : ℕ} → Setting prog steps from to o mid s t (end.Spent budget) → (status : Status) → Said (behind_run to o mid) (spent_line budget) SPENT status ⊎ Said (behind_run to o mid) memory_line OUT_OF_MEMORY status → RunEnded prog steps from to o status
  spent_in {budget} x status told = has_spent prog steps from to o x.loaded x.machine t mid (read_in x) x.accepted x.typed x.made budget (x.ran.budget ∙ ap (λ (y : Session). y.steps) x.is) (runs_in x) (leaves_in x) status told

  pub unread_in : Setting prog steps from to o mid s t end.ReadFault → (g : Text → ℕ) → ((file : Text) → (o.files file).before ≤ g file)
      → Rose (of_channel from 0 o.input.before g) (of_channel from 0 o.input.after (λ file. (o.files file).after)) → (status : Status) → Said (behind_run to o mid) read_line READ_FAULT status → RunEnded prog steps from to o status
  unread_in x g earlier rose status told =
      has_unread prog steps from to o x.loaded x.machine t mid (read_in x) x.accepted x.typed x.made (runs_in x) (leaves_in x)
      (input_earlier from o.input.before (λ file. (o.files file).before) g (of_channel from 0 o.input.after (λ file. (o.files file).after)) earlier rose) status told

  pub failed_in : Setting prog steps from to o mid s t end.WriteFault → (d : ℕ) (g : Text → ℕ) → d ≤ o.errors.after → ((file : Text) → (o.made file).before ≤ g file)
      → Rose (of_console to o.output.before o.errors.before) (of_console to o.output.after d) ⊎ Rose (of_channel to 0 o.output.before g) (of_channel to 0 o.output.after (λ file. (o.made file).after))
      → (status : Status) → Said (behind_run to o mid) write_line WRITE_FAULT status → RunEnded prog steps from to o status
  failed_in x d g le earlier rose status told =
      has_failed prog steps from to o x.loaded x.machine t mid (read_in x) x.accepted x.typed x.made (runs_in x) (leaves_in x)
      (output_failed to o.output.before o.errors.before o.output.after d o.errors.after o.output.before (λ file. (o.made file).before) g (of_channel to 0 o.output.after (λ file. (o.made file).after)) le earlier rose) status told

  pub lost_in : Setting prog steps from to o mid s t end.Memory → (status : Status) → Said (behind_run to o mid) memory_line OUT_OF_MEMORY status → RunEnded prog steps from to o status
  lost_in x status told = has_lost prog steps from to o x.loaded x.machine t mid (read_in x) x.accepted x.typed x.made (runs_in x) status told
