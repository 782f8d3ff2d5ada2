-- A receiver that has run ends as its text means it.
use Rattle.std.proofs.Common.{◌≡◌, ◌⊎◌, inl, inr, ℕ, Bool, true, false, IsTrue, List, [], refl, sym, ◌∙◌, ap, subst}
use Rattle.std.proofs.lemmas.List.{append-nil}
use Rattle.ac_types.specs.Types.{Bytes}
use Rattle.ac_types.specs.ReadTypes.{typ_of}
use Rattle.ac_terms.specs.Terms.{Value}
use Rattle.ac_terms.specs.Read.{environment_of, expr_of}
use Rattle.ac_rules.specs.Views.{Mode, Coloured}
use Rattle.ac_rules.specs.declared.loaded.Loaded.{Loaded}
use Rattle.ac_meaning.specs.Acts.{Outcome, Returned, Raised, Spent, Stuck, writes_of, receives_of}
use Rattle.ac_meaning.specs.Laws.{IsTypedProgram}
use Rattle.ac_meaning.specs.Reduction.{Ends}
use Rattle.ac_meaning.specs.Writes.{Write}
use Rattle.ac_meaning.proofs.Admitted.{grow, arrives}
use Rattle.ac_meaning.proofs.Endings.{some_end}
use Rattle.ac_meaning.proofs.NeverStuck.{never_stuck}
use Rattle.ac_meaning.proofs.ReceiveOrders.{written_in_front}
use Rattle.ac_load_rules.specs.Accepting.{Shelved}
use Rattle.ac_load.specs.Loading.{Loads}
use Rattle.ac_run.specs.Sessions.{Session, Streams, streams, with_writes, StopsIn, StopsAtReceive, StopsBehind, IsEnd, Leaves, RunsTo}
use Rattle.ac_run.specs.Course.{begun}
use Rattle.ac_machine_engine.specs.Seen.{MachineSeen}
use Rattle.ac_run.specs.declared.end.RunEnd.{RunEnd}
use Rattle.ac_run.specs.declared.end.RunEnd.TheVariants as end
use Rattle.ac_pipe.specs.Receives.{ReceivesTo}
use Rattle.acute_answers.specs.Lines.{uncaught_line, spent_line}
use Rattle.acute_answers.specs.Meaning.{CommandAnswer, Means, finished, uncaught, spent}
use Rattle.acute_answers.proofs.TextLaws.{given_by, one_answer}
use Rattle.acute_pipe.specs.Receivers.{MeansReceived, StandsReading, LeavesSo, HasReceivedBy}

module _ (text : Bytes) (shelf : List Shelved) (steps : ℕ) (loaded : Loaded) (accepted : Loads text shelf (environment_of loaded.env) (expr_of loaded.main) (typ_of loaded.ty))
    (typed : IsTypedProgram (environment_of loaded.env) (expr_of loaded.main) (typ_of loaded.ty)) (input : Bytes) where
  -- its reduction ends so
  abbrev EndsSo : Mode → Outcome Value → Type 0
  EndsSo mode p = Ends mode (environment_of loaded.env) (expr_of loaded.main) input false steps p

  some : (mode : Mode) → (p : Outcome Value) × EndsSo mode p
  some mode = some_end grow mode (environment_of loaded.env) (expr_of loaded.main) input false steps typed.coherent

  -- each end means something
  meant_in : (mode : Mode) (p : Outcome Value) → EndsSo mode p → Means mode text shelf steps input false (given_by steps p)
  meant_in mode (Returned v z) h = finished (environment_of loaded.env) (expr_of loaded.main) (typ_of loaded.ty) v z accepted h
  meant_in mode (Raised x z) h = uncaught (environment_of loaded.env) (expr_of loaded.main) (typ_of loaded.ty) x z accepted h
  meant_in mode (Spent z) h = spent (environment_of loaded.env) (expr_of loaded.main) (typ_of loaded.ty) z accepted h
  meant_in mode Stuck h = absurd (never_stuck arrives (environment_of loaded.env) (expr_of loaded.main) (typ_of loaded.ty) typed mode input false steps h)

  -- and the same in each mode
  meant : MeansReceived text shelf steps input (given_by steps (some Coloured).0)
  meant = λ mode. subst (λ (a : CommandAnswer). Means mode text shelf steps input false a) (one_answer mode Coloured steps input false typed (some mode).1 (some Coloured).1) (meant_in mode (some mode).0 (some mode).1)

  pub meant_by : (a : CommandAnswer) × (MeansReceived text shelf steps input a × (a.runs ≡ true))
  meant_by = (given_by steps (some Coloured).0, (meant, refl))

  module _ (told : Bool) (old new : Streams) (machine : MachineSeen) (t : Session) (budget : t.steps ≡ steps) where
    -- what was printed in front of a receive stands in front of all
    in_front : (p : Outcome Value) → EndsSo Coloured p → StopsAtReceive told (receives_of p) old new → StopsBehind told (writes_of p) old new
    in_front p ends s =
        let w = written_in_front Coloured (environment_of loaded.env) (expr_of loaded.main) input false steps p ends s.before s.after s.receive s.order in
        record { before = s.receive.writes; after = w.0; order = w.1; made = s.made }

    -- in each mode it came to a receive
    standing : RunsTo told (begun loaded steps false machine) t input end.ReadFault old new → (mode : Mode) → StandsReading text shelf steps input mode told old new
    standing runs mode =
        let h = some mode in
        record {
          definitions = environment_of loaded.env;
          term = expr_of loaded.main;
          ty = typ_of loaded.ty;
          accepted = accepted;
          last = h.0;
          ends = h.1;
          stops = (runs.ends mode h.0 h.1).1.0;
        }

    leaves_by : (e : RunEnd) → RunsTo told (begun loaded steps false machine) t input e old new → (p : Outcome Value) → EndsSo Coloured p → IsEnd e p t → Leaves e told p t old new → LeavesSo text shelf steps input e (given_by steps p) told old new
    leaves_by end.Finished runs (Returned v z) ends is leaves = (refl, (refl, leaves))
    leaves_by end.Finished runs (Raised x z) ends is leaves = absurd is
    leaves_by end.Finished runs (Spent z) ends is leaves = absurd is
    leaves_by end.Finished runs Stuck ends is leaves = absurd is
    leaves_by (end.Uncaught e) runs (Returned v z) ends is leaves = absurd is
    leaves_by (end.Uncaught e) runs (Raised x z) ends is leaves = (refl, (ap uncaught_line (sym is.0), leaves))
    leaves_by (end.Uncaught e) runs (Spent z) ends is leaves = absurd is
    leaves_by (end.Uncaught e) runs Stuck ends is leaves = absurd is
    leaves_by (end.Spent n) runs (Returned v z) ends is leaves = absurd is
    leaves_by (end.Spent n) runs (Raised x z) ends is leaves = absurd is
    leaves_by (end.Spent n) runs (Spent z) ends is leaves = (refl, (ap spent_line (sym (is.0 ∙ budget)), leaves))
    leaves_by (end.Spent n) runs Stuck ends is leaves = absurd is
    leaves_by end.ReadFault runs p ends is leaves = (in_front p ends leaves.0, standing runs)
    leaves_by end.WriteFault runs p ends is leaves = leaves.0.stops
    leaves_by end.Memory runs p ends is leaves = leaves.0

-- where all prints stand, some of them were made, and then none
behind_all : (told : Bool) (writes : List Write) (old new : Streams) → (IsTrue told → new ≡ with_writes writes old) → StopsBehind told writes old new
behind_all told writes old new h = record { before = writes; after = []; order = sym (append-nil writes); made = h }

-- whatever the end, the prints stopped in one, or behind some
pub stops_somewhere : (text : Bytes) (shelf : List Shelved) (steps : ℕ) (input : Bytes) (e : RunEnd) (a : CommandAnswer) (told : Bool) (old new : Streams) → LeavesSo text shelf steps input e a told old new → StopsIn told a.writes old new ⊎ StopsBehind told a.writes old new
stops_somewhere text shelf steps input end.Finished a told old new h = inr (behind_all told a.writes old new h.1.1)
stops_somewhere text shelf steps input (end.Uncaught e) a told old new h = inr (behind_all told a.writes old new h.1.1)
stops_somewhere text shelf steps input (end.Spent n) a told old new h = inr (behind_all told a.writes old new h.1.1)
stops_somewhere text shelf steps input end.ReadFault a told old new h = inr h.0
stops_somewhere text shelf steps input end.WriteFault a told old new h = inl h
stops_somewhere text shelf steps input end.Memory a told old new h = h

-- a session of a text's program has run as the text means it
pub received : (text : Bytes) (shelf : List Shelved) (steps : ℕ) (loaded : Loaded) → Loads text shelf (environment_of loaded.env) (expr_of loaded.main) (typ_of loaded.ty) → IsTypedProgram (environment_of loaded.env) (expr_of loaded.main) (typ_of loaded.ty)
    → (told : Bool) (left : Bytes) (e : RunEnd) (old new : Bytes) → ReceivesTo told left loaded steps e old new → HasReceivedBy told left text shelf steps e old new
received text shelf steps loaded accepted typed told left e old new r =
    let h = some text shelf steps loaded accepted typed r.input Coloured in
    let both = r.runs.ends Coloured h.0 h.1 in
    record {
      input = r.input;
      gets = r.gets;
      answer = given_by steps h.0;
      means = meant text shelf steps loaded accepted typed r.input;
      runs = refl;
      leaves = leaves_by text shelf steps loaded accepted typed r.input told (streams old []) (streams new []) r.machine r.last r.budget e r.runs h.0 h.1 both.0 both.1;
    }
