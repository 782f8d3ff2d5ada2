-- What a run's channels have in front of it and behind it, as the call's end says it.
use Rattle.std.proofs.Common.{◌≡◌, ◌≤◌, ◌⊎◌, inl, inr, ℕ, Bool, true, false, IsTrue, List, [], Option, Some, None, refl, sym, ◌∙◌, ap, subst, arith}
use Rattle.std.specs.Prelude.{◌&&◌, is_some}
use Rattle.std.specs.Str.{bytes_eq}
use Rattle.std.proofs.lemmas.List.{append-nil}
use Rattle.std.proofs.lemmas.Slice.Eq.{bytes_eq-Decides}
use mathlib.Core.Bool.{true≢false}
use Rattle.ac_types.specs.Types.{Bytes}
use Rattle.ac_outside.specs.Outside.{Contents, Rose, Created, or_empty}
use Rattle.ac_outside.specs.declared.traits.Put.{Put}
use Rattle.ac_outside.specs.declared.traits.Put.TheVariants as put
use Rattle.acute_words.specs.Form.{Text}
use Rattle.acute_words.specs.Commands.{ChannelName, ProgramFiles, standard, file, are_one}
use Rattle.ac_meaning.specs.Writes.{Write}
use Rattle.ac_meaning.specs.Worlds.{Trace}
use Rattle.ac_meaning.specs.Acts.{Outcome, writes_of, before_writes_of, receives_of}
use Rattle.ac_run.specs.Sessions.{Session, Streams, streams, with_writes, Begun, StopsIn, StopsBehind, StopsAtWrite, StopsAtReceive, Leaves, RunsTo}
use Rattle.ac_run.specs.declared.end.RunEnd.{RunEnd}
use Rattle.ac_run.specs.declared.end.RunEnd.TheVariants as end
use Rattle.acute_answers.specs.declared.status.Status.{Status}
use Rattle.acute_top.specs.inner.Told.{tells, left_in, sent_in}
use Rattle.acute_top.specs.Channels.{of_channel, of_console, GetsInput}
use Rattle.ac_load_rules.specs.Accepting.{Shelved}
use Rattle.acute_files.specs.Files.{FilesSeen, IsTextOf, Since, files_read}
use Rattle.acute_files.specs.ProgramTexts.{IsShelfBy}
use Rattle.acute_top.specs.Stages.{Stage}
use Rattle.acute_top.specs.Streams.{Feeding, Writing, AllWritten, writing}
use Rattle.acute_top.specs.Handed.{Handed, is_told, input_of, IsMade, Untouched, MadeAtMost, MakingFailed}
use Rattle.acute_top.specs.Saying.{Said, said, failed, no_memory}
use Rattle.acute_top.specs.Traits.{SinkOf}
use Rattle.acute_top.specs.RunEndings.{HasRead}
use Rattle.acute_top.specs.inner.Runs.{ErrorsApart, Prepared, is_there, MakesFile}
use Rattle.acute_top.proofs.ChannelLaws.{third}

first : (a b : Bool) → IsTrue (a && b) → IsTrue a
first true b h = refl
first false b h = absurd (true≢false (sym h))

same_bytes : (a : Bytes) → bytes_eq a a ≡ true
same_bytes a = (bytes_eq-Decides a a).1 refl

-- the file that is read is not the one that is written
pub other : (name : Text) (to : Option ChannelName) → are_one (Some (file name)) to ≡ false → to ≡ Some (file name) → ⊥
other name to apart is =
    let one : bytes_eq name name ≡ false = rw is at apart in
    true≢false (sym (same_bytes name) ∙ one)

-- the input is that of the call's beginning
pub input_same : (from to : Option ChannelName) (f i c s : Bool) (start now : FilesSeen) (left : Bytes) → are_one from to ≡ false → Prepared f to start now → IsTrue (tells from to f i c s) → left_in from now.contents left 0 ≡ of_channel from [] left (λ name. or_empty (start.contents name))
input_same None to f i c s start now left apart p told = refl
input_same (Some standard) to f i c s start now left apart p told = refl
input_same (Some (file name)) to f i c s start now left apart p told =
    ap or_empty (p.kept (first f (c && of_channel to true s (λ n. f)) told) name (other name to apart))

pub gets_moved : (from : Option ChannelName) (t : Bool) (left there input : Bytes) → (IsTrue t → left ≡ there) → GetsInput from t left input → GetsInput from t there input
gets_moved None t left there input same h = h
gets_moved (Some channel) t left there input same h = λ told. sym (same told) ∙ h told

-- the channel has nothing in front of the run, where it is a file
pub before_same : (from to : Option ChannelName) (f i c s : Bool) (start now : FilesSeen) (console stream : Bytes) → Prepared f to start now → IsTrue (tells from to f i c s) → streams console (sent_in to now.contents stream) ≡ streams console (of_channel to [] stream (λ name. []))
before_same from None f i c s start now console stream p told = refl
before_same from (Some standard) f i c s start now console stream p told = refl
before_same from (Some (file name)) f i c s start now console stream p told =
    ap (λ (b : Option Bytes). streams console (or_empty b)) (p.emptied (third (of_channel from true i (λ n. f)) c f told))

-- counts from the call's beginning on
pub rose_earlier : (a b c : ℕ) → a ≤ b → Rose b c → Rose a c
rose_earlier a b c le rose = omega (arith, le, rose)

pub input_earlier : (from : Option ChannelName) (x : ℕ) (f g : Text → ℕ) (n : ℕ) → ((name : Text) → f name ≤ g name) → Rose (of_channel from 0 x g) n → Rose (of_channel from 0 x f) n
input_earlier None x f g n h rose = rose
input_earlier (Some standard) x f g n h rose = rose
input_earlier (Some (file name)) x f g n h rose = rose_earlier (f name) (g name) n (h name) rose

pub console_later : (to : Option ChannelName) (a b c d e : ℕ) → d ≤ e → Rose (of_console to a b) (of_console to c d) → Rose (of_console to a b) (of_console to c e)
console_later None a b c d e le rose = rose
console_later (Some standard) a b c d e le rose = omega (arith, le, rose)
console_later (Some (file name)) a b c d e le rose = rose

pub output_failed : (to : Option ChannelName) (a b c d e x : ℕ) (f g : Text → ℕ) (n : ℕ) → d ≤ e → ((name : Text) → f name ≤ g name) → Rose (of_console to a b) (of_console to c d) ⊎ Rose (of_channel to 0 x g) n → Rose (of_console to a b) (of_console to c e) ⊎ Rose (of_channel to 0 x f) n
output_failed to a b c d e x f g n le earlier (inl rose) = inl (console_later to a b c d e le rose)
output_failed to a b c d e x f g n le earlier (inr rose) = inr (input_earlier to x f g n earlier rose)

-- a line behind a run
said_earlier : (errors : Writing) (x : ℕ) (line : List ℕ) (status end : Status) → x ≤ errors.before → Said errors line status end → Said (record errors { before = x }) line status end
said_earlier errors x line status end le (said w) = said w
said_earlier errors x line status end le (failed rose p) = failed (rose_earlier x errors.before errors.after le rose) p
said_earlier errors x line status end le (no_memory p) = no_memory p

abbrev errors_behind : Option ChannelName → Writing → List ℕ → Writing
errors_behind to e mid = of_console to e (record e { old = mid })

pub said_behind : {Errors : Type 0} (sink : SinkOf Errors) (to : Option ChannelName) (e : Writing) (old mid new : Errors) (line : List ℕ) (status end : Status) → e ≡ writing sink old new → ErrorsApart to old mid → sink.faults old ≤ sink.faults mid
    → Said (writing sink mid new) line status end → Said (errors_behind to e (sink.written mid)) line status end
said_behind {Errors} sink None e old mid new line status end is apart le s =
    subst (λ (w : Writing). Said w line status end) (sym is) (subst (λ (m : Errors). Said (writing sink m new) line status end) apart s)
said_behind {Errors} sink (Some standard) e old mid new line status end is apart le s =
    subst (λ (w : Writing). Said (record w { old = sink.written mid }) line status end) (sym is) (said_earlier (writing sink mid new) (sink.faults old) line status end le s)
said_behind {Errors} sink (Some (file name)) e old mid new line status end is apart le s =
    subst (λ (w : Writing). Said w line status end) (sym is) (subst (λ (m : Errors). Said (writing sink m new) line status end) apart s)

pub told_behind : {Errors : Type 0} (sink : SinkOf Errors) (to : Option ChannelName) (e : Writing) (old mid new : Errors) (line other : List ℕ) (status others end : Status) → e ≡ writing sink old new → ErrorsApart to old mid → sink.faults old ≤ sink.faults mid
    → Said (writing sink mid new) line status end ⊎ Said (writing sink mid new) other others end → Said (errors_behind to e (sink.written mid)) line status end ⊎ Said (errors_behind to e (sink.written mid)) other others end
told_behind sink to e old mid new line other status others end is apart le (inl s) = inl (said_behind sink to e old mid new line status end is apart le s)
told_behind sink to e old mid new line other status others end is apart le (inr s) = inr (said_behind sink to e old mid new other others end is apart le s)

-- no line behind a run
pub still_behind : {Errors : Type 0} (sink : SinkOf Errors) (to : Option ChannelName) (e : Writing) (old mid : Errors) → e ≡ writing sink old mid → ErrorsApart to old mid → AllWritten (errors_behind to e (sink.written mid)) []
still_behind sink None e old mid is apart =
    subst (λ (w : Writing). AllWritten w []) (sym is) (λ t. ap sink.written apart ∙ sym (append-nil (sink.written old)))
still_behind sink (Some standard) e old mid is apart =
    subst (λ (w : Writing). AllWritten (record w { old = sink.written mid }) []) (sym is) (λ t. sym (append-nil (sink.written mid)))
still_behind sink (Some (file name)) e old mid is apart =
    subst (λ (w : Writing). AllWritten w []) (sym is) (λ t. ap sink.written apart ∙ sym (append-nil (sink.written old)))

-- what a run leaves, from other streams in front of it that are the same where they are told
module _ (told : Bool) (old there new : Streams) (same : IsTrue told → old ≡ there) where
  abbrev in_moved : (all : List Write) → StopsIn told all old new → StopsIn told all there new
  in_moved all s = record {
    before = s.before;
    write = s.write;
    after = s.after;
    order = s.order;
    begun = λ t. subst (λ (o : Streams). Begun s.write (with_writes s.before o) new) (same t) (s.begun t);
  }

  behind_moved : (all : List Write) → StopsBehind told all old new → StopsBehind told all there new
  behind_moved all s = record {
    before = s.before;
    after = s.after;
    order = s.order;
    made = λ t. s.made t ∙ ap (with_writes s.before) (same t);
  }

  whole_moved : (all : List Write) → (IsTrue told → new ≡ with_writes all old) → IsTrue told → new ≡ with_writes all there
  whole_moved all h t = h t ∙ ap (with_writes all) (same t)

  part_moved : (all : List Write) → StopsIn told all old new ⊎ StopsBehind told all old new → StopsIn told all there new ⊎ StopsBehind told all there new
  part_moved all (inl h) = inl (in_moved all h)
  part_moved all (inr h) = inr (behind_moved all h)

  abbrev write_moved : (all : List Write) (traces : List Trace) → StopsAtWrite told all traces old new → StopsAtWrite told all traces there new
  write_moved all traces s = record {
    stops = in_moved all s.stops;
    earlier = s.earlier;
    trace = s.trace;
    later = s.later;
    order = s.order;
    so_far = s.so_far;
  }

  abbrev receive_moved : (all : List Trace) → StopsAtReceive told all old new → StopsAtReceive told all there new
  receive_moved all s = record {
    before = s.before;
    receive = s.receive;
    after = s.after;
    order = s.order;
    made = λ t. s.made t ∙ ap (with_writes s.receive.writes) (same t);
  }

  pub leaves_moved : {A : Type 0} (r : RunEnd) (o : Outcome A) (s : Session) → Leaves r told o s old new → Leaves r told o s there new
  leaves_moved end.Finished o s h = whole_moved (writes_of o) h
  leaves_moved (end.Uncaught e) o s h = whole_moved (writes_of o) h
  leaves_moved (end.Spent steps) o s h = whole_moved (writes_of o) h
  leaves_moved end.ReadFault o s h = (receive_moved (receives_of o) h.0, h.1)
  leaves_moved end.WriteFault o s h = (write_moved (writes_of o) (before_writes_of o) h.0, h.1)
  leaves_moved end.Memory o s h = (part_moved (writes_of o) h.0, h.1)

  pub runs_moved : (s t : Session) (input : Bytes) (r : RunEnd) → RunsTo told s t input r old new → RunsTo told s t input r there new
  runs_moved s t input r h = record { ends = λ mode o e. ((h.ends mode o e).0, leaves_moved r o t (h.ends mode o e).1) }

-- all that a channel has may be the input
pub gets_all : (from : Option ChannelName) (t : Bool) (o : Handed) → GetsInput from t (input_of from o) (input_of from o)
gets_all None t o = refl
gets_all (Some channel) t o = λ told. refl

-- what is read, with all of the input
abbrev pub read_all : (prog : ProgramFiles) (steps : ℕ) (from to : Option ChannelName) (o : Handed) (shelf : List Shelved) → IsShelfBy o.files prog.shelf shelf → (text : Bytes) → IsTextOf (o.files prog.file) text → HasRead prog steps from to o
read_all prog steps from to o shelf is_shelf text is_text = record { shelf = shelf; is_shelf = is_shelf; text = text; is_text = is_text; input = input_of from o; is_input = gets_all from (is_told from to o) o }

-- what is handed, by what files had and have
abbrev of_files : Bool → FilesSeen → FilesSeen → Feeding → Stage → Writing → Writing → Handed
of_files told start now input stage output errors = record {
  files = files_read told start now;
  made = λ name. record { told = told; old = or_empty (start.contents name); new = or_empty (now.contents name); before = start.write_faults name; after = now.write_faults name };
  was = start.contents;
  is = now.contents;
  input = input;
  stage = stage;
  output = output;
  errors = errors;
}

-- files that are as they were
pub untouched_by : (told : Bool) (start now : FilesSeen) (input : Feeding) (stage : Stage) (output errors : Writing) (to : Option ChannelName) → (IsTrue told → now.contents ≡ start.contents) → Untouched to (of_files told start now input stage output errors)
untouched_by told start now input stage output errors None same = tt
untouched_by told start now input stage output errors (Some standard) same = tt
untouched_by told start now input stage output errors (Some (file name)) same = λ t. ap (λ (k : Contents). k name) (same t)

-- files in front of a run
pub prepared : (told : Bool) (start old now : FilesSeen) (to : Option ChannelName) → Since told start old → MakesFile to told put.Done old now → Prepared told to start now
prepared told start old now None since m =
    subst (λ (f : FilesSeen). Prepared told None start f) (sym m.1)
    (record { kept = λ t name h. ap (λ (k : Contents). k name) (since.same t); emptied = λ t. tt; reads = since.reads; writes = since.writes })
prepared told start old now (Some standard) since m =
    subst (λ (f : FilesSeen). Prepared told (Some standard) start f) (sym m.1)
    (record { kept = λ t name h. ap (λ (k : Contents). k name) (since.same t); emptied = λ t. tt; reads = since.reads; writes = since.writes })
prepared told start old now (Some (file n)) since m = record {
  kept = λ t name h. m.1.0 t name (λ is. h (ap (λ (x : Text). Some (file x)) (sym is))) ∙ ap (λ (k : Contents). k name) (since.same t);
  emptied = λ t. m.0 t;
  reads = λ name. omega (arith, since.reads name, m.1.1.1.0 name);
  writes = λ name. omega (arith, since.writes name, m.1.1.1.1 name);
}

-- a file that has been made empty, and is there still
pub made_still : (told : Bool) (start old now : FilesSeen) (input : Feeding) (stage : Stage) (output errors : Writing) (to : Option ChannelName) → Prepared told to start old → (IsTrue told → IsTrue (is_there to old.contents) → IsTrue (is_there to now.contents)) → IsMade to (of_files told start now input stage output errors)
made_still told start old now input stage output errors None p still = tt
made_still told start old now input stage output errors (Some standard) p still = tt
made_still told start old now input stage output errors (Some (file name)) p still = λ t. still t (ap is_some (p.emptied t))

-- where a file isn't made
made_or_not : (start old now : FilesSeen) (name : Text) → old.contents ≡ start.contents → (now.contents name ≡ old.contents name) ⊎ (now.contents name ≡ Some []) → (now.contents name ≡ start.contents name) ⊎ (now.contents name ≡ Some [])
made_or_not start old now name same (inl is) = inl (is ∙ ap (λ (k : Contents). k name) same)
made_or_not start old now name same (inr is) = inr is

at_most : (told : Bool) (start old now : FilesSeen) (name : Text) (p : Put) → (p ≡ put.Done → ⊥) → Since told start old → (IsTrue told → Created p (old.contents name) (now.contents name)) → IsTrue told → (now.contents name ≡ start.contents name) ⊎ (now.contents name ≡ Some [])
at_most told start old now name put.Done undone since m t = absurd (undone refl)
at_most told start old now name put.Failed undone since m t = made_or_not start old now name (since.same t) (m t)
at_most told start old now name put.Memory undone since m t = made_or_not start old now name (since.same t) (m t)

pub made_at_most : (told : Bool) (start old now : FilesSeen) (input : Feeding) (stage : Stage) (output errors : Writing) (to : Option ChannelName) (p : Put) → (p ≡ put.Done → ⊥) → Since told start old → MakesFile to told p old now → MadeAtMost to (of_files told start now input stage output errors)
made_at_most told start old now input stage output errors None p undone since m = tt
made_at_most told start old now input stage output errors (Some standard) p undone since m = tt
made_at_most told start old now input stage output errors (Some (file name)) p undone since m = at_most told start old now name p undone since m.0

failed≢done : put.Failed ≡ put.Done → ⊥
failed≢done is = absurd cc

pub making_failed : (told : Bool) (start old now : FilesSeen) (input : Feeding) (stage : Stage) (output errors : Writing) (to : Option ChannelName) → Since told start old → MakesFile to told put.Failed old now → MakingFailed to (of_files told start now input stage output errors)
making_failed told start old now input stage output errors None since m = absurd (failed≢done m.0)
making_failed told start old now input stage output errors (Some standard) since m = absurd (failed≢done m.0)
making_failed told start old now input stage output errors (Some (file name)) since m = rose_earlier (start.write_faults name) (old.write_faults name) (now.write_faults name) (since.writes name) (m.1.1.0 refl)

-- the other files have what they had before the file of the channel was made
pub making_keeps : (to : Option ChannelName) (told : Bool) (p : Put) (old now : FilesSeen) → MakesFile to told p old now → IsTrue told → (name : Text) → (to ≡ Some (file name) → ⊥) → {last : Option Bytes} → last ≡ now.contents name → last ≡ old.contents name
making_keeps None told p old now m t name h is = is ∙ ap (λ (f : FilesSeen). f.contents name) m.1
making_keeps (Some standard) told p old now m t name h is = is ∙ ap (λ (f : FilesSeen). f.contents name) m.1
making_keeps (Some (file n)) told p old now m t name h is = is ∙ m.1.0 t name (λ e. h (ap (λ (x : Text). Some (file x)) (sym e)))
