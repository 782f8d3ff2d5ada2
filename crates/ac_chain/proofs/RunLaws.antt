-- The run of one program: what its session leaves is what its reduction says.
use Rattle.std.specs.Prelude.{IfOk, OnOk, OnErr}
use Rattle.std.proofs.Common.{append-nil, ◌≡◌, ◌∙◌, refl, sym, ap, subst, ℕ, Bool, true, IsTrue, List, [], ◌∷◌, ◌++◌, Result, Ok, Err}
use Rattle.ac_types.specs.Types.{Bytes}
use Rattle.ac_types.specs.declared.text.Text.{Text}
use Rattle.ac_types.specs.ReadTypes.{typ_of}
use Rattle.ac_terms.specs.Terms.{Expr, Value}
use Rattle.ac_terms.specs.Defs.{Environment}
use Rattle.ac_terms.specs.Read.{environment_of, expr_of}
use Rattle.ac_rules.specs.Views.{Mode}
use Rattle.ac_rules.specs.Coherent.{IsCoherent}
use Rattle.ac_rules.specs.declared.loaded.Loaded.{Loaded}
use Rattle.ac_machine_engine.specs.Seen.{MachineSeen}
use Rattle.ac_outside.specs.Outside.{Extends}
use Rattle.ac_meaning.specs.Writes.{Write, Console, written}
use Rattle.ac_meaning.specs.Worlds.{Trace}
use Rattle.ac_meaning.specs.Acts.{Outcome, Returned, Raised, Spent, Stuck, writes_of, crossings_of, receives_of}
use Rattle.ac_meaning.specs.Reduction.{Ends}
use Rattle.ac_meaning.specs.Loads.{IsLoaded}
use Rattle.ac_meaning.proofs.Endings.{some_end}
use Rattle.ac_meaning.proofs.Admitted.{grow}
use Rattle.ac_meaning.proofs.ReceiveOrders.{written_in_front}
use Rattle.ac_run.specs.Journals.{read_journal, noted}
use Rattle.ac_run.specs.Sessions.{Session, Streams, streams, with_writes, StopsBehind, StopsAtReceive, IsEnd, Leaves}
use Rattle.ac_run.specs.Course.{begun_journalled}
use Rattle.ac_run.specs.declared.end.RunEnd.{RunEnd}
use Rattle.ac_run.specs.declared.end.RunEnd.TheVariants as end
use Rattle.ac_chain.specs.declared.chained.ChainPart.{ChainPart}
use Rattle.ac_chain.specs.declared.chained.ChainFault.{ChainFault}
use Rattle.ac_chain.specs.Natives.{natives, made_by}
use Rattle.ac_chain.specs.ChainMeaning.{RunsOn, EndsAs}
use Rattle.ac_chain.specs.inner.Made.{Strings, Has, NativeBy, MadeBy}
use Rattle.ac_chain.specs.inner.Running.{Ran, RanTo, RanSomewhere, HasRunOn, HasStoppedOn, whole_end}
use Rattle.ac_chain.proofs.Streams.{inside, behind, somewhere}

-- a program that is ready comes to an end
pub comes_to_end : (mode : Mode) (N : ℕ) (told : Bool) (p : Environment × Expr) (left : Bytes) → IsCoherent p.0 → (o : Outcome Value) × RunsOn mode N told p left o
comes_to_end mode N told p left coherent =
    let e = some_end grow mode p.0 p.1 left true N coherent in
    (e.0, record { input = left; is_input = λ t. refl; ends = e.1 })

-- in front of a run, nothing was printed
pub not_begun : (mode : Mode) (N : ℕ) (told : Bool) (p : Environment × Expr) (left old : Bytes) → IsCoherent p.0 → HasStoppedOn mode N told p left old old
not_begun mode N told p left old coherent =
    let e = comes_to_end mode N told p left coherent in
    record { last = e.0; runs = e.1; printed = λ t. record { front = []; rest = written Console (writes_of e.0); split = refl; new_is = sym (append-nil old) } }

-- what has come to its end
pub record IsWhole (N : ℕ) (t : Session) (e : RunEnd) (o : Outcome Value) : Type 0 where
  pub ends : EndsAs N e o
  pub noted : read_journal t.journal ≡ noted t.keeps (crossings_of o)

whole : (N : ℕ) (t : Session) (r e : RunEnd) (o : Outcome Value) → t.steps ≡ N → whole_end r ≡ Ok e → IsEnd r o t → IsWhole N t e o
whole N t end.Finished e (Returned v z) steps ok is = let same : end.Finished ≡ e = cc in record { ends = subst (λ x. EndsAs N x (Returned v z)) same tt; noted = is.noted }
whole N t end.Finished e (Raised x z) steps ok is = absurd is
whole N t end.Finished e (Spent z) steps ok is = absurd is
whole N t end.Finished e Stuck steps ok is = absurd is
whole N t (end.Uncaught x) e (Returned v z) steps ok is = absurd is
whole N t (end.Uncaught x) e (Raised y z) steps ok is = let same : end.Uncaught x ≡ e = cc in record { ends = subst (λ r. EndsAs N r (Raised y z)) same is.0; noted = is.1.noted }
whole N t (end.Uncaught x) e (Spent z) steps ok is = absurd is
whole N t (end.Uncaught x) e Stuck steps ok is = absurd is
whole N t (end.Spent n) e (Returned v z) steps ok is = absurd is
whole N t (end.Spent n) e (Raised x z) steps ok is = absurd is
whole N t (end.Spent n) e (Spent z) steps ok is = let same : end.Spent n ≡ e = cc in record { ends = subst (λ r. EndsAs N r (Spent z)) same (is.0 ∙ steps); noted = is.1.noted }
whole N t (end.Spent n) e Stuck steps ok is = absurd is
whole N t end.ReadFault e o steps ok is = absurd (cc)
whole N t end.WriteFault e o steps ok is = absurd (cc)
whole N t end.Memory e o steps ok is = absurd (cc)

leaves_all : (r e : RunEnd) (told : Bool) (o : Outcome Value) (t : Session) (old new : Streams) → whole_end r ≡ Ok e → Leaves r told o t old new → IsTrue told → new ≡ with_writes (writes_of o) old
leaves_all end.Finished e told o t old new ok l h = l h
leaves_all (end.Uncaught x) e told o t old new ok l h = l h
leaves_all (end.Spent n) e told o t old new ok l h = l h
leaves_all end.ReadFault e told o t old new ok l h = absurd (cc)
leaves_all end.WriteFault e told o t old new ok l h = absurd (cc)
leaves_all end.Memory e told o t old new ok l h = absurd (cc)

made_all : (told : Bool) (all : List Write) (old new : Streams) → (IsTrue told → new ≡ with_writes all old) → IsTrue told → Extends old.console new.console (written Console all)
made_all told all old new is t = record { front = written Console all; rest = []; split = sym (append-nil (written Console all)); new_is = ap (λ (s : Streams). s.console) (is t) }

-- what is written in front of a receive stands in front of all
abbrev GoOn : Outcome Value → Type 0
GoOn o = (before after : List Trace) (x : Trace) → receives_of o ≡ before ++ x ∷ after → (later : List Write) × (writes_of o ≡ x.writes ++ later)

at_receive : (told : Bool) (o : Outcome Value) (old new : Streams) → GoOn o → StopsAtReceive told (receives_of o) old new → StopsBehind told (writes_of o) old new
at_receive told o old new goes s = let l = goes s.before s.after s.receive s.order in record { before = s.receive.writes; after = l.0; order = l.1; made = s.made }

leaves_some : (r : RunEnd) (told : Bool) (o : Outcome Value) (t : Session) (old new : Streams) → GoOn o → Leaves r told o t old new → IsTrue told → Extends old.console new.console (written Console (writes_of o))
leaves_some end.Finished told o t old new goes l h = made_all told (writes_of o) old new l h
leaves_some (end.Uncaught x) told o t old new goes l h = made_all told (writes_of o) old new l h
leaves_some (end.Spent n) told o t old new goes l h = made_all told (writes_of o) old new l h
leaves_some end.ReadFault told o t old new goes l h = behind told (writes_of o) old new (at_receive told o old new goes l.0) h
leaves_some end.WriteFault told o t old new goes l h = inside told (writes_of o) old new l.0.stops h
leaves_some end.Memory told o t old new goes l h = somewhere told (writes_of o) old new l.0 h

module _ (mode : Mode) (N : ℕ) (told : Bool) (program : Loaded) (m : MachineSeen) (t : Session) (left : Bytes) (r : RunEnd) (old new : Bytes) (sent : Bytes)
    (loaded : IsLoaded (environment_of program.env) (expr_of program.main) (typ_of program.ty))
    (ran : Ran told (begun_journalled program N true m) t left r (streams old []) (streams new sent)) where
  abbrev pub it : Environment × Expr
  it = (environment_of program.env, expr_of program.main)

  last : (o : Outcome Value) × Ends mode it.0 it.1 ran.input true N o
  last = some_end grow mode it.0 it.1 ran.input true N loaded.program.coherent

  runs : RunsOn mode N told it left last.0
  runs = record { input = ran.input; is_input = ran.is_input; ends = last.1 }

  left_so : IsEnd r last.0 t × Leaves r told last.0 t (streams old []) (streams new sent)
  left_so = ran.runs.ends mode last.0 last.1

  pub has_stopped : HasStoppedOn mode N told it left old new
  has_stopped = record { last = last.0; runs = runs; printed = leaves_some r told last.0 t (streams old []) (streams new sent) (written_in_front mode it.0 it.1 ran.input true N last.0 last.1) left_so.1 }

  pub has_run : (e : RunEnd) → whole_end r ≡ Ok e → (part : ChainPart) (made more : Strings) → part.end ≡ e → part.sent.0 ≡ sent → NativeBy made t.journal part.native → MadeBy made t.journal more → HasRunOn mode N told it left part made more old new
  has_run e ok part made more is frames native note = record {
    last = last.0;
    runs = runs;
    part = λ earlier has. record {
      ends = subst (λ x. EndsAs N x last.0) (sym is) done.ends;
      sent = λ h. frames ∙ ap (λ (s : Streams). s.channel) (all h);
      native = native earlier has ∙ ap (natives earlier) crossed;
    };
    made = λ earlier has. subst (λ cs. Has more (made_by earlier cs)) crossed (note earlier has);
    printed = λ h. ap (λ (s : Streams). s.console) (all h);
  } where
    done : IsWhole N t e last.0
    done = whole N t r e last.0 ran.same.0 ok left_so.0

    crossed : read_journal t.journal ≡ crossings_of last.0
    crossed = done.noted ∙ ap (λ b. noted b (crossings_of last.0)) ran.same.1

    all : IsTrue told → streams new sent ≡ with_writes (writes_of last.0) (streams old [])
    all h = leaves_all r e told last.0 t (streams old []) (streams new sent) ok left_so.1 h

-- whatever the part of a program came to
pub ran_to : (told : Bool) (s t : Session) (left : Bytes) (e : RunEnd) (text : Text) (old new : Bytes) (before after : Strings) → Ran told s t left e (streams old []) (streams new text.0) → (r : Result ChainPart ChainFault)
    → IfOk r (λ p. (whole_end e ≡ Ok p.end) × (p.sent ≡ text)) → IfOk r (λ p. NativeBy before t.journal p.native) → OnOk r (MadeBy before t.journal after) → IfOk r (λ p. RanTo told s t left p before after old new)
ran_to told s t left e text old new before after ran (Ok p) ends native made = record {
  end = e;
  ran = subst (λ (x : Text). Ran told s t left e (streams old []) (streams new x.0)) (sym ends.1) ran;
  whole = ends.0;
  native = native;
  made = made;
}
ran_to told s t left e text old new before after ran (Err f) ends native made = tt

module _ (N : ℕ) (told : Bool) (program : Loaded) (m : MachineSeen) (s t : Session) (left : Bytes) (before after : Strings) (old new : Bytes) (is : s ≡ begun_journalled program N true m) (loaded : IsLoaded (environment_of program.env) (expr_of program.main) (typ_of program.ty)) where
  abbrev this : Environment × Expr
  this = (environment_of program.env, expr_of program.main)

  pub all_ran : (r : Result ChainPart ChainFault) → IfOk r (λ p. RanTo told s t left p before after old new) → IfOk r (λ p. (mode : Mode) → HasRunOn mode N told this left p before after old new)
  all_ran (Ok p) h = λ mode. has_run mode N told program m t left h.end old new p.sent.0 loaded (subst (λ (x : Session). Ran told x t left h.end (streams old []) (streams new p.sent.0)) is h.ran) p.end h.whole p before after refl refl h.native h.made
  all_ran (Err f) h = tt

  pub all_stopped : (r : Result ChainPart ChainFault) → OnErr r (RanSomewhere told s t left old new) → OnErr r ((mode : Mode) → HasStoppedOn mode N told this left old new)
  all_stopped (Ok p) h = tt
  all_stopped (Err f) h = λ mode. has_stopped mode N told program m t left h.end old new h.sent loaded (subst (λ (x : Session). Ran told x t left h.end (streams old []) (streams new h.sent)) is h.ran)
