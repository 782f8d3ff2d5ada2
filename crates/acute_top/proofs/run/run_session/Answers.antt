use Rattle.std.proofs.Common.{refl, ap}
use Rattle.ac_run.specs.Sessions.{Session}
use Rattle.acute_top.proofs.PlaceLaws.{input_same, before_same, made_still, said_behind, told_behind, still_behind}
use Rattle.acute_top.proofs.RunLaws.{finished_in, raised_in, spent_in, unread_in, failed_in, lost_in}
use Rattle.acute_top.proofs.run.run_session.Goals as goal

pub returns-in-Finished-clause-ends : goal.returns-in-Finished-clause-ends
returns-in-Finished-clause-ends g c = λ start p loaded is_loaded is shelf is_shelf text is_text accepted.
    finished_in (record {
      shelf = shelf;
      is_shelf = is_shelf;
      text = text;
      is_text = is_text;
      loaded = loaded;
      accepted = accepted;
      typed = is_loaded.program;
      machine = c.args.session.now.machine;
      is = is;
      left = _;
      left_is = λ told. input_same _ _ g.F.Files.told g.I.Source.told _ g.O.Sink.told start _ _ c.requires.apart p told;
      old = _;
      old_is = λ told. before_same _ _ g.F.Files.told g.I.Source.told _ g.O.Sink.told start _ _ _ p told;
      made = made_still _ _ _ _ _ _ _ _ _ p c.in-Finished.ensures.there;
      ran = c.in-Finished.ensures.ends (ap (λ (s : Session). s.end) is);
    }) (still_behind g.E.Sink _ _ _ _ refl c.in-Finished.ensures.apart)

pub returns-in-Uncaught-clause-ends : goal.returns-in-Uncaught-clause-ends
returns-in-Uncaught-clause-ends g c = λ start p loaded is_loaded is shelf is_shelf text is_text accepted.
    raised_in (record {
      shelf = shelf;
      is_shelf = is_shelf;
      text = text;
      is_text = is_text;
      loaded = loaded;
      accepted = accepted;
      typed = is_loaded.program;
      machine = c.args.session.now.machine;
      is = is;
      left = _;
      left_is = λ told. input_same _ _ g.F.Files.told g.I.Source.told _ g.O.Sink.told start _ _ c.requires.apart p told;
      old = _;
      old_is = λ told. before_same _ _ g.F.Files.told g.I.Source.told _ g.O.Sink.told start _ _ _ p told;
      made = made_still _ _ _ _ _ _ _ _ _ p c.in-Uncaught.ensures.there;
      ran = c.in-Uncaught.ensures.ends (ap (λ (s : Session). s.end) is);
    }) _ (told_behind g.E.Sink _ _ _ _ _ _ _ _ _ _ refl c.in-Uncaught.ensures.apart c.in-Uncaught.ensures.later c.tell_uncaught.ensures)

pub returns-in-Spent-clause-ends : goal.returns-in-Spent-clause-ends
returns-in-Spent-clause-ends g c = λ start p loaded is_loaded is shelf is_shelf text is_text accepted.
    spent_in (record {
      shelf = shelf;
      is_shelf = is_shelf;
      text = text;
      is_text = is_text;
      loaded = loaded;
      accepted = accepted;
      typed = is_loaded.program;
      machine = c.args.session.now.machine;
      is = is;
      left = _;
      left_is = λ told. input_same _ _ g.F.Files.told g.I.Source.told _ g.O.Sink.told start _ _ c.requires.apart p told;
      old = _;
      old_is = λ told. before_same _ _ g.F.Files.told g.I.Source.told _ g.O.Sink.told start _ _ _ p told;
      made = made_still _ _ _ _ _ _ _ _ _ p c.in-Spent.ensures.there;
      ran = c.in-Spent.ensures.ends (ap (λ (s : Session). s.end) is);
    }) _ (told_behind g.E.Sink _ _ _ _ _ _ _ _ _ _ refl c.in-Spent.ensures.apart c.in-Spent.ensures.later c.tell_spent.ensures)

pub returns-in-ReadFault-clause-ends : goal.returns-in-ReadFault-clause-ends
returns-in-ReadFault-clause-ends g c = λ start p loaded is_loaded is shelf is_shelf text is_text accepted.
    unread_in (record {
      shelf = shelf;
      is_shelf = is_shelf;
      text = text;
      is_text = is_text;
      loaded = loaded;
      accepted = accepted;
      typed = is_loaded.program;
      machine = c.args.session.now.machine;
      is = is;
      left = _;
      left_is = λ told. input_same _ _ g.F.Files.told g.I.Source.told _ g.O.Sink.told start _ _ c.requires.apart p told;
      old = _;
      old_is = λ told. before_same _ _ g.F.Files.told g.I.Source.told _ g.O.Sink.told start _ _ _ p told;
      made = made_still _ _ _ _ _ _ _ _ _ p c.in-ReadFault.ensures.there;
      ran = c.in-ReadFault.ensures.ends (ap (λ (s : Session). s.end) is);
    }) _ p.reads (c.in-ReadFault.ensures.cause_read (ap (λ (s : Session). s.end) is) refl) _ (said_behind g.E.Sink _ _ _ _ _ _ _ _ refl c.in-ReadFault.ensures.apart c.in-ReadFault.ensures.later c.say.ensures.said)

pub returns-in-WriteFault-clause-ends : goal.returns-in-WriteFault-clause-ends
returns-in-WriteFault-clause-ends g c = λ start p loaded is_loaded is shelf is_shelf text is_text accepted.
    failed_in (record {
      shelf = shelf;
      is_shelf = is_shelf;
      text = text;
      is_text = is_text;
      loaded = loaded;
      accepted = accepted;
      typed = is_loaded.program;
      machine = c.args.session.now.machine;
      is = is;
      left = _;
      left_is = λ told. input_same _ _ g.F.Files.told g.I.Source.told _ g.O.Sink.told start _ _ c.requires.apart p told;
      old = _;
      old_is = λ told. before_same _ _ g.F.Files.told g.I.Source.told _ g.O.Sink.told start _ _ _ p told;
      made = made_still _ _ _ _ _ _ _ _ _ p c.in-WriteFault.ensures.there;
      ran = c.in-WriteFault.ensures.ends (ap (λ (s : Session). s.end) is);
    }) _ _ c.say-in-WriteFault.ensures.later p.writes (c.in-WriteFault.ensures.cause (ap (λ (s : Session). s.end) is) refl) _ (said_behind g.E.Sink _ _ _ _ _ _ _ _ refl c.in-WriteFault.ensures.apart c.in-WriteFault.ensures.later c.say-in-WriteFault.ensures.said)

pub returns-in-Memory-clause-ends : goal.returns-in-Memory-clause-ends
returns-in-Memory-clause-ends g c = λ start p loaded is_loaded is shelf is_shelf text is_text accepted.
    lost_in (record {
      shelf = shelf;
      is_shelf = is_shelf;
      text = text;
      is_text = is_text;
      loaded = loaded;
      accepted = accepted;
      typed = is_loaded.program;
      machine = c.args.session.now.machine;
      is = is;
      left = _;
      left_is = λ told. input_same _ _ g.F.Files.told g.I.Source.told _ g.O.Sink.told start _ _ c.requires.apart p told;
      old = _;
      old_is = λ told. before_same _ _ g.F.Files.told g.I.Source.told _ g.O.Sink.told start _ _ _ p told;
      made = made_still _ _ _ _ _ _ _ _ _ p c.in-Memory.ensures.there;
      ran = c.in-Memory.ensures.ends (ap (λ (s : Session). s.end) is);
    }) _ (said_behind g.E.Sink _ _ _ _ _ _ _ _ refl c.in-Memory.ensures.apart c.in-Memory.ensures.later c.no_memory.ensures)
