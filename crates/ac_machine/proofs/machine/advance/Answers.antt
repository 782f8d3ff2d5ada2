use Rattle.std.proofs.Common.{ap, refl}
use Rattle.std.specs.Prelude.{Some}
use Rattle.ac_types.specs.ReadNumbers.{exn_number, exn_text}
use Rattle.ac_terms.specs.Read.{environment_of}
use Rattle.ac_types.specs.declared.exceptions.Exn.{Exn}
use Rattle.ac_code.specs.ReadCode.{table_code}
use Rattle.ac_machine_engine.specs.States.{AskDone, AskRaised, AskSpent, Ask, Paused}
use Rattle.ac_machine_engine.specs.Resumes.{At}
use Rattle.ac_machine_engine.specs.Held.{core}
use Rattle.ac_machine_engine.specs.Seen.{ask_of}
use Rattle.ac_machine_engine.specs.declared.pause.Pause.TheVariants as answers
use Rattle.ac_machine_engine.specs.declared.pause.Stand.TheVariants as stand
use Rattle.ac_machine.proofs.RunLaws.{not_memory, advanced, stopped}
use Rattle.ac_machine.proofs.machine.advance.Goals as goal

pub stand_at-requires : goal.stand_at-requires
stand_at-requires c e =
    not_memory (environment_of c.args.env.now) (table_code c.args.table.now) c.args.engine.now c.run.new.engine c.in_ok-pause-in-Running.pause (rw c.in-Running.is at c.requires.pauses) c.in_ok-pause-in-Running.ensures
    (ap (ask_of c.run.new.engine.store) e)

pub returns-in_ok-stand-in-Running : goal.returns-in_ok-stand-in-Running
returns-in_ok-stand-in-Running c =
    rw c.in-Running.is
    (advanced (environment_of c.args.env.now) (table_code c.args.table.now) c.args.engine.now c.run.new.engine c.in_ok-pause-in-Running.pause c.in_ok-stand-in-Running.stand
    (rw c.in-Running.is at c.requires.pauses) c.in_ok-pause-in-Running.ensures c.in_ok-stand-in-Running.ensures)

pub returns-in-Done : goal.returns-in-Done
returns-in-Done c =
    rw c.in-Done.is (stopped (environment_of c.args.env.now) (table_code c.args.table.now) c.args.engine.now AskDone answers.Done stand.Done c.requires.sound refl refl refl)

pub returns-in_ok-kept-in-Raised : goal.returns-in_ok-kept-in-Raised
returns-in_ok-kept-in-Raised c =
    let asks : Exn → Ask = λ x. AskRaised (exn_number x) (exn_text x) in
    rw c.in-Raised.is
    (stopped (environment_of c.args.env.now) (table_code c.args.table.now) c.args.engine.now (asks c.in-Raised.exn) (answers.Raised c.in_ok-again-in-Raised.again) (stand.Raised c.in_ok-kept-in-Raised.kept) c.requires.sound
    (ap (λ (x : Exn). Some (asks x)) c.in_ok-again-in-Raised.ensures) (ap (λ (x : Exn). At (Paused (asks x) (core c.args.engine.now))) c.in_ok-kept-in-Raised.ensures) refl)

pub returns-in-Spent : goal.returns-in-Spent
returns-in-Spent c =
    rw c.in-Spent.is (stopped (environment_of c.args.env.now) (table_code c.args.table.now) c.args.engine.now AskSpent answers.Spent stand.Spent c.requires.sound refl refl refl)
