-- A machine as callers see it.
use Rattle.std.specs.Prelude.{Bool, List, Option, Some, None}
use Rattle.ac_types.specs.ReadNumbers.{exn_number, exn_text}
use Rattle.ac_types.specs.ReadTypes.{typ_of}
use Rattle.ac_terms.specs.Read.{home_of}
use Rattle.ac_values.specs.declared.node.Node.{Node}
use Rattle.ac_values.specs.Values.{stands_as}
use Rattle.ac_machine_engine.specs.declared.engine.Engine.{Engine}
use Rattle.ac_machine_engine.specs.declared.pause.Pause as code_pause
use Rattle.ac_machine_engine.specs.declared.pause.Wait as code_wait
use Rattle.ac_machine_engine.specs.declared.pause.Stand as code_stand
use Rattle.ac_machine_engine.specs.States.{Core, Ask, AskPrint, AskSend, AskReceive, AskMarshal, AskUnmarshal, AskDone, AskRaised, AskSpent, Run, Paused}
use Rattle.ac_machine_engine.specs.Resumes.{Wait, Printing, Sending, Receiving, Marshalling, Unmarshalling, Standing, At, Waits}
use Rattle.ac_machine_engine.specs.Held.{core}

-- the machine, how it stands, and whether memory ran out in a call
pub record MachineSeen : Type 0 where
  pub engine : Engine
  pub stand : code_stand.Stand
  pub lost : Bool

abbrev pub wait_of : code_wait.Wait → Wait
wait_of code_wait.Wait.Printing = Printing
wait_of code_wait.Wait.Sending = Sending
wait_of code_wait.Wait.Receiving = Receiving
wait_of code_wait.Wait.Marshalling = Marshalling
wait_of code_wait.Wait.Unmarshalling = Unmarshalling

abbrev pub stands_at : code_stand.Stand → Core → Standing
stands_at code_stand.Stand.Running c = At (Run c)
stands_at (code_stand.Stand.Waiting w) c = Waits (wait_of w) c
stands_at code_stand.Stand.Done c = At (Paused AskDone c)
stands_at (code_stand.Stand.Raised e) c = At (Paused (AskRaised (exn_number e) (exn_text e)) c)
stands_at code_stand.Stand.Spent c = At (Paused AskSpent c)

-- what the machine stands at
abbrev pub standing : MachineSeen → Standing
standing m = stands_at m.stand (core m.engine)

-- what a pause asks for, whose value is of this store; want of memory asks for nothing
abbrev pub ask_of : List Node → code_pause.Pause → Option Ask
ask_of ns (code_pause.Pause.Print text) = Some (AskPrint text.0)
ask_of ns (code_pause.Pause.Send text) = Some (AskSend text.0)
ask_of ns code_pause.Pause.Receive = Some AskReceive
ask_of ns (code_pause.Pause.Marshal mark value ty home) = Some (AskMarshal mark.0 (stands_as ns value.0) (typ_of ty) (home_of home))
ask_of ns (code_pause.Pause.Unmarshal text ty) = Some (AskUnmarshal text.0 (typ_of ty))
ask_of ns code_pause.Pause.Done = Some AskDone
ask_of ns (code_pause.Pause.Raised e) = Some (AskRaised (exn_number e) (exn_text e))
ask_of ns code_pause.Pause.Spent = Some AskSpent
ask_of ns code_pause.Pause.Memory = None
