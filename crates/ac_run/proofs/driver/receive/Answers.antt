use Rattle.std.proofs.Common.{refl, false, []}
use Rattle.ac_run.specs.Sessions.{Streams, streams}
use Rattle.ac_run.proofs.Hearing.{gets_frame, gets_end, gets_bad, hears_with}
use Rattle.ac_run.proofs.driver.receive.Goals as goal

pub returns-in-Frame-clause-received : goal.returns-in-Frame-clause-received
returns-in-Frame-clause-received g c =
    hears_with g.W.Source.told c.args.inbox.now (g.W.Source.left c.args.world.now) c.next.new.self (g.W.Source.left c.next.new.world) _ _ (λ rest input h.
    gets_frame g.W.Source.told c.args.machine.now c.resume_text.new.self c.next.new.self rest input c.in-Frame.text.0 h.0 h.1 h.2 c.resume_text.result c.going.result c.resume_text.ensures.ok c.going.ensures.ok c.going.ensures.err)
    c.in-Frame.ensures.heard

pub returns-in-End-clause-received : goal.returns-in-End-clause-received
returns-in-End-clause-received g c =
    let none : Streams = streams [] [] in
    hears_with g.W.Source.told c.args.inbox.now (g.W.Source.left c.args.world.now) c.next.new.self (g.W.Source.left c.next.new.world) _ _ (λ rest input h.
    gets_end g.W.Source.told c.args.machine.now c.raise.new.machine c.next.new.self rest input none h.0 h.1 c.end_of_file.result c.end_of_file.ensures c.raise.result (c.raise.ensures.served c.end_of_file.result refl false none) c.raise.ensures.cause)
    c.in-End.ensures.heard

pub returns-in-Bad-clause-received : goal.returns-in-Bad-clause-received
returns-in-Bad-clause-received g c =
    let none : Streams = streams [] [] in
    hears_with g.W.Source.told c.args.inbox.now (g.W.Source.left c.args.world.now) c.next.new.self (g.W.Source.left c.next.new.world) _ _ (λ rest input h.
    gets_bad g.W.Source.told c.args.machine.now c.raise-in-Bad.new.machine c.next.new.self rest input none h.0 h.1 h.2 h.3 c.bad_frame.result c.bad_frame.ensures c.raise-in-Bad.result (λ e is. c.raise-in-Bad.ensures.served e is false none) c.raise-in-Bad.ensures.memory c.raise-in-Bad.ensures.cause)
    c.in-Bad.ensures.heard

pub returns-in-Failed-clause-received : goal.returns-in-Failed-clause-received
returns-in-Failed-clause-received g c =
    hears_with g.W.Source.told c.args.inbox.now (g.W.Source.left c.args.world.now) c.next.new.self (g.W.Source.left c.next.new.world) _ _ (λ rest input h. (refl, h)) c.in-Failed.ensures.heard
