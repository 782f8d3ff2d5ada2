use Rattle.std.proofs.Common.{sym, subst, IsTrue}
use Rattle.ac_outside.specs.FrameReaders.{Reader, held, Follows, Receives}
use Rattle.ac_outside.specs.declared.frames.FrameGot.TheVariants as got
use Rattle.ac_run.specs.inner.Inboxes.{Comes, Heard, NoneLeft}
use Rattle.ac_run.specs.declared.inbox.Inbox.{Inbox}
use Rattle.ac_run.specs.declared.inbox.Inbox.TheVariants.{Broken}
use Rattle.ac_run.specs.declared.inbox.Incoming.TheVariants as incoming
use Rattle.ac_run.proofs.Hearing.{hears_frame, hears_bad, hears_failed, hears_nothing}
use Rattle.ac_run.proofs.inbox.Inbox.next.Goals as goal

pub returns-in-Frame-clause-heard : goal.returns-in-Frame-clause-heard
returns-in-Frame-clause-heard g c =
    let left = g.W.Source.left c.args.world.now in
    let now = g.W.Source.left c.next.new.source in
    let state = subst (λ (r : Reader). Follows (got.Frame c.in-Frame.text) r c.next.new.self) c.new.ensures c.in-Frame.ensures.state in
    let bytes = λ (told : IsTrue g.W.Source.told). subst (λ (r : Reader). Receives (got.Frame c.in-Frame.text) r left c.next.new.self now) c.new.ensures (c.in-Frame.ensures.bytes told) in
    subst (λ (b : Inbox). Comes g.W.Source.told b left b now (Heard g.W.Source.told (incoming.Frame c.in-Frame.text) b)) (sym c.in-Open.is) (hears_frame g.W.Source.told left now c.in-Frame.text state.0 bytes)

pub returns-in-Bad-clause-heard : goal.returns-in-Bad-clause-heard
returns-in-Bad-clause-heard g c =
    let left = g.W.Source.left c.args.world.now in
    let now = g.W.Source.left c.next.new.source in
    let state = subst (λ (r : Reader). Follows (got.Bad c.in-Bad.length c.in-Bad.got) r c.next.new.self) c.new.ensures c.in-Bad.ensures.state in
    let bytes = λ (told : IsTrue g.W.Source.told). subst (λ (r : Reader). Receives (got.Bad c.in-Bad.length c.in-Bad.got) r left c.next.new.self now) c.new.ensures (c.in-Bad.ensures.bytes told) in
    subst (λ (b : Inbox). Comes g.W.Source.told b left Broken now (Heard g.W.Source.told incoming.Bad Broken)) (sym c.in-Open.is) (hears_bad g.W.Source.told left now c.in-Bad.length c.in-Bad.got state.0 bytes)

pub returns-in-Failed-clause-heard : goal.returns-in-Failed-clause-heard
returns-in-Failed-clause-heard g c =
    let left = g.W.Source.left c.args.world.now in
    let now = g.W.Source.left c.next.new.source in
    let bytes = λ (told : IsTrue g.W.Source.told). subst (λ (r : Reader). Receives got.Failed r left c.next.new.self now) c.new.ensures (c.in-Failed.ensures.bytes told) in
    subst (λ (b : Inbox). Comes g.W.Source.told b left b now (Heard g.W.Source.told incoming.Failed b)) (sym c.in-Open.is) (hears_failed g.W.Source.told left now (λ told. (held c.next.new.self, bytes told)))

pub returns-clause-heard : goal.returns-clause-heard
returns-clause-heard g c =
    subst (λ (b : Inbox). Comes g.W.Source.told b (g.W.Source.left c.args.world.now) b (g.W.Source.left c.next.new.source) (Heard g.W.Source.told incoming.Memory b)) (sym c.in-Open.is) (hears_nothing g.W.Source.told (g.W.Source.left c.args.world.now) (g.W.Source.left c.next.new.source) _ (λ rest input. tt))

pub returns-in-Frame-clause-empty : goal.returns-in-Frame-clause-empty
returns-in-Frame-clause-empty g c = λ none. subst (λ (b : Inbox). NoneLeft g.W.Source.told b (g.W.Source.left c.next.new.source)) (sym c.in-Open.is) tt

pub returns-in-End-clause-empty : goal.returns-in-End-clause-empty
returns-in-End-clause-empty g c = λ none told. (subst (λ (r : Reader). Receives got.End r (g.W.Source.left c.args.world.now) c.next.new.self (g.W.Source.left c.next.new.source)) c.new.ensures (c.in-End.ensures.bytes told)).1

pub returns-in-Bad-clause-empty : goal.returns-in-Bad-clause-empty
returns-in-Bad-clause-empty g c = λ none. tt

pub returns-in-Failed-clause-empty : goal.returns-in-Failed-clause-empty
returns-in-Failed-clause-empty g c = λ none. subst (λ (b : Inbox). NoneLeft g.W.Source.told b (g.W.Source.left c.next.new.source)) (sym c.in-Open.is) tt

pub returns-clause-empty : goal.returns-clause-empty
returns-clause-empty g c = λ none. subst (λ (b : Inbox). NoneLeft g.W.Source.told b (g.W.Source.left c.next.new.source)) (sym c.in-Open.is) tt
