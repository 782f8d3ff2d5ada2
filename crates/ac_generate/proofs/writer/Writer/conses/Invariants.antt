use Rattle.std.proofs.Common.{◌≡◌, replicate}
use Rattle.ac_code.specs.Code.{MakeCons}
use Rattle.ac_generate.specs.inner.Drafts.{draft_of, put_all}
use Rattle.ac_generate.proofs.writer.Writer.conses.Given as goal

abbrev pub invariant-loop : goal.invariant-loop
invariant-loop l = draft_of l.self ≡ put_all (replicate l.counter MakeCons) (draft_of l.initial.self)
