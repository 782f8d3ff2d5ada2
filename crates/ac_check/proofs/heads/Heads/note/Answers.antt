use Rattle.std.proofs.Common.{◌-◌, ◌≤◌, arith, subst}
use Rattle.ac_types.specs.Types.{Typ}
use Rattle.ac_types.specs.ReadTypes.{typ_of}
use Rattle.ac_terms.specs.Read.{environment_of}
use Rattle.ac_rules.specs.Views.{unsealed}
use Rattle.ac_check.specs.declared.heads.End.{End}
use Rattle.ac_check.specs.inner.Heads.{abstract_type, IsEnd}
use Rattle.ac_check.proofs.EndLaws.{end_on_way, heads_more, heads_same, nearer}
use Rattle.ac_check.proofs.heads.Heads.note.Goals as goal

pub returns-in_err-insert-in-Next : goal.returns-in_err-insert-in-Next
returns-in_err-insert-in-Next c = heads_same (environment_of c.args.env.now) c.loop-before.self (record { found = c.insert.new.self }) c.loop-before.invariant.heads c.in_err-insert-in-Next.ensures.err

pub loop-before-preserved : goal.loop-before-preserved
loop-before-preserved c =
    let E = environment_of c.args.env.now in
    let m = c.args.end.openings - c.loop-before.before in
    let e : End = record { ty = c.args.end.ty; openings = m } in
    let l : m ≤ c.args.end.openings = omega arith in
    let is : IsEnd E (abstract_type c.in-Next.key) e = subst (λ (T : Typ). IsEnd E T e) c.in-Next.ensures.0 (end_on_way E (typ_of c.args.ty.now) (typ_of c.loop-before.here.now) m c.args.end c.requires.end l c.loop-before.invariant.left) in
    record {
      heads = heads_more E c.loop-before.self (record { found = c.insert.new.self }) c.in-Next.key e c.loop-before.invariant.heads is c.in_ok-insert-in-Next.ensures.updates;
      left = nearer (unsealed E) (typ_of c.loop-before.here.now) (typ_of c.in-Next.next.now) (typ_of c.args.end.ty.now) c.args.end.openings c.loop-before.before c.loop-before-test.true c.loop-before.invariant.left c.in-Next.ensures.1;
    }
