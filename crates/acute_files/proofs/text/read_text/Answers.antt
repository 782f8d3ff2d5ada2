use Rattle.std.proofs.Common.{◌∙◌, sym, ap, subst, rules, arith, take, length, refl, length-append, length-take}
use Rattle.ac_outside.specs.Outside.{ReadsFrom, Contents}
use Rattle.ac_outside.specs.declared.traits.Got.TheVariants as got
use Rattle.acute_files.proofs.Pieces.{begins_at_all, begins_more, ends_there, is_full, rose_since}
use Rattle.acute_files.proofs.text.read_text.Goals as goal

pub loop-len-init : goal.loop-len-init
loop-len-init g c = record {
  len_is = sym (ap length c.new-text.ensures);
  within = omega arith;
  later = λ name. omega arith;
  later_writes = λ name. omega arith;
  begins = λ told. begins_at_all _ _ c.new-text.ensures;
  same = search rules;
  only = g.F.Files.reads_none _ _;
}

pub loop-len-preserved : goal.loop-len-preserved
loop-len-preserved g c =
    let i = c.loop-len.invariant in
    let b = c.in-Bytes.ensures in
    let o = c.in-Ok.ensures.ok in
    record {
      len_is = omega (arith, ap length o, length-append c.loop-len.text.0 (take c.in-Bytes.count c.read.new.buf), length-take c.in-Bytes.count c.read.new.buf, b.bound, i.len_is);
      within = search rules;
      later = λ name. omega (arith, i.later name, b.later name);
      later_writes = λ name. omega (arith, i.later_writes name, b.later_writes name);
      begins = λ told.
          let r = subst (λ (f : Contents). ReadsFrom (got.Bytes c.in-Bytes.count) (f c.args.name.now) c.loop-len.len c.read.new.buf) (i.same told) (b.bytes told) in
          rw o (begins_more _ _ _ _ _ _ i.len_is (i.begins told) r refl);
      same = λ told. b.same told ∙ i.same told;
      only = g.F.Files.reads_on _ _ _ _ i.only (b.reads (omega (arith, i.within)));
    }

pub returns-in-End-clause-text : goal.returns-in-End-clause-text
returns-in-End-clause-text g c = λ told.
    let i = c.loop-len.invariant in
    let r = subst (λ (f : Contents). ReadsFrom got.End (f c.args.name.now) c.loop-len.len c.read.new.buf) (i.same told) (c.in-End.ensures.bytes told) in
    ends_there _ _ _ _ i.len_is i.within (i.begins told) r

pub returns-in-Failed-clause-cause : goal.returns-in-Failed-clause-cause
returns-in-Failed-clause-cause g c = λ _. rose_since _ _ _ (c.loop-len.invariant.later c.args.name.now) (c.in-Failed.ensures.cause refl)

pub returns-clause-text : goal.returns-clause-text
returns-clause-text g c = λ told. let i = c.loop-len.invariant in is_full _ _ _ i.len_is i.within c.loop-len-test.false (i.begins told)

pub returns-in-End-clause-only : goal.returns-in-End-clause-only
returns-in-End-clause-only g c = let i = c.loop-len.invariant in g.F.Files.reads_on _ _ _ _ i.only (c.in-End.ensures.reads (omega (arith, i.within)))

pub returns-in-Failed-clause-only : goal.returns-in-Failed-clause-only
returns-in-Failed-clause-only g c = let i = c.loop-len.invariant in g.F.Files.reads_on _ _ _ _ i.only (c.in-Failed.ensures.reads (omega (arith, i.within)))

pub returns-in-End-clause-later : goal.returns-in-End-clause-later
returns-in-End-clause-later g c = λ name. omega (arith, c.loop-len.invariant.later name, c.in-End.ensures.later name)

pub returns-in-End-clause-later_writes : goal.returns-in-End-clause-later_writes
returns-in-End-clause-later_writes g c = λ name. omega (arith, c.loop-len.invariant.later_writes name, c.in-End.ensures.later_writes name)

pub returns-in-Failed-clause-later : goal.returns-in-Failed-clause-later
returns-in-Failed-clause-later g c = λ name. omega (arith, c.loop-len.invariant.later name, c.in-Failed.ensures.later name)

pub returns-in-Failed-clause-later_writes : goal.returns-in-Failed-clause-later_writes
returns-in-Failed-clause-later_writes g c = λ name. omega (arith, c.loop-len.invariant.later_writes name, c.in-Failed.ensures.later_writes name)
