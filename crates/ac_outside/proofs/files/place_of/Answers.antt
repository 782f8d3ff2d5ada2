use Rattle.std.proofs.Common.{◌≡◌, ◌∙◌, ap, sym, length, subst, ℕ, bytes_eq, string_bytes, List, arith, add-one}
use Rattle.ac_outside.specs.inner.FilePlaces.{Passed}
use Rattle.ac_outside.proofs.Places.{passed_at, passed_more, passed_all}
use Rattle.ac_outside.proofs.files.place_of.Goals as goal

pub returns-then-eq-clause-place : goal.returns-then-eq-clause-place
returns-then-eq-clause-place c =
    passed_at _ _ _ c.index-files-i.result c.loop-i.invariant c.loop-i-test.true
    (ap (λ f. bytes_eq (string_bytes f.name) c.args.name.now) (sym c.index-files-i.is) ∙ ap (λ (n : List ℕ). bytes_eq n c.args.name.now) (sym c.as_str.ensures.value) ∙ sym c.eq.ensures ∙ c.if-eq.true)

pub loop-i-preserved : goal.loop-i-preserved
loop-i-preserved c = let h = passed_more _ _ _ c.index-files-i.result c.loop-i.invariant c.loop-i-test.true
    (ap (λ f. bytes_eq (string_bytes f.name) c.args.name.now) (sym c.index-files-i.is) ∙ ap (λ (n : List ℕ). bytes_eq n c.args.name.now) (sym c.as_str.ensures.value) ∙ sym c.eq.ensures ∙ c.if-eq.false) in
    rw add-one h

pub returns-clause-place : goal.returns-clause-place
returns-clause-place c =
    let e : c.loop-i.i ≡ length c.args.files.now = omega arith in
    passed_all _ _ (subst (λ (n : ℕ). Passed c.args.files.now c.args.name.now n) e c.loop-i.invariant)
