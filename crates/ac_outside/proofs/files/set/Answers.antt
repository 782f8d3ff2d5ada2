use Rattle.std.proofs.Common.{◌≡◌, ◌∙◌, ap, sym, subst, string_bytes, List, ℕ, Some, None}
use Rattle.ac_outside.specs.Kept.{file_contents}
use Rattle.ac_outside.specs.inner.FilePlaces.{StandsAt}
use Rattle.ac_outside.specs.Outside.{OthersSame}
use Rattle.ac_outside.proofs.Places.{set_here, set_other, push_here, push_other}
use Rattle.ac_outside.proofs.files.set.Goals as goal

pub returns-in-Some-clause-ok : goal.returns-in-Some-clause-ok
returns-in-Some-clause-ok c =
    let at : StandsAt c.args.files.now.items c.args.name.now c.in-Some.at = subst (λ files. StandsAt files c.args.name.now c.in-Some.at) c.deref.ensures.value c.in-Some.ensures.place in
    set_here _ _ _ c.index_mut.result.now (record { name = c.index_mut.result.now.name; bytes = c.in_ok-text.text }) at (ap (λ f. string_bytes f.name) c.index_mut.ensures.value) ∙ ap (λ (l : List ℕ). Some l) c.in_ok-text.ensures

pub returns-in-Some-clause-others : goal.returns-in-Some-clause-others
returns-in-Some-clause-others c =
    let at : StandsAt c.args.files.now.items c.args.name.now c.in-Some.at = subst (λ files. StandsAt files c.args.name.now c.in-Some.at) c.deref.ensures.value c.in-Some.ensures.place in
    set_other _ _ _ c.index_mut.result.now (record { name = c.index_mut.result.now.name; bytes = c.in_ok-text.text }) at (ap (λ f. string_bytes f.name) c.index_mut.ensures.value)

pub returns-in_ok-push-in-None-clause-ok : goal.returns-in_ok-push-in-None-clause-ok
returns-in_ok-push-in-None-clause-ok c =
    let none : file_contents c.args.files.now.items c.args.name.now ≡ None = subst (λ files. file_contents files c.args.name.now ≡ None) c.deref.ensures.value c.in-None.ensures.place in
    ap (λ files. file_contents files c.args.name.now) c.in_ok-push-in-None.ensures.items
    ∙ push_here _ _ (record { name = c.in_ok-name-in-None.name; bytes = c.in_ok-text.text }) none c.in_ok-name-in-None.ensures.ok ∙ ap (λ (l : List ℕ). Some l) c.in_ok-text.ensures

pub returns-in_ok-push-in-None-clause-others : goal.returns-in_ok-push-in-None-clause-others
returns-in_ok-push-in-None-clause-others c =
    subst (λ files. OthersSame c.args.name.now (file_contents c.args.files.now.items) (file_contents files)) (sym c.in_ok-push-in-None.ensures.items)
    (push_other _ _ (record { name = c.in_ok-name-in-None.name; bytes = c.in_ok-text.text }) c.in_ok-name-in-None.ensures.ok)
