use Rattle.std.proofs.Common.{rules, ◌≡◌, ◌∙◌, sym, ap, drop, map, option_map, string_bytes, true, false, List, Some, inl, inr, []}
use Rattle.std.specs.List.{list_all}
use Rattle.acute_words.specs.Form.{Text, is_fit}
use Rattle.acute_words.specs.inner.Rules.{row, rows_in}
use Rattle.clap.specs.Words.{app_of, fault_of, matches_of}
use Rattle.clap.proofs.WalkLemmas.{both}
use Rattle.acute_words.proofs.Whole.{among_some, form_read, unfit_given}
use Rattle.acute_words.proofs.matching.matches_in.Goals as goal

pub returns-then-not-are_fit : goal.returns-then-not-are_fit
returns-then-not-are_fit c = λ f h.
    let unfit : list_all is_fit (drop 1 (map string_bytes c.args.words.now)) ≡ false = search rules in
    sym (ap (option_map (map row)) (unfit_given f (drop 1 (map string_bytes c.args.words.now)) unfit))

pub returns-in-Ok : goal.returns-in-Ok
returns-in-Ok c = λ f h.
    let words : List Text = map string_bytes c.args.words.now in
    let fit : list_all is_fit (drop 1 words) ≡ true = search rules in
    let none : fault_of (app_of c.args.command) words ≡ [] = c.in-Ok.ensures.kinds h.simple in
    let rows : rows_in c.in-Ok.matches ≡ matches_of (app_of c.args.command) words = (c.in-Ok.ensures.matches (both _ _ h.simple).0).0 in
    let read = form_read f (app_of c.args.command) words h fit in
    ap Some rows ∙ (rw none at read)

pub returns : goal.returns
returns c = λ f h.
    let words : List Text = map string_bytes c.args.words.now in
    let fit : list_all is_fit (drop 1 words) ≡ true = search rules in
    elim (c.in-Err.ensures.kinds h.simple) [
      | inl e ↦ absurd (c.in_default.not-OutOfMemory (c.kind.ensures ∙ e))
      | inr e ↦ sym (among_some _ _ (matches_of (app_of c.args.command) words) e) ∙ form_read f (app_of c.args.command) words h fit
    ]
