use Rattle.std.proofs.Common.{rules, ◌≡◌, ◌∙◌, sym, ap, subst, drop, map, option_map, string_bytes, IfOk, List, Some, None}
use Rattle.std.specs.Prelude.{option_and_then, slice_get}
use Rattle.acute_words.specs.Form.{Text, given_of}
use Rattle.acute_words.specs.Commands.{request_of}
use Rattle.acute_words.specs.inner.Rules.{row, rows_in}
use Rattle.acute_words.proofs.Getters.{some_given}
use Rattle.acute_words.specs.inner.ByKind.{asked_of, form_of}
use Rattle.acute_words.proofs.ByName.{none_asked, of_first}
use Rattle.acute_words.proofs.reader.read_words.Goals as goal

pub returns-in-None : goal.returns-in-None
returns-in-None c =
    let words : List Text = drop 1 (map string_bytes c.args.words.now) in
    let kind = c.in-Some-kind_of.kind in
    let first : Some c.in-Some.name.now ≡ slice_get c.args.words.now 0 = search rules in
    let read : None ≡ option_map (map row) (given_of (form_of kind) words) =
    ap (option_map rows_in) (sym c.in-None.is) ∙ c.in_ok-matches_in.ensures (form_of kind) c.in_ok-command_in.ensures in
    none_asked (given_of (form_of kind) words) (asked_of kind) read
    ∙ of_first c.args.words.now c.in-Some.name.now c.as_str.result.now (Some kind) first c.as_str.ensures.value c.in-Some-kind_of.ensures

pub returns-in-Some-2 : goal.returns-in-Some-2
returns-in-Some-2 c =
    let words : List Text = drop 1 (map string_bytes c.args.words.now) in
    let kind = c.in-Some-kind_of.kind in
    let first : Some c.in-Some.name.now ≡ slice_get c.args.words.now 0 = search rules in
    let m = c.in-Some-2.matches in
    let read : Some (rows_in m) ≡ option_map (map row) (given_of (form_of kind) words) =
    ap (option_map rows_in) (sym c.in-Some-2.is) ∙ c.in_ok-matches_in.ensures (form_of kind) c.in_ok-command_in.ensures in
    let got = some_given (given_of (form_of kind) words) (rows_in m) read in
    let asked = ap (option_and_then (asked_of kind)) (sym got.1)
    ∙ of_first c.args.words.now c.in-Some.name.now c.as_str.result.now (Some kind) first c.as_str.ensures.value c.in-Some-kind_of.ensures in
    subst (λ r. IfOk c.command_from.result (λ o. option_map request_of o ≡ r)) asked (c.command_from.ensures got.0 got.2)
