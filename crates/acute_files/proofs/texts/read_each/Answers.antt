use Rattle.std.proofs.Common.{◌≡◌, ◌∙◌, ◌++◌, ◌∷◌, List, [], Err, get_or, take, drop, suc, sym, ap, subst, arith}
use Rattle.std.specs.Borrow.{Bor}
use Rattle.std.proofs.lemmas.List.{take_all}
use Rattle.ac_types.specs.Types.{Bytes}
use Rattle.ac_types.specs.declared.text.Text.{Text}
use Rattle.acute_files.specs.Files.{files_seen, files_read, IsTextOf, names_in}
use Rattle.acute_files.specs.ManyTexts.{AreTexts}
use Rattle.acute_files.specs.ReadOrder.{ReadInTurn}
use Rattle.acute_files.specs.declared.text.ReadFault.{ReadFault}
use Rattle.acute_files.specs.declared.text.ReadFault.TheVariants.{Failed}
use Rattle.acute_files.proofs.Pieces.{within_limit}
use Rattle.acute_files.proofs.Wider.{at_once, to_end, wide_text, wide_rose}
use Rattle.acute_files.proofs.Turns.{named_there, named_more, wide_texts, text_more, turn_stop}
use Rattle.acute_files.proofs.texts.read_each.Goals as goal

-- no name
abbrev nameless : Bor Bytes
nameless = record { ref_ptr = (0, 0); now = [] }

pub loop-i-preserved : goal.loop-i-preserved
loop-i-preserved g c =
    let i = c.loop-i.invariant in
    let e = c.in-Ok.ensures in
    let names = c.args.names.now in
    let name = (get_or names c.loop-i.i nameless).now in
    let seen = files_seen g.F.Files.contents g.F.Files.read_faults g.F.Files.write_faults in
    let before = at_once g.F.Files.told (seen c.args.files.now) (seen c.loop-i.files) (seen c.read_text.new.files) e.later in
    let here = to_end g.F.Files.told (seen c.args.files.now) (seen c.loop-i.files) (seen c.read_text.new.files) i.same i.later in
    let files = files_read g.F.Files.told (seen c.args.files.now) (seen c.read_text.new.files) in
    let is : IsTextOf (files_read g.F.Files.told (seen c.loop-i.files) (seen c.read_text.new.files) name) c.in-Ok.text.0 = λ told. within_limit _ _ (e.text told) in
    let more = text_more files (names_in (take c.loop-i.i names)) c.loop-i.texts name c.in-Ok.text (wide_texts before _ _ i.texts) (wide_text here name c.in-Ok.text.0 is) in
    let next = sym (named_more names c.loop-i.i nameless c.loop-i-test.true) in
    record {
      same = λ told. e.same told ∙ i.same told;
      later = λ name. omega (arith, i.later name, e.later name);
      texts =
          subst (λ (xs : List Bytes). AreTexts files xs c.push.new.self) next
          (subst (λ (ys : List Text). AreTexts files (names_in (take c.loop-i.i names) ++ name ∷ []) ys) (sym c.in-Ok-push.ensures.ok) more);
      only =
          subst (λ (xs : List Bytes). ReadInTurn g.F.Files.reads xs c.args.files.now c.read_text.new.files) next
          (turn_stop g.F.Files.reads g.F.Files.reads_none (names_in (take c.loop-i.i names)) [] name c.args.files.now c.loop-i.files c.read_text.new.files i.only e.only);
    }

pub returns-in-Err-clause-failed : goal.returns-in-Err-clause-failed
returns-in-Err-clause-failed g c = λ e.
    let is : c.in-Err.fault ≡ Failed = cc in
    let i = c.loop-i.invariant in
    let names = c.args.names.now in
    let seen = files_seen g.F.Files.contents g.F.Files.read_faults g.F.Files.write_faults in
    let w = to_end g.F.Files.told (seen c.args.files.now) (seen c.loop-i.files) (seen c.read_text.new.files) i.same i.later in
    record {
      before = names_in (take c.loop-i.i names);
      after = names_in (drop (suc c.loop-i.i) names);
      name = (get_or names c.loop-i.i nameless).now;
      among = named_there names c.loop-i.i nameless c.loop-i-test.true;
      rose = wide_rose w _ (c.in-Err.ensures.cause (ap (λ (f : ReadFault). Err f) is));
    }

pub returns-in-Err-clause-only : goal.returns-in-Err-clause-only
returns-in-Err-clause-only g c =
    let names = c.args.names.now in
    subst (λ (xs : List Bytes). ReadInTurn g.F.Files.reads xs c.args.files.now c.read_text.new.files) (sym (named_there names c.loop-i.i nameless c.loop-i-test.true))
    (turn_stop g.F.Files.reads g.F.Files.reads_none (names_in (take c.loop-i.i names)) (names_in (drop (suc c.loop-i.i) names)) (get_or names c.loop-i.i nameless).now c.args.files.now c.loop-i.files c.read_text.new.files c.loop-i.invariant.only c.in-Err.ensures.only)

pub returns-clause-texts : goal.returns-clause-texts
returns-clause-texts g c =
    let seen = files_seen g.F.Files.contents g.F.Files.read_faults g.F.Files.write_faults in
    let files = files_read g.F.Files.told (seen c.args.files.now) (seen c.loop-i.files) in
    subst (λ (names : List (Bor Bytes)). AreTexts files (names_in names) c.loop-i.texts) (take_all c.loop-i.i c.args.names.now (omega (arith, c.loop-i-test.false))) c.loop-i.invariant.texts

pub returns-clause-only : goal.returns-clause-only
returns-clause-only g c =
    subst (λ (names : List (Bor Bytes)). ReadInTurn g.F.Files.reads (names_in names) c.args.files.now c.loop-i.files) (take_all c.loop-i.i c.args.names.now (omega (arith, c.loop-i-test.false))) c.loop-i.invariant.only

pub returns-in-Err-push-clause-only : goal.returns-in-Err-push-clause-only
returns-in-Err-push-clause-only g c =
    let names = c.args.names.now in
    subst (λ (xs : List Bytes). ReadInTurn g.F.Files.reads xs c.args.files.now c.read_text.new.files) (sym (named_there names c.loop-i.i nameless c.loop-i-test.true))
    (turn_stop g.F.Files.reads g.F.Files.reads_none (names_in (take c.loop-i.i names)) (names_in (drop (suc c.loop-i.i) names)) (get_or names c.loop-i.i nameless).now c.args.files.now c.loop-i.files c.read_text.new.files c.loop-i.invariant.only c.in-Ok.ensures.only)
