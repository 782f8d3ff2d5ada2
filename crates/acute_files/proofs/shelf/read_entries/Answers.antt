use Rattle.std.proofs.Common.{◌≡◌, ◌∙◌, ◌++◌, ◌∷◌, List, [], Err, map, take, drop, sym, ap, subst, arith, suc, length, length-append}
use Rattle.ac_types.specs.Types.{Bytes}
use Rattle.acute_files.specs.ShelfLists.{Listed, listed_of}
use Rattle.ac_load_rules.specs.Accepting.{Shelved}
use Rattle.ac_load.specs.Loading.{shelved}
use Rattle.acute_files.specs.Files.{files_seen, files_read}
use Rattle.acute_files.specs.ProgramTexts.{AreListed}
use Rattle.acute_files.specs.ReadOrder.{ReadInTurn, files_listed}
use Rattle.acute_files.specs.declared.text.ReadFault.{ReadFault}
use Rattle.acute_files.specs.declared.text.ReadFault.TheVariants.{Failed}
use Rattle.acute_files.proofs.Wider.{at_once, to_end, wide_text, wide_rose, wide_listed, one_more, split_there, take_more, map_more}
use Rattle.acute_files.proofs.Turns.{turn_stop, listed_there}
use Rattle.acute_files.proofs.shelf.read_entries.Goals as goal

pub returns-in-Err-clause-failed : goal.returns-in-Err-clause-failed
returns-in-Err-clause-failed g c = λ e.
    let is : c.in-Err.fault ≡ Failed = cc in
    let i = c.loop-line.invariant in
    let seen = files_seen g.F.Files.contents g.F.Files.read_faults g.F.Files.write_faults in
    let w = to_end g.F.Files.told (seen c.args.files.now) (seen c.loop-line.files) (seen c.read_entry.new.files) i.same i.later in
    record {
      before = map listed_of (take c.loop-line.line-index c.args.lines.now);
      after = map listed_of (drop (suc c.loop-line.line-index) c.args.lines.now);
      entry = listed_of c.line-item.result;
      among = split_there listed_of c.args.lines.now c.loop-line.line-index c.line-item.result c.loop-line-test.true c.line-item.is;
      rose = wide_rose w _ (c.in-Err.ensures.failed (ap (λ (f : ReadFault). Err f) is));
    }

pub loop-line-preserved : goal.loop-line-preserved
loop-line-preserved g c =
    let i = c.loop-line.invariant in
    let e = c.in-Ok.ensures in
    let seen = files_seen g.F.Files.contents g.F.Files.read_faults g.F.Files.write_faults in
    let before = at_once g.F.Files.told (seen c.args.files.now) (seen c.loop-line.files) (seen c.read_entry.new.files) e.later in
    let here = to_end g.F.Files.told (seen c.args.files.now) (seen c.loop-line.files) (seen c.read_entry.new.files) i.same i.later in
    let files = files_read g.F.Files.told (seen c.args.files.now) (seen c.read_entry.new.files) in
    let more = one_more files (map listed_of (take c.loop-line.line-index c.args.lines.now)) (map shelved c.loop-line.entries) (listed_of c.line-item.result) (shelved c.in-Ok.entry)
    (wide_listed before _ _ i.listed) e.uri (wide_text here _ _ e.text) in
    record {
      same = λ told. e.same told ∙ i.same told;
      later = λ name. omega (arith, i.later name, e.later name);
      later_writes = λ name. omega (arith, i.later_writes name, e.later_writes name);
      listed =
          subst (λ (xs : List Listed). AreListed files xs (map shelved c.push.new.self)) (sym (take_more listed_of c.args.lines.now c.loop-line.line-index c.line-item.result c.loop-line-test.true c.line-item.is))
          (subst (λ (ys : List Shelved). AreListed files (map listed_of (take c.loop-line.line-index c.args.lines.now) ++ listed_of c.line-item.result ∷ []) ys)
          (sym (ap (map shelved) c.in-Ok-push.ensures.ok ∙ map_more shelved c.loop-line.entries c.in-Ok.entry)) more);
      counted = omega (arith, ap length c.in-Ok-push.ensures.ok, length-append c.loop-line.entries (c.in-Ok.entry ∷ []), i.counted);
      only =
          subst (λ (xs : List Bytes). ReadInTurn g.F.Files.reads xs c.args.files.now c.read_entry.new.files)
          (sym (ap files_listed (take_more listed_of c.args.lines.now c.loop-line.line-index c.line-item.result c.loop-line-test.true c.line-item.is) ∙ listed_there (map listed_of (take c.loop-line.line-index c.args.lines.now)) [] (listed_of c.line-item.result)))
          (turn_stop g.F.Files.reads g.F.Files.reads_none (files_listed (map listed_of (take c.loop-line.line-index c.args.lines.now))) [] (listed_of c.line-item.result).file c.args.files.now c.loop-line.files c.read_entry.new.files i.only e.only);
    }

pub returns-in-Err-clause-only : goal.returns-in-Err-clause-only
returns-in-Err-clause-only g c =
    let i = c.loop-line.line-index in
    let lines = c.args.lines.now in
    let front = map listed_of (take i lines) in
    let back = map listed_of (drop (suc i) lines) in
    let there = split_there listed_of lines i c.line-item.result c.loop-line-test.true c.line-item.is in
    subst (λ (xs : List Bytes). ReadInTurn g.F.Files.reads xs c.args.files.now c.read_entry.new.files)
    (sym (ap files_listed there ∙ listed_there front back (listed_of c.line-item.result)))
    (turn_stop g.F.Files.reads g.F.Files.reads_none (files_listed front) (files_listed back) (listed_of c.line-item.result).file c.args.files.now c.loop-line.files c.read_entry.new.files c.loop-line.invariant.only c.in-Err.ensures.only)

pub returns-in-Err-push-clause-only : goal.returns-in-Err-push-clause-only
returns-in-Err-push-clause-only g c =
    let i = c.loop-line.line-index in
    let lines = c.args.lines.now in
    let front = map listed_of (take i lines) in
    let back = map listed_of (drop (suc i) lines) in
    let there = split_there listed_of lines i c.line-item.result c.loop-line-test.true c.line-item.is in
    subst (λ (xs : List Bytes). ReadInTurn g.F.Files.reads xs c.args.files.now c.read_entry.new.files)
    (sym (ap files_listed there ∙ listed_there front back (listed_of c.line-item.result)))
    (turn_stop g.F.Files.reads g.F.Files.reads_none (files_listed front) (files_listed back) (listed_of c.line-item.result).file c.args.files.now c.loop-line.files c.read_entry.new.files c.loop-line.invariant.only c.in-Ok.ensures.only)
