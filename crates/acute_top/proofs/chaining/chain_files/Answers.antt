use Rattle.std.proofs.Common.{Err, ap, refl, arith}
use Rattle.ac_load.specs.Loading.{shelf_of}
use Rattle.acute_files.specs.Files.{files_seen, files_read}
use Rattle.acute_files.specs.declared.shelf.TextsFault.{TextsFault}
use Rattle.acute_top.proofs.ChainedLaws.{chained, not_chained}
use Rattle.acute_top.proofs.FileLaws.{texts_count}
use Rattle.acute_top.proofs.chaining.chain_files.Goals as goal

pub chain_texts-requires-clause-many : goal.chain_texts-requires-clause-many
chain_texts-requires-clause-many g c =
    let seen = files_seen g.F.Files.contents g.F.Files.read_faults g.F.Files.write_faults in
    let count = texts_count (files_read g.F.Files.told (seen c.args.files.now) (seen c.read_texts.new.files)) c.args.programs.now c.in-Ok.texts.texts c.in-Ok.ensures.texts in
    omega (arith, count, c.requires)

pub returns-in-Ok-clause-ends : goal.returns-in-Ok-clause-ends
returns-in-Ok-clause-ends g c =
    let e = c.in-Ok.ensures in
    chained _ _ _ _ _ _ (shelf_of c.in-Ok.texts.shelf) c.in-Ok.texts.texts e.shelf e.texts _ c.chain_texts.ensures

pub returns-in-Err-clause-ends : goal.returns-in-Err-clause-ends
returns-in-Err-clause-ends g c =
    let e = c.in-Err.ensures in
    not_chained _ _ _ _ _ _ (record { same = refl }) c.in-Err.fault (λ n is. e.line n (ap (λ (f : TextsFault). Err f) is)) (λ is. e.failed (ap (λ (f : TextsFault). Err f) is)) _ c.tell_unread.ensures
