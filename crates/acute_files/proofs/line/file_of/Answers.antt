use Rattle.std.proofs.Common.{◌<◌, arith, length}
use Rattle.std.proofs.lemmas.Str.{is_utf8-from_IsUtf8}
use Rattle.acute_files.proofs.Lines.{file_is, no_file}
use Rattle.acute_files.proofs.line.file_of.Goals as goal

pub returns-in-Ok : goal.returns-in-Ok
returns-in-Ok c =
    let some : 0 < length c.args.bytes.now = grind arith in
    (file_is c.args.bytes.now some c.if-has_space.ensures (is_utf8-from_IsUtf8 c.args.bytes.now c.in-Ok.ensures.cases.1), c.in-Ok.ensures.cases.0)

pub returns-in-Err : goal.returns-in-Err
returns-in-Err c = no_file c.args.bytes.now c.in-Err.ensures.cases.0
