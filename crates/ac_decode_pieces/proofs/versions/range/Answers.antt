use Rattle.std.proofs.lemmas.Result.{err_from_is_err_and}
use Rattle.ac_types.specs.ReadTypes.{range_of}
use Rattle.ac_decode_pieces.specs.ExactReading.{range_table, exact_range}
use Rattle.ac_decode_pieces.proofs.Tags.{no_tag, after_tag}
use Rattle.ac_decode_pieces.proofs.versions.range.Goals as goal

pub returns-in_err-tag : goal.returns-in_err-tag
unfolding exact_range
returns-in_err-tag c =
    let p = err_from_is_err_and c.from_residual.result c.from_residual.ensures.1 in
    rw (p.1, p.2) (no_tag range_table c.args.cursor.now.left c.in_err-tag.field-0.0 c.in_err-tag.ensures)

pub returns : goal.returns
unfolding exact_range
returns c = after_tag range_of range_table c.args.cursor.now.left c.in_ok-tag.tag _ c.range_behind.result _ c.in_ok-tag.ensures c.range_behind.ensures
