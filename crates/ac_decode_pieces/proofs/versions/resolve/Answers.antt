use Rattle.std.proofs.lemmas.Result.{err_from_is_err_and}
use Rattle.ac_types.specs.ReadTypes.{resolve_of}
use Rattle.ac_decode_pieces.specs.ExactReading.{resolve_table, exact_resolve}
use Rattle.ac_decode_pieces.proofs.Tags.{no_tag, after_tag}
use Rattle.ac_decode_pieces.proofs.versions.resolve.Goals as goal

pub returns-in_err-tag : goal.returns-in_err-tag
unfolding exact_resolve
returns-in_err-tag c =
    let p = err_from_is_err_and c.from_residual.result c.from_residual.ensures.1 in
    rw (p.1, p.2) (no_tag resolve_table c.args.cursor.now.left c.in_err-tag.field-0.0 c.in_err-tag.ensures)

pub returns : goal.returns
unfolding exact_resolve
returns c = after_tag resolve_of resolve_table c.args.cursor.now.left c.in_ok-tag.tag _ c.resolve_behind.result _ c.in_ok-tag.ensures c.resolve_behind.ensures
