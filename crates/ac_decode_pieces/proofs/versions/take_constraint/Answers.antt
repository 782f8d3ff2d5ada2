use Rattle.std.proofs.lemmas.Result.{err_from_is_err_and}
use Rattle.ac_types.specs.ReadTypes.{constraint_of}
use Rattle.ac_decode_pieces.specs.ExactReading.{constraint_table, exact_constraint}
use Rattle.ac_decode_pieces.proofs.Tags.{no_tag, after_tag}
use Rattle.ac_decode_pieces.proofs.versions.take_constraint.Goals as goal

pub returns-in_err-tag : goal.returns-in_err-tag
unfolding exact_constraint
returns-in_err-tag c =
    let p = err_from_is_err_and c.from_residual.result c.from_residual.ensures.1 in
    rw (p.1, p.2) (no_tag constraint_table c.args.cursor.now.left c.in_err-tag.field-0.0 c.in_err-tag.ensures)

pub returns : goal.returns
unfolding exact_constraint
returns c = after_tag constraint_of constraint_table c.args.cursor.now.left c.in_ok-tag.tag _ c.constraint_behind.result _ c.in_ok-tag.ensures c.constraint_behind.ensures
