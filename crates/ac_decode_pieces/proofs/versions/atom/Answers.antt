use Rattle.std.proofs.lemmas.Result.{err_from_is_err_and}
use Rattle.ac_types.specs.ReadTypes.{atom_of}
use Rattle.ac_decode_pieces.specs.ExactReading.{atom_table, exact_atom}
use Rattle.ac_decode_pieces.proofs.Tags.{no_tag, after_tag}
use Rattle.ac_decode_pieces.proofs.versions.atom.Goals as goal

pub returns-in_err-tag : goal.returns-in_err-tag
unfolding exact_atom
returns-in_err-tag c =
    let p = err_from_is_err_and c.from_residual.result c.from_residual.ensures.1 in
    rw (p.1, p.2) (no_tag atom_table c.args.cursor.now.left c.in_err-tag.field-0.0 c.in_err-tag.ensures)

pub returns : goal.returns
unfolding exact_atom
returns c = after_tag atom_of atom_table c.args.cursor.now.left c.in_ok-tag.tag _ c.atom_behind.result _ c.in_ok-tag.ensures c.atom_behind.ensures
