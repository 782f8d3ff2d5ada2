use Rattle.std.proofs.lemmas.Result.{err_from_is_err_and}
use Rattle.ac_terms.specs.Read.{pdef_of}
use Rattle.ac_decode_pieces.proofs.Tags.{no_tag, after_tag}
use Rattle.ac_decode.specs.inner.ExactPackets.{def_table, exact_def}
use Rattle.ac_decode.proofs.defs.def.Goals as goal

pub returns-in_err-tag : goal.returns-in_err-tag
unfolding exact_def
returns-in_err-tag g c =
    let p = err_from_is_err_and c.from_residual.result c.from_residual.ensures.1 in
    rw (p.1, p.2) (no_tag (def_table (g.T.Types.reads_type c.args.types.now)) c.args.cursor.now.left c.in_err-tag.field-0.0 c.in_err-tag.ensures)

pub returns : goal.returns
unfolding exact_def
returns g c = after_tag pdef_of (def_table (g.T.Types.reads_type c.args.types.now)) c.args.cursor.now.left c.in_ok-tag.tag _ c.def_behind.result _ c.in_ok-tag.ensures c.def_behind.ensures
