use Rattle.std.proofs.Common.{sym, ◌∙◌}
use Rattle.std.proofs.lemmas.Result.{err_from_is_err_and}
use Rattle.ac_syntax.proofs.OnStop.{on_syntax_more, refused}
use Rattle.ac_parser_patterns.proofs.Readers.{above_seven, no_last_type, not_last_type}
use Rattle.ac_parser_patterns.proofs.binders.last_type.Goals as goal

pub returns-in_err-ty : goal.returns-in_err-ty
returns-in_err-ty c =
    let p = err_from_is_err_and c.from_residual.result c.from_residual.ensures.1 in
    rw (p.1, p.2) (on_syntax_more _ no_last_type c.in_err-ty.ensures.none)

pub returns-then-ends_part : goal.returns-then-ends_part
returns-then-ends_part c = record {
  found = record { is = c.in_ok-ty.ensures.tree; ends = above_seven _ (sym c.ends_part.ensures ∙ c.if-ends_part.true) };
  shorter = c.in_ok-ty.ensures.shorter;
}

pub returns-else-ends_part : goal.returns-else-ends_part
returns-else-ends_part c = refused _ _ c.refused_at.ensures (not_last_type c.in_ok-ty.ensures.tree (sym c.ends_part.ensures ∙ c.if-ends_part.false))
