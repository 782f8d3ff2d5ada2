use Rattle.std.proofs.Common.{◌∙◌, sym}
use Rattle.ac_lexer.proofs.GapLaws.{by_separator, by_comment}
use Rattle.ac_lexer.proofs.gaps.behind_gap.Goals as goal

pub returns-then-is_separator-clause-gap : goal.returns-then-is_separator-clause-gap
returns-then-is_separator-clause-gap c = by_separator _ _ _ c.in_ok-first.ensures.cases.0 (sym c.is_separator.ensures ∙ c.if-is_separator.true)

pub returns-clause-gap : goal.returns-clause-gap
returns-clause-gap c = by_comment _ _ c.in_ok-behind_opening.ensures _ c.behind_comment.ensures.comment
