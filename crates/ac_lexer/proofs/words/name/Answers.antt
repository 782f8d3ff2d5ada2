use Rattle.ac_lexer.proofs.Fronts.{is_name_of, name_token, no_name}
use Rattle.ac_lexer.proofs.words.name.Goals as goal

pub name_kind-requires : goal.name_kind-requires
name_kind-requires c = is_name_of _ _ _ _ c.split_at.ensures.front c.split_at.ensures.back c.requires.no_comment c.requires.start c.count_parts.ensures.count

pub returns-in_default-clause-token : goal.returns-in_default-clause-token
returns-in_default-clause-token c =
    no_name _ _ _ _ c.split_at.ensures.front c.split_at.ensures.back c.requires.no_comment c.requires.start c.count_parts.ensures.count (rw c.in_default.is at c.in_ok-kind.ensures)

pub returns-clause-token : goal.returns-clause-token
returns-clause-token c =
    name_token _ _ _ _ c.split_at.ensures.front c.split_at.ensures.back c.requires.no_comment c.requires.start c.count_parts.ensures.count _ (rw c.in-Some.is at c.in_ok-kind.ensures)
