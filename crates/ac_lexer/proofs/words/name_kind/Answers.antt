use Rattle.ac_lexer.proofs.NameLaws.{long_name}
use Rattle.ac_lexer.proofs.words.name_kind.Goals as goal

pub returns-then-name-gt-LONGEST_WORD : goal.returns-then-name-gt-LONGEST_WORD
returns-then-name-gt-LONGEST_WORD c = long_name _ c.if-name-gt-LONGEST_WORD.true
