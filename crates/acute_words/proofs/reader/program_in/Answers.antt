use Rattle.std.proofs.Common.{◌∙◌, ap₂, codes}
use Rattle.acute_words.specs.Commands.{program_by}
use Rattle.acute_words.proofs.Getters.{first_found}
use Rattle.acute_words.proofs.reader.program_in.Goals as goal

pub returns : goal.returns
returns c = λ g rows.
    let name = c.get_str.ensures ∙ first_found c.args.matches.now g (codes "FILE") rows in
    let shelf = c.get_str-2.ensures ∙ first_found c.args.matches.now g (codes "shelf") rows in
    c.program_from.ensures ∙ ap₂ program_by name shelf
