use Rattle.std.proofs.Common.{◌≡◌, sym, ap, ◌∙◌, ◌+◌, length, rules}
use Rattle.ac_types.specs.Types.{Bytes}
use Rattle.ac_index.proofs.KeyLaws.{written}
use Rattle.ac_index.proofs.named_word.NamedWord.new.Goals as goal

pub returns-clause-key : goal.returns-clause-key
returns-clause-key c =
    let l : length c.args.name.now.0 ≡ 32 = search rules in
    written 32 c.args.name.now.0 c.args.word.now c.copy_from_slice.new.self c.copy_from_slice-2.new.self _ _ _ c.copy_from_slice.ensures.after (c.copy_from_slice-2.ensures.after ∙ c.as_slice-behind.ensures ∙ c.text.ensures.bytes) l
    (ap (λ (b : Bytes). 32 + length b) (sym c.copy_from_slice-2.ensures.after))
