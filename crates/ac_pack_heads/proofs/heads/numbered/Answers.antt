use Rattle.std.proofs.Common.{◌≡◌, ◌++◌, rules}
use Rattle.ac_terms.specs.Spelling.{two_written}
use Rattle.ac_pack_heads.proofs.HeadLaws.{puts_before}
use Rattle.ac_pack_heads.proofs.heads.numbered.Goals as goal

pub returns : goal.returns
returns c =
    let e : c.extend.new.self.0 ≡ c.args.text.now.0 ++ two_written c.args.n = search rules in
    puts_before _ _ _ _ _ _ _ e c.plain_word.ensures
