use Rattle.std.proofs.Common.{List, sym, subst, arith}
use Rattle.ac_syntax.specs.Signs.{Sign, Fixed}
use Rattle.ac_syntax.specs.ReadTrees.{pat_of}
use Rattle.ac_syntax.specs.declared.sign.Symbol.TheVariants.{Minus, OpenSquare}
use Rattle.ac_parser_patterns.specs.PatternPieces.{PatLeafAt, NoPatLeaf}
use Rattle.ac_parser_patterns.specs.Pieces.{Past}
use Rattle.ac_parser_patterns.proofs.Readers.{word_at}
use Rattle.ac_parser_patterns.proofs.Passed.{reads_more}
use Rattle.ac_parser_patterns.proofs.patterns.leaf.Goals as goal

pub returns-in-Some : goal.returns-in-Some
returns-in-Some c =
    let is = sym (word_at c.in-Some.ensures.found c.here-at.ensures) in
    reads_more pat_of (Past (Fixed c.here-at.result Minus) PatLeafAt) PatLeafAt c.in-Some.behind.now c.args.signs.now c.negative.result c.negative.ensures (omega (arith, c.in-Some.ensures.shorter))
    (λ p s o. subst (λ (l : List Sign). PatLeafAt l p s) is o) (λ n _. subst (λ (l : List Sign). NoPatLeaf l) is n)

pub returns-in-Some-after : goal.returns-in-Some-after
returns-in-Some-after c =
    let is = sym (word_at c.in-Some-after.ensures.found c.here-at.ensures) in
    reads_more pat_of (Past (Fixed c.here-at.result OpenSquare) PatLeafAt) PatLeafAt c.in-Some-after.behind.now c.args.signs.now c.nil.result c.nil.ensures (omega (arith, c.in-Some-after.ensures.shorter))
    (λ p s o. subst (λ (l : List Sign). PatLeafAt l p s) is o) (λ n _. subst (λ (l : List Sign). NoPatLeaf l) is n)

pub returns : goal.returns
returns c = reads_more pat_of PatLeafAt PatLeafAt c.args.signs.now c.args.signs.now c.one_sign.result c.one_sign.ensures (omega arith) (λ p s o. o) (λ n no_open. n no_open c.in_default.ensures.found c.in_default-after.ensures.found)
