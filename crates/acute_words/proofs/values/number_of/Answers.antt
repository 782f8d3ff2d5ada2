use Rattle.std.proofs.Common.{rules, ◌≡◌, arith, false, slice_index}
use Rattle.std.specs.Prelude.{◌==◌}
use Rattle.acute_words.proofs.Numbers.{read_err, read_in}
use Rattle.acute_words.proofs.values.number_of.Goals as goal

pub returns-then-number-most : goal.returns-then-number-most
returns-then-number-most c =
    let plus : (slice_index c.args.text.now 0 == 43) ≡ false = search rules in
    read_in (Unit {0}) c.args.text.now c.in-Ok.number c.args.least c.args.most plus c.in-Ok.ensures.value.0 (omega arith) (omega arith)

pub returns-in-Err : goal.returns-in-Err
returns-in-Err c =
    let plus : (slice_index c.args.text.now 0 == 43) ≡ false = search rules in
    read_err c.args.text.now c.in-Err.field-0 c.args.least c.args.most plus c.in-Err.ensures.value.0 (omega arith)
