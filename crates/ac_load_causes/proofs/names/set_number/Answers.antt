use Rattle.std.proofs.Common.{◌≡◌, ◌∙◌, ap, rules}
use Rattle.ac_load_causes.specs.inner.Named.{number_under, put_number}
use Rattle.ac_load_causes.proofs.Numbers.{number_put}
use Rattle.ac_load_causes.proofs.names.set_number.Goals as goal

pub returns : goal.returns
returns c =
    let w : c.as_slice.result.now ≡ c.args.name.now.0 = first_of (cc, search rules) in
    number_put c.args.numbers.now c.insert.new.self c.as_slice.result c.args.number c.in_ok-insert.ensures.updates ∙ ap (λ b. put_number b c.args.number (number_under c.args.numbers.now)) w
