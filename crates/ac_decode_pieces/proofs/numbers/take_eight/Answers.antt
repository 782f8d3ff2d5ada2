use Rattle.std.proofs.Common.{sym, ap, ◌∙◌, Some}
use Rattle.std.specs.Int.{w64}
use Rattle.std.specs.Int.RustNames.{FitsSigned}
use Rattle.std.proofs.lemmas.Int.{to_z-of_z}
use Rattle.ac_decode_pieces.proofs.Taken.{eight_taken}
use Rattle.ac_decode_pieces.proofs.numbers.take_eight.Goals as goal

pub returns-in-Some : goal.returns-in-Some
returns-in-Some c =
    let h = rw c.in-Some.is at c.take_i64.type_inv in
    let fits : FitsSigned w64 c.in-Some.z = record { sfits = h.1.1.1.1.0.1 } in
    eight_taken c.args.cursor.now.left c.in-Some.z c.take_i64.new.self.left fits c.in-Some.ensures.0
    ∙ ap (λ y. Some (y, c.take_i64.new.self.left)) (sym (to_z-of_z w64 c.in-Some.z fits))
