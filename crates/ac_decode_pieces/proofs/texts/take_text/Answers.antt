use Rattle.std.proofs.Common.{sym, ap, ◌∙◌, Some, arith}
use Rattle.ac_decode_pieces.proofs.Taken.{text_long, text_taken}
use Rattle.ac_decode_pieces.proofs.texts.take_text.Goals as goal

pub returns-then-count-most : goal.returns-then-count-most
returns-then-count-most c = text_long _ (omega arith) _ _ _ (omega arith) c.in-Some.ensures.0 c.if-count-most.true

pub returns-in_ok-from_slice-in-Some-take_bytes : goal.returns-in_ok-from_slice-in-Some-take_bytes
returns-in_ok-from_slice-in-Some-take_bytes c =
    text_taken _ (omega arith) _ _ _ _ _ (omega arith) c.in-Some.ensures.0 c.if-count-most.false c.in-Some-take_bytes.ensures.1.0 c.in-Some-take_bytes.ensures.0 ∙
    ap (λ s. Some (s, c.take_bytes.new.self.left)) (sym c.in_ok-from_slice-in-Some-take_bytes.ensures)
