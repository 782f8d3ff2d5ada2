use Rattle.std.proofs.Common.{◌≡◌, sym, ap, ◌∙◌, true, Some}
use Rattle.ac_types.specs.Words.{is_word}
use Rattle.ac_decode_pieces.proofs.Taken.{no_word, word_taken}
use Rattle.ac_decode_pieces.proofs.texts.identifier.Goals as goal

pub returns-in-None : goal.returns-in-None
returns-in-None c =
    no_word _ _ _ _ _ c.in-Some.ensures.0 c.in-Some-take_bytes.ensures.1.0 c.in-Some-take_bytes.ensures.0 (ap is_word (sym c.in_ok-from_slice.ensures) ∙ c.in-None.ensures)

pub returns-in-Some-new : goal.returns-in-Some-new
returns-in-Some-new c =
    let same = c.in-Some-new.ensures.0 ∙ c.in_ok-from_slice.ensures in
    let t : is_word c.in-Some-take_bytes.bytes.now ≡ true = ap is_word (sym c.in_ok-from_slice.ensures) ∙ c.in-Some-new.ensures.1 in
    word_taken _ _ _ _ _ c.in-Some.ensures.0 c.in-Some-take_bytes.ensures.1.0 c.in-Some-take_bytes.ensures.0 t ∙ ap (λ w. Some (w, c.take_bytes.new.self.left)) (sym same)
