-- How a string is read piece by piece.
use Rattle.std.proofs.Common.{◌≡◌, ◌+◌, ◌*◌, ℕ, true, List, [], ◌∷◌, ◌++◌, Some, refl, sym, ◌∙◌, ap, subst, append_assoc}
use Rattle.std.proofs.lemmas.List.{append-nil}
use Rattle.ac_lexer.specs.Spellings.{is_plain, escaped_byte, hex_value, Piece, itself, escape, hex, Quoted, quote, more}
use Rattle.ac_lexer.proofs.Unique.{same_piece, no_piece}

pub plain_piece : (text rest : List ℕ) (c : ℕ) → text ≡ c ∷ rest → true ≡ is_plain c → Piece text c rest
plain_piece text rest c e h = subst (λ (l : List ℕ). Piece l c rest) (sym e) (itself (sym h))

pub escape_piece : (text rest : List ℕ) (c b : ℕ) → text ≡ c ∷ rest → Some b ≡ escaped_byte c → Piece (92 ∷ text) b rest
escape_piece text rest c b e h = subst (λ (l : List ℕ). Piece (92 ∷ l) b rest) (sym e) (escape (sym h))

pub hex_piece : (text middle rest : List ℕ) (high low m n : ℕ) → text ≡ high ∷ middle → middle ≡ low ∷ rest → Some m ≡ hex_value high → Some n ≡ hex_value low → Piece (92 ∷ 120 ∷ text) (16 * m + n) rest
hex_piece text middle rest high low m n e f g h = subst (λ (l : List ℕ). Piece (92 ∷ 120 ∷ l) (16 * m + n) rest) (ap (λ (l : List ℕ). high ∷ l) (sym f) ∙ sym e) (hex (sym g) (sym h))

-- the text's string begins with these bytes, and goes on at `here`
pub record Begun (text before here : List ℕ) : Type 0 where
  pub forth : (content rest : List ℕ) → Quoted here content rest → Quoted text (before ++ content) rest
  pub back : (content rest : List ℕ) → Quoted text content rest → (later : List ℕ) × Quoted here later rest

pub begun : (text : List ℕ) → Begun text [] text
begun text = record { forth = λ content rest x. x; back = λ content rest x. (content, x) }

after_piece : {text after content rest : List ℕ} {b : ℕ} → Piece text b after → Quoted text content rest → (later : List ℕ) × Quoted after later rest
after_piece p quote = absurd (no_piece p)
after_piece {rest = rest} p (more {content = later} o x) = (later, subst (λ (l : List ℕ). Quoted l later rest) (sym (same_piece p o).1) x)

pub goes_on : {text before here after : List ℕ} {b : ℕ} → Begun text before here → Piece here b after → Begun text (before ++ b ∷ []) after
goes_on {text} {before} {b = b} so p = record {
  forth = λ content rest x. subst (λ (l : List ℕ). Quoted text l rest) (sym (append_assoc before (b ∷ []) content)) (so.forth (b ∷ content) rest (more p x));
  back = λ content rest x. after_piece p (so.back content rest x).1;
}

pub ends : {text before here after : List ℕ} → Begun text before here → here ≡ 34 ∷ after → Quoted text before after
ends {text} {before} {here} {after} so e =
    subst (λ (l : List ℕ). Quoted text l after) (append-nil before) (so.forth [] after (subst (λ (l : List ℕ). Quoted l [] after) (sym e) quote))

first_piece : {b : ℕ} {text content rest : List ℕ} → Quoted (b ∷ text) content rest → (b ≡ 34 → ⊥) → ((c : ℕ) (after : List ℕ) → Piece (b ∷ text) c after → ⊥) → ⊥
first_piece quote n none = n refl
first_piece (more p x) n none = none _ _ p

pub breaks : {text before here after : List ℕ} {b : ℕ} → Begun text before here → here ≡ b ∷ after → (b ≡ 34 → ⊥) → ((c : ℕ) (rest : List ℕ) → Piece here c rest → ⊥) → (content rest : List ℕ) → Quoted text content rest → ⊥
breaks {here = here} {b = b} so e n none content rest x =
    let y = so.back content rest x in
    first_piece (subst (λ (l : List ℕ). Quoted l y.0 rest) e y.1) n (λ c after p. none c after (subst (λ (l : List ℕ). Piece l c after) (sym e) p))

no_pieces : {b : ℕ} {rest : List ℕ} → Piece [] b rest → ⊥
no_pieces x = elim x [ ]

nothing_quoted : {content rest : List ℕ} → Quoted [] content rest → ⊥
nothing_quoted (more p x) = no_pieces p

pub unclosed : {text before here : List ℕ} → Begun text before here → here ≡ [] → (content rest : List ℕ) → Quoted text content rest → ⊥
unclosed so e content rest x =
    let y = so.back content rest x in
    nothing_quoted (subst (λ (l : List ℕ). Quoted l y.0 rest) e y.1)
