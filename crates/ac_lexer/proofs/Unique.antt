-- A text has one answer.
use Rattle.std.proofs.Common.{◌≡◌, ℕ, true, List, [], ◌∷◌, ◌++◌, refl, sym, ◌∙◌, ap, subst, arith, length, append_assoc}
use Rattle.std.specs.Prelude.{◌==◌}
use Rattle.std.proofs.lemmas.Bool.{false≢true, true≢false}
use Rattle.ac_lexer.specs.declared.tokens.TokenKind.{TokenKind}
use Rattle.ac_lexer.specs.declared.tokens.Token.{Token}
use Rattle.ac_lexer.specs.Gaps.{Inside, closed, nested, byte, Gap, separator, comment, is_separator}
use Rattle.ac_lexer.specs.Spellings.{Piece, itself, escape, hex, Quoted, quote, more, SpellsToken, number, name, symbol, string}
use Rattle.ac_lexer.specs.Tokens.{TokenAt, Reads, nothing, gap, token, NothingBegins, Tokens, FailsAt, place_of_rest}
use Rattle.ac_lexer.proofs.Spelled.{by_digit, by_start, by_quote, by_separator, no_empty, no_symbol, first_of_number, first_of_name}

-- one byte of a string

pub same_piece : {text r q : List ℕ} {b c : ℕ} → Piece text b r → Piece text c q → (b ≡ c) × (r ≡ q)
same_piece (itself h) (itself g) = (refl, refl)
same_piece (itself h) (escape g) = absurd (cc)
same_piece (itself h) (hex f g) = absurd (cc)
same_piece (escape h) (itself g) = absurd (cc)
same_piece (escape h) (escape g) = let e = sym h ∙ g in (cc, refl)
same_piece (escape h) (hex f g) = absurd (cc)
same_piece (hex h i) (itself g) = absurd (cc)
same_piece (hex h i) (escape g) = absurd (cc)
same_piece (hex h i) (hex f g) = let d = sym h ∙ f in let e = sym i ∙ g in (cc, refl)

pub no_piece : {rest q : List ℕ} {b : ℕ} → Piece (34 ∷ rest) b q → ⊥
no_piece (itself h) = false≢true h

pub same_quoted : {text s u r q : List ℕ} → Quoted text s r → Quoted text u q → (s ≡ u) × (r ≡ q)
same_quoted quote quote = (refl, refl)
same_quoted quote (more p y) = absurd (no_piece p)
same_quoted (more p x) quote = absurd (no_piece p)
same_quoted {q = q} (more p x) (more {content = u} o y) =
    let e = same_piece p o in
    let f = same_quoted x (subst (λ (l : List ℕ). Quoted l u q) (sym e.1) y) in
    (cc, f.1)

-- a string goes on to its end whatever follows, and what follows is no part of it

piece_on : {text rest : List ℕ} {b : ℕ} → Piece text b rest → (after : List ℕ) → Piece (text ++ after) b (rest ++ after)
piece_on (itself h) after = itself h
piece_on (escape h) after = escape h
piece_on (hex h i) after = hex h i

pub quoted_on : {text s rest : List ℕ} → Quoted text s rest → (after : List ℕ) → Quoted (text ++ after) s (rest ++ after)
quoted_on quote after = quote
quoted_on (more p x) after = more (piece_on p after) (quoted_on x after)

piece_front : {text rest : List ℕ} {b : ℕ} → Piece text b rest → (front : List ℕ) × (text ≡ front ++ rest) × ((after : List ℕ) → Piece (front ++ after) b after)
piece_front (itself {c} h) = (c ∷ [], refl, λ after. itself h)
piece_front (escape {c} h) = (92 ∷ c ∷ [], refl, λ after. escape h)
piece_front (hex {high} {low} h i) = (92 ∷ 120 ∷ high ∷ low ∷ [], refl, λ after. hex h i)

pub quoted_front : {text s rest : List ℕ} → Quoted text s rest → (front : List ℕ) × (text ≡ front ++ rest) × Quoted front s []
quoted_front quote = (34 ∷ [], refl, quote)
quoted_front {rest = rest} (more p x) =
    let e = piece_front p in
    let f = quoted_front x in
    (e.0 ++ f.0, e.1 ∙ ap (λ (l : List ℕ). e.0 ++ l) f.1 ∙ sym (append_assoc e.0 f.0 rest), more (e.2 f.0) f.2)

-- the kind and the end of a token

pub one_kind : {bytes : List ℕ} {k j : TokenKind} → SpellsToken bytes k → SpellsToken bytes j → k ≡ j
one_kind {bytes} x (number h) = (by_digit x (first_of_number bytes h)).1
one_kind {bytes} x (name h) = (by_start x (first_of_name bytes h)).1
one_kind x (string q) =
    let e = by_quote x refl in
    let same = same_quoted q (subst (λ (l : List ℕ). Quoted l e.1 []) (cc) e.3) in
    cc
one_kind {bytes} (number h) (symbol g) = sym (by_digit (symbol g) (first_of_number bytes h)).1
one_kind {bytes} (name h) (symbol g) = sym (by_start (symbol g) (first_of_name bytes h)).1
one_kind (symbol h) (symbol g) = refl
one_kind (string {bytes} h) (symbol g) = absurd (no_symbol (λ c. c == 34) (34 ∷ bytes) refl g refl)

pub same_split : (f g r s : List ℕ) → f ++ r ≡ g ++ s → length f ≡ length g → (f ≡ g) × (r ≡ s)
same_split [] [] r s e l = (refl, e)
same_split [] (y ∷ g) r s e l = absurd (omega arith)
same_split (x ∷ f) [] r s e l = absurd (omega arith)
same_split (x ∷ f) (y ∷ g) r s e l =
    let tail : f ++ r ≡ g ++ s = cc in
    let i = same_split f g r s tail (omega arith) in
    (cc, i.1)

pub same_token : {text r s : List ℕ} {k j : TokenKind} → TokenAt text k r → TokenAt text j s → (k ≡ j) × (r ≡ s)
same_token {text} {r} {s} {k} {j} t u =
    let most = t.longest u.front s j u.split u.spelled in
    let least = u.longest t.front r k t.split t.spelled in
    let e = same_split t.front u.front r s (sym t.split ∙ u.split) (omega arith) in
    (one_kind t.spelled (subst (λ (l : List ℕ). SpellsToken l j) (sym e.0) u.spelled), e.1)

-- the end of a gap

pub same_inside : {text r q : List ℕ} → Inside text r → Inside text q → r ≡ q
same_inside closed closed = refl
same_inside closed (byte o c y) = absurd (true≢false c)
same_inside {q = q} (nested x y) (nested z w) = same_inside y (subst (λ (l : List ℕ). Inside l q) (sym (same_inside x z)) w)
same_inside (nested x y) (byte o c z) = absurd (true≢false o)
same_inside (byte o c x) closed = absurd (true≢false c)
same_inside (byte o c x) (nested y z) = absurd (true≢false o)
same_inside (byte o c x) (byte p d y) = same_inside x y

pub same_gap : {text r q : List ℕ} → Gap text r → Gap text q → r ≡ q
same_gap (separator h) (separator g) = refl
same_gap (separator h) (comment x) = absurd (false≢true h)
same_gap (comment x) (separator h) = absurd (false≢true h)
same_gap (comment x) (comment y) = same_inside x y

starts_with_separator : (b : ℕ) (text front rest : List ℕ) (k : TokenKind) → is_separator b ≡ true → b ∷ text ≡ front ++ rest → SpellsToken front k → ⊥
starts_with_separator b text [] rest k h e x = no_empty x
starts_with_separator b text (c ∷ front) rest k h e x =
    let same : b ≡ c = cc in
    by_separator x (sym (ap is_separator same) ∙ h)

pub gap_or_token : {text r q : List ℕ} {k : TokenKind} → Gap text r → TokenAt text k q → ⊥
gap_or_token {q = q} {k = k} (separator {b} {rest} h) t = starts_with_separator b rest t.front q k h t.split t.spelled
gap_or_token (comment x) t = true≢false t.no_comment

-- the whole answer

after_gap : {whole text after rest : List ℕ} {tokens : List Token} → Gap text after → Reads whole text tokens rest → NothingBegins rest → Reads whole after tokens rest
after_gap g nothing n = absurd (n.no_gap _ g)
after_gap {whole} {rest = rest} {tokens = tokens} g (gap h x) n = subst (λ (l : List ℕ). Reads whole l tokens rest) (same_gap h g) x
after_gap g (token t x) n = absurd (gap_or_token g t)

after_token : {whole text after rest : List ℕ} {kind : TokenKind} {tokens : List Token} → TokenAt text kind after → Reads whole text tokens rest → NothingBegins rest → (later : List Token) × (tokens ≡ record { kind = kind; at = place_of_rest whole text } ∷ later) × Reads whole after later rest
after_token t nothing n = absurd (n.no_token _ _ t)
after_token t (gap g x) n = absurd (gap_or_token g t)
after_token {whole} {text} {rest = rest} t (token {tokens = later} u x) n =
    let e = same_token u t in
    (later, ap (λ (k : TokenKind). record { kind = k; at = place_of_rest whole text } ∷ later) e.0, subst (λ (l : List ℕ). Reads whole l later rest) e.1 x)

stuck : {whole text rest : List ℕ} {tokens : List Token} → Reads whole text tokens rest → NothingBegins text → (tokens ≡ []) × (rest ≡ text)
stuck nothing n = (refl, refl)
stuck (gap g x) n = absurd (n.no_gap _ g)
stuck (token t x) n = absurd (n.no_token _ _ t)

pub same_reads : {whole text r q : List ℕ} {ts us : List Token} → Reads whole text ts r → NothingBegins r → Reads whole text us q → NothingBegins q → (ts ≡ us) × (r ≡ q)
same_reads nothing n y m = let e = stuck y n in (sym e.0, sym e.1)
same_reads (gap g x) n y m = same_reads x n (after_gap g y m) m
same_reads {whole} {text} (token {kind = k} t x) n y m =
    let f = after_token t y m in
    let e = same_reads x n f.2 m in
    (ap (λ (l : List Token). record { kind = k; at = place_of_rest whole text } ∷ l) e.0 ∙ sym f.1, e.1)

no_token_of_nothing : (front rest : List ℕ) (k : TokenKind) → [] ≡ front ++ rest → SpellsToken front k → ⊥
no_token_of_nothing [] rest k e x = no_empty x
no_token_of_nothing (c ∷ front) rest k e x = cc

pub at_end : NothingBegins []
at_end = record { no_gap = λ rest g. elim g [ ]; no_token = λ k rest t. no_token_of_nothing t.front rest k t.split t.spelled }

pub same_tokens : (text : List ℕ) (ts us : List Token) → Tokens text ts → Tokens text us → ts ≡ us
same_tokens text ts us x y = (same_reads x at_end y at_end).0

pub no_failure : (text : List ℕ) (ts : List Token) (at : ℕ) → Tokens text ts → FailsAt text at → ⊥
no_failure text ts at x f =
    let e = (same_reads x at_end f.reads f.nothing_begins).1 in
    let none : length f.rest ≡ 0 = ap length (sym e) in
    absurd (omega (arith, f.some, none))

pub same_place : (text : List ℕ) (at other : ℕ) → FailsAt text at → FailsAt text other → at ≡ other
same_place text at other f g = f.here ∙ ap (place_of_rest text) (same_reads f.reads f.nothing_begins g.reads g.nothing_begins).1 ∙ sym g.here
