-- The longest token that begins a text, by its first byte.
use Rattle.std.proofs.Common.{◌≡◌, ◌≤◌, ◌<◌, ◌+◌, ◌^◌, ℕ, Bool, true, false, cond, List, [], ◌∷◌, ◌++◌, refl, sym, ◌∙◌, ap, subst, arith, length, take, drop, length-append, get_or-take, ⊎_elim}
use Rattle.std.specs.Prelude.{slice_index, nat_le, ◌&&◌}
use Rattle.std.specs.List.{list_all, prefix_len}
use Rattle.std.proofs.lemmas.Bool.{cases_lt, and_parts, and_from, both_ways, lt-ltb, le-ltb, leb-true}
use Rattle.std.proofs.lemmas.List.{take-append-drop, length-take-le, take_at}
use Rattle.std.proofs.lemmas.List.Sums.{prefix_len-le-length}
use Rattle.std.proofs.Math.Numerals.{one-add}
use Rattle.std.proofs.lemmas.Bool.Decides.{nat_tests}
use Rattle.ac_types.specs.Words.{is_start, is_part}
use Rattle.ac_lexer.specs.declared.tokens.TokenKind.{TokenKind}
use Rattle.ac_lexer.specs.declared.tokens.TokenKind.TheVariants.{Int, Str, Fixed}
use Rattle.ac_lexer.specs.Gaps.{begins_comment}
use Rattle.ac_lexer.specs.Spellings.{is_digit, value, is_identifier, name_kind, is_symbol, SymbolBegins, Quoted, SpellsToken, number, name, symbol, string, is_within_limits}
use Rattle.ac_lexer.specs.Tokens.{IsLongest, TokenAt, NoToken}
use Rattle.ac_lexer.proofs.Spelled.{by_digit, by_start, by_quote, by_other, of_symbols, no_empty}
use Rattle.ac_lexer.proofs.Unique.{same_split, one_kind, same_quoted, quoted_on, quoted_front}

-- the longest front of the text that spells a token, of whatever size
pub record Longest (text : List ℕ) (kind : TokenKind) (rest : List ℕ) : Type 0 where
  pub front : List ℕ
  pub split : text ≡ front ++ rest
  pub spelled : SpellsToken front kind
  pub longest : IsLongest text front

pub accepted : {text rest : List ℕ} {kind : TokenKind} → Longest text kind rest → is_within_limits kind ≡ true → begins_comment text ≡ false → TokenAt text kind rest
accepted x w o = record { front = x.front; split = x.split; spelled = x.spelled; longest = x.longest; within_limits = w; no_comment = o }

pub rejected : {text rest : List ℕ} {kind : TokenKind} → Longest text kind rest → is_within_limits kind ≡ false → NoToken text
rejected {text} {rest} {kind} x w = λ k r t.
    let most = x.longest t.front r k t.split t.spelled in
    let least = t.longest x.front rest kind x.split x.spelled in
    let e = same_split x.front t.front rest r (sym x.split ∙ t.split) (omega arith) in
    let same = one_kind x.spelled (subst (λ (l : List ℕ). SpellsToken l k) (sym e.0) t.spelled) in
    both_ways (is_within_limits k) (sym (ap is_within_limits same) ∙ w) t.within_limits

-- a token begins with the text's first byte
pub same_first : (text other behind : List ℕ) {k : TokenKind} → text ≡ other ++ behind → SpellsToken other k → slice_index text 0 ≡ slice_index other 0
same_first text [] behind e x = absurd (no_empty x)
same_first text (c ∷ other) behind e x = ap (λ (l : List ℕ). slice_index l 0) e

-- the front whose bytes all pass a test

all_within : (p : ℕ → Bool) (xs ys : List ℕ) → list_all p xs ≡ true → length xs ≤ prefix_len p (xs ++ ys)
all_within p [] ys h = omega arith
all_within p (x ∷ xs) ys h =
    let both = and_parts (p x) (list_all p xs) h in
    let i = all_within p xs ys both.1 in
    rw both.0 (omega arith)

passes_on : (p : ℕ → Bool) (x : ℕ) (xs : List ℕ) (b : Bool) → p x ≡ b → list_all p (take (prefix_len p xs) xs) ≡ true → list_all p (take (cond b (1 + prefix_len p xs) 0) (x ∷ xs)) ≡ true
passes_on p x xs true e h = rw one-add (and_from (p x) (list_all p (take (prefix_len p xs) xs)) e h)
passes_on p x xs false e h = refl

all_pass : (p : ℕ → Bool) (xs : List ℕ) → list_all p (take (prefix_len p xs) xs) ≡ true
all_pass p [] = refl
all_pass p (x ∷ xs) = passes_on p x xs (p x) refl (all_pass p xs)

-- a run of bytes of one kind that begins the text, where its first byte is of a narrower kind

module _ (first p : ℕ → Bool) (narrower : (c : ℕ) → first c ≡ true → p c ≡ true) (none : first 0 ≡ false) where
  run_some : (text : List ℕ) → first (slice_index text 0) ≡ true → 0 < prefix_len p text
  run_some [] h = absurd (both_ways (first 0) none h)
  run_some (c ∷ text) h = rw (narrower c h) (omega arith)

  run_front : (text : List ℕ) → first (slice_index text 0) ≡ true → (first (slice_index (take (prefix_len p text) text) 0) && list_all p (take (prefix_len p text) text)) ≡ true
  run_front text h =
      let some = run_some text h in
      let same : slice_index (take (prefix_len p text) text) 0 ≡ slice_index text 0 = get_or-take (prefix_len p text) text 0 0 some in
      and_from (first (slice_index (take (prefix_len p text) text) 0)) (list_all p (take (prefix_len p text) text)) (ap first same ∙ h) (all_pass p text)

  run_longest : (text other behind : List ℕ) → text ≡ other ++ behind → (first (slice_index other 0) && list_all p other) ≡ true → length other ≤ length (take (prefix_len p text) text)
  run_longest text other behind e h =
      let most = all_within p other behind (and_parts (first (slice_index other 0)) (list_all p other) h).1 in
      let len = length-take-le (prefix_len p text) text (prefix_len-le-length p text) in
      let same = ap (prefix_len p) e in
      omega (arith, most, len, same)

start_is_part : (c : ℕ) → is_start c ≡ true → is_part c ≡ true
start_is_part c h = grind (arith, nat_tests)

pub number_front : (text : List ℕ) → is_digit (slice_index text 0) ≡ true → Longest text (Int (value (take (prefix_len is_digit text) text))) (drop (prefix_len is_digit text) text)
number_front text h = record {
  front = take (prefix_len is_digit text) text;
  split = sym (take-append-drop (prefix_len is_digit text) text);
  spelled = number (run_front is_digit is_digit (λ c d. d) refl text h);
  longest = λ other behind k e x. run_longest is_digit is_digit (λ c d. d) refl text other behind e (by_digit x (sym (ap is_digit (same_first text other behind e x)) ∙ h)).0;
}

pub name_front : (text : List ℕ) → is_start (slice_index text 0) ≡ true → Longest text (name_kind (take (prefix_len is_part text) text)) (drop (prefix_len is_part text) text)
name_front text h = record {
  front = take (prefix_len is_part text) text;
  split = sym (take-append-drop (prefix_len is_part text) text);
  spelled = name (run_front is_start is_part start_is_part refl text h);
  longest = λ other behind k e x. run_longest is_start is_part start_is_part refl text other behind e (by_start x (sym (ap is_start (same_first text other behind e x)) ∙ h)).0;
}

-- strings

pub string_front : (text content rest : List ℕ) → Quoted text content rest → Longest (34 ∷ text) (Str (record { 0 = content })) rest
string_front text content rest q =
    let f = quoted_front q in
    record {
      front = 34 ∷ f.0;
      split = ap (λ (l : List ℕ). 34 ∷ l) f.1;
      spelled = string f.2;
      longest = λ other behind k e x. string_longest text content rest f.0 q f.1 other behind k e x;
    } where
      string_longest : (text content rest front : List ℕ) → Quoted text content rest → text ≡ front ++ rest → (other behind : List ℕ) (k : TokenKind) → 34 ∷ text ≡ other ++ behind → SpellsToken other k → length other ≤ length (34 ∷ front)
      string_longest text content rest front q split other behind k e x =
          let b = by_quote x (sym (same_first (34 ∷ text) other behind e x)) in
          let whole_text : 34 ∷ text ≡ 34 ∷ (b.0 ++ behind) = e ∙ ap (λ (l : List ℕ). l ++ behind) b.2 in
          let tail : text ≡ b.0 ++ behind = cc in
          let whole = subst (λ (l : List ℕ). Quoted l b.1 behind) (sym tail) (quoted_on b.3 behind) in
          let same = ap length (same_quoted q whole).1 in
          let one = ap length b.2 in
          let two = ap length split ∙ length-append front rest in
          let three = ap length tail ∙ length-append b.0 behind in
          omega (arith, same, one, two, three)

pub no_string : (text : List ℕ) → ((content rest : List ℕ) → Quoted text content rest → ⊥) → NoToken (34 ∷ text)
no_string text none = λ k rest t.
    let b = by_quote t.spelled (sym (same_first (34 ∷ text) t.front rest t.split t.spelled)) in
    let whole_text : 34 ∷ text ≡ 34 ∷ (b.0 ++ rest) = t.split ∙ ap (λ (l : List ℕ). l ++ rest) b.2 in
    let tail : text ≡ b.0 ++ rest = cc in
    none b.1 rest (subst (λ (l : List ℕ). Quoted l b.1 rest) (sym tail) (quoted_on b.3 rest))

-- symbols

pub symbol_length : (bytes : List ℕ) → is_symbol bytes ≡ true → length bytes ≤ 2
symbol_length bytes h = leb-true (length bytes) 2 (of_symbols (λ s. nat_le (length s) 2) bytes h refl)

-- a symbol of one length or the other
symbol_in : (text other behind : List ℕ) → text ≡ other ++ behind → (take (length other) text ≡ other) × (length other ≤ length text)
symbol_in text other behind e = (ap (take (length other)) e ∙ take_at other behind (length other) refl, omega (arith, ap length e, length-append other behind))

other_first : (text other behind : List ℕ) {k : TokenKind} → text ≡ other ++ behind → SpellsToken other k → is_digit (slice_index text 0) ≡ false → is_start (slice_index text 0) ≡ false → (slice_index text 0 ≡ 34 → ⊥) → is_symbol other ≡ true
other_first text other behind e x d s q =
    let same = same_first text other behind e x in
    (by_other x (sym (ap is_digit same) ∙ d) (sym (ap is_start same) ∙ s) (λ f. q (same ∙ f))).0

no_more : (text other behind : List ℕ) (count : ℕ) → SymbolBegins text count → text ≡ other ++ behind → is_symbol other ≡ true → length other ≤ count
no_more text other behind count b e h =
    ⊎_elim (λ (lt : count < length other).
    let i = symbol_in text other behind e in
    absurd (both_ways (is_symbol (take (length other) text)) (b.3 (length other) lt (symbol_length other h) i.1) (ap is_symbol i.0 ∙ h)))
    (λ (ge : length other ≤ count). ge) (cases_lt count (length other))

pub symbol_front : (text : List ℕ) (count : ℕ) → SymbolBegins text count → 0 < count → is_digit (slice_index text 0) ≡ false → is_start (slice_index text 0) ≡ false → (slice_index text 0 ≡ 34 → ⊥) → Longest text (Fixed (record { 0 = take count text })) (drop count text)
symbol_front text count b some d s q = record {
  front = take count text;
  split = sym (take-append-drop count text);
  spelled = symbol (b.2 some);
  longest = λ other behind k e x.
      let most = no_more text other behind count b e (other_first text other behind e x d s q) in
      let len = length-take-le count text b.1 in
      omega (arith, most, len);
}

pub no_symbol_front : (text : List ℕ) → SymbolBegins text 0 → is_digit (slice_index text 0) ≡ false → is_start (slice_index text 0) ≡ false → (slice_index text 0 ≡ 34 → ⊥) → NoToken text
no_symbol_front text b d s q = λ k rest t. nothing_spelled t.front t.spelled (no_more text t.front rest 0 b t.split (other_first text t.front rest t.split t.spelled d s q)) where
  nothing_spelled : (front : List ℕ) {k : TokenKind} → SpellsToken front k → length front ≤ 0 → ⊥
  nothing_spelled [] x l = no_empty x
  nothing_spelled (c ∷ front) x l = absurd (omega arith)

-- the tokens that the code answers

module _ (text front rest : List ℕ) (count : ℕ) (front_is : front ≡ take count text) (rest_is : rest ≡ drop count text) (no_comment : begins_comment text ≡ false) where
  pub number_token : is_digit (slice_index text 0) ≡ true → count ≡ prefix_len is_digit text → (n : ℕ) → n ≡ value front → value front < 2 ^ 63 → TokenAt text (Int n) rest
  number_token h count_is n is small =
      let fits : is_within_limits (Int (value front)) ≡ true = lt-ltb (value front) (2 ^ 63) small in
      rw (is, front_is, rest_is, count_is) (accepted (number_front text h) (rw (front_is, count_is) at fits) no_comment)

  pub no_number : is_digit (slice_index text 0) ≡ true → count ≡ prefix_len is_digit text → 2 ^ 63 ≤ value front → NoToken text
  no_number h count_is large =
      let past : is_within_limits (Int (value front)) ≡ false = le-ltb (value front) (2 ^ 63) large in
      rejected (number_front text h) (rw (front_is, count_is) at past)

  pub is_name_of : is_start (slice_index text 0) ≡ true → count ≡ prefix_len is_part text → is_identifier front ≡ true
  is_name_of h count_is = rw (front_is, count_is) (run_front is_start is_part start_is_part refl text h)

  pub name_token : is_start (slice_index text 0) ≡ true → count ≡ prefix_len is_part text → (kind : TokenKind) → (kind ≡ name_kind front) × (is_within_limits kind ≡ true) → TokenAt text kind rest
  name_token h count_is kind is =
      let fits : is_within_limits (name_kind front) ≡ true = sym (ap is_within_limits is.0) ∙ is.1 in
      rw (is.0, front_is, rest_is, count_is) (accepted (name_front text h) (rw (front_is, count_is) at fits) no_comment)

  pub no_name : is_start (slice_index text 0) ≡ true → count ≡ prefix_len is_part text → is_within_limits (name_kind front) ≡ false → NoToken text
  no_name h count_is past = rejected (name_front text h) (rw (front_is, count_is) at past)

  pub symbol_token : SymbolBegins text count → (count ≡ 0 → ⊥) → is_digit (slice_index text 0) ≡ false → is_start (slice_index text 0) ≡ false → (slice_index text 0 ≡ 34 → ⊥) → (bytes : List ℕ) → bytes ≡ front → TokenAt text (Fixed (record { 0 = bytes })) rest
  symbol_token b some d s q bytes is = rw (is, front_is, rest_is) (accepted (symbol_front text count b (omega (arith, some)) d s q) refl no_comment)

-- strings

pub quote_first : (text : List ℕ) → slice_index text 0 ≡ 34 → text ≡ 34 ∷ drop 1 text
quote_first [] e = absurd (omega arith)
quote_first (c ∷ text) e = ap (λ (n : ℕ). n ∷ text) e

pub string_token : (text inside content rest : List ℕ) → slice_index text 0 ≡ 34 → inside ≡ drop 1 text → Quoted inside content rest → TokenAt text (Str (record { 0 = content })) rest
string_token text inside content rest e is q =
    let split : text ≡ 34 ∷ inside = quote_first text e ∙ ap (λ (l : List ℕ). 34 ∷ l) (sym is) in
    subst (λ (l : List ℕ). TokenAt l (Str (record { 0 = content })) rest) (sym split) (accepted (string_front inside content rest q) refl refl)

pub no_string_token : (text inside : List ℕ) → slice_index text 0 ≡ 34 → inside ≡ drop 1 text → ((content rest : List ℕ) → Quoted inside content rest → ⊥) → NoToken text
no_string_token text inside e is none =
    let split : text ≡ 34 ∷ inside = quote_first text e ∙ ap (λ (l : List ℕ). 34 ∷ l) (sym is) in
    subst (λ (l : List ℕ). NoToken l) (sym split) (no_string inside none)
