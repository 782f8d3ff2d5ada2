-- How a text is read from its front.
use Rattle.std.proofs.Common.{◌≡◌, ◌<◌, ℕ, List, [], ◌∷◌, ◌++◌, refl, subst, length}
use Rattle.ac_lexer.specs.declared.tokens.Token.{Token}
use Rattle.ac_lexer.specs.declared.tokens.TokenKind.{TokenKind}
use Rattle.ac_lexer.specs.Gaps.{Gap, NoGap}
use Rattle.ac_lexer.specs.Tokens.{TokenAt, NoToken, Reads, nothing, gap, token, Tokens, FailsAt, place_of_rest}
use Rattle.ac_lexer.proofs.Unique.{same_tokens, no_failure}

pub past_gap : {whole text here after : List ℕ} {tokens : List Token} → Reads whole text tokens here → Gap here after → Reads whole text tokens after
past_gap nothing g = gap g nothing
past_gap (gap h x) g = gap h (past_gap x g)
past_gap (token t x) g = token t (past_gap x g)

pub past_token : {whole text here after : List ℕ} {kind : TokenKind} {tokens : List Token} → Reads whole text tokens here → TokenAt here kind after → (at : ℕ) → at ≡ place_of_rest whole here → Reads whole text (tokens ++ record { kind = kind; at = at } ∷ []) after
past_token {whole} {text} {here} {after} {kind} nothing t at e = rw e (token t nothing)
past_token (gap g x) t at e = gap g (past_token x t at e)
past_token (token u x) t at e = token u (past_token x t at e)

pub whole_text : {text here : List ℕ} {tokens : List Token} → Reads text text tokens here → here ≡ [] → Tokens text tokens
whole_text {text} {tokens = tokens} x e = subst (λ (l : List ℕ). Reads text text tokens l) e x

failure : {text here : List ℕ} {tokens : List Token} → Reads text text tokens here → 0 < length here → NoGap here → NoToken here → (at : ℕ) → at ≡ place_of_rest text here → FailsAt text at
failure {text} {here} {tokens} x some g t at e =
    record { tokens = tokens; rest = here; reads = x; some = some; nothing_begins = record { no_gap = g; no_token = t }; here = e }

pub no_tokens : {text here : List ℕ} {tokens : List Token} → Reads text text tokens here → 0 < length here → NoGap here → NoToken here → (others : List Token) → Tokens text others → ⊥
no_tokens {text} {here} x some g t others y = no_failure text others (place_of_rest text here) y (failure x some g t (place_of_rest text here) refl)

pub only : {text : List ℕ} {tokens : List Token} → Tokens text tokens → (others : List Token) → Tokens text others → others ≡ tokens
only {text} {tokens} x others y = same_tokens text others tokens y x
