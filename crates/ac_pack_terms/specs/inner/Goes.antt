-- What a walk comes to from where it stands.
use Rattle.std.specs.Prelude.{◌≡◌, ℕ, List, [], ◌∷◌, ◌++◌, Result, MatchResult}
use Rattle.ac_terms.specs.Terms.{Expr, PValue, PValues}
use Rattle.ac_terms.specs.Parts.{term_parts, value_parts, all_value_parts}
use Rattle.ac_terms.specs.Heads.{Head}
use Rattle.ac_pack_heads.specs.Outcomes.{WalkEnd, walk_end, StopsWalk}
use Rattle.ac_pack_heads.specs.declared.stop.Stop.{Stop}
use Rattle.ac_pack_terms.specs.Pieces.{heads_at, roots_at, spoken_at, term_written, value_written, values_written}
use Rattle.ac_pack_terms.specs.declared.piece.Piece.{Piece}
use Rattle.ac_pack_terms.specs.declared.walk.Walk.{Walk}

-- something of all pieces, of which the last is visited first
abbrev pub pending : {A : Type 0} → (Piece → List A) → List Piece → List A
pending f [] = []
pending f (p ∷ ps) = pending f ps ++ f p

-- what is written, and what that speaks of, where some parts and definitions come before the pieces
abbrev pub comes : List Head → List ℕ → Walk → WalkEnd × List ℕ
comes hs ns w = (walk_end w.text.0 (hs ++ pending (heads_at w.site) w.pieces.items), w.roots ++ (ns ++ pending (roots_at w.site) w.pieces.items))

-- a step has gone on by these parts, which speak of these definitions, or has stopped in them
unfoldable pub Visits : Result Unit Stop → List Head → List ℕ → Walk → Walk → Type 0
Visits r hs ns old new = MatchResult r (λ _. (new.site ≡ old.site) × (comes [] [] new ≡ comes hs ns old)) (λ e. StopsWalk e old.text.0 hs)

-- the same of a term and of packed values
abbrev pub VisitsTerm : Result Unit Stop → ℕ → Expr → Walk → Walk → Type 0
VisitsTerm r d e old new = Visits r (term_written old.site d e) (spoken_at old.site (term_parts e)) old new

abbrev pub VisitsValue : Result Unit Stop → ℕ → PValue → Walk → Walk → Type 0
VisitsValue r d v old new = Visits r (value_written old.site d v) (spoken_at old.site (value_parts v)) old new

abbrev pub VisitsValues : Result Unit Stop → ℕ → PValues → Walk → Walk → Type 0
VisitsValues r d vs old new = Visits r (values_written old.site d vs) (spoken_at old.site (all_value_parts vs)) old new
