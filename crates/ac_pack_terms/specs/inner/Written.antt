-- What a term comes to in the surroundings of a part that nests so deep.
use Rattle.std.specs.Prelude.{ℕ, suc, List}
use Rattle.ac_terms.specs.Read.{expr_of}
use Rattle.ac_terms.specs.declared.term.Term.{Term}
use Rattle.ac_terms.specs.Heads.{Head}
use Rattle.ac_terms.specs.Parts.{term_parts}
use Rattle.ac_pack_terms.specs.declared.piece.PackContext.{PackContext}
use Rattle.ac_pack_terms.specs.declared.piece.Around.{Around}
use Rattle.ac_pack_terms.specs.Pieces.{term_at, term_written, spoken_at}

abbrev pub written_in : PackContext → Around → ℕ → Term → List Head
written_in s a d t = term_written s (suc d) (term_at s a (expr_of t))

abbrev pub spoken_in : PackContext → Around → Term → List ℕ
spoken_in s a t = spoken_at s (term_parts (term_at s a (expr_of t)))
