-- What the visit of a term comes to, by what it is at the top.
use Rattle.std.proofs.Common.{◌≡◌, sym, subst, subst₂, ap, ◌∙◌, ℕ, suc, List, ◌∷◌, ◌++◌, map, length, Result}
use Rattle.std.proofs.lemmas.List.Concat.{flat_map-append}
use Rattle.ac_types.specs.Types.{Bytes}
use Rattle.ac_terms.specs.Terms.{Expr, Tuple, Seq, exprs}
use Rattle.ac_terms.specs.Tags as tag
use Rattle.ac_terms.specs.Spelling.{one_written, four_written, term_count}
use Rattle.ac_terms.specs.Heads.{next_head}
use Rattle.ac_terms.specs.Parts.{Portion, all_term_parts}
use Rattle.ac_terms.specs.Read.{expr_of, home_of}
use Rattle.ac_terms.specs.Renumbered.{all_renumbered}
use Rattle.ac_terms.specs.declared.term.Term.{Term}
use Rattle.ac_pack_heads.specs.declared.stop.Stop.{Stop}
use Rattle.ac_pack_terms.specs.declared.piece.PackContext.{PackContext}
use Rattle.ac_pack_terms.specs.declared.piece.Around.{Around}
use Rattle.ac_pack_terms.specs.declared.walk.Walk.{Walk}
use Rattle.ac_pack_terms.specs.Spoken.{spoken_by}
use Rattle.ac_pack_terms.specs.Pieces.{entries_at, number_at, captured_at, term_at, terms_at, terms_written, spoken_at}
use Rattle.ac_pack_terms.specs.inner.Goes.{Visits, VisitsTerm}
use Rattle.ac_pack_terms.proofs.FormLaws.{terms_counted}

module _ (a : Around) (t : Term) (e : Expr) (outer d : ℕ) (r : Result Unit Stop) (old new : Walk) where
  pub as_form : expr_of t ≡ e → d ≡ outer → VisitsTerm r d (term_at old.site a e) old new → VisitsTerm r outer (term_at old.site a (expr_of t)) old new
  as_form is deep v = subst (λ n. VisitsTerm r n (term_at old.site a (expr_of t)) old new) deep (subst (λ x. VisitsTerm r d (term_at old.site a x) old new) (sym is) v)

-- terms behind a head that has their count
module _ (a : Around) (d : ℕ) (r : Result Unit Stop) (old new : Walk) where
  abbrev Counted : (ℕ → Bytes) → ℕ → List Term → Type 0
  Counted bytes n ts =
      let es = terms_at old.site a (exprs (map expr_of ts)) in
      Visits r (next_head d (bytes n) ∷ terms_written old.site (suc d) es) (spoken_at old.site (all_term_parts es)) old new

  counted : (bytes : ℕ → Bytes) (n : ℕ) (ts parts : List Term) → ts ≡ parts → n ≡ length parts → Counted bytes n ts
      → Counted bytes (term_count (all_renumbered (number_at old.site) (terms_at old.site a (exprs (map expr_of parts))))) parts
  counted bytes n ts parts same count v =
      subst₂ (Counted bytes) (count ∙ sym (terms_counted (entries_at old.site) (number_at old.site) a.binders (captured_at old.site a) (home_of a.home) parts)) same v

  module _ (t : Term) (n : ℕ) (ts parts : List Term) (outer : ℕ) (deep : d ≡ outer) (same : ts ≡ parts) (count : n ≡ length parts) where
    pub as_tuple : expr_of t ≡ Tuple (exprs (map expr_of parts)) → Counted (λ k. tag.term_tuple ∷ one_written k) n ts → VisitsTerm r outer (term_at old.site a (expr_of t)) old new
    as_tuple is v =
        as_form a t (Tuple (exprs (map expr_of parts))) outer d r old new is deep (counted (λ k. tag.term_tuple ∷ one_written k) n ts parts same count v)

    pub as_sequence : expr_of t ≡ Seq (exprs (map expr_of parts)) → Counted (λ k. tag.term_seq ∷ four_written k) n ts → VisitsTerm r outer (term_at old.site a (expr_of t)) old new
    as_sequence is v =
        as_form a t (Seq (exprs (map expr_of parts))) outer d r old new is deep (counted (λ k. tag.term_seq ∷ four_written k) n ts parts same count v)

-- parts that are spoken of one after the other
both_spoken : (s : PackContext) (ps qs : List Portion) → spoken_at s ps ++ spoken_at s qs ≡ spoken_at s (ps ++ qs)
both_spoken s ps qs = sym (flat_map-append (spoken_by (entries_at s)) ps qs)

pub each_spoken : (s : PackContext) (ps qs rs : List Portion) → spoken_at s ps ++ spoken_at s qs ++ spoken_at s rs ≡ spoken_at s (ps ++ qs ++ rs)
each_spoken s ps qs rs = ap (λ (ns : List ℕ). ns ++ spoken_at s rs) (both_spoken s ps qs) ∙ both_spoken s (ps ++ qs) rs
