use Rattle.std.proofs.Common.{◌≡◌, ap, ◌∙◌, ◌+◌, ℕ, suc, arith, [], ◌∷◌, ◌++◌}
use Rattle.ac_types.specs.ReadTypes.{typ_of}
use Rattle.ac_terms.specs.Read.{expr_of}
use Rattle.ac_terms.specs.Heads.{next_head, type_heads}
use Rattle.ac_terms.specs.Parts.{OfType, term_parts}
use Rattle.ac_terms.specs.Tags.{term_let}
use Rattle.ac_pack_terms.specs.Pieces.{term_at, spoken_at}
use Rattle.ac_pack_terms.specs.declared.piece.Around.{Around}
use Rattle.ac_pack_terms.specs.inner.Written.{written_in, spoken_in}
use Rattle.ac_pack_terms.proofs.WalkLaws.{visits_same}
use Rattle.ac_pack_terms.proofs.VisitLaws.{each_spoken}
use Rattle.ac_pack_terms.proofs.walk.Walk.local.Goals as goal

pub returns : goal.returns
returns c =
    let s = c.args.self.now.site in
    let a = c.args.around.now in
    let wider : ℕ → Around = λ n. record a { binders = n } in
    let T = typ_of c.args.ty.now in
    let more : 1 + a.binders ≡ suc a.binders = omega arith in
    visits_same _ _ _ _ _ c.args.self.now _
    (ap (λ (w : Around). next_head c.args.d (term_let ∷ []) ∷ type_heads T ++ written_in s a c.args.d c.args.bound.now ++ written_in s w c.args.d c.args.body.now) (c.in_ok-under.ensures ∙ ap wider more))
    (ap (λ (w : Around). spoken_at s (OfType T ∷ []) ++ spoken_in s a c.args.bound.now ++ spoken_in s w c.args.body.now) (c.in_ok-under.ensures ∙ ap wider more)
    ∙ each_spoken s (OfType T ∷ []) (term_parts (term_at s a (expr_of c.args.bound.now))) (term_parts (term_at s (wider (suc a.binders)) (expr_of c.args.body.now))))
    c.three.ensures
