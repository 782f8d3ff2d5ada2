use Rattle.std.proofs.Common.{◌∙◌, ◌<◌, ◌^◌, ◌≡◌, length, subst, sym}
use Rattle.std.proofs.lemmas.Result.{err_from_is_err_and}
use Rattle.ac_types.specs.ReadTypes.{typ_of}
use Rattle.ac_types.specs.Types.{TInt}
use Rattle.ac_terms.specs.Parts.{value_parts}
use Rattle.ac_pack_terms.specs.Pieces.{entries_at, held_at}
use Rattle.ac_pack_terms.specs.declared.piece.PackContext.{PackContext}
use Rattle.ac_pack_terms.specs.declared.piece.Piece.TheVariants as piece
use Rattle.ac_pack_values.proofs.WrittenLaws.{site_kept, both_begun, both_not_begun, ended, stopped, type_first}
use Rattle.ac_pack_values.proofs.written.walked.Goals as goal

pub returns-in_err-both : goal.returns-in_err-both
returns-in_err-both c =
    let p = err_from_is_err_and c.from_residual.result c.from_residual.ensures.1 in
    rw (p.1, p.2)
    (both_not_begun c.in_err-both.field-0.0 c.args.site (piece.Type c.args.ty) (piece.Held c.args.value c.args.ty 0) c.new-walk.result c.both.new.self c.new-walk.ensures.site c.new-walk.ensures.text c.in_err-both.ensures)

pub visit_pending-requires-clause-entries : goal.visit_pending-requires-clause-entries
visit_pending-requires-clause-entries c =
    subst (λ (s : PackContext). length s.env.now.entries < 2 ^ 32) (sym (site_kept tt _ _ _ _ c.in_ok-both.ensures ∙ c.new-walk.ensures.site)) c.requires.entries

pub visit_pending-requires-clause-int : goal.visit_pending-requires-clause-int
visit_pending-requires-clause-int c =
    subst (λ (s : PackContext). typ_of s.int.now ≡ TInt) (sym (site_kept tt _ _ _ _ c.in_ok-both.ensures ∙ c.new-walk.ensures.site)) c.requires.int

pub returns-in_err-visit_pending : goal.returns-in_err-visit_pending
returns-in_err-visit_pending c =
    let b = both_begun tt c.args.site (piece.Type c.args.ty) (piece.Held c.args.value c.args.ty 0) c.new-walk.result c.both.new.self c.new-walk.ensures.site c.new-walk.ensures.text c.new-walk.ensures.roots c.new-walk.ensures.pieces c.in_ok-both.ensures in
    let p = err_from_is_err_and c.from_residual-in_err-visit_pending.result c.from_residual-in_err-visit_pending.ensures.1 in
    rw (p.1, p.2) (λ f q. stopped _ _ f c.both.new.self b (c.in_err-visit_pending.ensures f q))

pub returns : goal.returns
returns c =
    let s = c.args.site in
    let T = typ_of c.args.ty.now in
    let b = both_begun tt s (piece.Type c.args.ty) (piece.Held c.args.value c.args.ty 0) c.new-walk.result c.both.new.self c.new-walk.ensures.site c.new-walk.ensures.text c.new-walk.ensures.roots c.new-walk.ensures.pieces c.in_ok-both.ensures in
    ended _ _ _ _ _ c.both.new.self b (type_first (entries_at s) T (value_parts (held_at s c.args.value T))) c.in_ok-visit_pending.ensures
