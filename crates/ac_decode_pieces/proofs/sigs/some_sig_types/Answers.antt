use Rattle.std.proofs.Common.{◌-◌, [], ◌∷◌, map, ap, ◌∙◌}
use Rattle.std.proofs.lemmas.Result.{err_from_is_err_and}
use Rattle.ac_types.specs.Sigs.{Sig_type}
use Rattle.ac_types.specs.ReadTypes.{sig_type_of}
use Rattle.ac_decode_pieces.specs.ExactTypes.{exact_sig_type}
use Rattle.ac_terms.specs.PacketReading.{times}
use Rattle.ac_decode_pieces.proofs.Loops.{with_front, starts, goes_on, ends, all_read, onto_list}
use Rattle.ac_decode_pieces.proofs.sigs.some_sig_types.Goals as goal

pub loop-init : goal.loop-init
loop-init g c =
    ap (λ xs. with_front (λ (x : Sig_type) xs. x ∷ xs) (map sig_type_of xs) (times [] (λ (x : Sig_type) xs. x ∷ xs) (exact_sig_type (g.T.Types.reads_type c.args.types.now)) (c.args.count - 0) c.args.cursor.now.left)) c.new-items.ensures
    ∙ starts [] (λ (x : Sig_type) xs. x ∷ xs) (exact_sig_type (g.T.Types.reads_type c.args.types.now)) c.args.count c.args.cursor.now.left

pub returns-in_err-item : goal.returns-in_err-item
returns-in_err-item g c =
    let p = err_from_is_err_and c.from_residual.result c.from_residual.ensures.1 in
    rw (p.1, p.2) (ends [] (λ (x : Sig_type) xs. x ∷ xs) (exact_sig_type (g.T.Types.reads_type c.args.types.now)) c.in_err-item.field-0.0 (map sig_type_of c.loop.items) c.args.count c.loop.counter c.loop.cursor.left _ c.loop-test.true c.in_err-item.ensures c.loop.invariant)

pub loop-preserved : goal.loop-preserved
loop-preserved g c =
    goes_on [] (λ (x : Sig_type) xs. x ∷ xs) (exact_sig_type (g.T.Types.reads_type c.args.types.now)) sig_type_of c.loop.items _ c.in_ok-item.item c.args.count c.loop.counter c.loop.cursor.left _ _ c.loop-test.true c.in_ok-item.ensures c.in_ok-push.ensures.ok c.loop.invariant

pub returns : goal.returns
returns g c =
    all_read [] (λ (x : Sig_type) xs. x ∷ xs) (exact_sig_type (g.T.Types.reads_type c.args.types.now)) (map sig_type_of c.loop.items) c.args.count c.loop.counter c.loop.cursor.left _ (map sig_type_of c.loop.items) c.loop-test.false c.loop.invariant (onto_list (map sig_type_of c.loop.items))
