use Rattle.std.proofs.Common.{rules, ◌∙◌, List, ◌++◌, ◌∷◌, map, reverse, refl, ap}
use Rattle.ac_types.specs.Types.{Typ, TFun}
use Rattle.ac_types.specs.ReadTypes.{typ_of}
use Rattle.ac_terms.specs.Read.{home_of, pattern_of, expr_of, arm_of}
use Rattle.ac_terms.specs.Terms.{arms}
use Rattle.ac_code.specs.Contexts.{context_of}
use Rattle.ac_code.proofs.ContextLaws.{context_of-Empty}
use Rattle.ac_generate.specs.inner.Drafts.{draft_of, address}
use Rattle.ac_generate.proofs.FormLaws.{lam_is, rec_is, if_is, match_is, try_is}
use Rattle.ac_generate.proofs.TermLaws.{count_types, plain_written}
use Rattle.ac_generate.proofs.Written.{on_ok, rec_written, packed_lam_written, packed_rec_written, if_written, match_written, try_written, arm_written, arm_ended}
use Rattle.ac_generate.proofs.writer.Writer.+term.Goals as goal

pub arm-returns-clause-ok : goal.arm-returns-clause-ok
arm-returns-clause-ok t c =
    let home = home_of c.args.home in
    let G = context_of c.args.scope.now in
    let q = pattern_of c.args.case.now.pat in
    let d = draft_of c.args.self.now in
    arm_written home G _ q (expr_of c.args.case.now.body) d _ _ _ c.len-count.result
    (c.in_ok-inner.ensures ∙ ap (λ Ts. reverse Ts ++ G) c.in_ok-bound.ensures)
    (count_types _ c.in_ok-bound.bound.items _ (search rules) c.in_ok-bound.ensures)
    c.in_ok-test.ensures.ok c.in_ok-term.ensures c.in_ok-unbind.ensures
    (draft_of c.hold-2.new.self) (draft_of c.test.new.self) _ (address (draft_of c.hold-2.new.self)) c.in_ok-test.ensures.address c.in_ok-end.ensures.ok refl c.in_ok-test-2.ensures

pub arm-returns-clause-address : goal.arm-returns-clause-address
arm-returns-clause-address t c =
    let G = context_of c.args.scope.now in
    let d = draft_of c.args.self.now in
    arm_ended (home_of c.args.home) G _ (pattern_of c.args.case.now.pat) (expr_of c.args.case.now.body) d _ _ _ c.len-count.result
    (c.in_ok-inner.ensures ∙ ap (λ Ts. reverse Ts ++ G) c.in_ok-bound.ensures)
    (count_types _ c.in_ok-bound.bound.items _ (search rules) c.in_ok-bound.ensures)
    c.in_ok-test.ensures.ok c.in_ok-term.ensures c.in_ok-unbind.ensures c.in_ok-end.end c.in_ok-end.ensures.address

pub function-returns : goal.function-returns
function-returns t c = plain_written (home_of c.args.home) c.args.function.now (draft_of c.args.self.now) c.in_default.not-Lam c.in_default.not-Rec

pub function-returns-in-Lam : goal.function-returns-in-Lam
function-returns-in-Lam t c =
    on_ok c.put.result (packed_lam_written (home_of c.args.home) (typ_of c.in-Lam.ty) (expr_of c.deref.result.now) (expr_of c.args.function.now) _ _ (draft_of c.args.self.now) _ _ (draft_of c.lambda.new.self) (draft_of c.put.new.self) _ c.in_ok-id-in-Lam.id.0
    (lam_is _ _ _ _ c.in-Lam.is c.deref.ensures)
    (ap (λ (K : List Typ). typ_of c.in-Lam.ty ∷ K) context_of-Empty)
    context_of-Empty refl refl refl c.in_ok-id-in-Lam.ensures.number c.in_ok-id-in-Lam.ensures.ok) c.put.ensures

pub function-returns-in-Rec : goal.function-returns-in-Rec
function-returns-in-Rec t c =
    let T = typ_of c.in-Rec.from in
    let U = typ_of c.in-Rec.to in
    on_ok c.put-in-Rec.result (packed_rec_written (home_of c.args.home) T U (expr_of c.deref-in-Rec.result.now) (expr_of c.args.function.now) _ _ (draft_of c.args.self.now) _ _ (draft_of c.recursive.new.self) (draft_of c.put-in-Rec.new.self) _ c.in_ok-id-in-Rec.id.0
    (rec_is _ _ _ _ _ c.in-Rec.is c.deref-in-Rec.ensures)
    (ap (λ (K : List Typ). T ∷ TFun T U ∷ K) context_of-Empty)
    context_of-Empty refl refl refl c.in_ok-id-in-Rec.ensures.number c.in_ok-id-in-Rec.ensures.ok) c.put-in-Rec.ensures

pub term-returns-in_ok-id-in-Rec : goal.term-returns-in_ok-id-in-Rec
term-returns-in_ok-id-in-Rec t c =
    on_ok c.put-in-Rec.result (rec_written (home_of c.args.home) (context_of c.args.scope.now) (typ_of c.in-Rec.from) (typ_of c.in-Rec.to) (expr_of c.deref-in-Rec.result.now) (expr_of c.args.term.now) _ (draft_of c.args.self.now) _ _ (draft_of c.recursive.new.self) (draft_of c.put-in-Rec.new.self) _ c.in_ok-id-in-Rec.id.0
    (rec_is _ _ _ _ _ c.in-Rec.is c.deref-in-Rec.ensures)
    refl refl refl refl c.in_ok-id-in-Rec.ensures.number c.in_ok-id-in-Rec.ensures.ok) c.put-in-Rec.ensures

pub term-returns-in_ok-term-in-If-3 : goal.term-returns-in_ok-term-in-If-3
term-returns-in_ok-term-in-If-3 t c =
    if_written (home_of c.args.home) (context_of c.args.scope.now) (expr_of c.deref-in-If.result.now) (expr_of c.deref-in-If-2.result.now) (expr_of c.deref-in-If-3.result.now) (expr_of c.args.term.now) (draft_of c.args.self.now) (draft_of c.term-in-If.new.self) (draft_of c.hold.new.self) (draft_of c.term-in-If-2.new.self) (draft_of c.hold-in-If.new.self) (draft_of c.term-in-If-3.new.self) (draft_of c.set.new.self) (draft_of c.set-in-If.new.self)
    c.in_ok-to_second-in-If.to_second c.in_ok-to_end-in-If.to_end c.address-second.result c.address-end.result
    (if_is _ _ _ _ _ _ _ c.in-If.is c.deref-in-If.ensures c.deref-in-If-2.ensures c.deref-in-If-3.ensures)
    c.in_ok-term-in-If.ensures c.in_ok-to_second-in-If.ensures.address c.in_ok-to_second-in-If.ensures.ok c.in_ok-term-in-If-2.ensures c.in_ok-to_end-in-If.ensures.address c.in_ok-to_end-in-If.ensures.ok c.address-second.ensures c.in_ok-term-in-If-3.ensures c.address-end.ensures c.set.ensures c.set-in-If.ensures

pub term-returns-in_ok-put-in-Match : goal.term-returns-in_ok-put-in-Match
term-returns-in_ok-put-in-Match t c =
    match_written (home_of c.args.home) (context_of c.args.scope.now) (expr_of c.deref-in-Match.result.now) (expr_of c.args.term.now) (arms (map arm_of c.as_slice-in-Match.result.now)) (draft_of c.args.self.now) (draft_of c.term-in-Match.new.self) (draft_of c.arms.new.self) (draft_of c.put-in-Match.new.self) (draft_of c.land.new.self) c.as_slice-in-Match-2.result.now
    (match_is _ _ _ _ _ c.in-Match.is c.deref-in-Match.ensures c.as_slice-in-Match.ensures)
    c.in_ok-term-in-Match.ensures c.in_ok-ends-in-Match.ensures.ok (c.as_slice-in-Match-2.ensures.value ∙ c.in_ok-ends-in-Match.ensures.addresses) c.in_ok-put-in-Match.ensures c.land.ensures

pub term-returns-in_ok-put-in-Try-2 : goal.term-returns-in_ok-put-in-Try-2
term-returns-in_ok-put-in-Try-2 t c =
    try_written (home_of c.args.home) (context_of c.args.scope.now) (expr_of c.deref-in-Try.result.now) (expr_of c.args.term.now) (arms (map arm_of c.as_slice-in-Try.result.now)) (draft_of c.args.self.now) (draft_of c.hold-in-Try.new.self) (draft_of c.term-in-Try.new.self) (draft_of c.put-in-Try.new.self) (draft_of c.hold-in-Try-2.new.self) (draft_of c.arms-in-Try.new.self) (draft_of c.put-in-Try-2.new.self) (draft_of c.land-in-Try.new.self) (draft_of c.set-in-Try.new.self) (draft_of c.set-in-Try-2.new.self)
    c.in_ok-to_handler-in-Try.to_handler c.in_ok-to_end-in-Try.to_end c.address-handler.result c.address-end-in-Try.result c.as_slice-in-Try-2.result.now
    (try_is _ _ _ _ _ c.in-Try.is c.deref-in-Try.ensures c.as_slice-in-Try.ensures)
    c.in_ok-to_handler-in-Try.ensures.address c.in_ok-to_handler-in-Try.ensures.ok c.in_ok-term-in-Try.ensures c.in_ok-put-in-Try.ensures c.in_ok-to_end-in-Try.ensures.address c.in_ok-to_end-in-Try.ensures.ok c.address-handler.ensures
    c.in_ok-ends-in-Try.ensures.ok (c.as_slice-in-Try-2.ensures.value ∙ c.in_ok-ends-in-Try.ensures.addresses) c.in_ok-put-in-Try-2.ensures c.address-end-in-Try.ensures c.land-in-Try.ensures c.set-in-Try.ensures c.set-in-Try-2.ensures
