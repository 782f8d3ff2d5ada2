use Rattle.std.proofs.Common.{◌≡◌, ◌-◌, suc, List, true, map, ap, ◌∙◌, arith}
use Rattle.std.proofs.lemmas.Result.{err_from_is_err_and}
use Rattle.ac_terms.specs.Terms.{Expr, no_exprs, expr, exprs, Arms, no_arms, arms, If, Val, KTuple, KList, KPresent, KFun, no_pvalues, pvalue, pvalues}
use Rattle.ac_types.specs.ReadTypes.{typ_of}
use Rattle.ac_terms.specs.Bounds.{is_lambda}
use Rattle.ac_terms.specs.Read.{expr_of, arm_of, value_of, home_of}
use Rattle.ac_terms.specs.declared.term.Term.{Term}
use Rattle.ac_terms.specs.declared.term.Arm.{Arm}
use Rattle.ac_terms.specs.declared.term.PVal.{PVal}
use Rattle.ac_decode.specs.inner.ExactTerms.{an_arm, exact_cases, exact_pattern, exact_term, exact_value}
use Rattle.ac_terms.specs.PacketReading.{times, pair}
use Rattle.ac_decode_pieces.proofs.Loops.{with_front, starts, goes_on, ends, all_read}
use Rattle.ac_decode.specs.inner.Follows.{term_follows, value_follows, put_around, put_joint, put_row, put_cases}
use Rattle.ac_decode_pieces.proofs.Steps.{answered_by, refused_by, made, paired, tripled, refused_first, joined_read}
use Rattle.ac_decode.proofs.Cycles.{no_term_deeper, term_led, no_term_tag, no_value_deeper, value_led, no_value_tag, tested_read, tested_none}
use Rattle.ac_decode.proofs.Ontos.{onto_terms, onto_arms, onto_values}
use Rattle.ac_decode.proofs.terms.+terms.Goals as goal

pub all_terms-loop-init : goal.all_terms-loop-init
all_terms-loop-init g t c =
    ap (λ xs. with_front expr (map expr_of xs) (times no_exprs expr (exact_term (g.T.Types.reads_type c.args.types.now) c.args.within c.args.depth) (c.args.count - 0) c.args.cursor.now.left)) c.new-items.ensures
    ∙ starts no_exprs expr (exact_term (g.T.Types.reads_type c.args.types.now) c.args.within c.args.depth) c.args.count c.args.cursor.now.left

pub all_terms-returns-in_err-item : goal.all_terms-returns-in_err-item
all_terms-returns-in_err-item g t c =
    let p = err_from_is_err_and c.from_residual.result c.from_residual.ensures.1 in
    rw (p.1, p.2) (ends no_exprs expr (exact_term (g.T.Types.reads_type c.args.types.now) c.args.within c.args.depth) c.in_err-item.field-0.0 (map expr_of c.loop.items) c.args.count c.loop.counter c.loop.cursor.left _ c.loop-test.true c.in_err-item.ensures c.loop.invariant)

pub all_terms-loop-preserved : goal.all_terms-loop-preserved
all_terms-loop-preserved g t c =
    goes_on no_exprs expr (exact_term (g.T.Types.reads_type c.args.types.now) c.args.within c.args.depth) expr_of c.loop.items _ c.in_ok-item.item c.args.count c.loop.counter c.loop.cursor.left _ _ c.loop-test.true c.in_ok-item.ensures c.in_ok-push.ensures.ok c.loop.invariant

pub all_terms-returns : goal.all_terms-returns
all_terms-returns g t c =
    all_read no_exprs expr (exact_term (g.T.Types.reads_type c.args.types.now) c.args.within c.args.depth) (map expr_of c.loop.items) c.args.count c.loop.counter c.loop.cursor.left _ (exprs (map expr_of c.loop.items)) c.loop-test.false c.loop.invariant (onto_terms (map expr_of c.loop.items))

pub all_arms-loop-init : goal.all_arms-loop-init
all_arms-loop-init g t c =
    ap (λ xs. with_front an_arm (map arm_of xs) (times no_arms an_arm (pair (exact_pattern (g.T.Types.reads_type c.args.types.now) c.args.depth) (exact_term (g.T.Types.reads_type c.args.types.now) c.args.within c.args.depth)) (c.args.count - 0) c.args.cursor.now.left)) c.new-items.ensures
    ∙ starts no_arms an_arm (pair (exact_pattern (g.T.Types.reads_type c.args.types.now) c.args.depth) (exact_term (g.T.Types.reads_type c.args.types.now) c.args.within c.args.depth)) c.args.count c.args.cursor.now.left

pub all_arms-returns-in_err-item : goal.all_arms-returns-in_err-item
all_arms-returns-in_err-item g t c =
    let p = err_from_is_err_and c.from_residual.result c.from_residual.ensures.1 in
    rw (p.1, p.2) (ends no_arms an_arm (pair (exact_pattern (g.T.Types.reads_type c.args.types.now) c.args.depth) (exact_term (g.T.Types.reads_type c.args.types.now) c.args.within c.args.depth)) c.in_err-item.field-0.0 (map arm_of c.loop.items) c.args.count c.loop.counter c.loop.cursor.left _ c.loop-test.true c.in_err-item.ensures c.loop.invariant)

pub all_arms-loop-preserved : goal.all_arms-loop-preserved
all_arms-loop-preserved g t c =
    goes_on no_arms an_arm (pair (exact_pattern (g.T.Types.reads_type c.args.types.now) c.args.depth) (exact_term (g.T.Types.reads_type c.args.types.now) c.args.within c.args.depth)) arm_of c.loop.items _ c.in_ok-item.item c.args.count c.loop.counter c.loop.cursor.left _ _ c.loop-test.true c.in_ok-item.ensures c.in_ok-push.ensures.ok c.loop.invariant

pub all_arms-returns : goal.all_arms-returns
all_arms-returns g t c =
    all_read no_arms an_arm (pair (exact_pattern (g.T.Types.reads_type c.args.types.now) c.args.depth) (exact_term (g.T.Types.reads_type c.args.types.now) c.args.within c.args.depth)) (map arm_of c.loop.items) c.args.count c.loop.counter c.loop.cursor.left _ (arms (map arm_of c.loop.items)) c.loop-test.false c.loop.invariant (onto_arms (map arm_of c.loop.items))

pub all_values-loop-init : goal.all_values-loop-init
all_values-loop-init g t c =
    ap (λ xs. with_front pvalue (map value_of xs) (times no_pvalues pvalue (exact_value (g.T.Types.reads_type c.args.types.now) c.args.depth) (c.args.count - 0) c.args.cursor.now.left)) c.new-items.ensures
    ∙ starts no_pvalues pvalue (exact_value (g.T.Types.reads_type c.args.types.now) c.args.depth) c.args.count c.args.cursor.now.left

pub all_values-returns-in_err-item : goal.all_values-returns-in_err-item
all_values-returns-in_err-item g t c =
    let p = err_from_is_err_and c.from_residual.result c.from_residual.ensures.1 in
    rw (p.1, p.2) (ends no_pvalues pvalue (exact_value (g.T.Types.reads_type c.args.types.now) c.args.depth) c.in_err-item.field-0.0 (map value_of c.loop.items) c.args.count c.loop.counter c.loop.cursor.left _ c.loop-test.true c.in_err-item.ensures c.loop.invariant)

pub all_values-loop-preserved : goal.all_values-loop-preserved
all_values-loop-preserved g t c =
    goes_on no_pvalues pvalue (exact_value (g.T.Types.reads_type c.args.types.now) c.args.depth) value_of c.loop.items _ c.in_ok-item.item c.args.count c.loop.counter c.loop.cursor.left _ _ c.loop-test.true c.in_ok-item.ensures c.in_ok-push.ensures.ok c.loop.invariant

pub all_values-returns : goal.all_values-returns
all_values-returns g t c =
    all_read no_pvalues pvalue (exact_value (g.T.Types.reads_type c.args.types.now) c.args.depth) (map value_of c.loop.items) c.args.count c.loop.counter c.loop.cursor.left _ (pvalues (map value_of c.loop.items)) c.loop-test.false c.loop.invariant (onto_values (map value_of c.loop.items))

pub take_term-returns-then-depth-eq0 : goal.take_term-returns-then-depth-eq0
take_term-returns-then-depth-eq0 g t c = no_term_deeper (g.T.Types.reads_type c.args.types.now) c.args.within c.args.depth c.args.cursor.now.left c.if-depth-eq0.true

pub take_term-returns-in_err-tag : goal.take_term-returns-in_err-tag
take_term-returns-in_err-tag g t c =
    let p = err_from_is_err_and c.from_residual.result c.from_residual.ensures.1 in
    let e : c.args.depth ≡ suc (c.args.depth - 1) = omega arith in
    rw (p.1, p.2) (no_term_tag (g.T.Types.reads_type c.args.types.now) c.args.within c.args.depth (c.args.depth - 1) c.args.cursor.now.left c.in_err-tag.field-0.0 e c.in_err-tag.ensures)

pub take_term-returns-in_err-head : goal.take_term-returns-in_err-head
take_term-returns-in_err-head g t c =
    let q = err_from_is_err_and c.from_residual-in_err-head.result c.from_residual-in_err-head.ensures.1 in
    let e : c.args.depth ≡ suc (c.args.depth - 1) = omega arith in
    let p = exact_pattern (g.T.Types.reads_type c.args.types.now) (c.args.depth - 1) in
    let f = exact_term (g.T.Types.reads_type c.args.types.now) c.args.within (c.args.depth - 1) in
    let v = exact_value (g.T.Types.reads_type c.args.types.now) (c.args.depth - 1) in
    rw (q.1, q.2) (refused_by c.in_err-head.field-0.0 (term_led (g.T.Types.reads_type c.args.types.now) c.args.within c.args.depth (c.args.depth - 1) c.args.cursor.now.left _ _ e c.in_ok-tag.ensures) (c.in_err-head.ensures p f v))

pub take_term-returns-in-Leaf : goal.take_term-returns-in-Leaf
take_term-returns-in-Leaf g t c =
    let e : c.args.depth ≡ suc (c.args.depth - 1) = omega arith in
    let p = exact_pattern (g.T.Types.reads_type c.args.types.now) (c.args.depth - 1) in
    let f = exact_term (g.T.Types.reads_type c.args.types.now) c.args.within (c.args.depth - 1) in
    let v = exact_value (g.T.Types.reads_type c.args.types.now) (c.args.depth - 1) in
    term_led (g.T.Types.reads_type c.args.types.now) c.args.within c.args.depth (c.args.depth - 1) c.args.cursor.now.left _ _ e c.in_ok-tag.ensures ∙ c.in_ok-head.ensures p f v ∙ ap (λ h. term_follows p f v h c.term_head.new.cursor.left) c.in-Leaf.is

pub take_term-returns-in-Around : goal.take_term-returns-in-Around
take_term-returns-in-Around g t c =
    let e : c.args.depth ≡ suc (c.args.depth - 1) = omega arith in
    let p = exact_pattern (g.T.Types.reads_type c.args.types.now) (c.args.depth - 1) in
    let f = exact_term (g.T.Types.reads_type c.args.types.now) c.args.within (c.args.depth - 1) in
    let v = exact_value (g.T.Types.reads_type c.args.types.now) (c.args.depth - 1) in
    answered_by _ _ _ (term_led (g.T.Types.reads_type c.args.types.now) c.args.within c.args.depth (c.args.depth - 1) c.args.cursor.now.left _ _ e c.in_ok-tag.ensures ∙ c.in_ok-head.ensures p f v ∙ ap (λ h. term_follows p f v h c.term_head.new.cursor.left) c.in-Around.is)
    (made expr_of expr_of (put_around c.in-Around.kind) c.boxed_term.result c.around.result _ _ c.boxed_term.ensures c.around.ensures)

pub take_term-returns-in-Joint : goal.take_term-returns-in-Joint
take_term-returns-in-Joint g t c =
    let e : c.args.depth ≡ suc (c.args.depth - 1) = omega arith in
    let p = exact_pattern (g.T.Types.reads_type c.args.types.now) (c.args.depth - 1) in
    let f = exact_term (g.T.Types.reads_type c.args.types.now) c.args.within (c.args.depth - 1) in
    let v = exact_value (g.T.Types.reads_type c.args.types.now) (c.args.depth - 1) in
    answered_by _ _ _ (term_led (g.T.Types.reads_type c.args.types.now) c.args.within c.args.depth (c.args.depth - 1) c.args.cursor.now.left _ _ e c.in_ok-tag.ensures ∙ c.in_ok-head.ensures p f v ∙ ap (λ h. term_follows p f v h c.term_head.new.cursor.left) c.in-Joint.is ∙ paired (put_joint c.in-Joint.kind) f f _)
    (made (λ (q : Term × Term). (expr_of q.0, expr_of q.1)) expr_of (λ (q : Expr × Expr). put_joint c.in-Joint.kind q.0 q.1) c.two_terms.result c.joint.result _ _ c.two_terms.ensures c.joint.ensures)

pub take_term-returns-in-Choice : goal.take_term-returns-in-Choice
take_term-returns-in-Choice g t c =
    let e : c.args.depth ≡ suc (c.args.depth - 1) = omega arith in
    let p = exact_pattern (g.T.Types.reads_type c.args.types.now) (c.args.depth - 1) in
    let f = exact_term (g.T.Types.reads_type c.args.types.now) c.args.within (c.args.depth - 1) in
    let v = exact_value (g.T.Types.reads_type c.args.types.now) (c.args.depth - 1) in
    answered_by _ _ _ (term_led (g.T.Types.reads_type c.args.types.now) c.args.within c.args.depth (c.args.depth - 1) c.args.cursor.now.left _ _ e c.in_ok-tag.ensures ∙ c.in_ok-head.ensures p f v ∙ ap (λ h. term_follows p f v h c.term_head.new.cursor.left) c.in-Choice.is ∙ tripled If f f f _)
    (made (λ (q : Term × (Term × Term)). (expr_of q.0, (expr_of q.1.0, expr_of q.1.1))) expr_of (λ (q : Expr × (Expr × Expr)). If q.0 q.1.0 q.1.1) c.three_terms.result c.choice.result _ _ c.three_terms.ensures c.choice.ensures)

pub take_term-returns-in-Row : goal.take_term-returns-in-Row
take_term-returns-in-Row g t c =
    let e : c.args.depth ≡ suc (c.args.depth - 1) = omega arith in
    let p = exact_pattern (g.T.Types.reads_type c.args.types.now) (c.args.depth - 1) in
    let f = exact_term (g.T.Types.reads_type c.args.types.now) c.args.within (c.args.depth - 1) in
    let v = exact_value (g.T.Types.reads_type c.args.types.now) (c.args.depth - 1) in
    answered_by _ _ _ (term_led (g.T.Types.reads_type c.args.types.now) c.args.within c.args.depth (c.args.depth - 1) c.args.cursor.now.left _ _ e c.in_ok-tag.ensures ∙ c.in_ok-head.ensures p f v ∙ ap (λ h. term_follows p f v h c.term_head.new.cursor.left) c.in-Row.is)
    (made (λ (ts : List Term). exprs (map expr_of ts)) expr_of (put_row c.in-Row.kind) c.all_terms.result c.row.result _ _ c.all_terms.ensures c.row.ensures)

pub take_term-returns-in-Cases : goal.take_term-returns-in-Cases
take_term-returns-in-Cases g t c =
    let e : c.args.depth ≡ suc (c.args.depth - 1) = omega arith in
    let p = exact_pattern (g.T.Types.reads_type c.args.types.now) (c.args.depth - 1) in
    let f = exact_term (g.T.Types.reads_type c.args.types.now) c.args.within (c.args.depth - 1) in
    let v = exact_value (g.T.Types.reads_type c.args.types.now) (c.args.depth - 1) in
    answered_by _ _ _ (term_led (g.T.Types.reads_type c.args.types.now) c.args.within c.args.depth (c.args.depth - 1) c.args.cursor.now.left _ _ e c.in_ok-tag.ensures ∙ c.in_ok-head.ensures p f v ∙ ap (λ h. term_follows p f v h c.term_head.new.cursor.left) c.in-Cases.is ∙ paired (put_cases c.in-Cases.kind) f (exact_cases p f) _)
    (made (λ (q : Term × List Arm). (expr_of q.0, arms (map arm_of q.1))) expr_of (λ (q : Expr × Arms). put_cases c.in-Cases.kind q.0 q.1) c.with_arms.result c.cases.result _ _ c.with_arms.ensures c.cases.ensures)

pub take_term-returns-in-Captured : goal.take_term-returns-in-Captured
take_term-returns-in-Captured g t c =
    let e : c.args.depth ≡ suc (c.args.depth - 1) = omega arith in
    let p = exact_pattern (g.T.Types.reads_type c.args.types.now) (c.args.depth - 1) in
    let f = exact_term (g.T.Types.reads_type c.args.types.now) c.args.within (c.args.depth - 1) in
    let v = exact_value (g.T.Types.reads_type c.args.types.now) (c.args.depth - 1) in
    answered_by _ _ _ (term_led (g.T.Types.reads_type c.args.types.now) c.args.within c.args.depth (c.args.depth - 1) c.args.cursor.now.left _ _ e c.in_ok-tag.ensures ∙ c.in_ok-head.ensures p f v ∙ ap (λ h. term_follows p f v h c.term_head.new.cursor.left) c.in-Captured.is)
    (made value_of expr_of (Val (typ_of c.in-Captured.ty)) c.value.result c.captured.result _ _ c.value.ensures c.captured.ensures)

pub two_terms-returns-in_err-first : goal.two_terms-returns-in_err-first
two_terms-returns-in_err-first g t c =
    let q = err_from_is_err_and c.from_residual.result c.from_residual.ensures.1 in
    let p = exact_pattern (g.T.Types.reads_type c.args.types.now) c.args.depth in
    let f = exact_term (g.T.Types.reads_type c.args.types.now) c.args.within c.args.depth in
    rw (q.1, q.2) (refused_first f f c.args.cursor.now.left c.in_err-first.field-0.0 c.in_err-first.ensures)

pub two_terms-returns : goal.two_terms-returns
two_terms-returns g t c =
    let p = exact_pattern (g.T.Types.reads_type c.args.types.now) c.args.depth in
    let f = exact_term (g.T.Types.reads_type c.args.types.now) c.args.within c.args.depth in
    joined_read expr_of expr_of f f c.args.cursor.now.left _ _ c.in_ok-first.first c.boxed_term-2.result c.joined.result c.in_ok-first.ensures c.boxed_term-2.ensures c.joined.ensures

pub three_terms-returns-in_err-first : goal.three_terms-returns-in_err-first
three_terms-returns-in_err-first g t c =
    let q = err_from_is_err_and c.from_residual.result c.from_residual.ensures.1 in
    let p = exact_pattern (g.T.Types.reads_type c.args.types.now) c.args.depth in
    let f = exact_term (g.T.Types.reads_type c.args.types.now) c.args.within c.args.depth in
    rw (q.1, q.2) (refused_first f (pair f f) c.args.cursor.now.left c.in_err-first.field-0.0 c.in_err-first.ensures)

pub three_terms-returns : goal.three_terms-returns
three_terms-returns g t c =
    let p = exact_pattern (g.T.Types.reads_type c.args.types.now) c.args.depth in
    let f = exact_term (g.T.Types.reads_type c.args.types.now) c.args.within c.args.depth in
    joined_read expr_of (λ (q : Term × Term). (expr_of q.0, expr_of q.1)) f (pair f f) c.args.cursor.now.left _ _ c.in_ok-first.first c.two_terms.result c.joined.result c.in_ok-first.ensures c.two_terms.ensures c.joined.ensures

pub with_arms-returns-in_err-of : goal.with_arms-returns-in_err-of
with_arms-returns-in_err-of g t c =
    let q = err_from_is_err_and c.from_residual.result c.from_residual.ensures.1 in
    let p = exact_pattern (g.T.Types.reads_type c.args.types.now) c.args.depth in
    let f = exact_term (g.T.Types.reads_type c.args.types.now) c.args.within c.args.depth in
    rw (q.1, q.2) (refused_first f (exact_cases p f) c.args.cursor.now.left c.in_err-of.field-0.0 c.in_err-of.ensures)

pub with_arms-returns : goal.with_arms-returns
with_arms-returns g t c =
    let p = exact_pattern (g.T.Types.reads_type c.args.types.now) c.args.depth in
    let f = exact_term (g.T.Types.reads_type c.args.types.now) c.args.within c.args.depth in
    joined_read expr_of (λ (cs : List Arm). arms (map arm_of cs)) f (exact_cases p f) c.args.cursor.now.left _ _ c.in_ok-of.of c.counted_arms.result c.joined.result c.in_ok-of.ensures c.counted_arms.ensures c.joined.ensures

pub value-returns-then-depth-eq0 : goal.value-returns-then-depth-eq0
value-returns-then-depth-eq0 g t c = no_value_deeper (g.T.Types.reads_type c.args.types.now) c.args.depth c.args.cursor.now.left c.if-depth-eq0.true

pub value-returns-in_err-tag : goal.value-returns-in_err-tag
value-returns-in_err-tag g t c =
    let p = err_from_is_err_and c.from_residual.result c.from_residual.ensures.1 in
    let e : c.args.depth ≡ suc (c.args.depth - 1) = omega arith in
    rw (p.1, p.2) (no_value_tag (g.T.Types.reads_type c.args.types.now) c.args.depth (c.args.depth - 1) c.args.cursor.now.left c.in_err-tag.field-0.0 e c.in_err-tag.ensures)

pub value-returns-in_err-head : goal.value-returns-in_err-head
value-returns-in_err-head g t c =
    let q = err_from_is_err_and c.from_residual-in_err-head.result c.from_residual-in_err-head.ensures.1 in
    let e : c.args.depth ≡ suc (c.args.depth - 1) = omega arith in
    let f = exact_term (g.T.Types.reads_type c.args.types.now) true (c.args.depth - 1) in
    let v = exact_value (g.T.Types.reads_type c.args.types.now) (c.args.depth - 1) in
    rw (q.1, q.2) (refused_by c.in_err-head.field-0.0 (value_led (g.T.Types.reads_type c.args.types.now) c.args.depth (c.args.depth - 1) c.args.cursor.now.left _ _ e c.in_ok-tag.ensures) (c.in_err-head.ensures f v))

pub value-returns-in-Leaf : goal.value-returns-in-Leaf
value-returns-in-Leaf g t c =
    let e : c.args.depth ≡ suc (c.args.depth - 1) = omega arith in
    let f = exact_term (g.T.Types.reads_type c.args.types.now) true (c.args.depth - 1) in
    let v = exact_value (g.T.Types.reads_type c.args.types.now) (c.args.depth - 1) in
    value_led (g.T.Types.reads_type c.args.types.now) c.args.depth (c.args.depth - 1) c.args.cursor.now.left _ _ e c.in_ok-tag.ensures ∙ c.in_ok-head.ensures f v ∙ ap (λ h. value_follows f v h c.value_head.new.cursor.left) c.in-Leaf.is

pub value-returns-in-Tuple : goal.value-returns-in-Tuple
value-returns-in-Tuple g t c =
    let e : c.args.depth ≡ suc (c.args.depth - 1) = omega arith in
    let f = exact_term (g.T.Types.reads_type c.args.types.now) true (c.args.depth - 1) in
    let v = exact_value (g.T.Types.reads_type c.args.types.now) (c.args.depth - 1) in
    answered_by _ _ _ (value_led (g.T.Types.reads_type c.args.types.now) c.args.depth (c.args.depth - 1) c.args.cursor.now.left _ _ e c.in_ok-tag.ensures ∙ c.in_ok-head.ensures f v ∙ ap (λ h. value_follows f v h c.value_head.new.cursor.left) c.in-Tuple.is)
    (made (λ (vs : List PVal). pvalues (map value_of vs)) value_of KTuple c.all_values.result c.value_tuple.result _ _ c.all_values.ensures c.value_tuple.ensures)

pub value-returns-in-List : goal.value-returns-in-List
value-returns-in-List g t c =
    let e : c.args.depth ≡ suc (c.args.depth - 1) = omega arith in
    let f = exact_term (g.T.Types.reads_type c.args.types.now) true (c.args.depth - 1) in
    let v = exact_value (g.T.Types.reads_type c.args.types.now) (c.args.depth - 1) in
    answered_by _ _ _ (value_led (g.T.Types.reads_type c.args.types.now) c.args.depth (c.args.depth - 1) c.args.cursor.now.left _ _ e c.in_ok-tag.ensures ∙ c.in_ok-head.ensures f v ∙ ap (λ h. value_follows f v h c.value_head.new.cursor.left) c.in-List.is)
    (made (λ (vs : List PVal). pvalues (map value_of vs)) value_of KList c.all_values-in-List.result c.value_list.result _ _ c.all_values-in-List.ensures c.value_list.ensures)

pub value-returns-in-Present : goal.value-returns-in-Present
value-returns-in-Present g t c =
    let e : c.args.depth ≡ suc (c.args.depth - 1) = omega arith in
    let f = exact_term (g.T.Types.reads_type c.args.types.now) true (c.args.depth - 1) in
    let v = exact_value (g.T.Types.reads_type c.args.types.now) (c.args.depth - 1) in
    answered_by _ _ _ (value_led (g.T.Types.reads_type c.args.types.now) c.args.depth (c.args.depth - 1) c.args.cursor.now.left _ _ e c.in_ok-tag.ensures ∙ c.in_ok-head.ensures f v ∙ ap (λ h. value_follows f v h c.value_head.new.cursor.left) c.in-Present.is)
    (made value_of value_of KPresent c.boxed_value.result c.value_present.result _ _ c.boxed_value.ensures c.value_present.ensures)

pub value-returns-in-Fun : goal.value-returns-in-Fun
value-returns-in-Fun g t c =
    let e : c.args.depth ≡ suc (c.args.depth - 1) = omega arith in
    let f = exact_term (g.T.Types.reads_type c.args.types.now) true (c.args.depth - 1) in
    let v = exact_value (g.T.Types.reads_type c.args.types.now) (c.args.depth - 1) in
    answered_by _ _ _ (value_led (g.T.Types.reads_type c.args.types.now) c.args.depth (c.args.depth - 1) c.args.cursor.now.left _ _ e c.in_ok-tag.ensures ∙ c.in_ok-head.ensures f v ∙ ap (λ h. value_follows f v h c.value_head.new.cursor.left) c.in-Fun.is)
    (made expr_of value_of (KFun (home_of c.in-Fun.home)) c.function.result c.value_function.result _ _ c.function.ensures c.value_function.ensures)

pub function-returns-in_err-term : goal.function-returns-in_err-term
function-returns-in_err-term g t c =
    let q = err_from_is_err_and c.from_residual.result c.from_residual.ensures.1 in
    rw (q.1, q.2) (tested_none is_lambda (exact_term (g.T.Types.reads_type c.args.types.now) true c.args.depth) c.args.cursor.now.left c.in_err-term.field-0.0 c.in_err-term.ensures)

pub function-returns : goal.function-returns
function-returns g t c =
    answered_by _ _ _ (tested_read is_lambda (exact_term (g.T.Types.reads_type c.args.types.now) true c.args.depth) c.args.cursor.now.left _ _ c.in_ok-term.ensures) (c.lambda.ensures c.take_term.new.cursor.left)
