use Rattle.std.proofs.Common.{◌≡◌, ◌-◌, suc, List, map, ap, ◌∙◌, arith}
use Rattle.std.proofs.lemmas.Result.{err_from_is_err_and}
use Rattle.ac_types.specs.ReadNumbers.{texted_number}
use Rattle.ac_terms.specs.Terms.{Pattern, PTuple, PCons, PPresent, PExnOf, no_patterns, pattern', patterns}
use Rattle.ac_terms.specs.Read.{pattern_of}
use Rattle.ac_terms.specs.declared.pat.Pat.{Pat}
use Rattle.ac_decode.specs.inner.ExactTerms.{exact_pattern}
use Rattle.ac_terms.specs.PacketReading.{times}
use Rattle.ac_decode_pieces.proofs.Loops.{with_front, starts, goes_on, ends, all_read}
use Rattle.ac_decode.specs.inner.Follows.{pattern_follows}
use Rattle.ac_decode_pieces.proofs.Steps.{answered_by, refused_by, made, paired, refused_first, joined_read}
use Rattle.ac_decode.proofs.Cycles.{no_pattern_deeper, pattern_led, no_pattern_tag}
use Rattle.ac_decode.proofs.Ontos.{onto_patterns}
use Rattle.ac_decode.proofs.patterns.+patterns.Goals as goal

pub all_patterns-loop-init : goal.all_patterns-loop-init
all_patterns-loop-init g t c =
    ap (λ xs. with_front pattern' (map pattern_of xs) (times no_patterns pattern' (exact_pattern (g.T.Types.reads_type c.args.types.now) c.args.depth) (c.args.count - 0) c.args.cursor.now.left)) c.new-items.ensures
    ∙ starts no_patterns pattern' (exact_pattern (g.T.Types.reads_type c.args.types.now) c.args.depth) c.args.count c.args.cursor.now.left

pub all_patterns-returns-in_err-item : goal.all_patterns-returns-in_err-item
all_patterns-returns-in_err-item g t c =
    let p = err_from_is_err_and c.from_residual.result c.from_residual.ensures.1 in
    rw (p.1, p.2) (ends no_patterns pattern' (exact_pattern (g.T.Types.reads_type c.args.types.now) c.args.depth) c.in_err-item.field-0.0 (map pattern_of c.loop.items) c.args.count c.loop.counter c.loop.cursor.left _ c.loop-test.true c.in_err-item.ensures c.loop.invariant)

pub all_patterns-loop-preserved : goal.all_patterns-loop-preserved
all_patterns-loop-preserved g t c =
    goes_on no_patterns pattern' (exact_pattern (g.T.Types.reads_type c.args.types.now) c.args.depth) pattern_of c.loop.items _ c.in_ok-item.item c.args.count c.loop.counter c.loop.cursor.left _ _ c.loop-test.true c.in_ok-item.ensures c.in_ok-push.ensures.ok c.loop.invariant

pub all_patterns-returns : goal.all_patterns-returns
all_patterns-returns g t c =
    all_read no_patterns pattern' (exact_pattern (g.T.Types.reads_type c.args.types.now) c.args.depth) (map pattern_of c.loop.items) c.args.count c.loop.counter c.loop.cursor.left _ (patterns (map pattern_of c.loop.items)) c.loop-test.false c.loop.invariant (onto_patterns (map pattern_of c.loop.items))

pub take_pattern-returns-then-depth-eq0 : goal.take_pattern-returns-then-depth-eq0
take_pattern-returns-then-depth-eq0 g t c = no_pattern_deeper (g.T.Types.reads_type c.args.types.now) c.args.depth c.args.cursor.now.left c.if-depth-eq0.true

pub take_pattern-returns-in_err-tag : goal.take_pattern-returns-in_err-tag
take_pattern-returns-in_err-tag g t c =
    let p = err_from_is_err_and c.from_residual.result c.from_residual.ensures.1 in
    let e : c.args.depth ≡ suc (c.args.depth - 1) = omega arith in
    rw (p.1, p.2) (no_pattern_tag (g.T.Types.reads_type c.args.types.now) c.args.depth (c.args.depth - 1) c.args.cursor.now.left c.in_err-tag.field-0.0 e c.in_err-tag.ensures)

pub take_pattern-returns-in_err-head : goal.take_pattern-returns-in_err-head
take_pattern-returns-in_err-head g t c =
    let p = err_from_is_err_and c.from_residual-in_err-head.result c.from_residual-in_err-head.ensures.1 in
    let e : c.args.depth ≡ suc (c.args.depth - 1) = omega arith in
    let f = exact_pattern (g.T.Types.reads_type c.args.types.now) (c.args.depth - 1) in
    rw (p.1, p.2) (refused_by c.in_err-head.field-0.0 (pattern_led (g.T.Types.reads_type c.args.types.now) c.args.depth (c.args.depth - 1) c.args.cursor.now.left _ _ e c.in_ok-tag.ensures) (c.in_err-head.ensures f))

pub take_pattern-returns-in-Leaf : goal.take_pattern-returns-in-Leaf
take_pattern-returns-in-Leaf g t c =
    let e : c.args.depth ≡ suc (c.args.depth - 1) = omega arith in
    let f = exact_pattern (g.T.Types.reads_type c.args.types.now) (c.args.depth - 1) in
    pattern_led (g.T.Types.reads_type c.args.types.now) c.args.depth (c.args.depth - 1) c.args.cursor.now.left _ _ e c.in_ok-tag.ensures ∙ c.in_ok-head.ensures f ∙ ap (λ h. pattern_follows f h c.pattern_head.new.cursor.left) c.in-Leaf.is

pub take_pattern-returns-in-Tuple : goal.take_pattern-returns-in-Tuple
take_pattern-returns-in-Tuple g t c =
    let e : c.args.depth ≡ suc (c.args.depth - 1) = omega arith in
    let f = exact_pattern (g.T.Types.reads_type c.args.types.now) (c.args.depth - 1) in
    answered_by _ _ _ (pattern_led (g.T.Types.reads_type c.args.types.now) c.args.depth (c.args.depth - 1) c.args.cursor.now.left _ _ e c.in_ok-tag.ensures ∙ c.in_ok-head.ensures f ∙ ap (λ h. pattern_follows f h c.pattern_head.new.cursor.left) c.in-Tuple.is)
    (made (λ (ps : List Pat). patterns (map pattern_of ps)) pattern_of PTuple c.all_patterns.result c.pat_tuple.result _ _ c.all_patterns.ensures c.pat_tuple.ensures)

pub take_pattern-returns-in-Cons : goal.take_pattern-returns-in-Cons
take_pattern-returns-in-Cons g t c =
    let e : c.args.depth ≡ suc (c.args.depth - 1) = omega arith in
    let f = exact_pattern (g.T.Types.reads_type c.args.types.now) (c.args.depth - 1) in
    answered_by _ _ _ (pattern_led (g.T.Types.reads_type c.args.types.now) c.args.depth (c.args.depth - 1) c.args.cursor.now.left _ _ e c.in_ok-tag.ensures ∙ c.in_ok-head.ensures f ∙ ap (λ h. pattern_follows f h c.pattern_head.new.cursor.left) c.in-Cons.is ∙ paired PCons f f _)
    (made (λ (p : Pat × Pat). (pattern_of p.0, pattern_of p.1)) pattern_of (λ (p : Pattern × Pattern). PCons p.0 p.1) c.two_patterns.result c.pat_cons.result _ _ c.two_patterns.ensures c.pat_cons.ensures)

pub take_pattern-returns-in-Present : goal.take_pattern-returns-in-Present
take_pattern-returns-in-Present g t c =
    let e : c.args.depth ≡ suc (c.args.depth - 1) = omega arith in
    let f = exact_pattern (g.T.Types.reads_type c.args.types.now) (c.args.depth - 1) in
    answered_by _ _ _ (pattern_led (g.T.Types.reads_type c.args.types.now) c.args.depth (c.args.depth - 1) c.args.cursor.now.left _ _ e c.in_ok-tag.ensures ∙ c.in_ok-head.ensures f ∙ ap (λ h. pattern_follows f h c.pattern_head.new.cursor.left) c.in-Present.is)
    (made pattern_of pattern_of PPresent c.boxed_pattern.result c.pat_present.result _ _ c.boxed_pattern.ensures c.pat_present.ensures)

pub take_pattern-returns-in-Exn : goal.take_pattern-returns-in-Exn
take_pattern-returns-in-Exn g t c =
    let e : c.args.depth ≡ suc (c.args.depth - 1) = omega arith in
    let f = exact_pattern (g.T.Types.reads_type c.args.types.now) (c.args.depth - 1) in
    answered_by _ _ _ (pattern_led (g.T.Types.reads_type c.args.types.now) c.args.depth (c.args.depth - 1) c.args.cursor.now.left _ _ e c.in_ok-tag.ensures ∙ c.in_ok-head.ensures f ∙ ap (λ h. pattern_follows f h c.pattern_head.new.cursor.left) c.in-Exn.is)
    (made pattern_of pattern_of (PExnOf (texted_number c.in-Exn.exn)) c.boxed_pattern-in-Exn.result c.pat_exn.result _ _ c.boxed_pattern-in-Exn.ensures c.pat_exn.ensures)

pub two_patterns-returns-in_err-head : goal.two_patterns-returns-in_err-head
two_patterns-returns-in_err-head g t c =
    let p = err_from_is_err_and c.from_residual.result c.from_residual.ensures.1 in
    let f = exact_pattern (g.T.Types.reads_type c.args.types.now) c.args.depth in
    rw (p.1, p.2) (refused_first f f c.args.cursor.now.left c.in_err-head.field-0.0 c.in_err-head.ensures)

pub two_patterns-returns : goal.two_patterns-returns
two_patterns-returns g t c =
    let f = exact_pattern (g.T.Types.reads_type c.args.types.now) c.args.depth in
    joined_read pattern_of pattern_of f f c.args.cursor.now.left _ _ c.in_ok-head.head c.boxed_pattern-2.result c.joined.result c.in_ok-head.ensures c.boxed_pattern-2.ensures c.joined.ensures
