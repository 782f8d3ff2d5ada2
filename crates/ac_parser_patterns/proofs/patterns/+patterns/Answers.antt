use Rattle.std.proofs.Common.{◌≡◌, ◌<◌, ◌≤◌, ◌-◌, ℕ, List, [], ◌∷◌, map, sym, ap, subst, ◌∙◌, arith}
use Rattle.std.proofs.lemmas.List.{map-append}
use Rattle.std.proofs.lemmas.Result.{err_from_is_err_and}
use Rattle.ac_syntax.specs.Signs.{Sign, Fixed}
use Rattle.ac_syntax.specs.Trees.{PatTree, PatCons, PatTuple, pat_trees, pat_height, highest_pat}
use Rattle.ac_syntax.specs.Patterns.{Pattern, Prefixed, Single, IsPatTree}
use Rattle.ac_syntax.specs.ReadSigns.{read_signs}
use Rattle.ac_syntax.specs.ReadTrees.{pat_of}
use Rattle.ac_syntax.specs.PartParsing.{SymbolAt}
use Rattle.ac_syntax.proofs.OnStop.{on_syntax_more, refused}
use Rattle.ac_syntax.specs.declared.sign.Symbol.TheVariants.{Open, Comma, Close}
use Rattle.ac_parser_patterns.specs.Pieces.{Before, Past}
use Rattle.ac_parser_patterns.specs.PatternPieces.{NoPat, PatTupleOf, PatVarAt}
use Rattle.ac_parser_patterns.proofs.Readers.{word_at, second_read}
use Rattle.ac_parser_patterns.proofs.Passed.{pat_more, made_pat}
use Rattle.ac_parser_patterns.proofs.PatLaws.{pat_of-Unit}
use Rattle.ac_parser_patterns.proofs.PatSteps.{flat_pat, pat_alone, pat_none, pat_cons, cons_none, cons_high, prefixed_tree, prefixed_none, single_tree, single_none, unit_pat, var_pat, var_none, opened_none, unclosed_none, tuple_high, tuple_none, tuple_tree, parens_tree, leaf_tree, leaf_none, tuple_of, second_none, part_none, part_read, unended_none, highest_next}
use Rattle.ac_parser_patterns.proofs.patterns.+patterns.Goals as goal

pub whole-returns-in_err-head : goal.whole-returns-in_err-head
whole-returns-in_err-head t c =
    let p = err_from_is_err_and c.from_residual.result c.from_residual.ensures.1 in
    rw (p.1, p.2) (on_syntax_more _ (pat_none _ _) c.in_err-head.ensures)

pub whole-returns-in_default : goal.whole-returns-in_default
whole-returns-in_default t c = record { tree = pat_alone _ _ _ _ c.in_ok-head.ensures.tree c.in_default.ensures.found; height = c.in_ok-head.ensures.height; shorter = c.in_ok-head.ensures.shorter }

pub whole-returns-then-head-depth : goal.whole-returns-then-head-depth
whole-returns-then-head-depth t c =
    refused _ _ c.refused_at.ensures (cons_high _ _ _ _ _ c.in_ok-head.ensures.tree c.in-Some.ensures.found (subst (λ (n : ℕ). c.args.depth ≤ n) c.in_ok-head.ensures.height c.if-head-depth.true))

pub whole-returns-in_err-tail : goal.whole-returns-in_err-tail
whole-returns-in_err-tail t c =
    let p = err_from_is_err_and c.from_residual-in_err-tail.result c.from_residual-in_err-tail.ensures.1 in
    rw (p.1, p.2) (on_syntax_more _ (cons_none _ _ _ _ _ c.in_ok-head.ensures.tree c.in-Some.ensures.found) c.in_err-tail.ensures)

pub whole-returns : goal.whole-returns
whole-returns t c =
    let low : pat_height (pat_of c.in_ok-head.head.tree) < c.args.depth = omega (arith, c.in_ok-head.ensures.height, c.if-head-depth.false) in
    made_pat (IsPatTree c.args.depth Pattern) c.args.signs.now c.in_ok-tail.end.now _ _ c.cons.result c.cons.ensures (omega (arith, c.in_ok-head.ensures.shorter, c.in-Some.ensures.shorter, c.in_ok-tail.ensures.shorter))
    (subst (λ (at : ℕ). IsPatTree c.args.depth Pattern (read_signs c.args.signs.now) (PatCons at (pat_of c.in_ok-head.head.tree) (pat_of c.in_ok-tail.tail.tree)) (read_signs c.in_ok-tail.end.now)) (sym c.here.ensures)
    (pat_cons _ _ _ _ _ c.in_ok-head.ensures.tree c.in-Some.ensures.found _ _ c.in_ok-tail.ensures.tree low))

pub prefixed-returns-in_default : goal.prefixed-returns-in_default
prefixed-returns-in_default t c =
    pat_more (IsPatTree c.args.depth Single) (IsPatTree c.args.depth Prefixed) c.args.signs.now c.args.signs.now c.single.result c.single.ensures (omega arith) (λ p s o. single_tree _ _ _ _ o) (single_none _ _ c.in_default.ensures)

pub prefixed-returns-then-depth-eq0 : goal.prefixed-returns-then-depth-eq0
prefixed-returns-then-depth-eq0 t c = refused _ _ c.refused_at.ensures (flat_pat _ _ _ c.if-depth-eq0.true)

pub prefixed-returns-in_err-item : goal.prefixed-returns-in_err-item
prefixed-returns-in_err-item t c =
    let pos : 0 < c.args.depth = omega (arith, c.if-depth-eq0.false) in
    let p = err_from_is_err_and c.from_residual.result c.from_residual.ensures.1 in
    rw (p.1, p.2) (on_syntax_more _ (prefixed_none _ _ _ _ _ c.in-Some.ensures.found pos) c.in_err-item.ensures)

pub prefixed-returns : goal.prefixed-returns
prefixed-returns t c =
    let pos : 0 < c.args.depth = omega (arith, c.if-depth-eq0.false) in
    made_pat (IsPatTree c.args.depth Prefixed) c.args.signs.now c.in_ok-item.rest.now _ _ c.prefixed_by.result c.prefixed_by.ensures (omega (arith, c.in-Some.ensures.shorter, c.in_ok-item.ensures.shorter)) (prefixed_tree _ _ _ _ _ c.in-Some.ensures.found pos _ _ c.in_ok-item.ensures.tree)

pub single-returns-then-depth-eq0 : goal.single-returns-then-depth-eq0
single-returns-then-depth-eq0 t c = refused _ _ c.refused_at.ensures (flat_pat _ _ _ c.if-depth-eq0.true)

pub single-returns-in-Some : goal.single-returns-in-Some
single-returns-in-Some t c =
    let is = sym (word_at c.in-Some.ensures.found c.here.ensures) in
    pat_more (Past (Fixed c.here.result Open) (IsPatTree c.args.depth Single)) (IsPatTree c.args.depth Single) c.in-Some.inner.now c.args.signs.now c.opened.result c.opened.ensures (omega (arith, c.in-Some.ensures.shorter))
    (λ p s o. subst (λ (l : List Sign). IsPatTree c.args.depth Single l p s) is o) (λ n. subst (λ (l : List Sign). NoPat c.args.depth Single l) is n)

pub single-returns-in_err-tree : goal.single-returns-in_err-tree
single-returns-in_err-tree t c =
    let p = err_from_is_err_and c.from_residual.result c.from_residual.ensures.1 in
    rw (p.1, p.2) (on_syntax_more _ (λ f. leaf_none _ _ (f c.in_default.ensures.found)) c.in_err-tree.ensures)

pub single-returns : goal.single-returns
single-returns t c =
    let pos : 0 < c.args.depth = omega (arith, c.if-depth-eq0.false) in
    record { tree = leaf_tree _ _ _ _ pos c.in_ok-tree.ensures.found; height = sym c.in_ok-tree.ensures.found.leaf; shorter = c.in_ok-tree.ensures.shorter }

pub tuple-returns-in_err-second : goal.tuple-returns-in_err-second
tuple-returns-in_err-second t c =
    let p = err_from_is_err_and c.from_residual.result c.from_residual.ensures.1 in
    rw (p.1, p.2) (on_syntax_more _ (second_none _ _) c.in_err-second.ensures)

pub tuple-returns-in_err-part : goal.tuple-returns-in_err-part
tuple-returns-in_err-part t c =
    let p = err_from_is_err_and c.from_residual-in_err-part.result c.from_residual-in_err-part.ensures.1 in
    rw (p.1, p.2) (on_syntax_more _ (part_none _ _ _ _ _ c.loop-behind.invariant.read _ c.in-Some.ensures.found) c.in_err-part.ensures)

pub tuple-loop-behind-init : goal.tuple-loop-behind-init
tuple-loop-behind-init t c =
    let h = c.in_ok-second.ensures in
    let parts = ap (map pat_of) c.in_ok-parts.ensures in
    let low : pat_height (pat_of c.in_ok-second.second.tree) ≤ c.args.depth - 1 = h.tree.low in
    record {
      read = second_read (Before Comma (IsPatTree (c.args.depth - 1) Pattern)) (Before Close (IsPatTree (c.args.depth - 1) Pattern)) h.tree parts;
      height = omega (arith, c.max-height.ensures, c.requires.first, h.height, ap (λ (l : List PatTree). highest_pat (pat_trees l)) parts);
      low = omega (arith, c.max-height.ensures, c.requires.low, low, h.height);
      shorter = h.shorter;
    }

pub tuple-loop-behind-preserved : goal.tuple-loop-behind-preserved
tuple-loop-behind-preserved t c =
    let parts = ap (map pat_of) c.in_ok-parts-2.ensures ∙ map-append pat_of c.loop-behind.parts (c.in_ok-part.part.tree ∷ []) in
    let low : pat_height (pat_of c.in_ok-part.part.tree) ≤ c.args.depth - 1 = c.in_ok-part.ensures.tree.low in
    record {
      read = part_read _ _ _ _ _ c.loop-behind.invariant.read _ c.in-Some.ensures.found _ _ _ c.in_ok-part.ensures.tree parts;
      height = highest_next (map pat_of c.loop-behind.parts) (pat_of c.in_ok-part.part.tree) _ _ _ _ parts c.loop-behind.invariant.height c.in_ok-part.ensures.height c.max-height-in-Some.ensures;
      low = omega (arith, c.max-height-in-Some.ensures, c.loop-behind.invariant.low, low, c.in_ok-part.ensures.height);
      shorter = omega (arith, c.loop-behind.invariant.shorter, c.in-Some.ensures.shorter, c.in_ok-part.ensures.shorter);
    }

pub tuple-returns : goal.tuple-returns
tuple-returns t c =
    pat_more (λ l p s. (p ≡ PatTuple c.args.at (pat_trees (map pat_of c.loop-behind.parts))) × SymbolAt Close l s) (PatTupleOf (c.args.depth - 1) c.args.at (pat_of c.args.first.tree)) _ c.args.signs.now c.closed.result c.closed.ensures (omega (arith, c.loop-behind.invariant.shorter))
    (λ p s o. tuple_of _ _ _ _ _ c.loop-behind.invariant.read _ _ _ o.1 o.0) (unended_none _ _ _ _ _ c.loop-behind.invariant.read c.in_default.ensures.found)

pub opened-returns-in-Some : goal.opened-returns-in-Some
opened-returns-in-Some t c = record {
  tree = unit_pat _ _ _ _ _ c.requires c.in-Some.ensures.found (pat_of-Unit c.args.at);
  height = sym (ap pat_height (pat_of-Unit c.args.at));
  shorter = c.in-Some.ensures.shorter;
}

pub opened-returns-then-begins_name : goal.opened-returns-then-begins_name
opened-returns-then-begins_name t c =
    pat_more (PatVarAt c.args.at) (Past (Fixed c.args.at Open) (IsPatTree c.args.depth Single)) c.args.signs.now c.args.signs.now c.variable.result c.variable.ensures (omega arith)
    (λ p s o. var_pat _ _ _ _ _ _ c.requires o.read o.is) (λ n. var_none _ _ _ n (sym c.begins_name.ensures ∙ c.if-begins_name.true))

pub enclosed-returns-in_err-first : goal.enclosed-returns-in_err-first
enclosed-returns-in_err-first t c =
    let p = err_from_is_err_and c.from_residual.result c.from_residual.ensures.1 in
    rw (p.1, p.2) (on_syntax_more _ (opened_none _ _ _ c.requires.unclosed c.requires.no_name) c.in_err-first.ensures)

pub enclosed-returns-in-Some : goal.enclosed-returns-in-Some
enclosed-returns-in-Some t c = record {
  tree = parens_tree _ _ _ c.requires.unclosed c.requires.no_name _ _ c.in_ok-first.ensures.tree _ c.in-Some.ensures.found;
  height = c.in_ok-first.ensures.height;
  shorter = omega (arith, c.in_ok-first.ensures.shorter, c.in-Some.ensures.shorter);
}

pub enclosed-returns-in_err-behind : goal.enclosed-returns-in_err-behind
enclosed-returns-in_err-behind t c =
    let p = err_from_is_err_and c.from_residual-in_err-behind.result c.from_residual-in_err-behind.ensures.1 in
    rw (p.1, p.2) (on_syntax_more _ (unclosed_none _ _ _ c.requires.unclosed c.requires.no_name _ _ c.in_ok-first.ensures.tree c.in_default.ensures.found) c.in_err-behind.ensures)

pub enclosed-returns-then-first-depth : goal.enclosed-returns-then-first-depth
enclosed-returns-then-first-depth t c =
    refused _ _ c.refused_at.ensures (tuple_high _ _ _ c.requires.unclosed c.requires.no_name _ _ c.in_ok-first.ensures.tree _ c.in_default.ensures.found c.in_ok-behind.ensures.found (subst (λ (n : ℕ). c.args.depth ≤ n) c.in_ok-first.ensures.height c.if-first-depth.true))

pub enclosed-returns : goal.enclosed-returns
enclosed-returns t c =
    let low : pat_height (pat_of c.in_ok-first.first.tree) < c.args.depth = omega (arith, c.in_ok-first.ensures.height, c.if-first-depth.false) in
    pat_more (PatTupleOf (c.args.depth - 1) c.args.at (pat_of c.in_ok-first.first.tree)) (Past (Fixed c.args.at Open) (IsPatTree c.args.depth Single)) c.in_ok-behind.behind.now c.args.signs.now c.tuple.result c.tuple.ensures (omega (arith, c.in_ok-first.ensures.shorter, c.in_ok-behind.ensures.shorter))
    (λ p s o. tuple_tree _ _ _ c.requires.unclosed c.requires.no_name _ _ c.in_ok-first.ensures.tree _ c.in_default.ensures.found c.in_ok-behind.ensures.found _ _ low o) (tuple_none _ _ _ c.requires.unclosed c.requires.no_name _ _ c.in_ok-first.ensures.tree _ c.in_default.ensures.found c.in_ok-behind.ensures.found)

pub tuple-returns-in_err-parts : goal.tuple-returns-in_err-parts
tuple-returns-in_err-parts t c =
    let p = err_from_is_err_and c.from_residual-in_err-parts.result c.from_residual-in_err-parts.ensures.1 in
    rw (p.1, p.2) tt

pub tuple-returns-in_err-parts-2 : goal.tuple-returns-in_err-parts-2
tuple-returns-in_err-parts-2 t c =
    let p = err_from_is_err_and c.from_residual-in_err-parts-2.result c.from_residual-in_err-parts-2.ensures.1 in
    rw (p.1, p.2) tt
