use Rattle.std.proofs.Common.{◌<◌, ◌≤◌, ◌-◌, ◌+◌, ℕ, List, [], ◌∷◌, map, sym, ap, subst, ◌∙◌, arith}
use Rattle.std.proofs.lemmas.List.{map-append}
use Rattle.std.proofs.lemmas.Result.{IfOk-weaker, IfErr-weaker, err_from_is_err_and}
use Rattle.ac_syntax.specs.Signs.{here}
use Rattle.ac_syntax.specs.Trees.{TypeTree, TyFun, type_trees, type_height, highest_type_tree}
use Rattle.ac_syntax.specs.TypeForms.{Whole, IsTypeTree}
use Rattle.ac_syntax.specs.PartParsing.{suffixed_by, TupleOf}
use Rattle.ac_syntax.specs.ReadSigns.{read_signs}
use Rattle.ac_syntax.specs.ReadTrees.{type_tree_of}
use Rattle.ac_syntax.proofs.OnStop.{on_syntax_more, refused}
use Rattle.ac_syntax.proofs.TypeLaws.{type_of-Tuple}
use Rattle.ac_syntax.proofs.TypeSteps.{SuffixesSoFar, FactorsRead, flat_none, higher, whole_alone, whole_none, whole_arrow, arrow_none, arrow_high, product_alone, product_none, product_tuple, tuple_none, tuple_high, second_none, next_read, next_none, all_read, highest_next, single_first, suffixed_none, suffixed_alone, next_suffixed, suffix_high, parens_tree, unopened_none, unclosed_none}
use Rattle.ac_syntax.proofs.types.+types.Goals as goal

pub product-returns-in_err-first-clause-none : goal.product-returns-in_err-first-clause-none
product-returns-in_err-first-clause-none t c =
    let p = err_from_is_err_and c.from_residual.result c.from_residual.ensures.1 in
    rw (p.1, p.2) (on_syntax_more _ (product_none _ _) c.in_err-first.ensures.none)

pub product-returns-in_default-clause-tree : goal.product-returns-in_default-clause-tree
product-returns-in_default-clause-tree t c = product_alone _ _ _ _ c.in_ok-first.ensures.tree c.in_default.ensures.found

pub product-returns-then-first-depth-clause-none :
    goal.product-returns-then-first-depth-clause-none
product-returns-then-first-depth-clause-none t c =
    refused _ _ c.refused_at.ensures (tuple_high _ _ _ _ _ c.in_ok-first.ensures.tree c.in-Some.ensures.found (subst (λ (n : ℕ). c.args.depth ≤ n) c.in_ok-first.ensures.height c.if-first-depth.true))

pub product-returns-clause-tree : goal.product-returns-clause-tree
product-returns-clause-tree t c =
    IfOk-weaker c.tuple.result _ _
    (λ x o. product_tuple _ _ _ _ _ c.in_ok-first.ensures.tree c.in-Some.ensures.found _ _
    (subst (λ (at : ℕ). TupleOf c.args.depth at (type_tree_of c.in_ok-first.first.tree) (read_signs c.in-Some.behind.now) (type_tree_of x.0.tree) (read_signs x.1.now)) c.here.ensures o)) c.tuple.ensures.tree

pub product-returns-clause-none : goal.product-returns-clause-none
product-returns-clause-none t c =
    IfErr-weaker c.tuple.result _ _
    (λ e o. on_syntax_more e (tuple_none _ _ _ _ _ c.in_ok-first.ensures.tree c.in-Some.ensures.found) o) c.tuple.ensures.none

pub single-returns-then-depth-eq0-clause-none : goal.single-returns-then-depth-eq0-clause-none
single-returns-then-depth-eq0-clause-none t c =
    refused _ _ c.refused_at.ensures (flat_none _ _ _ c.if-depth-eq0.true)

pub single-returns-in_default-after-clause-none : goal.single-returns-in_default-after-clause-none
single-returns-in_default-after-clause-none t c =
    refused _ _ c.refused_at-in_default-after.ensures (unopened_none _ _ (rw c.in_default.is at c.in_ok-tree.ensures.found) c.in_default-after.ensures.found)

pub single-returns-in_default-after-2-clause-none :
    goal.single-returns-in_default-after-2-clause-none
single-returns-in_default-after-2-clause-none t c =
    refused _ _ c.refused_at-in_default-after-2.ensures
    (unclosed_none _ _ _ _ _ (rw c.in_default.is at c.in_ok-tree.ensures.found) c.in-Some-after.ensures.found c.in_ok-tree-2.ensures.tree c.in_default-after-2.ensures.found)

pub single-returns-clause-tree : goal.single-returns-clause-tree
single-returns-clause-tree t c =
    parens_tree _ _ _ _ _ _ c.in-Some-after.ensures.found c.in_ok-tree-2.ensures.tree c.in-Some-after-2.ensures.found

pub suffixed-returns-in_err-item-clause-none : goal.suffixed-returns-in_err-item-clause-none
suffixed-returns-in_err-item-clause-none t c =
    let p = err_from_is_err_and c.from_residual.result c.from_residual.ensures.1 in
    rw (p.1, p.2) (on_syntax_more _ (suffixed_none _ _) c.in_err-item.ensures.none)

pub suffixed-loop-suffix-init : goal.suffixed-loop-suffix-init
suffixed-loop-suffix-init t c =
    record {
      so_far = single_first _ _ _ _ c.in_ok-item.ensures.tree;
      height = c.in_ok-item.ensures.height;
      low = let low : type_height (type_tree_of c.in_ok-item.item.tree) ≤ c.args.depth = c.in_ok-item.ensures.tree.low in omega (arith, c.in_ok-item.ensures.height);
      shorter = c.in_ok-item.ensures.shorter;
    }

pub suffixed-returns-then-item-depth-clause-none :
    goal.suffixed-returns-then-item-depth-clause-none
suffixed-returns-then-item-depth-clause-none t c =
    refused _ _ c.refused_at.ensures
    (suffix_high _ _ _ _ c.loop-suffix.invariant.so_far c.in-Some.suffix _ c.in-Some.ensures.found (subst (λ (n : ℕ). c.args.depth ≤ n) c.loop-suffix.invariant.height c.if-item-depth.true))

pub suffixed-loop-suffix-preserved : goal.suffixed-loop-suffix-preserved
suffixed-loop-suffix-preserved t c =
    let next = next_suffixed _ _ _ _ c.loop-suffix.invariant.so_far c.in-Some.suffix _ c.in-Some.ensures.found in
    let made = c.in_ok-item-2.ensures.tree ∙ ap (λ (at : ℕ). suffixed_by c.in-Some.suffix at (type_tree_of c.loop-suffix.item.tree)) c.here-at.ensures in
    let one = higher c.in-Some.suffix (here (read_signs c.args.signs.now)) (type_tree_of c.loop-suffix.item.tree) in
    let same = ap type_height made in
    record {
      so_far = subst (λ (u : TypeTree). SuffixesSoFar c.args.depth (read_signs c.args.signs.now) u (read_signs c.in-Some.behind.now)) (sym made) next;
      height = c.in_ok-item-2.ensures.height;
      low = omega (arith, c.in_ok-item-2.ensures.height, same, one, c.loop-suffix.invariant.height, c.if-item-depth.false);
      shorter = omega (arith, c.loop-suffix.invariant.shorter, c.in-Some.ensures.shorter);
    }

pub suffixed-returns-clause-tree : goal.suffixed-returns-clause-tree
suffixed-returns-clause-tree t c =
    suffixed_alone _ _ _ _ c.loop-suffix.invariant.so_far c.in_default.ensures.found (subst (λ (n : ℕ). n ≤ c.args.depth) c.loop-suffix.invariant.height c.loop-suffix.invariant.low)

pub tuple-returns-in_err-second-clause-none : goal.tuple-returns-in_err-second-clause-none
tuple-returns-in_err-second-clause-none t c =
    let p = err_from_is_err_and c.from_residual-in_err-second.result c.from_residual-in_err-second.ensures.1 in
    rw (p.1, p.2) (on_syntax_more _ (second_none _ (type_tree_of c.args.first.tree) _) c.in_err-second.ensures.none)

pub tuple-returns-in_err-part-clause-none : goal.tuple-returns-in_err-part-clause-none
tuple-returns-in_err-part-clause-none t c =
    let p = err_from_is_err_and c.from_residual-in_err-part.result c.from_residual-in_err-part.ensures.1 in
    rw (p.1, p.2) (on_syntax_more _ (next_none _ _ _ _ _ c.loop-behind.invariant.read _ c.in-Some.ensures.found) c.in_err-part.ensures.none)

pub tuple-loop-behind-preserved : goal.tuple-loop-behind-preserved
tuple-loop-behind-preserved t c =
    let next = next_read _ _ _ _ _ c.loop-behind.invariant.read _ _ _ c.in-Some.ensures.found c.in_ok-part.ensures.tree in
    let parts = ap (map type_tree_of) c.in_ok-push-3.ensures.ok ∙ map-append type_tree_of c.loop-behind.parts (c.in_ok-part.part.tree ∷ []) in
    let low : type_height (type_tree_of c.in_ok-part.part.tree) ≤ c.args.depth - 1 = c.in_ok-part.ensures.tree.low in
    record {
      read = subst (λ (l : List TypeTree). FactorsRead (c.args.depth - 1) (type_tree_of c.args.first.tree) (read_signs c.args.signs.now) l (read_signs c.in_ok-part.later.now)) (sym parts) next;
      height = highest_next (map type_tree_of c.loop-behind.parts) (type_tree_of c.in_ok-part.part.tree) _ _ _ _ parts c.loop-behind.invariant.height c.in_ok-part.ensures.height c.max-height-in-Some.ensures;
      low = omega (arith, c.max-height-in-Some.ensures, c.loop-behind.invariant.low, low, c.in_ok-part.ensures.height);
      shorter = omega (arith, c.loop-behind.invariant.shorter, c.in-Some.ensures.shorter, c.in_ok-part.ensures.shorter);
    }

pub tuple-returns-clause-tree : goal.tuple-returns-clause-tree
tuple-returns-clause-tree t c =
    let low : highest_type_tree (type_trees (map type_tree_of c.loop-behind.parts)) + 1 ≤ c.args.depth = omega (arith, c.loop-behind.invariant.height, c.loop-behind.invariant.low) in
    subst (λ (u : TypeTree). TupleOf c.args.depth c.args.at (type_tree_of c.args.first.tree) (read_signs c.args.signs.now) u (read_signs c.loop-behind.rest.now)) (sym (type_of-Tuple c.args.at c.loop-behind.parts))
    (all_read _ _ _ _ _ c.loop-behind.invariant.read _ _ c.in_default.ensures.found low)

pub tuple-returns-clause-height : goal.tuple-returns-clause-height
tuple-returns-clause-height t c =
    ap (λ (n : ℕ). n + 1) c.loop-behind.invariant.height ∙ sym (ap type_height (type_of-Tuple c.args.at c.loop-behind.parts))

pub whole_type-returns-in_err-from-clause-none : goal.whole_type-returns-in_err-from-clause-none
whole_type-returns-in_err-from-clause-none t c =
    let p = err_from_is_err_and c.from_residual.result c.from_residual.ensures.1 in
    rw (p.1, p.2) (on_syntax_more _ (whole_none _ _) c.in_err-from.ensures.none)

pub whole_type-returns-in_default-clause-tree : goal.whole_type-returns-in_default-clause-tree
whole_type-returns-in_default-clause-tree t c = whole_alone _ _ _ _ c.in_ok-from.ensures.tree c.in_default.ensures.found

pub whole_type-returns-then-from-depth-clause-none :
    goal.whole_type-returns-then-from-depth-clause-none
whole_type-returns-then-from-depth-clause-none t c =
    refused _ _ c.refused_at.ensures (arrow_high _ _ _ _ _ c.in_ok-from.ensures.tree c.in-Some.ensures.found (subst (λ (n : ℕ). c.args.depth ≤ n) c.in_ok-from.ensures.height c.if-from-depth.true))

pub whole_type-returns-in-Err-clause-none : goal.whole_type-returns-in-Err-clause-none
whole_type-returns-in-Err-clause-none t c =
    on_syntax_more _ (arrow_none _ _ _ _ _ c.in_ok-from.ensures.tree c.in-Some.ensures.found) c.in-Err.ensures.none

pub whole_type-returns-in_ok-function-in-Ok-clause-tree :
    goal.whole_type-returns-in_ok-function-in-Ok-clause-tree
whole_type-returns-in_ok-function-in-Ok-clause-tree t c =
    let made = c.in_ok-function-in-Ok.ensures.tree ∙ ap (λ (at : ℕ). TyFun at (type_tree_of c.in_ok-from.from.tree) (type_tree_of c.in-Ok.to.tree)) c.here.ensures in
    let low : type_height (type_tree_of c.in_ok-from.from.tree) < c.args.depth = omega (arith, c.in_ok-from.ensures.height, c.if-from-depth.false) in
    subst (λ (u : TypeTree). IsTypeTree c.args.depth Whole (read_signs c.args.signs.now) u (read_signs c.in-Ok.end.now)) (sym made)
    (whole_arrow _ _ _ _ _ c.in_ok-from.ensures.tree c.in-Some.ensures.found _ _ c.in-Ok.ensures.tree low)
