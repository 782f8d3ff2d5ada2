use Rattle.std.proofs.Common.{◌≡◌, ◌<◌, ◌≤◌, ◌-◌, ℕ, suc, List, [], ◌∷◌, map, sym, ap, subst, ◌∙◌, arith, ◌++◌, length, refl}
use Rattle.std.proofs.lemmas.List.{map-append}
use Rattle.std.proofs.lemmas.Result.{err_from_is_err_and}
use Rattle.ac_syntax.specs.Signs.{Sign, Fixed}
use Rattle.ac_syntax.specs.Trees.{PatTree, Tree, trees, arm_trees, tree_height, highest, highest_arm, ExApp, ExTuple, ExNil, ExAbsent}
use Rattle.ac_syntax.specs.Expressions.{Expr, Part, Binary, After, Unary, App, Args, Atom, front, IsTree, operator_tree}
use Rattle.ac_syntax.specs.ReadSigns.{read_signs}
use Rattle.ac_syntax.specs.ReadTrees.{pat_of, tree_of, arm_tree_of, type_tree_of}
use Rattle.ac_syntax.specs.declared.surface.SExpr.{SExpr}
use Rattle.ac_syntax.specs.declared.surface.SArm.{SArm}
use Rattle.ac_syntax.specs.declared.sign.Symbol.TheVariants.{Close, Comma, Semicolon, Open, Minus, CloseSquare}
use Rattle.ac_syntax.specs.declared.sign.Symbol.TheVariants as symbol
use Rattle.ac_syntax.specs.PartParsing.{SymbolAt}
use Rattle.ac_syntax.proofs.OnStop.{on_syntax_more, refused}
use Rattle.ac_parser_expressions.specs.inner.Levels.{NoTree, Same, IsLastPart, IsParts, sequence_tree, IsArm, IsArms, IsLet, IsLetRec, IsFun, IsRec, IsIf, IsMarshal, IsUnmarshal, IsRaise, IsItems, tuple_tree, IsLastOperand, FormLeafAt, keyword_symbol, ArmsMeasured}
use Rattle.ac_parser_patterns.specs.Pieces.{Before, Made, Behind, Past, IsAscribed, binder_of, head_of}
use Rattle.ac_parser_patterns.specs.Forms.{operator_read, is_measured, let_tree, let_rec_tree, fun_tree, rec_tree, if_tree, marshal_tree, unmarshal_tree, raise_tree}
use Rattle.ac_parser_patterns.specs.declared.build.Parsed.{Parsed}
use Rattle.ac_parser_patterns.proofs.ExprLaws.{arm_tree_of-made}
use Rattle.ac_parser_patterns.proofs.Readers.{word_at, second_read, then, first_none, behind, before, before_none}
use Rattle.ac_parser_expressions.proofs.Levels.{flat_none, same_then, same_none, args_ended, argument_none, argument_high, next_argument, applied_none, same_applied, same_operand, prefixed_none, prefixed_tree, second_none, lone_tree, minus_none, minus_tree, not_none, not_tree, app_tree, app_none, unary_tree, unary_none, joined_height, operand_none, binary_tree, after_none, after_ended, left_step, right_step, once_step, goes_on, past_operator}
use Rattle.ac_parser_expressions.proofs.Words.{operators_tree, operators_none, let_back, let_none, let_rec_back, let_rec_none, fun_back, fun_none, rec_back, rec_none, if_back, if_none, marshal_back, marshal_none, unmarshal_back, unmarshal_none, raise_back, raise_none}
use Rattle.ac_parser_expressions.proofs.Atoms.{first_arm, next_arm, highest_next_arm, item_read, next_part, highest_next, unit_tree, nil_tree, absent_tree, parens_tree, tuple_high, tuple_none, tuple_made, second_item_none, second_part_none, arms_none, next_arm_none, unended_arms, all_arms, item_none, unended_items, all_items, next_part_none, all_parts, part_none, alone_tree, sequence_high, sequence_none, sequence_made, match_none, match_tree, try_none, try_tree, nil_none, absent_none, opened_none, unclosed_none, leaf_tree, leaf_none}
use Rattle.ac_parser_expressions.proofs.LastOperands.{no_operand, not_last}
use Rattle.ac_parser_expressions.proofs.NoForms.{unbefore, arm_no_body, choice_no_arms, let_no_bound, let_no_body, let_rec_no_bound, let_rec_no_body, rec_no_body, fun_no_arrow, fun_no_body, if_no_so, if_no_otherwise, marshal_no_value, marshal_no_type, unmarshal_no_type, raise_no_type}
use Rattle.ac_parser_patterns.proofs.Passed.{found_more, tree_more, made_is, made_read}
use Rattle.ac_parser_expressions.proofs.Following.{parts_read, continued, gone_on}
use Rattle.ac_parser_expressions.proofs.+expressions.Goals as goal

pub expressions::before-returns-in_err-tree : goal.expressions::before-returns-in_err-tree
expressions::before-returns-in_err-tree t c =
    let p = err_from_is_err_and c.from_residual.result c.from_residual.ensures.1 in
    rw (p.1, p.2) (on_syntax_more _ before_none c.in_err-tree.ensures)

pub expressions::before-returns : goal.expressions::before-returns
expressions::before-returns t c =
    found_more c.followed.result c.followed.ensures
    (λ x o. record {
      tree = subst (λ (p : Parsed). Before c.args.symbol (IsTree c.args.depth Expr) (read_signs c.args.signs.now) (tree_of p.tree) (read_signs x.1.now)) (sym o.0) (before c.in_ok-tree.ensures.tree o.1.found);
      height = subst (λ (p : Parsed). is_measured p) (sym o.0) c.in_ok-tree.ensures.height;
      shorter = omega (arith, c.in_ok-tree.ensures.shorter, o.1.shorter);
    }) (unbefore _ _ _ _ _ c.in_ok-tree.ensures.tree)

pub expressions::arm-returns-in_err-pat : goal.expressions::arm-returns-in_err-pat
expressions::arm-returns-in_err-pat t c =
    let p = err_from_is_err_and c.from_residual.result c.from_residual.ensures.1 in
    rw (p.1, p.2) (on_syntax_more _ first_none c.in_err-pat.ensures)

pub expressions::arm-returns-in_err-body : goal.expressions::arm-returns-in_err-body
expressions::arm-returns-in_err-body t c =
    let p = err_from_is_err_and c.from_residual-in_err-body.result c.from_residual-in_err-body.ensures.1 in
    rw (p.1, p.2) (on_syntax_more _ (arm_no_body _ _ _ _ c.in_ok-pat.ensures.found) c.in_err-body.ensures)

pub expressions::arm-returns : goal.expressions::arm-returns
expressions::arm-returns t c =
    let made = arm_tree_of-made c.in_ok-pat.pat c.into_inner-body.result ∙ ap (λ (e : SExpr). (pat_of c.in_ok-pat.pat, tree_of e)) c.into_inner-body.ensures in
    record {
      tree = subst (λ (x : PatTree × Tree). IsArm c.args.depth (read_signs c.args.signs.now) x (read_signs c.in_ok-body.rest.now)) (sym made) (then _ c.in_ok-pat.ensures.found c.in_ok-body.ensures.tree);
      height = c.in_ok-body.ensures.height ∙ sym (ap (λ (x : PatTree × Tree). tree_height x.1) made);
      shorter = omega (arith, c.in_ok-pat.ensures.shorter, c.in_ok-body.ensures.shorter);
    }

pub expressions::arms-returns-in_err-first : goal.expressions::arms-returns-in_err-first
expressions::arms-returns-in_err-first t c =
    let p = err_from_is_err_and c.from_residual.result c.from_residual.ensures.1 in
    rw (p.1, p.2) (on_syntax_more _ (arms_none _ _) c.in_err-first.ensures)

pub expressions::arms-returns-in_err-next : goal.expressions::arms-returns-in_err-next
expressions::arms-returns-in_err-next t c =
    let p = err_from_is_err_and c.from_residual-in_err-next.result c.from_residual-in_err-next.ensures.1 in
    rw (p.1, p.2) (on_syntax_more _ (next_arm_none _ _ _ _ c.loop-behind.invariant.read _ c.in-Some.ensures.found) c.in_err-next.ensures)

pub expressions::arms-returns : goal.expressions::arms-returns
expressions::arms-returns t c =
    let i = c.loop-behind.invariant in
    found_more c.followed.result c.followed.ensures
    (λ x o. record {
      tree = subst (λ (p : List SArm × ℕ). IsArms c.args.depth (read_signs c.args.signs.now) (map arm_tree_of p.0) (read_signs x.1.now)) (sym o.0) (all_arms _ _ _ _ i.read _ o.1.found);
      height = subst (λ (p : List SArm × ℕ). ArmsMeasured c.args.depth p.0 p.1) (sym o.0) (record { is = i.height; low = i.low });
      shorter = omega (arith, i.shorter, o.1.shorter);
    }) (unended_arms _ _ _ _ i.read c.in_default.ensures.found)

pub expressions::choice-returns-in_err-of : goal.expressions::choice-returns-in_err-of
expressions::choice-returns-in_err-of t c =
    let p = err_from_is_err_and c.from_residual.result c.from_residual.ensures.1 in
    rw (p.1, p.2) (on_syntax_more _ first_none c.in_err-of.ensures)

pub expressions::choice-returns-in_err-arms : goal.expressions::choice-returns-in_err-arms
expressions::choice-returns-in_err-arms t c =
    let p = err_from_is_err_and c.from_residual-in_err-arms.result c.from_residual-in_err-arms.ensures.1 in
    rw (p.1, p.2) (on_syntax_more _ (choice_no_arms _ _ _ _ _ c.in_ok-of.ensures.tree c.after_bar.ensures.found) c.in_err-arms.ensures)

pub expressions::choice-returns : goal.expressions::choice-returns
expressions::choice-returns t c = record {
  tree = then _ c.in_ok-of.ensures.tree (subst (λ (l : List Sign). IsArms c.args.depth l (map arm_tree_of c.in_ok-arms.arms) (read_signs c.in_ok-arms.rest.now)) c.after_bar.ensures.found c.in_ok-arms.ensures.tree);
  height = record { of = c.in_ok-of.ensures.height; arms = c.in_ok-arms.ensures.height };
  shorter = omega (arith, c.in_ok-of.ensures.shorter, c.after_bar.ensures.within, c.in_ok-arms.ensures.shorter);
}

pub expressions::tuple-returns-in_err-second : goal.expressions::tuple-returns-in_err-second
expressions::tuple-returns-in_err-second t c =
    let p = err_from_is_err_and c.from_residual.result c.from_residual.ensures.1 in
    rw (p.1, p.2) (on_syntax_more _ (second_item_none _ _) c.in_err-second.ensures)

pub expressions::tuple-returns-in_err-part : goal.expressions::tuple-returns-in_err-part
expressions::tuple-returns-in_err-part t c =
    let p = err_from_is_err_and c.from_residual-in_err-part.result c.from_residual-in_err-part.ensures.1 in
    rw (p.1, p.2) (on_syntax_more _ (item_none _ _ _ _ _ c.loop-behind.invariant.read _ c.in-Some.ensures.found) c.in_err-part.ensures)

pub expressions::tuple-returns : goal.expressions::tuple-returns
expressions::tuple-returns t c =
    let i = c.loop-behind.invariant in
    tree_more (λ l e s. (e ≡ ExTuple c.args.at (trees (map tree_of c.loop-behind.parts))) × SymbolAt Close l s) (Made (IsItems c.args.depth) (tuple_tree c.args.at (tree_of c.args.first.tree))) _ c.args.signs.now c.tuple.result c.tuple.ensures (omega (arith, i.shorter))
    (λ e s o. all_items _ _ _ _ _ i.read _ _ _ o.1 o.0) (unended_items _ _ _ _ _ i.read c.in_default.ensures.found)

pub expressions::let_in-returns-in_err-binder : goal.expressions::let_in-returns-in_err-binder
expressions::let_in-returns-in_err-binder t c =
    let p = err_from_is_err_and c.from_residual.result c.from_residual.ensures.1 in
    rw (p.1, p.2) (on_syntax_more _ first_none c.in_err-binder.ensures)

pub expressions::let_in-returns-in_err-bound : goal.expressions::let_in-returns-in_err-bound
expressions::let_in-returns-in_err-bound t c =
    let p = err_from_is_err_and c.from_residual-in_err-bound.result c.from_residual-in_err-bound.ensures.1 in
    rw (p.1, p.2) (on_syntax_more _ (let_no_bound _ _ _ _ c.in_ok-binder.ensures.found) c.in_err-bound.ensures)

pub expressions::let_in-returns-in_err-body : goal.expressions::let_in-returns-in_err-body
expressions::let_in-returns-in_err-body t c =
    let p = err_from_is_err_and c.from_residual-in_err-body.result c.from_residual-in_err-body.ensures.1 in
    rw (p.1, p.2) (on_syntax_more _ (let_no_body _ _ _ _ c.in_ok-binder.ensures.found _ _ c.in_ok-bound.ensures.tree) c.in_err-body.ensures)

pub expressions::let_in-returns : goal.expressions::let_in-returns
expressions::let_in-returns t c =
    parts_read (IsLet c.args.depth) (let_tree c.args.at) (binder_of c.in_ok-binder.binder, (tree_of c.in_ok-bound.bound.tree, tree_of c.in_ok-body.body.tree)) c.args.signs.now c.in_ok-body.rest.now _ c.let_in.result c.let_in.ensures (omega (arith, c.in_ok-binder.ensures.shorter, c.in_ok-bound.ensures.shorter, c.in_ok-body.ensures.shorter))
    (then _ c.in_ok-binder.ensures.found (then _ c.in_ok-bound.ensures.tree c.in_ok-body.ensures.tree))

pub expressions::let_rec-returns-in_err-head : goal.expressions::let_rec-returns-in_err-head
expressions::let_rec-returns-in_err-head t c =
    let p = err_from_is_err_and c.from_residual.result c.from_residual.ensures.1 in
    rw (p.1, p.2) (on_syntax_more _ first_none c.in_err-head.ensures)

pub expressions::let_rec-returns-in_err-bound : goal.expressions::let_rec-returns-in_err-bound
expressions::let_rec-returns-in_err-bound t c =
    let p = err_from_is_err_and c.from_residual-in_err-bound.result c.from_residual-in_err-bound.ensures.1 in
    rw (p.1, p.2) (on_syntax_more _ (let_rec_no_bound _ _ _ _ c.in_ok-head.ensures.found) c.in_err-bound.ensures)

pub expressions::let_rec-returns-in_err-body : goal.expressions::let_rec-returns-in_err-body
expressions::let_rec-returns-in_err-body t c =
    let p = err_from_is_err_and c.from_residual-in_err-body.result c.from_residual-in_err-body.ensures.1 in
    rw (p.1, p.2) (on_syntax_more _ (let_rec_no_body _ _ _ _ c.in_ok-head.ensures.found _ _ c.in_ok-bound.ensures.tree) c.in_err-body.ensures)

pub expressions::let_rec-returns : goal.expressions::let_rec-returns
expressions::let_rec-returns t c =
    parts_read (IsLetRec c.args.depth) (let_rec_tree c.args.at) (head_of c.in_ok-head.head, (tree_of c.in_ok-bound.bound.tree, tree_of c.in_ok-body.body.tree)) c.args.signs.now c.in_ok-body.rest.now _ c.let_rec.result c.let_rec.ensures (omega (arith, c.in_ok-head.ensures.shorter, c.in_ok-bound.ensures.shorter, c.in_ok-body.ensures.shorter))
    (then _ c.in_ok-head.ensures.found (then _ c.in_ok-bound.ensures.tree c.in_ok-body.ensures.tree))

pub expressions::fun-returns-in_err-binder : goal.expressions::fun-returns-in_err-binder
expressions::fun-returns-in_err-binder t c =
    let p = err_from_is_err_and c.from_residual.result c.from_residual.ensures.1 in
    rw (p.1, p.2) (on_syntax_more _ first_none c.in_err-binder.ensures)

pub expressions::fun-returns-in_err-later : goal.expressions::fun-returns-in_err-later
expressions::fun-returns-in_err-later t c =
    let p = err_from_is_err_and c.from_residual-in_err-later.result c.from_residual-in_err-later.ensures.1 in
    rw (p.1, p.2) (on_syntax_more _ (fun_no_arrow _ _ _ _ c.in_ok-binder.ensures.found) c.in_err-later.ensures)

pub expressions::fun-returns-in_err-body : goal.expressions::fun-returns-in_err-body
expressions::fun-returns-in_err-body t c =
    let p = err_from_is_err_and c.from_residual-in_err-body.result c.from_residual-in_err-body.ensures.1 in
    rw (p.1, p.2) (on_syntax_more _ (fun_no_body _ _ _ _ c.in_ok-binder.ensures.found _ c.in_ok-later.ensures.found) c.in_err-body.ensures)

pub expressions::fun-returns : goal.expressions::fun-returns
expressions::fun-returns t c =
    parts_read (IsFun c.args.depth) (fun_tree c.args.at) (binder_of c.in_ok-binder.binder, tree_of c.in_ok-body.body.tree) c.args.signs.now c.in_ok-body.rest.now _ c.fun.result c.fun.ensures (omega (arith, c.in_ok-binder.ensures.shorter, c.in_ok-later.ensures.shorter, c.in_ok-body.ensures.shorter))
    (then _ c.in_ok-binder.ensures.found (behind c.in_ok-later.ensures.found c.in_ok-body.ensures.tree))

pub expressions::rec-returns-in_err-head : goal.expressions::rec-returns-in_err-head
expressions::rec-returns-in_err-head t c =
    let p = err_from_is_err_and c.from_residual.result c.from_residual.ensures.1 in
    rw (p.1, p.2) (on_syntax_more _ first_none c.in_err-head.ensures)

pub expressions::rec-returns-in_err-body : goal.expressions::rec-returns-in_err-body
expressions::rec-returns-in_err-body t c =
    let p = err_from_is_err_and c.from_residual-in_err-body.result c.from_residual-in_err-body.ensures.1 in
    rw (p.1, p.2) (on_syntax_more _ (rec_no_body _ _ _ _ c.in_ok-head.ensures.found) c.in_err-body.ensures)

pub expressions::rec-returns : goal.expressions::rec-returns
expressions::rec-returns t c =
    parts_read (IsRec c.args.depth) (rec_tree c.args.at) (head_of c.in_ok-head.head, tree_of c.in_ok-body.body.tree) c.args.signs.now c.in_ok-body.rest.now _ c.rec.result c.rec.ensures (omega (arith, c.in_ok-head.ensures.shorter, c.in_ok-body.ensures.shorter))
    (then _ c.in_ok-head.ensures.found c.in_ok-body.ensures.tree)

pub expressions::if_else-returns-in_err-test : goal.expressions::if_else-returns-in_err-test
expressions::if_else-returns-in_err-test t c =
    let p = err_from_is_err_and c.from_residual.result c.from_residual.ensures.1 in
    rw (p.1, p.2) (on_syntax_more _ first_none c.in_err-test.ensures)

pub expressions::if_else-returns-in_err-so : goal.expressions::if_else-returns-in_err-so
expressions::if_else-returns-in_err-so t c =
    let p = err_from_is_err_and c.from_residual-in_err-so.result c.from_residual-in_err-so.ensures.1 in
    rw (p.1, p.2) (on_syntax_more _ (if_no_so _ _ _ _ c.in_ok-test.ensures.tree) c.in_err-so.ensures)

pub expressions::if_else-returns-in_err-otherwise : goal.expressions::if_else-returns-in_err-otherwise
expressions::if_else-returns-in_err-otherwise t c =
    let p = err_from_is_err_and c.from_residual-in_err-otherwise.result c.from_residual-in_err-otherwise.ensures.1 in
    rw (p.1, p.2) (on_syntax_more _ (if_no_otherwise _ _ _ _ c.in_ok-test.ensures.tree _ _ c.in_ok-so.ensures.tree) c.in_err-otherwise.ensures)

pub expressions::if_else-returns : goal.expressions::if_else-returns
expressions::if_else-returns t c =
    parts_read (IsIf c.args.depth) (if_tree c.args.at) (tree_of c.in_ok-test.test.tree, (tree_of c.in_ok-so.so.tree, tree_of c.in_ok-otherwise.otherwise.tree)) c.args.signs.now c.in_ok-otherwise.rest.now _ c.if_else.result c.if_else.ensures (omega (arith, c.in_ok-test.ensures.shorter, c.in_ok-so.ensures.shorter, c.in_ok-otherwise.ensures.shorter))
    (then _ c.in_ok-test.ensures.tree (then _ c.in_ok-so.ensures.tree c.in_ok-otherwise.ensures.tree))

pub expressions::marshal-returns-in_err-mark : goal.expressions::marshal-returns-in_err-mark
expressions::marshal-returns-in_err-mark t c =
    let p = err_from_is_err_and c.from_residual.result c.from_residual.ensures.1 in
    rw (p.1, p.2) (on_syntax_more _ first_none c.in_err-mark.ensures)

pub expressions::marshal-returns-in_err-value : goal.expressions::marshal-returns-in_err-value
expressions::marshal-returns-in_err-value t c =
    let p = err_from_is_err_and c.from_residual-in_err-value.result c.from_residual-in_err-value.ensures.1 in
    rw (p.1, p.2) (on_syntax_more _ (marshal_no_value _ _ _ _ c.in_ok-mark.ensures.tree) c.in_err-value.ensures)

pub expressions::marshal-returns-in_err-ty : goal.expressions::marshal-returns-in_err-ty
expressions::marshal-returns-in_err-ty t c =
    let p = err_from_is_err_and c.from_residual-in_err-ty.result c.from_residual-in_err-ty.ensures.1 in
    rw (p.1, p.2) (on_syntax_more _ (marshal_no_type _ _ _ _ c.in_ok-mark.ensures.tree _ _ c.in_ok-value.ensures.tree) c.in_err-ty.ensures)

pub expressions::marshal-returns : goal.expressions::marshal-returns
expressions::marshal-returns t c =
    parts_read (IsMarshal c.args.depth) (marshal_tree c.args.at) (tree_of c.in_ok-mark.mark.tree, (tree_of c.in_ok-value.value.tree, type_tree_of c.in_ok-ty.ty)) c.args.signs.now c.in_ok-ty.rest.now _ c.marshal_at.result c.marshal_at.ensures (omega (arith, c.in_ok-mark.ensures.shorter, c.in_ok-value.ensures.shorter, c.in_ok-ty.ensures.shorter))
    (then _ c.in_ok-mark.ensures.tree (then _ c.in_ok-value.ensures.tree c.in_ok-ty.ensures.found))

pub expressions::unmarshal-returns-in_err-text : goal.expressions::unmarshal-returns-in_err-text
expressions::unmarshal-returns-in_err-text t c =
    let p = err_from_is_err_and c.from_residual.result c.from_residual.ensures.1 in
    rw (p.1, p.2) (on_syntax_more _ first_none c.in_err-text.ensures)

pub expressions::unmarshal-returns-in_err-ty : goal.expressions::unmarshal-returns-in_err-ty
expressions::unmarshal-returns-in_err-ty t c =
    let p = err_from_is_err_and c.from_residual-in_err-ty.result c.from_residual-in_err-ty.ensures.1 in
    rw (p.1, p.2) (on_syntax_more _ (unmarshal_no_type _ _ _ _ c.in_ok-text.ensures.tree) c.in_err-ty.ensures)

pub expressions::unmarshal-returns : goal.expressions::unmarshal-returns
expressions::unmarshal-returns t c =
    parts_read (IsUnmarshal c.args.depth) (unmarshal_tree c.args.at) (tree_of c.in_ok-text.text.tree, type_tree_of c.in_ok-ty.ty) c.args.signs.now c.in_ok-ty.rest.now _ c.unmarshal_at.result c.unmarshal_at.ensures (omega (arith, c.in_ok-text.ensures.shorter, c.in_ok-ty.ensures.shorter))
    (then _ c.in_ok-text.ensures.tree c.in_ok-ty.ensures.found)

pub expressions::raise-returns-in_err-exception : goal.expressions::raise-returns-in_err-exception
expressions::raise-returns-in_err-exception t c =
    let p = err_from_is_err_and c.from_residual.result c.from_residual.ensures.1 in
    rw (p.1, p.2) (on_syntax_more _ first_none c.in_err-exception.ensures)

pub expressions::raise-returns-in_err-ty : goal.expressions::raise-returns-in_err-ty
expressions::raise-returns-in_err-ty t c =
    let p = err_from_is_err_and c.from_residual-in_err-ty.result c.from_residual-in_err-ty.ensures.1 in
    rw (p.1, p.2) (on_syntax_more _ (raise_no_type _ _ _ _ c.in_ok-exception.ensures.tree) c.in_err-ty.ensures)

pub expressions::raise-returns : goal.expressions::raise-returns
expressions::raise-returns t c =
    parts_read (IsRaise c.args.depth) (raise_tree c.args.at) (tree_of c.in_ok-exception.exception.tree, type_tree_of c.in_ok-ty.ty) c.args.signs.now c.in_ok-ty.rest.now _ c.raise.result c.raise.ensures (omega (arith, c.in_ok-exception.ensures.shorter, c.in_ok-ty.ensures.shorter))
    (then _ c.in_ok-exception.ensures.tree c.in_ok-ty.ensures.found)

pub expressions::part-returns-in_default : goal.expressions::part-returns-in_default
expressions::part-returns-in_default t c =
    tree_more (IsTree c.args.depth (Binary 6)) (IsTree c.args.depth Part) c.args.signs.now c.args.signs.now c.binary.result c.binary.ensures (omega arith)
    (λ e s o. operators_tree _ _ _ _ o) (operators_none _ _ c.in_default.ensures)

pub expressions::part-returns-then-depth-eq0 : goal.expressions::part-returns-then-depth-eq0
expressions::part-returns-then-depth-eq0 t c = refused _ _ c.refused_at.ensures (flat_none _ _ _ c.if-depth-eq0.true)

pub expressions::part-returns : goal.expressions::part-returns
expressions::part-returns t c =
    let is = sym (word_at c.in-Some.ensures.found c.here.ensures) in
    tree_more (Past (Fixed c.here.result (keyword_symbol c.in-Some.keyword)) (IsTree c.args.depth Part)) (IsTree c.args.depth Part) c.in-Some.behind.now c.args.signs.now c.keyword_part.result c.keyword_part.ensures (omega (arith, c.in-Some.ensures.shorter))
    (λ e s o. subst (λ (l : List Sign). IsTree c.args.depth Part l e s) is o) (λ n. subst (λ (l : List Sign). NoTree c.args.depth Part l) is n)

pub expressions::expr-returns-in_err-first : goal.expressions::expr-returns-in_err-first
expressions::expr-returns-in_err-first t c =
    let p = err_from_is_err_and c.from_residual.result c.from_residual.ensures.1 in
    rw (p.1, p.2) (on_syntax_more _ (part_none _ _) c.in_err-first.ensures)

pub expressions::expr-returns-in_default : goal.expressions::expr-returns-in_default
expressions::expr-returns-in_default t c = record { tree = alone_tree _ _ _ _ c.in_ok-first.ensures.tree c.in_default.ensures.found; height = c.in_ok-first.ensures.height; shorter = c.in_ok-first.ensures.shorter }

pub expressions::expr-returns-then-first-depth : goal.expressions::expr-returns-then-first-depth
expressions::expr-returns-then-first-depth t c = refused _ _ c.refused_at.ensures (sequence_high _ _ _ _ _ c.in_ok-first.ensures.tree c.in-Some.ensures.found (subst (λ (n : ℕ). c.args.depth ≤ n) c.in_ok-first.ensures.height c.if-first-depth.true))

pub expressions::expr-returns : goal.expressions::expr-returns
expressions::expr-returns t c =
    let low : tree_height (tree_of c.in_ok-first.first.tree) < c.args.depth = omega (arith, c.in_ok-first.ensures.height, c.if-first-depth.false) in
    tree_more (Made (IsParts (c.args.depth - 1)) (sequence_tree c.here.result (tree_of c.in_ok-first.first.tree))) (IsTree c.args.depth Expr) c.in-Some.behind.now c.args.signs.now c.sequence.result c.sequence.ensures (omega (arith, c.in_ok-first.ensures.shorter, c.in-Some.ensures.shorter))
    (λ e s o. sequence_made _ _ _ _ _ c.in_ok-first.ensures.tree c.in-Some.ensures.found _ _ low
    (subst (λ (at : ℕ). Made (IsParts (c.args.depth - 1)) (sequence_tree at (tree_of c.in_ok-first.first.tree)) (read_signs c.in-Some.behind.now) e s) c.here.ensures o)) (sequence_none _ _ _ _ _ c.in_ok-first.ensures.tree c.in-Some.ensures.found)

pub expressions::sequence-returns-in_err-second : goal.expressions::sequence-returns-in_err-second
expressions::sequence-returns-in_err-second t c =
    let p = err_from_is_err_and c.from_residual.result c.from_residual.ensures.1 in
    rw (p.1, p.2) (on_syntax_more _ (second_part_none _ _) c.in_err-second.ensures)

pub expressions::sequence-returns-in_err-next : goal.expressions::sequence-returns-in_err-next
expressions::sequence-returns-in_err-next t c =
    let p = err_from_is_err_and c.from_residual-in_err-next.result c.from_residual-in_err-next.ensures.1 in
    rw (p.1, p.2) (on_syntax_more _ (next_part_none _ _ _ _ _ c.loop-behind.invariant.read _ c.in-Some.ensures.found) c.in_err-next.ensures)

pub expressions::sequence-returns : goal.expressions::sequence-returns
expressions::sequence-returns t c =
    let i = c.loop-behind.invariant in
    made_read (Made (IsParts c.args.depth) (sequence_tree c.args.at (tree_of c.args.first.tree))) c.args.signs.now _ _ _ c.sequence.result c.sequence.ensures (omega (arith, i.shorter)) (all_parts _ _ _ _ _ i.read _ _ c.in_default.ensures.found refl)

pub expressions::atom-returns-then-depth-eq0 : goal.expressions::atom-returns-then-depth-eq0
expressions::atom-returns-then-depth-eq0 t c = refused _ _ c.refused_at.ensures (flat_none _ _ _ c.if-depth-eq0.true)

pub expressions::atom-returns-in-Some : goal.expressions::atom-returns-in-Some
expressions::atom-returns-in-Some t c =
    let is = sym (word_at c.in-Some.ensures.found c.here-at.ensures) in
    tree_more (Past (Fixed c.here-at.result Open) (IsTree c.args.depth Atom)) (IsTree c.args.depth Atom) c.in-Some.behind.now c.args.signs.now c.opened.result c.opened.ensures (omega (arith, c.in-Some.ensures.shorter))
    (λ e s o. subst (λ (l : List Sign). IsTree c.args.depth Atom l e s) is o) (λ n. subst (λ (l : List Sign). NoTree c.args.depth Atom l) is n)

pub expressions::atom-returns-in_err-choice : goal.expressions::atom-returns-in_err-choice
expressions::atom-returns-in_err-choice t c =
    let pos : 0 < c.args.depth = omega (arith, c.if-depth-eq0.false) in
    let p = err_from_is_err_and c.from_residual.result c.from_residual.ensures.1 in
    rw (p.1, p.2) (on_syntax_more _ (match_none _ _ _ pos c.in-Some-after.ensures.found) c.in_err-choice.ensures)

pub expressions::atom-returns-in-Some-after : goal.expressions::atom-returns-in-Some-after
expressions::atom-returns-in-Some-after t c =
    let pos : 0 < c.args.depth = omega (arith, c.if-depth-eq0.false) in
    made_read (IsTree c.args.depth Atom) c.args.signs.now c.in_ok-choice.rest.now _ _ c.match_with.result c.match_with.ensures (omega (arith, c.in-Some-after.ensures.shorter, c.in_ok-choice.ensures.shorter))
    (match_tree _ _ _ pos _ _ _ _ _ c.here-at.ensures c.in_ok-choice.ensures.tree c.in-Some-after.ensures.found refl)

pub expressions::atom-returns-in_err-choice-2 : goal.expressions::atom-returns-in_err-choice-2
expressions::atom-returns-in_err-choice-2 t c =
    let pos : 0 < c.args.depth = omega (arith, c.if-depth-eq0.false) in
    let p = err_from_is_err_and c.from_residual-in_err-choice-2.result c.from_residual-in_err-choice-2.ensures.1 in
    rw (p.1, p.2) (on_syntax_more _ (try_none _ _ _ pos c.in-Some-after-2.ensures.found) c.in_err-choice-2.ensures)

pub expressions::atom-returns-in-Some-after-2 : goal.expressions::atom-returns-in-Some-after-2
expressions::atom-returns-in-Some-after-2 t c =
    let pos : 0 < c.args.depth = omega (arith, c.if-depth-eq0.false) in
    made_read (IsTree c.args.depth Atom) c.args.signs.now c.in_ok-choice-2.rest.now _ _ c.try_with.result c.try_with.ensures (omega (arith, c.in-Some-after-2.ensures.shorter, c.in_ok-choice-2.ensures.shorter))
    (try_tree _ _ _ pos _ _ _ _ _ c.here-at.ensures c.in_ok-choice-2.ensures.tree c.in-Some-after-2.ensures.found refl)

pub expressions::atom-returns : goal.expressions::atom-returns
expressions::atom-returns t c =
    let pos : 0 < c.args.depth = omega (arith, c.if-depth-eq0.false) in
    tree_more FormLeafAt (IsTree c.args.depth Atom) c.args.signs.now c.args.signs.now c.parsed_leaf.result c.parsed_leaf.ensures (omega arith)
    (λ e s o. leaf_tree _ _ _ _ pos o) (λ f. leaf_none _ _ (f c.in_default.ensures.found c.in_default-after.ensures.found c.in_default-after-2.ensures.found))

pub expressions::app-returns-then-depth-eq0 : goal.expressions::app-returns-then-depth-eq0
expressions::app-returns-then-depth-eq0 t c = refused _ _ c.refused_at.ensures (flat_none _ _ _ c.if-depth-eq0.true)

pub expressions::app-returns-in_err-item : goal.expressions::app-returns-in_err-item
expressions::app-returns-in_err-item t c =
    let pos : 0 < c.args.depth = omega (arith, c.if-depth-eq0.false) in
    let p = err_from_is_err_and c.from_residual.result c.from_residual.ensures.1 in
    rw (p.1, p.2) (on_syntax_more _ (prefixed_none _ _ _ _ _ c.in-Some.ensures.found pos) c.in_err-item.ensures)

pub expressions::app-returns : goal.expressions::app-returns
expressions::app-returns t c =
    let pos : 0 < c.args.depth = omega (arith, c.if-depth-eq0.false) in
    found_more c.prefixed_by.result c.prefixed_by.ensures
    (λ x o. record {
      tree = made_is (IsTree c.args.depth App) (read_signs c.args.signs.now) _ _ x.0 x.1.now o.0 (prefixed_tree _ _ _ _ _ c.in-Some.ensures.found pos _ _ c.in_ok-item.ensures.tree o.1);
      height = o.0.height;
      shorter = omega (arith, ap length o.0.left, c.in-Some.ensures.shorter, c.in_ok-item.ensures.shorter);
    }) (second_none _ _ _ _ _ c.in-Some.ensures.found pos _ _ c.in_ok-item.ensures.tree)

pub operators::minus-returns-in-Some : goal.operators::minus-returns-in-Some
operators::minus-returns-in-Some t c =
    made_read (Past (Fixed c.args.at Minus) (IsTree c.args.depth Unary)) c.args.signs.now c.in-Some.rest.now _ _ c.negative.result c.negative.ensures c.in-Some.ensures.shorter (lone_tree _ _ _ _ _ _ c.requires c.in-Some.ensures.found refl)

pub operators::minus-returns-in_err-operand : goal.operators::minus-returns-in_err-operand
operators::minus-returns-in_err-operand t c =
    let p = err_from_is_err_and c.from_residual.result c.from_residual.ensures.1 in
    rw (p.1, p.2) (on_syntax_more _ (minus_none _ _ _ c.in_default.ensures c.requires) c.in_err-operand.ensures)

pub operators::minus-returns : goal.operators::minus-returns
operators::minus-returns t c =
    made_read (Past (Fixed c.args.at Minus) (IsTree c.args.depth Unary)) c.args.signs.now c.in_ok-operand.rest.now _ _ c.operation.result c.operation.ensures c.in_ok-operand.ensures.shorter (minus_tree _ _ _ c.in_default.ensures c.requires _ _ _ c.in_ok-operand.ensures.tree refl)

pub operators::unary-returns-then-depth-eq0 : goal.operators::unary-returns-then-depth-eq0
operators::unary-returns-then-depth-eq0 t c = refused _ _ c.refused_at.ensures (flat_none _ _ _ c.if-depth-eq0.true)

pub operators::unary-returns-in-Some : goal.operators::unary-returns-in-Some
operators::unary-returns-in-Some t c =
    let is = sym (word_at c.in-Some.ensures.found c.here-at.ensures) in
    tree_more (Past (Fixed c.here-at.result Minus) (IsTree c.args.depth Unary)) (IsTree c.args.depth Unary) c.in-Some.behind.now c.args.signs.now c.minus.result c.minus.ensures (omega (arith, c.in-Some.ensures.shorter))
    (λ e s o. subst (λ (l : List Sign). IsTree c.args.depth Unary l e s) is o) (λ n. subst (λ (l : List Sign). NoTree c.args.depth Unary l) is n)

pub operators::unary-returns-then-depth-eq0-2 : goal.operators::unary-returns-then-depth-eq0-2
operators::unary-returns-then-depth-eq0-2 t c = refused _ _ c.refused_at-then-depth-eq0-2.ensures (flat_none _ _ _ c.if-depth-eq0-2.true)

pub operators::unary-returns-in_err-operand : goal.operators::unary-returns-in_err-operand
operators::unary-returns-in_err-operand t c =
    let pos : 0 < c.args.depth = omega (arith, c.if-depth-eq0-2.false) in
    let p = err_from_is_err_and c.from_residual.result c.from_residual.ensures.1 in
    rw (p.1, p.2) (on_syntax_more _ (not_none _ _ _ c.in-Some-after.ensures.found pos) c.in_err-operand.ensures)

pub operators::unary-returns-in-Some-after : goal.operators::unary-returns-in-Some-after
operators::unary-returns-in-Some-after t c =
    let pos : 0 < c.args.depth = omega (arith, c.if-depth-eq0-2.false) in
    made_read (IsTree c.args.depth Unary) c.args.signs.now c.in_ok-operand.rest.now _ _ c.operation.result c.operation.ensures (omega (arith, c.in-Some-after.ensures.shorter, c.in_ok-operand.ensures.shorter)) (not_tree _ _ _ c.in-Some-after.ensures.found pos _ _ _ _ c.here-at.ensures c.in_ok-operand.ensures.tree refl)

pub operators::unary-returns : goal.operators::unary-returns
operators::unary-returns t c =
    tree_more (IsTree c.args.depth App) (IsTree c.args.depth Unary) c.args.signs.now c.args.signs.now c.app.result c.app.ensures (omega arith)
    (λ e s o. app_tree _ _ _ _ o) (app_none _ _ c.in_default.ensures.found c.in_default-after.ensures.found)

pub operators::to_right-returns-in_default : goal.operators::to_right-returns-in_default
operators::to_right-returns-in_default t c =
    let low : tree_height (tree_of c.args.first.tree) ≤ c.args.depth = omega (arith, c.requires.first, c.requires.low) in
    record { tree = after_ended _ _ _ _ _ c.requires.level.0 c.requires.level.1 low c.requires.stops c.in_default.ensures; height = c.requires.first; within = omega arith }

pub operators::to_right-returns-then-first-depth : goal.operators::to_right-returns-then-first-depth
operators::to_right-returns-then-first-depth t c =
    let lv : suc (c.args.level - 1) ≡ c.args.level = omega (arith, c.requires.level.0) in
    let s = right_step _ _ c.args.depth c.args.at _ _ _ _ lv c.in-Some.ensures.found c.requires.side in
    refused _ _ c.refused_at.ensures (s.high (subst (λ (n : ℕ). c.args.depth ≤ n) c.requires.first c.if-first-depth.true))

pub operators::once-returns-in_default : goal.operators::once-returns-in_default
operators::once-returns-in_default t c =
    let low : tree_height (tree_of c.args.first.tree) ≤ c.args.depth = omega (arith, c.requires.first, c.requires.low) in
    record { tree = after_ended _ _ _ _ _ c.requires.level.0 c.requires.level.1 low c.requires.stops c.in_default.ensures; height = c.requires.first; within = omega arith }

pub operators::once-returns-then-first-depth : goal.operators::once-returns-then-first-depth
operators::once-returns-then-first-depth t c =
    let lv : suc (c.args.level - 1) ≡ c.args.level = omega (arith, c.requires.level.0) in
    let s = once_step _ _ c.args.depth c.args.at _ _ _ _ lv c.in-Some.ensures.found c.requires.side in
    refused _ _ c.refused_at.ensures (s.high (subst (λ (n : ℕ). c.args.depth ≤ n) c.requires.first c.if-first-depth.true))

pub operators::binary-returns-then-level-eq0 : goal.operators::binary-returns-then-level-eq0
operators::binary-returns-then-level-eq0 t c =
    tree_more (IsTree c.args.depth Unary) (IsTree c.args.depth (Binary c.args.level)) c.args.signs.now c.args.signs.now c.unary.result c.unary.ensures (omega arith)
    (λ e s o. unary_tree _ _ _ _ _ c.if-level-eq0.true o) (unary_none _ _ _ c.if-level-eq0.true)

pub operators::binary-returns-in_err-first : goal.operators::binary-returns-in_err-first
operators::binary-returns-in_err-first t c =
    let lv : suc (c.args.level - 1) ≡ c.args.level = omega (arith, c.if-level-eq0.false) in
    let p = err_from_is_err_and c.from_residual.result c.from_residual.ensures.1 in
    rw (p.1, p.2) (on_syntax_more _ (operand_none _ _ _ _ lv) c.in_err-first.ensures)

pub expressions::arms-loop-behind-init : goal.expressions::arms-loop-behind-init
expressions::arms-loop-behind-init t c =
    let h = c.in_ok-first.ensures in
    let arms = ap (map arm_tree_of) (c.in_ok-arms.ensures ∙ ap (λ (l : List SArm). l ++ c.in_ok-first.first ∷ []) c.new.ensures) in
    let low : tree_height (arm_tree_of c.in_ok-first.first).1 ≤ c.args.depth = h.tree.second.low in
    record {
      read = first_arm _ _ _ _ _ h.tree arms;
      height = omega (arith, h.height, ap (λ (l : List (PatTree × Tree)). highest_arm (arm_trees l)) arms);
      low = omega (arith, h.height, low);
      shorter = h.shorter;
    }

pub expressions::arms-loop-behind-preserved : goal.expressions::arms-loop-behind-preserved
expressions::arms-loop-behind-preserved t c =
    let i = c.loop-behind.invariant in
    let h = c.in_ok-next.ensures in
    let arms = ap (map arm_tree_of) c.in_ok-arms-2.ensures ∙ map-append arm_tree_of c.loop-behind.arms (c.in_ok-next.next ∷ []) in
    let low : tree_height (arm_tree_of c.in_ok-next.next).1 ≤ c.args.depth = h.tree.second.low in
    record {
      read = next_arm _ _ _ _ i.read _ c.in-Some.ensures.found _ _ _ h.tree arms;
      height = highest_next_arm (map arm_tree_of c.loop-behind.arms) (arm_tree_of c.in_ok-next.next) _ _ _ _ arms i.height h.height c.max-height.ensures;
      low = omega (arith, c.max-height.ensures, i.low, low, h.height);
      shorter = omega (arith, i.shorter, c.in-Some.ensures.shorter, h.shorter);
    }

pub expressions::tuple-loop-behind-preserved : goal.expressions::tuple-loop-behind-preserved
expressions::tuple-loop-behind-preserved t c =
    let i = c.loop-behind.invariant in
    let h = c.in_ok-part.ensures in
    let parts = ap (map tree_of) c.in_ok-parts-2.ensures ∙ map-append tree_of c.loop-behind.parts (c.in_ok-part.part.tree ∷ []) in
    let low : tree_height (tree_of c.in_ok-part.part.tree) ≤ c.args.depth = h.tree.low in
    record {
      read = item_read _ _ _ _ _ i.read _ c.in-Some.ensures.found _ _ _ h.tree parts;
      height = highest_next (map tree_of c.loop-behind.parts) (tree_of c.in_ok-part.part.tree) _ _ _ _ parts i.height h.height c.max-height-in-Some.ensures;
      low = omega (arith, c.max-height-in-Some.ensures, i.low, low, h.height, c.requires.small);
      shorter = omega (arith, i.shorter, c.in-Some.ensures.shorter, h.shorter);
    }

pub expressions::sequence-loop-behind-preserved : goal.expressions::sequence-loop-behind-preserved
expressions::sequence-loop-behind-preserved t c =
    let i = c.loop-behind.invariant in
    let h = c.in_ok-next.ensures in
    let parts = ap (map tree_of) c.in_ok-parts-2.ensures ∙ map-append tree_of c.loop-behind.parts (c.in_ok-next.next.tree ∷ []) in
    let low : tree_height (tree_of c.in_ok-next.next.tree) ≤ c.args.depth = h.tree.low in
    record {
      read = next_part _ _ _ _ _ i.read _ c.in-Some.ensures.found _ _ _ h.tree parts;
      height = highest_next (map tree_of c.loop-behind.parts) (tree_of c.in_ok-next.next.tree) _ _ _ _ parts i.height h.height c.max-height-in-Some.ensures;
      low = omega (arith, c.max-height-in-Some.ensures, i.low, low, h.height, c.requires.small);
      shorter = omega (arith, i.shorter, c.in-Some.ensures.shorter, h.shorter);
    }

pub expressions::next_argument-returns-in_err-argument : goal.expressions::next_argument-returns-in_err-argument
expressions::next_argument-returns-in_err-argument t c =
    let p = err_from_is_err_and c.from_residual.result c.from_residual.ensures.1 in
    rw (p.1, p.2) (c.in_err-argument.ensures)

pub expressions::next_argument-returns : goal.expressions::next_argument-returns
expressions::next_argument-returns t c =
    parts_read (IsTree c.args.depth Atom) (ExApp c.args.at (tree_of c.args.function.tree)) (tree_of c.in_ok-argument.argument.tree) c.args.signs.now c.in_ok-argument.rest.now _ c.application.result c.application.ensures (omega (arith, c.in_ok-argument.ensures.shorter))
    (c.in_ok-argument.ensures.tree)

pub expressions::applied-returns-in_err-function : goal.expressions::applied-returns-in_err-function
expressions::applied-returns-in_err-function t c =
    let p = err_from_is_err_and c.from_residual.result c.from_residual.ensures.1 in
    rw (p.1, p.2) (on_syntax_more _ (λ n. applied_none _ _ n c.requires) c.in_err-function.ensures)

pub expressions::applied-loop-alloc-init : goal.expressions::applied-loop-alloc-init
expressions::applied-loop-alloc-init t c =
    let h = c.in_ok-function.ensures in
    let low : tree_height (tree_of c.in_ok-function.function.tree) ≤ c.args.depth = h.tree.low in
    record {
      same = subst (λ (at : ℕ). Same c.args.depth App (read_signs c.args.signs.now) (Args at (tree_of c.in_ok-function.function.tree)) (read_signs c.in_ok-function.rest.now)) (sym c.here-at.ensures) (same_applied _ _ _ _ h.tree c.requires);
      height = h.height;
      low = omega (arith, h.height, low);
      shorter = h.shorter;
    }

pub expressions::applied-returns-then-function-depth : goal.expressions::applied-returns-then-function-depth
expressions::applied-returns-then-function-depth t c =
    let i = c.loop-alloc.invariant in
    refused _ _ c.refused_at.ensures (same_none i.same (argument_high _ _ _ _ (sym c.begins_atom.ensures ∙ c.loop-alloc-test.true) (subst (λ (n : ℕ). c.args.depth ≤ n) i.height c.if-function-depth.true)))

pub expressions::applied-returns-in_err-next : goal.expressions::applied-returns-in_err-next
expressions::applied-returns-in_err-next t c =
    let p = err_from_is_err_and c.from_residual-in_err-next.result c.from_residual-in_err-next.ensures.1 in
    rw (p.1, p.2) (on_syntax_more _ (λ n. same_none c.loop-alloc.invariant.same (argument_none _ _ _ _ (sym c.begins_atom.ensures ∙ c.loop-alloc-test.true) n)) c.in_err-next.ensures)

pub expressions::applied-loop-alloc-preserved : goal.expressions::applied-loop-alloc-preserved
expressions::applied-loop-alloc-preserved t c =
    let i = c.loop-alloc.invariant in
    let h = c.in_ok-next.ensures in
    let low : tree_height h.tree.parts ≤ c.args.depth - 1 = h.tree.read.low in
    record {
      same = subst (λ (x : Tree). Same c.args.depth App (read_signs c.args.signs.now) (Args c.here-at.result x) (read_signs c.in_ok-next.later.now)) (sym h.tree.is)
          (same_then i.same (next_argument _ _ _ _ (sym c.begins_atom.ensures ∙ c.loop-alloc-test.true) _ _ h.tree.read));
      height = h.height;
      low = omega (arith, h.height, ap tree_height h.tree.is, i.height, c.if-function-depth.false, low);
      shorter = omega (arith, i.shorter, h.shorter);
    }

pub expressions::applied-returns : goal.expressions::applied-returns
expressions::applied-returns t c =
    let i = c.loop-alloc.invariant in
    let low : tree_height (tree_of c.loop-alloc.function.tree) ≤ c.args.depth = omega (arith, i.height, i.low) in
    record { tree = i.same.back _ _ (args_ended _ _ _ _ (sym c.begins_atom.ensures ∙ c.loop-alloc-test.false) low); height = i.height; shorter = i.shorter }

pub operators::right_side-returns-in_err-right : goal.operators::right_side-returns-in_err-right
operators::right_side-returns-in_err-right t c =
    let p = err_from_is_err_and c.from_residual.result c.from_residual.ensures.1 in
    rw (p.1, p.2) (c.in_err-right.ensures)

pub operators::right_side-returns : goal.operators::right_side-returns
operators::right_side-returns t c =
    parts_read (IsTree c.args.depth (Binary c.args.level)) (operator_tree c.args.at (operator_read c.args.operator) (tree_of c.args.left.tree)) (tree_of c.in_ok-right.right.tree) c.args.signs.now c.in_ok-right.rest.now _ c.with_operator.result c.with_operator.ensures (omega (arith, c.in_ok-right.ensures.shorter))
    (c.in_ok-right.ensures.tree)

pub operators::to_left-returns-in_err-left : goal.operators::to_left-returns-in_err-left
operators::to_left-returns-in_err-left t c =
    let lv : suc (c.args.level - 1) ≡ c.args.level = omega (arith, c.requires.level.0) in
    let p = err_from_is_err_and c.from_residual.result c.from_residual.ensures.1 in
    rw (p.1, p.2) (on_syntax_more _ (operand_none _ _ _ _ lv) c.in_err-left.ensures)

pub operators::to_left-loop-operator-init : goal.operators::to_left-loop-operator-init
operators::to_left-loop-operator-init t c =
    let lv : suc (c.args.level - 1) ≡ c.args.level = omega (arith, c.requires.level.0) in
    let h = c.in_ok-left.ensures in
    let low : tree_height (tree_of c.in_ok-left.left.tree) ≤ c.args.depth = h.tree.low in
    let stops : suc (c.args.level - 1) < front (read_signs c.in_ok-left.rest.now) = h.tree.stops in
    record {
      same = subst (λ (at : ℕ). Same c.args.depth (Binary c.args.level) (read_signs c.args.signs.now) (After c.args.level at (tree_of c.in_ok-left.left.tree)) (read_signs c.in_ok-left.rest.now)) (sym c.here-at.ensures)
          (same_operand _ _ _ _ lv _ _ h.tree);
      height = h.height;
      low = omega (arith, h.height, low);
      stops = omega (arith, stops);
      shorter = h.shorter;
    }

pub operators::to_left-returns-then-left-depth : goal.operators::to_left-returns-then-left-depth
operators::to_left-returns-then-left-depth t c =
    let lv : suc (c.args.level - 1) ≡ c.args.level = omega (arith, c.requires.level.0) in
    let i = c.loop-operator.invariant in
    let s = left_step _ _ c.args.depth c.here-at.result _ _ _ _ lv c.in-Some.ensures.found c.requires.side in
    refused _ _ c.refused_at.ensures (same_none i.same (s.high (subst (λ (n : ℕ). c.args.depth ≤ n) i.height c.if-left-depth.true)))

pub operators::to_left-returns-in_err-joined : goal.operators::to_left-returns-in_err-joined
operators::to_left-returns-in_err-joined t c =
    let lv : suc (c.args.level - 1) ≡ c.args.level = omega (arith, c.requires.level.0) in
    let s = left_step _ _ c.args.depth c.here-at.result _ _ _ _ lv c.in-Some.ensures.found c.requires.side in
    let p = err_from_is_err_and c.from_residual-in_err-joined.result c.from_residual-in_err-joined.ensures.1 in
    rw (p.1, p.2) (on_syntax_more _ (λ n. same_none c.loop-operator.invariant.same (s.refused n)) c.in_err-joined.ensures)

pub operators::to_left-loop-operator-preserved : goal.operators::to_left-loop-operator-preserved
operators::to_left-loop-operator-preserved t c =
    let lv : suc (c.args.level - 1) ≡ c.args.level = omega (arith, c.requires.level.0) in
    let s = left_step _ _ c.args.depth c.here-at.result _ _ _ _ lv c.in-Some.ensures.found c.requires.side in
    let i = c.loop-operator.invariant in
    let h = c.in_ok-joined.ensures in
    let stops : suc (c.args.level - 1) < front (read_signs c.in_ok-joined.later.now) = h.tree.read.stops in
    let low : tree_height h.tree.parts ≤ c.args.depth - 1 = h.tree.read.low in
    record {
      same = subst (λ (x : Tree). Same c.args.depth (Binary c.args.level) (read_signs c.args.signs.now) (After c.args.level c.here-at.result x) (read_signs c.in_ok-joined.later.now)) (sym h.tree.is)
          (same_then i.same (s.next _ _ h.tree.read));
      height = h.height;
      low = omega (arith, h.height, ap tree_height h.tree.is, joined_height c.here-at.result (operator_read c.in-Some.operator) (tree_of c.loop-operator.left.tree) h.tree.parts, i.height, c.if-left-depth.false, low);
      stops = omega (arith, stops);
      shorter = omega (arith, i.shorter, c.in-Some.ensures.shorter, h.shorter);
    }

pub operators::to_left-returns : goal.operators::to_left-returns
operators::to_left-returns t c =
    let i = c.loop-operator.invariant in
    let low : tree_height (tree_of c.loop-operator.left.tree) ≤ c.args.depth = omega (arith, i.height, i.low) in
    record { tree = i.same.back _ _ (after_ended _ _ _ _ _ c.requires.level.0 c.requires.level.1 low i.stops c.in_default.ensures); height = i.height; shorter = i.shorter }

pub operators::to_right-returns : goal.operators::to_right-returns
operators::to_right-returns t c =
    let lv : suc (c.args.level - 1) ≡ c.args.level = omega (arith, c.requires.level.0) in
    let s = right_step _ _ c.args.depth c.args.at _ _ _ _ lv c.in-Some.ensures.found c.requires.side in
    let low : tree_height (tree_of c.args.first.tree) < c.args.depth = omega (arith, c.requires.first, c.if-first-depth.false) in
    continued (Made (IsTree (c.args.depth - 1) (Binary c.args.level)) (operator_tree c.args.at (operator_read c.in-Some.operator) (tree_of c.args.first.tree))) (IsTree c.args.depth (After c.args.level c.args.at (tree_of c.args.first.tree))) c.in-Some.behind.now c.args.signs.now c.right_side.result c.right_side.ensures (omega (arith, c.in-Some.ensures.shorter))
    (λ e r o. subst (λ (x : Tree). IsTree c.args.depth (After c.args.level c.args.at (tree_of c.args.first.tree)) (read_signs c.args.signs.now) x r) (sym o.is) (s.made _ _ o.read low o.read.stops)) (λ n. s.refused n)

pub operators::binary-returns-then-level-eq4 : goal.operators::binary-returns-then-level-eq4
operators::binary-returns-then-level-eq4 t c =
    let lv : suc (c.args.level - 1) ≡ c.args.level = omega (arith, c.if-level-eq0.false) in
    gone_on (IsTree c.args.depth (After c.args.level c.here-at.result (tree_of c.in_ok-first.first.tree))) (IsTree c.args.depth (Binary c.args.level)) c.in_ok-first.rest.now c.args.signs.now c.once.result c.once.ensures (c.in_ok-first.ensures.shorter)
    (λ e s o. binary_tree _ _ _ _ lv _ _ c.in_ok-first.ensures.tree _ _
    (subst (λ (at : ℕ). IsTree c.args.depth (After c.args.level at (tree_of c.in_ok-first.first.tree)) (read_signs c.in_ok-first.rest.now) e s) c.here-at.ensures o)) (λ n. after_none _ _ _ _ lv _ _ c.in_ok-first.ensures.tree
    (subst (λ (at : ℕ). NoTree c.args.depth (After c.args.level at (tree_of c.in_ok-first.first.tree)) (read_signs c.in_ok-first.rest.now)) c.here-at.ensures n))

pub operators::binary-returns-else-level-eq4 : goal.operators::binary-returns-else-level-eq4
operators::binary-returns-else-level-eq4 t c =
    let lv : suc (c.args.level - 1) ≡ c.args.level = omega (arith, c.if-level-eq0.false) in
    gone_on (IsTree c.args.depth (After c.args.level c.here-at.result (tree_of c.in_ok-first.first.tree))) (IsTree c.args.depth (Binary c.args.level)) c.in_ok-first.rest.now c.args.signs.now c.to_right.result c.to_right.ensures (c.in_ok-first.ensures.shorter)
    (λ e s o. binary_tree _ _ _ _ lv _ _ c.in_ok-first.ensures.tree _ _
    (subst (λ (at : ℕ). IsTree c.args.depth (After c.args.level at (tree_of c.in_ok-first.first.tree)) (read_signs c.in_ok-first.rest.now) e s) c.here-at.ensures o)) (λ n. after_none _ _ _ _ lv _ _ c.in_ok-first.ensures.tree
    (subst (λ (at : ℕ). NoTree c.args.depth (After c.args.level at (tree_of c.in_ok-first.first.tree)) (read_signs c.in_ok-first.rest.now)) c.here-at.ensures n))

pub expressions::keyword_part-returns-in-Fun : goal.expressions::keyword_part-returns-in-Fun
expressions::keyword_part-returns-in-Fun t c =
    rw c.in-Fun.is (tree_more (Made (IsFun (c.args.depth - 1)) (fun_tree c.args.at)) (Past (Fixed c.args.at symbol.Fun) (IsTree c.args.depth Part)) c.args.signs.now c.args.signs.now c.fun.result c.fun.ensures (omega arith)
    (λ e s o. fun_back _ _ _ _ _ c.requires o) (fun_none _ _ _))

pub expressions::keyword_part-returns-in-Rec : goal.expressions::keyword_part-returns-in-Rec
expressions::keyword_part-returns-in-Rec t c =
    rw c.in-Rec.is (tree_more (Made (IsRec (c.args.depth - 1)) (rec_tree c.args.at)) (Past (Fixed c.args.at symbol.Rec) (IsTree c.args.depth Part)) c.args.signs.now c.args.signs.now c.rec.result c.rec.ensures (omega arith)
    (λ e s o. rec_back _ _ _ _ _ c.requires o) (rec_none _ _ _))

pub expressions::keyword_part-returns-in-If : goal.expressions::keyword_part-returns-in-If
expressions::keyword_part-returns-in-If t c =
    rw c.in-If.is (tree_more (Made (IsIf (c.args.depth - 1)) (if_tree c.args.at)) (Past (Fixed c.args.at symbol.If) (IsTree c.args.depth Part)) c.args.signs.now c.args.signs.now c.if_else.result c.if_else.ensures (omega arith)
    (λ e s o. if_back _ _ _ _ _ c.requires o) (if_none _ _ _))

pub expressions::keyword_part-returns-in-Marshal : goal.expressions::keyword_part-returns-in-Marshal
expressions::keyword_part-returns-in-Marshal t c =
    rw c.in-Marshal.is (tree_more (Made (IsMarshal (c.args.depth - 1)) (marshal_tree c.args.at)) (Past (Fixed c.args.at symbol.Marshal) (IsTree c.args.depth Part)) c.args.signs.now c.args.signs.now c.marshal.result c.marshal.ensures (omega arith)
    (λ e s o. marshal_back _ _ _ _ _ c.requires o) (marshal_none _ _ _))

pub expressions::keyword_part-returns-in-Unmarshal : goal.expressions::keyword_part-returns-in-Unmarshal
expressions::keyword_part-returns-in-Unmarshal t c =
    rw c.in-Unmarshal.is (tree_more (Made (IsUnmarshal (c.args.depth - 1)) (unmarshal_tree c.args.at)) (Past (Fixed c.args.at symbol.Unmarshal) (IsTree c.args.depth Part)) c.args.signs.now c.args.signs.now c.unmarshal.result c.unmarshal.ensures (omega arith)
    (λ e s o. unmarshal_back _ _ _ _ _ c.requires o) (unmarshal_none _ _ _))

pub expressions::keyword_part-returns-in-Raise : goal.expressions::keyword_part-returns-in-Raise
expressions::keyword_part-returns-in-Raise t c =
    rw c.in-Raise.is (tree_more (Made (IsRaise (c.args.depth - 1)) (raise_tree c.args.at)) (Past (Fixed c.args.at symbol.Raise) (IsTree c.args.depth Part)) c.args.signs.now c.args.signs.now c.raise.result c.raise.ensures (omega arith)
    (λ e s o. raise_back _ _ _ _ _ c.requires o) (raise_none _ _ _))

pub expressions::keyword_part-returns-in-Some : goal.expressions::keyword_part-returns-in-Some
expressions::keyword_part-returns-in-Some t c =
    rw c.in-Let.is (tree_more (Made (IsLetRec (c.args.depth - 1)) (let_rec_tree c.args.at)) (Past (Fixed c.args.at symbol.Let) (IsTree c.args.depth Part)) c.in-Some.behind.now c.args.signs.now c.let_rec.result c.let_rec.ensures (omega (arith, c.in-Some.ensures.shorter))
    (λ e s o. let_rec_back _ _ _ _ _ _ c.requires c.in-Some.ensures.found o) (let_rec_none _ _ _ _ c.in-Some.ensures.found))

pub expressions::keyword_part-returns-in-None : goal.expressions::keyword_part-returns-in-None
expressions::keyword_part-returns-in-None t c =
    rw c.in-Let.is (tree_more (Made (IsLet (c.args.depth - 1)) (let_tree c.args.at)) (Past (Fixed c.args.at symbol.Let) (IsTree c.args.depth Part)) c.args.signs.now c.args.signs.now c.let_in.result c.let_in.ensures (omega arith)
    (λ e s o. let_back _ _ _ _ _ c.requires o) (let_none _ _ _ c.in-None.ensures.found))

pub operators::compared-returns-in_err-joined : goal.operators::compared-returns-in_err-joined
operators::compared-returns-in_err-joined t c =
    let p = err_from_is_err_and c.from_residual.result c.from_residual.ensures.1 in
    rw (p.1, p.2) (on_syntax_more _ no_operand c.in_err-joined.ensures)

pub operators::compared-returns-in-Some : goal.operators::compared-returns-in-Some
operators::compared-returns-in-Some t c = refused _ _ c.refused_at.ensures (not_last c.in_ok-joined.ensures.tree.read c.in-Some.ensures.found)

pub operators::compared-returns-in-None : goal.operators::compared-returns-in-None
operators::compared-returns-in-None t c =
    let m = c.in_ok-joined.ensures.tree in
    record { tree = record { parts = m.parts; is = m.is; read = record { is = m.read; ends = c.in-None.ensures } }; height = c.in_ok-joined.ensures.height; shorter = c.in_ok-joined.ensures.shorter }

pub operators::once-returns : goal.operators::once-returns
operators::once-returns t c =
    let lv : suc (c.args.level - 1) ≡ c.args.level = omega (arith, c.requires.level.0) in
    let s = once_step _ _ c.args.depth c.args.at _ _ _ _ lv c.in-Some.ensures.found c.requires.side in
    let low : tree_height (tree_of c.args.first.tree) < c.args.depth = omega (arith, c.requires.first, c.if-first-depth.false) in
    continued (Made (IsLastOperand c.args.level (c.args.depth - 1)) (operator_tree c.args.at (operator_read c.in-Some.operator) (tree_of c.args.first.tree))) (IsTree c.args.depth (After c.args.level c.args.at (tree_of c.args.first.tree))) c.in-Some.behind.now c.args.signs.now c.compared.result c.compared.ensures (omega (arith, c.in-Some.ensures.shorter))
    (λ e r o.
    let stops : suc (c.args.level - 1) < front r = o.read.is.stops in
    let level : c.args.level < front r = omega (arith, stops) in
    subst (λ (x : Tree). IsTree c.args.depth (After c.args.level c.args.at (tree_of c.args.first.tree)) (read_signs c.args.signs.now) x r) (sym o.is) (s.made _ _ o.read.is low (past_operator _ _ c.requires.level.0 c.requires.level.1 level o.read.ends))) (λ n. s.ended (λ b r v h. n b r (record { is = v; ends = λ u m w. goes_on _ _ _ _ w h })))

pub expressions::tuple-loop-behind-init : goal.expressions::tuple-loop-behind-init
expressions::tuple-loop-behind-init t c =
    let h = c.in_ok-second.ensures in
    let parts = ap (map tree_of) c.in_ok-parts.ensures in
    let low : tree_height (tree_of c.in_ok-second.second.tree) ≤ c.args.depth = h.tree.low in
    record {
      read = second_read (Before Comma (IsTree c.args.depth Expr)) (Before Close (IsTree c.args.depth Expr)) h.tree parts;
      height = omega (arith, c.max-height.ensures, c.requires.first, h.height, ap (λ (l : List Tree). highest (trees l)) parts);
      low = omega (arith, c.max-height.ensures, c.requires.low, c.requires.small, low, h.height);
      shorter = h.shorter;
    }

pub expressions::sequence-loop-behind-init : goal.expressions::sequence-loop-behind-init
expressions::sequence-loop-behind-init t c =
    let h = c.in_ok-second.ensures in
    let parts = ap (map tree_of) c.in_ok-parts.ensures in
    let low : tree_height (tree_of c.in_ok-second.second.tree) ≤ c.args.depth = h.tree.low in
    record {
      read = second_read (Before Semicolon (IsTree c.args.depth Part)) (IsLastPart c.args.depth) h.tree parts;
      height = omega (arith, c.max-height.ensures, c.requires.first, h.height, ap (λ (l : List Tree). highest (trees l)) parts);
      low = omega (arith, c.max-height.ensures, c.requires.low, c.requires.small, low, h.height);
      shorter = h.shorter;
    }

pub expressions::opened-returns-in-Some : goal.expressions::opened-returns-in-Some
expressions::opened-returns-in-Some t c =
    made_read (Past (Fixed c.args.at Open) (IsTree c.args.depth Atom)) c.args.signs.now c.in-Some.rest.now _ _ c.unit.result c.unit.ensures c.in-Some.ensures.shorter (unit_tree _ _ _ _ _ c.requires c.in-Some.ensures.found refl)

pub expressions::opened-returns-in-Some-after : goal.expressions::opened-returns-in-Some-after
expressions::opened-returns-in-Some-after t c =
    tree_more (Made (Behind CloseSquare (IsAscribed Close)) (ExNil c.args.at)) (Past (Fixed c.args.at Open) (IsTree c.args.depth Atom)) c.in-Some-after.behind.now c.args.signs.now c.nil.result c.nil.ensures (omega (arith, c.in-Some-after.ensures.shorter))
    (λ e s o. nil_tree _ _ _ _ _ _ _ _ c.requires c.in-Some-after.ensures.found o.read.at o.read.then o.is) (nil_none _ _ _ _ c.in-Some-after.ensures.found)

pub expressions::opened-returns-in-Some-after-2 : goal.expressions::opened-returns-in-Some-after-2
expressions::opened-returns-in-Some-after-2 t c =
    tree_more (Made (IsAscribed Close) (ExAbsent c.args.at)) (Past (Fixed c.args.at Open) (IsTree c.args.depth Atom)) c.in-Some-after-2.behind.now c.args.signs.now c.absent.result c.absent.ensures (omega (arith, c.in-Some-after-2.ensures.shorter))
    (λ e s o. absent_tree _ _ _ _ _ _ _ c.requires c.in-Some-after-2.ensures.found o.read o.is) (absent_none _ _ _ _ c.in-Some-after-2.ensures.found)

pub expressions::enclosed-returns-in_err-first : goal.expressions::enclosed-returns-in_err-first
expressions::enclosed-returns-in_err-first t c =
    let p = err_from_is_err_and c.from_residual.result c.from_residual.ensures.1 in
    rw (p.1, p.2) (on_syntax_more _ (opened_none _ _ _ c.requires.unclosed c.requires.no_nil c.requires.no_absent) c.in_err-first.ensures)

pub expressions::enclosed-returns-in-Some : goal.expressions::enclosed-returns-in-Some
expressions::enclosed-returns-in-Some t c = record {
  tree = parens_tree _ _ _ c.requires.unclosed c.requires.no_nil c.requires.no_absent _ _ c.in_ok-first.ensures.tree _ c.in-Some.ensures.found;
  height = c.in_ok-first.ensures.height;
  shorter = omega (arith, c.in_ok-first.ensures.shorter, c.in-Some.ensures.shorter);
}

pub expressions::enclosed-returns-in_err-behind : goal.expressions::enclosed-returns-in_err-behind
expressions::enclosed-returns-in_err-behind t c =
    let p = err_from_is_err_and c.from_residual-in_err-behind.result c.from_residual-in_err-behind.ensures.1 in
    rw (p.1, p.2) (on_syntax_more _ (unclosed_none _ _ _ c.requires.unclosed c.requires.no_nil c.requires.no_absent _ _ c.in_ok-first.ensures.tree c.in_default.ensures.found) c.in_err-behind.ensures)

pub expressions::enclosed-returns-then-first-depth : goal.expressions::enclosed-returns-then-first-depth
expressions::enclosed-returns-then-first-depth t c =
    refused _ _ c.refused_at.ensures (tuple_high _ _ _ c.requires.unclosed c.requires.no_nil c.requires.no_absent _ _ c.in_ok-first.ensures.tree _ c.in_default.ensures.found c.in_ok-behind.ensures.found (subst (λ (n : ℕ). c.args.depth ≤ n) c.in_ok-first.ensures.height c.if-first-depth.true))

pub expressions::enclosed-returns : goal.expressions::enclosed-returns
expressions::enclosed-returns t c =
    let low : tree_height (tree_of c.in_ok-first.first.tree) < c.args.depth = omega (arith, c.in_ok-first.ensures.height, c.if-first-depth.false) in
    tree_more (Made (IsItems (c.args.depth - 1)) (tuple_tree c.args.at (tree_of c.in_ok-first.first.tree))) (Past (Fixed c.args.at Open) (IsTree c.args.depth Atom)) c.in_ok-behind.behind.now c.args.signs.now c.tuple.result c.tuple.ensures (omega (arith, c.in_ok-first.ensures.shorter, c.in_ok-behind.ensures.shorter))
    (λ e s o. tuple_made _ _ _ c.requires.unclosed c.requires.no_nil c.requires.no_absent _ _ c.in_ok-first.ensures.tree _ c.in_default.ensures.found c.in_ok-behind.ensures.found _ _ low o) (tuple_none _ _ _ c.requires.unclosed c.requires.no_nil c.requires.no_absent _ _ c.in_ok-first.ensures.tree _ c.in_default.ensures.found c.in_ok-behind.ensures.found)
