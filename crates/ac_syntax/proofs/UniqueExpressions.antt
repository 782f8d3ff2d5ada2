-- Signs have at most one expression at their front behind which nothing goes on with it.
use Rattle.std.proofs.Common.{◌≡◌, ◌<◌, ℕ, List, Option, Some, refl, sym, ◌∙◌, ap, subst, arith}
use Rattle.ac_syntax.specs.Signs.{Sign}
use Rattle.ac_syntax.specs.Trees.{TypeTree, Tree, Trees, no_trees, tree, ArmTrees}
use Rattle.ac_syntax.specs.TypeForms.{IsType}
use Rattle.ac_syntax.specs.Expressions.{Operator, ToLeft, ToRight, Once, after_bar, Level, After, Args, Ending, Closed, Parses, alone, sequence, let_in, let_rec, fun, rec, if_else, marshal, unmarshal, raise, operators, binary, unary, stop, left, right, once, minus, negative, not_, app, some, exn_with_string, applied, no_argument, argument, number, string, true_, false_, unit, exn, var, of_module, parens, tuple, nil, none, match_with, try_with, ParsesParts, last_part, more_parts, ParsesItems, last_item, more_items, ParsesArms, last_arm, more_arms, front, Stops, IsExpr}
use Rattle.ac_syntax.proofs.Exceptions.{apart, nothing_there, same_value, close_is_no_comma, end_is_no_bar}
use Rattle.ac_syntax.proofs.UniqueTypes.{tail_eq, same_type}
use Rattle.ac_syntax.proofs.UniquePatterns.{same_pattern}
use Rattle.ac_syntax.proofs.Fronts.{begins_not, with_string_rank, atom_begins, atom_stops, argument_goes_on, semicolon_goes_on, operator_goes_on, front_stops, part_stops, number_alone}

pub record Same (j k : Ending) (e f : Tree) (r s : List Sign) : Type 0 where
  pub ending : j ≡ k
  pub tree : e ≡ f
  pub rest : r ≡ s

pub record SameAll (j k : Ending) (es fs : Trees) (r s : List Sign) : Type 0 where
  pub ending : j ≡ k
  pub trees : es ≡ fs
  pub rest : r ≡ s

pub record SameArms (es fs : ArmTrees) (r s : List Sign) : Type 0 where
  pub arms : es ≡ fs
  pub rest : r ≡ s

same_here : {e : Tree} {r : List Sign} → Same Closed Closed e e r r
same_here = record { ending = refl; tree = refl; rest = refl }

pub at_same : {l : Level} {k : Ending} {r s t : List Sign} {f : Tree} → r ≡ s → Parses l k s f t → Parses l k r f t
at_same {l} {k} {r} {s} {t} {f} e p = subst (λ (u : List Sign). Parses l k u f t) (sym e) p

parts_at_same : {k : Ending} {r s t : List Sign} {es : Trees} → r ≡ s → ParsesParts k s es t → ParsesParts k r es t
parts_at_same {k} {r} {s} {t} {es} e p = subst (λ (u : List Sign). ParsesParts k u es t) (sym e) p

items_at_same : {r s t : List Sign} {es : Trees} → r ≡ s → ParsesItems s es t → ParsesItems r es t
items_at_same {r} {s} {t} {es} e p = subst (λ (u : List Sign). ParsesItems u es t) (sym e) p

arms_at_same : {r s t : List Sign} {arms : ArmTrees} → r ≡ s → ParsesArms s arms t → ParsesArms r arms t
arms_at_same {r} {s} {t} {arms} e p = subst (λ (u : List Sign). ParsesArms u arms t) (sym e) p

pub type_at_same : {r s t : List Sign} {T : TypeTree} → r ≡ s → IsType s T t → IsType r T t
type_at_same {r} {s} {t} {T} e p = subst (λ (u : List Sign). IsType u T t) (sym e) p

-- what follows the same first operand and stands at the same place
same_place : {k at : ℕ} {j : Ending} {a b f : Tree} {r s t : List Sign} → a ≡ b → r ≡ s → Parses (After k at b) j s f t → Parses (After k at a) j r f t
same_place {k} {at} {j} {a} {b} {f} {r} {s} {t} part place p = at_same place (subst (λ (c : Tree). Parses (After k at c) j s f t) (sym part) p)

-- what follows the same function and stands at the same place
same_function : {at : ℕ} {j : Ending} {a b f : Tree} {r s t : List Sign} → a ≡ b → r ≡ s → Parses (Args at b) j s f t → Parses (Args at a) j r f t
same_function {at} {j} {a} {b} {f} {r} {s} {t} part place p = at_same place (subst (λ (c : Tree). Parses (Args at c) j s f t) (sym part) p)

left_right : {P : Type 0} → ToLeft ≡ ToRight → P
left_right e = cc

left_once : {P : Type 0} → ToLeft ≡ Once → P
left_once e = cc

right_once : {P : Type 0} → ToRight ≡ Once → P
right_once e = cc

same_operator : {n : ℕ} {o o' : Operator} {x : Option (ℕ × Operator)} → x ≡ Some (n, o) → x ≡ Some (n, o') → o ≡ o'
same_operator p q = ap (λ (x : ℕ × Operator). x.1) (same_value p q)

mutual
  pub unique : {l : Level} {j k : Ending} {ts r s : List Sign} {e f : Tree} → Parses l j ts e r → Parses l k ts f s → Stops l j r → Stops l k s → Same j k e f r s
  unique (alone p) (alone p') x y = unique p p' (part_stops p x) (part_stops p' y)
  unique (alone p) (sequence p' q') x y = semicolon_goes_on _ _ (unique p p' (part_stops p x) (omega arith)).rest x
  unique (sequence p q) (alone p') x y = semicolon_goes_on _ _ (sym (unique p p' (omega arith) (part_stops p' y)).rest) y
  unique (sequence p q) (sequence p' q') x y =
      let d = unique p p' (omega arith) (omega arith) in
      let h = unique_parts q (parts_at_same (tail_eq d.rest) q') x y in
      record { ending = h.ending; tree = let a = d.tree in let b = h.trees in cc; rest = h.rest }
  unique (let_in T p q) (let_in T' p' q') x y =
      let t = same_type T T' in
      let d = unique p (at_same (tail_eq t.rest) p') (omega arith) (omega arith) in
      let h = unique q (at_same (tail_eq d.rest) q') x y in
      record { ending = refl; tree = let c = t.tree in let a = d.tree in let b = h.tree in cc; rest = h.rest }
  unique (let_rec T U p q) (let_rec T' U' p' q') x y =
      let t = same_type T T' in
      let u = same_type U (type_at_same (tail_eq (tail_eq t.rest)) U') in
      let d = unique p (at_same (tail_eq u.rest) p') (omega arith) (omega arith) in
      let h = unique q (at_same (tail_eq d.rest) q') x y in
      record { ending = refl; tree = let c = t.tree in let g = u.tree in let a = d.tree in let b = h.tree in cc; rest = h.rest }
  unique (fun T p) (fun T' p') x y =
      let t = same_type T T' in
      let d = unique p (at_same (tail_eq (tail_eq t.rest)) p') x y in
      record { ending = refl; tree = let c = t.tree in let a = d.tree in cc; rest = d.rest }
  unique (rec T U p) (rec T' U' p') x y =
      let t = same_type T T' in
      let u = same_type U (type_at_same (tail_eq (tail_eq t.rest)) U') in
      let d = unique p (at_same (tail_eq u.rest) p') x y in
      record { ending = refl; tree = let c = t.tree in let g = u.tree in let a = d.tree in cc; rest = d.rest }
  unique (if_else p q v) (if_else p' q' v') x y =
      let d = unique p p' (omega arith) (omega arith) in
      let h = unique q (at_same (tail_eq d.rest) q') (omega arith) (omega arith) in
      let i = unique v (at_same (tail_eq h.rest) v') x y in
      record { ending = i.ending; tree = let c = d.tree in let a = h.tree in let b = i.tree in cc; rest = i.rest }
  unique (marshal p q T) (marshal p' q' T') x y =
      let d = unique p p' (atom_stops p) (atom_stops p') in
      let h = unique q (at_same d.rest q') (omega arith) (omega arith) in
      let t = same_type T (type_at_same (tail_eq h.rest) T') in
      record { ending = refl; tree = let a = d.tree in let b = h.tree in let c = t.tree in cc; rest = t.rest }
  unique (unmarshal p T) (unmarshal p' T') x y =
      let d = unique p p' (omega arith) (omega arith) in
      let t = same_type T (type_at_same (tail_eq d.rest) T') in
      record { ending = refl; tree = let a = d.tree in let c = t.tree in cc; rest = t.rest }
  unique (raise p T) (raise p' T') x y =
      let d = unique p p' (omega arith) (omega arith) in
      let t = same_type T (type_at_same (tail_eq d.rest) T') in
      record { ending = refl; tree = let a = d.tree in let c = t.tree in cc; rest = t.rest }
  unique (operators p) (operators p') x y = unique p p' x y
  unique (let_in T p q) (operators p') x y = begins_not p' (omega arith)
  unique (operators p) (let_in T' p' q') x y = begins_not p (omega arith)
  unique (let_rec T U p q) (operators p') x y = begins_not p' (omega arith)
  unique (operators p) (let_rec T' U' p' q') x y = begins_not p (omega arith)
  unique (fun T p) (operators p') x y = begins_not p' (omega arith)
  unique (operators p) (fun T' p') x y = begins_not p (omega arith)
  unique (rec T U p) (operators p') x y = begins_not p' (omega arith)
  unique (operators p) (rec T' U' p') x y = begins_not p (omega arith)
  unique (if_else p q v) (operators p') x y = begins_not p' (omega arith)
  unique (operators p) (if_else p' q' v') x y = begins_not p (omega arith)
  unique (marshal p q T) (operators p') x y = begins_not p' (omega arith)
  unique (operators p) (marshal p' q' T') x y = begins_not p (omega arith)
  unique (unmarshal p T) (operators p') x y = begins_not p' (omega arith)
  unique (operators p) (unmarshal p' T') x y = begins_not p (omega arith)
  unique (raise p T) (operators p') x y = begins_not p' (omega arith)
  unique (operators p) (raise p' T') x y = begins_not p (omega arith)
  unique (binary p q) (binary p' q') x y =
      let d = unique p p' (front_stops q x) (front_stops q' y) in unique q (same_place d.tree d.rest q') x y
  unique (unary p) (unary p') x y = unique p p' x y
  unique stop stop x y = same_here
  unique stop (left {p = n} {t = t} {ts = ts} is side p q) x y = operator_goes_on n t ts is x
  unique stop (right {p = n} {t = t} {ts = ts} is side p) x y = operator_goes_on n t ts is x
  unique stop (once {p = n} {t = t} {ts = ts} is side p) x y = operator_goes_on n t ts is x
  unique (left {p = n} {t = t} {ts = ts} is side p q) stop x y = operator_goes_on n t ts is y
  unique (right {p = n} {t = t} {ts = ts} is side p) stop x y = operator_goes_on n t ts is y
  unique (once {p = n} {t = t} {ts = ts} is side p) stop x y = operator_goes_on n t ts is y
  unique (left is side p q) (left is' side' p' q') x y =
      let o = same_operator is is' in
      let d = unique p p' (front_stops q x) (front_stops q' y) in
      unique q (same_place (let b = d.tree in cc) d.rest q') x y
  unique (left is side p q) (right is' side' p') x y = left_right (sym side ∙ side')
  unique (left is side p q) (once is' side' p') x y = left_once (sym side ∙ side')
  unique (right is side p) (left is' side' p' q') x y = left_right (sym side' ∙ side)
  unique (right is side p) (right is' side' p') x y =
      let o = same_operator is is' in
      let d = unique p p' x y in
      record { ending = refl; tree = let b = d.tree in cc; rest = d.rest }
  unique (right is side p) (once is' side' p') x y = right_once (sym side ∙ side')
  unique (once is side p) (left is' side' p' q') x y = left_once (sym side' ∙ side)
  unique (once is side p) (right is' side' p') x y = right_once (sym side' ∙ side)
  unique (once is side p) (once is' side' p') x y =
      let o = same_operator is is' in
      let d = unique p p' (omega arith) (omega arith) in
      record { ending = refl; tree = let b = d.tree in cc; rest = d.rest }
  unique (minus bare p) (minus bare' p') x y =
      let d = unique p p' x y in record { ending = refl; tree = let a = d.tree in cc; rest = d.rest }
  unique (minus bare p) negative x y = apart (sym bare ∙ number_alone p y)
  unique negative (minus bare p) x y = apart (sym bare ∙ number_alone p x)
  unique negative negative x y = same_here
  unique (not_ p) (not_ p') x y =
      let d = unique p p' x y in record { ending = refl; tree = let a = d.tree in cc; rest = d.rest }
  unique (app p) (app p') x y = unique p p' x y
  unique (minus bare p) (app p') x y = begins_not p' (omega arith)
  unique negative (app p') x y = begins_not p' (omega arith)
  unique (not_ p) (app p') x y = begins_not p' (omega arith)
  unique (app p) (minus bare p') x y = begins_not p (omega arith)
  unique (app p) negative x y = begins_not p (omega arith)
  unique (app p) (not_ p') x y = begins_not p (omega arith)
  unique (some p) (some p') x y =
      let d = unique p p' (atom_stops p) (atom_stops p') in record { ending = refl; tree = let a = d.tree in cc; rest = d.rest }
  unique (some p) (exn_with_string is p') x y = nothing_there is
  unique (some p) (applied p' q') x y = begins_not p' (omega arith)
  unique (exn_with_string is p) (some p') x y = nothing_there is
  unique (exn_with_string is p) (exn_with_string is' p') x y =
      let k = same_value is is' in
      let d = unique p p' (atom_stops p) (atom_stops p') in
      record { ending = refl; tree = let a = d.tree in cc; rest = d.rest }
  unique (exn_with_string {t = t} is p) (applied p' q') x y = begins_not p' (omega (arith, with_string_rank t is))
  unique (applied p q) (some p') x y = begins_not p (omega arith)
  unique (applied p q) (exn_with_string {t = t} is p') x y = begins_not p (omega (arith, with_string_rank t is))
  unique (applied p q) (applied p' q') x y =
      let d = unique p p' (atom_stops p) (atom_stops p') in unique q (same_function d.tree d.rest q') x y
  unique no_argument no_argument x y = same_here
  unique no_argument (argument p' q') x y = argument_goes_on _ (atom_begins p') x
  unique (argument p q) no_argument x y = argument_goes_on _ (atom_begins p) y
  unique (argument p q) (argument p' q') x y =
      let d = unique p p' (atom_stops p) (atom_stops p') in
      unique q (same_function (let a = d.tree in cc) d.rest q') x y
  unique number number x y = same_here
  unique string string x y = same_here
  unique true_ true_ x y = same_here
  unique false_ false_ x y = same_here
  unique unit unit x y = same_here
  unique var var x y = same_here
  unique of_module of_module x y = same_here
  unique (exn is) (exn is') x y = record { ending = refl; tree = let k = same_value is is' in cc; rest = refl }
  unique (exn is) true_ x y = nothing_there is
  unique true_ (exn is) x y = nothing_there is
  unique (exn is) false_ x y = nothing_there is
  unique false_ (exn is) x y = nothing_there is
  unique (exn is) unit x y = nothing_there is
  unique unit (exn is) x y = nothing_there is
  unique (exn is) (parens p) x y = nothing_there is
  unique (parens p) (exn is) x y = nothing_there is
  unique (exn is) (tuple p q) x y = nothing_there is
  unique (tuple p q) (exn is) x y = nothing_there is
  unique (exn is) (nil T) x y = nothing_there is
  unique (nil T) (exn is) x y = nothing_there is
  unique (exn is) (none T) x y = nothing_there is
  unique (none T) (exn is) x y = nothing_there is
  unique (exn is) (match_with p q) x y = nothing_there is
  unique (match_with p q) (exn is) x y = nothing_there is
  unique (exn is) (try_with p q) x y = nothing_there is
  unique (try_with p q) (exn is) x y = nothing_there is
  unique unit (parens p') x y = begins_not p' (omega arith)
  unique unit (tuple p' q') x y = begins_not p' (omega arith)
  unique (parens p) unit x y = begins_not p (omega arith)
  unique (parens p) (nil T) x y = begins_not p (omega arith)
  unique (parens p) (none T) x y = begins_not p (omega arith)
  unique (parens p) (parens p') x y =
      let d = unique p p' (omega arith) (omega arith) in record { ending = refl; tree = d.tree; rest = tail_eq d.rest }
  unique (parens p) (tuple p' q') x y = close_is_no_comma (unique p p' (omega arith) (omega arith)).rest
  unique (tuple p q) unit x y = begins_not p (omega arith)
  unique (tuple p q) (nil T) x y = begins_not p (omega arith)
  unique (tuple p q) (none T) x y = begins_not p (omega arith)
  unique (tuple p q) (parens p') x y = close_is_no_comma (sym (unique p p' (omega arith) (omega arith)).rest)
  unique (tuple p q) (tuple p' q') x y =
      let d = unique p p' (omega arith) (omega arith) in
      let h = unique_items q (items_at_same (tail_eq d.rest) q') in
      record { ending = refl; tree = let a = d.tree in let b = h.trees in cc; rest = h.rest }
  unique (nil T) (nil T') x y =
      let t = same_type T T' in record { ending = refl; tree = let c = t.tree in cc; rest = tail_eq t.rest }
  unique (nil T) (parens p') x y = begins_not p' (omega arith)
  unique (nil T) (tuple p' q') x y = begins_not p' (omega arith)
  unique (none T) (none T') x y =
      let t = same_type T T' in record { ending = refl; tree = let c = t.tree in cc; rest = tail_eq t.rest }
  unique (none T) (parens p') x y = begins_not p' (omega arith)
  unique (none T) (tuple p' q') x y = begins_not p' (omega arith)
  unique (match_with p q) (match_with p' q') x y =
      let d = unique p p' (omega arith) (omega arith) in
      let h = unique_arms q (arms_at_same (ap after_bar (tail_eq d.rest)) q') in
      record { ending = refl; tree = let a = d.tree in let b = h.arms in cc; rest = h.rest }
  unique (try_with p q) (try_with p' q') x y =
      let d = unique p p' (omega arith) (omega arith) in
      let h = unique_arms q (arms_at_same (ap after_bar (tail_eq d.rest)) q') in
      record { ending = refl; tree = let a = d.tree in let b = h.arms in cc; rest = h.rest }

  pub unique_parts : {j k : Ending} {ts r s : List Sign} {es fs : Trees} → ParsesParts j ts es r → ParsesParts k ts fs s → 8 < front r → 8 < front s → SameAll j k es fs r s
  unique_parts (last_part p) (last_part p') x y =
      let d = unique p p' (part_stops p x) (part_stops p' y) in
      record { ending = d.ending; trees = ap (λ (t : Tree). tree t no_trees) d.tree; rest = d.rest }
  unique_parts (last_part p) (more_parts p' q') x y = semicolon_goes_on _ _ (unique p p' (part_stops p x) (omega arith)).rest x
  unique_parts (more_parts p q) (last_part p') x y = semicolon_goes_on _ _ (sym (unique p p' (omega arith) (part_stops p' y)).rest) y
  unique_parts (more_parts p q) (more_parts p' q') x y =
      let d = unique p p' (omega arith) (omega arith) in
      let h = unique_parts q (parts_at_same (tail_eq d.rest) q') x y in
      record { ending = h.ending; trees = let a = d.tree in let b = h.trees in cc; rest = h.rest }

  pub unique_items : {ts r s : List Sign} {es fs : Trees} → ParsesItems ts es r → ParsesItems ts fs s → SameAll Closed Closed es fs r s
  unique_items (last_item p) (last_item p') =
      let d = unique p p' (omega arith) (omega arith) in
      record { ending = refl; trees = ap (λ (t : Tree). tree t no_trees) d.tree; rest = tail_eq d.rest }
  unique_items (last_item p) (more_items p' q') = close_is_no_comma (unique p p' (omega arith) (omega arith)).rest
  unique_items (more_items p q) (last_item p') = close_is_no_comma (sym (unique p p' (omega arith) (omega arith)).rest)
  unique_items (more_items p q) (more_items p' q') =
      let d = unique p p' (omega arith) (omega arith) in
      let h = unique_items q (items_at_same (tail_eq d.rest) q') in
      record { ending = refl; trees = let a = d.tree in let b = h.trees in cc; rest = h.rest }

  pub unique_arms : {ts r s : List Sign} {es fs : ArmTrees} → ParsesArms ts es r → ParsesArms ts fs s → SameArms es fs r s
  unique_arms (last_arm P p) (last_arm P' p') =
      let t = same_pattern P P' in
      let d = unique p (at_same (tail_eq t.rest) p') (omega arith) (omega arith) in
      record { arms = let a = t.tree in let b = d.tree in cc; rest = tail_eq d.rest }
  unique_arms (last_arm P p) (more_arms P' p' q') =
      let t = same_pattern P P' in end_is_no_bar (unique p (at_same (tail_eq t.rest) p') (omega arith) (omega arith)).rest
  unique_arms (more_arms P p q) (last_arm P' p') =
      let t = same_pattern P P' in end_is_no_bar (sym (unique p (at_same (tail_eq t.rest) p') (omega arith) (omega arith)).rest)
  unique_arms (more_arms P p q) (more_arms P' p' q') =
      let t = same_pattern P P' in
      let d = unique p (at_same (tail_eq t.rest) p') (omega arith) (omega arith) in
      let h = unique_arms q (arms_at_same (tail_eq d.rest) q') in
      record { arms = let a = t.tree in let b = d.tree in let c = h.arms in cc; rest = h.rest }

pub same_expr : {ts r s : List Sign} {e f : Tree} → IsExpr ts e r → IsExpr ts f s → (e ≡ f) × (r ≡ s)
same_expr p q = let d = unique p.parses q.parses p.stops q.stops in (d.tree, d.rest)
