use Rattle.std.proofs.Common.{◌≡◌, ◌<◌, ◌≤◌, ◌+◌, ◌*◌, ◌-◌, ◌^◌, map, length}
use Rattle.ac_syntax.specs.Trees.{trees, arm_trees, tree_height, highest, highest_arm}
use Rattle.ac_syntax.specs.Expressions.{Binary, After, App, Args, front}
use Rattle.ac_syntax.specs.ReadSigns.{read_signs}
use Rattle.ac_syntax.specs.ReadTrees.{tree_of, arm_tree_of}
use Rattle.ac_parser_expressions.specs.inner.Levels.{Same}
use Rattle.ac_parser_expressions.proofs.Atoms.{ItemsSoFar, PartsSoFar, ArmsSoFar}
use Rattle.ac_parser_expressions.proofs.+expressions.Given as goal

-- thirty for each sign, and two for each level
abbrev pub decreases-expressions::atom : goal.decreases-expressions::atom
decreases-expressions::atom l = 30 * length l.signs.now

abbrev pub decreases-expressions::arm : goal.decreases-expressions::arm
decreases-expressions::arm l = 30 * length l.signs.now

abbrev pub decreases-expressions::arms : goal.decreases-expressions::arms
decreases-expressions::arms l = 30 * length l.signs.now + 1

abbrev pub decreases-expressions::next_argument : goal.decreases-expressions::next_argument
decreases-expressions::next_argument l = 30 * length l.signs.now + 1

abbrev pub decreases-expressions::applied : goal.decreases-expressions::applied
decreases-expressions::applied l = 30 * length l.signs.now + 2

abbrev pub decreases-expressions::app : goal.decreases-expressions::app
decreases-expressions::app l = 30 * length l.signs.now + 3

abbrev pub decreases-operators::unary : goal.decreases-operators::unary
decreases-operators::unary l = 30 * length l.signs.now + 4

abbrev pub decreases-operators::minus : goal.decreases-operators::minus
decreases-operators::minus l = 30 * length l.signs.now + 5

abbrev pub decreases-operators::to_left : goal.decreases-operators::to_left
decreases-operators::to_left l = 30 * length l.signs.now + 5 + 2 * l.level

abbrev pub decreases-operators::to_right : goal.decreases-operators::to_right
decreases-operators::to_right l = 30 * length l.signs.now

abbrev pub decreases-operators::once : goal.decreases-operators::once
decreases-operators::once l = 30 * length l.signs.now

abbrev pub decreases-operators::binary : goal.decreases-operators::binary
decreases-operators::binary l = 30 * length l.signs.now + 6 + 2 * l.level

abbrev pub decreases-operators::right_side : goal.decreases-operators::right_side
decreases-operators::right_side l = 30 * length l.signs.now + 7 + 2 * l.level

abbrev pub decreases-operators::compared : goal.decreases-operators::compared
decreases-operators::compared l = 30 * length l.signs.now + 7 + 2 * l.level

abbrev pub decreases-expressions::part : goal.decreases-expressions::part
decreases-expressions::part l = 30 * length l.signs.now + 19

abbrev pub decreases-expressions::expr : goal.decreases-expressions::expr
decreases-expressions::expr l = 30 * length l.signs.now + 20

abbrev pub decreases-expressions::sequence : goal.decreases-expressions::sequence
decreases-expressions::sequence l = 30 * length l.signs.now + 20

abbrev pub decreases-expressions::before : goal.decreases-expressions::before
decreases-expressions::before l = 30 * length l.signs.now + 21

abbrev pub decreases-expressions::tuple : goal.decreases-expressions::tuple
decreases-expressions::tuple l = 30 * length l.signs.now + 21

abbrev pub decreases-expressions::enclosed : goal.decreases-expressions::enclosed
decreases-expressions::enclosed l = 30 * length l.signs.now + 21

abbrev pub decreases-expressions::opened : goal.decreases-expressions::opened
decreases-expressions::opened l = 30 * length l.signs.now + 22

abbrev pub decreases-expressions::choice : goal.decreases-expressions::choice
decreases-expressions::choice l = 30 * length l.signs.now + 22

abbrev pub decreases-expressions::let_in : goal.decreases-expressions::let_in
decreases-expressions::let_in l = 30 * length l.signs.now + 22

abbrev pub decreases-expressions::let_rec : goal.decreases-expressions::let_rec
decreases-expressions::let_rec l = 30 * length l.signs.now + 22

abbrev pub decreases-expressions::fun : goal.decreases-expressions::fun
decreases-expressions::fun l = 30 * length l.signs.now + 22

abbrev pub decreases-expressions::rec : goal.decreases-expressions::rec
decreases-expressions::rec l = 30 * length l.signs.now + 22

abbrev pub decreases-expressions::if_else : goal.decreases-expressions::if_else
decreases-expressions::if_else l = 30 * length l.signs.now + 22

abbrev pub decreases-expressions::marshal : goal.decreases-expressions::marshal
decreases-expressions::marshal l = 30 * length l.signs.now + 22

abbrev pub decreases-expressions::unmarshal : goal.decreases-expressions::unmarshal
decreases-expressions::unmarshal l = 30 * length l.signs.now + 22

abbrev pub decreases-expressions::raise : goal.decreases-expressions::raise
decreases-expressions::raise l = 30 * length l.signs.now + 22

abbrev pub decreases-expressions::keyword_part : goal.decreases-expressions::keyword_part
decreases-expressions::keyword_part l = 30 * length l.signs.now + 23

abbrev pub invariant-operators::to_left-loop-operator : goal.invariant-operators::to_left-loop-operator
invariant-operators::to_left-loop-operator l = record {
  same : Same l.depth (Binary l.level) (read_signs l.signs) (After l.level l.at (tree_of l.left.tree)) (read_signs l.rest);
  height : l.left.height ≡ tree_height (tree_of l.left.tree);
  low : l.left.height ≤ l.depth;
  stops : l.level < front (read_signs l.rest);
  shorter : length l.rest < length l.signs;
}

abbrev pub decreases-operators::to_left-loop-operator : goal.decreases-operators::to_left-loop-operator
decreases-operators::to_left-loop-operator l = length l.rest

abbrev pub invariant-expressions::applied-loop-alloc : goal.invariant-expressions::applied-loop-alloc
invariant-expressions::applied-loop-alloc l = record {
  same : Same l.depth App (read_signs l.signs) (Args l.at (tree_of l.function.tree)) (read_signs l.rest);
  height : l.function.height ≡ tree_height (tree_of l.function.tree);
  low : l.function.height ≤ l.depth;
  shorter : length l.rest < length l.signs;
}

abbrev pub decreases-expressions::applied-loop-alloc : goal.decreases-expressions::applied-loop-alloc
decreases-expressions::applied-loop-alloc l = length l.rest

abbrev pub invariant-expressions::tuple-loop-behind : goal.invariant-expressions::tuple-loop-behind
invariant-expressions::tuple-loop-behind l = record {
  read : ItemsSoFar l.depth (tree_of l.fn.first.tree) (read_signs l.signs) (map tree_of l.parts) (read_signs l.rest);
  height : l.height ≡ highest (trees (map tree_of l.parts));
  low : l.height < 2 ^ 32 - 1;
  shorter : length l.rest < length l.signs;
}

abbrev pub decreases-expressions::tuple-loop-behind : goal.decreases-expressions::tuple-loop-behind
decreases-expressions::tuple-loop-behind l = length l.rest

abbrev pub invariant-expressions::sequence-loop-behind : goal.invariant-expressions::sequence-loop-behind
invariant-expressions::sequence-loop-behind l = record {
  read : PartsSoFar l.depth (tree_of l.fn.first.tree) (read_signs l.signs) (map tree_of l.parts) (read_signs l.rest);
  height : l.height ≡ highest (trees (map tree_of l.parts));
  low : l.height < 2 ^ 32 - 1;
  shorter : length l.rest < length l.signs;
}

abbrev pub decreases-expressions::sequence-loop-behind : goal.decreases-expressions::sequence-loop-behind
decreases-expressions::sequence-loop-behind l = length l.rest

abbrev pub invariant-expressions::arms-loop-behind : goal.invariant-expressions::arms-loop-behind
invariant-expressions::arms-loop-behind l = record {
  read : ArmsSoFar l.depth (read_signs l.signs) (map arm_tree_of l.arms) (read_signs l.rest);
  height : l.height ≡ highest_arm (arm_trees (map arm_tree_of l.arms));
  low : l.height ≤ l.depth;
  shorter : length l.rest < length l.signs;
}

abbrev pub decreases-expressions::arms-loop-behind : goal.decreases-expressions::arms-loop-behind
decreases-expressions::arms-loop-behind l = length l.rest
