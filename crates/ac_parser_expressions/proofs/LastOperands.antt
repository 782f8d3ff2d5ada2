-- What isn't read as the last operand of its level.
use Rattle.std.proofs.Common.{◌-◌, ℕ, List, subst}
use Rattle.ac_syntax.specs.Signs.{Sign}
use Rattle.ac_syntax.specs.Trees.{Tree}
use Rattle.ac_syntax.specs.Expressions.{Operator, Binary, IsTree}
use Rattle.ac_parser_expressions.specs.inner.Levels.{NoTree, OperatorAt, IsLastOperand}
use Rattle.ac_parser_patterns.specs.Reading.{Nothing}
use Rattle.ac_parser_expressions.proofs.Levels.{one_tree}

pub no_operand : {level depth : ℕ} {ts : List Sign} → NoTree depth (Binary (level - 1)) ts → Nothing (IsLastOperand level depth) ts
no_operand none' e s o = none' e s o.is

pub not_last : {level depth : ℕ} {o : Operator} {b : Tree} {ts rest behind : List Sign} → IsTree depth (Binary (level - 1)) ts b rest → OperatorAt level o rest behind → Nothing (IsLastOperand level depth) ts
not_last {level} {depth} {o} {behind = behind} v w e s l =
    let d = one_tree depth (Binary (level - 1)) _ _ _ _ _ v l.is in
    l.ends o behind (subst (λ (m : List Sign). OperatorAt level o m behind) d.1 w)
