use Rattle.std.proofs.Common.{◌∙◌, ap, arith}
use Rattle.std.proofs.lemmas.Result.{err_from_is_err_and}
use Rattle.ac_types.specs.Types.{Bytes}
use Rattle.ac_syntax.specs.Trees.{ExOf}
use Rattle.ac_syntax.specs.ReadTrees.{name_of}
use Rattle.ac_syntax.proofs.OnStop.{on_syntax_more}
use Rattle.ac_parser_patterns.proofs.ExprLaws.{tree_of-Of}
use Rattle.ac_parser_expressions.proofs.Atoms.{undotted_none, unnamed_none, field_leaf}
use Rattle.ac_parser_expressions.proofs.leaves.field.Goals as goal

pub returns-in_err-behind : goal.returns-in_err-behind
returns-in_err-behind c =
    let p = err_from_is_err_and c.from_residual.result c.from_residual.ensures.1 in
    rw (p.1, p.2) (on_syntax_more _ (undotted_none _ _ _) c.in_err-behind.ensures)

pub returns-in_err-field : goal.returns-in_err-field
returns-in_err-field c =
    let p = err_from_is_err_and c.from_residual-in_err-field.result c.from_residual-in_err-field.ensures.1 in
    rw (p.1, p.2) (on_syntax_more _ (unnamed_none _ _ _ _ c.in_ok-behind.ensures.found) c.in_err-field.ensures)

pub returns : goal.returns
returns c = record {
  found = field_leaf _ _ (name_of c.in_ok-field.field) _ _ _ _ c.in_ok-behind.ensures.found c.in_ok-field.ensures.found
      (tree_of-Of c.args.at _ c.in_ok-field.field ∙ ap (λ (w : Bytes). ExOf c.args.at (record { at = c.args.at; word = w }) (name_of c.in_ok-field.field)) c.in_ok-word.ensures);
  shorter = omega (arith, c.in_ok-behind.ensures.shorter, c.in_ok-field.ensures.shorter);
}
