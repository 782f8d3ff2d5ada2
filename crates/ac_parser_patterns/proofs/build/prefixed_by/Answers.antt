use Rattle.std.proofs.Common.{◌∙◌, ap, sym, arith}
use Rattle.ac_syntax.specs.Trees.{tree_height}
use Rattle.ac_syntax.specs.ReadTrees.{tree_of}
use Rattle.ac_parser_patterns.specs.declared.front.Prefix.{Prefix}
use Rattle.ac_parser_patterns.specs.Forms.{prefixed}
use Rattle.ac_parser_patterns.proofs.ExprLaws.{expr_kind_of-ExnOf}
use Rattle.ac_parser_patterns.proofs.Passed.{made_found}
use Rattle.ac_parser_patterns.proofs.build.prefixed_by.Goals as goal

pub made-requires-in-Exn : goal.made-requires-in-Exn
made-requires-in-Exn c = omega (arith, c.requires.item, ap tree_height (expr_kind_of-ExnOf c.args.at c.in-Exn.exn c.args.item.tree))

pub returns-in-Exn : goal.returns-in-Exn
returns-in-Exn c =
    let is = expr_kind_of-ExnOf c.args.at c.in-Exn.exn c.args.item.tree
    ∙ sym (ap (λ (x : Prefix). prefixed x c.args.at (tree_of c.args.item.tree)) c.in-Exn.is) in
    made_found _ _ _ _ _ c.made-in-Exn.result c.made-in-Exn.ensures is (sym c.begins_atom.ensures ∙ c.if-begins_atom.false)
