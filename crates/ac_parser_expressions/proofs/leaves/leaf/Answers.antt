use Rattle.std.proofs.Common.{rules, ◌∷◌, ◌∙◌, ap, sym, subst, w64, ℤ, FitsSigned}
use Rattle.std.proofs.lemmas.Int.{to_z-of_z}
use Rattle.ac_syntax.specs.Trees.{ExInt, ExStr, ExVar}
use Rattle.ac_syntax.specs.ReadSigns.{read_kind, read_signs}
use Rattle.ac_syntax.specs.declared.sign.SignKind.{SignKind}
use Rattle.ac_syntax.specs.ReadTrees.{tree_of}
use Rattle.ac_syntax.specs.declared.surface.SExprKind.{Int}
use Rattle.ac_syntax.specs.declared.surface.SExprKind.TheViews.{roll-SExpr}
use Rattle.ac_syntax.proofs.OnStop.{refused}
use Rattle.ac_parser_expressions.specs.inner.Levels.{FormLeafAt}
use Rattle.ac_parser_patterns.proofs.ExprLaws.{tree_of-Int, tree_of-Str, tree_of-Var, tree_of-kind}
use Rattle.ac_parser_expressions.proofs.Atoms.{int_leaf, str_leaf, var_leaf, base_leaf, no_base_leaf}
use Rattle.ac_parser_expressions.proofs.leaves.leaf.Goals as goal

pub returns-in_ok-constant-in-Int : goal.returns-in_ok-constant-in-Int
returns-in_ok-constant-in-Int c =
    let f : FitsSigned w64 c.in_ok-constant-in-Int.field-0 = search rules in
    record {
      found = subst (λ (z : ℤ). FormLeafAt (read_signs c.args.signs.now) (tree_of (roll-SExpr (record { at = c.in-Some.first.at; kind = Int z }))) (read_signs c.in-Some.rest.now)) (sym (to_z-of_z w64 c.in_ok-constant-in-Int.field-0 f))
          (int_leaf _ c.in-Some.first.at _ _ _ (c.in-Some.ensures.first ∙ ap (λ (k : SignKind). read_kind c.in-Some.first.at k ∷ read_signs c.in-Some.rest.now) c.in-Int.is)
          (tree_of-Int c.in-Some.first.at c.in_ok-constant-in-Int.field-0 ∙ ap (ExInt c.in-Some.first.at) c.in_ok-constant-in-Int.ensures));
      shorter = c.in-Some.ensures.shorter;
    }

pub returns-in_ok-copy-in-Str : goal.returns-in_ok-copy-in-Str
returns-in_ok-copy-in-Str c = record {
  found = str_leaf _ c.in-Some.first.at _ _ _ (c.in-Some.ensures.first ∙ ap (λ (k : SignKind). read_kind c.in-Some.first.at k ∷ read_signs c.in-Some.rest.now) c.in-Str.is)
      (tree_of-Str c.in-Some.first.at _ ∙ ap (λ t. ExStr c.in-Some.first.at t.0) c.in_ok-copy-in-Str.ensures);
  shorter = c.in-Some.ensures.shorter;
}

pub returns-in_ok-copy-in-Lower : goal.returns-in_ok-copy-in-Lower
returns-in_ok-copy-in-Lower c = record {
  found = var_leaf _ c.in-Some.first.at _ _ _ (c.in-Some.ensures.first ∙ ap (λ (k : SignKind). read_kind c.in-Some.first.at k ∷ read_signs c.in-Some.rest.now) c.in-Lower.is)
      (tree_of-Var c.in-Some.first.at _ ∙ ap (ExVar c.in-Some.first.at) c.in_ok-copy-in-Lower.ensures);
  shorter = c.in-Some.ensures.shorter;
}

pub returns-in-Some-base_kind : goal.returns-in-Some-base_kind
returns-in-Some-base_kind c = record {
  found = base_leaf c.in-Some.first.at c.in-Fixed.symbol _ _ _ _ (c.in-Some.ensures.first ∙ ap (λ (k : SignKind). read_kind c.in-Some.first.at k ∷ read_signs c.in-Some.rest.now) c.in-Fixed.is)
      (c.in-Some-base_kind.ensures c.in-Some.first.at) (tree_of-kind c.in-Some.first.at c.in-Some-base_kind.kind);
  shorter = c.in-Some.ensures.shorter;
}

pub returns-in-None : goal.returns-in-None
returns-in-None c =
    refused _ _ c.refused_at-in-None.ensures
    (no_base_leaf c.in-Some.first.at c.in-Fixed.symbol _ _ (c.in-Some.ensures.first ∙ ap (λ (k : SignKind). read_kind c.in-Some.first.at k ∷ read_signs c.in-Some.rest.now) c.in-Fixed.is) (c.in-None.ensures c.in-Some.first.at))
