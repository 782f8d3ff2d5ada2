use Rattle.std.proofs.Common.{ℕ, ◌∷◌, arith}
use Rattle.std.proofs.lemmas.Result.{err_from_is_err_and}
use Rattle.ac_syntax.specs.Signs.{Fixed}
use Rattle.ac_syntax.specs.Programs.{ParsesFields}
use Rattle.ac_syntax.specs.ReadTrees.{field_tree_of}
use Rattle.ac_syntax.specs.declared.sign.Symbol.TheVariants.{Val}
use Rattle.ac_syntax.proofs.OnStop.{on_syntax_more, refused}
use Rattle.ac_parser_patterns.proofs.Passed.{reads_more}
use Rattle.ac_parser.specs.inner.ProgramParsing.{Anything, ItemAt}
use Rattle.ac_parser.proofs.Lists.{item_at, none_at}
use Rattle.ac_parser.proofs.ModuleSteps.{no_field_word, no_type_item, type_item}
use Rattle.ac_parser.proofs.modules.field.Goals as goal

pub returns-in_default-after : goal.returns-in_default-after
returns-in_default-after c = refused _ _ c.refused_at.ensures (no_field_word _ c.in_default.ensures.found c.in_default-after.ensures.found)

pub returns-in_err-found : goal.returns-in_err-found
returns-in_err-found c =
    let p = err_from_is_err_and c.from_residual.result c.from_residual.ensures.1 in
    rw (p.1, p.2) (on_syntax_more _ (no_type_item _ _ c.in-Some-after.ensures.found) c.in_err-found.ensures)

pub returns : goal.returns
returns c = record {
  found = type_item _ _ c.in-Some-after.ensures.found _ _ c.in_ok-found.ensures.found;
  shorter = omega (arith, c.in-Some-after.ensures.shorter, c.in_ok-found.ensures.shorter);
}

pub returns-in-Some : goal.returns-in-Some
returns-in-Some c =
    reads_more field_tree_of (λ ts x rest. (a : ℕ) → ItemAt ParsesFields (Fixed a Val ∷ ts) x rest) (ItemAt ParsesFields) c.in-Some.behind.now c.args.signs.now c.value_field.result c.value_field.ensures (omega (arith, c.in-Some.ensures.shorter))
    (λ x s o. item_at c.in-Some.ensures.found.is (o c.in-Some.ensures.found.at)) (λ n unended. none_at ParsesFields Anything c.in-Some.ensures.found.is (n c.in-Some.ensures.found.at))
