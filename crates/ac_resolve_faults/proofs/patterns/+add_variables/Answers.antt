use Rattle.std.proofs.Common.{◌≡◌, ◌∙◌, ap, sym, refl, arith, rules, ◌++◌, [], ◌∷◌, length, map, List}
use Rattle.std.proofs.lemmas.List.{map-append}
use Rattle.ac_syntax.specs.declared.surface.SPat.{SPat}
use Rattle.ac_syntax.specs.Trees.{NameAt, pat_trees}
use Rattle.ac_syntax.specs.ReadTrees.{name_of, pat_of}
use Rattle.ac_resolve_scopes.specs.Written.{pattern_names, pattern_names_of_all}
use Rattle.ac_resolve_signatures.specs.declared.named.Named.{Named}
use Rattle.ac_resolve_signatures.specs.Reads.{named}
use Rattle.ac_types.proofs.Loops.{lengthened, lengthened_all}
use Rattle.ac_resolve_faults.proofs.Forms.{pat_forms}
use Rattle.ac_resolve_faults.proofs.patterns.+add_variables.Goals as goal

abbrev of_all : List SPat → List NameAt
of_all ps = pattern_names_of_all (pat_trees (map pat_of ps))

-- the names, and one more behind them
one_more : (old new : List Named) (x : Named) (name : NameAt) (names : List NameAt) → new ≡ old ++ x ∷ [] → named x ≡ name → names ≡ name ∷ [] → map named new ≡ map named old ++ names
one_more old new x name names pushed is one =
    ap (map named) pushed ∙ map-append named old (x ∷ []) ∙ ap (λ n. map named old ++ n ∷ []) is ∙ ap (λ ns. map named old ++ ns) (sym one)

pub add_variables-returns-in_ok-push-in-Var : goal.add_variables-returns-in_ok-push-in-Var
add_variables-returns-in_ok-push-in-Var t c =
    let one : pattern_names (pat_of c.args.tree.now) ≡ name_of c.in-Var.name ∷ [] = search (rules, pat_forms) in
    one_more c.args.names.now.items c.push.new.self.items c.of.result _ _ c.in_ok-push-in-Var.ensures.items c.of.ensures one

pub add_variables_of_all-loop-tree-preserved : goal.add_variables_of_all-loop-tree-preserved
add_variables_of_all-loop-tree-preserved t c =
    lengthened of_all (λ p. pattern_names (pat_of p)) (λ p ps. refl) _ (map named c.loop-tree.names.items) _ _ _ _ c.loop-tree-test.true c.tree-item.is c.loop-tree.invariant c.in_ok-add_variables.ensures

pub add_variables_of_all-returns : goal.add_variables_of_all-returns
add_variables_of_all-returns t c = let e : c.loop-tree.tree-index ≡ length c.args.trees.now = omega arith in lengthened_all of_all _ (map named c.loop-tree.names.items) _ _ refl e c.loop-tree.invariant
