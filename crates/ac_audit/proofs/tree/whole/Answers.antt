use Rattle.std.proofs.Common.{◌∙◌, ap, subst, List}
use Rattle.ac_syntax.specs.ReadSigns.{read_signs}
use Rattle.ac_syntax.specs.ReadTrees.{type_tree_of}
use Rattle.ac_syntax.specs.Signs.{Sign, signs}
use Rattle.ac_syntax.specs.TypeForms.{IsType}
use Rattle.ac_syntax.specs.Trees.{TypeTree}
use Rattle.ac_audit.proofs.TreeLaws.{more_behind, some_left}
use Rattle.ac_audit.proofs.tree.whole.Goals as goal

pub returns-clause-none : goal.returns-clause-none
returns-clause-none c =
    let tree : TypeTree = type_tree_of c.in_ok-ty.ty.tree in
    let rest : List Sign = read_signs c.in_ok-ty.rest.now in
    let is : IsType (signs c.args.tokens.now) tree rest =
    subst (λ (ts : List Sign). IsType ts tree rest) (ap read_signs c.as_slice.ensures.value ∙ c.in_ok-all.ensures) c.in_ok-ty.ensures.tree in
    rw c.refused_at.ensures (more_behind (signs c.args.tokens.now) rest tree is (some_left c.in_ok-ty.rest.now c.if-is_empty.ensures))
