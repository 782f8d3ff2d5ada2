use Rattle.std.proofs.Common.{◌≡◌}
use Rattle.std.proofs.lemmas.Result.{err_from_is_err_and}
use Rattle.ac_syntax.specs.ReadTrees.{type_tree_of}
use Rattle.ac_terms.specs.Read.{environment_of}
use Rattle.ac_load.specs.Kinds.{fault_kind}
use Rattle.ac_resolve_terms.proofs.Kept.{all_named}
use Rattle.ac_audit.proofs.TypeLaws.{no_tree_there, bad_names_there}
use Rattle.ac_audit.proofs.texts.load_type.Goals as goal

pub returns-in_err-tree-clause-refused : goal.returns-in_err-tree-clause-refused
returns-in_err-tree-clause-refused c =
    let p = err_from_is_err_and c.from_residual.result c.from_residual.ensures.1 in
    rw (p.1, p.2) (no_tree_there (environment_of c.args.loaded.now.env) c.args.text.now c.in_err-tree.field-0.0 c.in_err-tree.ensures.fault)

pub elaborate_type-requires-clause-names : goal.elaborate_type-requires-clause-names
elaborate_type-requires-clause-names c = all_named (environment_of c.args.loaded.now.env) c.requires.named

pub returns-clause-refused : goal.returns-clause-refused
returns-clause-refused c =
    let is : c.from.result ≡ fault_kind c.in-Err.fault = c.from.ensures in
    rw is (bad_names_there (environment_of c.args.loaded.now.env) c.args.text.now (type_tree_of c.in_ok-tree.tree) c.in-Err.fault c.in_ok-tree.ensures.tree c.in-Err.ensures.refused)
