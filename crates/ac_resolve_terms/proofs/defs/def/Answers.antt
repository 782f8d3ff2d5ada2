use Rattle.std.proofs.Common.{◌∙◌, ap, sym, map}
use Rattle.std.specs.Prelude.{option_map}
use Rattle.ac_syntax.specs.Trees.{ModuleDef}
use Rattle.ac_syntax.specs.ReadTrees.{name_of, sig_tree_of, version_of, field_tree_of, def_kind_of}
use Rattle.ac_resolve_scopes.specs.Definitions.{def_in}
use Rattle.ac_resolve_names.specs.Fronts.{front_of}
use Rattle.ac_resolve_terms.proofs.defs.def.Goals as goal

pub returns-in_ok-made-in-Module : goal.returns-in_ok-made-in-Module
returns-in_ok-made-in-Module c =
    let S = front_of c.args.front.now in
    let d = c.args.tree.now in
    c.in_ok-made-in-Module.ensures d.at
    ∙ ap (λ fields. def_in S (ModuleDef d.at (name_of c.in-Module.name) (sig_tree_of c.in-Module.sig) (option_map version_of c.in-Module.version) (map field_tree_of fields))) c.as_slice.ensures
    ∙ ap (λ k. def_in S (def_kind_of d.at k)) (sym c.in-Module.is)

pub returns-in_ok-made-in-Import : goal.returns-in_ok-made-in-Import
returns-in_ok-made-in-Import c =
    let S = front_of c.args.front.now in
    let d = c.args.tree.now in
    c.in_ok-made-in-Import.ensures d.at ∙ ap (λ k. def_in S (def_kind_of d.at k)) (sym c.in-Import.is)
