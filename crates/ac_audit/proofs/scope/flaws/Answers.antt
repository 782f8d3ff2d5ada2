use Rattle.std.proofs.Common.{◌∙◌, ap, List, map}
use Rattle.ac_syntax.specs.ReadTrees.{type_tree_of}
use Rattle.ac_terms.specs.Read.{environment_of, entry_of}
use Rattle.ac_terms.specs.declared.def.Entry.{Entry}
use Rattle.ac_resolve_signatures.specs.KnownScopes.{KnownScope, known_outside}
use Rattle.ac_resolve_signatures.specs.EntriesInFront.{past_entries, no_outer}
use Rattle.ac_resolve_signatures.specs.TypeFlaws.{type_flaws}
use Rattle.ac_audit.proofs.OwnLaws.{faults_are}
use Rattle.ac_audit.proofs.scope.flaws.Goals as goal

pub returns : goal.returns
returns c =
    let tree = type_tree_of c.args.tree.now in
    let seen = c.in_ok-externals.ensures ∙ ap (λ (es : List Entry). past_entries no_outer (map entry_of es)) c.entries.ensures in
    c.type_flaws.ensures
    ∙ ap (λ (k : KnownScope). type_flaws k tree) (c.new-scan.ensures ∙ ap known_outside seen)
    ∙ faults_are (environment_of c.args.own.now) tree
