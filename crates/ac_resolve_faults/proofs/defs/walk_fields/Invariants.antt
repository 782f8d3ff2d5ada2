use Rattle.std.proofs.Common.{◌≡◌, map, drop}
use Rattle.ac_syntax.specs.ReadTrees.{field_tree_of}
use Rattle.ac_resolve_signatures.specs.Joined.{flaws_joined}
use Rattle.ac_resolve_signatures.specs.KnownScopes.{known_outside}
use Rattle.ac_resolve_faults.specs.inner.DefFlaws.{past_field, field_flaws}
use Rattle.ac_resolve_signatures.specs.SigFlaws.{flaws_in}
use Rattle.ac_resolve_signatures.specs.Reads.{known_in, externals_of}
use Rattle.ac_resolve_faults.proofs.defs.walk_fields.Given as goal

abbrev pub invariant-loop-field : goal.invariant-loop-field
invariant-loop-field l =
    flaws_in past_field field_flaws (known_outside (externals_of l.externals)) (map field_tree_of l.fields) ≡ flaws_joined l.found (flaws_in past_field field_flaws (known_in l.scan) (map field_tree_of (drop l.field-index l.fields)))
