use Rattle.std.proofs.Common.{◌≡◌, ◌++◌, drop, map}
use Rattle.ac_types.specs.ReadTypes.{atom_of}
use Rattle.ac_version.specs.Printing.{tokens_joined, atoms_tokens, version_tokens}
use Rattle.ac_version.proofs.print.version_text.Given as goal

abbrev pub invariant-loop-atom : goal.invariant-loop-atom
invariant-loop-atom l =
    tokens_joined (version_tokens (map atom_of l.v.atoms))
    ≡ l.text.0 ++ tokens_joined (atoms_tokens l.is_first (map atom_of (drop l.atom-index l.v.atoms)))
