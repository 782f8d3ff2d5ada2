use Rattle.std.proofs.Common.{◌≡◌, ◌++◌, drop}
use Rattle.std.specs.Prelude.{flat_map}
use Rattle.ac_terms.specs.Read.{environment_of}
use Rattle.ac_terms.specs.Spelling.{def_bytes}
use Rattle.ac_terms_renumber.specs.Numbers.{number_for}
use Rattle.ac_pack_definitions.specs.Forms.{forms}
use Rattle.ac_pack_definitions.proofs.definitions.with_forms.Given as goal

abbrev pub invariant-loop-k : goal.invariant-loop-k
invariant-loop-k l =
    let all = forms (environment_of l.env) l.mark (number_for l.numbers) in
    l.text.0 ++ flat_map def_bytes (all (drop l.k-index l.chosen)) ≡ l.initial.text.0 ++ flat_map def_bytes (all l.chosen)
