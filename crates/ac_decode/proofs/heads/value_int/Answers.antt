use Rattle.std.proofs.Common.{sym, ap, ◌∙◌, Some}
use Rattle.std.specs.Prelude.{option_map, ℤ}
use Rattle.std.specs.Int.{w64}
use Rattle.std.proofs.lemmas.Int.{to_z-of_z}
use Rattle.ac_types.specs.Types.{Bytes}
use Rattle.ac_terms.specs.Terms.{PValue, KInt}
use Rattle.ac_terms.specs.Read.{value_of}
use Rattle.ac_terms.specs.declared.term.PVal.TheVariants as tree
use Rattle.ac_terms.proofs.ValueForms.{value_of-Int}
use Rattle.ac_decode.proofs.Integers.{read_fits}
use Rattle.ac_decode.proofs.heads.value_int.Goals as goal

abbrev with : ℤ × Bytes → PValue × Bytes
with p = (KInt p.0, p.1)

pub returns : goal.returns
returns c = λ f g.
    let z = c.in_ok-z.z in
    let left = c.take_eight.new.cursor.left in
    ap (option_map with) c.in_ok-z.ensures
    ∙ ap (λ (t : PValue). Some (t, left)) (sym (value_of-Int z))
    ∙ ap (λ (w : ℤ). Some (value_of (tree.Int w), left)) (sym (to_z-of_z w64 z (read_fits c.args.cursor.now.left z left c.in_ok-z.ensures)))
