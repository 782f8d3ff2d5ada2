use Rattle.std.proofs.Common.{sym, ap, ◌∙◌, Some}
use Rattle.std.specs.Prelude.{option_map, ℤ}
use Rattle.std.specs.Int.{w64}
use Rattle.std.proofs.lemmas.Int.{to_z-of_z}
use Rattle.ac_types.specs.Types.{Bytes}
use Rattle.ac_terms.specs.Terms.{Pattern, PInt}
use Rattle.ac_terms.specs.Read.{pattern_of}
use Rattle.ac_terms.specs.declared.pat.Pat.TheVariants as tree
use Rattle.ac_terms.proofs.PatternForms.{pattern_of-Int}
use Rattle.ac_decode.proofs.Integers.{read_fits}
use Rattle.ac_decode.proofs.heads.pattern_int.Goals as goal

abbrev with : ℤ × Bytes → Pattern × Bytes
with p = (PInt p.0, p.1)

pub returns : goal.returns
returns c = λ f.
    let z = c.in_ok-z.z in
    let left = c.take_eight.new.cursor.left in
    ap (option_map with) c.in_ok-z.ensures
    ∙ ap (λ (t : Pattern). Some (t, left)) (sym (pattern_of-Int z))
    ∙ ap (λ (w : ℤ). Some (pattern_of (tree.Int w), left)) (sym (to_z-of_z w64 z (read_fits c.args.cursor.now.left z left c.in_ok-z.ensures)))
