use Rattle.std.proofs.Common.{◌≡◌, sym, ap, ◌∙◌, subst, ℕ, List, ◌++◌, length}
use Rattle.std.specs.Prelude.{flat_map, MatchResult}
use Rattle.std.proofs.lemmas.List.{length-map}
use Rattle.ac_types.specs.Types.{Bytes}
use Rattle.ac_types.specs.declared.text.Text.{Text}
use Rattle.ac_terms.specs.Defs.{Environment}
use Rattle.ac_terms.specs.Read.{environment_of, entry_of}
use Rattle.ac_terms.specs.Spelling.{def_bytes}
use Rattle.ac_pack_heads.specs.declared.stop.Stop.{Stop}
use Rattle.ac_terms_renumber.specs.Numbers.{number_for}
use Rattle.ac_pack_definitions.specs.Forms.{AllBelow, forms, front_bytes, IsLong}
use Rattle.ac_pack_definitions.proofs.FrontLaws.{as_many, front_joined}
use Rattle.ac_pack_definitions.proofs.definitions.packet_front.Goals as goal

pub returns : goal.returns
returns c =
    let E : Environment = environment_of c.args.env.now in
    let mark : ℕ = c.args.mark in
    let is : List ℕ = c.args.chosen.now in
    let ns : List ℕ = c.as_slice.result.now in
    let same : ns ≡ c.args.numbers.now = c.as_slice.ensures.value ∙ c.in_ok-numbers.ensures in
    let inside : AllBelow (length E) is = subst (λ n. AllBelow n is) (sym (length-map c.args.env.now.entries entry_of)) c.requires in
    let joined : c.in_ok-text.text.0 ++ flat_map def_bytes (forms E mark (number_for ns) is) ≡ front_bytes (forms E mark (number_for c.args.numbers.now) is) =
    front_joined (length is) (forms E mark (number_for ns) is) c.in_ok-text.text.0 (as_many (number_for ns) E mark is inside) c.in_ok-text.ensures
    ∙ ap (λ (xs : List ℕ). front_bytes (forms E mark (number_for xs) is)) same in
    subst (λ (bs : Bytes). MatchResult c.with_forms.result (λ (t : Text). t.0 ≡ bs) (λ (e : Stop). IsLong e bs)) joined c.with_forms.ensures
