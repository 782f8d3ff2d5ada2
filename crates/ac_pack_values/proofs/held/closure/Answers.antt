use Rattle.std.proofs.Common.{◌≡◌, ◌∙◌, sym, ap, true, List, map, option_map, Some}
use Rattle.std.specs.Prelude.{slice_get}
use Rattle.std.proofs.lemmas.Option.{slice_get-map}
use Rattle.ac_types.specs.Types.{Typ}
use Rattle.ac_types.specs.ReadTypes.{typ_of}
use Rattle.ac_terms.specs.Bounds.{is_wanted}
use Rattle.ac_terms.specs.Read.{home_of, expr_of}
use Rattle.ac_rules.specs.Plain.{travelling}
use Rattle.ac_code.specs.ReadCode.{block_of}
use Rattle.ac_values.specs.Values.{stands_as}
use Rattle.ac_meaning.specs.BareTerms.{bare_term}
use Rattle.ac_meaning.specs.BareReduction.{inst}
use Rattle.ac_meaning.specs.BarePacking.{bare_packed_term}
use Rattle.ac_machine_meaning.specs.Stands.{environment_values}
use Rattle.ac_pack_terms.specs.Pieces.{entries_at, code_at}
use Rattle.ac_pack_values.proofs.ListLaws.{visits_value}
use Rattle.ac_pack_values.proofs.FunctionLaws.{its_lambda}
use Rattle.ac_pack_values.proofs.held.closure.Goals as goal

pub returns : goal.returns
returns c =
    let s = c.args.walk.now.site in
    let E = entries_at s in
    let T = typ_of c.args.ty.now in
    let b = c.in-Some.block.now in
    let h = home_of b.home in
    let l = expr_of c.in-Some-lambda.lambda in
    let m = stands_as s.store.now c.args.env.0 in
    let its = slice_get (map block_of s.table.now.blocks) c.args.block.0 in
    let found : its ≡ Some (block_of b) = slice_get-map block_of s.table.now.blocks c.args.block.0 ∙ ap (option_map block_of) (sym c.in-Some.ensures) in
    let q : is_wanted l c.args.recursive ≡ true = cc in
    visits_value c.function.result c.args.d _ _ c.args.walk.now c.function.new.walk
    (ap (λ (G : List Typ). travelling E h (bare_packed_term E (inst 0 (environment_values (code_at s) m G) (bare_term h l))) T) c.new.ensures
    ∙ its_lambda E its (block_of b) l c.args.recursive (λ (G : List Typ). environment_values (code_at s) m G) T found (ap (option_map expr_of) c.in-Some-lambda.is) q)
    c.function.ensures
