use Rattle.std.proofs.Common.{◌≡◌, sym, ap, ◌∙◌, subst, arith, ℕ, ◌+◌, ◌<◌, ◌^◌, true, nat_lt, List, length, map, Some}
use Rattle.std.specs.Prelude.{option_map, position}
use Rattle.std.specs.List.{list_all}
use Rattle.std.proofs.lemmas.Result.{err_from_is_err_and}
use Rattle.sha2.specs.Sha256.{sha256}
use Rattle.ac_types.specs.Partial.{given}
use Rattle.ac_terms.specs.declared.def.PDef as code_def
use Rattle.ac_terms.specs.Bounds.{fits_def}
use Rattle.ac_terms.specs.Read.{environment_of, packet_of, pdef_of}
use Rattle.ac_terms.proofs.BoundsLaws.{packet_bounds}
use Rattle.ac_rules.specs.Packets.{Full, Unresolved, places}
use Rattle.ac_admit_placing.specs.declared.places.Place as code_place
use Rattle.ac_admit_placing.specs.Placed.{state_of}
use Rattle.ac_admit.specs.Refusing.{IsFor}
use Rattle.ac_admit.proofs.CauseLaws.{first_for, second_for, third_for, fourth_for, none_of_four}
use Rattle.ac_admit.proofs.RoomLaws.{few_own, own_fit, own_wrong, own_clash, few_both, few_with_defs, few_in_all, few_places, room_in_all, none_unlinked}
use Rattle.ac_admit.proofs.judging.placing.Goals as goal

pub formed-requires-clause-entries : goal.formed-requires-clause-entries
formed-requires-clause-entries c = few_own c.args.p.now c.requires.fits c.args.own.now c.requires.own

pub formed-requires-clause-fits : goal.formed-requires-clause-fits
formed-requires-clause-fits c = own_fit c.args.p.now c.requires.fits c.args.own.now c.requires.own

pub unclashed-requires-clause-few : goal.unclashed-requires-clause-few
unclashed-requires-clause-few c = few_both c.args.p.now c.requires.fits c.args.env.now c.requires.coherent c.args.own.now c.requires.own

pub placed-requires-clause-few : goal.placed-requires-clause-few
placed-requires-clause-few c =
    subst (λ (xs : List code_def.PDef). length c.args.env.now.entries + length xs < 2 ^ 32) (sym c.as_slice.ensures) (few_with_defs c.args.p.now c.requires.fits c.args.env.now c.requires.coherent)

pub placed-requires-clause-fits : goal.placed-requires-clause-fits
placed-requires-clause-fits c =
    subst (λ (xs : List code_def.PDef). list_all fits_def (map pdef_of xs) ≡ true) (sym c.as_slice.ensures) (packet_bounds (packet_of c.args.p.now) c.requires.fits).defs

pub has_room-requires : goal.has_room-requires
has_room-requires c =
    let E = environment_of c.args.env.now in
    let q = c.in_ok-placing.placing in
    let placed : state_of E q ≡ places sha256 E (packet_of c.args.p.now).defs = c.in_ok-placing.ensures.placed ∙ ap (λ (xs : List code_def.PDef). places sha256 E (map pdef_of xs)) c.as_slice.ensures in
    omega (arith, few_in_all c.args.p.now c.requires.fits c.args.env.now c.requires.coherent q placed, c.len.ensures)

pub resolved-requires : goal.resolved-requires
resolved-requires c =
    let E = environment_of c.args.env.now in
    let q = c.in_ok-placing.placing in
    let placed : state_of E q ≡ places sha256 E (packet_of c.args.p.now).defs = c.in_ok-placing.ensures.placed ∙ ap (λ (xs : List code_def.PDef). places sha256 E (map pdef_of xs)) c.as_slice.ensures in
    subst (λ (xs : List code_place.Place). length xs < 2 ^ 32) (sym c.as_slice-2.ensures) (few_places c.args.p.now c.requires.fits c.args.env.now c.requires.coherent q placed)

pub returns-in_err-formed-clause-judged : goal.returns-in_err-formed-clause-judged
returns-in_err-formed-clause-judged c =
    let p = err_from_is_err_and c.from_residual.result c.from_residual.ensures.1 in
    let E = environment_of c.args.env.now in
    let P = packet_of c.args.p.now in
    let f = c.in_err-formed.field-0.0 in
    rw (p.1, p.2) (first_for E P.defs f (subst (IsFor f) (own_wrong c.args.p.now c.requires.fits c.args.own.now c.requires.own) c.in_err-formed.ensures))

pub returns-in_err-unclashed-clause-judged : goal.returns-in_err-unclashed-clause-judged
returns-in_err-unclashed-clause-judged c =
    let p = err_from_is_err_and c.from_residual-in_err-unclashed.result c.from_residual-in_err-unclashed.ensures.1 in
    let E = environment_of c.args.env.now in
    let P = packet_of c.args.p.now in
    let f = c.in_err-unclashed.field-0.0 in
    rw (p.1, p.2) (second_for E P.defs
    (sym (own_wrong c.args.p.now c.requires.fits c.args.own.now c.requires.own) ∙ c.in_ok-formed.ensures) f
    (subst (IsFor f) (own_clash c.args.p.now c.requires.fits c.args.own.now c.requires.own E) c.in_err-unclashed.ensures))

pub returns-in_err-has_room-clause-judged : goal.returns-in_err-has_room-clause-judged
returns-in_err-has_room-clause-judged c =
    let p = err_from_is_err_and c.from_residual-in_err-has_room.result c.from_residual-in_err-has_room.ensures.1 in
    let E = environment_of c.args.env.now in
    let q = c.in_ok-placing.placing in
    let P = packet_of c.args.p.now in
    let placed : state_of E q ≡ places sha256 E P.defs = c.in_ok-placing.ensures.placed ∙ ap (λ (xs : List code_def.PDef). places sha256 E (map pdef_of xs)) c.as_slice.ensures in
    let f = c.in_err-has_room.field-0.0 in
    rw (p.1, p.2) (third_for E P.defs
    (sym (own_wrong c.args.p.now c.requires.fits c.args.own.now c.requires.own) ∙ c.in_ok-formed.ensures)
    (sym (own_clash c.args.p.now c.requires.fits c.args.own.now c.requires.own E) ∙ c.in_ok-unclashed.ensures) f
    (subst (IsFor f) (ap (λ (k : ℕ). given (nat_lt 65535 (length c.args.env.now.entries + k)) (Some (Full (length c.args.env.now.entries + k)))) c.len.ensures
    ∙ room_in_all c.args.p.now c.requires.fits c.args.env.now c.requires.coherent q placed) c.in_err-has_room.ensures))

pub returns-in_err-resolved-clause-judged : goal.returns-in_err-resolved-clause-judged
returns-in_err-resolved-clause-judged c =
    let p = err_from_is_err_and c.from_residual-in_err-resolved.result c.from_residual-in_err-resolved.ensures.1 in
    let E = environment_of c.args.env.now in
    let q = c.in_ok-placing.placing in
    let P = packet_of c.args.p.now in
    let placed : state_of E q ≡ places sha256 E P.defs = c.in_ok-placing.ensures.placed ∙ ap (λ (xs : List code_def.PDef). places sha256 E (map pdef_of xs)) c.as_slice.ensures in
    let f = c.in_err-resolved.field-0.0 in
    rw (p.1, p.2) (fourth_for E P.defs
    (sym (own_wrong c.args.p.now c.requires.fits c.args.own.now c.requires.own) ∙ c.in_ok-formed.ensures)
    (sym (own_clash c.args.p.now c.requires.fits c.args.own.now c.requires.own E) ∙ c.in_ok-unclashed.ensures)
    (sym (room_in_all c.args.p.now c.requires.fits c.args.env.now c.requires.coherent q placed)
    ∙ ap (λ (k : ℕ). given (nat_lt 65535 (length c.args.env.now.entries + k)) (Some (Full (length c.args.env.now.entries + k)))) (sym c.len.ensures) ∙ c.in_ok-has_room.ensures) f
    (subst (IsFor f) (ap (λ (xs : List code_place.Place). option_map Unresolved (position (λ (x : code_place.Place). x.unresolved) xs)) c.as_slice-2.ensures
    ∙ none_unlinked c.args.p.now c.requires.fits c.args.env.now c.requires.coherent q placed) c.in_err-resolved.ensures))

pub returns-clause-judged : goal.returns-clause-judged
returns-clause-judged c =
    let E = environment_of c.args.env.now in
    let q = c.in_ok-placing.placing in
    let P = packet_of c.args.p.now in
    let placed : state_of E q ≡ places sha256 E P.defs = c.in_ok-placing.ensures.placed ∙ ap (λ (xs : List code_def.PDef). places sha256 E (map pdef_of xs)) c.as_slice.ensures in
    none_of_four E P.defs
    (sym (own_wrong c.args.p.now c.requires.fits c.args.own.now c.requires.own) ∙ c.in_ok-formed.ensures)
    (sym (own_clash c.args.p.now c.requires.fits c.args.own.now c.requires.own E) ∙ c.in_ok-unclashed.ensures)
    (sym (room_in_all c.args.p.now c.requires.fits c.args.env.now c.requires.coherent q placed)
    ∙ ap (λ (k : ℕ). given (nat_lt 65535 (length c.args.env.now.entries + k)) (Some (Full (length c.args.env.now.entries + k)))) (sym c.len.ensures) ∙ c.in_ok-has_room.ensures)
    (sym (none_unlinked c.args.p.now c.requires.fits c.args.env.now c.requires.coherent q placed)
    ∙ ap (λ (xs : List code_place.Place). option_map Unresolved (position (λ (x : code_place.Place). x.unresolved) xs)) (sym c.as_slice-2.ensures) ∙ c.in_ok-resolved.ensures)
