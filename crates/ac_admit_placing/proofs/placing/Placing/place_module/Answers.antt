use Rattle.std.proofs.Common.{◌≡◌, ◌∙◌, sym, ap, false, not, map, None}
use Rattle.std.specs.List.{list_any}
use Rattle.sha2.specs.Sha256.{sha256}
use Rattle.ac_terms.specs.Defs.{AModule, AMark}
use Rattle.ac_terms.specs.Parts.{part_refs, def_parts}
use Rattle.ac_terms.specs.Read.{environment_of, module_of_code}
use Rattle.ac_terms.specs.Renumbered.{def_renumbered}
use Rattle.ac_terms_renumber.specs.Numbers.{number_for}
use Rattle.ac_rules.specs.Packets.{is_unresolved, put, found_or_put}
use Rattle.ac_admit_placing.specs.Placed.{state_of}
use Rattle.ac_admit_placing.specs.inner.Open.{place_of}
use Rattle.ac_admit_placing.proofs.StateLaws.{numbers_are, open_state, module_state}
use Rattle.ac_admit_placing.proofs.placing.Placing.place_module.Goals as goal

pub returns-then-is_resolved-clause-placed : goal.returns-then-is_resolved-clause-placed
returns-then-is_resolved-clause-placed c =
    let E = environment_of c.args.site.env.now in
    let p = c.args.self.now in
    let m = module_of_code c.args.m.now in
    let is : c.is_resolved.result ≡ not (list_any (is_unresolved (map place_of p.places)) (part_refs (def_parts (AModule m)))) =
    c.is_resolved.ensures ∙ ap (λ ps. not (list_any (is_unresolved (map place_of ps)) (part_refs (def_parts (AModule m))))) c.as_slice-places.ensures in
    c.in_ok-find_or_put.ensures.placed ∙ ap (λ d. found_or_put sha256 (state_of E p) d None)
    (c.in_ok-m.ensures ∙ ap (λ f. def_renumbered f (AModule m)) (ap number_for c.as_slice-numbers.ensures ∙ numbers_are E p c.requires.sound))
    ∙ sym (module_state E p m c.is_resolved.result is c.if-is_resolved.true)

pub returns-clause-placed : goal.returns-clause-placed
returns-clause-placed c =
    let E = environment_of c.args.site.env.now in
    let p = c.args.self.now in
    let m = module_of_code c.args.m.now in
    let is : c.is_resolved.result ≡ not (list_any (is_unresolved (map place_of p.places)) (part_refs (def_parts (AModule m)))) =
    c.is_resolved.ensures ∙ ap (λ ps. not (list_any (is_unresolved (map place_of ps)) (part_refs (def_parts (AModule m))))) c.as_slice-places.ensures in
    c.in_ok-put.ensures.put ∙ ap (λ t. put sha256 (state_of E p) (AMark t) None false) c.new-empty.ensures ∙ sym (open_state E p m c.is_resolved.result is c.if-is_resolved.false)
