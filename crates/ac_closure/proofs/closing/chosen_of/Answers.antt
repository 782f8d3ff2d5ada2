use Rattle.std.proofs.Common.{◌≡◌, ℕ, ◌-◌, ap, ◌∙◌, arith, ◌++◌, map, reverse, List, Bool, true, false, get_or, length, refl, rules}
use Rattle.std.specs.Prelude.{option_map}
use Rattle.std.proofs.lemmas.Option.{slice_get_read}
use Rattle.std.proofs.lemmas.Grind.{elements}
use Rattle.ac_terms.specs.Read.{entry_of}
use Rattle.ac_terms.proofs.EnvLaws.{slice_get-map}
use Rattle.ac_terms.specs.Parts.{def_parts}
use Rattle.ac_rules.specs.Needed.{packet_form}
use Rattle.ac_closure.specs.inner.Chosen.{with_parts}
use Rattle.ac_closure.specs.inner.Names.{entry_named}
use Rattle.ac_closure.specs.inner.Pass.{chosen_below}
use Rattle.ac_closure.proofs.PassLaws.{kept_in}
use Rattle.ac_closure.proofs.closing.chosen_of.Goals as goal

pub loop-k-preserved-then-set-k : goal.loop-k-preserved-then-set-k
loop-k-preserved-then-set-k c =
    let find = entry_named c.args.names.now in
    let E = map entry_of c.args.entries.now in
    let mark = c.args.mark in
    let j : ℕ = c.loop-k.k - 1 in
    let x = c.index-entries-k.result in
    let member : get_or c.loop-k.set j false ≡ true = (let h = c.if-set-k.true in first_of (cc, search rules, grind (arith, elements))) in
    record {
      within = omega arith;
      flags = omega arith;
      left =
          ap (λ (s : List Bool). chosen_below find E mark j s ++ reverse c.push.new.self.items) c.add_form.ensures
          ∙ ap (λ (is : List ℕ). chosen_below find E mark j (with_parts find c.loop-k.set (def_parts (packet_form mark j (entry_of x)))) ++ reverse is) c.in_ok-push.ensures.items
          ∙ kept_in find E mark c.loop-k.k j c.loop-k.set (entry_of x) c.loop-k.chosen.items (omega arith) member
          (slice_get-map entry_of c.args.entries.now j ∙ ap (option_map entry_of) (slice_get_read c.args.entries.now (length c.args.entries.now) j x refl (omega arith) c.index-entries-k.is))
          ∙ c.loop-k.invariant.left;
    }
