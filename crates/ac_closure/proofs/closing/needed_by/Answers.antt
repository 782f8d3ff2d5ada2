use Rattle.std.proofs.Common.{◌≡◌, ap, ◌∙◌, subst, ℕ, List, Bool, false, map, length, arith, rules}
use Rattle.std.specs.Prelude.{replicate}
use Rattle.std.proofs.lemmas.List.{length-map}
use Rattle.ac_terms.specs.Read.{entry_of}
use Rattle.ac_rules.specs.Needed.{needed_by}
use Rattle.ac_closure.specs.inner.Chosen.{with_entries}
use Rattle.ac_closure.specs.inner.Names.{entry_named}
use Rattle.ac_closure.specs.inner.Pass.{chosen_below}
use Rattle.ac_closure.proofs.PassLaws.{same_needed}
use Rattle.ac_closure.proofs.closing.needed_by.Goals as goal

pub returns : goal.returns
returns c =
    let find = entry_named c.in_ok-names.names in
    let entries = c.args.entries.now in
    let E = map entry_of entries in
    let mark = c.args.mark in
    let roots = c.args.roots.now in
    c.from_vec.ensures ∙ c.in_ok-chosen.ensures
    ∙ ap (λ (s : List Bool). chosen_below find E mark (length entries) (with_entries s roots)) (c.deref_mut.ensures.value ∙ c.in_ok-set.ensures.items_if_clones_equal (λ y h. first_of (cc, search rules, grind arith)))
    ∙ subst (λ (n : ℕ). chosen_below find E mark n (with_entries (replicate n false) roots) ≡ needed_by E mark roots) (length-map entries entry_of) (same_needed find E mark (λ name. c.in_ok-names.ensures name) roots)
