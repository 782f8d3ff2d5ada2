use Rattle.std.proofs.Common.{◌≡◌, ap, ◌∙◌, ℕ, List, arith, rules}
use Rattle.ac_pack_definitions.specs.inner.Passing.{numbered}
use Rattle.ac_pack_definitions.proofs.PlaceLaws.{zeros, places_back}
use Rattle.ac_pack_definitions.proofs.numbers.places.Goals as goal

pub returns : goal.returns
returns c =
    let numbers = c.in_ok-numbers.numbers in
    let len : numbers.len ≡ c.args.entries = first_of (search rules, omega arith) in
    let blank : numbers.items ≡ zeros c.args.entries = c.in_ok-numbers.ensures.items_if_clones_equal (λ y h. first_of (cc, search rules, grind arith)) in
    places_back c.args.entries numbers.len numbers.items c.put_places.new.numbers c.args.chosen.now len blank
    (c.put_places.ensures ∙ ap (λ (ns : List ℕ). numbered ns 0 c.args.chosen.now) c.deref_mut.ensures.value) c.requires.below
