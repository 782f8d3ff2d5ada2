use Rattle.std.proofs.Common.{◌≡◌, sym, ap, ap₂, ◌∙◌, subst, arith, List, ℕ, map, length}
use Rattle.std.proofs.lemmas.List.{length-map}
use Rattle.ac_terms.specs.declared.def.Entry.{Entry}
use Rattle.ac_terms.specs.Read.{environment_of, entry_of}
use Rattle.ac_rules.specs.Needed.{AreNeeded, mark_at, needed_by}
use Rattle.ac_rules.proofs.NeededEarly.{needed_members}
use Rattle.ac_rules.proofs.PacketNames.{needed_rise}
use Rattle.ac_closure.proofs.closing.needed.Goals as goal

pub returns-in_ok-needed_by-in-Some-clause-needed : goal.returns-in_ok-needed_by-in-Some-clause-needed
returns-in_ok-needed_by-in-Some-clause-needed c = λ coherent inside.
    let E = environment_of c.args.env.now in
    let at : ℕ = c.in-Some.at in
    let roots : List ℕ = c.args.roots.now in
    let computed : c.in_ok-needed_by-in-Some.field-0 ≡ needed_by E at roots =
    c.in_ok-needed_by-in-Some.ensures ∙ ap₂ (λ (es : List Entry) (rs : List ℕ). needed_by (map entry_of es) at rs) c.entries-in-Some.ensures c.as_slice.ensures in (
      at,
      sym (c.in-Some.ensures ∙ ap (λ (es : List Entry). mark_at (map entry_of es) c.args.mark.now.0) c.entries.ensures),
      subst (λ (is : List ℕ). AreNeeded E at roots is) (sym computed) (record {
        rises = needed_rise E coherent at (length E) roots;
        members = needed_members E coherent at roots (λ i h. omega (arith, inside i h, length-map c.args.env.now.entries entry_of));
      }),
    )
