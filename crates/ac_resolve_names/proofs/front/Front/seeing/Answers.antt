use Rattle.std.proofs.Common.{◌≡◌, ◌∙◌, ap, refl, sym, arith, map, length, [], ◌+◌}
use Rattle.std.specs.List.{list_all}
use Rattle.ac_terms.specs.Read.{entry_of, def_of_code}
use Rattle.ac_resolve_scopes.specs.Scopes.{scope_behind, external_names, with_entry, after_all}
use Rattle.ac_resolve_names.specs.Entries.{keeps_name, is_called}
use Rattle.ac_resolve_names.specs.Fronts.{front_of}
use Rattle.ac_resolve_names.proofs.FrontLaws.{front_at, front_next, called_next, front_last}
use Rattle.ac_resolve_names.proofs.front.Front.seeing.Goals as goal

pub loop-entry-init : goal.loop-entry-init
loop-entry-init c = record {
  counted = refl;
  called = ap (list_all (is_called (map entry_of c.entries-entries.result.now))) c.new-externals.ensures;
  left = ap (λ xs. after_all with_entry (front_at [] xs) (map entry_of c.entries-entries.result.now)) (sym c.new-externals.ensures);
}

pub loop-entry-preserved : goal.loop-entry-preserved
loop-entry-preserved c =
    let es = c.entries-entries.result.now in
    let i = c.loop-entry.entry-index in
    let e = c.entry-item.result in
    let y = c.in_ok-more.ensures ∙ ap (λ n. external_names (def_of_code e.def) n c.loop-entry.externals) c.loop-entry.invariant.counted in
    record {
      counted = ap (λ n. n + 1) c.loop-entry.invariant.counted;
      called =
          called_next es i c.loop-entry.externals c.in_ok-more.more e c.loop-entry-test.true c.entry-item.is y
          (ap (λ l. list_all keeps_name (map entry_of l)) c.entries-entries.ensures ∙ c.requires.names) c.loop-entry.invariant.called;
      left = front_next es i c.loop-entry.externals c.in_ok-more.more e c.loop-entry-test.true c.entry-item.is y _ c.loop-entry.invariant.left;
    }

pub invariant_of-result : goal.invariant_of-result
invariant_of-result c = record {
  named = c.requires.names;
  called = ap (λ l. list_all (is_called (map entry_of l)) c.loop-entry.externals) (sym c.entries-entries.ensures) ∙ c.loop-entry.invariant.called;
}

pub returns : goal.returns
unfolding front_of
returns c =
    let e : c.loop-entry.entry-index ≡ length c.entries-entries.result.now = omega arith in
    ap (λ l. front_at (map entry_of l) c.loop-entry.externals) (sym c.entries-entries.ensures)
    ∙ front_last _ c.entries-entries.result.now c.loop-entry.entry-index c.loop-entry.externals e c.loop-entry.invariant.left
    ∙ ap (λ l. after_all with_entry (scope_behind []) (map entry_of l)) c.entries-entries.ensures
