use Rattle.std.proofs.Common.{◌≡◌, ◌∙◌, ◌≤◌, ◌<◌, ◌+◌, sym, ap, refl, subst, arith, length, map, true, false, List}
use Rattle.std.specs.List.{list_all}
use Rattle.ac_terms.specs.declared.def.Entry.{Entry}
use Rattle.ac_terms.specs.Read.{environment_of, entry_of, def_of_code}
use Rattle.ac_load_rules.specs.Counted.{has_counted}
use Rattle.ac_load_causes.specs.inner.Asked.{is_typed_def}
use Rattle.ac_load_causes.proofs.Firsts.{all_at}
use Rattle.ac_load_causes.proofs.TypedLaws.{typed_first, typed_next, typed_here, typed_last}
use Rattle.ac_load_causes.proofs.typed.first_ill_typed.Goals as goal

pub loop-i-init : goal.loop-i-init
loop-i-init c = record {
  left = typed_first (environment_of c.args.env.now) c.args.front c.args.front c.args.env.now.entries c.entries-entries.result.now refl c.entries-entries.ensures refl;
  behind = omega arith;
}

pub is_typed_def-requires-clause-counted : goal.is_typed_def-requires-clause-counted
is_typed_def-requires-clause-counted c =
    let es = c.entries-entries.result.now in
    let lt : c.loop-i.i < length es = omega arith in
    let counted = ap (λ (l : List Entry). list_all has_counted (map entry_of l)) c.entries-entries.ensures ∙ c.requires.counted in
    subst (λ (e : Entry). has_counted (entry_of e) ≡ true) c.index-entries-i.is (all_at entry_of has_counted es c.loop-i.i c.index-entries-i.result counted lt c.index-entries-i.is)

pub returns-then-not-branch : goal.returns-then-not-branch
returns-then-not-branch c =
    let E = environment_of c.args.env.now in
    let es = c.entries-entries.result.now in
    let lt : c.loop-i.i < length es = omega arith in
    let typed = ap (λ (e : Entry). is_typed_def E c.loop-i.i (def_of_code e.def)) c.index-entries-i.is ∙ sym c.in_ok-is_typed_def.ensures ∙ c.if-not-branch.true in
    sym (typed_here E c.args.front es c.loop-i.i c.index-entries-i.result lt c.index-entries-i.is c.loop-i.invariant.behind _ typed c.loop-i.invariant.left)

pub loop-i-preserved : goal.loop-i-preserved
loop-i-preserved c =
    let E = environment_of c.args.env.now in
    let es = c.entries-entries.result.now in
    let lt : c.loop-i.i < length es = omega arith in
    let typed = ap (λ (e : Entry). is_typed_def E c.loop-i.i (def_of_code e.def)) c.index-entries-i.is ∙ sym c.in_ok-is_typed_def.ensures ∙ c.if-not-branch.false in
    let before = c.loop-i.invariant.behind in
    record {
      left = typed_next E c.args.front es c.loop-i.i c.index-entries-i.result lt c.index-entries-i.is before _ typed c.loop-i.invariant.left;
      behind = omega (arith, before);
    }

pub returns : goal.returns
returns c =
    let same = ap length c.entries-entries.ensures in
    let within = c.requires.within in
    let e : c.loop-i.i ≡ length c.entries-entries.result.now = omega (arith, same, within) in
    sym (typed_last (environment_of c.args.env.now) c.args.front c.loop-i.i c.entries-entries.result.now _ e c.loop-i.invariant.left)
