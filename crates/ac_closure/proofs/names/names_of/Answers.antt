use Rattle.std.proofs.Common.{◌≡◌, ◌-◌, sym, ap, ◌∙◌, cond, arith, Some, length, map, drop}
use Rattle.ac_terms.specs.Defs.{names}
use Rattle.ac_terms.specs.Read.{entry_of}
use Rattle.ac_closure.proofs.NameLaws.{named_from, named_first, none_named, named_step, named_end}
use Rattle.ac_closure.proofs.names.names_of.Goals as goal

pub loop-i-init : goal.loop-i-init
loop-i-init c = record {
  within = omega arith;
  found = λ name. none_named c.new-names.result c.new-names.ensures.empty name ∙ sym (named_end c.args.entries.now (length c.args.entries.now) name (omega arith));
}

pub loop-i-preserved : goal.loop-i-preserved
loop-i-preserved c =
    let x = c.index-entries-i.result in
    record {
      within = omega arith;
      found =
          λ name. c.in_ok-put_name.ensures name ∙ ap (cond (names (entry_of x).name name) (Some (c.loop-i.i - 1))) (c.loop-i.invariant.found name)
          ∙ sym (named_step c.args.entries.now c.loop-i.i (c.loop-i.i - 1) x (omega arith) (omega arith) c.index-entries-i.is name);
    }

pub returns : goal.returns
returns c =
    let all : c.loop-i.i ≡ 0 = omega arith in
    λ name. c.loop-i.invariant.found name ∙ ap (λ n. named_from (map entry_of (drop n c.args.entries.now)) n name) all ∙ named_first (map entry_of c.args.entries.now) name
