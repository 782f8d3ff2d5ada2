use Rattle.std.proofs.Common.{◌-◌, ap, sym, ◌∙◌, ◌++◌, map, arith}
use Rattle.ac_types.specs.Types.{Bytes}
use Rattle.ac_types.specs.ReadTypes.{sig_type_of}
use Rattle.ac_index.specs.Noted.{Noted, first_under, forgetting}
use Rattle.ac_terms.proofs.LookUpLaws.{type_at, all_noted, next_noted, none_noted, some_at, undone}
use Rattle.ac_terms.proofs.look_ups.note_types.Goals as goal

pub loop-left-init : goal.loop-left-init
loop-left-init c = record {
  within = omega arith;
  noted = λ (n t : Bytes) l. none_noted c.args.name.now.0 c.args.specs.now c.args.number n t (first_under c.args.types.now (n ++ t));
}

pub loop-left-preserved : goal.loop-left-preserved
loop-left-preserved c = record {
  within = omega arith;
  noted = λ (n t : Bytes) l. next_noted c.args.name.now.0 c.args.specs.now c.args.number c.loop-left.left (c.loop-left.left - 1) c.index-specs-left.result (omega arith) (omega arith) c.index-specs-left.is n t (c.note_type.ensures.name ∙ sym l) _ _ _ (c.requires n t l) (c.loop-left.invariant.noted n t l) (c.in-Ok.ensures.ok (n ++ t));
}

pub returns-in-Err-clause-err : goal.returns-in-Err-clause-err
returns-in-Err-clause-err c = λ (n t : Bytes) l.
    c.forget_types.ensures n t l
    ∙ ap (forgetting (type_at c.args.name.now.0 (map sig_type_of c.args.specs.now) n t) c.args.number) (ap (λ (m : Noted). first_under m (n ++ t)) c.in-Err.ensures.err ∙ c.loop-left.invariant.noted n t l)
    ∙ undone c.args.number (first_under c.args.types.now (n ++ t)) _ _ (c.requires n t l) (some_at c.args.name.now.0 c.args.specs.now c.args.number c.loop-left.left n t)

pub returns-clause-ok : goal.returns-clause-ok
returns-clause-ok c = λ (n t : Bytes) l. all_noted c.args.name.now.0 c.args.specs.now c.args.number c.loop-left.left (omega arith) n t _ _ (c.loop-left.invariant.noted n t l)
