use Rattle.std.proofs.Common.{◌∙◌, sym, subst, List}
use Rattle.ac_terms.specs.declared.def.Entry.{Entry}
use Rattle.ac_terms.specs.Read.{entry_of}
use Rattle.ac_terms.specs.inner.LookUps.{AreInStep, AreForgotten}
use Rattle.ac_terms.proofs.LookUpLaws.{in_step_before, in_step_more, in_step_kept, entry_back}
use Rattle.ac_terms.proofs.env.Env.push.Goals as goal

pub note_entry-requires : goal.note_entry-requires
note_entry-requires c =
    in_step_before c.self.inside.names c.self.inside.types c.self.inside.entries.items c.len-number.result (c.len-number.ensures ∙ c.self.inside.entries.ok.0) c.self.invariant

pub invariant_of-self : goal.invariant_of-self
invariant_of-self c = in_step_kept _ _ _ _ _ c.self.invariant c.in_err-note_entry.ensures.err

pub invariant_of-self-in-Ok : goal.invariant_of-self-in-Ok
invariant_of-self-in-Ok c =
    let number = c.len-number.ensures ∙ c.self.inside.entries.ok.0 in
    subst (λ (es : List Entry). AreInStep c.note_entry.new.names c.note_entry.new.types es) (sym c.in-Ok.ensures.items)
    (in_step_more c.self.inside.names c.self.inside.types c.self.inside.entries.items c.len-number.result number c.self.invariant c.args.entry _ _ c.in_ok-note_entry.ensures.ok)

pub invariant_of-self-in-Err : goal.invariant_of-self-in-Err
invariant_of-self-in-Err c =
    let number = c.len-number.ensures ∙ c.self.inside.entries.ok.0 in
    let before = in_step_before c.self.inside.names c.self.inside.types c.self.inside.entries.items c.len-number.result number c.self.invariant in
    let gone =
    subst (λ (e : Entry). AreForgotten c.len-number.result (entry_of e) c.note_entry.new.names c.note_entry.new.types c.forget_entry.new.names c.forget_entry.new.types)
    c.in-Err.ensures.value_returned c.forget_entry.ensures in
    subst (λ (es : List Entry). AreInStep c.forget_entry.new.names c.forget_entry.new.types es) (sym c.in-Err.ensures.items)
    (in_step_kept _ _ _ _ _ c.self.invariant (entry_back c.len-number.result (entry_of c.args.entry) _ _ _ _ _ _ before c.in_ok-note_entry.ensures.ok gone))
