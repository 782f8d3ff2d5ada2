use Rattle.std.proofs.Common.{◌∙◌, subst, List, append-nil}
use Rattle.ac_terms.specs.declared.def.Entry.{Entry}
use Rattle.ac_terms.specs.inner.LookUps.{AreInStep}
use Rattle.ac_terms.proofs.LookUpLaws.{in_step_less}
use Rattle.ac_terms.proofs.env.Env.pop.Goals as goal

pub invariant_of-self : goal.invariant_of-self
invariant_of-self c =
    subst (λ (es : List Entry). AreInStep c.self.inside.names c.self.inside.types es) (c.in_err-entry.ensures.items ∙ append-nil c.pop.new.self.items) c.self.invariant

pub invariant_of-self-2 : goal.invariant_of-self-2
invariant_of-self-2 c =
    in_step_less c.self.inside.names c.self.inside.types c.pop.new.self.items c.in_ok-entry.entry c.len-number.result (c.len-number.ensures ∙ c.pop.new.self.ok.0)
    (subst (λ (es : List Entry). AreInStep c.self.inside.names c.self.inside.types es) c.in_ok-entry.ensures.items c.self.invariant) _ _ c.forget_entry.ensures
