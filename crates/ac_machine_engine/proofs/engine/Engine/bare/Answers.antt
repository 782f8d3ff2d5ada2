use Rattle.std.proofs.Common.{refl, ◌∙◌, ap, List, [], ◌∷◌, ◌++◌, length}
use Rattle.ac_values.specs.declared.node.Node.{Node}
use Rattle.ac_values.specs.declared.node.Node.TheVariants.{EnvEnd}
use Rattle.ac_machine_engine.proofs.HeldLaws.{started}
use Rattle.ac_machine_engine.proofs.engine.Engine.bare.Goals as goal

pub returns : goal.returns
returns c =
    started _ c.args.main.0 c.args.budget
    (c.in_ok-empty.ensures.ok ∙ ap (λ (ns : List Node). ns ++ EnvEnd ∷ []) c.new-store.ensures) c.new.ensures c.new-2.ensures c.new-3.ensures refl refl c.new-4.ensures.items
    (c.in_ok-empty.ensures.number ∙ ap length c.new-store.ensures) refl refl refl refl refl refl refl
