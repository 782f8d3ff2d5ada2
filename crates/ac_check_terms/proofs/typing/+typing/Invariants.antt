use Rattle.std.proofs.Common.{◌≡◌, drop, map, true}
use Rattle.std.specs.Prelude.{option_map, option_and_then}
use Rattle.ac_types.specs.ReadTypes.{typ_of}
use Rattle.ac_terms.specs.Terms.{exprs, arms}
use Rattle.ac_terms.specs.Read.{expr_of, arm_of, pattern_of}
use Rattle.ac_terms.specs.declared.term.Term.{Term}
use Rattle.ac_terms.specs.declared.term.Arm.{Arm}
use Rattle.ac_rules.specs.Views.{Coloured}
use Rattle.ac_rules.specs.Typing.{type_of, types_of, arm_types, one_of}
use Rattle.ac_check_views.specs.Sites.{entries_of, scope_at}
use Rattle.ac_check_terms.specs.inner.Parts.{types_in, arm_type, arms_after}
use Rattle.ac_check_terms.proofs.Collected.{ahead, collected}
use Rattle.ac_check_terms.proofs.typing.+typing.Given as goal

abbrev pub invariant-types_of-loop-t : goal.invariant-types_of-loop-t
invariant-types_of-loop-t l =
    types_of Coloured true (entries_of l.site) (scope_at l.site (types_in l.vars)) (exprs (map expr_of l.terms))
    ≡ ahead l.found (collected (λ (t : Term). type_of Coloured true (entries_of l.site) (scope_at l.site (types_in l.vars)) (expr_of t)) (drop l.t-index l.terms))

abbrev pub invariant-arms_type-loop-arm : goal.invariant-arms_type-loop-arm
invariant-arms_type-loop-arm l =
    option_and_then one_of (arm_types Coloured true (entries_of l.site) (scope_at l.site (types_in l.vars)) (typ_of l.ty) (arms (map arm_of l.cases)))
    ≡ arms_after (option_map typ_of l.first)
    (collected (λ (a : Arm). arm_type (entries_of l.site) (scope_at l.site (types_in l.vars)) (typ_of l.ty) (pattern_of a.pat) (expr_of a.body)) (drop l.arm-index l.cases))
