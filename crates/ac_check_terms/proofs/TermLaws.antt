-- The reading of terms, form by form, and lists of terms and of arms.
use Rattle.std.proofs.Common.{◌≡◌, refl, ap, true, List, [], ◌∷◌, map}
use Rattle.ac_types.proofs.SizeLaws.{type_laws}
use Rattle.ac_terms.proofs.ExceptionLaws.{exception_laws}
use Rattle.ac_types.specs.Types.{Typ}
use Rattle.ac_terms.specs.Terms.{exprs, arms}
use Rattle.ac_terms.specs.Read.{expr_of, arm_of, pattern_of}
use Rattle.ac_types.specs.Partial.{also}
use Rattle.ac_terms.specs.Defs.{Environment}
use Rattle.ac_terms.specs.declared.term.Term.{Term}
use Rattle.ac_terms.specs.declared.term.Arm.{Arm}
use Rattle.ac_terms.proofs.ReadLaws.{term_laws}
use Rattle.ac_terms.proofs.TermForms.{expr_of-Match, expr_of-Try}
use Rattle.ac_rules.specs.Views.{Coloured}
use Rattle.ac_rules.specs.Typing.{Scope, type_of, types_of, arm_types}
use Rattle.ac_check_terms.specs.inner.Parts.{arm_type}
use Rattle.ac_check_terms.proofs.Collected.{collected}

-- a list of terms and of arms, one after the other

pub types_collected : (E : Environment) (S : Scope) (ts : List Term) → types_of Coloured true E S (exprs (map expr_of ts)) ≡ collected (λ (t : Term). type_of Coloured true E S (expr_of t)) ts
types_collected E S [] = refl
types_collected E S (t ∷ ts) = ap (also (type_of Coloured true E S (expr_of t))) (types_collected E S ts)

pub arms_collected : (E : Environment) (S : Scope) (T : Typ) (cs : List Arm)
    → arm_types Coloured true E S T (arms (map arm_of cs)) ≡ collected (λ (a : Arm). arm_type E S T (pattern_of a.pat) (expr_of a.body)) cs
arms_collected E S T [] = refl
arms_collected E S T (a ∷ cs) = ap (also (arm_type E S T (pattern_of a.pat) (expr_of a.body))) (arms_collected E S T cs)

pub ruleset form_laws = (term_laws, expr_of-Match, expr_of-Try)

pub ruleset typing_laws = (form_laws, type_laws, exception_laws)
