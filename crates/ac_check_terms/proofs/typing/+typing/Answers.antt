use Rattle.std.proofs.Common.{◌≡◌, refl, sym, ap, ap₂, ◌∙◌, arith, length, map, List, ◌∷◌, ◌++◌, true, ◌&&◌, Option, Some, None}
use Rattle.std.specs.Prelude.{option_map, option_and_then}
use Rattle.ac_types.specs.Partial.{given, agree, has, both_same}
use Rattle.ac_types.specs.Types.{Typ, Typs, TTuple, TOpt, TList, TBool, TStr, TExn}
use Rattle.ac_types.specs.ReadNumbers.{primitive_number}
use Rattle.ac_types.specs.ReadTypes.{typ_of}
use Rattle.ac_types.specs.declared.ty.Ty.{Ty}
use Rattle.ac_types.specs.declared.ty.Ty.TheVariants as ty
use Rattle.ac_types.proofs.SizeLaws.{type_laws}
use Rattle.ac_terms.specs.PrimitiveTypes.{primitive_type}
use Rattle.ac_terms.specs.Terms.{arms}
use Rattle.ac_terms.specs.Read.{expr_of, arm_of, pattern_of, home_of}
use Rattle.ac_terms.specs.declared.term.Term.{Term}
use Rattle.ac_terms.specs.declared.term.Arm.{Arm}
use Rattle.ac_rules.specs.Views.{Coloured}
use Rattle.ac_rules.specs.Typing.{type_of, arm_types, one_of, type_seen, type_applied, last_of}
use Rattle.ac_check_views.specs.Sites.{entries_of, scope_at}
use Rattle.ac_check_terms.specs.inner.Parts.{types_in, newest_first, arm_type}
use Rattle.ac_check_terms.proofs.KeptLaws.{K}
use Rattle.ac_check_terms.proofs.Collected.{ahead, collected, item_none, item_some, items_all}
use Rattle.ac_check_terms.proofs.TermLaws.{types_collected, arms_collected}
use Rattle.ac_check_terms.proofs.ArmLaws.{arm_none, arm_some, arms_all}
use Rattle.ac_check_terms.proofs.ScopeLaws.{types_in-One, types_in-More}
use Rattle.ac_check_terms.proofs.FormLaws.{carry, function_none, function_some, recursive_none, recursive_no_result, recursive_big, recursive_some, binding_other, binding_some, body_some}
use Rattle.ac_check_terms.proofs.TypedForms.{tuple_form, nil_form, empty_form, var_form, present_form, cons_form, app_form, lam_form, rec_form, let_form, if_form, seq_form, try_form, raise_form, prim_form, own_form, ref_form, marshal_form, unmarshal_form, val_form, from_ok, same_type, same_answer}
use Rattle.ac_check_terms.proofs.typing.+typing.Goals as goal

-- the list of terms

pub types_of-loop-t-init : goal.types_of-loop-t-init
types_of-loop-t-init t c =
    let E = entries_of c.args.site.now in
    let S = scope_at c.args.site.now (types_in c.args.vars.now) in
    types_collected E S c.args.terms.now ∙ ap (λ (ts : List Ty). ahead ts (collected (λ (u : Term). type_of Coloured true E S (expr_of u)) c.args.terms.now)) (sym c.new-found.ensures)

pub types_of-returns-in_default : goal.types_of-returns-in_default
types_of-returns-in_default t c =
    let E = entries_of c.args.site.now in
    let S = scope_at c.args.site.now (types_in c.args.vars.now) in
    sym (item_none (λ (u : Term). type_of Coloured true E S (expr_of u)) c.args.terms.now _ _ c.loop-t-test.true c.t-item.is _ c.loop-t.found c.loop-t.invariant
    (sym c.in_ok-ty.ensures ∙ ap (option_map typ_of) c.in_default.is))

pub types_of-loop-t-preserved : goal.types_of-loop-t-preserved
types_of-loop-t-preserved t c =
    let E = entries_of c.args.site.now in
    let S = scope_at c.args.site.now (types_in c.args.vars.now) in
    item_some (λ (u : Term). type_of Coloured true E S (expr_of u)) c.args.terms.now _ _ c.loop-t-test.true c.t-item.is _ c.loop-t.found c.loop-t.invariant _ _
    c.in_ok-push.ensures.ok (sym c.in_ok-ty.ensures ∙ ap (option_map typ_of) c.in-Some.is)

pub types_of-returns : goal.types_of-returns
types_of-returns t c =
    let E = entries_of c.args.site.now in
    let S = scope_at c.args.site.now (types_in c.args.vars.now) in
    let e : c.loop-t.t-index ≡ length c.args.terms.now = omega arith in
    sym (items_all (λ (u : Term). type_of Coloured true E S (expr_of u)) c.args.terms.now _ _ c.loop-t.found e c.loop-t.invariant)

-- arms

pub arms_type-loop-arm-init : goal.arms_type-loop-arm-init
arms_type-loop-arm-init t c =
    ap (option_and_then one_of) (arms_collected (entries_of c.args.site.now) (scope_at c.args.site.now (types_in c.args.vars.now)) (typ_of c.args.ty.now) c.args.cases.now)

pub arms_type-returns-in_default : goal.arms_type-returns-in_default
arms_type-returns-in_default t c =
    let E = entries_of c.args.site.now in
    let S = scope_at c.args.site.now (types_in c.args.vars.now) in
    sym (arm_none (λ (a : Arm). arm_type E S (typ_of c.args.ty.now) (pattern_of a.pat) (expr_of a.body)) c.args.cases.now _ _ c.loop-arm-test.true c.arm-item.is _ (option_map typ_of c.loop-arm.first) c.loop-arm.invariant
    (sym c.in_ok-found.ensures ∙ ap (option_map typ_of) c.in_default.is))

pub arms_type-returns : goal.arms_type-returns
arms_type-returns t c =
    let E = entries_of c.args.site.now in
    let S = scope_at c.args.site.now (types_in c.args.vars.now) in
    let e : c.loop-arm.arm-index ≡ length c.args.cases.now = omega arith in
    sym (arms_all (λ (a : Arm). arm_type E S (typ_of c.args.ty.now) (pattern_of a.pat) (expr_of a.body)) c.args.cases.now _ _ (option_map typ_of c.loop-arm.first) e c.loop-arm.invariant)

-- what the forms that bind variables give

pub arms_type-returns-in_default-go_on : goal.arms_type-returns-in_default-go_on
arms_type-returns-in_default-go_on t c =
    let E = entries_of c.args.site.now in
    let S = scope_at c.args.site.now (types_in c.args.vars.now) in
    sym (arm_some (λ (a : Arm). arm_type E S (typ_of c.args.ty.now) (pattern_of a.pat) (expr_of a.body)) c.args.cases.now _ _ c.loop-arm-test.true c.arm-item.is _ (option_map typ_of c.loop-arm.first) c.loop-arm.invariant
    (typ_of c.in-Some.found) None (sym c.in_ok-found.ensures ∙ ap (option_map typ_of) c.in-Some.is) c.in_default-go_on.ensures)

pub arms_type-loop-arm-preserved : goal.arms_type-loop-arm-preserved
arms_type-loop-arm-preserved t c =
    let E = entries_of c.args.site.now in
    let S = scope_at c.args.site.now (types_in c.args.vars.now) in
    arm_some (λ (a : Arm). arm_type E S (typ_of c.args.ty.now) (pattern_of a.pat) (expr_of a.body)) c.args.cases.now _ _ c.loop-arm-test.true c.arm-item.is _ (option_map typ_of c.loop-arm.first) c.loop-arm.invariant
    (typ_of c.in-Some.found) (Some (typ_of c.in-Some-go_on.one)) (sym c.in_ok-found.ensures ∙ ap (option_map typ_of) c.in-Some.is) c.in-Some-go_on.ensures

pub arm_type-returns : goal.arm_type-returns
arm_type-returns t c =
    carry c.typed.result _ _
    (body_some (entries_of c.args.site.now) c.args.site.now (types_in c.args.vars.now) (typ_of c.args.ty.now) (pattern_of c.args.arm.now.pat) (expr_of c.args.arm.now.body) c.new.result c.in-Some.bound _
    c.new.ensures (ap (option_map newest_first) (sym c.in-Some.is) ∙ c.in_ok-bound.ensures)
    (types_in-More c.args.vars c.as_slice.result ∙ ap (λ (ts : List Ty). newest_first ts ++ types_in c.args.vars.now) c.as_slice.ensures))
    c.typed.ensures

pub function-returns-in_default : goal.function-returns-in_default
function-returns-in_default t c =
    function_none (entries_of c.args.site.now) c.args.site.now (types_in c.args.vars.now) (typ_of c.args.ty.now) (expr_of c.args.body.now)
    (ap (option_map typ_of) (sym c.in_default.is) ∙ c.in_ok-from.ensures)

pub function-returns : goal.function-returns
function-returns t c =
    carry c.kept_function_type.result _ _
    (function_some (entries_of c.args.site.now) c.args.site.now (types_in c.args.vars.now) (typ_of c.args.ty.now) (typ_of c.in-Some.from) (expr_of c.args.body.now) (option_map typ_of c.in_ok-to.to) _
    (ap (option_map typ_of) (sym c.in-Some.is) ∙ c.in_ok-from.ensures) c.in_ok-to.ensures (types_in-One c.args.vars _))
    c.kept_function_type.ensures

pub recursive-returns-in_default : goal.recursive-returns-in_default
recursive-returns-in_default t c =
    recursive_none (entries_of c.args.site.now) c.args.site.now (types_in c.args.vars.now) (typ_of c.args.from.now) (typ_of c.args.to.now) (expr_of c.args.body.now)
    (ap (option_map typ_of) (sym c.in_default.is) ∙ c.in_ok-from.ensures)

pub recursive-returns-in_default-2 : goal.recursive-returns-in_default-2
recursive-returns-in_default-2 t c =
    recursive_no_result (entries_of c.args.site.now) c.args.site.now (types_in c.args.vars.now) (typ_of c.args.from.now) (typ_of c.args.to.now) (expr_of c.args.body.now)
    (ap (option_map typ_of) (sym c.in_default-2.is) ∙ c.in_ok-to.ensures)

pub recursive-returns-in_default-3 : goal.recursive-returns-in_default-3
recursive-returns-in_default-3 t c =
    recursive_big (entries_of c.args.site.now) c.args.site.now (types_in c.args.vars.now) (typ_of c.args.from.now) (typ_of c.args.to.now) (typ_of c.in-Some.from) (typ_of c.in-Some-2.to) (expr_of c.args.body.now)
    (ap (option_map typ_of) (sym c.in-Some.is) ∙ c.in_ok-from.ensures) (ap (option_map typ_of) (sym c.in-Some-2.is) ∙ c.in_ok-to.ensures)
    (ap (option_map typ_of) (sym c.in_default-3.is) ∙ c.in_ok-own.ensures)

pub recursive-returns : goal.recursive-returns
recursive-returns t c =
    c.recursive_type.ensures
    ∙ recursive_some (entries_of c.args.site.now) c.args.site.now (types_in c.args.vars.now) (typ_of c.args.from.now) (typ_of c.args.to.now) (typ_of c.in-Some.from) (typ_of c.in-Some-2.to) (typ_of c.in-Some-3.own) (expr_of c.args.body.now)
    (option_map typ_of c.in_ok-found.found) _
    (ap (option_map typ_of) (sym c.in-Some.is) ∙ c.in_ok-from.ensures) (ap (option_map typ_of) (sym c.in-Some-2.is) ∙ c.in_ok-to.ensures)
    (ap (option_map typ_of) (sym c.in-Some-3.is) ∙ c.in_ok-own.ensures)
    c.in_ok-found.ensures (types_in-One _ _ ∙ ap (λ (G : List Typ). typ_of c.in-Some.from ∷ G) (types_in-One c.args.vars _))

-- the type of each form, from those of its parts

pub typed-returns-in_ok-parts-in-Tuple : goal.typed-returns-in_ok-parts-in-Tuple
typed-returns-in_ok-parts-in-Tuple t c =
    let E = entries_of c.args.site.now in
    let S = scope_at c.args.site.now (types_in c.args.vars.now) in
    same_type E S _ _ _ (tuple_form _ _ _ c.in-Tuple.is c.as_slice.ensures)
    (c.tuple_type.ensures ∙ ap (λ (o : Option Typs). K (option_map TTuple o)) c.in_ok-parts-in-Tuple.ensures)

pub typed-returns-in-Nil : goal.typed-returns-in-Nil
typed-returns-in-Nil t c =
    let E = entries_of c.args.site.now in
    let S = scope_at c.args.site.now (types_in c.args.vars.now) in
    same_answer E S c.nil_type.result _ _ _ (nil_form _ _ c.in-Nil.is) refl c.nil_type.ensures

pub typed-returns-in-Empty : goal.typed-returns-in-Empty
typed-returns-in-Empty t c =
    let E = entries_of c.args.site.now in
    let S = scope_at c.args.site.now (types_in c.args.vars.now) in
    same_answer E S c.empty_type.result _ _ _ (empty_form _ _ c.in-Empty.is) refl c.empty_type.ensures

pub typed-returns-in-Var : goal.typed-returns-in-Var
typed-returns-in-Var t c =
    let E = entries_of c.args.site.now in
    let S = scope_at c.args.site.now (types_in c.args.vars.now) in
    same_answer E S c.variable_type.result _ _ _ (var_form _ _ c.in-Var.is) refl c.variable_type.ensures

pub typed-returns-in_ok-inner-in-Present : goal.typed-returns-in_ok-inner-in-Present
typed-returns-in_ok-inner-in-Present t c =
    let E = entries_of c.args.site.now in
    let S = scope_at c.args.site.now (types_in c.args.vars.now) in
    same_answer E S c.present_type.result _ _ _ (present_form _ _ _ c.in-Present.is c.deref-in-Present.ensures)
    (ap (λ (o : Option Typ). K (option_map TOpt o)) c.in_ok-inner-in-Present.ensures) c.present_type.ensures

pub typed-returns-in-Lam : goal.typed-returns-in-Lam
typed-returns-in-Lam t c =
    let E = entries_of c.args.site.now in
    let S = scope_at c.args.site.now (types_in c.args.vars.now) in
    same_answer E S c.function.result _ _ _ (lam_form _ _ _ _ c.in-Lam.is c.deref-in-Lam.ensures) refl c.function.ensures

pub typed-returns-in-Rec : goal.typed-returns-in-Rec
typed-returns-in-Rec t c =
    let E = entries_of c.args.site.now in
    let S = scope_at c.args.site.now (types_in c.args.vars.now) in
    same_answer E S c.recursive.result _ _ _ (rec_form _ _ _ _ _ c.in-Rec.is c.deref-in-Rec.ensures) refl c.recursive.ensures

pub typed-returns-in_ok-parts-in-Seq : goal.typed-returns-in_ok-parts-in-Seq
typed-returns-in_ok-parts-in-Seq t c =
    let E = entries_of c.args.site.now in
    let S = scope_at c.args.site.now (types_in c.args.vars.now) in
    same_type E S _ _ _ (seq_form _ _ _ c.in-Seq.is c.as_slice-in-Seq.ensures)
    (c.sequence_type.ensures ∙ ap (option_and_then last_of) c.in_ok-parts-in-Seq.ensures)

pub typed-returns-in_ok-args-in-Prim : goal.typed-returns-in_ok-args-in-Prim
typed-returns-in_ok-args-in-Prim t c =
    let E = entries_of c.args.site.now in
    let S = scope_at c.args.site.now (types_in c.args.vars.now) in
    same_type E S _ _ _ (prim_form _ _ _ _ c.in-Prim.is c.as_slice-in-Prim.ensures)
    (c.result_type.ensures ∙ ap (option_and_then (primitive_type (primitive_number c.in-Prim.primitive))) c.in_ok-args-in-Prim.ensures)

pub typed-returns-in_ok-inner-in-Raise : goal.typed-returns-in_ok-inner-in-Raise
typed-returns-in_ok-inner-in-Raise t c =
    let E = entries_of c.args.site.now in
    let S = scope_at c.args.site.now (types_in c.args.vars.now) in
    same_answer E S c.promised_type.result _ _ _ (raise_form _ _ _ _ c.in-Raise.is c.deref-in-Raise.ensures)
    (ap (λ (o : Option Typ). given (has o TExn) (K (type_seen Coloured true E (home_of c.args.site.now.home) (typ_of c.in-Raise.ty)))) c.in_ok-inner-in-Raise.ensures)
    c.promised_type.ensures

pub typed-returns-then-not-is_seen_as : goal.typed-returns-then-not-is_seen_as
typed-returns-then-not-is_seen_as t c =
    let E = entries_of c.args.site.now in
    let S = scope_at c.args.site.now (types_in c.args.vars.now) in
    same_type E S _ _ _ (let_form _ _ _ _ _ c.in-Let.body c.in-Let.is c.deref-in-Let.ensures refl)
    (binding_other E c.args.site.now (types_in c.args.vars.now) (typ_of c.in-Let.ty) (typ_of c.in-Some.found) (expr_of c.deref-in-Let.result.now) (expr_of c.in-Let.body)
    (ap (option_map typ_of) (sym c.in-Some.is) ∙ c.in_ok-found-in-Let.ensures) c.if-not-is_seen_as.ensures.seen)

pub typed-returns-else-not-is_seen_as : goal.typed-returns-else-not-is_seen_as
typed-returns-else-not-is_seen_as t c =
    let E = entries_of c.args.site.now in
    let S = scope_at c.args.site.now (types_in c.args.vars.now) in
    same_answer E S c.typed-end.result _ _ _ (let_form _ _ _ _ _ _ c.in-Let.is c.deref-in-Let.ensures c.deref-in-Let-2.ensures)
    (binding_some E c.args.site.now (types_in c.args.vars.now) (typ_of c.in-Let.ty) (typ_of c.in-Some.found) (expr_of c.deref-in-Let.result.now) (expr_of c.deref-in-Let-2.result.now) _
    (ap (option_map typ_of) (sym c.in-Some.is) ∙ c.in_ok-found-in-Let.ensures) c.if-not-is_seen_as.ensures.seen (types_in-One c.args.vars _))
    c.typed-end.ensures

pub typed-returns-in_ok-head-in-Cons : goal.typed-returns-in_ok-head-in-Cons
typed-returns-in_ok-head-in-Cons t c =
    let E = entries_of c.args.site.now in
    let S = scope_at c.args.site.now (types_in c.args.vars.now) in
    same_type E S _ _ _ (cons_form _ _ _ _ _ c.in-Cons.is c.deref-in-Cons.ensures c.deref-in-Cons-2.ensures)
    (c.cons_type.ensures ∙ ap₂ (λ (x y : Option Typ). both_same (option_map TList x) y) (from_ok c.typed-in-Cons.result _ _ c.in_ok-head-in-Cons.ensures.0 c.typed-in-Cons.ensures)
    (from_ok c.typed-in-Cons-2.result _ _ c.in_ok-head-in-Cons.ensures.1 c.typed-in-Cons-2.ensures))

pub typed-returns-in_ok-f-in-App : goal.typed-returns-in_ok-f-in-App
typed-returns-in_ok-f-in-App t c =
    let E = entries_of c.args.site.now in
    let S = scope_at c.args.site.now (types_in c.args.vars.now) in
    same_type E S _ _ _ (app_form _ _ _ _ _ c.in-App.is c.deref-in-App.ensures c.deref-in-App-2.ensures)
    (c.applied.ensures ∙ ap₂ type_applied (from_ok c.typed-in-App.result _ _ c.in_ok-f-in-App.ensures.0 c.typed-in-App.ensures)
    (from_ok c.typed-in-App-2.result _ _ c.in_ok-f-in-App.ensures.1 c.typed-in-App-2.ensures))

pub typed-returns-in_ok-so-in-If : goal.typed-returns-in_ok-so-in-If
typed-returns-in_ok-so-in-If t c =
    let E = entries_of c.args.site.now in
    let S = scope_at c.args.site.now (types_in c.args.vars.now) in
    same_type E S _ _ _ (if_form _ _ _ _ _ _ _ c.in-If.is c.deref-in-If.ensures c.deref-in-If-2.ensures c.deref-in-If-3.ensures)
    (c.if_type.ensures ∙ ap₂ given (c.is_test-test.ensures ∙ ap (λ (o : Option Typ). has o TBool) c.in_ok-found-in-If.ensures)
    (ap₂ both_same (from_ok c.typed-in-If-2.result _ _ c.in_ok-so-in-If.ensures.0 c.typed-in-If-2.ensures) (from_ok c.typed-in-If-3.result _ _ c.in_ok-so-in-If.ensures.1 c.typed-in-If-3.ensures)))

pub typed-returns-in_ok-of-in-Try : goal.typed-returns-in_ok-of-in-Try
typed-returns-in_ok-of-in-Try t c =
    let E = entries_of c.args.site.now in
    let S = scope_at c.args.site.now (types_in c.args.vars.now) in
    let s : typ_of ty.Exn ≡ TExn = grind (arith, type_laws) in
    same_type E S _ _ _ (try_form _ _ _ _ _ c.in-Try.is c.deref-in-Try.ensures c.as_slice-in-Try.ensures)
    (c.both_same.ensures ∙ ap₂ both_same (from_ok c.typed-of.result _ _ c.in_ok-of-in-Try.ensures.0 c.typed-of.ensures)
    (from_ok c.arms_type-found.result _ _ c.in_ok-of-in-Try.ensures.1 c.arms_type-found.ensures
    ∙ ap (λ (U : Typ). option_and_then one_of (arm_types Coloured true E S U (arms (map arm_of c.as_slice-in-Try.result.now)))) s))

pub typed-returns-in-Own : goal.typed-returns-in-Own
typed-returns-in-Own t c =
    let E = entries_of c.args.site.now in
    let S = scope_at c.args.site.now (types_in c.args.vars.now) in
    same_answer E S c.field_type.result _ _ _ (own_form _ _ c.in-Own.is) refl c.field_type.ensures

pub typed-returns-in-Ref : goal.typed-returns-in-Ref
typed-returns-in-Ref t c =
    let E = entries_of c.args.site.now in
    let S = scope_at c.args.site.now (types_in c.args.vars.now) in
    same_answer E S c.ref_type.result _ _ _ (ref_form _ _ _ c.in-Ref.is) refl c.ref_type.ensures

pub typed-returns-in_ok-mark-in-Marshal : goal.typed-returns-in_ok-mark-in-Marshal
typed-returns-in_ok-mark-in-Marshal t c =
    let E = entries_of c.args.site.now in
    let S = scope_at c.args.site.now (types_in c.args.vars.now) in
    same_type E S _ _ _ (marshal_form _ _ _ _ _ _ c.in-Marshal.is c.deref-in-Marshal.ensures c.deref-in-Marshal-2.ensures)
    (c.marshal_type.ensures
    ∙ ap₂ (λ (x y : Option Typ). given (has x TStr && agree y (type_seen Coloured true E (home_of c.args.site.now.home) (typ_of c.in-Marshal.ty))) (Some TStr))
    (from_ok c.typed-in-Marshal.result _ _ c.in_ok-mark-in-Marshal.ensures.0 c.typed-in-Marshal.ensures)
    (from_ok c.typed-in-Marshal-2.result _ _ c.in_ok-mark-in-Marshal.ensures.1 c.typed-in-Marshal-2.ensures))

pub typed-returns-in_ok-inner-in-Unmarshal : goal.typed-returns-in_ok-inner-in-Unmarshal
typed-returns-in_ok-inner-in-Unmarshal t c =
    let E = entries_of c.args.site.now in
    let S = scope_at c.args.site.now (types_in c.args.vars.now) in
    same_answer E S c.promised_type-in-Unmarshal.result _ _ _ (unmarshal_form _ _ _ _ c.in-Unmarshal.is c.deref-in-Unmarshal.ensures)
    (ap (λ (o : Option Typ). given (has o TStr) (K (type_seen Coloured true E (home_of c.args.site.now.home) (typ_of c.in-Unmarshal.ty)))) c.in_ok-inner-in-Unmarshal.ensures)
    c.promised_type-in-Unmarshal.ensures

pub typed-returns-in-Val : goal.typed-returns-in-Val
typed-returns-in-Val t c =
    let E = entries_of c.args.site.now in
    let S = scope_at c.args.site.now (types_in c.args.vars.now) in
    same_answer E S c.seen_type.result _ _ _ (val_form _ _ _ c.in-Val.is) refl c.seen_type.ensures
