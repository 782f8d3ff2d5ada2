use Rattle.std.proofs.Common.{◌≡◌, ◌∙◌, ap, ◌<◌, refl, arith, length, true, false, rules}
use Rattle.std.proofs.lemmas.Bool.Decides.{nat_tests}
use Rattle.ac_types.specs.ReadTypes.{typ_of}
use Rattle.ac_types.specs.ReadNumbers.{bare_number, texted_number}
use Rattle.ac_terms.specs.Terms.{PWild, PVar, PInt, PBool, PStr, PUnit, PTuple, PNil, PCons, PAbsent, PPresent, PExn, PExnOf, patterns}
use Rattle.ac_terms.specs.Read.{pattern_of}
use Rattle.ac_terms.proofs.PatternForms.{pattern_of-Absent, pattern_of-Bool, pattern_of-Cons, pattern_of-Int, pattern_of-Nil, pattern_of-Present, pattern_of-Str, pattern_of-Tuple, pattern_of-Unit, pattern_of-Var, pattern_of-Wild}
use Rattle.std.proofs.Common.{map, nat_eq}
use Rattle.ac_machine_primitives.proofs.PatternLaws.{form_laws, at_unit, at_nil, at_absent, fitted_tested, fitted_var, no_tuple, no_cons, no_present, no_exn, other_exn, tuple_fits, present_fits, exn_fits, cons_fits, cons_not, other_lengths, left_on, left_not, same_item}
use Rattle.ac_machine_primitives.proofs.fits.+fits.Goals as goal

pub fits-returns-in-Wild : goal.fits-returns-in-Wild
fits-returns-in-Wild t c =
    let is : pattern_of c.args.pat.now ≡ PWild = ap pattern_of c.in-Wild.is ∙ pattern_of-Wild in
    rw is (c.requires.found, λ es. refl)

pub fits-returns-in_ok-push-in-Var : goal.fits-returns-in_ok-push-in-Var
fits-returns-in_ok-push-in-Var t c =
    let is : pattern_of c.args.pat.now ≡ PVar (typ_of c.in-Var.field-0) = ap pattern_of c.in-Var.is ∙ pattern_of-Var _ in
    rw is (fitted_var c.args.store.now (typ_of c.in-Var.field-0) c.args.v c.args.found.now.items c.push.new.self.items c.requires.within c.requires.found c.in_ok-push-in-Var.ensures.items)

pub fits-returns-in-Int : goal.fits-returns-in-Int
fits-returns-in-Int t c =
    let is : pattern_of c.args.pat.now ≡ PInt c.in-Int.n = ap pattern_of c.in-Int.is ∙ pattern_of-Int _ in
    rw is (fitted_tested c.args.store.now _ c.args.found.now.items c.is_int.result c.requires.found c.is_int.ensures)

pub fits-returns-in-Bool : goal.fits-returns-in-Bool
fits-returns-in-Bool t c =
    let is : pattern_of c.args.pat.now ≡ PBool c.in-Bool.b = ap pattern_of c.in-Bool.is ∙ pattern_of-Bool _ in
    rw is (fitted_tested c.args.store.now _ c.args.found.now.items c.is_bool.result c.requires.found c.is_bool.ensures)

pub fits-returns-in-Str : goal.fits-returns-in-Str
fits-returns-in-Str t c =
    let is : pattern_of c.args.pat.now ≡ PStr c.in-Str.text.0 = ap pattern_of c.in-Str.is ∙ pattern_of-Str _ in
    rw is (fitted_tested c.args.store.now _ c.args.found.now.items c.is_text.result c.requires.found c.is_text.ensures)

pub fits-returns-in-Unit : goal.fits-returns-in-Unit
fits-returns-in-Unit t c =
    let is : pattern_of c.args.pat.now ≡ PUnit = ap pattern_of c.in-Unit.is ∙ pattern_of-Unit in
    rw (is, c.is_unit.ensures) (fitted_tested c.args.store.now _ c.args.found.now.items _ c.requires.found (at_unit _))

pub fits-returns-in-Nil : goal.fits-returns-in-Nil
fits-returns-in-Nil t c =
    let is : pattern_of c.args.pat.now ≡ PNil = ap pattern_of c.in-Nil.is ∙ pattern_of-Nil in
    rw (is, c.is_nil.ensures) (fitted_tested c.args.store.now _ c.args.found.now.items _ c.requires.found (at_nil _))

pub fits-returns-in-Absent : goal.fits-returns-in-Absent
fits-returns-in-Absent t c =
    let is : pattern_of c.args.pat.now ≡ PAbsent = ap pattern_of c.in-Absent.is ∙ pattern_of-Absent in
    rw (is, c.is_absent.ensures) (fitted_tested c.args.store.now _ c.args.found.now.items _ c.requires.found (at_absent _))

pub fits-returns-in-Exn : goal.fits-returns-in-Exn
fits-returns-in-Exn t c =
    let is : pattern_of c.args.pat.now ≡ PExn (bare_number c.in-Exn.exn) = grind (arith, form_laws) in
    rw is (fitted_tested c.args.store.now _ c.args.found.now.items c.is_exn.result c.requires.found c.is_exn.ensures)

pub fits-returns-in-None : goal.fits-returns-in-None
fits-returns-in-None t c =
    let is : pattern_of c.args.pat.now ≡ PTuple (patterns (map pattern_of c.in-Tuple.parts)) = ap pattern_of c.in-Tuple.is ∙ pattern_of-Tuple _ in
    no_tuple c.args.store.now _ c.args.v _ is c.in-None.ensures

pub fits-returns-in-None-cons_in : goal.fits-returns-in-None-cons_in
fits-returns-in-None-cons_in t c =
    let is : pattern_of c.args.pat.now ≡ PCons (pattern_of c.in-Cons.head) (pattern_of c.in-Cons.tail) = ap pattern_of c.in-Cons.is ∙ pattern_of-Cons _ _ in
    no_cons c.args.store.now _ c.args.v _ _ is c.in-None-cons_in.ensures

pub fits-returns-in-None-present_in : goal.fits-returns-in-None-present_in
fits-returns-in-None-present_in t c =
    let is : pattern_of c.args.pat.now ≡ PPresent (pattern_of c.in-Present.inner) = ap pattern_of c.in-Present.is ∙ pattern_of-Present _ in
    no_present c.args.store.now _ c.args.v _ is c.in-None-present_in.ensures

pub fits-returns-in-None-exn_with : goal.fits-returns-in-None-exn_with
fits-returns-in-None-exn_with t c =
    let is : pattern_of c.args.pat.now ≡ PExnOf (texted_number c.in-ExnOf.exn) (pattern_of c.in-ExnOf.inner) = grind (arith, form_laws) in
    no_exn c.args.store.now _ c.args.v _ _ is c.in-None-exn_with.ensures

pub fits-returns-then-not-branch : goal.fits-returns-then-not-branch
fits-returns-then-not-branch t c =
    let is : pattern_of c.args.pat.now ≡ PCons (pattern_of c.deref.result.now) (pattern_of c.in-Cons.tail) = rw c.deref.ensures (ap pattern_of c.in-Cons.is ∙ pattern_of-Cons _ _) in
    let no : c.in_ok-fits-in-Some-cons_in.field-0 ≡ false = search rules in
    cons_not c.args.store.now _ c.args.v _ _ c.in-Some-cons_in.first c.in-Some-cons_in.rest c.args.found.now.items c.fits.new.found.items is c.in-Some-cons_in.ensures.2 (rw no at c.in_ok-fits-in-Some-cons_in.ensures)

pub fits_all-returns-then-pats-vs : goal.fits_all-returns-then-pats-vs
fits_all-returns-then-pats-vs t c = other_lengths c.args.store.now c.args.pats.now c.args.vs.now (λ e. c.if-pats-vs.true e)

pub fits-returns-then-number : goal.fits-returns-then-number
fits-returns-then-number t c =
    let is : pattern_of c.args.pat.now ≡ PExnOf (texted_number c.in-ExnOf.exn) (pattern_of c.in-ExnOf.inner) = grind (arith, form_laws) in
    let no : nat_eq (texted_number c.in-ExnOf.exn) (texted_number c.in-Some-exn_with.of) ≡ false = grind (arith, nat_tests) in
    other_exn c.args.store.now _ c.args.v _ _ _ c.in-Some-exn_with.value is c.in-Some-exn_with.ensures.1 no

pub fits-returns-in_ok-fit-in-Some : goal.fits-returns-in_ok-fit-in-Some
fits-returns-in_ok-fit-in-Some t c =
    let is : pattern_of c.args.pat.now ≡ PTuple (patterns (map pattern_of c.in-Tuple.parts)) = ap pattern_of c.in-Tuple.is ∙ pattern_of-Tuple _ in
    tuple_fits c.args.store.now _ c.args.v c.args.found.now.items c.fits_all.new.found.items c.in_ok-fit-in-Some.fit c.in-Tuple.parts c.as_slice.result.now c.in-Some.values.now c.as_slice-in-Some.result.now
    is c.as_slice.ensures c.as_slice-in-Some.ensures c.in-Some.ensures.1 c.in_ok-fit-in-Some.ensures

pub fits-returns-in_ok-fit-in-Some-cons_in : goal.fits-returns-in_ok-fit-in-Some-cons_in
fits-returns-in_ok-fit-in-Some-cons_in t c =
    let is : pattern_of c.args.pat.now ≡ PCons (pattern_of c.deref.result.now) (pattern_of c.deref-in-Some-cons_in.result.now) = rw (c.deref.ensures, c.deref-in-Some-cons_in.ensures) (ap pattern_of c.in-Cons.is ∙ pattern_of-Cons _ _) in
    let yes : c.in_ok-fits-in-Some-cons_in.field-0 ≡ true = search rules in
    cons_fits c.args.store.now _ c.args.v _ _ c.in-Some-cons_in.first c.in-Some-cons_in.rest c.args.found.now.items c.fits.new.found.items is c.in-Some-cons_in.ensures.2
    c.fits-in-Some-cons_in.new.found.items c.in_ok-fit-in-Some-cons_in.fit (rw yes at c.in_ok-fits-in-Some-cons_in.ensures) c.in_ok-fit-in-Some-cons_in.ensures

pub fits-returns-in_ok-fit-in-Some-present_in : goal.fits-returns-in_ok-fit-in-Some-present_in
fits-returns-in_ok-fit-in-Some-present_in t c =
    let is : pattern_of c.args.pat.now ≡ PPresent (pattern_of c.deref-in-Some-present_in.result.now) = rw c.deref-in-Some-present_in.ensures (ap pattern_of c.in-Present.is ∙ pattern_of-Present _) in
    present_fits c.args.store.now _ c.args.v c.args.found.now.items c.fits-in-Some-present_in.new.found.items c.in_ok-fit-in-Some-present_in.fit _ c.in-Some-present_in.value is c.in-Some-present_in.ensures.1 c.in_ok-fit-in-Some-present_in.ensures

pub fits-returns-in_ok-fit-in-Some-exn_with : goal.fits-returns-in_ok-fit-in-Some-exn_with
fits-returns-in_ok-fit-in-Some-exn_with t c =
    let is : pattern_of c.args.pat.now ≡ PExnOf (texted_number c.in-ExnOf.exn) (pattern_of c.deref-in-Some-exn_with.result.now) = grind (arith, form_laws) in
    let yes : nat_eq (texted_number c.in-ExnOf.exn) (texted_number c.in-Some-exn_with.of) ≡ true = grind (arith, nat_tests) in
    exn_fits c.args.store.now _ c.args.v c.args.found.now.items c.fits-in-Some-exn_with.new.found.items c.in_ok-fit-in-Some-exn_with.fit _ _ _ c.in-Some-exn_with.value is c.in-Some-exn_with.ensures.1 yes c.in_ok-fit-in-Some-exn_with.ensures

pub fits_all-returns-then-not-branch : goal.fits_all-returns-then-not-branch
fits_all-returns-then-not-branch t c =
    let k : c.loop-i.i < length c.args.vs.now = omega (arith, c.loop-i.invariant.lengths, c.loop-i-test.true) in
    left_not c.args.store.now c.args.pats.now c.args.vs.now c.args.found.now.items c.loop-i.found.items c.loop-i.i c.index-pats-i.result _ c.loop-i-test.true k c.index-pats-i.is
    (same_item c.args.vs.now c.loop-i.i _ _ k) c.loop-i.invariant.left c.fits.new.found.items (rw c.if-not-branch.true at c.in_ok-fits.ensures)

pub fits_all-loop-i-preserved : goal.fits_all-loop-i-preserved
fits_all-loop-i-preserved t c =
    let k : c.loop-i.i < length c.args.vs.now = omega (arith, c.loop-i.invariant.lengths, c.loop-i-test.true) in
    let fit = rw c.if-not-branch.false at c.in_ok-fits.ensures in
    record {
      lengths = c.loop-i.invariant.lengths;
      found = fit.0;
      left =
          left_on c.args.store.now c.args.pats.now c.args.vs.now c.args.found.now.items c.loop-i.found.items c.loop-i.i c.index-pats-i.result _ c.loop-i-test.true k c.index-pats-i.is
          (same_item c.args.vs.now c.loop-i.i _ _ k) c.loop-i.invariant.left c.fits.new.found.items fit;
    }
