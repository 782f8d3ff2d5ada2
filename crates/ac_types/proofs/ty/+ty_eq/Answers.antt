use Rattle.std.proofs.Common.{refl, sym, ◌∙◌}
use Rattle.ac_types.specs.declared.ty.Ty.TheVariants.{Tuple, List, Opt, Fun, Mine}
use Rattle.ac_types.proofs.Equal.{Tuple-apart, List-apart, Opt-apart, Fun-apart, Named, Named-apart, Mine-apart, bytes_decided, alike, unlike, by_part, by_first, by_second}
use Rattle.ac_types.proofs.ty.+ty_eq.Goals as goal

pub ty_eq-returns-in-Int-matches : goal.ty_eq-returns-in-Int-matches
ty_eq-returns-in-Int-matches t c = alike c.in-Int.is c.in-Int-matches.is

pub ty_eq-returns-in_default : goal.ty_eq-returns-in_default
ty_eq-returns-in_default t c = unlike c.in-Int.is c.in_default.not-Int

pub ty_eq-returns-in-Bool-matches : goal.ty_eq-returns-in-Bool-matches
ty_eq-returns-in-Bool-matches t c = alike c.in-Bool.is c.in-Bool-matches.is

pub ty_eq-returns-in_default-matches : goal.ty_eq-returns-in_default-matches
ty_eq-returns-in_default-matches t c = unlike c.in-Bool.is c.in_default-matches.not-Bool

pub ty_eq-returns-in-Str-matches : goal.ty_eq-returns-in-Str-matches
ty_eq-returns-in-Str-matches t c = alike c.in-Str.is c.in-Str-matches.is

pub ty_eq-returns-in_default-matches-2 : goal.ty_eq-returns-in_default-matches-2
ty_eq-returns-in_default-matches-2 t c = unlike c.in-Str.is c.in_default-matches-2.not-Str

pub ty_eq-returns-in-Unit-matches : goal.ty_eq-returns-in-Unit-matches
ty_eq-returns-in-Unit-matches t c = alike c.in-Unit.is c.in-Unit-matches.is

pub ty_eq-returns-in_default-matches-3 : goal.ty_eq-returns-in_default-matches-3
ty_eq-returns-in_default-matches-3 t c = unlike c.in-Unit.is c.in_default-matches-3.not-Unit

pub ty_eq-returns-in-Exn-matches : goal.ty_eq-returns-in-Exn-matches
ty_eq-returns-in-Exn-matches t c = alike c.in-Exn.is c.in-Exn-matches.is

pub ty_eq-returns-in_default-matches-4 : goal.ty_eq-returns-in_default-matches-4
ty_eq-returns-in_default-matches-4 t c = unlike c.in-Exn.is c.in_default-matches-4.not-Exn

pub ty_eq-returns-in-Tuple-b : goal.ty_eq-returns-in-Tuple-b
ty_eq-returns-in-Tuple-b t c = by_part Tuple Tuple-apart c.in-Tuple.is c.in-Tuple-b.is c.as_slice.ensures c.as_slice-in-Tuple-b.ensures c.tys_eq.ensures

pub ty_eq-returns-in_default-b : goal.ty_eq-returns-in_default-b
ty_eq-returns-in_default-b t c = unlike c.in-Tuple.is (c.in_default-b.not-Tuple c.in-Tuple.xs)

pub ty_eq-returns-in-List-b : goal.ty_eq-returns-in-List-b
ty_eq-returns-in-List-b t c = by_part List List-apart c.in-List.is c.in-List-b.is c.deref.ensures c.deref-in-List-b.ensures c.ty_eq.ensures

pub ty_eq-returns-in_default-b-2 : goal.ty_eq-returns-in_default-b-2
ty_eq-returns-in_default-b-2 t c = unlike c.in-List.is (c.in_default-b-2.not-List c.in-List.x)

pub ty_eq-returns-in-Opt-b : goal.ty_eq-returns-in-Opt-b
ty_eq-returns-in-Opt-b t c = by_part Opt Opt-apart c.in-Opt.is c.in-Opt-b.is c.deref-in-Opt-b.ensures c.deref-in-Opt-b-2.ensures c.ty_eq-in-Opt-b.ensures

pub ty_eq-returns-in_default-b-3 : goal.ty_eq-returns-in_default-b-3
ty_eq-returns-in_default-b-3 t c = unlike c.in-Opt.is (c.in_default-b-3.not-Opt c.in-Opt.x)

pub ty_eq-returns-then-ty_eq : goal.ty_eq-returns-then-ty_eq
ty_eq-returns-then-ty_eq t c =
    let first = sym c.deref-in-Fun-b.ensures ∙ c.ty_eq-in-Fun-b.ensures.0 c.if-ty_eq.true ∙ c.deref-in-Fun-b-2.ensures in
    by_second Fun Fun-apart c.in-Fun.is c.in-Fun-b.is first c.deref-then-ty_eq.ensures c.deref-then-ty_eq-2.ensures c.ty_eq-then-ty_eq.ensures

pub ty_eq-returns-else-ty_eq : goal.ty_eq-returns-else-ty_eq
ty_eq-returns-else-ty_eq t c = by_first Fun Fun-apart c.in-Fun.is c.in-Fun-b.is c.deref-in-Fun-b.ensures c.deref-in-Fun-b-2.ensures c.if-ty_eq.false c.ty_eq-in-Fun-b.ensures

pub ty_eq-returns-in_default-b-4 : goal.ty_eq-returns-in_default-b-4
ty_eq-returns-in_default-b-4 t c = unlike c.in-Fun.is (c.in_default-b-4.not-Fun c.in-Fun.x c.in-Fun.v)

pub ty_eq-returns-then-eq : goal.ty_eq-returns-then-eq
ty_eq-returns-then-eq t c =
    let name = (bytes_decided c.in-Abs.n.0 c.in-Abs-b.m.0 c.eq.ensures).0 c.if-eq.true in
    by_second Named Named-apart c.in-Abs.is c.in-Abs-b.is name refl refl (bytes_decided c.in-Abs.x c.in-Abs-b.y c.is.ensures)

pub ty_eq-returns-else-eq : goal.ty_eq-returns-else-eq
ty_eq-returns-else-eq t c = by_first Named Named-apart c.in-Abs.is c.in-Abs-b.is refl refl c.if-eq.false (bytes_decided c.in-Abs.n.0 c.in-Abs-b.m.0 c.eq.ensures)

pub ty_eq-returns-in_default-b-5 : goal.ty_eq-returns-in_default-b-5
ty_eq-returns-in_default-b-5 t c = unlike c.in-Abs.is (c.in_default-b-5.not-Abs c.in-Abs.n c.in-Abs.x)

pub ty_eq-returns-in-Mine-b : goal.ty_eq-returns-in-Mine-b
ty_eq-returns-in-Mine-b t c = by_part Mine Mine-apart c.in-Mine.is c.in-Mine-b.is refl refl (bytes_decided c.in-Mine.x c.in-Mine-b.y c.is-in-Mine-b.ensures)

pub ty_eq-returns-in_default-b-6 : goal.ty_eq-returns-in_default-b-6
ty_eq-returns-in_default-b-6 t c = unlike c.in-Mine.is (c.in_default-b-6.not-Mine c.in-Mine.x)
