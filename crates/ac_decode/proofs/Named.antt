-- The numbers that primitives have are those for which there are rules.
use Rattle.std.proofs.Common.{◌≡◌, refl, ap, ◌∙◌, ℕ, zero, suc, ◌≤◌, true, false, List, [], ◌∷◌, length, Option, Some, None, arith}
use Rattle.std.specs.Prelude.{MatchOption}
use Rattle.std.proofs.lemmas.Bool.Decides.{nat_tests}
use Rattle.ac_types.specs.declared.primitives.Primitive.{Primitive}
use Rattle.ac_types.specs.declared.primitives.Primitive.TheVariants.{Add, Sub, Mul, Div, Rem, Neg, Eq, Lt, Concat, Not, PrintInt, PrintString, Send, Receive, Length, SubString, OfInt}
use Rattle.ac_types.specs.Primitives.{is_primitive}
use Rattle.ac_types.specs.ReadNumbers.{primitive_number, arity}
use Rattle.ac_terms.specs.PrimitiveTypes.{Rule, primitives}
use Rattle.ac_terms.specs.Bounds.{takes}
use Rattle.ac_terms.specs.PacketReading.{argument_count}
use Rattle.ac_decode.specs.inner.ExactTerms.{names_primitive}

takes_none : (rules : List (List Rule)) (k n : ℕ) → length rules ≤ k → takes rules k n ≡ false
takes_none [] k n h = refl
takes_none ([] ∷ rest) k n h = refl
takes_none ((r ∷ rs) ∷ rest) zero n h = absurd (omega (arith, h))
takes_none ((r ∷ rs) ∷ rest) (suc k) n h = takes_none rest k n (omega (arith, h))

past : (k : ℕ) → is_primitive k ≡ false → 17 ≤ k
past k e = grind (arith, nat_tests)

each_named : (p : Primitive) → names_primitive (primitive_number p) ≡ true
each_named Add = refl
each_named Sub = refl
each_named Mul = refl
each_named Div = refl
each_named Rem = refl
each_named Neg = refl
each_named Eq = refl
each_named Lt = refl
each_named Concat = refl
each_named Not = refl
each_named PrintInt = refl
each_named PrintString = refl
each_named Send = refl
each_named Receive = refl
each_named Length = refl
each_named SubString = refl
each_named OfInt = refl

pub named : (o : Option Primitive) (k : ℕ) → MatchOption o (is_primitive k ≡ false) (λ p. (is_primitive k ≡ true) × (k ≡ primitive_number p)) →
    MatchOption o (names_primitive k ≡ false) (λ p. (names_primitive k ≡ true) × (k ≡ primitive_number p))
named None k e = takes_none primitives k (argument_count primitives k) (past k e)
named (Some p) k e = (ap names_primitive e.1 ∙ each_named p, e.1)

pub arity_counted : (p : Primitive) → arity p ≡ argument_count primitives (primitive_number p)
arity_counted Add = refl
arity_counted Sub = refl
arity_counted Mul = refl
arity_counted Div = refl
arity_counted Rem = refl
arity_counted Neg = refl
arity_counted Eq = refl
arity_counted Lt = refl
arity_counted Concat = refl
arity_counted Not = refl
arity_counted PrintInt = refl
arity_counted PrintString = refl
arity_counted Send = refl
arity_counted Receive = refl
arity_counted Length = refl
arity_counted SubString = refl
arity_counted OfInt = refl
