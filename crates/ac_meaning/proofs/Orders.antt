-- Environments in which representations and fields speak of earlier ones alone, so that crossing a bracket and evaluating a field end.
use Rattle.std.proofs.Common.{◌≡◌, ℕ, ◌<◌, Bool, true, false, Option, Some, None}
use Rattle.ac_types.specs.Types.{Bytes, Typ}
use Rattle.ac_terms.specs.Terms.{In, Expr, Int, Boolean, Str, Unit', Exn, ExnOf, Tuple, Nil, Empty, Present, Cons, Own, Ref, Lam, Rec, Exprs, no_exprs, expr}
use Rattle.ac_terms.specs.Defs.{Environment}
use Rattle.ac_rules.specs.Views.{representation}
use Rattle.ac_meaning.specs.References.{own_field, target, Route, Nowhere, Once, Twice, through}
use Rattle.ac_meaning.proofs.Eval.{order, Ranked, place}

module _ (E : Environment) where
  -- the field to which a way leads has a place below r
  abbrev pub RouteBelow : ℕ → Route → Type 0
  RouteBelow r Nowhere = Unit {0}
  RouteBelow r (Once m f T) = place m f < r
  RouteBelow r (Twice m f T S) = place m f < r

  -- the field from which a value comes has a place below r, and so has that of each way to it
  abbrev pub TargetBelow : ℕ → Option (ℕ × ℕ) → Type 0
  TargetBelow r None = Unit {0}
  TargetBelow r (Some p) = place p.0 p.1 < r

  pub way_below : (r : ℕ) (twice : Bool) (p : Option (ℕ × ℕ)) (T S : Option Typ) → TargetBelow r p → RouteBelow r (through twice p T S)
  way_below r false (Some p) (Some T) S h = h
  way_below r true (Some p) (Some T) (Some S) h = h
  way_below r _ _ _ _ h = tt

  -- valuable in home j, of fields with places below r alone
  abbrev mutual
    pub Valuable : ℕ → ℕ → Expr → Type 0
    Valuable r j (Int n) = Unit {0}
    Valuable r j (Boolean b) = Unit {0}
    Valuable r j (Str s) = Unit {0}
    Valuable r j Unit' = Unit {0}
    Valuable r j (Exn k) = Unit {0}
    Valuable r j (ExnOf k e) = Valuable r j e
    Valuable r j (Tuple es) = AllValuable r j es
    Valuable r j (Nil T) = Unit {0}
    Valuable r j (Empty T) = Unit {0}
    Valuable r j (Present e) = Valuable r j e
    Valuable r j (Cons a b) = Valuable r j a × Valuable r j b
    Valuable r j (Own f) = place j f < r
    Valuable r j (Ref i x) = TargetBelow r (target E i x)
    Valuable r j (Lam T e) = Unit {0}
    Valuable r j (Rec T U e) = Unit {0}
    Valuable r j e = ⊥

    pub AllValuable : ℕ → ℕ → Exprs → Type 0
    AllValuable r j no_exprs = Unit {0}
    AllValuable r j (expr e es) = Valuable r j e × AllValuable r j es

  abbrev pub FieldBelow : ℕ → ℕ → Option Expr → Type 0
  FieldBelow j f None = Unit {0}
  FieldBelow j f (Some e) = Valuable (place j f) j e

  pub record Ordered : Type 0 where
    -- a representation mentions names of earlier entries
    pub types : (n t : Bytes) (R : Typ) → representation E n t ≡ Some R → Ranked E R (order E n)
    -- a field is valuable, of earlier fields
    pub fields : (j f : ℕ) → FieldBelow j f (own_field E (In j) f)
