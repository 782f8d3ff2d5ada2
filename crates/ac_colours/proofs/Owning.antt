-- What code of a home writes: the types of its marshals, unmarshals, binders and captured values pass a test of the home. Types of brackets, and of values that stand in brackets or where the next step is, are free.
use Rattle.std.proofs.Common.{◌≡◌, Bool, true, false}
use Rattle.std.specs.List.{list_all}
use Rattle.ac_types.specs.Types.{Bytes, Typ, mentions}
use Rattle.ac_terms.specs.Terms.{Home, Main, Pattern, PVar, PTuple, PCons, PPresent, PExnOf, Patterns, no_patterns, pattern', Expr, ExnOf, Tuple, Present, Cons, Lam, Rec, App, Let, If, Seq, Match, Try, Raise, Prim, Marshal, Unmarshal, Val, Evaluated, Bracket, Exprs, no_exprs, expr, Arms, no_arms, arm, Value, VTuple, VCons, VPresent, VLam, VRec, VProxy, VSeal, Values, no_values, value}
use Rattle.ac_meaning.specs.Acts.{Returned, State, At, Over}

module _ (q : Home → Bytes × Bytes → Bool) where
  -- the home may write the type
  abbrev pub Writes : Home → Typ → Type 0
  Writes c T = list_all (q c) (mentions T) ≡ true

  -- a type of a value that stands where the next step is (true) is free
  abbrev pub Captures : Bool → Home → Typ → Type 0
  Captures true c T = Unit {0}
  Captures false c T = Writes c T

  -- a bracket stands only where the next step is
  abbrev pub Loose : Bool → Type 0
  Loose true = Unit {0}
  Loose false = ⊥

  abbrev mutual
    pub PatternOwned : Home → Pattern → Type 0
    PatternOwned c (PVar T) = Writes c T
    PatternOwned c (PTuple ps) = PatternsOwned c ps
    PatternOwned c (PCons p r) = PatternOwned c p × PatternOwned c r
    PatternOwned c (PPresent p) = PatternOwned c p
    PatternOwned c (PExnOf k p) = PatternOwned c p
    PatternOwned c p = Unit {0}

    pub PatternsOwned : Home → Patterns → Type 0
    PatternsOwned c no_patterns = Unit {0}
    PatternsOwned c (pattern' p ps) = PatternOwned c p × PatternsOwned c ps

  -- a term of home c: where the next step is, or under binders
  abbrev mutual
    pub Owned : Bool → Home → Expr → Type 0
    Owned k c (ExnOf n e) = Owned k c e
    Owned k c (Tuple es) = AllOwned k c es
    Owned k c (Present e) = Owned k c e
    Owned k c (Cons a b) = Owned k c a × Owned k c b
    Owned k c (Lam T e) = Writes c T × Owned false c e
    Owned k c (Rec T U e) = Writes c T × Writes c U × Owned false c e
    Owned k c (App f a) = Owned k c f × Owned k c a
    Owned k c (Let T e b) = Writes c T × Owned k c e × Owned false c b
    Owned k c (If e a b) = Owned k c e × Owned k c a × Owned k c b
    Owned k c (Seq es) = AllOwned k c es
    Owned k c (Match e arms) = Owned k c e × ArmsOwned c arms
    Owned k c (Try e arms) = Owned k c e × ArmsOwned c arms
    Owned k c (Raise T e) = Owned k c e
    Owned k c (Prim n es) = AllOwned k c es
    Owned k c (Marshal T m e) = Writes c T × Owned k c m × Owned k c e
    Owned k c (Unmarshal T e) = Writes c T × Owned k c e
    Owned k c (Evaluated T v) = Captures k c T × ValueOwned c v
    Owned k c (Val T v) = ⊥
    Owned k c (Bracket b T e) = Loose k × Owned true b e
    Owned k c e = Unit {0}

    pub AllOwned : Bool → Home → Exprs → Type 0
    AllOwned k c no_exprs = Unit {0}
    AllOwned k c (expr e es) = Owned k c e × AllOwned k c es

    pub ArmsOwned : Home → Arms → Type 0
    ArmsOwned c no_arms = Unit {0}
    ArmsOwned c (arm p e rest) = PatternOwned c p × Owned false c e × ArmsOwned c rest

    pub ValueOwned : Home → Value → Type 0
    ValueOwned c (VTuple vs) = ValuesOwned c vs
    ValueOwned c (VCons v w) = ValueOwned c v × ValueOwned c w
    ValueOwned c (VPresent v) = ValueOwned c v
    ValueOwned c (VLam T e) = Writes c T × Owned false c e
    ValueOwned c (VRec T U e) = Writes c T × Writes c U × Owned false c e
    ValueOwned c (VProxy b T U f) = ValueOwned b f
    ValueOwned c (VSeal b n t v) = ValueOwned b v
    ValueOwned c v = Unit {0}

    pub ValuesOwned : Home → Values → Type 0
    ValuesOwned c no_values = Unit {0}
    ValuesOwned c (value v vs) = ValueOwned c v × ValuesOwned c vs

  abbrev pub StateOwned : State Expr Value → Type 0
  StateOwned (At e z) = Owned true Main e
  StateOwned (Over (Returned v z)) = ValueOwned Main v
  StateOwned (Over o) = Unit {0}
