-- What the values of the machine stand for.
use Rattle.std.specs.Prelude.{ℕ, pos, Bool, true, false, List, [], ◌∷◌, Option, Some, None, slice_get}
use Rattle.ac_types.specs.Types.{Typ, TInt}
use Rattle.ac_terms.specs.Terms.{Home, Main, Expr, Lam, Rec}
use Rattle.ac_code.specs.Code.{Block, Code}
use Rattle.ac_values.specs.Values.{MValue, MInt, MBool, MStr, MUnit, MExn, MExnOf, MTuple, MNil, MCons, MAbsent, MPresent, MClosure, MEnd, MMore, MValues, nothing, also}
use Rattle.ac_meaning.specs.BareTerms.{BInt, BApp, BareValue, WInt, WBool, WStr, WUnit, WExn, WTuple, WNil, WCons, WAbsent, WPresent, WLam, WRec, BareValues, no_bare_values, bare_value', bare_term}
use Rattle.ac_meaning.specs.BareReduction.{BareWritten, inst}

-- what stands for nothing: a function whose body has no meaning
abbrev pub senseless : BareValue
senseless = WLam Main TInt (BApp (BInt (pos 0)) (BInt (pos 0)))

abbrev pub exception_with : ℕ → MValue → BareValue
exception_with k (MStr s) = WExn k (Some s)
exception_with k m = senseless

-- the function that a closure stands for, by its block's home, lambda and context, by whether it is marked as recursive, and by the values around it, of which each has the type that the context says
abbrev pub closed : Home → Option Expr → List Typ → Bool → (List Typ → BareWritten) → BareValue
closed h (Some (Lam T e)) G false es = WLam h T (inst 1 (es G) (bare_term h e))
closed h (Some (Rec T U e)) G true es = WRec h T U (inst 2 (es G) (bare_term h e))
closed h l G r es = senseless

abbrev pub closure_of : Option Block → Bool → (List Typ → BareWritten) → BareValue
closure_of None r es = senseless
closure_of (Some b) r es = closed b.home b.lambda b.context r es

module _ (K : Code) where
  abbrev mutual
    pub stands : MValue → BareValue
    stands (MInt n) = WInt n
    stands (MBool b) = WBool b
    stands (MStr s) = WStr s
    stands MUnit = WUnit
    stands (MExn k) = WExn k None
    stands (MExnOf k m) = exception_with k m
    stands (MTuple ms) = WTuple (all_stand ms)
    stands MNil = WNil
    stands (MCons a b) = WCons (stands a) (stands b)
    stands MAbsent = WAbsent
    stands (MPresent a) = WPresent (stands a)
    stands (MClosure b r es) = closure_of (slice_get K.blocks b) r (λ G. environment_values es G)
    stands MEnd = senseless
    stands (MMore a es) = senseless

    pub all_stand : MValues → BareValues
    all_stand nothing = no_bare_values
    all_stand (also m ms) = bare_value' (stands m) (all_stand ms)

    -- the variables of an environment; one whose type is not kept counts as an int
    pub environment_values : MValue → List Typ → BareWritten
    environment_values (MMore a b) [] = (TInt, stands a) ∷ environment_values b []
    environment_values (MMore a b) (T ∷ G) = (T, stands a) ∷ environment_values b G
    environment_values m G = []
