-- Examples of the bound on types, computed: a type that the main program sees as a small one, and the home of its name as one that is too high.
use Rattle.std.proofs.Common.{◌≡◌, refl, ℕ, zero, suc}
use Rattle.std.specs.Prelude.{pos, true, false, [], ◌∷◌, None, Some, codes}
use Rattle.ac_types.specs.Types.{Typ, TInt, TList, TFun, TAbs, is_small}
use Rattle.ac_terms.specs.Terms.{Main, In, Expr, Int, Nil, Lam, Bracket, KFun}
use Rattle.ac_terms.specs.Defs.{Environment, Module, AModule, Own'}
use Rattle.ac_rules.specs.Views.{Coloured}
use Rattle.ac_rules.specs.Typing.{all_of, type_of, holds}
use Rattle.ac_meaning.specs.Typed.{Typed}

-- lists of lists of ints
abbrev nested : ℕ → Typ
nested zero = TInt
nested (suc k) = TList (nested k)

-- a module whose abstract type has the height 100
abbrev deep_module : Module
deep_module = record {
  name = codes "D";
  version = [];
  sig = record { types = record { name = codes "t"; manifest = None } ∷ []; vals = [] };
  types = record { name = codes "t"; ty = nested 99 } ∷ [];
  fields = [];
}

abbrev deep : Environment
deep = record { def = AModule deep_module; name = Some (codes "d"); seen = Own'; link = None } ∷ []

abbrev d_t : Typ
d_t = TAbs (codes "d") (codes "t")

height_100 : is_small (nested 99) ≡ true
height_100 = refl

height_101 : is_small (nested 100) ≡ false
height_101 = refl

-- the main program sees a list of them, and the module doesn't
main_sees : type_of Coloured false deep (all_of deep Main) (Nil (TList d_t)) ≡ Some (TList d_t)
main_sees = refl

home_does_not : type_of Coloured false deep (all_of deep (In 0)) (Nil (TList d_t)) ≡ None
home_does_not = refl

-- so a bracket of the module at that type has no type by the rules, where the main program sees it as a small one. Without bounds it has one
abbrev crossing : Expr
crossing = Bracket (In 0) (TList d_t) (Nil (TList d_t))

no_crossing : type_of Coloured false deep (all_of deep Main) crossing ≡ None
no_crossing = refl

typed_without : Typed Coloured deep crossing Main [] (TList d_t)
typed_without = (refl, refl, (nested 99, refl, refl, refl), refl)

-- no string brings such a bracket: a function of the module isn't of a type that the module sees as one too high, and one of the main program is
abbrev taker : Expr
taker = Lam (TList d_t) (Int (pos 0))

no_function : holds Coloured false deep (KFun (In 0) taker) (TFun (TList d_t) TInt) ≡ false
no_function = refl

a_function : holds Coloured false deep (KFun Main taker) (TFun (TList d_t) TInt) ≡ true
a_function = refl
