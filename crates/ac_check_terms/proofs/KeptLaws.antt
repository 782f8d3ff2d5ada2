-- Small types: a type is small only where its parts are.
use Rattle.std.proofs.Common.{◌≡◌, refl, sym, ap, ap₂, ◌∙◌, arith, Bool, true, false, Option, Some, None}
use Rattle.std.specs.Prelude.{option_map, option_and_then, is_some}
use mathlib.Core.Bool.{true≢false}
use Rattle.ac_types.specs.Partial.{given, has}
use Rattle.ac_types.specs.Types.{Typ, TList, TOpt, TFun, same, is_small}
use Rattle.ac_types.proofs.FirstLaws.{none≢some, some_eq, given_some}
use Rattle.ac_types.proofs.Same.{same_eq, same_refl}
use Rattle.ac_check_views.proofs.SmallLaws.{not_small}
use Rattle.ac_rules.specs.Views.{Coloured}
use Rattle.ac_rules.specs.Typing.{kept_in, a_list, an_option, list_item, option_item}

abbrev pub K : Option Typ → Option Typ
K o = kept_in Coloured o

from_not_small : (T U : Typ) → is_small T ≡ false → is_small (TFun T U) ≡ false
from_not_small T U e = not_small T (TFun T U) (omega arith) (omega arith) e

to_not_small : (T U : Typ) → is_small U ≡ false → is_small (TFun T U) ≡ false
to_not_small T U e = not_small U (TFun T U) (omega arith) (omega arith) e

kept_none : (T : Typ) → is_small T ≡ false → K (Some T) ≡ None
kept_none T e = ap (λ b. given b (Some T)) e

-- what is kept is what it was
pub kept_is : (T U : Typ) → K (Some T) ≡ Some U → U ≡ T
kept_is T U e = sym (some_eq (given_some (is_small T) (Some T) e).1)

none_not_small : (T : Typ) → K (Some T) ≡ None → is_small T ≡ false
none_not_small T e = by (is_small T) e
  where
    by : (b : Bool) → given b (Some T) ≡ None → b ≡ false
    by true e = absurd (none≢some (sym e))
    by false e = refl

pub no_kept_fun : (T U : Typ) → K (Some T) ≡ None → K (Some (TFun T U)) ≡ None
no_kept_fun T U e = kept_none (TFun T U) (from_not_small T U (none_not_small T e))

-- a list's or an option's type that is written

pub kept_a_list : (s : Option Typ) → option_and_then a_list (K s) ≡ K (option_and_then a_list s)
kept_a_list None = refl
kept_a_list (Some T) = by (is_small T) refl T refl
  where
    is_none : (U : Typ) → is_small U ≡ false → K (a_list U) ≡ None
    is_none (TList U) e = kept_none (TList U) e
    is_none U e = refl

    is_some' : (U : Typ) → is_small U ≡ true → K (a_list U) ≡ a_list U
    is_some' (TList U) e = ap (λ b. given b (Some (TList U))) e
    is_some' U e = refl

    by : (b : Bool) → is_small T ≡ b → (U : Typ) → U ≡ T → option_and_then a_list (given b (Some T)) ≡ K (a_list T)
    by true e U q = sym (is_some' T e)
    by false e U q = sym (is_none T e)

pub kept_an_option : (s : Option Typ) → option_and_then an_option (K s) ≡ K (option_and_then an_option s)
kept_an_option None = refl
kept_an_option (Some T) = by (is_small T) refl
  where
    is_none : (U : Typ) → is_small U ≡ false → K (an_option U) ≡ None
    is_none (TOpt U) e = kept_none (TOpt U) e
    is_none U e = refl

    is_some' : (U : Typ) → is_small U ≡ true → K (an_option U) ≡ an_option U
    is_some' (TOpt U) e = ap (λ b. given b (Some (TOpt U))) e
    is_some' U e = refl

    by : (b : Bool) → is_small T ≡ b → option_and_then an_option (given b (Some T)) ≡ K (an_option T)
    by true e = sym (is_some' T e)
    by false e = sym (is_none T e)

-- a function whose argument's type is written: without a small one it has no type

pub kept_some_is : (s : Option Typ) (A : Typ) → K s ≡ Some A → s ≡ Some A
kept_some_is None A e = absurd (none≢some e)
kept_some_is (Some T) A e = ap Some (sym (kept_is T A e))

pub lam_some : (s : Option Typ) (f : Typ → Option Typ) (A : Typ) → K s ≡ Some A → option_and_then (λ X. K (option_map (TFun X) (f X))) s ≡ K (option_map (TFun A) (f A))
lam_some s f A e = ap (option_and_then (λ X. K (option_map (TFun X) (f X)))) (kept_some_is s A e)

pub lam_none : (s : Option Typ) (f : Typ → Option Typ) → K s ≡ None → option_and_then (λ X. K (option_map (TFun X) (f X))) s ≡ None
lam_none None f e = refl
lam_none (Some A) f e = by (f A)
  where
    by : (o : Option Typ) → K (option_map (TFun A) o) ≡ None
    by None = refl
    by (Some B) = no_kept_fun A B e

-- the same for a recursive function, whose result's type is written too
abbrev pub rec : (Typ → Typ → Option Typ) → Option Typ → Option Typ → Option Typ
rec f s r = option_and_then (λ A. option_and_then (λ B. K (given (has (f A B) B) (Some (TFun A B)))) r) s

no_given : (b : Bool) (A B : Typ) → K (Some (TFun A B)) ≡ None → K (given b (Some (TFun A B))) ≡ None
no_given true A B e = e
no_given false A B e = refl

to_none : (A B : Typ) → K (Some B) ≡ None → K (Some (TFun A B)) ≡ None
to_none A B e = kept_none (TFun A B) (to_not_small A B (none_not_small B e))

pub rec_no_result : (f : Typ → Typ → Option Typ) (s r : Option Typ) → K r ≡ None → rec f s r ≡ None
rec_no_result f None r e = refl
rec_no_result f (Some A) None e = refl
rec_no_result f (Some A) (Some B) e = no_given (has (f A B) B) A B (to_none A B e)

pub rec_none : (f : Typ → Typ → Option Typ) (s r : Option Typ) → K s ≡ None → rec f s r ≡ None
rec_none f None r e = refl
rec_none f (Some A) None e = refl
rec_none f (Some A) (Some B) e = no_given (has (f A B) B) A B (no_kept_fun A B e)

pub rec_some : (f : Typ → Typ → Option Typ) (s r : Option Typ) (A B : Typ) → K s ≡ Some A → K r ≡ Some B → rec f s r ≡ K (given (has (f A B) B) (Some (TFun A B)))
rec_some f s r A B p q = ap₂ (rec f) (kept_some_is s A p) (kept_some_is r B q)

pub rec_big : (o : Option Typ) (A B : Typ) → K (Some (TFun A B)) ≡ None → K (given (has o B) (Some (TFun A B))) ≡ None
rec_big o A B e = no_given (has o B) A B e

pub rec_small : (o : Option Typ) (A B F : Typ) → K (Some (TFun A B)) ≡ Some F → K (given (has o B) (Some (TFun A B))) ≡ given (has o B) (Some F)
rec_small o A B F e = by (has o B) ∙ ap (λ X. given (has o B) (Some X)) (sym (kept_is (TFun A B) F e))
  where
    by : (b : Bool) → K (given b (Some (TFun A B))) ≡ given b (Some (TFun A B))
    by true = e ∙ ap Some (kept_is (TFun A B) F e)
    by false = refl

-- a binding whose type is written

same_turned : (T U : Typ) → same T U ≡ false → same U T ≡ false
same_turned T U e = by (same U T) refl
  where
    by : (b : Bool) → same U T ≡ b → b ≡ false
    by false p = refl
    by true p = absurd (true≢false (sym (same_refl T) ∙ ap (same T) (sym (same_eq U T p)) ∙ e))

pub let_other : (s : Option Typ) (F : Typ) (f : Typ → Option Typ) → has s F ≡ false → option_and_then (λ A. given (has (Some F) A) (f A)) s ≡ None
let_other None F f e = refl
let_other (Some A) F f e = ap (λ b. given b (f A)) (same_turned A F e)

pub let_same : (s : Option Typ) (F : Typ) (f : Typ → Option Typ) → has s F ≡ true → option_and_then (λ A. given (has (Some F) A) (f A)) s ≡ f F
let_same None F f e = absurd (true≢false (sym e))
let_same (Some A) F f e =
    let q : A ≡ F = same_eq A F e in
    ap (λ X. given (same F X) (f X)) q ∙ ap (λ b. given b (f F)) (same_refl F)

-- a type that is written and is no list, or no option

no_list : (T : Typ) → is_some (list_item T) ≡ false → a_list T ≡ None
no_list (TList T) e = absurd (true≢false e)
no_list T e = refl

no_option : (T : Typ) → is_some (option_item T) ≡ false → an_option T ≡ None
no_option (TOpt T) e = absurd (true≢false e)
no_option T e = refl

pub nil_none : (s : Option Typ) (T : Typ) → Some T ≡ K s → is_some (list_item T) ≡ false → None ≡ K (option_and_then a_list s)
nil_none s T h e = sym (sym (kept_a_list s) ∙ ap (option_and_then a_list) (sym h) ∙ no_list T e)

pub empty_none : (s : Option Typ) (T : Typ) → Some T ≡ K s → is_some (option_item T) ≡ false → None ≡ K (option_and_then an_option s)
empty_none s T h e = sym (sym (kept_an_option s) ∙ ap (option_and_then an_option) (sym h) ∙ no_option T e)
