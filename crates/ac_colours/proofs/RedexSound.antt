-- The next redex of a term is typed, within the bounds, writes what its home may, and has seals of which holds what holds of the term's.
use Rattle.std.proofs.Common.{◌≡◌, refl, Bool, true, false, [], Option, Some, None}
use Rattle.std.specs.Option.{option_or}
use Rattle.ac_types.specs.Types.{Bytes, Typ, TStr, TExn, TBool, TFun, TList, Typs}
use Rattle.ac_terms.specs.Terms.{Home, Expr, Int, Boolean, Str, Unit', Exn, ExnOf, Tuple, Nil, Empty, Present, Cons, Var, Own, Ref, Lam, Rec, App, Let, If, Seq, Match, Try, Raise, Prim, Marshal, Unmarshal, Val, Evaluated, Bracket, Exprs, no_exprs, expr}
use Rattle.ac_terms.specs.Defs.{Environment}
use Rattle.ac_rules.specs.Views.{Coloured}
use Rattle.ac_rules.specs.Typing.{is_function}
use Rattle.ac_meaning.specs.Typed.{IsHome, Typed, AllTyped, as_seen}
use Rattle.ac_meaning.specs.Redexes.{Redex, redex, redex_all, stands_next, crosses}
use Rattle.ac_meaning.proofs.Within.{Within, AllWithin}
use Rattle.ac_colours.specs.Sealed.{Saying, Sealed, AllSealed}
use Rattle.ac_colours.proofs.Owning.{Owned, AllOwned}

-- nothing is left to do in what an unmarshal takes
abbrev pub IsInnermost : Home → Expr → Type 0
IsInnermost c (Unmarshal T e) = redex c e ≡ None
IsInnermost c e = Unit {0}

module _ (E : Environment) (q : Home → Bytes × Bytes → Bool) (P : Saying) where
  abbrev pub Sound : Option Redex → Type 0
  Sound None = Unit {0}
  Sound (Some r) = (X : Typ) × IsHome Coloured E r.home × Typed Coloured E r.term r.home [] X × Within false r.term × Owned q true r.home r.term × Sealed P r.term × IsInnermost r.home r.term

  or_sound : (o p : Option Redex) → Sound o → (o ≡ None → Sound p) → Sound (option_or o p)
  or_sound None p h k = k refl
  or_sound (Some r) p h k = h

  crosses_sound : (c : Home) (e : Expr) (b : Bool) → Sound (stands_next c e) → Sound (crosses c e b)
  crosses_sound c e true h = tt
  crosses_sound c e false h = h

  mutual
    pub sound : (e : Expr) (c : Home) (T : Typ) → IsHome Coloured E c → Typed Coloured E e c [] T → Within false e → Owned q true c e → Sealed P e → Sound (redex c e)
    sound (Int n) c T i h w o s = tt
    sound (Boolean b) c T i h w o s = tt
    sound (Str x) c T i h w o s = tt
    sound Unit' c T i h w o s = tt
    sound (Exn k) c T i h w o s = tt
    sound (Nil A) c T i h w o s = tt
    sound (Empty A) c T i h w o s = tt
    sound (Lam A e) c T i h w o s = tt
    sound (Rec A B e) c T i h w o s = tt
    sound (Evaluated A v) c T i h w o s = tt
    sound (ExnOf k e) c T i h w o s = sound e c TStr i h.1 w.1 o s
    sound (Tuple es) c T i h w o s = all_sound es c h.0 i h.2 w.1 o s
    sound (Present e) c T i h w o s = sound e c h.0 i h.2 w o s
    sound (Cons a b) c T i h w o s = or_sound (redex c a) (redex c b) (sound a c h.0 i h.2 w.0 o.0 s.0) (λ n. sound b c (TList h.0) i h.3 w.1 o.1 s.1)
    sound (App f a) c T i h w o s =
        or_sound (redex c f) (option_or (redex c a) (stands_next c (App f a))) (sound f c (TFun h.0 T) i h.1 w.0 o.0 s.0) (λ n. or_sound (redex c a) (stands_next c (App f a)) (sound a c h.0 i h.2 w.1 o.1 s.1) (λ m. (T, i, h, w, o, s, tt)))
    sound (Let A e b) c T i h w o s = or_sound (redex c e) (stands_next c (Let A e b)) (sound e c (as_seen Coloured E c A) i h.0 w.1 o.1 s.0) (λ n. (T, i, h, w, o, s, tt))
    sound (If e a b) c T i h w o s = or_sound (redex c e) (stands_next c (If e a b)) (sound e c TBool i h.0 w.0 o.0 s.0) (λ n. (T, i, h, w, o, s, tt))
    sound (Match e arms) c T i h w o s = or_sound (redex c e) (stands_next c (Match e arms)) (sound e c h.0 i h.1 w.0 o.0 s.0) (λ n. (T, i, h, w, o, s, tt))
    sound (Seq no_exprs) c T i h w o s = (T, i, h, w, o, s, tt)
    sound (Seq (expr e no_exprs)) c T i h w o s = (T, i, h, w, o, s, tt)
    sound (Seq (expr e (expr d es))) c T i h w o s = or_sound (redex c e) (stands_next c (Seq (expr e (expr d es)))) (sound e c h.1.0 i h.1.3 w.1.0 o.0 s.0) (λ n. (T, i, h, w, o, s, tt))
    sound (Raise A e) c T i h w o s = or_sound (redex c e) (stands_next c (Raise A e)) (sound e c TExn i h.1 w.1 o s) (λ n. (T, i, h, w, o, s, tt))
    sound (Try e arms) c T i h w o s = or_sound (redex c e) (stands_next c (Try e arms)) (sound e c T i h.0 w.0 o.0 s.0) (λ n. (T, i, h, w, o, s, tt))
    sound (Prim k es) c T i h w o s = or_sound (redex_all c es) (stands_next c (Prim k es)) (all_sound es c h.0 i h.1 w.1 o s) (λ n. (T, i, h, w, o, s, tt))
    sound (Marshal A m e) c T i h w o s =
        or_sound (redex c m) (option_or (redex c e) (stands_next c (Marshal A m e))) (sound m c TStr i h.1 w.1 o.1 s.0) (λ n. or_sound (redex c e) (stands_next c (Marshal A m e)) (sound e c (as_seen Coloured E c A) i h.2 w.2 o.2 s.1) (λ l. (T, i, h, w, o, s, tt)))
    sound (Unmarshal A e) c T i h w o s = or_sound (redex c e) (stands_next c (Unmarshal A e)) (sound e c TStr i h.1 w.1 o.1 s) (λ n. (T, i, h, w, o, s, n))
    sound (Own f) c T i h w o s = (T, i, h, w, o, s, tt)
    sound (Ref j x) c T i h w o s = (T, i, h, w, o, s, tt)
    sound (Bracket b A e) c T i h w o s =
        or_sound (redex b e) (crosses c (Bracket b A e) (is_function A)) (sound e b (as_seen Coloured E b A) h.3 h.2 w o.1 s) (λ n. crosses_sound c (Bracket b A e) (is_function A) (T, i, h, w, o, s, tt))
    sound (Var k) c T i h w o s = (T, i, h, w, o, s, tt)
    sound (Val A v) c T i h w o s = absurd h

    all_sound : (es : Exprs) (c : Home) (Ts : Typs) → IsHome Coloured E c → AllTyped Coloured E es c [] Ts → AllWithin false es → AllOwned q true c es → AllSealed P es → Sound (redex_all c es)
    all_sound no_exprs c Ts i h w o s = tt
    all_sound (expr e es) c Ts i h w o s = or_sound (redex c e) (redex_all c es) (sound e c h.0 i h.3 w.0 o.0 s.0) (λ n. all_sound es c h.1 i h.4 w.1 o.1 s.1)
