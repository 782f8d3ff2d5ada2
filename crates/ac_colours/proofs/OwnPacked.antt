-- What code writes stays in its home's text as functions are packed and rebuilt.
use Rattle.std.proofs.Common.{ℕ, zero, suc, Bool, true, false, length, Option, Some, None}
use Rattle.ac_types.specs.Types.{Bytes, Typ, TUnit, TAbs, Typs, no_types, typ}
use Rattle.ac_terms.specs.Terms.{Home, Expr, ExnOf, Tuple, Present, Cons, Lam, Rec, App, Let, If, Seq, Match, Try, Raise, Prim, Marshal, Unmarshal, Val, Evaluated, Bracket, Exprs, no_exprs, expr, Arms, no_arms, arm, PValue, KInt, KBool, KStr, KUnit, KExn, KTuple, KList, KAbsent, KPresent, KFun, PValues, no_pvalues, pvalue, Value, VInt, VBool, VStr, VUnit, VExn, VTuple, VCons, VAbsent, VPresent, VLam, VRec, VProxy, VSeal, Values, no_values, value}
use Rattle.ac_terms.specs.Defs.{Environment}
use Rattle.ac_rules.specs.Views.{Coloured, opened, opens, head}
use Rattle.ac_rules.specs.Typing.{tuple_parts, list_item, option_item}
use Rattle.ac_rules.specs.Plain.{stays, packed_term, packed_terms, packed_arms, may_travel, where_there, in_front, packed, all_packed}
use Rattle.ac_meaning.specs.Rebuilding.{parts_of, item_of, argument_of, result_of, home_of_name, at_abstract, sealed, rebuilt, all_rebuilt, list_rebuilt, rebuilt_term, rebuilt_terms, rebuilt_arms}
use Rattle.ac_colours.proofs.Owning.{Writes, PatternOwned, Owned, AllOwned, ArmsOwned, ValueOwned, ValuesOwned}

module _ (q : Home → Bytes × Bytes → Bool) where
  -- the functions in a packed value, and in what they have captured, write what their homes may
  abbrev mutual
    pub PackedOwned : PValue → Type 0
    PackedOwned (KTuple vs) = AllPackedOwned vs
    PackedOwned (KList vs) = AllPackedOwned vs
    PackedOwned (KPresent v) = PackedOwned v
    PackedOwned (KFun h l) = TermOwned h l
    PackedOwned w = Unit {0}

    pub AllPackedOwned : PValues → Type 0
    AllPackedOwned no_pvalues = Unit {0}
    AllPackedOwned (pvalue v vs) = PackedOwned v × AllPackedOwned vs

    pub TermOwned : Home → Expr → Type 0
    TermOwned c (ExnOf k e) = TermOwned c e
    TermOwned c (Tuple es) = TermsOwned c es
    TermOwned c (Present e) = TermOwned c e
    TermOwned c (Cons a b) = TermOwned c a × TermOwned c b
    TermOwned c (Lam T e) = Writes q c T × TermOwned c e
    TermOwned c (Rec T U e) = Writes q c T × Writes q c U × TermOwned c e
    TermOwned c (App f a) = TermOwned c f × TermOwned c a
    TermOwned c (Let T e b) = Writes q c T × TermOwned c e × TermOwned c b
    TermOwned c (If e a b) = TermOwned c e × TermOwned c a × TermOwned c b
    TermOwned c (Seq es) = TermsOwned c es
    TermOwned c (Match e arms) = TermOwned c e × CasesOwned c arms
    TermOwned c (Try e arms) = TermOwned c e × CasesOwned c arms
    TermOwned c (Raise T e) = TermOwned c e
    TermOwned c (Prim k es) = TermsOwned c es
    TermOwned c (Marshal T m e) = Writes q c T × TermOwned c m × TermOwned c e
    TermOwned c (Unmarshal T e) = Writes q c T × TermOwned c e
    TermOwned c (Val T v) = Writes q c T × PackedOwned v
    TermOwned c (Evaluated T v) = ⊥
    TermOwned c (Bracket b T e) = ⊥
    TermOwned c e = Unit {0}

    pub TermsOwned : Home → Exprs → Type 0
    TermsOwned c no_exprs = Unit {0}
    TermsOwned c (expr e es) = TermOwned c e × TermsOwned c es

    pub CasesOwned : Home → Arms → Type 0
    CasesOwned c no_arms = Unit {0}
    CasesOwned c (arm p e rest) = PatternOwned q c p × TermOwned c e × CasesOwned c rest

  where_owned : {A : Type 0} (o : Option A) (f : A → PValue) → ((a : A) → PackedOwned (f a)) → PackedOwned (where_there o f)
  where_owned None f h = tt
  where_owned (Some a) f h = h a

  front_owned : (v w : PValue) → PackedOwned v → PackedOwned w → PackedOwned (in_front v w)
  front_owned v (KList vs) h k = (h, k)
  front_owned v _ h k = tt

  travel_owned : (b : Bool) (c : Home) (l : Expr) → TermOwned c l → PackedOwned (elim b as (λ z. PValue) [ true ↦ KFun c l | false ↦ stays ])
  travel_owned true c l h = h
  travel_owned false c l h = tt

  module _ (E : Environment) where
    mutual
      pub packed_owned : (v : Value) (c : Home) (T : Typ) → ValueOwned q c v → PackedOwned (packed E c v T)
      packed_owned (VTuple vs) c T h = where_owned (tuple_parts (head E T)) (λ Ts. KTuple (all_packed E c vs Ts)) (λ Ts. all_packed_owned vs c Ts h)
      packed_owned (VCons v w) c T h = front_owned (where_there (list_item (head E T)) (λ U. packed E c v U)) (packed E c w T) (where_owned (list_item (head E T)) (λ U. packed E c v U) (λ U. packed_owned v c U h.0)) (packed_owned w c T h.1)
      packed_owned (VPresent v) c T h = where_owned (option_item (head E T)) (λ U. KPresent (packed E c v U)) (λ U. packed_owned v c U h)
      packed_owned (VLam A e) c T h = travel_owned (may_travel E c (Lam A (packed_term E c e)) T) c (Lam A (packed_term E c e)) (h.0, term_owned e c h.1)
      packed_owned (VRec A B e) c T h = travel_owned (may_travel E c (Rec A B (packed_term E c e)) T) c (Rec A B (packed_term E c e)) (h.0, h.1, term_owned e c h.2)
      packed_owned (VProxy b A B f) c T h = packed_owned f b T h
      packed_owned (VSeal b n t v) c T h = packed_owned v b T h
      packed_owned _ c T h = tt

      all_packed_owned : (vs : Values) (c : Home) (Ts : Typs) → ValuesOwned q c vs → AllPackedOwned (all_packed E c vs Ts)
      all_packed_owned no_values c no_types h = tt
      all_packed_owned (value v vs) c (typ T Ts) h = (packed_owned v c T h.0, all_packed_owned vs c Ts h.1)
      all_packed_owned no_values c (typ T Ts) h = (tt, tt)
      all_packed_owned (value v vs) c no_types h = (tt, tt)

      term_owned : (e : Expr) (c : Home) → Owned q false c e → TermOwned c (packed_term E c e)
      term_owned (ExnOf k e) c h = term_owned e c h
      term_owned (Tuple es) c h = terms_owned es c h
      term_owned (Present e) c h = term_owned e c h
      term_owned (Cons a b) c h = (term_owned a c h.0, term_owned b c h.1)
      term_owned (Lam T e) c h = (h.0, term_owned e c h.1)
      term_owned (Rec T U e) c h = (h.0, h.1, term_owned e c h.2)
      term_owned (App a b) c h = (term_owned a c h.0, term_owned b c h.1)
      term_owned (Let T a b) c h = (h.0, term_owned a c h.1, term_owned b c h.2)
      term_owned (If a b d) c h = (term_owned a c h.0, term_owned b c h.1, term_owned d c h.2)
      term_owned (Seq es) c h = terms_owned es c h
      term_owned (Match e arms) c h = (term_owned e c h.0, cases_owned arms c h.1)
      term_owned (Try e arms) c h = (term_owned e c h.0, cases_owned arms c h.1)
      term_owned (Raise T e) c h = term_owned e c h
      term_owned (Prim k es) c h = terms_owned es c h
      term_owned (Marshal T a b) c h = (h.0, term_owned a c h.1, term_owned b c h.2)
      term_owned (Unmarshal T e) c h = (h.0, term_owned e c h.1)
      term_owned (Evaluated T v) c h = (h.0, packed_owned v c T h.1)
      term_owned (Bracket b T e) c h = absurd h.0
      term_owned (Val T v) c h = absurd h
      term_owned _ c h = tt

      terms_owned : (es : Exprs) (c : Home) → AllOwned q false c es → TermsOwned c (packed_terms E c es)
      terms_owned no_exprs c h = tt
      terms_owned (expr e es) c h = (term_owned e c h.0, terms_owned es c h.1)

      cases_owned : (arms : Arms) (c : Home) → ArmsOwned q c arms → CasesOwned c (packed_arms E c arms)
      cases_owned no_arms c h = tt
      cases_owned (arm p e rest) c h = (h.0, term_owned e c h.1, cases_owned rest c h.2)

    sealed_owned : (k : ℕ) (c : Home) (T : Typ) (make : Home → Typ → Value) → ((d : Home) (U : Typ) → ValueOwned q d (make d U)) → ValueOwned q c (sealed Coloured E k c T make)
    sealed_owned zero c T make h = h c T
    sealed_owned (suc k) c (TAbs n t) make h = by (λ d. sealed_owned k d (opened E n t) make h) (opens Coloured E c n)
      where
        by : ((d : Home) → ValueOwned q d (sealed Coloured E k d (opened E n t) make)) → (b : Bool) → ValueOwned q c (at_abstract Coloured E b c n t (λ d U. sealed Coloured E k d U make))
        by f true = f c
        by f false = f (home_of_name Coloured E n)
    sealed_owned (suc k) c T make h = h c T

    mutual
      pub rebuilt_owned : (w : PValue) (c : Home) (T : Typ) → PackedOwned w → ValueOwned q c (rebuilt Coloured E c T w)
      rebuilt_owned (KInt i) c T h = sealed_owned (length E) c T (λ d U. VInt i) (λ d U. tt)
      rebuilt_owned (KBool i) c T h = sealed_owned (length E) c T (λ d U. VBool i) (λ d U. tt)
      rebuilt_owned (KStr i) c T h = sealed_owned (length E) c T (λ d U. VStr i) (λ d U. tt)
      rebuilt_owned KUnit c T h = sealed_owned (length E) c T (λ d U. VUnit) (λ d U. tt)
      rebuilt_owned (KExn i j) c T h = sealed_owned (length E) c T (λ d U. VExn i j) (λ d U. tt)
      rebuilt_owned KAbsent c T h = sealed_owned (length E) c T (λ d U. VAbsent U) (λ d U. tt)
      rebuilt_owned (KTuple vs) c T h = sealed_owned (length E) c T (λ d U. VTuple (all_rebuilt Coloured E d (parts_of U) vs)) (λ d U. all_rebuilt_owned vs d (parts_of U) h)
      rebuilt_owned (KList vs) c T h = sealed_owned (length E) c T (λ d U. list_rebuilt Coloured E d U vs) (λ d U. list_owned vs d U h)
      rebuilt_owned (KPresent v) c T h = sealed_owned (length E) c T (λ d U. VPresent (rebuilt Coloured E d (item_of U) v)) (λ d U. rebuilt_owned v d (item_of U) h)
      rebuilt_owned (KFun b (Lam A e)) c T h = sealed_owned (length E) c T (λ d U. VProxy b (argument_of U) (result_of U) (VLam A (rebuilt_term Coloured E b e))) (λ d U. (h.0, again e b h.1))
      rebuilt_owned (KFun b (Rec A B e)) c T h = sealed_owned (length E) c T (λ d U. VProxy b (argument_of U) (result_of U) (VRec A B (rebuilt_term Coloured E b e))) (λ d U. (h.0, h.1, again e b h.2))
      rebuilt_owned (KFun b _) c T h = tt

      all_rebuilt_owned : (vs : PValues) (c : Home) (Ts : Typs) → AllPackedOwned vs → ValuesOwned q c (all_rebuilt Coloured E c Ts vs)
      all_rebuilt_owned no_pvalues c no_types h = tt
      all_rebuilt_owned no_pvalues c (typ T Ts) h = tt
      all_rebuilt_owned (pvalue v vs) c (typ T Ts) h = (rebuilt_owned v c T h.0, all_rebuilt_owned vs c Ts h.1)
      all_rebuilt_owned (pvalue v vs) c no_types h = (rebuilt_owned v c TUnit h.0, all_rebuilt_owned vs c no_types h.1)

      list_owned : (vs : PValues) (c : Home) (T : Typ) → AllPackedOwned vs → ValueOwned q c (list_rebuilt Coloured E c T vs)
      list_owned no_pvalues c T h = tt
      list_owned (pvalue v vs) c T h = (rebuilt_owned v c (item_of T) h.0, list_owned vs c T h.1)

      again : (e : Expr) (c : Home) → TermOwned c e → Owned q false c (rebuilt_term Coloured E c e)
      again (ExnOf k e) c h = again e c h
      again (Tuple es) c h = again_all es c h
      again (Present e) c h = again e c h
      again (Cons a b) c h = (again a c h.0, again b c h.1)
      again (Lam T e) c h = (h.0, again e c h.1)
      again (Rec T U e) c h = (h.0, h.1, again e c h.2)
      again (App a b) c h = (again a c h.0, again b c h.1)
      again (Let T a b) c h = (h.0, again a c h.1, again b c h.2)
      again (If a b d) c h = (again a c h.0, again b c h.1, again d c h.2)
      again (Seq es) c h = again_all es c h
      again (Match e arms) c h = (again e c h.0, again_arms arms c h.1)
      again (Try e arms) c h = (again e c h.0, again_arms arms c h.1)
      again (Raise T e) c h = again e c h
      again (Prim k es) c h = again_all es c h
      again (Marshal T a b) c h = (h.0, again a c h.1, again b c h.2)
      again (Unmarshal T e) c h = (h.0, again e c h.1)
      again (Val T v) c h = (h.0, rebuilt_owned v c T h.1)
      again (Evaluated T v) c h = absurd h
      again (Bracket b T e) c h = absurd h
      again _ c h = tt

      again_all : (es : Exprs) (c : Home) → TermsOwned c es → AllOwned q false c (rebuilt_terms Coloured E c es)
      again_all no_exprs c h = tt
      again_all (expr e es) c h = (again e c h.0, again_all es c h.1)

      again_arms : (arms : Arms) (c : Home) → CasesOwned c arms → ArmsOwned q c (rebuilt_arms Coloured E c arms)
      again_arms no_arms c h = tt
      again_arms (arm p e rest) c h = (h.0, again e c h.1, again_arms rest c h.2)
