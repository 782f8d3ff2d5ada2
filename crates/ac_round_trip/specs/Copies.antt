-- What a value that was marshalled is where it is read: a copy of it.
use Rattle.std.specs.Prelude.{◌≡◌, ℕ, ℤ, Bool, true, false, Option, Some}
use Rattle.ac_types.specs.Types.{Bytes, Typ, TInt, TBool, TStr, TUnit, TExn, TTuple, TList, TOpt, TFun, TAbs, Typs, no_types, typ}
use Rattle.ac_terms.specs.Terms.{Home, Main, In, Pattern, Expr, Int, Boolean, Str, Unit', Exn, ExnOf, Tuple, Nil, Empty, Present, Cons, Var, Own, Ref, Lam, Rec, App, Let, If, Seq, Match, Try, Raise, Prim, Marshal, Unmarshal, Evaluated, Exprs, no_exprs, expr, Arms, no_arms, arm, Value, VInt, VBool, VStr, VUnit, VExn, VTuple, VNil, VCons, VAbsent, VPresent, VLam, VRec, VProxy, VSeal, Values, no_values, value}
use Rattle.ac_terms.specs.Defs.{Environment, name_at}
use Rattle.ac_terms.specs.Renumbered.{home_by}
use Rattle.ac_rules.specs.Views.{Mode, opens, opened}
use Rattle.ac_meaning.specs.Rebuilding.{home_of_name}

-- from the definitions E to the definitions F, where f gives the numbers of definitions in F
module _ (E F : Environment) (f : ℕ → ℕ) where
  -- definition j of E has in F the number f j: it has one name in both
  abbrev pub HasNamesake : ℕ → Type 0
  HasNamesake j = (n : Bytes) × (name_at E j ≡ Some n) × (name_at F (f j) ≡ Some n)

  abbrev pub HomeHasNamesake : Home → Type 0
  HomeHasNamesake Main = Unit {0}
  HomeHasNamesake (In i) = HasNamesake i

-- copies that homes over F see in a mode
module _ (mode : Mode) (E F : Environment) (f : ℕ → ℕ) where
  mutual
    -- the value v of home c has, in home d at type T, the copy w
    pub data Copied : (c : Home) (v : Value) (d : Home) (T : Typ) (w : Value) → Type 0 where
      -- a constant is the same
      int : {c d : Home} {n : ℤ} → Copied c (VInt n) d TInt (VInt n)
      bool : {c d : Home} {b : Bool} → Copied c (VBool b) d TBool (VBool b)
      string : {c d : Home} {s : Bytes} → Copied c (VStr s) d TStr (VStr s)
      unit : {c d : Home} → Copied c VUnit d TUnit VUnit
      exception : {c d : Home} {k : ℕ} {s : Option Bytes} → Copied c (VExn k s) d TExn (VExn k s)
      -- a tuple, a list and an option are of copies, in their order; where there is none, the copy carries the type
      tuple : {c d : Home} {vs ws : Values} {Ts : Typs} → AllCopied c vs d Ts ws → Copied c (VTuple vs) d (TTuple Ts) (VTuple ws)
      nil : {c d : Home} {A T : Typ} → Copied c (VNil A) d (TList T) (VNil (TList T))
      cons : {c d : Home} {v w v' w' : Value} {T : Typ} → Copied c v d T v' → Copied c w d (TList T) w' → Copied c (VCons v w) d (TList T) (VCons v' w')
      absent : {c d : Home} {A T : Typ} → Copied c (VAbsent A) d (TOpt T) (VAbsent (TOpt T))
      present : {c d : Home} {v w : Value} {T : Typ} → Copied c v d T w → Copied c (VPresent v) d (TOpt T) (VPresent w)
      -- a function is the same lambda, in a bracket of its home
      lambda : {c d : Home} {A T U : Typ} {e e' : Expr} → HomeHasNamesake E F f c → TermCopied c e e' → Copied c (VLam A e) d (TFun T U) (VProxy (home_by f c) T U (VLam A e'))
      recursive : {c d : Home} {A B T U : Typ} {e e' : Expr} → HomeHasNamesake E F f c → TermCopied c e e' → Copied c (VRec A B e) d (TFun T U) (VProxy (home_by f c) T U (VRec A B e'))
      -- a bracket or a seal is taken off, and what is inside is copied from its own home
      in_bracket : {b c d : Home} {A B T : Typ} {v w : Value} → Copied b v d T w → Copied c (VProxy b A B v) d T w
      in_seal : {b c d : Home} {n t : Bytes} {T : Typ} {v w : Value} → Copied b v d T w → Copied c (VSeal b n t v) d T w
      -- at an abstract type the copy is that at the representation, in a seal of the type's home where d doesn't open the type
      opened_there : {c d : Home} {n t : Bytes} {v w : Value} → opens mode F d n ≡ true → Copied c v d (opened F n t) w → Copied c v d (TAbs n t) w
      sealed_there : {c d : Home} {n t : Bytes} {v w : Value}
          → opens mode F d n ≡ false → Copied c v (home_of_name mode F n) (opened F n t) w → Copied c v d (TAbs n t) (VSeal (home_of_name mode F n) n t w)

    pub data AllCopied : (c : Home) (vs : Values) (d : Home) (Ts : Typs) (ws : Values) → Type 0 where
      no_copies : {c d : Home} → AllCopied c no_values d no_types no_values
      copy : {c d : Home} {v w : Value} {vs ws : Values} {T : Typ} {Ts : Typs} → Copied c v d T w → AllCopied c vs d Ts ws → AllCopied c (value v vs) d (typ T Ts) (value w ws)

    -- a term of home c has this copy, in the home that c has in F: definitions have their numbers there, and captured values are copied at their types
    pub data TermCopied : (c : Home) (e e' : Expr) → Type 0 where
      int_is : {c : Home} {n : ℤ} → TermCopied c (Int n) (Int n)
      bool_is : {c : Home} {b : Bool} → TermCopied c (Boolean b) (Boolean b)
      string_is : {c : Home} {s : Bytes} → TermCopied c (Str s) (Str s)
      unit_is : {c : Home} → TermCopied c Unit' Unit'
      exn_is : {c : Home} {k : ℕ} → TermCopied c (Exn k) (Exn k)
      no_item : {c : Home} {T : Typ} → TermCopied c (Nil T) (Nil T)
      no_content : {c : Home} {T : Typ} → TermCopied c (Empty T) (Empty T)
      var : {c : Home} {i : ℕ} → TermCopied c (Var i) (Var i)
      own : {c : Home} {i : ℕ} → TermCopied c (Own i) (Own i)
      ref : {c : Home} {j : ℕ} {x : Bytes} → HasNamesake E F f j → TermCopied c (Ref j x) (Ref (f j) x)
      captured : {c : Home} {T : Typ} {v w : Value} → Copied c v (home_by f c) T w → TermCopied c (Evaluated T v) (Evaluated T w)
      exn_of : {c : Home} {k : ℕ} {e e' : Expr} → TermCopied c e e' → TermCopied c (ExnOf k e) (ExnOf k e')
      tuple_of : {c : Home} {es es' : Exprs} → TermsCopied c es es' → TermCopied c (Tuple es) (Tuple es')
      option_of : {c : Home} {e e' : Expr} → TermCopied c e e' → TermCopied c (Present e) (Present e')
      list_of : {c : Home} {a b a' b' : Expr} → TermCopied c a a' → TermCopied c b b' → TermCopied c (Cons a b) (Cons a' b')
      lam : {c : Home} {T : Typ} {e e' : Expr} → TermCopied c e e' → TermCopied c (Lam T e) (Lam T e')
      rec : {c : Home} {T U : Typ} {e e' : Expr} → TermCopied c e e' → TermCopied c (Rec T U e) (Rec T U e')
      app : {c : Home} {a b a' b' : Expr} → TermCopied c a a' → TermCopied c b b' → TermCopied c (App a b) (App a' b')
      let_in : {c : Home} {T : Typ} {a b a' b' : Expr} → TermCopied c a a' → TermCopied c b b' → TermCopied c (Let T a b) (Let T a' b')
      if_else : {c : Home} {a b d a' b' d' : Expr} → TermCopied c a a' → TermCopied c b b' → TermCopied c d d' → TermCopied c (If a b d) (If a' b' d')
      seq : {c : Home} {es es' : Exprs} → TermsCopied c es es' → TermCopied c (Seq es) (Seq es')
      match_with : {c : Home} {e e' : Expr} {bs bs' : Arms} → TermCopied c e e' → ArmsCopied c bs bs' → TermCopied c (Match e bs) (Match e' bs')
      try_with : {c : Home} {e e' : Expr} {bs bs' : Arms} → TermCopied c e e' → ArmsCopied c bs bs' → TermCopied c (Try e bs) (Try e' bs')
      raise : {c : Home} {T : Typ} {e e' : Expr} → TermCopied c e e' → TermCopied c (Raise T e) (Raise T e')
      prim : {c : Home} {k : ℕ} {es es' : Exprs} → TermsCopied c es es' → TermCopied c (Prim k es) (Prim k es')
      marshal : {c : Home} {T : Typ} {a b a' b' : Expr} → TermCopied c a a' → TermCopied c b b' → TermCopied c (Marshal T a b) (Marshal T a' b')
      unmarshal : {c : Home} {T : Typ} {e e' : Expr} → TermCopied c e e' → TermCopied c (Unmarshal T e) (Unmarshal T e')

    pub data TermsCopied : (c : Home) (es es' : Exprs) → Type 0 where
      no_terms : {c : Home} → TermsCopied c no_exprs no_exprs
      term : {c : Home} {e e' : Expr} {es es' : Exprs} → TermCopied c e e' → TermsCopied c es es' → TermsCopied c (expr e es) (expr e' es')

    pub data ArmsCopied : (c : Home) (bs bs' : Arms) → Type 0 where
      no_branches : {c : Home} → ArmsCopied c no_arms no_arms
      branch : {c : Home} {p : Pattern} {e e' : Expr} {bs bs' : Arms} → TermCopied c e e' → ArmsCopied c bs bs' → ArmsCopied c (arm p e bs) (arm p e' bs')
