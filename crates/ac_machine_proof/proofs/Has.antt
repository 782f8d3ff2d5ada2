-- Where the code of a term stands in a block, with addresses that are there.
use Rattle.std.proofs.Common.{◌≡◌, ℕ, zero, suc, true, false, List, [], ◌∷◌, ◌++◌, Option, Some, None}
use Rattle.std.specs.Prelude.{slice_get, reverse, is_some}
use Rattle.ac_types.specs.Types.{Bytes, Typ, TFun}
use Rattle.ac_types.specs.Exceptions.{has_text}
use Rattle.ac_terms.specs.Parts.{pattern_types}
use Rattle.ac_terms.specs.Spelling.{term_count, value_count}
use Rattle.ac_terms.specs.Terms.{Home, Main, Expr, Int, Boolean, Str, Unit', Exn, ExnOf, Tuple, Nil, Empty, Present, Cons, Var, Own, Ref, Lam, Rec, App, Let, If, Seq, Match, Try, Raise, Prim, Marshal, Unmarshal, Val, Evaluated, Bracket, Exprs, no_exprs, expr, Arms, no_arms, arm, PValue, KInt, KBool, KStr, KUnit, KExn, KTuple, KList, KAbsent, KPresent, KFun, PValues, no_pvalues, pvalue}
use Rattle.ac_code.specs.Code as instr
use Rattle.ac_code.specs.Code.{Instr, Block, Code}
use Rattle.ac_generate.specs.Sizes.{variable_count}

abbrev pub code_in : Option Block → List Instr
code_in None = []
code_in (Some b) = b.instrs

abbrev pub home_in : Option Block → Home
home_in None = Main
home_in (Some b) = b.home

-- a block stands in the table, and is at home there
abbrev pub AtHome : Code → ℕ → Home → Type 0
AtHome K b c = (B : Block) × (slice_get K.blocks b ≡ Some B) × (B.home ≡ c)

module _ (K : Code) where
  abbrev pub home_of : ℕ → Home
  home_of b = home_in (slice_get K.blocks b)

  -- an instruction stands there
  abbrev pub Stands : ℕ → ℕ → Instr → Type 0
  Stands b p i = slice_get (code_in (slice_get K.blocks b)) p ≡ Some i

  -- block f was made from that lambda of home c, around which variables have these types
  abbrev pub Keeps : Home → List Typ → Expr → ℕ → Type 0
  Keeps c G l f = (is : List Instr) × (slice_get K.blocks f ≡ Some (record { home = c; lambda = Some l; context = G; instrs = is }))

  abbrev pub Unbinds : ℕ → ℕ → ℕ → ℕ → Type 0
  Unbinds zero b p q = q ≡ p
  Unbinds (suc k) b p q = Stands b p (instr.Unbind (suc k)) × (q ≡ suc p)

  abbrev pub HasText : Option Bytes → ℕ → ℕ → ℕ → Type 0
  HasText None b p q = q ≡ p
  HasText (Some s) b p q = Stands b p (instr.PushStr s) × (q ≡ suc p)

  abbrev pub HasConses : ℕ → ℕ → ℕ → ℕ → Type 0
  HasConses zero b p q = q ≡ p
  HasConses (suc n) b p q = Stands b p instr.MakeCons × HasConses n b (suc p) q

  -- the code of a packed value stands in a block from one address to another
  abbrev mutual
    pub HasValue : PValue → ℕ → ℕ → ℕ → Type 0
    HasValue (KInt n) b p q = Stands b p (instr.PushInt n) × (q ≡ suc p)
    HasValue (KBool x) b p q = Stands b p (instr.PushBool x) × (q ≡ suc p)
    HasValue (KStr s) b p q = Stands b p (instr.PushStr s) × (q ≡ suc p)
    HasValue KUnit b p q = Stands b p instr.PushUnit × (q ≡ suc p)
    HasValue (KExn k s) b p q = (r : ℕ) × HasText s b p r × (has_text k ≡ is_some s) × Stands b r (instr.MakeExn k) × (q ≡ suc r)
    HasValue (KTuple vs) b p q = (r : ℕ) × HasValues vs b p r × Stands b r (instr.MakeTuple (value_count vs)) × (q ≡ suc r)
    HasValue (KList vs) b p q = (r : ℕ) × HasValues vs b p r × Stands b r instr.PushNil × HasConses (value_count vs) b (suc r) q
    HasValue KAbsent b p q = Stands b p instr.PushNone × (q ≡ suc p)
    HasValue (KPresent v) b p q = (r : ℕ) × HasValue v b p r × Stands b r instr.MakeSome × (q ≡ suc r)
    HasValue (KFun h (Lam T e)) b p q = (f : ℕ) × Stands b p (instr.Constant f) × Keeps h [] (Lam T e) f × (q ≡ suc p)
    HasValue (KFun h (Rec T U e)) b p q = (f : ℕ) × Stands b p (instr.RecConstant f) × Keeps h [] (Rec T U e) f × (q ≡ suc p)
    HasValue (KFun h e) b p q = ⊥

    pub HasValues : PValues → ℕ → ℕ → ℕ → Type 0
    HasValues no_pvalues b p q = q ≡ p
    HasValues (pvalue v vs) b p q = (r : ℕ) × HasValue v b p r × HasValues vs b r q

  -- the code of a term of home c, whose variables have these types, stands in a block from one address to another
  module _ (c : Home) where
    abbrev mutual
      pub Has : Expr → List Typ → ℕ → ℕ → ℕ → Type 0
      Has (Int n) G b p q = Stands b p (instr.PushInt n) × (q ≡ suc p)
      Has (Boolean x) G b p q = Stands b p (instr.PushBool x) × (q ≡ suc p)
      Has (Str s) G b p q = Stands b p (instr.PushStr s) × (q ≡ suc p)
      Has Unit' G b p q = Stands b p instr.PushUnit × (q ≡ suc p)
      Has (Exn k) G b p q = (has_text k ≡ false) × Stands b p (instr.MakeExn k) × (q ≡ suc p)
      Has (ExnOf k e) G b p q = (r : ℕ) × (has_text k ≡ true) × Has e G b p r × Stands b r (instr.MakeExn k) × (q ≡ suc r)
      Has (Tuple es) G b p q = (r : ℕ) × HasAll es G b p r × Stands b r (instr.MakeTuple (term_count es)) × (q ≡ suc r)
      Has (Nil T) G b p q = Stands b p instr.PushNil × (q ≡ suc p)
      Has (Empty T) G b p q = Stands b p instr.PushNone × (q ≡ suc p)
      Has (Present e) G b p q = (r : ℕ) × Has e G b p r × Stands b r instr.MakeSome × (q ≡ suc r)
      Has (Cons d e) G b p q = (r s : ℕ) × Has d G b p r × Has e G b r s × Stands b s instr.MakeCons × (q ≡ suc s)
      Has (Var i) G b p q = Stands b p (instr.Var i) × (q ≡ suc p)
      Has (Own f) G b p q = Stands b p (instr.Own f) × (q ≡ suc p)
      Has (Ref j x) G b p q = Stands b p (instr.Ref j x) × (q ≡ suc p)
      Has (Lam T e) G b p q = (f : ℕ) × Stands b p (instr.Closure f) × Keeps c G (Lam T e) f × (q ≡ suc p)
      Has (Rec T U e) G b p q = (f : ℕ) × Stands b p (instr.RecClosure f) × Keeps c G (Rec T U e) f × (q ≡ suc p)
      Has (App d e) G b p q = (r s : ℕ) × Has d G b p r × Has e G b r s × Stands b s instr.Apply × (q ≡ suc s)
      Has (Let T d e) G b p q = (r s : ℕ) × Has d G b p r × Stands b r instr.Bind × Has e (T ∷ G) b (suc r) s × Stands b s (instr.Unbind 1) × (q ≡ suc s)
      Has (If t d e) G b p q = (r s : ℕ) × Has t G b p r × Stands b r (instr.JumpIfNot (suc s)) × Has d G b (suc r) s × Stands b s (instr.Jump q) × Has e G b (suc s) q
      Has (Seq es) G b p q = HasSeq es G b p q
      Has (Match e arms) G b p q = (r s : ℕ) × Has e G b p r × HasArms q arms G b r s × Stands b s instr.NoMatch
      Has (Try e arms) G b p q = (l r s : ℕ) × Stands b p (instr.Try l) × Has e G b (suc p) r × Stands b r instr.EndTry × Stands b (suc r) (instr.Jump q) × HasArms q arms G b l s × Stands b s instr.Raise
      Has (Raise T e) G b p q = (r : ℕ) × Has e G b p r × Stands b r instr.Raise
      Has (Prim k es) G b p q = (r : ℕ) × HasAll es G b p r × Stands b r (instr.Prim k) × (q ≡ suc r)
      Has (Marshal T d e) G b p q = (r s : ℕ) × Has d G b p r × Has e G b r s × Stands b s (instr.Marshal T) × (q ≡ suc s)
      Has (Unmarshal T e) G b p q = (r : ℕ) × Has e G b p r × Stands b r (instr.Unmarshal T) × (q ≡ suc r)
      Has (Val T v) G b p q = HasValue v b p q
      Has (Evaluated T v) G b p q = ⊥
      Has (Bracket h T e) G b p q = ⊥

      pub HasAll : Exprs → List Typ → ℕ → ℕ → ℕ → Type 0
      HasAll no_exprs G b p q = q ≡ p
      HasAll (expr e es) G b p q = (r : ℕ) × Has e G b p r × HasAll es G b r q

      pub HasSeq : Exprs → List Typ → ℕ → ℕ → ℕ → Type 0
      HasSeq no_exprs G b p q = q ≡ p
      HasSeq (expr e es) G b p q = (r : ℕ) × Has e G b p r × HasRest es G b r q

      pub HasRest : Exprs → List Typ → ℕ → ℕ → ℕ → Type 0
      HasRest no_exprs G b p q = q ≡ p
      HasRest (expr e es) G b p q = (r : ℕ) × Stands b p instr.Drop × Has e G b (suc p) r × HasRest es G b r q

      -- each arm ends with a jump to the same address
      pub HasArms : ℕ → Arms → List Typ → ℕ → ℕ → ℕ → Type 0
      HasArms end no_arms G b p q = q ≡ p
      HasArms end (arm t e rest) G b p q = (l r s : ℕ) × Stands b p (instr.Test t l) × Has e (reverse (pattern_types t) ++ G) b (suc p) r × Unbinds (variable_count t) b r s × Stands b s (instr.Jump end) × HasArms end rest G b l q

  -- the block of a function holds the code of its body
  abbrev pub HasFunction : Home → Option Expr → List Typ → ℕ → Type 0
  HasFunction c (Some (Lam T e)) G f = (r : ℕ) × Has c e (T ∷ G) f 0 r × Stands f r instr.Return
  HasFunction c (Some (Rec T U e)) G f = (r : ℕ) × Has c e (T ∷ TFun T U ∷ G) f 0 r × Stands f r instr.Return
  HasFunction c l G f = Unit {0}

  abbrev pub GoodBlock : Option Block → ℕ → Type 0
  GoodBlock None f = Unit {0}
  GoodBlock (Some b) f = HasFunction b.home b.lambda b.context f

  abbrev pub Good : Type 0
  Good = (f : ℕ) → GoodBlock (slice_get K.blocks f) f

  -- the block of a term of its own, which ends with that instruction
  pub record HasBlock (c : Home) (e : Expr) (i : Instr) (b : ℕ) : Type 0 where
    pub at_home : AtHome K b c
    pub end : ℕ
    pub body : Has c e [] b 0 end
    pub last : Stands b end i
