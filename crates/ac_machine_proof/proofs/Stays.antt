-- Where code stands in a table, it stands there as the table grows.
use Rattle.std.proofs.Common.{◌≡◌, ℕ, zero, suc, List, [], ◌∷◌, ◌++◌, Option, Some, None, refl, ap, ◌∙◌}
use Rattle.std.specs.Prelude.{slice_get, reverse}
use Rattle.ac_types.proofs.FirstLaws.{none≢some}
use Rattle.ac_types.specs.Types.{Bytes, Typ}
use Rattle.ac_terms.specs.Parts.{pattern_types}
use Rattle.ac_terms.specs.Spelling.{value_count}
use Rattle.ac_terms.specs.Terms.{Home, Expr, Int, Boolean, Str, Unit', Exn, ExnOf, Tuple, Nil, Empty, Present, Cons, Var, Own, Ref, Lam, Rec, App, Let, If, Seq, Match, Try, Raise, Prim, Marshal, Unmarshal, Val, Evaluated, Bracket, Exprs, no_exprs, expr, Arms, no_arms, arm, PValue, KInt, KBool, KStr, KUnit, KExn, KTuple, KList, KAbsent, KPresent, KFun, PValues, no_pvalues, pvalue}
use Rattle.ac_code.specs.Code.{Instr, Block, Code}
use Rattle.ac_generate.specs.Sizes.{variable_count}
use Rattle.ac_machine_proof.proofs.Has.{code_in, home_in, AtHome, home_of, Stands, Keeps, Unbinds, HasText, HasConses, HasValue, HasValues, Has, HasAll, HasSeq, HasRest, HasArms}
use Rattle.ac_machine_meaning.proofs.Extended.{Ext, block_stays}

pub home_is : (K : Code) (b : ℕ) (c : Home) → AtHome K b c → home_of K b ≡ c
home_is K b c h = ap home_in h.1 ∙ h.2

module _ (K L : Code) (ext : Ext K L) where
  pub home_stays : (b : ℕ) (c : Home) → AtHome K b c → AtHome L b c
  home_stays b c h = (h.0, block_stays K L ext b h.0 h.1, h.2)

  pub stands_stays : (b p : ℕ) (i : Instr) → Stands K b p i → Stands L b p i
  stands_stays b p i h = by (slice_get K.blocks b) refl h
    where
      by : (o : Option Block) → slice_get K.blocks b ≡ o → slice_get (code_in o) p ≡ Some i → Stands L b p i
      by None e h = absurd (none≢some h)
      by (Some B) e h = ap (λ o. slice_get (code_in o) p) (block_stays K L ext b B e) ∙ h

  keeps_stays : (c : Home) (G : List Typ) (l : Expr) (f : ℕ) → Keeps K c G l f → Keeps L c G l f
  keeps_stays c G l f h = (h.0, block_stays K L ext f _ h.1)

  pub unbinds_stays : (k b p q : ℕ) → Unbinds K k b p q → Unbinds L k b p q
  unbinds_stays zero b p q h = h
  unbinds_stays (suc k) b p q h = (stands_stays b p _ h.0, h.1)

  text_stays : (s : Option Bytes) (b p q : ℕ) → HasText K s b p q → HasText L s b p q
  text_stays None b p q h = h
  text_stays (Some s) b p q h = (stands_stays b p _ h.0, h.1)

  pub conses_stay : (n b p q : ℕ) → HasConses K n b p q → HasConses L n b p q
  conses_stay zero b p q h = h
  conses_stay (suc n) b p q h = (stands_stays b p _ h.0, conses_stay n b (suc p) q h.1)

  mutual
    pub value_stays : (v : PValue) (b p q : ℕ) → HasValue K v b p q → HasValue L v b p q
    value_stays (KInt n) b p q h = (stands_stays b p _ h.0, h.1)
    value_stays (KBool x) b p q h = (stands_stays b p _ h.0, h.1)
    value_stays (KStr s) b p q h = (stands_stays b p _ h.0, h.1)
    value_stays KUnit b p q h = (stands_stays b p _ h.0, h.1)
    value_stays (KExn k s) b p q h = (h.0, text_stays s b p h.0 h.1, h.2, stands_stays b h.0 _ h.3, h.4)
    value_stays (KTuple vs) b p q h = (h.0, values_stay vs b p h.0 h.1, stands_stays b h.0 _ h.2, h.3)
    value_stays (KList vs) b p q h = (h.0, values_stay vs b p h.0 h.1, stands_stays b h.0 _ h.2, conses_stay (value_count vs) b (suc h.0) q h.3)
    value_stays KAbsent b p q h = (stands_stays b p _ h.0, h.1)
    value_stays (KPresent v) b p q h = (h.0, value_stays v b p h.0 h.1, stands_stays b h.0 _ h.2, h.3)
    value_stays (KFun c (Lam T e)) b p q h = (h.0, stands_stays b p _ h.1, keeps_stays c [] (Lam T e) h.0 h.2, h.3)
    value_stays (KFun c (Rec T U e)) b p q h = (h.0, stands_stays b p _ h.1, keeps_stays c [] (Rec T U e) h.0 h.2, h.3)
    value_stays (KFun c _) b p q h = absurd h

    pub values_stay : (vs : PValues) (b p q : ℕ) → HasValues K vs b p q → HasValues L vs b p q
    values_stay no_pvalues b p q h = h
    values_stay (pvalue v vs) b p q h = (h.0, value_stays v b p h.0 h.1, values_stay vs b h.0 q h.2)

  module _ (c : Home) where
    mutual
      pub has_stays : (t : Expr) (G : List Typ) (b p q : ℕ) → Has K c t G b p q → Has L c t G b p q
      has_stays (Int n) G b p q h = (stands_stays b p _ h.0, h.1)
      has_stays (Boolean x) G b p q h = (stands_stays b p _ h.0, h.1)
      has_stays (Str s) G b p q h = (stands_stays b p _ h.0, h.1)
      has_stays Unit' G b p q h = (stands_stays b p _ h.0, h.1)
      has_stays (Exn k) G b p q h = (h.0, stands_stays b p _ h.1, h.2)
      has_stays (ExnOf k e) G b p q h = (h.0, h.1, has_stays e G b p h.0 h.2, stands_stays b h.0 _ h.3, h.4)
      has_stays (Tuple es) G b p q h = (h.0, all_stay es G b p h.0 h.1, stands_stays b h.0 _ h.2, h.3)
      has_stays (Nil T) G b p q h = (stands_stays b p _ h.0, h.1)
      has_stays (Empty T) G b p q h = (stands_stays b p _ h.0, h.1)
      has_stays (Present e) G b p q h = (h.0, has_stays e G b p h.0 h.1, stands_stays b h.0 _ h.2, h.3)
      has_stays (Cons d e) G b p q h = (h.0, h.1, has_stays d G b p h.0 h.2, has_stays e G b h.0 h.1 h.3, stands_stays b h.1 _ h.4, h.5)
      has_stays (Var i) G b p q h = (stands_stays b p _ h.0, h.1)
      has_stays (Own f) G b p q h = (stands_stays b p _ h.0, h.1)
      has_stays (Ref j x) G b p q h = (stands_stays b p _ h.0, h.1)
      has_stays (Lam T e) G b p q h = (h.0, stands_stays b p _ h.1, keeps_stays c G (Lam T e) h.0 h.2, h.3)
      has_stays (Rec T U e) G b p q h = (h.0, stands_stays b p _ h.1, keeps_stays c G (Rec T U e) h.0 h.2, h.3)
      has_stays (App d e) G b p q h = (h.0, h.1, has_stays d G b p h.0 h.2, has_stays e G b h.0 h.1 h.3, stands_stays b h.1 _ h.4, h.5)
      has_stays (Let T d e) G b p q h = (h.0, h.1, has_stays d G b p h.0 h.2, stands_stays b h.0 _ h.3, has_stays e (T ∷ G) b (suc h.0) h.1 h.4, stands_stays b h.1 _ h.5, h.6)
      has_stays (If t d e) G b p q h =
          (h.0, h.1, has_stays t G b p h.0 h.2, stands_stays b h.0 _ h.3, has_stays d G b (suc h.0) h.1 h.4, stands_stays b h.1 _ h.5, has_stays e G b (suc h.1) q h.6)
      has_stays (Seq es) G b p q h = seq_stays es G b p q h
      has_stays (Match e arms) G b p q h = (h.0, h.1, has_stays e G b p h.0 h.2, arms_stay q arms G b h.0 h.1 h.3, stands_stays b h.1 _ h.4)
      has_stays (Try e arms) G b p q h =
          (h.0, h.1, h.2, stands_stays b p _ h.3, has_stays e G b (suc p) h.1 h.4, stands_stays b h.1 _ h.5, stands_stays b (suc h.1) _ h.6, arms_stay q arms G b h.0 h.2 h.7, stands_stays b h.2 _ h.8)
      has_stays (Raise T e) G b p q h = (h.0, has_stays e G b p h.0 h.1, stands_stays b h.0 _ h.2)
      has_stays (Prim k es) G b p q h = (h.0, all_stay es G b p h.0 h.1, stands_stays b h.0 _ h.2, h.3)
      has_stays (Marshal T d e) G b p q h = (h.0, h.1, has_stays d G b p h.0 h.2, has_stays e G b h.0 h.1 h.3, stands_stays b h.1 _ h.4, h.5)
      has_stays (Unmarshal T e) G b p q h = (h.0, has_stays e G b p h.0 h.1, stands_stays b h.0 _ h.2, h.3)
      has_stays (Val T v) G b p q h = value_stays v b p q h
      has_stays (Evaluated T v) G b p q h = absurd h
      has_stays (Bracket d T e) G b p q h = absurd h

      pub all_stay : (es : Exprs) (G : List Typ) (b p q : ℕ) → HasAll K c es G b p q → HasAll L c es G b p q
      all_stay no_exprs G b p q h = h
      all_stay (expr e es) G b p q h = (h.0, has_stays e G b p h.0 h.1, all_stay es G b h.0 q h.2)

      seq_stays : (es : Exprs) (G : List Typ) (b p q : ℕ) → HasSeq K c es G b p q → HasSeq L c es G b p q
      seq_stays no_exprs G b p q h = h
      seq_stays (expr e es) G b p q h = (h.0, has_stays e G b p h.0 h.1, rest_stays es G b h.0 q h.2)

      pub rest_stays : (es : Exprs) (G : List Typ) (b p q : ℕ) → HasRest K c es G b p q → HasRest L c es G b p q
      rest_stays no_exprs G b p q h = h
      rest_stays (expr e es) G b p q h = (h.0, stands_stays b p _ h.1, has_stays e G b (suc p) h.0 h.2, rest_stays es G b h.0 q h.3)

      pub arms_stay : (end : ℕ) (arms : Arms) (G : List Typ) (b p q : ℕ) → HasArms K c end arms G b p q → HasArms L c end arms G b p q
      arms_stay end no_arms G b p q h = h
      arms_stay end (arm t e rest) G b p q h =
          (h.0, h.1, h.2, stands_stays b p _ h.3, has_stays e (reverse (pattern_types t) ++ G) b (suc p) h.1 h.4, unbinds_stays (variable_count t) b h.1 h.2 h.5, stands_stays b h.2 _ h.6, arms_stay end rest G b h.0 q h.7)
