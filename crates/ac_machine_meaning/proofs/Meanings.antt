-- What a value stands for, it stands for as the table of code grows.
use Rattle.std.proofs.Common.{◌≡◌, ℕ, List, [], ◌∷◌, Bool, true, false, Option, Some, None, refl, sym, ap, ap₂, ◌∙◌, subst}
use Rattle.std.specs.Prelude.{slice_get}
use Rattle.ac_types.specs.Types.{Typ, TInt}
use Rattle.ac_terms.specs.Terms.{Home, Expr, Lam, Rec}
use Rattle.ac_code.specs.Code.{Block, Code}
use Rattle.ac_values.specs.Values.{MValue, MExnOf, MTuple, MCons, MPresent, MClosure, MEnd, MMore, MValues, nothing, also}
use Rattle.ac_meaning.specs.BareTerms.{Bare, BareValue, WTuple, WCons, WPresent, WLam, WRec, bare_value', bare_term}
use Rattle.ac_meaning.specs.BareReduction.{BareWritten, inst}
use Rattle.ac_machine_meaning.specs.Stands.{closed, closure_of, stands, all_stand, environment_values}
use Rattle.ac_machine_meaning.specs.Valid.{IsThere, Valid, AllValid, ValidEnv}
use Rattle.ac_machine_meaning.proofs.Extended.{Ext, block_stays}

-- a closure stands for a function, whatever its block
closed_is : (P : BareValue → Type 0) → ((h : Home) (T : Typ) (e : Bare) → P (WLam h T e)) → ((h : Home) (T U : Typ) (e : Bare) → P (WRec h T U e)) → (h : Home) (l : Option Expr) (G : List Typ) (r : Bool) (es : List Typ → BareWritten) → P (closed h l G r es)
closed_is P f g h (Some (Lam T e)) G false es = f h T _
closed_is P f g h (Some (Rec T U e)) G true es = g h T U _
closed_is P f g h (Some (Lam T e)) G true es = f _ TInt _
closed_is P f g h (Some (Rec T U e)) G false es = f _ TInt _
closed_is P f g h (Some _) G r es = f _ TInt _
closed_is P f g h None G r es = f _ TInt _

pub closure_is : (P : BareValue → Type 0) → ((h : Home) (T : Typ) (e : Bare) → P (WLam h T e)) → ((h : Home) (T U : Typ) (e : Bare) → P (WRec h T U e)) → (o : Option Block) (r : Bool) (es : List Typ → BareWritten) → P (closure_of o r es)
closure_is P f g None r es = f _ TInt _
closure_is P f g (Some b) r es = closed_is P f g b.home b.lambda b.context r es

module _ (K : Code) where
  pub closure_no : {A : Type 0} (f : BareValue → Option A) → ((h : Home) (T : Typ) (e : Bare) → f (WLam h T e) ≡ None) → ((h : Home) (T U : Typ) (e : Bare) → f (WRec h T U e) ≡ None) → (b : ℕ) (r : Bool) (es : MValue) → f (stands K (MClosure b r es)) ≡ None
  closure_no f p q b r es = closure_is (λ v. f v ≡ None) p q (slice_get K.blocks b) r (λ G. environment_values K es G)

-- what a value stands for, it stands for as the table grows
pub closed_same : (h : Home) (l : Option Expr) (G : List Typ) (r : Bool) (es fs : List Typ → BareWritten) → es G ≡ fs G → closed h l G r es ≡ closed h l G r fs
closed_same h (Some (Lam T e)) G false es fs q = ap (λ ws. WLam h T (inst 1 ws (bare_term h e))) q
closed_same h (Some (Rec T U e)) G true es fs q = ap (λ ws. WRec h T U (inst 2 ws (bare_term h e))) q
closed_same h (Some (Lam T e)) G true es fs q = refl
closed_same h (Some (Rec T U e)) G false es fs q = refl
closed_same h (Some _) G r es fs q = refl
closed_same h None G r es fs q = refl

closure_same : (o : Option Block) (r : Bool) (es fs : List Typ → BareWritten) → ((G : List Typ) → es G ≡ fs G) → closure_of o r es ≡ closure_of o r fs
closure_same None r es fs q = refl
closure_same (Some b) r es fs q = closed_same b.home b.lambda b.context r es fs (q b.context)

module _ (K L : Code) (ext : Ext K L) where
  there_stays : (b : ℕ) → IsThere (slice_get K.blocks b) → (IsThere (slice_get L.blocks b)) × (slice_get L.blocks b ≡ slice_get K.blocks b)
  there_stays b h = by (slice_get K.blocks b) refl h
    where
      by : (o : Option Block) → slice_get K.blocks b ≡ o → IsThere o → (IsThere (slice_get L.blocks b)) × (slice_get L.blocks b ≡ slice_get K.blocks b)
      by None e h = absurd h
      by (Some B) e h = let same = block_stays K L ext b B e in (subst IsThere (sym same) tt, same ∙ sym e)

  mutual
    pub valid_stays : (m : MValue) → Valid K m → Valid L m
    valid_stays (MExnOf k m) v = v
    valid_stays (MTuple ms) v = all_valid_stay ms v
    valid_stays (MCons a b) v = (valid_stays a v.0, valid_stays b v.1)
    valid_stays (MPresent a) v = valid_stays a v
    valid_stays (MClosure b r es) v = ((there_stays b v.0).0, env_valid_stays es v.1)
    valid_stays MEnd v = absurd v
    valid_stays (MMore a b) v = absurd v
    valid_stays _ v = tt

    pub all_valid_stay : (ms : MValues) → AllValid K ms → AllValid L ms
    all_valid_stay nothing v = tt
    all_valid_stay (also m ms) v = (valid_stays m v.0, all_valid_stay ms v.1)

    pub env_valid_stays : (es : MValue) → ValidEnv K es → ValidEnv L es
    env_valid_stays (MMore a b) v = (valid_stays a v.0, env_valid_stays b v.1)
    env_valid_stays _ v = tt

  mutual
    pub meaning_stays : (m : MValue) → Valid K m → stands L m ≡ stands K m
    meaning_stays (MExnOf k m) v = refl
    meaning_stays (MTuple ms) v = ap WTuple (meanings_stay ms v)
    meaning_stays (MCons a b) v = ap₂ WCons (meaning_stays a v.0) (meaning_stays b v.1)
    meaning_stays (MPresent a) v = ap WPresent (meaning_stays a v)
    meaning_stays (MClosure b r es) v = ap (λ o. closure_of o r (λ G. environment_values L es G)) (there_stays b v.0).1 ∙ closure_same (slice_get K.blocks b) r (λ G. environment_values L es G) (λ G. environment_values K es G) (λ G. variables_stay es G v.1)
    meaning_stays MEnd v = absurd v
    meaning_stays (MMore a b) v = absurd v
    meaning_stays _ v = refl

    pub meanings_stay : (ms : MValues) → AllValid K ms → all_stand L ms ≡ all_stand K ms
    meanings_stay nothing v = refl
    meanings_stay (also m ms) v = ap₂ bare_value' (meaning_stays m v.0) (meanings_stay ms v.1)

    pub variables_stay : (es : MValue) (G : List Typ) → ValidEnv K es → environment_values L es G ≡ environment_values K es G
    variables_stay (MMore a b) [] v = ap₂ (λ w ws. (TInt, w) ∷ ws) (meaning_stays a v.0) (variables_stay b [] v.1)
    variables_stay (MMore a b) (T ∷ G) v = ap₂ (λ w ws. (T, w) ∷ ws) (meaning_stays a v.0) (variables_stay b G v.1)
    variables_stay _ G v = refl
