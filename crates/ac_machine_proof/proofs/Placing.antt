-- What the scheme gives stands where it should.
use Rattle.std.proofs.Common.{◌≡◌, ℕ, zero, suc, ◌+◌, List, [], ◌∷◌, ◌++◌, length, Option, Some, None, refl, sym, ap, ◌∙◌, subst, arith}
use Rattle.std.specs.Prelude.{slice_get, reverse, replicate}
use Rattle.ac_types.specs.Types.{Typ, TFun}
use Rattle.ac_terms.specs.Parts.{pattern_types}
use Rattle.ac_terms.specs.Spelling.{value_count}
use Rattle.ac_terms.specs.Terms.{Home, Expr, Int, Boolean, Str, Unit', Exn, ExnOf, Tuple, Nil, Empty, Present, Cons, Var, Own, Ref, Lam, Rec, App, Let, If, Seq, Match, Try, Raise, Prim, Marshal, Unmarshal, Val, Evaluated, Bracket, Exprs, no_exprs, expr, Arms, no_arms, arm, PValue, KInt, KBool, KStr, KUnit, KExn, KTuple, KList, KAbsent, KPresent, KFun, PValues, no_pvalues, pvalue}
use Rattle.ac_code.specs.Code as instr
use Rattle.ac_code.specs.Code.{Instr, Block, Code}
use Rattle.ac_generate.specs.Sizes.{lambdas, value_lambdas, variable_count, unbind, size, all_size, seq_size, rest_size, arm_size, value_size, all_value_size}
use Rattle.ac_generate.specs.Generate.{code, all_code, seq_code, rest_code, arm_code, value_code, all_value_code, blocks, all_blocks, arm_blocks, value_blocks, all_value_blocks}
use Rattle.ac_generate.specs.Generated.{ending}
use Rattle.ac_generate.proofs.SizeLaws.{code_size, all_code_size, arm_code_size, value_code_size, all_value_code_size, block_count, value_block_count}
use Rattle.ac_machine_proof.specs.Source.{IsOfSource, AreSource, AreSourceArms, IsPacked, ArePacked}
use Rattle.ac_machine_proof.specs.Placed.{PlacedPart, HasCode, HasLambda, IsCompiled}
use Rattle.ac_machine_proof.proofs.Has.{code_in, Stands, Unbinds, HasConses, HasValue, HasValues, Has, HasAll, HasSeq, HasRest, HasArms, HasFunction, GoodBlock, Good, HasBlock}

part_later : {X : Type 0} (l : List X) (x : X) (p : ℕ) (xs : List X) → PlacedPart l p xs → PlacedPart (x ∷ l) (suc p) xs
part_later l x p [] h = tt
part_later l x p (y ∷ xs) h = (h.0, part_later l x (suc p) xs h.1)

pub part_all : {X : Type 0} (xs : List X) → PlacedPart xs 0 xs
part_all [] = tt
part_all (x ∷ xs) = (refl, part_later xs x 0 xs (part_all xs))

pub part_cut : {X : Type 0} (l : List X) (p a : ℕ) (xs ys : List X) → length xs ≡ a → PlacedPart l p (xs ++ ys) → PlacedPart l p xs × PlacedPart l (p + a) ys
part_cut l p a [] ys e h = (tt, let same : p ≡ p + a = omega (arith, e) in subst (λ q. PlacedPart l q ys) same h)
part_cut l p zero (x ∷ xs) ys e h = absurd (omega (arith, e))
part_cut l p (suc a) (x ∷ xs) ys e h =
    let rest = part_cut l (suc p) a xs ys (omega (arith, e)) h.1 in
    let same : suc p + a ≡ p + suc a = omega arith in
    ((h.0, rest.0), subst (λ q. PlacedPart l q ys) same rest.1)

module _ (K : Code) where
  -- instructions stand in a block from an address on
  abbrev Code' : ℕ → ℕ → List Instr → Type 0
  Code' b p is = PlacedPart (code_in (slice_get K.blocks b)) p is

  abbrev cut : (b : ℕ) (e : Expr) (p n : ℕ) (rest : List Instr) → Code' b p (code e p n ++ rest) → Code' b p (code e p n) × Code' b (p + size e) rest
  cut b e p n rest h = part_cut (code_in (slice_get K.blocks b)) p (size e) (code e p n) rest (code_size e p n) h

  abbrev cut_all : (b : ℕ) (es : Exprs) (p n : ℕ) (rest : List Instr) → Code' b p (all_code es p n ++ rest) → Code' b p (all_code es p n) × Code' b (p + all_size es) rest
  cut_all b es p n rest h = part_cut (code_in (slice_get K.blocks b)) p (all_size es) (all_code es p n) rest (all_code_size es p n) h

  abbrev cut_arms : (b end : ℕ) (arms : Arms) (p n : ℕ) (rest : List Instr) → Code' b p (arm_code end arms p n ++ rest) → Code' b p (arm_code end arms p n) × Code' b (p + arm_size arms) rest
  cut_arms b end arms p n rest h = part_cut (code_in (slice_get K.blocks b)) p (arm_size arms) (arm_code end arms p n) rest (arm_code_size end arms p n) h

  abbrev cut_blocks : (c : Home) (G : List Typ) (e : Expr) (n : ℕ) (rest : List Block) → PlacedPart K.blocks n (blocks c G e n ++ rest) → PlacedPart K.blocks n (blocks c G e n) × PlacedPart K.blocks (n + lambdas e) rest
  cut_blocks c G e n rest h = part_cut K.blocks n (lambdas e) (blocks c G e n) rest (block_count c G e n) h

  unbound : (k b p q : ℕ) (rest : List Instr) → q ≡ p + length (unbind k) → Code' b p (unbind k ++ rest) → Unbinds K k b p q × Code' b q rest
  unbound zero b p q rest e h = let same : q ≡ p = omega (arith, e) in (same, subst (λ q. Code' b q rest) (sym same) h)
  unbound (suc k) b p q rest e h = let same : q ≡ suc p = omega (arith, e) in ((h.0, same), subst (λ q. Code' b q rest) (sym same) h.1)

  has_conses : (k b p q : ℕ) → q ≡ p + k → Code' b p (replicate k instr.MakeCons) → HasConses K k b p q
  has_conses zero b p q e h = omega (arith, e)
  has_conses (suc k) b p q e h = (h.0, has_conses k b (suc p) q (omega (arith, e)) h.1)

  -- packed values
  mutual
    pub has_value : (v : PValue) (b p q n : ℕ) → q ≡ p + value_size v → IsPacked v → Code' b p (value_code v n) → PlacedPart K.blocks n (value_blocks v n) → HasValue K v b p q
    has_value (KInt k) b p q n e s h m = (h.0, omega (arith, e))
    has_value (KBool x) b p q n e s h m = (h.0, omega (arith, e))
    has_value (KStr t) b p q n e s h m = (h.0, omega (arith, e))
    has_value KUnit b p q n e s h m = (h.0, omega (arith, e))
    has_value (KExn k None) b p q n e s h m = (p, refl, s, h.0, omega (arith, e))
    has_value (KExn k (Some t)) b p q n e s h m = (suc p, (h.0, refl), s, h.1.0, omega (arith, e))
    has_value (KTuple vs) b p q n e s h m =
        let h1 = part_cut _ p (all_value_size vs) (all_value_code vs n) _ (all_value_code_size vs n) h in
        (p + all_value_size vs, has_values vs b p _ n refl s h1.0 m, h1.1.0, omega (arith, e))
    has_value (KList vs) b p q n e s h m =
        let h1 = part_cut _ p (all_value_size vs) (all_value_code vs n) _ (all_value_code_size vs n) h in
        (p + all_value_size vs, has_values vs b p _ n refl s h1.0 m, h1.1.0, has_conses (value_count vs) b _ q (omega (arith, e)) h1.1.1)
    has_value KAbsent b p q n e s h m = (h.0, omega (arith, e))
    has_value (KPresent v) b p q n e s h m =
        let h1 = part_cut _ p (value_size v) (value_code v n) _ (value_code_size v n) h in
        (p + value_size v, has_value v b p _ n refl s h1.0 m, h1.1.0, omega (arith, e))
    has_value (KFun c (Lam T t)) b p q n e s h m = (n + lambdas t, h.0, (_, (cut_blocks c (T ∷ []) t n _ m).1.0), omega (arith, e))
    has_value (KFun c (Rec T U t)) b p q n e s h m = (n + lambdas t, h.0, (_, (cut_blocks c (T ∷ TFun T U ∷ []) t n _ m).1.0), omega (arith, e))
    has_value (KFun c _) b p q n e s h m = absurd s

    has_values : (vs : PValues) (b p q n : ℕ) → q ≡ p + all_value_size vs → ArePacked vs → Code' b p (all_value_code vs n) → PlacedPart K.blocks n (all_value_blocks vs n) → HasValues K vs b p q
    has_values no_pvalues b p q n e s h m = omega (arith, e)
    has_values (pvalue v vs) b p q n e s h m =
        let h1 = part_cut _ p (value_size v) (value_code v n) _ (value_code_size v n) h in
        let m1 = part_cut K.blocks n (value_lambdas v) (value_blocks v n) _ (value_block_count v n) m in
        (p + value_size v, has_value v b p _ n refl s.0 h1.0 m1.0, has_values vs b _ q (n + value_lambdas v) (omega (arith, e)) s.1 h1.1 m1.1)

  module _ (c : Home) where
    mutual
      has : (t : Expr) (G : List Typ) (b p q n : ℕ) → q ≡ p + size t → IsOfSource t → Code' b p (code t p n) → PlacedPart K.blocks n (blocks c G t n) → Has K c t G b p q
      has (Int k) G b p q n e s h m = (h.0, omega (arith, e))
      has (Boolean x) G b p q n e s h m = (h.0, omega (arith, e))
      has (Str x) G b p q n e s h m = (h.0, omega (arith, e))
      has Unit' G b p q n e s h m = (h.0, omega (arith, e))
      has (Exn k) G b p q n e s h m = (s, h.0, omega (arith, e))
      has (ExnOf k t) G b p q n e s h m =
          let h1 = cut b t p n _ h in
          (p + size t, s.0, has t G b p _ n refl s.1 h1.0 m, h1.1.0, omega (arith, e))
      has (Tuple ts) G b p q n e s h m =
          let h1 = cut_all b ts p n _ h in
          (p + all_size ts, has_all ts G b p _ n refl s h1.0 m, h1.1.0, omega (arith, e))
      has (Nil T) G b p q n e s h m = (h.0, omega (arith, e))
      has (Empty T) G b p q n e s h m = (h.0, omega (arith, e))
      has (Present t) G b p q n e s h m =
          let h1 = cut b t p n _ h in
          (p + size t, has t G b p _ n refl s h1.0 m, h1.1.0, omega (arith, e))
      has (Cons t u) G b p q n e s h m =
          let h1 = cut b t p n _ h in
          let h2 = cut b u (p + size t) (n + lambdas t) _ h1.1 in
          let m1 = cut_blocks c G t n _ m in
          (p + size t, p + size t + size u, has t G b p _ n refl s.0 h1.0 m1.0, has u G b _ _ (n + lambdas t) refl s.1 h2.0 m1.1, h2.1.0, omega (arith, e))
      has (Var i) G b p q n e s h m = (h.0, omega (arith, e))
      has (Own f) G b p q n e s h m = (h.0, omega (arith, e))
      has (Ref j x) G b p q n e s h m = (h.0, omega (arith, e))
      has (Lam T t) G b p q n e s h m = (n + lambdas t, h.0, (_, (cut_blocks c (T ∷ G) t n _ m).1.0), omega (arith, e))
      has (Rec T U t) G b p q n e s h m = (n + lambdas t, h.0, (_, (cut_blocks c (T ∷ TFun T U ∷ G) t n _ m).1.0), omega (arith, e))
      has (App t u) G b p q n e s h m =
          let h1 = cut b t p n _ h in
          let h2 = cut b u (p + size t) (n + lambdas t) _ h1.1 in
          let m1 = cut_blocks c G t n _ m in
          (p + size t, p + size t + size u, has t G b p _ n refl s.0 h1.0 m1.0, has u G b _ _ (n + lambdas t) refl s.1 h2.0 m1.1, h2.1.0, omega (arith, e))
      has (Let T t u) G b p q n e s h m =
          let h1 = cut b t p n _ h in
          let h2 = cut b u (suc (p + size t)) (n + lambdas t) _ h1.1.1 in
          let m1 = cut_blocks c G t n _ m in
          (p + size t, suc (p + size t) + size u, has t G b p _ n refl s.0 h1.0 m1.0, h1.1.0, has u (T ∷ G) b _ _ (n + lambdas t) refl s.1 h2.0 m1.1, h2.1.0, omega (arith, e))
      has (If t u v) G b p q n e s h m =
          let first = suc (p + size t) in
          let second = suc (first + size u) in
          let h1 = cut b t p n _ h in
          let h2 = cut b u first (n + lambdas t) _ h1.1.1 in
          let m1 = cut_blocks c G t n _ m in
          let m2 = cut_blocks c G u (n + lambdas t) _ m1.1 in
          let end : second + size v ≡ q = omega (arith, e) in
          (p + size t, first + size u, has t G b p _ n refl s.0 h1.0 m1.0, h1.1.0, has u G b first _ (n + lambdas t) refl s.1 h2.0 m2.0, h2.1.0 ∙ ap (λ q. Some (instr.Jump q)) end, has v G b second q (n + lambdas t + lambdas u) (sym end) s.2 h2.1.1 m2.1)
      has (Seq ts) G b p q n e s h m = has_seq ts G b p q n e s h m
      has (Match t arms) G b p q n e s h m =
          let first = p + size t in
          let end : suc (first + arm_size arms) ≡ q = omega (arith, e) in
          let h1 = cut b t p n _ h in
          let h2 = cut_arms b _ arms first (n + lambdas t) _ h1.1 in
          let m1 = cut_blocks c G t n _ m in
          (first, first + arm_size arms, has t G b p _ n refl s.0 h1.0 m1.0, has_arms arms G b q _ first _ (n + lambdas t) end refl s.1 h2.0 m1.1, h2.1.0)
      has (Try t arms) G b p q n e s h m =
          let handler = suc (suc (suc p + size t)) in
          let end : suc (handler + arm_size arms) ≡ q = omega (arith, e) in
          let h1 = cut b t (suc p) n _ h.1 in
          let h2 = cut_arms b _ arms handler (n + lambdas t) _ h1.1.1.1 in
          let m1 = cut_blocks c G t n _ m in
          (handler, suc p + size t, handler + arm_size arms, h.0, has t G b (suc p) _ n refl s.0 h1.0 m1.0, h1.1.0, h1.1.1.0 ∙ ap (λ q. Some (instr.Jump q)) end, has_arms arms G b q _ handler _ (n + lambdas t) end refl s.1 h2.0 m1.1, h2.1.0)
      has (Raise T t) G b p q n e s h m =
          let h1 = cut b t p n _ h in
          (p + size t, has t G b p _ n refl s h1.0 m, h1.1.0)
      has (Prim k ts) G b p q n e s h m =
          let h1 = cut_all b ts p n _ h in
          (p + all_size ts, has_all ts G b p _ n refl s h1.0 m, h1.1.0, omega (arith, e))
      has (Marshal T t u) G b p q n e s h m =
          let h1 = cut b t p n _ h in
          let h2 = cut b u (p + size t) (n + lambdas t) _ h1.1 in
          let m1 = cut_blocks c G t n _ m in
          (p + size t, p + size t + size u, has t G b p _ n refl s.0 h1.0 m1.0, has u G b _ _ (n + lambdas t) refl s.1 h2.0 m1.1, h2.1.0, omega (arith, e))
      has (Unmarshal T t) G b p q n e s h m =
          let h1 = cut b t p n _ h in
          (p + size t, has t G b p _ n refl s h1.0 m, h1.1.0, omega (arith, e))
      has (Val T v) G b p q n e s h m = has_value v b p q n e s h m
      has (Evaluated T v) G b p q n e s h m = absurd s
      has (Bracket d T t) G b p q n e s h m = absurd s

      has_all : (ts : Exprs) (G : List Typ) (b p q n : ℕ) → q ≡ p + all_size ts → AreSource ts → Code' b p (all_code ts p n) → PlacedPart K.blocks n (all_blocks c G ts n) → HasAll K c ts G b p q
      has_all no_exprs G b p q n e s h m = omega (arith, e)
      has_all (expr t ts) G b p q n e s h m =
          let h1 = cut b t p n _ h in
          let m1 = cut_blocks c G t n _ m in
          (p + size t, has t G b p _ n refl s.0 h1.0 m1.0, has_all ts G b _ q (n + lambdas t) (omega (arith, e)) s.1 h1.1 m1.1)

      has_seq : (ts : Exprs) (G : List Typ) (b p q n : ℕ) → q ≡ p + seq_size ts → AreSource ts → Code' b p (seq_code ts p n) → PlacedPart K.blocks n (all_blocks c G ts n) → HasSeq K c ts G b p q
      has_seq no_exprs G b p q n e s h m = omega (arith, e)
      has_seq (expr t ts) G b p q n e s h m =
          let h1 = cut b t p n _ h in
          let m1 = cut_blocks c G t n _ m in
          (p + size t, has t G b p _ n refl s.0 h1.0 m1.0, has_rest ts G b _ q (n + lambdas t) (omega (arith, e)) s.1 h1.1 m1.1)

      has_rest : (ts : Exprs) (G : List Typ) (b p q n : ℕ) → q ≡ p + rest_size ts → AreSource ts → Code' b p (rest_code ts p n) → PlacedPart K.blocks n (all_blocks c G ts n) → HasRest K c ts G b p q
      has_rest no_exprs G b p q n e s h m = omega (arith, e)
      has_rest (expr t ts) G b p q n e s h m =
          let h1 = cut b t (suc p) n _ h.1 in
          let m1 = cut_blocks c G t n _ m in
          (suc p + size t, h.0, has t G b (suc p) _ n refl s.0 h1.0 m1.0, has_rest ts G b _ q (n + lambdas t) (omega (arith, e)) s.1 h1.1 m1.1)

      has_arms : (arms : Arms) (G : List Typ) (b end end' p q n : ℕ) → end' ≡ end → q ≡ p + arm_size arms → AreSourceArms arms → Code' b p (arm_code end' arms p n) → PlacedPart K.blocks n (arm_blocks c G arms n) → HasArms K c end arms G b p q
      has_arms no_arms G b end end' p q n d e s h m = omega (arith, e)
      has_arms (arm t u rest) G b end end' p q n d e s h m =
          let k = length (unbind (variable_count t)) in
          let next = suc (suc p + size u + k) in
          let h1 = cut b u (suc p) n _ h.1 in
          let h2 = unbound (variable_count t) b (suc p + size u) (suc p + size u + k) _ refl h1.1 in
          let m1 = cut_blocks c (reverse (pattern_types t) ++ G) u n _ m in
          (next, suc p + size u, suc p + size u + k, h.0, has u _ b (suc p) _ n refl s.0 h1.0 m1.0, h2.0, h2.1.0 ∙ ap (λ q. Some (instr.Jump q)) d, has_arms rest G b end end' next q (n + lambdas u) d (omega (arith, e)) s.1 h2.1.1 m1.1)

  -- a block that holds a term's code and one instruction more
  holds : (t : Expr) (c : Home) (G : List Typ) (last : Instr) (f n : ℕ) → IsOfSource t → code_in (slice_get K.blocks f) ≡ code t 0 n ++ last ∷ [] → PlacedPart K.blocks n (blocks c G t n) → (r : ℕ) × Has K c t G f 0 r × Stands K f r last
  holds t c G last f n s h m =
      let is = code t 0 n ++ last ∷ [] in
      let all : Code' f 0 is = subst (λ l. PlacedPart l 0 is) (sym h) (part_all is) in
      let h1 = cut f t 0 n _ all in
      (0 + size t, has c t G f 0 _ n refl s h1.0 m, h1.1.0)

  lambda_good : (o : Option Expr) (c : Home) (G : List Typ) (f : ℕ) → HasLambda K c o G (code_in (slice_get K.blocks f)) → HasFunction K c o G f
  lambda_good None c G f h = tt
  lambda_good (Some (Lam T e)) c G f h = holds e c (T ∷ G) instr.Return f h.first h.source h.code h.made
  lambda_good (Some (Rec T U e)) c G f h = holds e c (T ∷ TFun T U ∷ G) instr.Return f h.first h.source h.code h.made
  lambda_good (Some _) c G f h = tt

  pub good : ((f : ℕ) → IsCompiled K (slice_get K.blocks f)) → Good K
  good h f = by (slice_get K.blocks f) refl (h f)
    where
      by : (o : Option Block) → slice_get K.blocks f ≡ o → IsCompiled K o → GoodBlock K o f
      by None e m = tt
      by (Some b) e m = lambda_good b.lambda b.home b.context f (subst (λ o. HasLambda K b.home b.lambda b.context (code_in o)) (sym e) m)

  pub own_block_has : (c : Home) (e : Expr) (b : ℕ) → HasCode K c e b → HasBlock K c e (ending c) b
  own_block_has c e b h =
      let n = h.first in
      let m = cut_blocks c [] e n _ h.made in
      let at : slice_get K.blocks b ≡ Some (record { home = c; lambda = None; context = []; instrs = code e 0 n ++ ending c ∷ [] }) = ap (slice_get K.blocks) h.is ∙ m.1.0 in
      let all = holds e c [] (ending c) b n h.source (ap code_in at) m.0 in
      record { at_home = (_, at, refl); end = all.0; body = all.1; last = all.2 }
