-- The code of a term has as many instructions as its size says, and its lambdas make as many blocks as they are.
use Rattle.std.proofs.Common.{◌≡◌, ℕ, suc, ◌+◌, List, [], ◌∷◌, ◌++◌, length, refl, ap₂, ◌∙◌, arith, length-append}
use Rattle.std.proofs.lemmas.List.{length-replicate}
use Rattle.ac_types.specs.Types.{Typ, TFun}
use Rattle.ac_terms.specs.Terms.{Home, Expr, ExnOf, Tuple, Present, Cons, Lam, Rec, App, Let, If, Seq, Match, Try, Raise, Prim, Marshal, Unmarshal, Val, Exprs, no_exprs, expr, Arms, no_arms, arm, PValue, KExn, KTuple, KList, KPresent, KFun, PValues, no_pvalues, pvalue}
use Rattle.ac_terms.specs.Spelling.{value_count}
use Rattle.ac_code.specs.Code as instr
use Rattle.ac_generate.specs.Sizes.{lambdas, all_lambdas, arm_lambdas, value_lambdas, all_value_lambdas, size, all_size, seq_size, rest_size, arm_size, value_size, all_value_size}
use Rattle.ac_generate.specs.Generate.{code, all_code, seq_code, rest_code, arm_code, value_code, all_value_code, blocks, all_blocks, arm_blocks, value_blocks, all_value_blocks}

both : {X : Type 0} (xs ys : List X) (a b : ℕ) → length xs ≡ a → length ys ≡ b → length (xs ++ ys) ≡ a + b
both xs ys a b e h = length-append xs ys ∙ ap₂ ◌+◌ e h

one : (n b : ℕ) → n ≡ b → suc n ≡ 1 + b
one n b h = omega (arith, h)

two : (n b : ℕ) → n ≡ b → suc (suc n) ≡ 2 + b
two n b h = omega (arith, h)

mutual
  pub code_size : (e : Expr) (p n : ℕ) → length (code e p n) ≡ size e
  code_size (ExnOf k e) p n = both _ _ _ _ (code_size e p n) refl
  code_size (Tuple es) p n = both _ _ _ _ (all_code_size es p n) refl
  code_size (Present e) p n = both _ _ _ _ (code_size e p n) refl
  code_size (Cons a b) p n = both _ _ _ _ (code_size a p n) (both _ _ _ _ (code_size b _ _) refl)
  code_size (App f a) p n = both _ _ _ _ (code_size f p n) (both _ _ _ _ (code_size a _ _) refl)
  code_size (Let T e b) p n = both _ _ _ _ (code_size e p n) (one _ _ (both _ _ _ _ (code_size b _ _) refl))
  code_size (If c a b) p n = both _ _ _ _ (code_size c p n) (one _ _ (both _ _ _ _ (code_size a _ _) (one _ _ (code_size b _ _))))
  code_size (Seq es) p n = seq_code_size es p n
  code_size (Match e cases) p n = both _ _ _ _ (code_size e p n) (both _ _ _ _ (arm_code_size _ cases _ _) refl)
  code_size (Try e cases) p n = one _ _ (both _ _ _ _ (code_size e _ _) (two _ _ (both _ _ _ _ (arm_code_size _ cases _ _) refl)))
  code_size (Raise T e) p n = both _ _ _ _ (code_size e p n) refl
  code_size (Prim k es) p n = both _ _ _ _ (all_code_size es p n) refl
  code_size (Marshal T m e) p n = both _ _ _ _ (code_size m p n) (both _ _ _ _ (code_size e _ _) refl)
  code_size (Unmarshal T e) p n = both _ _ _ _ (code_size e p n) refl
  code_size (Val T v) p n = value_code_size v n
  code_size e p n = refl

  pub all_code_size : (es : Exprs) (p n : ℕ) → length (all_code es p n) ≡ all_size es
  all_code_size no_exprs p n = refl
  all_code_size (expr e es) p n = both _ _ _ _ (code_size e p n) (all_code_size es _ _)

  pub seq_code_size : (es : Exprs) (p n : ℕ) → length (seq_code es p n) ≡ seq_size es
  seq_code_size no_exprs p n = refl
  seq_code_size (expr e es) p n = both _ _ _ _ (code_size e p n) (rest_code_size es _ _)

  pub rest_code_size : (es : Exprs) (p n : ℕ) → length (rest_code es p n) ≡ rest_size es
  rest_code_size no_exprs p n = refl
  rest_code_size (expr e es) p n = one _ _ (both _ _ _ _ (code_size e _ n) (rest_code_size es _ _))

  pub arm_code_size : (end : ℕ) (cases : Arms) (p n : ℕ) → length (arm_code end cases p n) ≡ arm_size cases
  arm_code_size end no_arms p n = refl
  arm_code_size end (arm q b rest) p n = one _ _ (both _ _ _ _ (code_size b _ _) (both _ _ _ _ refl (one _ _ (arm_code_size end rest _ _))))

  pub value_code_size : (v : PValue) (n : ℕ) → length (value_code v n) ≡ value_size v
  value_code_size (KExn k s) n = both _ _ _ _ refl refl
  value_code_size (KTuple vs) n = both _ _ _ _ (all_value_code_size vs n) refl
  value_code_size (KList vs) n = both _ _ _ _ (all_value_code_size vs n) (one _ _ (length-replicate (value_count vs) instr.MakeCons))
  value_code_size (KPresent v) n = both _ _ _ _ (value_code_size v n) refl
  value_code_size (KFun h (Lam T e)) n = refl
  value_code_size v n = refl

  pub all_value_code_size : (vs : PValues) (n : ℕ) → length (all_value_code vs n) ≡ all_value_size vs
  all_value_code_size no_pvalues n = refl
  all_value_code_size (pvalue v vs) n = both _ _ _ _ (value_code_size v n) (all_value_code_size vs _)

mutual
  pub block_count : (c : Home) (G : List Typ) (e : Expr) (n : ℕ) → length (blocks c G e n) ≡ lambdas e
  block_count c G (ExnOf k e) n = block_count c G e n
  block_count c G (Tuple es) n = all_block_count c G es n
  block_count c G (Present e) n = block_count c G e n
  block_count c G (Cons a b) n = both _ _ _ _ (block_count c G a n) (block_count c G b _)
  block_count c G (Lam T e) n = both _ _ _ _ (block_count c (T ∷ G) e n) refl
  block_count c G (Rec T U e) n = both _ _ _ _ (block_count c (T ∷ TFun T U ∷ G) e n) refl
  block_count c G (App f a) n = both _ _ _ _ (block_count c G f n) (block_count c G a _)
  block_count c G (Let T e b) n = both _ _ _ _ (block_count c G e n) (block_count c (T ∷ G) b _)
  block_count c G (If e a b) n = both _ _ _ _ (block_count c G e n) (both _ _ _ _ (block_count c G a _) (block_count c G b _))
  block_count c G (Seq es) n = all_block_count c G es n
  block_count c G (Match e cases) n = both _ _ _ _ (block_count c G e n) (arm_block_count c G cases _)
  block_count c G (Try e cases) n = both _ _ _ _ (block_count c G e n) (arm_block_count c G cases _)
  block_count c G (Raise T e) n = block_count c G e n
  block_count c G (Prim k es) n = all_block_count c G es n
  block_count c G (Marshal T m e) n = both _ _ _ _ (block_count c G m n) (block_count c G e _)
  block_count c G (Unmarshal T e) n = block_count c G e n
  block_count c G (Val T v) n = value_block_count v n
  block_count c G e n = refl

  pub all_block_count : (c : Home) (G : List Typ) (es : Exprs) (n : ℕ) → length (all_blocks c G es n) ≡ all_lambdas es
  all_block_count c G no_exprs n = refl
  all_block_count c G (expr e es) n = both _ _ _ _ (block_count c G e n) (all_block_count c G es _)

  pub arm_block_count : (c : Home) (G : List Typ) (cases : Arms) (n : ℕ) → length (arm_blocks c G cases n) ≡ arm_lambdas cases
  arm_block_count c G no_arms n = refl
  arm_block_count c G (arm q b rest) n = both _ _ _ _ (block_count c _ b n) (arm_block_count c G rest _)

  pub value_block_count : (v : PValue) (n : ℕ) → length (value_blocks v n) ≡ value_lambdas v
  value_block_count (KTuple vs) n = all_value_block_count vs n
  value_block_count (KList vs) n = all_value_block_count vs n
  value_block_count (KPresent v) n = value_block_count v n
  value_block_count (KFun h (Lam T e)) n = both _ _ _ _ (block_count h (T ∷ []) e n) refl
  value_block_count (KFun h (Rec T U e)) n = both _ _ _ _ (block_count h (T ∷ TFun T U ∷ []) e n) refl
  value_block_count v n = refl

  pub all_value_block_count : (vs : PValues) (n : ℕ) → length (all_value_blocks vs n) ≡ all_value_lambdas vs
  all_value_block_count no_pvalues n = refl
  all_value_block_count (pvalue v vs) n = both _ _ _ _ (value_block_count v n) (all_value_block_count vs _)
