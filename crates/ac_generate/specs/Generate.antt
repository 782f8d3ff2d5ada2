-- The code of a term, and the blocks of its lambdas, inner ones first.
use Rattle.std.specs.Prelude.{ℕ, suc, ◌+◌, List, [], ◌∷◌, ◌++◌, length, reverse, replicate, Some}
use Rattle.ac_code.specs.Code as instr
use Rattle.ac_code.specs.Code.{Instr, Block}
use Rattle.ac_types.specs.Types.{Typ, TFun}
use Rattle.ac_terms.specs.Terms.{Home, Expr, Int, Boolean, Str, Unit', Exn, ExnOf, Tuple, Nil, Empty, Present, Cons, Var, Own, Ref, Lam, Rec, App, Let, If, Seq, Match, Try, Raise, Prim, Marshal, Unmarshal, Val, Evaluated, Bracket, Exprs, no_exprs, expr, Arms, no_arms, arm, PValue, KInt, KBool, KStr, KUnit, KExn, KTuple, KList, KAbsent, KPresent, KFun, PValues, no_pvalues, pvalue}
use Rattle.ac_terms.specs.Parts.{pattern_types}
use Rattle.ac_terms.specs.Spelling.{term_count, value_count}
use Rattle.ac_generate.specs.Sizes.{lambdas, value_lambdas, variable_count, unbind, push_text, size, arm_size}

-- the code of a term that begins at address p of its block, where n blocks are finished
abbrev mutual
  pub code : Expr → ℕ → ℕ → List Instr
  code (Int k) p n = instr.PushInt k ∷ []
  code (Boolean b) p n = instr.PushBool b ∷ []
  code (Str s) p n = instr.PushStr s ∷ []
  code Unit' p n = instr.PushUnit ∷ []
  code (Exn k) p n = instr.MakeExn k ∷ []
  code (ExnOf k e) p n = code e p n ++ instr.MakeExn k ∷ []
  code (Tuple es) p n = all_code es p n ++ instr.MakeTuple (term_count es) ∷ []
  code (Nil T) p n = instr.PushNil ∷ []
  code (Empty T) p n = instr.PushNone ∷ []
  code (Present e) p n = code e p n ++ instr.MakeSome ∷ []
  code (Cons a b) p n = code a p n ++ (code b (p + size a) (n + lambdas a) ++ instr.MakeCons ∷ [])
  code (Var i) p n = instr.Var i ∷ []
  code (Own f) p n = instr.Own f ∷ []
  code (Ref j x) p n = instr.Ref j x ∷ []
  code (Lam T e) p n = instr.Closure (n + lambdas e) ∷ []
  code (Rec T U e) p n = instr.RecClosure (n + lambdas e) ∷ []
  code (App f a) p n = code f p n ++ (code a (p + size f) (n + lambdas f) ++ instr.Apply ∷ [])
  code (Let T e b) p n = code e p n ++ (instr.Bind ∷ (code b (suc (p + size e)) (n + lambdas e) ++ instr.Unbind 1 ∷ []))
  code (If c a b) p n =
      let first = suc (p + size c) in
      let second = suc (first + size a) in
      let end = second + size b in
      code c p n ++ (instr.JumpIfNot second ∷ (code a first (n + lambdas c) ++ (instr.Jump end ∷ code b second (n + lambdas c + lambdas a))))
  code (Seq es) p n = seq_code es p n
  code (Match e arms) p n =
      let first = p + size e in
      let end = suc (first + arm_size arms) in
      code e p n ++ (arm_code end arms first (n + lambdas e) ++ instr.NoMatch ∷ [])
  code (Try e arms) p n =
      let handler = suc (suc (suc p + size e)) in
      let end = suc (handler + arm_size arms) in
      instr.Try handler ∷ (code e (suc p) n ++ (instr.EndTry ∷ instr.Jump end ∷ (arm_code end arms handler (n + lambdas e) ++ instr.Raise ∷ [])))
  code (Raise T e) p n = code e p n ++ instr.Raise ∷ []
  code (Prim k es) p n = all_code es p n ++ instr.Prim k ∷ []
  code (Marshal T m e) p n = code m p n ++ (code e (p + size m) (n + lambdas m) ++ instr.Marshal T ∷ [])
  code (Unmarshal T e) p n = code e p n ++ instr.Unmarshal T ∷ []
  code (Val T v) p n = value_code v n
  code (Evaluated T v) p n = []
  code (Bracket h T e) p n = []

  pub all_code : Exprs → ℕ → ℕ → List Instr
  all_code no_exprs p n = []
  all_code (expr e es) p n = code e p n ++ all_code es (p + size e) (n + lambdas e)

  -- the parts of a sequence; between two of them the value of the former is dropped
  pub seq_code : Exprs → ℕ → ℕ → List Instr
  seq_code no_exprs p n = []
  seq_code (expr e es) p n = code e p n ++ rest_code es (p + size e) (n + lambdas e)

  pub rest_code : Exprs → ℕ → ℕ → List Instr
  rest_code no_exprs p n = []
  rest_code (expr e es) p n = instr.Drop ∷ (code e (suc p) n ++ rest_code es (suc p + size e) (n + lambdas e))

  -- some arms, each of which goes on at the end; where one doesn't fit, the next is tested
  pub arm_code : ℕ → Arms → ℕ → ℕ → List Instr
  arm_code end no_arms p n = []
  arm_code end (arm q b rest) p n =
      let next = suc (suc p + size b + length (unbind (variable_count q))) in
      instr.Test q next ∷ (code b (suc p) n ++ (unbind (variable_count q) ++ (instr.Jump end ∷ arm_code end rest next (n + lambdas b))))

  -- what builds a packed value, where n blocks are finished; it has no addresses
  pub value_code : PValue → ℕ → List Instr
  value_code (KInt k) n = instr.PushInt k ∷ []
  value_code (KBool b) n = instr.PushBool b ∷ []
  value_code (KStr s) n = instr.PushStr s ∷ []
  value_code KUnit n = instr.PushUnit ∷ []
  value_code (KExn k s) n = push_text s ++ instr.MakeExn k ∷ []
  value_code (KTuple vs) n = all_value_code vs n ++ instr.MakeTuple (value_count vs) ∷ []
  value_code (KList vs) n = all_value_code vs n ++ (instr.PushNil ∷ replicate (value_count vs) instr.MakeCons)
  value_code KAbsent n = instr.PushNone ∷ []
  value_code (KPresent v) n = value_code v n ++ instr.MakeSome ∷ []
  value_code (KFun h (Lam T e)) n = instr.Constant (n + lambdas e) ∷ []
  value_code (KFun h (Rec T U e)) n = instr.RecConstant (n + lambdas e) ∷ []
  value_code (KFun h e) n = []

  pub all_value_code : PValues → ℕ → List Instr
  all_value_code no_pvalues n = []
  all_value_code (pvalue v vs) n = value_code v n ++ all_value_code vs (n + value_lambdas v)

-- a lambda's block: its home, the lambda, the types of the variables around it, and the code of its body
abbrev pub lambda_block : Home → Expr → List Typ → List Instr → Block
lambda_block c l G body = record { home = c; lambda = Some l; context = G; instrs = body ++ instr.Return ∷ [] }

-- the blocks of the lambdas in a term at home c, where the variables around it have the types G, the newest first, and n blocks are finished
abbrev mutual
  pub blocks : Home → List Typ → Expr → ℕ → List Block
  blocks c G (ExnOf k e) n = blocks c G e n
  blocks c G (Tuple es) n = all_blocks c G es n
  blocks c G (Present e) n = blocks c G e n
  blocks c G (Cons a b) n = blocks c G a n ++ blocks c G b (n + lambdas a)
  blocks c G (Lam T e) n = blocks c (T ∷ G) e n ++ lambda_block c (Lam T e) G (code e 0 n) ∷ []
  blocks c G (Rec T U e) n = blocks c (T ∷ TFun T U ∷ G) e n ++ lambda_block c (Rec T U e) G (code e 0 n) ∷ []
  blocks c G (App f a) n = blocks c G f n ++ blocks c G a (n + lambdas f)
  blocks c G (Let T e b) n = blocks c G e n ++ blocks c (T ∷ G) b (n + lambdas e)
  blocks c G (If e a b) n = blocks c G e n ++ (blocks c G a (n + lambdas e) ++ blocks c G b (n + lambdas e + lambdas a))
  blocks c G (Seq es) n = all_blocks c G es n
  blocks c G (Match e arms) n = blocks c G e n ++ arm_blocks c G arms (n + lambdas e)
  blocks c G (Try e arms) n = blocks c G e n ++ arm_blocks c G arms (n + lambdas e)
  blocks c G (Raise T e) n = blocks c G e n
  blocks c G (Prim k es) n = all_blocks c G es n
  blocks c G (Marshal T m e) n = blocks c G m n ++ blocks c G e (n + lambdas m)
  blocks c G (Unmarshal T e) n = blocks c G e n
  blocks c G (Val T v) n = value_blocks v n
  blocks c G (Int i) n = []
  blocks c G (Boolean b) n = []
  blocks c G (Str s) n = []
  blocks c G Unit' n = []
  blocks c G (Exn k) n = []
  blocks c G (Nil T) n = []
  blocks c G (Empty T) n = []
  blocks c G (Var i) n = []
  blocks c G (Own f) n = []
  blocks c G (Ref j x) n = []
  blocks c G (Evaluated T v) n = []
  blocks c G (Bracket h T e) n = []

  pub all_blocks : Home → List Typ → Exprs → ℕ → List Block
  all_blocks c G no_exprs n = []
  all_blocks c G (expr e es) n = blocks c G e n ++ all_blocks c G es (n + lambdas e)

  -- an arm's body sees the variables of its pattern, of which the rightmost is the newest
  pub arm_blocks : Home → List Typ → Arms → ℕ → List Block
  arm_blocks c G no_arms n = []
  arm_blocks c G (arm q b rest) n = blocks c (reverse (pattern_types q) ++ G) b n ++ arm_blocks c G rest (n + lambdas b)

  -- a packed function has a home of its own, and no variables around it
  pub value_blocks : PValue → ℕ → List Block
  value_blocks (KTuple vs) n = all_value_blocks vs n
  value_blocks (KList vs) n = all_value_blocks vs n
  value_blocks (KPresent v) n = value_blocks v n
  value_blocks (KFun h (Lam T e)) n = blocks h (T ∷ []) e n ++ lambda_block h (Lam T e) [] (code e 0 n) ∷ []
  value_blocks (KFun h (Rec T U e)) n = blocks h (T ∷ TFun T U ∷ []) e n ++ lambda_block h (Rec T U e) [] (code e 0 n) ∷ []
  value_blocks (KFun h e) n = []
  value_blocks (KInt i) n = []
  value_blocks (KBool b) n = []
  value_blocks (KStr s) n = []
  value_blocks KUnit n = []
  value_blocks (KExn k s) n = []
  value_blocks KAbsent n = []

  pub all_value_blocks : PValues → ℕ → List Block
  all_value_blocks no_pvalues n = []
  all_value_blocks (pvalue v vs) n = value_blocks v n ++ all_value_blocks vs (n + value_lambdas v)
