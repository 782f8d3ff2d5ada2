-- How the code of a term is written: the equations that its writing follows, form by form.
use Rattle.std.proofs.Common.{◌≡◌, ℕ, ℤ, suc, ◌+◌, Bool, List, [], ◌∷◌, ◌++◌, length, replicate, Option, None, Some, refl, sym, ap, ap₂, ◌∙◌, arith, length-append, append_assoc}
use Rattle.std.proofs.lemmas.List.{append-nil}
use Rattle.ac_types.specs.Types.{Bytes, Typ, TFun}
use Rattle.ac_terms.specs.Terms.{Home, Expr, Int, Boolean, Str, Unit', Exn, ExnOf, Tuple, Nil, Empty, Present, Cons, Var, Own, Ref, Lam, Rec, App, Let, Seq, Raise, Prim, Marshal, Unmarshal, Val, Exprs, no_exprs, expr, PValue, KInt, KBool, KStr, KUnit, KExn, KTuple, KList, KAbsent, KPresent, KFun, PValues, no_pvalues, pvalue}
use Rattle.ac_terms.specs.Spelling.{term_count, value_count}
use Rattle.ac_code.specs.Code as instr
use Rattle.ac_code.specs.Code.{Instr, Block}
use Rattle.ac_generate.specs.Sizes.{lambdas, value_lambdas, push_text, size}
use Rattle.ac_generate.specs.Generate.{code, all_code, rest_code, value_code, all_value_code, blocks, all_blocks, value_blocks, all_value_blocks, lambda_block}
use Rattle.ac_generate.specs.inner.Drafts.{Draft, address, count, put, put_all, block_begun, block_ended, wrote, wrote_all, wrote_seq, wrote_rest, wrote_value, wrote_values}
use Rattle.ac_generate.proofs.SizeLaws.{code_size, block_count, value_block_count}

-- with more instructions and blocks
abbrev pub more : List Instr → List Block → Draft → Draft
more is bs d = record { first = d.first; instrs = d.instrs ++ is; blocks = d.blocks ++ bs }

pub more_same : (d : Draft) (is js : List Instr) (bs cs : List Block) → is ≡ js → bs ≡ cs → more is bs d ≡ more js cs d
more_same d is js bs cs e h = ap₂ (λ (x : List Instr) (y : List Block). more x y d) e h

pub leaf : (i : Instr) (d : Draft) → put i d ≡ more (i ∷ []) [] d
unfolding put
leaf i d = ap (λ (bs : List Block). record { first = d.first; instrs = d.instrs ++ i ∷ []; blocks = bs }) (sym (append-nil d.blocks))

pub put_more : (i : Instr) (is : List Instr) (bs : List Block) (d : Draft) → put i (more is bs d) ≡ more (is ++ i ∷ []) bs d
unfolding put
put_more i is bs d = ap (λ (js : List Instr). record { first = d.first; instrs = js; blocks = d.blocks ++ bs }) (append_assoc d.instrs is (i ∷ []))

pub put_all_more : (js is : List Instr) (bs : List Block) (d : Draft) → put_all js (more is bs d) ≡ more (is ++ js) bs d
unfolding put_all
put_all_more js is bs d = ap (λ (ks : List Instr). record { first = d.first; instrs = ks; blocks = d.blocks ++ bs }) (append_assoc d.instrs is js)

-- what is written where is and bs stand already
pub further : (f : ℕ → ℕ → List Instr) (g : ℕ → List Block) (is : List Instr) (bs : List Block) (d : Draft) (p n : ℕ) → address d + length is ≡ p → count d + length bs ≡ n →
    more (f (address (more is bs d)) (count (more is bs d))) (g (count (more is bs d))) (more is bs d) ≡ more (is ++ f p n) (bs ++ g n) d
further f g is bs d p n e h =
    let e' : address (more is bs d) ≡ p = length-append d.instrs is ∙ e in
    let h' : count (more is bs d) ≡ n = omega (arith, length-append d.blocks bs, h) in
    ap₂ (λ (q m : ℕ). more (f q m) (g m) (more is bs d)) e' h'
    ∙ ap₂ (λ (x : List Instr) (y : List Block). record { first = d.first; instrs = x; blocks = y }) (append_assoc d.instrs is (f p n)) (append_assoc d.blocks bs (g n))

module _ (c : Home) (G : List Typ) where
  pub wrote_more : (e : Expr) (is : List Instr) (bs : List Block) (d : Draft) (p n : ℕ) → address d + length is ≡ p → count d + length bs ≡ n → wrote c G e (more is bs d) ≡ more (is ++ code e p n) (bs ++ blocks c G e n) d
  unfolding wrote
  wrote_more e is bs d p n h k = further (code e) (blocks c G e) is bs d p n h k

  pub wrote_Int : (k : ℤ) (d : Draft) → wrote c G (Int k) d ≡ put (instr.PushInt k) d
  unfolding wrote
  wrote_Int k d = sym (leaf _ d)

  pub wrote_Boolean : (b : Bool) (d : Draft) → wrote c G (Boolean b) d ≡ put (instr.PushBool b) d
  unfolding wrote
  wrote_Boolean b d = sym (leaf _ d)

  pub wrote_Str : (s : Bytes) (d : Draft) → wrote c G (Str s) d ≡ put (instr.PushStr s) d
  unfolding wrote
  wrote_Str s d = sym (leaf _ d)

  pub wrote_Unit : (d : Draft) → wrote c G Unit' d ≡ put instr.PushUnit d
  unfolding wrote
  wrote_Unit d = sym (leaf _ d)

  pub wrote_Exn : (k : ℕ) (d : Draft) → wrote c G (Exn k) d ≡ put (instr.MakeExn k) d
  unfolding wrote
  wrote_Exn k d = sym (leaf _ d)

  pub wrote_Nil : (T : Typ) (d : Draft) → wrote c G (Nil T) d ≡ put instr.PushNil d
  unfolding wrote
  wrote_Nil T d = sym (leaf _ d)

  pub wrote_Empty : (T : Typ) (d : Draft) → wrote c G (Empty T) d ≡ put instr.PushNone d
  unfolding wrote
  wrote_Empty T d = sym (leaf _ d)

  pub wrote_Var : (i : ℕ) (d : Draft) → wrote c G (Var i) d ≡ put (instr.Var i) d
  unfolding wrote
  wrote_Var i d = sym (leaf _ d)

  pub wrote_Own : (f : ℕ) (d : Draft) → wrote c G (Own f) d ≡ put (instr.Own f) d
  unfolding wrote
  wrote_Own f d = sym (leaf _ d)

  pub wrote_Ref : (j : ℕ) (x : Bytes) (d : Draft) → wrote c G (Ref j x) d ≡ put (instr.Ref j x) d
  unfolding wrote
  wrote_Ref j x d = sym (leaf _ d)

  -- a part, and then an instruction
  pub wrote_ExnOf : (k : ℕ) (e : Expr) (d : Draft) → wrote c G (ExnOf k e) d ≡ put (instr.MakeExn k) (wrote c G e d)
  unfolding wrote
  wrote_ExnOf k e d = sym (put_more _ _ _ d)

  pub wrote_Tuple : (es : Exprs) (d : Draft) → wrote c G (Tuple es) d ≡ put (instr.MakeTuple (term_count es)) (wrote_all c G es d)
  unfolding wrote wrote_all
  wrote_Tuple es d = sym (put_more _ _ _ d)

  pub wrote_Prim : (k : ℕ) (es : Exprs) (d : Draft) → wrote c G (Prim k es) d ≡ put (instr.Prim k) (wrote_all c G es d)
  unfolding wrote wrote_all
  wrote_Prim k es d = sym (put_more _ _ _ d)

  pub wrote_Present : (e : Expr) (d : Draft) → wrote c G (Present e) d ≡ put instr.MakeSome (wrote c G e d)
  unfolding wrote
  wrote_Present e d = sym (put_more _ _ _ d)

  pub wrote_Raise : (T : Typ) (e : Expr) (d : Draft) → wrote c G (Raise T e) d ≡ put instr.Raise (wrote c G e d)
  unfolding wrote
  wrote_Raise T e d = sym (put_more _ _ _ d)

  pub wrote_Unmarshal : (T : Typ) (e : Expr) (d : Draft) → wrote c G (Unmarshal T e) d ≡ put (instr.Unmarshal T) (wrote c G e d)
  unfolding wrote
  wrote_Unmarshal T e d = sym (put_more _ _ _ d)

  pub wrote_Val : (T : Typ) (v : PValue) (d : Draft) → wrote c G (Val T v) d ≡ wrote_value v d
  unfolding wrote wrote_value
  wrote_Val T v d = refl

  pub wrote_Seq : (es : Exprs) (d : Draft) → wrote c G (Seq es) d ≡ wrote_seq c G es d
  unfolding wrote wrote_seq
  wrote_Seq es d = refl

  -- two parts, and then an instruction
  paired : (a b : Expr) (i : Instr) (d : Draft) →
      put i (wrote c G b (wrote c G a d))
      ≡ more (code a (address d) (count d) ++ (code b (address d + size a) (count d + lambdas a) ++ i ∷ [])) (blocks c G a (count d) ++ blocks c G b (count d + lambdas a)) d
  unfolding wrote
  paired a b i d =
      let p = address d in
      let n = count d in
      ap (put i) (wrote_more b (code a p n) (blocks c G a n) d (p + size a) (n + lambdas a) (ap (λ k. p + k) (code_size a p n)) (ap (λ k. n + k) (block_count c G a n)))
      ∙ put_more i _ _ d
      ∙ more_same d _ _ _ _ (append_assoc (code a p n) _ (i ∷ [])) refl

  pub wrote_Cons : (a b : Expr) (d : Draft) → wrote c G (Cons a b) d ≡ put instr.MakeCons (wrote c G b (wrote c G a d))
  unfolding wrote
  wrote_Cons a b d = sym (paired a b instr.MakeCons d)

  pub wrote_App : (f a : Expr) (d : Draft) → wrote c G (App f a) d ≡ put instr.Apply (wrote c G a (wrote c G f d))
  unfolding wrote
  wrote_App f a d = sym (paired f a instr.Apply d)

  pub wrote_Marshal : (T : Typ) (m e : Expr) (d : Draft) → wrote c G (Marshal T m e) d ≡ put (instr.Marshal T) (wrote c G e (wrote c G m d))
  unfolding wrote
  wrote_Marshal T m e d = sym (paired m e (instr.Marshal T) d)

abbrev pub nothing_more : (d : Draft) → more [] [] d ≡ d
nothing_more d = ap₂ (λ (x : List Instr) (y : List Block). record { first = d.first; instrs = x; blocks = y }) (append-nil d.instrs) (append-nil d.blocks)

pub wrote_Let : (c : Home) (G : List Typ) (T : Typ) (e b : Expr) (d : Draft) → wrote c G (Let T e b) d ≡ put (instr.Unbind 1) (wrote c (T ∷ G) b (put instr.Bind (wrote c G e d)))
unfolding wrote
wrote_Let c G T e b d =
    let p = address d in
    let n = count d in
    let ce = code e p n in
    let be = blocks c G e n in
    let first = suc (p + size e) in
    let cb = code b first (n + lambdas e) in
    sym (
    ap (λ x. put (instr.Unbind 1) (wrote c (T ∷ G) b x)) (put_more instr.Bind ce be d)
    ∙ ap (put (instr.Unbind 1)) (wrote_more c (T ∷ G) b (ce ++ instr.Bind ∷ []) be d first (n + lambdas e) (omega (arith, length-append ce (instr.Bind ∷ []), code_size e p n)) (ap (λ k. n + k) (block_count c G e n)))
    ∙ put_more (instr.Unbind 1) _ _ d
    ∙ more_same d _ _ _ _ (append_assoc (ce ++ instr.Bind ∷ []) cb (instr.Unbind 1 ∷ []) ∙ append_assoc ce (instr.Bind ∷ []) (cb ++ instr.Unbind 1 ∷ [])) refl
    )

-- the block of a lambda with that body, and then the instruction of its number
lambda_written : (c h : Home) (G H : List Typ) (l e : Expr) (make : ℕ → Instr) (d : Draft) →
    more (make (count d + lambdas e) ∷ []) (blocks h H e (count d) ++ lambda_block h l G (code e 0 (count d)) ∷ []) d
    ≡ put (make (count (wrote h H e (block_begun d)))) (block_ended h l G d.instrs (wrote h H e (block_begun d)))
unfolding wrote block_begun block_ended put
lambda_written c h G H l e make d =
    let bs = blocks h H e (count d) in
    let same : count d + lambdas e ≡ d.first + length (d.blocks ++ bs) = omega (arith, length-append d.blocks bs, block_count h H e (count d)) in
    ap₂ (λ (k : ℕ) (y : List Block). record { first = d.first; instrs = d.instrs ++ make k ∷ []; blocks = y }) same (sym (append_assoc d.blocks bs (lambda_block h l G (code e 0 (count d)) ∷ [])))

pub wrote_Lam : (c : Home) (G : List Typ) (T : Typ) (e : Expr) (d : Draft) →
    wrote c G (Lam T e) d ≡ put (instr.Closure (count (wrote c (T ∷ G) e (block_begun d)))) (block_ended c (Lam T e) G d.instrs (wrote c (T ∷ G) e (block_begun d)))
unfolding wrote
wrote_Lam c G T e d = lambda_written c c G (T ∷ G) (Lam T e) e instr.Closure d

pub wrote_Rec : (c : Home) (G : List Typ) (T U : Typ) (e : Expr) (d : Draft) →
    wrote c G (Rec T U e) d ≡ put (instr.RecClosure (count (wrote c (T ∷ TFun T U ∷ G) e (block_begun d)))) (block_ended c (Rec T U e) G d.instrs (wrote c (T ∷ TFun T U ∷ G) e (block_begun d)))
unfolding wrote
wrote_Rec c G T U e d = lambda_written c c G (T ∷ TFun T U ∷ G) (Rec T U e) e instr.RecClosure d

-- lists of terms
pub wrote_none : (c : Home) (G : List Typ) (d : Draft) → wrote_all c G no_exprs d ≡ d
unfolding wrote_all
wrote_none c G d = nothing_more d

pub wrote_next : (c : Home) (G : List Typ) (e : Expr) (es : Exprs) (d : Draft) → wrote_all c G (expr e es) d ≡ wrote_all c G es (wrote c G e d)
unfolding wrote_all wrote
wrote_next c G e es d = sym (further (all_code es) (all_blocks c G es) _ _ d _ _ (ap (λ k. address d + k) (code_size e (address d) (count d))) (ap (λ k. count d + k) (block_count c G e (count d))))

pub wrote_no_parts : (c : Home) (G : List Typ) (d : Draft) → wrote_seq c G no_exprs d ≡ d
unfolding wrote_seq
wrote_no_parts c G d = nothing_more d

pub wrote_first : (c : Home) (G : List Typ) (e : Expr) (es : Exprs) (d : Draft) → wrote_seq c G (expr e es) d ≡ wrote_rest c G es (wrote c G e d)
unfolding wrote_seq wrote_rest wrote
wrote_first c G e es d = sym (further (rest_code es) (all_blocks c G es) _ _ d _ _ (ap (λ k. address d + k) (code_size e (address d) (count d))) (ap (λ k. count d + k) (block_count c G e (count d))))

pub wrote_no_rest : (c : Home) (G : List Typ) (d : Draft) → wrote_rest c G no_exprs d ≡ d
unfolding wrote_rest
wrote_no_rest c G d = nothing_more d

pub wrote_later : (c : Home) (G : List Typ) (e : Expr) (es : Exprs) (d : Draft) → wrote_rest c G (expr e es) d ≡ wrote_rest c G es (wrote c G e (put instr.Drop d))
unfolding wrote_rest
wrote_later c G e es d =
    let p = address d in
    let n = count d in
    sym (
    ap (λ x. wrote_rest c G es (wrote c G e x)) (leaf instr.Drop d)
    ∙ ap (wrote_rest c G es) (wrote_more c G e (instr.Drop ∷ []) [] d (suc p) n (omega arith) (omega arith))
    ∙ further (rest_code es) (all_blocks c G es) (instr.Drop ∷ code e (suc p) n) (blocks c G e n) d (suc p + size e) (n + lambdas e) (omega (arith, code_size e (suc p) n)) (ap (λ k. n + k) (block_count c G e n))
    )

-- packed values
pub wrote_KInt : (k : ℤ) (d : Draft) → wrote_value (KInt k) d ≡ put (instr.PushInt k) d
unfolding wrote_value
wrote_KInt k d = sym (leaf _ d)

pub wrote_KBool : (b : Bool) (d : Draft) → wrote_value (KBool b) d ≡ put (instr.PushBool b) d
unfolding wrote_value
wrote_KBool b d = sym (leaf _ d)

pub wrote_KStr : (s : Bytes) (d : Draft) → wrote_value (KStr s) d ≡ put (instr.PushStr s) d
unfolding wrote_value
wrote_KStr s d = sym (leaf _ d)

pub wrote_KUnit : (d : Draft) → wrote_value KUnit d ≡ put instr.PushUnit d
unfolding wrote_value
wrote_KUnit d = sym (leaf _ d)

pub wrote_KAbsent : (d : Draft) → wrote_value KAbsent d ≡ put instr.PushNone d
unfolding wrote_value
wrote_KAbsent d = sym (leaf _ d)

put_all_on : (is : List Instr) (d : Draft) → put_all is d ≡ more is [] d
unfolding put_all
put_all_on is d = ap (λ (bs : List Block). record { first = d.first; instrs = d.instrs ++ is; blocks = bs }) (sym (append-nil d.blocks))

pub wrote_KExn : (k : ℕ) (s : Option Bytes) (d : Draft) → wrote_value (KExn k s) d ≡ put (instr.MakeExn k) (put_all (push_text s) d)
unfolding wrote_value
wrote_KExn k s d = sym (ap (put (instr.MakeExn k)) (put_all_on (push_text s) d) ∙ put_more _ (push_text s) [] d)

pub text_none : (d : Draft) → put_all (push_text None) d ≡ d
text_none d = put_all_on [] d ∙ nothing_more d

pub text_some : (s : Bytes) (d : Draft) → put_all (push_text (Some s)) d ≡ put (instr.PushStr s) d
text_some s d = put_all_on _ d ∙ sym (leaf _ d)

pub wrote_KPresent : (v : PValue) (d : Draft) → wrote_value (KPresent v) d ≡ put instr.MakeSome (wrote_value v d)
unfolding wrote_value
wrote_KPresent v d = sym (put_more _ _ _ d)

pub wrote_KTuple : (vs : PValues) (d : Draft) → wrote_value (KTuple vs) d ≡ put (instr.MakeTuple (value_count vs)) (wrote_values vs d)
unfolding wrote_value wrote_values
wrote_KTuple vs d = sym (put_more _ _ _ d)

pub wrote_KList : (vs : PValues) (d : Draft) → wrote_value (KList vs) d ≡ put_all (replicate (value_count vs) instr.MakeCons) (put instr.PushNil (wrote_values vs d))
unfolding wrote_value wrote_values
wrote_KList vs d =
    let made = all_value_code vs (count d) in
    let conses = replicate (value_count vs) instr.MakeCons in
    sym (ap (put_all conses) (put_more instr.PushNil made _ d) ∙ put_all_more conses _ _ d ∙ more_same d _ _ _ _ (append_assoc made (instr.PushNil ∷ []) conses) refl)

pub wrote_KLam : (h : Home) (T : Typ) (e : Expr) (d : Draft) →
    wrote_value (KFun h (Lam T e)) d ≡ put (instr.Constant (count (wrote h (T ∷ []) e (block_begun d)))) (block_ended h (Lam T e) [] d.instrs (wrote h (T ∷ []) e (block_begun d)))
unfolding wrote_value
wrote_KLam h T e d = lambda_written h h [] (T ∷ []) (Lam T e) e instr.Constant d

pub wrote_KRec : (h : Home) (T U : Typ) (e : Expr) (d : Draft) →
    wrote_value (KFun h (Rec T U e)) d ≡ put (instr.RecConstant (count (wrote h (T ∷ TFun T U ∷ []) e (block_begun d)))) (block_ended h (Rec T U e) [] d.instrs (wrote h (T ∷ TFun T U ∷ []) e (block_begun d)))
unfolding wrote_value
wrote_KRec h T U e d = lambda_written h h [] (T ∷ TFun T U ∷ []) (Rec T U e) e instr.RecConstant d

pub wrote_no_values : (d : Draft) → wrote_values no_pvalues d ≡ d
unfolding wrote_values
wrote_no_values d = nothing_more d

pub wrote_next_value : (v : PValue) (vs : PValues) (d : Draft) → wrote_values (pvalue v vs) d ≡ wrote_values vs (wrote_value v d)
unfolding wrote_values wrote_value
wrote_next_value v vs d =
    let n = count d in
    sym (further (λ p. all_value_code vs) (all_value_blocks vs) (value_code v n) (value_blocks v n) d (address d + length (value_code v n)) (n + value_lambdas v) refl (ap (λ k. n + k) (value_block_count v n)))

-- the equations of the forms
pub ruleset draft_laws = (wrote_Int, wrote_Boolean, wrote_Str, wrote_Unit, wrote_Exn, wrote_ExnOf, wrote_Tuple, wrote_Nil, wrote_Empty, wrote_Present, wrote_Cons, wrote_Var, wrote_Own, wrote_Ref, wrote_Lam, wrote_Rec, wrote_App, wrote_Let, wrote_Seq, wrote_Raise, wrote_Prim, wrote_Marshal, wrote_Unmarshal, wrote_Val)

pub ruleset list_laws = (wrote_none, wrote_next, wrote_no_parts, wrote_first, wrote_no_rest, wrote_later)

pub ruleset value_laws = (wrote_KInt, wrote_KBool, wrote_KStr, wrote_KUnit, wrote_KAbsent, wrote_KExn, text_none, text_some, wrote_KPresent, wrote_KTuple, wrote_KList, wrote_KLam, wrote_KRec, wrote_no_values, wrote_next_value)
