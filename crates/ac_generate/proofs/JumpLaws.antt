-- How choices, arms and handlers are written, whose jumps are open at first.
use Rattle.std.proofs.Common.{◌≡◌, ℕ, suc, ◌+◌, List, [], ◌∷◌, ◌++◌, length, reverse, set, refl, sym, ap, ap₂, ◌∙◌, arith, length-append, append_assoc}
use Rattle.std.proofs.lemmas.List.{append-nil, set_at as set_in}
use Rattle.ac_types.specs.Types.{Typ}
use Rattle.ac_terms.specs.Terms.{Home, Pattern, Expr, If, Match, Try, Arms, no_arms, arm}
use Rattle.ac_terms.specs.Parts.{pattern_types}
use Rattle.ac_code.specs.Code as instr
use Rattle.ac_code.specs.Code.{Instr, Block}
use Rattle.ac_generate.specs.Sizes.{lambdas, variable_count, unbind, size, arm_size}
use Rattle.ac_generate.specs.Generate.{code, arm_code, blocks, arm_blocks}
use Rattle.ac_generate.specs.inner.Drafts.{Draft, address, count, put, put_all, set_at, jumps_at, wrote, wrote_arm, wrote_arms, arm_end, ends}
use Rattle.ac_generate.proofs.SizeLaws.{code_size, arm_code_size, block_count}
use Rattle.ac_generate.proofs.DraftLaws.{more, more_same, leaf, put_more, put_all_more, further, wrote_more}

address_more : (is : List Instr) (bs : List Block) (d : Draft) → address (more is bs d) ≡ address d + length is
address_more is bs d = length-append d.instrs is

-- another instruction in the middle
set_more : (is xs ys : List Instr) (y z : Instr) (k : ℕ) (bs : List Block) (d : Draft) → is ≡ xs ++ y ∷ ys → k ≡ address d + length xs → set_at k z (more is bs d) ≡ more (xs ++ z ∷ ys) bs d
unfolding set_at
set_more is xs ys y z k bs d e h =
    ap (λ (js : List Instr). record { first = d.first; instrs = js; blocks = d.blocks ++ bs }) (
    ap (λ (js : List Instr). set (d.instrs ++ js) k z) e
    ∙ ap (λ (js : List Instr). set js k z) (sym (append_assoc d.instrs xs (y ∷ ys)))
    ∙ set_in (d.instrs ++ xs) y ys z k (length-append d.instrs xs ∙ sym h)
    ∙ append_assoc d.instrs xs (z ∷ ys)
    )

-- a jump that is still open
abbrev pub open_jump : Instr
open_jump = instr.Jump 0

pub wrote_If : (c : Home) (G : List Typ) (t a b : Expr) (d d1 d3 d4 d6 : Draft) → d1 ≡ wrote c G t d → d3 ≡ wrote c G a (put open_jump d1) → d4 ≡ put open_jump d3 → d6 ≡ wrote c G b d4 →
    set_at (address d3) (instr.Jump (address d6)) (set_at (address d1) (instr.JumpIfNot (address d4)) d6) ≡ wrote c G (If t a b) d
unfolding wrote
wrote_If c G t a b d d1 d3 d4 d6 h1 h3 h4 h6 =
    let p = address d in
    let n = count d in
    let first = suc (p + size t) in
    let second = suc (first + size a) in
    let m = n + lambdas t in
    let ct = code t p n in
    let ca = code a first m in
    let cb = code b second (m + lambdas a) in
    let bt = blocks c G t n in
    let ba = blocks c G a m in
    let bb = blocks c G b (m + lambdas a) in
    let bs = (bt ++ ba) ++ bb in
    let st = code_size t p n in
    let sa = code_size a first m in
    let sb = code_size b second (m + lambdas a) in
    let kt = block_count c G t n in
    let ka = block_count c G a m in
    let e3 : d3 ≡ more (ct ++ (open_jump ∷ ca)) (bt ++ ba) d =
    h3 ∙ ap (λ x. wrote c G a (put open_jump x)) h1 ∙ ap (wrote c G a) (put_more open_jump ct bt d)
    ∙ wrote_more c G a (ct ++ open_jump ∷ []) bt d first m (omega (arith, length-append ct (open_jump ∷ []), st)) (ap (λ k. n + k) kt)
    ∙ more_same d _ _ _ _ (append_assoc ct (open_jump ∷ []) ca) refl in
    let e4 : d4 ≡ more ((ct ++ (open_jump ∷ ca)) ++ open_jump ∷ []) (bt ++ ba) d = h4 ∙ ap (put open_jump) e3 ∙ put_more open_jump _ _ d in
    let n3 = length-append ct (open_jump ∷ ca) in
    let n4 = length-append (ct ++ (open_jump ∷ ca)) (open_jump ∷ []) in
    let q4 : address d4 ≡ second = ap address e4 ∙ address_more _ (bt ++ ba) d ∙ omega (arith, n3, n4, st, sa) in
    let e6 : d6 ≡ more ((ct ++ (open_jump ∷ ca)) ++ (open_jump ∷ cb)) bs d =
    h6 ∙ ap (wrote c G b) e4
    ∙ wrote_more c G b _ (bt ++ ba) d second (m + lambdas a) (omega (arith, n3, n4, st, sa)) (omega (arith, length-append bt ba, kt, ka))
    ∙ more_same d _ _ _ _ (append_assoc (ct ++ (open_jump ∷ ca)) (open_jump ∷ []) cb) refl in
    let q6 : address d6 ≡ second + size b = ap address e6 ∙ address_more _ bs d ∙ omega (arith, n3, length-append (ct ++ (open_jump ∷ ca)) (open_jump ∷ cb), st, sa, sb) in
    let q1 : address d1 ≡ p + length ct = ap address h1 ∙ address_more ct bt d in
    let q3 : address d3 ≡ p + length (ct ++ (instr.JumpIfNot second ∷ ca)) = ap address e3 ∙ address_more _ (bt ++ ba) d ∙ omega (arith, n3, length-append ct (instr.JumpIfNot second ∷ ca)) in
    let front = ct ++ (instr.JumpIfNot second ∷ ca) in
    ap₂ (λ (x : ℕ) (y : Draft). set_at (address d3) (instr.Jump x) y) q6 (
    ap₂ (λ (x : ℕ) (y : Draft). set_at (address d1) (instr.JumpIfNot x) y) q4 e6
    ∙ set_more _ ct (ca ++ (open_jump ∷ cb)) open_jump (instr.JumpIfNot second) (address d1) bs d (append_assoc ct (open_jump ∷ ca) (open_jump ∷ cb)) q1
    )
    ∙ set_more _ front cb open_jump (instr.Jump (second + size b)) (address d3) bs d (sym (append_assoc ct (instr.JumpIfNot second ∷ ca) (open_jump ∷ cb))) q3
    ∙ more_same d _ _ _ _ (append_assoc ct (instr.JumpIfNot second ∷ ca) (instr.Jump (second + size b) ∷ cb)) (append_assoc bt ba bb)

-- an arm, whose test gets its address when the arm is written
pub wrote_one_arm : (c : Home) (G : List Typ) (q : Pattern) (b : Expr) (d d3 d4 : Draft) → d3 ≡ put_all (unbind (variable_count q)) (wrote c (reverse (pattern_types q) ++ G) b (put open_jump d)) → d4 ≡ put open_jump d3 →
    set_at (address d) (instr.Test q (address d4)) d4 ≡ wrote_arm c G q b d
unfolding wrote_arm
wrote_one_arm c G q b d d3 d4 h3 h4 =
    let p = address d in
    let n = count d in
    let cb = code b (suc p) n in
    let ub = unbind (variable_count q) in
    let bb = blocks c (reverse (pattern_types q) ++ G) b n in
    let next = suc (arm_end q b p) in
    let e3 : d3 ≡ more ((open_jump ∷ cb) ++ ub) bb d =
    h3 ∙ ap (λ x. put_all ub (wrote c (reverse (pattern_types q) ++ G) b x)) (leaf open_jump d)
    ∙ ap (put_all ub) (wrote_more c (reverse (pattern_types q) ++ G) b (open_jump ∷ []) [] d (suc p) n (omega arith) (omega arith))
    ∙ put_all_more ub _ bb d in
    let e4 : d4 ≡ more (open_jump ∷ (cb ++ (ub ++ open_jump ∷ []))) bb d = h4 ∙ ap (put open_jump) e3 ∙ put_more open_jump _ bb d ∙ more_same d _ _ bb bb (append_assoc (open_jump ∷ cb) ub (open_jump ∷ [])) refl in
    let q4 : address d4 ≡ next = ap address e4 ∙ address_more _ bb d ∙ omega (arith, length-append cb (ub ++ open_jump ∷ []), length-append ub (open_jump ∷ []), code_size b (suc p) n) in
    ap₂ (λ (x : ℕ) (y : Draft). set_at p (instr.Test q x) y) q4 e4
    ∙ set_more _ [] (cb ++ (ub ++ open_jump ∷ [])) open_jump (instr.Test q next) p bb d refl (omega arith)
    ∙ more_same d _ _ _ _ refl (sym (append-nil bb))

pub arm_address : (c : Home) (G : List Typ) (q : Pattern) (b : Expr) (d : Draft) → address (put_all (unbind (variable_count q)) (wrote c (reverse (pattern_types q) ++ G) b (put open_jump d))) ≡ arm_end q b (address d)
unfolding put put_all wrote
arm_address c G q b d =
    let p = address d in
    let began = d.instrs ++ open_jump ∷ [] in
    let cb = code b (length began) (count d) in
    omega (arith, length-append d.instrs (open_jump ∷ []), length-append began cb, length-append (began ++ cb) (unbind (variable_count q)), code_size b (length began) (count d))

pub wrote_no_arms : (c : Home) (G : List Typ) (d : Draft) → wrote_arms c G no_arms d ≡ d
unfolding wrote_arms
wrote_no_arms c G d = more_same' d where
  more_same' : (d : Draft) → more [] [] d ≡ d
  more_same' d = ap₂ (λ (x : List Instr) (y : List Block). record { first = d.first; instrs = x; blocks = y }) (append-nil d.instrs) (append-nil d.blocks)

-- the address behind an arm
pub after_arm : (c : Home) (G : List Typ) (q : Pattern) (b : Expr) (d : Draft) → address (wrote_arm c G q b d) ≡ suc (arm_end q b (address d))
unfolding wrote_arm
after_arm c G q b d = address_more (arm_code 0 (arm q b no_arms) (address d) (count d)) (arm_blocks c G (arm q b no_arms) (count d)) d ∙ omega (arith, arm_code_size 0 (arm q b no_arms) (address d) (count d))

arm_apart : (t j : Instr) (cb ub rest : List Instr) → (t ∷ (cb ++ (ub ++ (j ∷ [])))) ++ rest ≡ t ∷ (cb ++ (ub ++ (j ∷ rest)))
arm_apart t j cb ub rest = ap (λ (l : List Instr). t ∷ l) (append_assoc cb (ub ++ (j ∷ [])) rest ∙ ap (λ (l : List Instr). cb ++ l) (append_assoc ub (j ∷ []) rest))

pub wrote_more_arms : (c : Home) (G : List Typ) (q : Pattern) (b : Expr) (rest : Arms) (d : Draft) → wrote_arms c G rest (wrote_arm c G q b d) ≡ wrote_arms c G (arm q b rest) d
unfolding wrote_arm wrote_arms
wrote_more_arms c G q b rest d =
    let p = address d in
    let n = count d in
    let one = arm q b no_arms in
    let bb = blocks c (reverse (pattern_types q) ++ G) b n in
    further (arm_code 0 rest) (arm_blocks c G rest) (arm_code 0 one p n) (arm_blocks c G one n) d (suc (arm_end q b p)) (n + lambdas b)
    (omega (arith, arm_code_size 0 one p n)) (omega (arith, length-append bb [], block_count c (reverse (pattern_types q) ++ G) b n))
    ∙ more_same d _ _ _ _ (arm_apart _ open_jump (code b (suc p) n) (unbind (variable_count q)) _) (append_assoc bb [] _)

arm_cut : (xs : List Instr) (t j : Instr) (cb ub rest ys : List Instr) → xs ++ ((t ∷ (cb ++ (ub ++ (j ∷ rest)))) ++ ys) ≡ (xs ++ (t ∷ (cb ++ ub))) ++ (j ∷ (rest ++ ys))
arm_cut xs t j cb ub rest ys =
    ap (λ (l : List Instr). xs ++ (t ∷ l)) (append_assoc cb (ub ++ (j ∷ rest)) ys ∙ ap (λ (l : List Instr). cb ++ l) (append_assoc ub (j ∷ rest) ys) ∙ sym (append_assoc cb ub (j ∷ (rest ++ ys))))
    ∙ sym (append_assoc xs (t ∷ (cb ++ ub)) (j ∷ (rest ++ ys)))

-- the jumps of arms go to their end
landed : (cases : Arms) (to p n : ℕ) (xs ys : List Instr) (bs : List Block) (d : Draft) → p ≡ address d + length xs →
    jumps_at (ends cases p) to (more (xs ++ (arm_code 0 cases p n ++ ys)) bs d) ≡ more (xs ++ (arm_code to cases p n ++ ys)) bs d
landed no_arms to p n xs ys bs d h = refl
landed (arm q b rest) to p n xs ys bs d h =
    let next = suc (arm_end q b p) in
    let m = n + lambdas b in
    let cb = code b (suc p) n in
    let ub = unbind (variable_count q) in
    let test = instr.Test q next in
    let front = xs ++ (test ∷ (cb ++ ub)) in
    let later = arm_code 0 rest next m in
    let at : arm_end q b p ≡ address d + length front = omega (arith, h, length-append xs (test ∷ (cb ++ ub)), length-append cb ub, code_size b (suc p) n) in
    let rests = λ (l : List Instr). sym (append_assoc front (instr.Jump to ∷ []) (l ++ ys)) in
    ap (jumps_at (ends rest next) to) (
    set_more _ front (later ++ ys) open_jump (instr.Jump to) (arm_end q b p) bs d (arm_cut xs test open_jump cb ub later ys) at
    ∙ more_same d _ _ bs bs (rests later) refl
    )
    ∙ landed rest to next m (front ++ instr.Jump to ∷ []) ys bs d (omega (arith, at, length-append front (instr.Jump to ∷ [])))
    ∙ more_same d _ _ bs bs (sym (rests (arm_code to rest next m)) ∙ sym (arm_cut xs test (instr.Jump to) cb ub (arm_code to rest next m) ys)) refl

pub wrote_Match : (c : Home) (G : List Typ) (e : Expr) (cases : Arms) (d d1 d3 : Draft) → d1 ≡ wrote c G e d → d3 ≡ put instr.NoMatch (wrote_arms c G cases d1) →
    jumps_at (ends cases (address d1)) (address d3) d3 ≡ wrote c G (Match e cases) d
unfolding wrote wrote_arms
wrote_Match c G e cases d d1 d3 h1 h3 =
    let p = address d in
    let n = count d in
    let first = p + size e in
    let m = n + lambdas e in
    let ce = code e p n in
    let be = blocks c G e n in
    let arms0 = arm_code 0 cases first m in
    let bs = be ++ arm_blocks c G cases m in
    let se = code_size e p n in
    let e3 : d3 ≡ more (ce ++ (arms0 ++ instr.NoMatch ∷ [])) bs d =
    h3 ∙ ap (λ x. put instr.NoMatch (wrote_arms c G cases x)) h1
    ∙ ap (put instr.NoMatch) (further (arm_code 0 cases) (arm_blocks c G cases) ce be d first m (ap (λ k. p + k) se) (ap (λ k. n + k) (block_count c G e n)))
    ∙ put_more instr.NoMatch _ bs d ∙ more_same d _ _ bs bs (append_assoc ce arms0 (instr.NoMatch ∷ [])) refl in
    let q1 : address d1 ≡ first = ap address h1 ∙ address_more ce be d ∙ ap (λ k. p + k) se in
    let q3 : address d3 ≡ suc (first + arm_size cases) = ap address e3 ∙ address_more _ bs d ∙ omega (arith, length-append ce (arms0 ++ instr.NoMatch ∷ []), length-append arms0 (instr.NoMatch ∷ []), se, arm_code_size 0 cases first m) in
    ap₂ (λ (x y : ℕ). jumps_at (ends cases x) y d3) q1 q3 ∙ ap (jumps_at (ends cases first) (suc (first + arm_size cases))) e3
    ∙ landed cases (suc (first + arm_size cases)) first m ce (instr.NoMatch ∷ []) bs d (ap (λ k. p + k) (sym se))

pub wrote_Try : (c : Home) (G : List Typ) (e : Expr) (cases : Arms) (d d3 d4 d6 : Draft) → d3 ≡ put instr.EndTry (wrote c G e (put open_jump d)) → d4 ≡ put open_jump d3 → d6 ≡ put instr.Raise (wrote_arms c G cases d4) →
    set_at (address d) (instr.Try (address d4)) (set_at (address d3) (instr.Jump (address d6)) (jumps_at (ends cases (address d4)) (address d6) d6)) ≡ wrote c G (Try e cases) d
unfolding wrote wrote_arms
wrote_Try c G e cases d d3 d4 d6 h3 h4 h6 =
    let p = address d in
    let n = count d in
    let handler = suc (suc (suc p + size e)) in
    let end = suc (handler + arm_size cases) in
    let m = n + lambdas e in
    let ce = code e (suc p) n in
    let be = blocks c G e n in
    let arms = λ (to : ℕ). arm_code to cases handler m in
    let last = instr.Raise ∷ [] in
    let bs = be ++ arm_blocks c G cases m in
    let se = code_size e (suc p) n in
    let body = open_jump ∷ (ce ++ instr.EndTry ∷ []) in
    let left = open_jump ∷ (ce ++ (instr.EndTry ∷ open_jump ∷ [])) in
    let e3 : d3 ≡ more body be d =
    h3 ∙ ap (λ x. put instr.EndTry (wrote c G e x)) (leaf open_jump d) ∙ ap (put instr.EndTry) (wrote_more c G e (open_jump ∷ []) [] d (suc p) n (omega arith) (omega arith)) ∙ put_more instr.EndTry _ be d in
    let e4 : d4 ≡ more left be d = h4 ∙ ap (put open_jump) e3 ∙ put_more open_jump body be d ∙ more_same d _ _ be be (ap (λ (l : List Instr). open_jump ∷ l) (append_assoc ce (instr.EndTry ∷ []) (open_jump ∷ []))) refl in
    let nb = length-append ce (instr.EndTry ∷ []) in
    let nl = length-append ce (instr.EndTry ∷ open_jump ∷ []) in
    let q4 : address d4 ≡ handler = ap address e4 ∙ address_more left be d ∙ omega (arith, nl, se) in
    let q3 : address d3 ≡ p + length body = ap address e3 ∙ address_more body be d in
    let whole : d6 ≡ more (left ++ (arms 0 ++ last)) bs d =
    h6 ∙ ap (λ x. put instr.Raise (wrote_arms c G cases x)) e4
    ∙ ap (put instr.Raise) (further (arm_code 0 cases) (arm_blocks c G cases) left be d handler m (omega (arith, nl, se)) (ap (λ k. n + k) (block_count c G e n)))
    ∙ put_more instr.Raise _ bs d ∙ more_same d _ _ bs bs (append_assoc left (arms 0) last) refl in
    let q6 : address d6 ≡ end = ap address whole ∙ address_more _ bs d ∙ omega (arith, length-append left (arms 0 ++ last), length-append (arms 0) last, nl, se, arm_code_size 0 cases handler m) in
    let tail = arms end ++ last in
    let cut : left ++ tail ≡ body ++ (open_jump ∷ tail) =
    ap (λ (l : List Instr). open_jump ∷ l) (append_assoc ce (instr.EndTry ∷ open_jump ∷ []) tail ∙ sym (append_assoc ce (instr.EndTry ∷ []) (open_jump ∷ tail))) in
    let back : body ++ (instr.Jump end ∷ tail) ≡ open_jump ∷ (ce ++ (instr.EndTry ∷ instr.Jump end ∷ tail)) = ap (λ (l : List Instr). open_jump ∷ l) (append_assoc ce (instr.EndTry ∷ []) (instr.Jump end ∷ tail)) in
    ap₂ (λ (x y : ℕ). set_at p (instr.Try x) (set_at (address d3) (instr.Jump y) (jumps_at (ends cases x) y d6))) q4 q6
    ∙ ap (λ x. set_at p (instr.Try handler) (set_at (address d3) (instr.Jump end) x)) (ap (jumps_at (ends cases handler) end) whole ∙ landed cases end handler m left last bs d (omega (arith, nl, se)))
    ∙ ap (set_at p (instr.Try handler)) (set_more _ body tail open_jump (instr.Jump end) (address d3) bs d cut q3)
    ∙ set_more _ [] (ce ++ (instr.EndTry ∷ instr.Jump end ∷ tail)) open_jump (instr.Try handler) p bs d back (omega arith)
