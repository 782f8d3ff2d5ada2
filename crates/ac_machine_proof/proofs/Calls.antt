-- The machine applies functions as the interpreter without brackets does.
use Rattle.std.proofs.Common.{◌≡◌, ℕ, zero, suc, ◌+◌, Bool, true, false, nat_lt, cond, List, [], ◌∷◌, ◌++◌, length, Option, Some, None, refl, sym, ap, ◌∙◌, subst, add-one}
use Rattle.std.specs.Prelude.{slice_get, pos}
use Rattle.ac_types.specs.Types.{Typ, TFun}
use Rattle.ac_terms.specs.Terms.{Home, Main, Expr, Lam, Rec}
use Rattle.ac_code.specs.Code as instr
use Rattle.ac_code.specs.Code.{Block}
use Rattle.ac_values.specs.Values.{MValue, MStr, MExnOf, MClosure, MEnd, MMore}
use Rattle.ac_values.specs.ValueReaders.{closure_in}
use Rattle.ac_machine_engine.specs.States.{CallFrame, Run, Paused, AskSpent, state_given}
use Rattle.ac_machine_engine.specs.Machine.{called}
use Rattle.ac_meaning.specs.Worlds.{World, counted}
use Rattle.ac_meaning.specs.BareTerms.{Bare, BInt, BApp, BareValue, WRec, bare_term}
use Rattle.ac_meaning.specs.BareReduction.{BareWritten, inst}
use Rattle.ac_meaning.proofs.Results.{Result, Spending, M}
use Rattle.ac_machine_proof.specs.Running.{Running}
use Rattle.ac_machine_meaning.specs.Stands.{closed, closure_of, stands, environment_values}
use Rattle.ac_machine_proof.proofs.Has.{AtHome, Stands, Has, HasFunction, GoodBlock}
use Rattle.ac_machine_meaning.specs.Valid.{IsThere, Valid, ValidEnv}
use Rattle.ac_meaning.proofs.BareEval.{no_more, calling, depth}
use Rattle.ac_machine_proof.proofs.EvalInst.{eval-inst}
use Rattle.ac_machine_proof.proofs.Lands.{Kept, Around, under, run, core, at, Right, once, same, Vars, after, spent_at, nothing_said, not_followed, before, run1}
use Rattle.ac_machine_proof.proofs.Stays.{stands_stays}
use Rattle.ac_machine_proof.proofs.Placing.{good}
use Rattle.ac_machine_proof.proofs.Follows.{Here, right_still}
use Rattle.ac_machine_proof.proofs.Runs.{runs}

module _ (N : ℕ) where
  abbrev frame_at : Around → ℕ → CallFrame
  frame_at r p = record { block = r.block; address = p; env = r.env; keeps = false }

  -- what is known of the applications inside an application
  record Inner (next' : Bare → Home → BareWritten → M BareValue) : Type 0 where
    moves : (t : Bare) (c : Home) (ws vs : BareWritten) (d : ℕ) → d ≡ length ws → next' (inst d vs t) c ws ≡ next' t c (ws ++ vs)
    senseless' : (c : Home) (ws : BareWritten) (z : World) (r : Around) (p : ℕ) (k : Kept) (s : Running) → Here N r p k s (next' (BApp (BInt (pos 0)) (BInt (pos 0))) c ws z)
    goes : (t : Expr) (c : Home) (G : List Typ) (vs : BareWritten) (r : Around) (q : ℕ) (k : Kept) (z : World) → AtHome k.code r.block c → Vars k G r.env vs → Has k.code c t G r.block 0 q → Right k z → Here N r q k (at N r 0 r.stack k z) (next' (bare_term c t) c vs z)

  module _ (next' : Bare → Home → BareWritten → M BareValue) (inside : Inner next') where
    -- an application is counted, if the budget allows it
    allowed : (t : Bool) (b : ℕ) (es : MValue) (r : Around) (p : ℕ) (st : List MValue) (k : Kept) (z : World) (d : Result BareValue) → Here N r p k (at N (under b es (frame_at r p) r) 0 r.stack k (counted z)) d →
        Here N r p k (run k (cond t (Run (core N (under b es (frame_at r p) r) 0 r.stack k (z.made + 1))) (Paused AskSpent (core N r p st k z.made))) z) (cond t d (Spending z))
    allowed true b es r p st k z d h = after N (same (ap (λ n. run k (Run (core N (under b es (frame_at r p) r) 0 r.stack k n)) z) (add-one z.made))) h
    allowed false b es r p st k z d h = spent_at N (once refl)

    -- the body of a function, and then its return
    body_runs : (t : Expr) (c : Home) (G : List Typ) (b : ℕ) (es : MValue) (vs : BareWritten) (q : ℕ) (r : Around) (p : ℕ) (k : Kept) (z : World) (d : Result BareValue) → AtHome k.code b c → Has k.code c t G b 0 q → Stands k.code b q instr.Return → Vars k G es vs → Right k z → next' (bare_term c t) c vs z ≡ d →
        Here N r p k (at N (under b es (frame_at r p) r) 0 r.stack k z) d
    body_runs t c G b es vs q r p k z d a h last v i e =
        before N {r = under b es (frame_at r p) r} {q = q} refl
        (subst (λ d. Here N (under b es (frame_at r p) r) q k (at N (under b es (frame_at r p) r) 0 r.stack k z) d) e (inside.goes t c G vs (under b es (frame_at r p) r) q k z a v h i))
        (λ x l z later. run1 N {r = record (under b es (frame_at r p) r) { stack = x ∷ r.stack }} (stands_stays k.code l.code later.ext _ _ _ last))

    -- the environment in which a function's block starts
    abbrev starts : Bool → ℕ → MValue → MValue → MValue
    starts f b es w = MMore w (cond f (MMore (MClosure b f es) es) es)

    -- what an application of the closure with this argument comes to
    abbrev Calls : Around → ℕ → List MValue → Kept → World → Bool → ℕ → MValue → MValue → Result BareValue → Type 0
    Calls r p st k z f b es w d = Here N r p k (run k (cond (nat_lt z.made N) (Run (core N (under b (starts f b es w) (frame_at r p) r) 0 r.stack k (z.made + 1))) (Paused AskSpent (core N r p st k z.made))) z) d

    -- one application, by the function that the closure's block was made from
    calls_made : (h : Home) (l : Option Expr) (G : List Typ) (f : Bool) (b : ℕ) (es w : MValue) (r : Around) (p : ℕ) (st : List MValue) (k : Kept) (z : World) → AtHome k.code b h → HasFunction k.code h l G b → stands k.code (MClosure b f es) ≡ closed h l G f (λ G. environment_values k.code es G) → ValidEnv k.code es → Valid k.code w → Right k z →
        Calls r p st k z f b es w (calling (closed h l G f (λ G. environment_values k.code es G)) N next' (stands k.code w) z)
    calls_made h (Some (Lam T e)) G false b es w r p st k z a good self v u i =
        let vs = environment_values k.code es G in
        let all : Vars k (T ∷ G) (MMore w es) ((T, stands k.code w) ∷ vs) = record { valid = (u, v); are = refl } in
        let moved : next' (bare_term h e) h ((T, stands k.code w) ∷ vs) (counted z) ≡ next' (inst 1 vs (bare_term h e)) h ((T, stands k.code w) ∷ []) (counted z) = sym (ap (λ m. m (counted z)) (inside.moves (bare_term h e) h ((T, stands k.code w) ∷ []) vs 1 refl)) in
        allowed (nat_lt z.made N) b (starts false b es w) r p st k z _ (body_runs e h (T ∷ G) b (starts false b es w) _ good.0 r p k (counted z) _ a good.1 good.2 all (right_still refl i) moved)
    calls_made h (Some (Rec T U e)) G true b es w r p st k z a good self v u i =
        let vs = environment_values k.code es G in
        let me = WRec h T U (inst 2 vs (bare_term h e)) in
        let ws : BareWritten = (T, stands k.code w) ∷ (TFun T U, stands k.code (MClosure b true es)) ∷ vs in
        let all : Vars k (T ∷ TFun T U ∷ G) (MMore w (MMore (MClosure b true es) es)) ws = record { valid = (u, ((subst IsThere (sym a.1) tt, v), v)); are = refl } in
        let moved : next' (bare_term h e) h ws (counted z) ≡ next' (inst 2 vs (bare_term h e)) h ((T, stands k.code w) ∷ (TFun T U, me) ∷ []) (counted z) =
        ap (λ s. next' (bare_term h e) h ((T, stands k.code w) ∷ (TFun T U, s) ∷ vs) (counted z)) self ∙ sym (ap (λ m. m (counted z)) (inside.moves (bare_term h e) h ((T, stands k.code w) ∷ (TFun T U, me) ∷ []) vs 2 refl)) in
        allowed (nat_lt z.made N) b (starts true b es w) r p st k z _ (body_runs e h (T ∷ TFun T U ∷ G) b (starts true b es w) ws good.0 r p k (counted z) _ a good.1 good.2 all (right_still refl i) moved)
    calls_made h (Some (Lam T e)) G true b es w r p st k z a good self v u i = allowed (nat_lt z.made N) b (starts true b es w) r p st k z _ (inside.senseless' Main _ (counted z) r p k _)
    calls_made h (Some (Rec T U e)) G false b es w r p st k z a good self v u i = allowed (nat_lt z.made N) b (starts false b es w) r p st k z _ (inside.senseless' Main _ (counted z) r p k _)
    calls_made h (Some _) G f b es w r p st k z a good self v u i = allowed (nat_lt z.made N) b (starts f b es w) r p st k z _ (inside.senseless' Main _ (counted z) r p k _)
    calls_made h None G f b es w r p st k z a good self v u i = allowed (nat_lt z.made N) b (starts f b es w) r p st k z _ (inside.senseless' Main _ (counted z) r p k _)

    calls_block : (o : Option Block) (f : Bool) (b : ℕ) (es w : MValue) (r : Around) (p : ℕ) (st : List MValue) (k : Kept) (z : World) → slice_get k.code.blocks b ≡ o → GoodBlock k.code o b → ValidEnv k.code es → Valid k.code w → Right k z →
        Calls r p st k z f b es w (calling (closure_of o f (λ G. environment_values k.code es G)) N next' (stands k.code w) z)
    calls_block None f b es w r p st k z e good v u i = allowed (nat_lt z.made N) b (starts f b es w) r p st k z _ (inside.senseless' Main _ (counted z) r p k _)
    calls_block (Some B) f b es w r p st k z e good v u i = calls_made B.home B.lambda B.context f b es w r p st k z (B, e, refl) good (ap (λ o. closure_of o f (λ G. environment_values k.code es G)) e) v u i

    calls_follow : (f w : MValue) (r : Around) (p : ℕ) (k : Kept) (z : World) → Valid k.code f → Valid k.code w → Right k z → Here N r p k (run k (state_given (closure_in f) (called w r.stack (core N r p (w ∷ f ∷ r.stack) k z.made))) z) (calling (stands k.code f) N next' (stands k.code w) z)
    calls_follow (MClosure b f es) w r p k z v u i = calls_block (slice_get k.code.blocks b) f b es w r p (w ∷ MClosure b f es ∷ r.stack) k z refl (good k.code i.placed.lambdas b) v.1 u i
    calls_follow (MExnOf n (MStr s)) w r p k z v u i = nothing_said N
    calls_follow (MExnOf n _) w r p k z v u i = absurd v
    calls_follow MEnd w r p k z v u i = absurd v
    calls_follow (MMore a b) w r p k z v u i = absurd v
    calls_follow _ w r p k z v u i = nothing_said N

  none_inner : Inner no_more
  none_inner = record {
    moves = λ t c ws vs d e. refl;
    senseless' = λ c ws z r p k s. not_followed N;
    goes = λ t c G vs r q k z a v h i. not_followed N;
  }

  depth_inner : (n : ℕ) → Inner (depth N n)
  depth_inner zero = record {
    moves = λ t c ws vs d e. eval-inst (λ v w. calling v N no_more w) t c ws vs d e;
    senseless' = λ c ws z r p k s. nothing_said N;
    goes = λ t c G vs r q k z a v h i. runs N (λ v w. calling v N no_more w) (calls_follow no_more none_inner) c t G vs r 0 q a v h i;
  }
  depth_inner (suc n) = record {
    moves = λ t c ws vs d e. eval-inst (λ v w. calling v N (depth N n) w) t c ws vs d e;
    senseless' = λ c ws z r p k s. nothing_said N;
    goes = λ t c G vs r q k z a v h i. runs N (λ v w. calling v N (depth N n) w) (calls_follow (depth N n) (depth_inner n)) c t G vs r 0 q a v h i;
  }

  -- the code of a block, where at most n applications stand inside one another
  pub machine_runs : (n : ℕ) (t : Expr) (c : Home) (G : List Typ) (vs : BareWritten) (r : Around) (q : ℕ) (k : Kept) (z : World) → AtHome k.code r.block c → Vars k G r.env vs → Has k.code c t G r.block 0 q → Right k z → Here N r q k (at N r 0 r.stack k z) (depth N n (bare_term c t) c vs z)
  machine_runs n = (depth_inner n).goes
