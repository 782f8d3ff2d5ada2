-- The machine follows the interpreter without brackets, construct by construct.
use Rattle.std.proofs.Common.{◌≡◌, ℕ, suc, true, false, List, [], ◌∷◌, ◌++◌, length, Option, Some, None, refl, sym, ap, subst}
use Rattle.std.specs.Prelude.{reverse}
use Rattle.ac_types.specs.Types.{Typ}
use Rattle.ac_terms.specs.Parts.{pattern_types}
use Rattle.ac_terms.specs.Spelling.{term_count}
use Rattle.ac_terms.specs.Terms.{Home, Expr, Int, Boolean, Str, Unit', Exn, ExnOf, Tuple, Nil, Empty, Present, Cons, Var, Own, Ref, Lam, Rec, App, Let, If, Seq, Match, Try, Raise, Prim, Marshal, Unmarshal, Val, Evaluated, Bracket, Exprs, no_exprs, expr, Arms, no_arms, arm}
use Rattle.ac_code.specs.Code as instr
use Rattle.ac_code.specs.Constants.{meaning}
use Rattle.ac_generate.specs.Sizes.{variable_count}
use Rattle.ac_values.specs.Values.{MValue, MInt, MBool, MStr, MUnit, MExn, MTuple, MNil, MCons, MAbsent, MPresent, MClosure, MMore}
use Rattle.ac_values.specs.ValueReaders.{closure_in, without}
use Rattle.ac_values.specs.Fits.{bound as binding}
use Rattle.ac_machine_engine.specs.States.{state_given}
use Rattle.ac_machine_engine.specs.Machine.{parts_of_value, exn_value, called, performs, tested}
use Rattle.ac_meaning.specs.Worlds.{Exception, World, match_failure_exn}
use Rattle.ac_meaning.specs.BareTerms.{BareValue, WExn, WTuple, WCons, WPresent, bare_value', bare_term, bare_all, bare_arms}
use Rattle.ac_meaning.specs.BareReduction.{BareWritten, slot_in, fit, primitive}
use Rattle.ac_meaning.proofs.Results.{M, give, raise, follow, lift}
use Rattle.ac_meaning.proofs.Eval.{answering, fitted}
use Rattle.ac_machine_meaning.specs.Stands.{stands, environment_values}
use Rattle.ac_machine_proof.proofs.Has.{AtHome, home_of, Stands, Has, HasAll, HasRest, HasArms}
use Rattle.ac_machine_meaning.specs.Valid.{Valid, ValidEnv}
use Rattle.ac_machine_proof.proofs.Shows.{exception_is, exception_valid, push_all}
use Rattle.ac_machine_meaning.proofs.Fits.{Fitted, fits}
use Rattle.ac_meaning.proofs.BareEval.{with_text, opened, found, branching, throws, constant, marshals, unmarshals, eval, eval_all, eval_rest, eval_arms}
use Rattle.ac_machine_proof.proofs.Lands.{Kept, and_later, Around, pushed, with_env, with_handler, run, core, at, Right, to_more, here, same, after, lands, raised_to, nothing_said, Vars, vars_later, before, seq, seq1, seq2, run1, next, raises_to}
use Rattle.ac_machine_proof.proofs.Stays.{home_stays, stands_stays, has_stays, all_stay, rest_stays, arms_stay, unbinds_stays}
use Rattle.ac_machine_proof.proofs.Arrives.{packs_value, unpacks_value}
use Rattle.ac_machine_proof.proofs.Follows.{Here, HereAll, one_more, loads_value, makes_plain, makes_all, texts, throws_value, branches, operates, handler_at, tried, drops, shut}
use Rattle.ac_machine_proof.proofs.Fields.{own_at, ref_runs, opened_runs}
use Rattle.ac_machine_proof.proofs.Packs.{value_runs}

module _ (N : ℕ) where
  -- after a test: the value is taken and its variables are bound, or the next arm is tried
  tests_on : (D G : List Typ) (r : Around) (end l p : ℕ) (w : MValue) (f : BareWritten → M BareValue) (m : M BareValue) {k : Kept} {z : World} (fo : Option BareWritten) (o : Option MValue) → Fitted k.code D G r.env fo o → Here N r end k (at N r l (w ∷ r.stack) k z) (m z) →
      ((es : MValue) → ValidEnv k.code es → without (length D) es ≡ Some r.env → Here N r end k (at N (with_env es r) p r.stack k z) (f (environment_values k.code es (reverse D ++ G)) z)) → Here N r end k (run k (tested l r.stack (core N r p (w ∷ r.stack) k z.made) o) z) (fitted fo f m z)
  tests_on D G r end l p w f m {k} {z} fo None e none some = subst (λ o. Here N r end k (at N r l (w ∷ r.stack) k z) (fitted o f m z)) (sym e) none
  tests_on D G r end l p w f m {k} {z} fo (Some es) e none some = subst (λ o. Here N r end k (at N (with_env es r) p r.stack k z) (fitted o f m z)) (sym e.0) (some es e.1 e.2)

  -- behind the arms of a handler the exception is raised again
  raises_again : (x : Exception) (r : Around) (end q : ℕ) {k : Kept} {z : World} → Stands k.code r.block q instr.Raise → Right k z → Here N r end k (at N r q (exn_value x.number x.text ∷ r.stack) k z) (raise x z)
  raises_again x r end q {k} {z} h i = subst (λ e. Here N r end k (at N r q (exn_value x.number x.text ∷ r.stack) k z) (throws e z)) (exception_is k.code x.number x.text) (after N (run1 N h) (throws_value N (exn_value x.number x.text) (suc q) (exception_valid k.code x.number x.text) i))

  -- a variable, by the values of the variables
  loads : (n : ℕ) (G : List Typ) (vs : BareWritten) (r : Around) (p q : ℕ) {k : Kept} {z : World} → Vars k G r.env vs → Stands k.code r.block p (instr.Var n) → q ≡ suc p → Right k z → Here N r q k (at N r p r.stack k z) (found (slot_in vs n) z)
  loads n G vs r p q {k} {z} v h e i = subst (λ ws. Here N r q k (at N r p r.stack k z) (found (slot_in ws n) z)) v.are (next N h e (loads_value N n r.env G v.valid i))

  -- the variables of these, where one more is bound
  bound_vars : {k : Kept} {G : List Typ} (T : Typ) (x es : MValue) {vs : BareWritten} → Valid k.code x → Vars k G es vs → Vars k (T ∷ G) (MMore x es) ((T, stands k.code x) ∷ vs)
  bound_vars {k} T x es w v = record { valid = (w, v.valid); are = ap (λ ws. (T, stands k.code x) ∷ ws) v.are }

  module _ (call : BareValue → BareValue → M BareValue) (calls : (f w : MValue) (r : Around) (p : ℕ) (k : Kept) (z : World) → Valid k.code f → Valid k.code w → Right k z → Here N r p k (run k (state_given (closure_in f) (called w r.stack (core N r p (w ∷ f ∷ r.stack) k z.made))) z) (call (stands k.code f) (stands k.code w) z)) where
    module _ (c : Home) where
      mutual
        -- the code of a term in a block comes to what the interpreter says of the term
        pub runs : (t : Expr) (G : List Typ) (vs : BareWritten) (r : Around) (p q : ℕ) {k : Kept} {z : World} → AtHome k.code r.block c → Vars k G r.env vs → Has k.code c t G r.block p q → Right k z → Here N r q k (at N r p r.stack k z) (eval (bare_term c t) call c vs z)
        runs (Int n) G vs r p q a v h i = next N h.0 h.1 (lands N (MInt n) (tt, refl) i here)
        runs (Boolean b) G vs r p q a v h i = next N h.0 h.1 (lands N (MBool b) (tt, refl) i here)
        runs (Str s) G vs r p q a v h i = next N h.0 h.1 (lands N (MStr s) (tt, refl) i here)
        runs Unit' G vs r p q a v h i = next N h.0 h.1 (lands N MUnit (tt, refl) i here)
        runs (Exn n) G vs r p q a v h i = next N h.1 h.2 (lands N (MExn n) (tt, refl) i (makes_plain N n h.0))
        runs (ExnOf n t) G vs r p q {k} {z} a v h i = seq1 N (λ v. lift (with_text n v)) refl (runs t G vs r p h.0 a v h.2 i) (λ x l z later w i. next N (stands_stays k.code l.code later.ext _ _ _ h.3) h.4 (texts N n x h.1 w i))
        runs (Tuple ts) G vs r p q {k} {z} a v h i = seq N (λ vs. give (WTuple vs)) refl (runs_all ts G vs r p h.0 a v h.1 i) (λ xs ws l z later w i. next N (stands_stays k.code l.code later.ext _ _ _ h.2) h.3 (lands N (MTuple (parts_of_value xs)) (w.0, ap WTuple w.1) i (makes_all N xs (term_count ts) w.2)))
        runs (Nil T) G vs r p q a v h i = next N h.0 h.1 (lands N MNil (tt, refl) i here)
        runs (Empty T) G vs r p q a v h i = next N h.0 h.1 (lands N MAbsent (tt, refl) i here)
        runs (Present t) G vs r p q {k} {z} a v h i = seq1 N (λ v. give (WPresent v)) refl (runs t G vs r p h.0 a v h.1 i) (λ x l z later w i. next N (stands_stays k.code l.code later.ext _ _ _ h.2) h.3 (lands N (MPresent x) (w, refl) i here))
        runs (Cons t u) G vs r p q {k} {z} a v h i =
            seq2 N (eval (bare_term c u) call c vs) (λ v w. give (WCons v w)) (runs t G vs r p h.0 a v h.2 i) (λ x l z later i. runs u G vs (pushed x r) h.0 h.1 (home_stays k.code l.code later.ext _ _ a) (vars_later r.env later v) (has_stays k.code l.code later.ext c u _ _ _ _ h.3) i)
            (λ x y l z later w u i. next N (stands_stays k.code l.code later.ext _ _ _ h.4) h.5 (lands N (MCons x y) ((w, u), refl) i here))
        runs (Var n) G vs r p q a v h i = loads n G vs r p q v h.0 h.1 i
        runs (Own f) G vs r p q {k} {z} a v h i = next N h.0 h.1 (own_at N z (opened z.environment) (opened_runs N z) c f a i)
        runs (Ref j x) G vs r p q {k} {z} a v h i = next N h.0 h.1 (ref_runs N z (opened z.environment) (opened_runs N z) j x i)
        runs (Lam T t) G vs r p q a v h i = next N h.1 h.3 (lands N (MClosure h.0 false r.env) (shut N c G (Lam T t) h.0 h.2 false r.env v) i here)
        runs (Rec T U t) G vs r p q a v h i = next N h.1 h.3 (lands N (MClosure h.0 true r.env) (shut N c G (Rec T U t) h.0 h.2 true r.env v) i here)
        runs (App t u) G vs r p q {k} {z} a v h i =
            seq2 N (eval (bare_term c u) call c vs) call (runs t G vs r p h.0 a v h.2 i) (λ x l z later i. runs u G vs (pushed x r) h.0 h.1 (home_stays k.code l.code later.ext _ _ a) (vars_later r.env later v) (has_stays k.code l.code later.ext c u _ _ _ _ h.3) i)
            (λ x y l z later w u i. next N (stands_stays k.code l.code later.ext _ _ _ h.4) h.5 (calls x y r (suc h.1) l z w u i))
        runs (Let T t u) G vs r p q {k} {z} a v h i =
            seq1 N (λ w. eval (bare_term c u) call c ((T, w) ∷ vs)) refl (runs t G vs r p h.0 a v h.2 i)
            (λ x l z later w i. after N (run1 N (stands_stays k.code l.code later.ext _ _ _ h.3)) (before N refl (runs u (T ∷ G) ((T, stands l.code x) ∷ vs) (with_env (MMore x r.env) r) (suc h.0) h.1 (home_stays k.code l.code later.ext _ _ a) (bound_vars T x r.env w (vars_later r.env later v)) (has_stays k.code l.code later.ext c u _ _ _ _ h.4) i)
            (λ y m z more. to_more (run1 N (stands_stays k.code m.code (and_later later more).ext _ _ _ h.5)) (same (ap (λ q. at N r q (y ∷ r.stack) m z) (sym h.6))))))
        runs (If t u s) G vs r p q {k} {z} a v h i =
            seq1 N (λ w. branching w (eval (bare_term c u) call c vs) (eval (bare_term c s) call c vs)) refl (runs t G vs r p h.0 a v h.2 i)
            (λ x l z later w i. after N (run1 N (stands_stays k.code l.code later.ext _ _ _ h.3)) (branches N x (eval (bare_term c u) call c vs) (eval (bare_term c s) call c vs)
            (before N refl (runs u G vs r (suc h.0) h.1 (home_stays k.code l.code later.ext _ _ a) (vars_later r.env later v) (has_stays k.code l.code later.ext c u _ _ _ _ h.4) i) (λ y m z more. run1 N (stands_stays k.code m.code (and_later later more).ext _ _ _ h.5)))
            (runs s G vs r (suc h.1) q (home_stays k.code l.code later.ext _ _ a) (vars_later r.env later v) (has_stays k.code l.code later.ext c s _ _ _ _ h.6) i)))
        runs (Seq no_exprs) G vs r p q a v h i = nothing_said N
        runs (Seq (expr t ts)) G vs r p q {k} {z} a v h i =
            seq1 N (λ w. eval_rest (bare_all c ts) call c vs w) refl (runs t G vs r p h.0 a v h.1 i) (λ x l z later w i. runs_rest ts G vs r h.0 q (home_stays k.code l.code later.ext _ _ a) (vars_later r.env later v) (rest_stays k.code l.code later.ext c ts _ _ _ _ h.2) x w i)
        runs (Match t arms) G vs r p q {k} {z} a v h i =
            seq1 N (λ w. eval_arms (bare_arms c arms) call c vs w (raise match_failure_exn)) refl (runs t G vs r p h.0 a v h.2 i)
            (λ x l z later w i. runs_arms arms G vs r q h.0 h.1 (home_stays k.code l.code later.ext _ _ a) (vars_later r.env later v) (arms_stay k.code l.code later.ext c q arms _ _ _ _ h.3) x w (raise match_failure_exn)
            (raised_to N i (to_more (run1 N (stands_stays k.code l.code later.ext _ _ _ h.4)) (raises_to N match_failure_exn r (suc h.1) (x ∷ r.stack) l z))) i)
        runs (Try t arms) G vs r p q {k} {z} a v h i =
            tried N (eval (bare_term c t) call c vs z) (λ x. eval_arms (bare_arms c arms) call c vs (WExn x.number x.text) (raise x))
            (after N (run1 N h.3) (runs t G vs (with_handler (handler_at N r h.0) r) (suc p) h.1 a v h.4 i)) (λ y l z later. to_more (run1 N (stands_stays k.code l.code later.ext _ _ _ h.5)) (run1 N (stands_stays k.code l.code later.ext _ _ _ h.6)))
            (λ x l z later i. subst (λ e. Here N r q l (at N r h.0 (exn_value x.number x.text ∷ r.stack) l z) (eval_arms (bare_arms c arms) call c vs e (raise x) z)) (exception_is l.code x.number x.text)
            (runs_arms arms G vs r q h.0 h.2 (home_stays k.code l.code later.ext _ _ a) (vars_later r.env later v) (arms_stay k.code l.code later.ext c q arms _ _ _ _ h.7) (exn_value x.number x.text) (exception_valid l.code x.number x.text) (raise x) (raises_again x r q h.2 (stands_stays k.code l.code later.ext _ _ _ h.8) i) i))
        runs (Raise T t) G vs r p q {k} {z} a v h i = seq1 N throws refl (runs t G vs r p h.0 a v h.1 i) (λ x l z later w i. after N (run1 N (stands_stays k.code l.code later.ext _ _ _ h.2)) (throws_value N x (suc h.0) w i))
        runs (Prim n ts) G vs r p q {k} {z} a v h i =
            seq N (λ vs. answering constant (primitive n vs)) refl (runs_all ts G vs r p h.0 a v h.1 i)
            (λ xs ws l z later w i. next N (stands_stays k.code l.code later.ext _ _ _ h.2) h.3 (subst (λ ws. Here N r (suc h.0) l (run l (state_given (meaning n) (λ m. performs m (core N r (suc h.0) (push_all xs r.stack) l z.made))) z) (answering constant (primitive n ws) z)) w.1 (operates N (meaning n) xs i)))
        runs (Marshal T t u) G vs r p q {k} {z} a v h i =
            seq2 N (eval (bare_term c u) call c vs) (λ v w. marshals T v w) (runs t G vs r p h.0 a v h.2 i) (λ x l z later i. runs u G vs (pushed x r) h.0 h.1 (home_stays k.code l.code later.ext _ _ a) (vars_later r.env later v) (has_stays k.code l.code later.ext c u _ _ _ _ h.3) i)
            (λ x y l z later w u i. next N (stands_stays k.code l.code later.ext _ _ _ h.4) h.5 (packs_value N T (home_of l.code r.block) x y w i))
        runs (Unmarshal T t) G vs r p q {k} {z} a v h i = seq1 N (λ w. unmarshals c T w) refl (runs t G vs r p h.0 a v h.1 i) (λ x l z later w i. next N (stands_stays k.code l.code later.ext _ _ _ h.2) h.3 (unpacks_value N T c x w i))
        runs (Val T w) G vs r p q a v h i = value_runs N w r p q h i
        runs (Evaluated T w) G vs r p q a v h i = absurd h
        runs (Bracket b T t) G vs r p q a v h i = absurd h

        runs_all : (ts : Exprs) (G : List Typ) (vs : BareWritten) (r : Around) (p q : ℕ) {k : Kept} {z : World} → AtHome k.code r.block c → Vars k G r.env vs → HasAll k.code c ts G r.block p q → Right k z → HereAll N (term_count ts) r q k (at N r p r.stack k z) (eval_all (bare_all c ts) call c vs z)
        runs_all no_exprs G vs r p q {k} {z} a v h i = lands N [] (tt, refl, refl) i (same (ap (λ s. at N r s r.stack k z) (sym h)))
        runs_all (expr t ts) G vs r p q {k} {z} a v h i =
            seq1 N (λ w. follow (eval_all (bare_all c ts) call c vs) (λ ws. give (bare_value' w ws))) refl (runs t G vs r p h.0 a v h.1 i)
            (λ x l z later w i. seq N (λ ws. give (bare_value' (stands l.code x) ws)) refl (runs_all ts G vs (pushed x r) h.0 q (home_stays k.code l.code later.ext _ _ a) (vars_later r.env later v) (all_stay k.code l.code later.ext c ts _ _ _ _ h.2) i)
            (λ xs ws m z more u i. lands N (x ∷ xs) (one_more N x xs ws more w u) i here))

        -- the parts of a sequence, where a part before has the value x
        runs_rest : (ts : Exprs) (G : List Typ) (vs : BareWritten) (r : Around) (p q : ℕ) {k : Kept} {z : World} → AtHome k.code r.block c → Vars k G r.env vs → HasRest k.code c ts G r.block p q → (x : MValue) → Valid k.code x → Right k z → Here N r q k (at N r p (x ∷ r.stack) k z) (eval_rest (bare_all c ts) call c vs (stands k.code x) z)
        runs_rest no_exprs G vs r p q {k} {z} a v h x w i = lands N x (w, refl) i (same (ap (λ s. at N r s (x ∷ r.stack) k z) (sym h)))
        runs_rest (expr t ts) G vs r p q {k} {z} a v h x w i =
            after N (run1 N h.1) (seq1 N (λ w. eval_rest (bare_all c ts) call c vs w) refl (runs t G vs r (suc p) h.0 a v h.2 i) (λ y l z later u i. runs_rest ts G vs r h.0 q (home_stays k.code l.code later.ext _ _ a) (vars_later r.env later v) (rest_stays k.code l.code later.ext c ts _ _ _ _ h.3) y u i))

        -- the arms of a match or a handler, on a value; what follows where none fits stands behind them
        runs_arms : (arms : Arms) (G : List Typ) (vs : BareWritten) (r : Around) (end p q : ℕ) {k : Kept} {z : World} → AtHome k.code r.block c → Vars k G r.env vs → HasArms k.code c end arms G r.block p q → (w : MValue) → Valid k.code w → (m : M BareValue) → Here N r end k (at N r q (w ∷ r.stack) k z) (m z) →
            Right k z → Here N r end k (at N r p (w ∷ r.stack) k z) (eval_arms (bare_arms c arms) call c vs (stands k.code w) m z)
        runs_arms no_arms G vs r end p q {k} {z} a v h w u m last i = after N (same (ap (λ s. at N r s (w ∷ r.stack) k z) (sym h))) last
        runs_arms (arm t b rest) G vs r end p q {k} {z} a v h w u m last i =
            after N (run1 N h.3)
            (tests_on (pattern_types t) G r end h.0 (suc p) w (eval (bare_term c b) call c) (eval_arms (bare_arms c rest) call c vs (stands k.code w) m) (fit t (stands k.code w) vs) (binding t w r.env) (subst (λ ws. Fitted k.code (pattern_types t) G r.env (fit t (stands k.code w) ws) (binding t w r.env)) v.are (fits k.code t w G r.env u v.valid))
            (runs_arms rest G vs r end h.0 q a v h.7 w u m last i)
            (λ es e d. before N refl (runs b (reverse (pattern_types t) ++ G) (environment_values k.code es (reverse (pattern_types t) ++ G)) (with_env es r) (suc p) h.1 a (record { valid = e; are = refl }) h.4 i) (λ y l z later. to_more (drops N (variable_count t) r es (y ∷ r.stack) l z (unbinds_stays k.code l.code later.ext _ _ _ _ h.5) d) (run1 N (stands_stays k.code l.code later.ext _ _ _ h.6)))))
