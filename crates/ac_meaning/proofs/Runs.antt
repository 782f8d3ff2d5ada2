-- Runs of steps.
use Rattle.std.proofs.Common.{◌≡◌, ℕ, zero, suc, ◌+◌, ◌≤◌, refl, sym, ap, ◌∙◌, arith, ⊎_elim}
use Rattle.std.proofs.lemmas.Bool.{cases_lt}
use Rattle.ac_types.specs.Types.{Bytes}
use Rattle.ac_terms.specs.Terms.{Expr, Value}
use Rattle.ac_terms.specs.Defs.{Environment}
use Rattle.ac_rules.specs.Views.{Mode}
use Rattle.std.specs.Prelude.{Bool}
use Rattle.ac_meaning.specs.Worlds.{fresh}
use Rattle.ac_meaning.specs.Acts.{Outcome, At, Over, iter, Leads}
use Rattle.ac_meaning.specs.Reduction.{step, Ends}

pub iter-plus : {S : Type 0} (f : S → S) (j k : ℕ) (s : S) → iter f (j + k) s ≡ iter f k (iter f j s)
iter-plus f zero k s = let e : 0 + k ≡ k = omega arith in ap (λ n. iter f n s) e
iter-plus f (suc j) k s = let e : suc j + k ≡ suc (j + k) = omega arith in ap (λ n. iter f n s) e ∙ iter-plus f j k (f s)

pub iter_still : {S : Type 0} (f : S → S) (k : ℕ) (s : S) → f s ≡ s → iter f k s ≡ s
iter_still f zero s h = refl
iter_still f (suc k) s h = ap (iter f k) h ∙ iter_still f k s h

pub leads_on : {S : Type 0} (f : S → S) (s t u : S) → Leads f s t → Leads f t u → Leads f s u
leads_on f s t u p q = (p.0 + q.0, iter-plus f p.0 q.0 s ∙ ap (iter f q.0) p.1 ∙ q.1)

-- two states of one run that stand still are the same
iter_same : {S : Type 0} (f : S → S) (s t u : S) → f t ≡ t → (j k : ℕ) → j ≤ k → iter f j s ≡ t → iter f k s ≡ u → t ≡ u
iter_same f s t u still zero k le e h = sym (iter_still f k t still) ∙ ap (iter f k) (sym e) ∙ h
iter_same f s t u still (suc j) zero le e h = absurd (omega arith)
iter_same f s t u still (suc j) (suc k) le e h = iter_same f (f s) t u still j k (omega arith) e h

pub leads_same : {S : Type 0} (f : S → S) (s t u : S) → f t ≡ t → f u ≡ u → Leads f s t → Leads f s u → t ≡ u
leads_same f s t u p q a b = ⊎_elim (λ lt. iter_same f s t u p a.0 b.0 (omega arith) a.1 b.1) (λ ge. sym (iter_same f s u t q b.0 a.0 ge b.1 a.1)) (cases_lt a.0 b.0)

pub one_end : (mode : Mode) (E : Environment) (e : Expr) (input : Bytes) (sends : Bool) (N : ℕ) (o p : Outcome Value) → Ends mode E e input sends N o → Ends mode E e input sends N p → o ≡ p
one_end mode E e input sends N o p a b = let same = leads_same (step mode N) (At e (fresh E input sends)) (Over o) (Over p) refl refl a b in cc
