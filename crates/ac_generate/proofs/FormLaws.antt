-- The reading of forms of terms, where their parts are known by equations.
use Rattle.std.proofs.Common.{◌≡◌, ◌∙◌, ap, sym, List, map}
use Rattle.ac_types.specs.ReadTypes.{typ_of}
use Rattle.ac_types.specs.declared.ty.Ty.{Ty}
use Rattle.ac_terms.specs.declared.term.Term.{Term}
use Rattle.ac_terms.specs.declared.term.Term.TheVariants as term
use Rattle.ac_terms.specs.declared.term.Arm.{Arm}
use Rattle.ac_terms.specs.Terms.{Lam, Rec, If, Match, Try, arms}
use Rattle.ac_terms.specs.Read.{expr_of, arm_of}
use Rattle.ac_terms.proofs.TermForms.{expr_of-Lam, expr_of-Rec, expr_of-If, expr_of-Match, expr_of-Try}

pub lam_is : (e : Term) (t : Ty) (b b' : Term) → e ≡ term.Lam t b → b' ≡ b → expr_of e ≡ Lam (typ_of t) (expr_of b')
lam_is e t b b' is h = ap expr_of is ∙ expr_of-Lam t b ∙ ap (λ x. Lam (typ_of t) (expr_of x)) (sym h)

pub rec_is : (e : Term) (t u : Ty) (b b' : Term) → e ≡ term.Rec t u b → b' ≡ b → expr_of e ≡ Rec (typ_of t) (typ_of u) (expr_of b')
rec_is e t u b b' is h = ap expr_of is ∙ expr_of-Rec t u b ∙ ap (λ x. Rec (typ_of t) (typ_of u) (expr_of x)) (sym h)

pub if_is : (e c a b c' a' b' : Term) → e ≡ term.If c a b → c' ≡ c → a' ≡ a → b' ≡ b → expr_of e ≡ If (expr_of c') (expr_of a') (expr_of b')
if_is e c a b c' a' b' is hc ha hb =
    ap expr_of is ∙ expr_of-If c a b ∙ ap (λ x. If (expr_of x) (expr_of a) (expr_of b)) (sym hc) ∙ ap (λ x. If (expr_of c') (expr_of x) (expr_of b)) (sym ha) ∙ ap (λ x. If (expr_of c') (expr_of a') (expr_of x)) (sym hb)

pub match_is : (e a a' : Term) (cases cases' : List Arm) → e ≡ term.Match a cases → a' ≡ a → cases' ≡ cases → expr_of e ≡ Match (expr_of a') (arms (map arm_of cases'))
match_is e a a' cases cases' is ha hc = ap expr_of is ∙ expr_of-Match a cases ∙ ap (λ x. Match (expr_of x) (arms (map arm_of cases))) (sym ha) ∙ ap (λ xs. Match (expr_of a') (arms (map arm_of xs))) (sym hc)

pub try_is : (e a a' : Term) (cases cases' : List Arm) → e ≡ term.Try a cases → a' ≡ a → cases' ≡ cases → expr_of e ≡ Try (expr_of a') (arms (map arm_of cases'))
try_is e a a' cases cases' is ha hc = ap expr_of is ∙ expr_of-Try a cases ∙ ap (λ x. Try (expr_of x) (arms (map arm_of cases))) (sym ha) ∙ ap (λ xs. Try (expr_of a') (arms (map arm_of xs))) (sym hc)
