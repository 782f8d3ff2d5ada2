-- Runs of the reduction without brackets, computed.
use Rattle.std.proofs.Common.{◌≡◌, refl}
use Rattle.std.specs.Int.{int_wrap}
use Rattle.std.specs.Fmt.{digits}
use Rattle.std.specs.Prelude.{ℕ, pos, false, [], ◌∷◌, codes}
use Rattle.ac_types.specs.Types.{TInt}
use Rattle.ac_terms.specs.Terms.{Main, In, Expr, App, Ref}
use Rattle.ac_terms.specs.Defs.{Environment}
use Rattle.ac_rules.proofs.Samples.{one_entry, made}
use Rattle.ac_meaning.specs.Worlds.{fresh}
use Rattle.ac_meaning.specs.Acts.{State, At, Over, Returned, Spent, iter}
use Rattle.ac_meaning.specs.BareTerms.{Bare, BareValue, bare_term, BVar, BApp, BOwn, WInt, WUnit, WLam}
use Rattle.ac_meaning.specs.BareReduction.{step}
use Rattle.ac_meaning.proofs.Programs.{number, printed_by, has_printed, made_by, two_entries, countdown}
use Rattle.ac_meaning.proofs.RunExamples.{receives_twice}

abbrev bare_steps : ℕ → Environment → Expr → ℕ → State Bare BareValue
bare_steps k E e N = iter (step N) k (At (bare_term Main e) (fresh E [] false))

pub counts_alike : bare_steps 60 [] (countdown 3) 3 ≡ Over (Returned WUnit (printed_by (codes "a" ∷ codes "0" ∷ []) 3))
unfolding int_wrap digits
counts_alike = refl

pub spends_alike : bare_steps 60 [] (countdown 3) 2 ≡ Over (Spent (printed_by (codes "a" ∷ []) 2))
unfolding int_wrap
spends_alike = refl

-- what the module C makes has no seal
pub a_number : bare_steps 30 one_entry made 1 ≡ Over (Returned (WInt (pos 5)) (made_by one_entry 1))
unfolding int_wrap
a_number = refl

-- a function of C says its home, through an import of C by version too
pub a_function_of_c : bare_steps 9 two_entries (Ref 1 (codes "get")) 0 ≡ Over (Returned (WLam (In 0) TInt (BApp (BOwn 0) (BVar 0))) (made_by two_entries 0))
a_function_of_c = refl

pub through_an_import : bare_steps 60 two_entries (App (Ref 1 (codes "get")) (App (Ref 1 (codes "make")) (number 4))) 3 ≡ Over (Returned (WInt (pos 6)) (made_by two_entries 3))
unfolding int_wrap
through_an_import = refl

-- the receives of a run, of which the second finds the end
pub receives_alike :
    iter (step 0) 30 (At (bare_term Main receives_twice) (fresh [] (0 ∷ 0 ∷ 0 ∷ 2 ∷ 104 ∷ 105 ∷ []) false)) ≡
    Over (Returned WUnit (record (printed_by (codes "a" ∷ codes "hi" ∷ codes "." ∷ []) 0) { receives = has_printed (codes "a" ∷ []) ∷ has_printed (codes "a" ∷ codes "hi" ∷ []) ∷ [] }))
receives_alike = refl
