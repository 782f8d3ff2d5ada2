-- The machine builds packed values.
use Rattle.std.proofs.Common.{◌≡◌, ℕ, zero, suc, true, false, List, [], ◌∷◌, length, Some, None, arith, refl, sym, ap, ◌∙◌, subst}
use Rattle.ac_terms.specs.Spelling.{value_count}
use Rattle.ac_terms.specs.Terms.{Lam, Rec, PValue, KInt, KBool, KStr, KUnit, KExn, KTuple, KList, KAbsent, KPresent, KFun, PValues, no_pvalues, pvalue}
use Rattle.ac_code.specs.Code as instr
use Rattle.ac_code.specs.Code.{Code}
use Rattle.ac_values.specs.Values.{MValue, MInt, MBool, MStr, MUnit, MExn, MExnOf, MTuple, MNil, MCons, MAbsent, MPresent, MClosure, MEnd}
use Rattle.ac_machine_engine.specs.Machine.{parts_of_value}
use Rattle.ac_meaning.specs.Worlds.{World}
use Rattle.ac_meaning.specs.BareTerms.{BareValue, WTuple, WNil, WCons, WPresent, WLam, WRec, BareValues, no_bare_values, bare_value', bare_term, unpacked, all_unpacked, unpacked_list}
use Rattle.ac_meaning.proofs.Results.{Fine, give}
use Rattle.ac_machine_meaning.specs.Stands.{stands, all_stand}
use Rattle.ac_machine_proof.proofs.Has.{Stands, HasConses, HasValue, HasValues}
use Rattle.ac_machine_meaning.specs.Valid.{Valid, AllValid}
use Rattle.ac_machine_proof.proofs.Shows.{push_all}
use Rattle.ac_meaning.proofs.BareInst.{inst_none}
use Rattle.ac_machine_proof.proofs.Lands.{Kept, Around, pushed, at, Right, To, to_more, here, same, after, lands, seq, seq1, Vars, run1, next}
use Rattle.ac_machine_proof.proofs.Stays.{stands_stays, conses_stay, values_stay}
use Rattle.ac_machine_proof.proofs.Follows.{Here, HereAll, one_more, makes_plain, makes_all, makes_text, shut}

module _ (N : ℕ) where
  -- a list of some values
  abbrev conses : List MValue → MValue → MValue
  conses [] l = l
  conses (x ∷ xs) l = MCons x (conses xs l)

  conses_valid : (K : Code) (xs : List MValue) → AllValid K (parts_of_value xs) → Valid K (conses xs MNil)
  conses_valid K [] v = tt
  conses_valid K (x ∷ xs) v = (v.0, conses_valid K xs v.1)

  abbrev list_of : BareValues → BareValue
  list_of no_bare_values = WNil
  list_of (bare_value' v vs) = WCons v (list_of vs)

  list_unpacked : (vs : PValues) → list_of (all_unpacked vs) ≡ unpacked_list vs
  list_unpacked no_pvalues = refl
  list_unpacked (pvalue v vs) = ap (WCons (unpacked v)) (list_unpacked vs)

  conses_are : (K : Code) (xs : List MValue) → stands K (conses xs MNil) ≡ list_of (all_stand K (parts_of_value xs))
  conses_are K [] = refl
  conses_are K (x ∷ xs) = ap (WCons (stands K x)) (conses_are K xs)

  last_cons : (K : Code) (n b p q : ℕ) → HasConses K (suc n) b p q → (r : ℕ) × HasConses K n b p r × Stands K b r instr.MakeCons × (q ≡ suc r)
  last_cons K zero b p q h = (p, refl, h.0, h.1)
  last_cons K (suc n) b p q h = let d = last_cons K n b (suc p) q h.1 in (d.0, (h.0, d.1), d.2, d.3)

  -- the newest values become the list's items, from the last
  makes_conses : (xs : List MValue) (n : ℕ) → length xs ≡ n → (l : MValue) (r : Around) (p q : ℕ) (k : Kept) (z : World) → HasConses k.code n r.block p q → To (at N r p (l ∷ push_all xs r.stack) k z) (at N r q (conses xs l ∷ r.stack) k z)
  makes_conses [] zero e l r p q k z h = same (ap (λ s. at N r s (l ∷ r.stack) k z) (sym h))
  makes_conses [] (suc n) e l r p q k z h = absurd (omega (arith, e))
  makes_conses (x ∷ xs) zero e l r p q k z h = absurd (omega (arith, e))
  makes_conses (x ∷ xs) (suc n) e l r p q k z h =
      let d = last_cons k.code n r.block p q h in
      to_more (makes_conses xs n (omega (arith, e)) l (pushed x r) p d.0 k z d.1) (to_more (run1 N d.2) (same (ap (λ s. at N r s (MCons x (conses xs l) ∷ r.stack) k z) (sym d.3))))

  mutual
    pub value_runs : (v : PValue) (r : Around) (p q : ℕ) {k : Kept} {z : World} → HasValue k.code v r.block p q → Right k z → Here N r q k (at N r p r.stack k z) (Fine (unpacked v) z)
    value_runs (KInt n) r p q h i = next N h.0 h.1 (lands N (MInt n) (tt, refl) i here)
    value_runs (KBool b) r p q h i = next N h.0 h.1 (lands N (MBool b) (tt, refl) i here)
    value_runs (KStr s) r p q h i = next N h.0 h.1 (lands N (MStr s) (tt, refl) i here)
    value_runs KUnit r p q h i = next N h.0 h.1 (lands N MUnit (tt, refl) i here)
    value_runs (KExn n None) r p q {k} {z} h i = after N (same (ap (λ s. at N r s r.stack k z) (sym h.1))) (next N h.3 h.4 (lands N (MExn n) (tt, refl) i (makes_plain N n h.2)))
    value_runs (KExn n (Some s)) r p q {k} {z} h i =
        after N (run1 N h.1.0) (after N (same (ap (λ t. at N r t (MStr s ∷ r.stack) k z) (sym h.1.1))) (next N h.3 h.4 (lands N (MExnOf n (MStr s)) (tt, refl) i (makes_text N n s h.2))))
    value_runs (KTuple vs) r p q {k} {z} h i =
        seq N (λ ws. give (WTuple ws)) refl (values_run vs r p h.0 h.1 i)
        (λ xs ws l z later w i. next N (stands_stays k.code l.code later.ext _ _ _ h.2) h.3 (lands N (MTuple (parts_of_value xs)) (w.0, ap WTuple w.1) i (makes_all N xs (value_count vs) w.2)))
    value_runs (KList vs) r p q {k} {z} h i =
        subst (λ v. Here N r q k (at N r p r.stack k z) (Fine v z)) (list_unpacked vs)
        (seq N (λ ws. give (list_of ws)) refl (values_run vs r p h.0 h.1 i)
        (λ xs ws l z later w i. after N (run1 N (stands_stays k.code l.code later.ext _ _ _ h.2)) (lands N (conses xs MNil) (conses_valid l.code xs w.0, conses_are l.code xs ∙ ap list_of w.1) i (makes_conses xs (value_count vs) w.2 MNil r (suc h.0) q l z (conses_stay k.code l.code later.ext _ _ _ _ h.3)))))
    value_runs KAbsent r p q h i = next N h.0 h.1 (lands N MAbsent (tt, refl) i here)
    value_runs (KPresent v) r p q {k} {z} h i = seq1 N (λ w. give (WPresent w)) refl (value_runs v r p h.0 h.1 i) (λ x l z later w i. next N (stands_stays k.code l.code later.ext _ _ _ h.2) h.3 (lands N (MPresent x) (w, refl) i here))
    value_runs (KFun c (Lam T t)) r p q {k} {z} h i =
        let none : Vars k [] MEnd [] = record { valid = tt; are = refl } in
        let d = shut N c [] (Lam T t) h.0 h.2 false MEnd none in
        next N h.1 h.3 (lands N (MClosure h.0 false MEnd) (d.0, d.1 ∙ ap (WLam c T) (inst_none (bare_term c t) 1)) i here)
    value_runs (KFun c (Rec T U t)) r p q {k} {z} h i =
        let none : Vars k [] MEnd [] = record { valid = tt; are = refl } in
        let d = shut N c [] (Rec T U t) h.0 h.2 true MEnd none in
        next N h.1 h.3 (lands N (MClosure h.0 true MEnd) (d.0, d.1 ∙ ap (WRec c T U) (inst_none (bare_term c t) 2)) i here)
    value_runs (KFun c _) r p q h i = absurd h

    values_run : (vs : PValues) (r : Around) (p q : ℕ) {k : Kept} {z : World} → HasValues k.code vs r.block p q → Right k z → HereAll N (value_count vs) r q k (at N r p r.stack k z) (Fine (all_unpacked vs) z)
    values_run no_pvalues r p q {k} {z} h i = lands N [] (tt, refl, refl) i (same (ap (λ s. at N r s r.stack k z) (sym h)))
    values_run (pvalue v vs) r p q {k} {z} h i =
        seq1 N (λ w. give (bare_value' w (all_unpacked vs))) refl (value_runs v r p h.0 h.1 i)
        (λ x l z later w i.
        seq N (λ ws. give (bare_value' (stands l.code x) ws)) refl (values_run vs (pushed x r) h.0 q (values_stay k.code l.code later.ext _ _ _ _ h.2) i)
        (λ xs ws m z more u i. lands N (x ∷ xs) (one_more N x xs ws more w u) i here))
