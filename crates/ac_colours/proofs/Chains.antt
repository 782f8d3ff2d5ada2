-- Over runs of programs in which each string that is taken was given earlier, what stands inside the seals that unmarshal writes is among the births before; and a chain is such runs.
use Rattle.std.proofs.Common.{◌≡◌, refl, sym, ap, ap₂, ◌∙◌, subst, ℕ, zero, suc, Bool, true, false, ◌&&◌, not, cond, List, [], ◌∷◌, ◌++◌, append_assoc, append-nil, ◌⊎◌, inl, inr, Option, Some, None}
use Rattle.std.specs.Option.{option_map_or}
use Rattle.std.specs.Prelude.{IsTrue}
use Rattle.ac_types.specs.Types.{Bytes, Typ, TAbs}
use Rattle.ac_terms.specs.Terms.{Home, Main, Expr, Str, Marshal, Unmarshal, Bracket, Value, VStr}
use Rattle.ac_terms.specs.Defs.{Environment, name_at}
use Rattle.ac_terms.specs.Bounds.{fits_term}
use Rattle.ac_terms.specs.Names.{text_of_entry}
use Rattle.ac_rules.specs.Views.{Coloured, opens}
use Rattle.ac_meaning.specs.Worlds.{World, fresh}
use Rattle.ac_meaning.specs.Acts.{Act, Is, Goes, Turns, Applies, Raises, Wrong, State, At, Over, writes_of}
use Rattle.ac_meaning.specs.Laws.{IsTypedProgram}
use Rattle.ac_meaning.specs.Reduction.{look, step}
use Rattle.ac_meaning.specs.Redexes.{Redex, redex}
use Rattle.ac_meaning.specs.Writes.{Channel, written}
use Rattle.ac_meaning.proofs.Homes.{lower}
use Rattle.ac_meaning.proofs.MarshalledRead.{starts_bounded}
use Rattle.ac_colours.specs.Births.{Seal, seal, Event, Born, Gave, Took, sealing, giving, taken, taking, happening, happening_in, events, IsAmong}
use Rattle.ac_colours.specs.Chains.{Programs, SeparateRun, first_state, programs_run, HappensIn, AreRunsOf, IsChain, AreNative, HasBirth, HaveBirths, AreLoadable, HaveOneText}
use Rattle.ac_colours.proofs.Collected.{among_cases}
use Rattle.ac_colours.proofs.Conserved.{source_sealed}
use Rattle.ac_colours.proofs.OneText.{Texts, AreOne, Keeps}
use Rattle.ac_colours.proofs.Origins.{not_among}
use Rattle.ac_colours.proofs.OwnedKept.{loosen}
use Rattle.ac_colours.proofs.OwnText.{speaks, program_owned}
use Rattle.ac_colours.proofs.Provenance.{StateRuns, Given, given_more}
use Rattle.ac_colours.proofs.Says.{Told}
use Rattle.ac_colours.proofs.SealTypes.{birth_stays}
use Rattle.ac_colours.proofs.Steps.{took, gave, next_runs}
use Rattle.ac_colours.proofs.ToldGrows.{BornIn}

-- where one of two lists has it
pub split_at : {A : Type 0} (xs ys front : List A) (x : A) (back : List A) → xs ++ ys ≡ front ++ x ∷ back → ((rest : List A) × (xs ≡ front ++ x ∷ rest)) ⊎ ((mid : List A) × (front ≡ xs ++ mid) × (ys ≡ mid ++ x ∷ back))
split_at [] ys front x back e = inr (front, refl, e)
split_at (u ∷ xs) ys [] x back e = let q : u ≡ x = cc in inl (xs, ap (λ v. v ∷ xs) q)
split_at {A} (u ∷ xs) ys (v ∷ front) x back e =
    let q : u ≡ v = cc in
    let r : xs ++ ys ≡ front ++ x ∷ back = cc in
    by q (split_at xs ys front x back r)
  where
    by : u ≡ v → ((rest : List A) × (xs ≡ front ++ x ∷ rest)) ⊎ ((mid : List A) × (front ≡ xs ++ mid) × (ys ≡ mid ++ x ∷ back)) → ((rest : List A) × (u ∷ xs ≡ v ∷ (front ++ x ∷ rest))) ⊎ ((mid : List A) × (v ∷ front ≡ u ∷ (xs ++ mid)) × (ys ≡ mid ++ x ∷ back))
    by q (inl k) = inl (k.0, ap (λ l. u ∷ l) k.1 ∙ ap (λ w. w ∷ (front ++ x ∷ k.0)) q)
    by q (inr k) = inr (k.0, ap (λ l. v ∷ l) k.1 ∙ ap (λ w. w ∷ (xs ++ k.0)) (sym q), k.2)

-- at most one thing happens in a step
abbrev IsFew : List Event → Type 0
IsFew [] = Unit {0}
IsFew (i ∷ []) = Unit {0}
IsFew (i ∷ (j ∷ xs)) = ⊥

few_sealing : (E : Environment) (b c : Home) (n t : Bytes) (a : Act Expr Value) → IsFew (sealing E b c n t a)
few_sealing E b c n t (Is v) = by (opens Coloured E b n && not (opens Coloured E c n))
  where
    by : (x : Bool) → IsFew (cond x (Born E (seal b n t v) ∷ []) [])
    by true = tt
    by false = tt
few_sealing E b c n t (Goes x) = tt
few_sealing E b c n t (Turns y x) = tt
few_sealing E b c n t (Applies x) = tt
few_sealing E b c n t (Raises x) = tt
few_sealing E b c n t Wrong = tt

few_giving : (a : Act Expr Value) → IsFew (giving a)
few_giving (Turns y (Str s)) = tt
few_giving (Turns y _) = tt
few_giving (Is v) = tt
few_giving (Goes x) = tt
few_giving (Applies x) = tt
few_giving (Raises x) = tt
few_giving Wrong = tt

few_taken : (s : Bytes) (a : Act Expr Value) → IsFew (taken s a)
few_taken s (Turns y x) = tt
few_taken s (Is v) = tt
few_taken s (Goes x) = tt
few_taken s (Applies x) = tt
few_taken s (Raises x) = tt
few_taken s Wrong = tt

few_taking : (o a : Act Expr Value) → IsFew (taking o a)
few_taking (Is (VStr s)) a = few_taken s a
few_taking (Is _) a = tt
few_taking (Goes x) a = tt
few_taking (Turns y x) a = tt
few_taking (Applies x) a = tt
few_taking (Raises x) a = tt
few_taking Wrong a = tt

few_bracket : (z : World) (c b : Home) (T : Typ) (e : Expr) → IsFew (happening z c (Bracket b T e))
few_bracket z c b (TAbs n t) e = few_sealing z.environment b c n t (look Coloured z b e)
few_bracket z c b _ e = tt

few_happen : (z : World) (c : Home) (e : Expr) → IsFew (happening z c e)
few_happen z c (Bracket b T e) = few_bracket z c b T e
few_happen z c (Marshal T m e) = few_giving (look Coloured z c (Marshal T m e))
few_happen z c (Unmarshal T e) = few_taking (look Coloured z c e) (look Coloured z c (Unmarshal T e))
few_happen z c _ = tt

few_in : (z : World) (o : Option Redex) → IsFew (option_map_or (λ (r : Redex). happening z r.home r.term) o [])
few_in z None = tt
few_in z (Some r) = few_happen z r.home r.term

first_of_few : (xs front : List Event) (i : Event) (back : List Event) → IsFew xs → xs ≡ front ++ i ∷ back → front ≡ []
first_of_few xs [] i back f e = refl
first_of_few xs (j ∷ []) i back f e = absurd (subst IsFew e f)
first_of_few xs (j ∷ (k ∷ front)) i back f e = absurd (subst IsFew e f)

-- the laws behind what happened before
abbrev NativeFrom : List Event → List Event → Type 0
NativeFrom before all = (front back : List Event) (D : Environment) (s : Bytes) (xs : List Seal) → all ≡ front ++ Took D s xs ∷ back → IsAmong (Gave s) (before ++ front)

abbrev BirthsFrom : List Event → List Event → Type 0
BirthsFrom before all = (front back : List Event) (D : Environment) (s : Bytes) (xs : List Seal) → all ≡ front ++ Took D s xs ∷ back → (x : Seal) → IsAmong x xs → HasBirth D x (before ++ front)

none_from : (before : List Event) → BirthsFrom before []
none_from before front back D s xs e = absurd (not_among (Took D s xs) front back e)

-- first some, then others
native_first : (before xs ys : List Event) → NativeFrom before (xs ++ ys) → NativeFrom before xs
native_first before xs ys n front back D s us e = n front (back ++ ys) D s us (ap (λ l. l ++ ys) e ∙ append_assoc front (Took D s us ∷ back) ys)

native_then : (before xs ys : List Event) → NativeFrom before (xs ++ ys) → NativeFrom (before ++ xs) ys
native_then before xs ys n front back D s us e =
    subst (IsAmong (Gave s)) (sym (append_assoc before xs front)) (n (xs ++ front) back D s us (ap (λ l. xs ++ l) e ∙ sym (append_assoc xs front (Took D s us ∷ back))))

births_joined : (before xs ys : List Event) → BirthsFrom before xs → BirthsFrom (before ++ xs) ys → BirthsFrom before (xs ++ ys)
births_joined before xs ys h k front back D s us e = by (split_at xs ys front (Took D s us) back e)
  where
    by : ((rest : List Event) × (xs ≡ front ++ Took D s us ∷ rest)) ⊎ ((mid : List Event) × (front ≡ xs ++ mid) × (ys ≡ mid ++ Took D s us ∷ back)) → (x : Seal) → IsAmong x us → HasBirth D x (before ++ front)
    by (inl p) x i = h front p.0 D s us p.1 x i
    by (inr p) x i = subst (HasBirth D x) (append_assoc before xs p.0 ∙ ap (λ l. before ++ l) (sym p.1)) (k p.0 back D s us p.2 x i)

abbrev AllGiven : Texts → List Event → Type 0
AllGiven S all = (s : Bytes) → IsAmong (Gave s) all → Given S all s

module _ (S : Texts) (one : AreOne S) (T : Typ) (N : ℕ) where
  -- over the steps of a run
  run : (k : ℕ) (s : State Expr Value) (before : List Event) → StateRuns S (BornIn before) T s → AllGiven S before → NativeFrom before (events N k s) → BirthsFrom before (events N k s) × AllGiven S (before ++ events N k s)
  run zero s before r g n = (none_from before, subst (AllGiven S) (sym (append-nil before)) g)
  run (suc k) (Over o) before r g n = run k (Over o) before r g n
  run (suc k) (At e z) before r g n =
      let new : List Event = happening_in (At e z) in
      let later : List Event = events N k (step Coloured N (At e z)) in
      let first = native_first before new later n in
      let native : (D : Environment) (s : Bytes) (xs : List Seal) → IsAmong (Took D s xs) new → IsAmong (Gave s) before =
      λ D s xs i. subst (IsAmong (Gave s)) (ap (λ l. before ++ l) (first_of_few new i.0 (Took D s xs) i.1 (few_in z (redex Main e)) i.2) ∙ append-nil before) (first i.0 i.1 D s xs i.2) in
      let here : BirthsFrom before new = λ front back D s xs q x i. birth_stays D x before front (took S one before g T N e z r native D s xs (front, back, q) x i) in
      let given : AllGiven S (before ++ new) = λ s i. both s (among_cases (Gave s) before new i) (λ j. gave S one before g T N e z r native s j) in
      let rest = run k (step Coloured N (At e z)) (before ++ new) (next_runs S one before g T N e z r native) given (native_then before new later n) in
      (births_joined before new later here rest.0, subst (AllGiven S) (append_assoc before new later) rest.1)
    where
      both : (s : Bytes) → IsAmong (Gave s) before ⊎ IsAmong (Gave s) (happening_in (At e z)) → (IsAmong (Gave s) (happening_in (At e z)) → Given S (before ++ happening_in (At e z)) s) → Given S (before ++ happening_in (At e z)) s
      both s (inl i) f = given_more S before (happening_in (At e z)) s (g s i)
      both s (inr i) f = f i

-- each program keeps the texts
abbrev AllKeep : Texts → Programs → Type 0
AllKeep S [] = Unit {0}
AllKeep S (p ∷ ps) = Keeps S p.0 × AllKeep S ps

starts : (S : Texts) (before : List Event) (E : Environment) (e : Expr) (T : Typ) → IsTypedProgram E e T → IsTrue (fits_term false e) → Keeps S E → (input : Bytes) (sends : Bool) → StateRuns S (BornIn before) (lower E Coloured T) (At e (fresh E input sends))
starts S before E e T p fits keeps input sends = record {
  bounded = starts_bounded E e T p fits Coloured input sends;
  keeps = keeps;
  owned = loosen (speaks E) e Main (program_owned E e p.source);
  sealed = source_sealed (Told E (BornIn before)) e p.source;
}

-- over the runs
over_runs : (S : Texts) → AreOne S → (runs : List SeparateRun) (all before : List Event) → AreLoadable (programs_run runs) → AllKeep S (programs_run runs) → AllGiven S before → HappensIn runs all → NativeFrom before all → BirthsFrom before all
over_runs S one [] all before l k g c n = subst (BirthsFrom before) (sym c) (none_from before)
over_runs S one (x ∷ runs) all before l k g c n =
    let E : Environment = x.program.0 in
    let mine : List Event = events x.steps c.0 (first_state x) in
    let n' : NativeFrom before (mine ++ c.2) = subst (NativeFrom before) c.4 n in
    let r = run S one (lower E Coloured l.0) x.steps c.0 (first_state x) before (starts S before E x.program.1 l.0 l.1 l.2 k.0 x.input x.sends) g (native_first before mine c.2 n') in
    subst (BirthsFrom before) (sym c.4) (births_joined before mine c.2 r.0 (over_runs S one runs c.2 (before ++ mine) l.3 k.1 r.1 c.5 (native_then before mine c.2 n')))

module _ (parts : Programs) where
  -- the texts of the programs' definitions
  abbrev OfParts : Texts
  OfParts n t = (p : Environment × Expr) × (i : ℕ) × IsAmong p parts × (name_at p.0 i ≡ Some n) × (text_of_entry p.0 i ≡ Some t)

  all_keep : (done rest : Programs) → parts ≡ done ++ rest → AllKeep OfParts rest
  all_keep done [] e = tt
  all_keep done (p ∷ rest) e = (λ i n t a b. (p, i, (done, rest, e), a, b), all_keep (done ++ p ∷ []) rest (e ∙ sym (append_assoc done (p ∷ []) rest)))

  one_text : HaveOneText parts → AreOne OfParts
  one_text h n s t a b = h a.0 b.0 a.2 b.2 a.1 b.1 n s t a.3 b.3 a.4 b.4

pub made_before : (runs : List SeparateRun) (all : List Event) → AreLoadable (programs_run runs) → HaveOneText (programs_run runs) → HappensIn runs all → AreNative all → HaveBirths all
made_before runs all l h c n =
    let ps = programs_run runs in
    over_runs (OfParts ps) (one_text ps h) runs all [] l (all_keep ps [] ps refl) (λ s i. absurd (not_among (Gave s) i.0 i.1 i.2)) c n

-- a chain is runs of its programs
pub chain_runs : (N : ℕ) (parts : Programs) (input : Bytes) (all : List Event) → IsChain N parts input all → (runs : List SeparateRun) × AreRunsOf N parts runs × HappensIn runs all
chain_runs N [] input all c = ([], refl, c)
chain_runs N (p ∷ ps) input all c =
    let r : SeparateRun = record { program = p; steps = N; input = input; sends = true } in
    let rest = chain_runs N ps (written Channel (writes_of c.1)) c.2 c.5 in
    (r ∷ rest.0, (r, rest.0, refl, refl, refl, refl, rest.1), (c.0, c.1, c.2, c.3, c.4, rest.2))

pub same_programs : (N : ℕ) (parts : Programs) (runs : List SeparateRun) → AreRunsOf N parts runs → programs_run runs ≡ parts
same_programs N [] runs h = ap programs_run h
same_programs N (p ∷ ps) runs h = ap programs_run h.2 ∙ ap₂ (λ q qs. q ∷ qs) h.3 (same_programs N ps h.1 h.6)

pub made_before_of : (N : ℕ) (parts : Programs) (runs : List SeparateRun) (all : List Event) → AreLoadable parts → HaveOneText parts → AreRunsOf N parts runs → HappensIn runs all → AreNative all → HaveBirths all
made_before_of N parts runs all l h are c n =
    let same : parts ≡ programs_run runs = sym (same_programs N parts runs are) in
    made_before runs all (subst AreLoadable same l) (subst HaveOneText same h) c n

pub made_before_in_chain : (N : ℕ) (parts : Programs) (input : Bytes) (all : List Event) → AreLoadable parts → HaveOneText parts → IsChain N parts input all → AreNative all → HaveBirths all
made_before_in_chain N parts input all l h c n = let r = chain_runs N parts input all c in made_before_of N parts r.0 all l h r.1 r.2 n
