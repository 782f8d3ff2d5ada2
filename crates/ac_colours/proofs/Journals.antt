-- Runs of programs, and chains, whose journals are known: what happens in them, and that each string that is taken was given earlier where the journals say so.
use Rattle.std.proofs.Common.{◌≡◌, ◌⊎◌, inl, inr, refl, sym, ap, ap₂, ◌∙◌, subst, ℕ, List, [], ◌∷◌, ◌++◌, append_assoc}
use Rattle.std.specs.Prelude.{true}
use Rattle.ac_types.specs.Types.{Bytes}
use Rattle.ac_terms.specs.Terms.{Value}
use Rattle.ac_meaning.specs.Worlds.{Crossing, Made, Read, fresh}
use Rattle.ac_meaning.specs.Acts.{Outcome, At, writes_of, crossings_of}
use Rattle.ac_meaning.specs.Writes.{Channel, written}
use Rattle.ac_colours.specs.Births.{Event, Born, Gave, Took, events, crossed, crossings_in, IsAmong}
use Rattle.ac_colours.specs.Chains.{Programs, SeparateRun, first_state, programs_run, HappensIn, EndAs, journals_of, AreRunsOf, IsChain, IsJournalled, joined, AreReadNatively, AreNative, HaveBirths, AreLoadable, HaveOneText}
use Rattle.ac_colours.proofs.Chains.{split_at, made_before, made_before_in_chain}
use Rattle.ac_colours.proofs.Crossed.{crossed_both, program_tells}
use Rattle.ac_colours.proofs.Origins.{not_among}

-- what happens in runs that end so: it tells the strings of their journals
pub runs_tell : (runs : List SeparateRun) (ends : List (Outcome Value)) → AreLoadable (programs_run runs) → EndAs runs ends → (all : List Event) × HappensIn runs all × (crossed all ≡ joined (journals_of ends))
runs_tell [] ends l e = ([], refl, sym (ap (λ os. joined (journals_of os)) e))
runs_tell (r ∷ runs) ends l e =
    let mine = events r.steps e.2.0 (first_state r) in
    let rest = runs_tell runs e.1 l.3 e.4 in
    let here = sym (program_tells r.program.0 r.program.1 l.0 l.1 r.input r.sends r.steps e.2.0) ∙ ap crossings_in e.2.1 in
    (mine ++ rest.0, (e.2.0, e.0, rest.0, e.2.1, refl, rest.1), crossed_both mine rest.0 ∙ ap₂ (λ a b. a ++ b) here rest.2 ∙ sym (ap (λ os. joined (journals_of os)) e.3))

-- the journals of a chain are those of runs of its programs
pub chain_ends : (N : ℕ) (parts : Programs) (input : Bytes) (journals : List (List Crossing)) → IsJournalled N parts input journals → (runs : List SeparateRun) × (ends : List (Outcome Value)) × AreRunsOf N parts runs × EndAs runs ends × (journals ≡ journals_of ends)
chain_ends N [] input journals j = ([], [], refl, refl, j)
chain_ends N (p ∷ ps) input journals j =
    let r : SeparateRun = record { program = p; steps = N; input = input; sends = true } in
    let rest = chain_ends N ps (written Channel (writes_of j.0)) j.1 j.4 in
    (r ∷ rest.0, j.0 ∷ rest.1, (r, rest.0, refl, refl, refl, refl, rest.2), (j.0, rest.1, j.2, refl, rest.3), j.3 ∙ ap (λ js. crossings_of j.0 ∷ js) rest.4)

-- what happens in a chain with these journals: they tell the strings
pub chain_tells : (N : ℕ) (parts : Programs) (input : Bytes) (journals : List (List Crossing)) → AreLoadable parts → IsJournalled N parts input journals → (all : List Event) × IsChain N parts input all × (crossed all ≡ joined journals)
chain_tells N [] input journals l j = ([], refl, sym (ap joined j))
chain_tells N (p ∷ ps) input journals l j =
    let start = At p.1 (fresh p.0 input true) in
    let o = j.0 in
    let mine = events N j.2.0 start in
    let rest = chain_tells N ps (written Channel (writes_of o)) j.1 l.3 j.4 in
    let here = sym (program_tells p.0 p.1 l.0 l.1 input true N j.2.0) ∙ ap crossings_in j.2.1 in
    (mine ++ rest.0, (j.2.0, o, rest.0, j.2.1, refl, rest.1), crossed_both mine rest.0 ∙ ap₂ (λ a b. a ++ b) here rest.2 ∙ sym (ap joined j.3))

-- each string that is read was made earlier
natively : (earlier : List Crossing) (journals : List (List Crossing)) → AreReadNatively earlier journals → (front back : List Crossing) (s : Bytes) → joined journals ≡ front ++ Read s ∷ back → IsAmong (Made s) (earlier ++ front)
natively earlier [] h front back s e = absurd (not_among (Read s) front back e)
natively earlier (j ∷ js) h front back s e = by (split_at j (joined js) front (Read s) back e) (λ mid q. natively (earlier ++ j) js h.1 mid back s q)
  where
    by : ((rest : List Crossing) × (j ≡ front ++ Read s ∷ rest)) ⊎ ((mid : List Crossing) × (front ≡ j ++ mid) × (joined js ≡ mid ++ Read s ∷ back)) → ((mid : List Crossing) → joined js ≡ mid ++ Read s ∷ back → IsAmong (Made s) ((earlier ++ j) ++ mid)) → IsAmong (Made s) (earlier ++ front)
    by (inl k) later = h.0 front k.0 s k.1
    by (inr k) later = subst (IsAmong (Made s)) (append_assoc earlier j k.0 ∙ ap (λ l. earlier ++ l) (sym k.1)) (later k.0 k.2)

-- what was made was given
among_more : {A : Type 0} (x y : A) (xs : List A) → IsAmong x xs → IsAmong x (y ∷ xs)
among_more x y xs i = (y ∷ i.0, i.1, ap (λ l. y ∷ l) i.2)

made_given : (all : List Event) (s : Bytes) (front back : List Crossing) → crossed all ≡ front ++ Made s ∷ back → IsAmong (Gave s) all
made_given [] s front back e = absurd (not_among (Made s) front back e)
made_given (Born E x ∷ all) s front back e = among_more (Gave s) (Born E x) all (made_given all s front back e)
made_given (Gave r ∷ all) s [] back e = let q : r ≡ s = cc in ([], all, ap (λ t. Gave t ∷ all) q)
made_given (Gave r ∷ all) s (x ∷ front) back e = let q : crossed all ≡ front ++ Made s ∷ back = cc in among_more (Gave s) (Gave r) all (made_given all s front back q)
made_given (Took E r xs ∷ all) s [] back e = absurd cc
made_given (Took E r xs ∷ all) s (x ∷ front) back e = let q : crossed all ≡ front ++ Made s ∷ back = cc in among_more (Gave s) (Took E r xs) all (made_given all s front back q)

pub native : (all : List Event) (journals : List (List Crossing)) → crossed all ≡ joined journals → AreReadNatively [] journals → AreNative all
native all journals is h before after E s xs e =
    let strings : joined journals ≡ crossed before ++ Read s ∷ crossed after = sym is ∙ ap crossed e ∙ crossed_both before (Took E s xs ∷ after) in
    let i = natively [] journals h (crossed before) (crossed after) s strings in
    made_given before s i.0 i.1 i.2

-- so provenance holds of runs whose journals say so, and of a chain
pub made_before_by_ends : (runs : List SeparateRun) (ends : List (Outcome Value)) → AreLoadable (programs_run runs) → HaveOneText (programs_run runs) → EndAs runs ends → AreReadNatively [] (journals_of ends) →
    (all : List Event) × HappensIn runs all × (crossed all ≡ joined (journals_of ends)) × AreNative all × HaveBirths all
made_before_by_ends runs ends l one e h =
    let c = runs_tell runs ends l e in
    let n = native c.0 (journals_of ends) c.2 h in
    (c.0, c.1, c.2, n, made_before runs c.0 l one c.1 n)

pub made_before_by_journals : (N : ℕ) (parts : Programs) (input : Bytes) (journals : List (List Crossing)) → AreLoadable parts → HaveOneText parts → IsJournalled N parts input journals → AreReadNatively [] journals →
    (all : List Event) × IsChain N parts input all × (crossed all ≡ joined journals) × AreNative all × HaveBirths all
made_before_by_journals N parts input journals l one j h =
    let c = chain_tells N parts input journals l j in
    let n = native c.0 journals c.2 h in
    (c.0, c.1, c.2, n, made_before_in_chain N parts input c.0 l one c.1 n)
