-- Where each string that is read is native, it was made earlier in the chain.
use Rattle.std.proofs.Common.{append-nil, ◌≡◌, ◌∙◌, refl, sym, ap, subst, Bool, true, false, ◌||◌, List, [], ◌∷◌, ◌++◌, append_assoc}
use Rattle.std.specs.List.{list_all}
use Rattle.ac_types.specs.Types.{Bytes, same_bytes}
use Rattle.ac_types.proofs.Same.{bytes_eq, both_true}
use Rattle.ac_meaning.specs.Worlds.{Crossing, Made, Read}
use Rattle.ac_colours.specs.Births.{IsAmong}
use Rattle.ac_chain.specs.Natives.{is_made, natives, made_by}

-- each of these strings was made in these crossings
abbrev pub AreMadeIn : List Bytes → List Crossing → Type 0
AreMadeIn made earlier = (s : Bytes) → is_made made s ≡ true → IsAmong (Made s) earlier

-- more crossings
more_crossings : (made : List Bytes) (earlier later : List Crossing) → AreMadeIn made earlier → AreMadeIn made (earlier ++ later)
more_crossings made earlier later h s is =
    let w = h s is in
    (w.0, w.1 ++ later, ap (λ cs. cs ++ later) w.2 ∙ append_assoc w.0 (Made s ∷ w.1) later)

one_made : (made : List Bytes) (earlier : List Crossing) (s : Bytes) → AreMadeIn made earlier → AreMadeIn (s ∷ made) (earlier ++ Made s ∷ [])
one_made made earlier s h x is = by (same_bytes x s) refl where
  by : (b : Bool) → same_bytes x s ≡ b → IsAmong (Made x) (earlier ++ Made s ∷ [])
  by true e = (earlier, [], ap (λ (y : Bytes). earlier ++ Made y ∷ []) (sym (bytes_eq x s e)))
  by false e = more_crossings made earlier (Made s ∷ []) h x (ap (λ b. b || is_made made x) (sym e) ∙ is)

-- one crossing more, and the rest
shifted : (earlier front : List Crossing) (c : Crossing) → (earlier ++ c ∷ []) ++ front ≡ earlier ++ c ∷ front
shifted earlier front c = append_assoc earlier (c ∷ []) front

pub made_later : (made : List Bytes) (earlier j : List Crossing) → AreMadeIn made earlier → AreMadeIn (made_by made j) (earlier ++ j)
made_later made earlier [] h = subst (AreMadeIn made) (sym (append-nil earlier)) h
made_later made earlier (Made s ∷ j) h = subst (AreMadeIn (made_by (s ∷ made) j)) (shifted earlier j (Made s)) (made_later (s ∷ made) (earlier ++ Made s ∷ []) j (one_made made earlier s h))
made_later made earlier (Read s ∷ j) h = subst (AreMadeIn (made_by made j)) (shifted earlier j (Read s)) (made_later made (earlier ++ Read s ∷ []) j (more_crossings made earlier (Read s ∷ []) h))

-- a journal of native strings
pub all_made : (made : List Bytes) (earlier j : List Crossing) → AreMadeIn made earlier → list_all (λ (b : Bool). b) (natives made j) ≡ true → (front back : List Crossing) (s : Bytes) → j ≡ front ++ Read s ∷ back → IsAmong (Made s) (earlier ++ front)
all_made made earlier [] h all [] back s e = absurd (cc)
all_made made earlier [] h all (c ∷ front) back s e = absurd (cc)
all_made made earlier (Made x ∷ j) h all [] back s e = absurd (cc)
all_made made earlier (Made x ∷ j) h all (c ∷ front) back s e =
    let same : Made x ≡ c = cc in
    let rest : j ≡ front ++ Read s ∷ back = cc in
    subst (IsAmong (Made s)) (shifted earlier front (Made x) ∙ ap (λ y. earlier ++ y ∷ front) same) (all_made (x ∷ made) (earlier ++ Made x ∷ []) j (one_made made earlier x h) all front back s rest)
all_made made earlier (Read x ∷ j) h all [] back s e =
    let same : x ≡ s = cc in
    subst (IsAmong (Made s)) (sym (append-nil earlier)) (h s (ap (is_made made) (sym same) ∙ (both_true (is_made made x) _ all).0))
all_made made earlier (Read x ∷ j) h all (c ∷ front) back s e =
    let same : Read x ≡ c = cc in
    let rest : j ≡ front ++ Read s ∷ back = cc in
    subst (IsAmong (Made s)) (shifted earlier front (Read x) ∙ ap (λ y. earlier ++ y ∷ front) same)
    (all_made made (earlier ++ Read x ∷ []) j (more_crossings made earlier (Read x ∷ []) h) (both_true (is_made made x) _ all).1 front back s rest)
