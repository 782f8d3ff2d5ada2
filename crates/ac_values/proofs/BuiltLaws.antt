-- Laws of tables that are made from lists.
use Rattle.std.specs.Prelude.{ℕ, ◌≡◌, ◌<◌, ◌+◌, List, [], ◌∷◌, ◌++◌, length, get_or, suc, zero, Some, slice_get, refl}
use Rattle.std.proofs.Common.{◌≤◌, ap, sym, ◌∙◌, subst, take, take-take, take_all, length-append, arith}
use Rattle.std.proofs.lemmas.List.{take-append-le}
use Rattle.std.proofs.Math.Seq.{get_or-append_seam}
use Rattle.std.proofs.Math.ListN.{get_or-append}
use Rattle.ac_values.specs.Building.{built}

module _ {A B : Type 0} (make : List B → A → B) where
  pub built-push : (bs : List B) (as' : List A) (a : A) → built make bs (as' ++ a ∷ []) ≡ built make bs as' ++ make (built make bs as') a ∷ []
  built-push bs [] a = refl
  built-push bs (x ∷ xs) a = built-push (bs ++ make bs x ∷ []) xs a

  pub length-built : (bs : List B) (as' : List A) → length (built make bs as') ≡ length bs + length as'
  length-built bs [] = omega arith
  length-built bs (x ∷ xs) = omega (arith, length-built (bs ++ make bs x ∷ []) xs, length-append bs (make bs x ∷ []))

  -- what was there stays
  pub built-keeps : (bs : List B) (as' : List A) (k : ℕ) (d : B) → k < length bs → get_or (built make bs as') k d ≡ get_or bs k d
  built-keeps bs [] k d h = refl
  built-keeps bs (x ∷ xs) k d h =
      built-keeps (bs ++ make bs x ∷ []) xs k d (omega (arith, length-append bs (make bs x ∷ []))) ∙ get_or-append bs (make bs x ∷ []) d k h

  -- the first entries are those that were there
  pub built-front : (bs : List B) (as' : List A) → take (length bs) (built make bs as') ≡ bs
  built-front bs [] = take_all (length bs) bs (omega arith)
  built-front bs (x ∷ xs) =
      let cs = bs ++ make bs x ∷ [] in
      let longer : length bs ≤ length cs = omega (arith, length-append bs (make bs x ∷ [])) in
      sym (take-take (length bs) (length cs) (built make cs xs) longer) ∙ ap (take (length bs)) (built-front cs xs)
      ∙ take-append-le (length bs) bs (make bs x ∷ []) (omega arith) ∙ take_all (length bs) bs (omega arith)

  -- the table of the first items
  pub built-take : (bs : List B) (as' : List A) (n : ℕ) → built make bs (take n as') ≡ take (length bs + n) (built make bs as')
  built-take bs [] zero = sym (take_all (length bs + 0) bs (omega arith))
  built-take bs [] (suc n) = sym (take_all (length bs + suc n) bs (omega arith))
  built-take bs (x ∷ xs) zero =
      let zeroth : length bs + 0 ≡ length bs = omega arith in
      rw zeroth (sym (built-front bs (x ∷ xs)))
  built-take bs (x ∷ xs) (suc n) =
      let cs = bs ++ make bs x ∷ [] in
      let longer : length cs ≡ length bs + 1 = length-append bs (make bs x ∷ []) in
      let shift : length cs + n ≡ length bs + suc n = omega (arith, longer) in
      built-take cs xs n ∙ ap (λ k. take k (built make cs xs)) shift

  module _ (Fits : ℕ → A → Type 0) (d : B)
      (near : (bs cs : List B) (n : ℕ) (a : A) → Fits n a → ((k : ℕ) → k < n → get_or bs k d ≡ get_or cs k d) → make bs a ≡ make cs a) where
    -- each entry is what its item makes of the whole table
    pub built-at :
        (bs : List B) (as' : List A) (k : ℕ) (a : A) →
        ((j : ℕ) (x : A) → slice_get as' j ≡ Some x → Fits (length bs + j) x) →
        slice_get as' k ≡ Some a → get_or (built make bs as') (length bs + k) d ≡ make (built make bs as') a
    built-at bs [] k a o e = absurd (cc)
    built-at bs (x ∷ xs) zero a o e =
        let cs = bs ++ make bs x ∷ [] in
        let same : x ≡ a = cc in
        let zeroth : length bs + 0 ≡ length bs = omega arith in
        let here : Fits (length bs) x = subst (λ n. Fits n x) zeroth (o 0 x refl) in
        rw (zeroth, ← same)
        (built-keeps cs xs (length bs) d (omega (arith, length-append bs (make bs x ∷ [])))
        ∙ get_or-append_seam bs (make bs x) [] d
        ∙ near bs (built make cs xs) (length bs) x here
        (λ k h. sym (built-keeps cs xs k d (omega (arith, length-append bs (make bs x ∷ []))) ∙ get_or-append bs (make bs x ∷ []) d k h)))
    built-at bs (x ∷ xs) (suc k) a o e =
        let cs = bs ++ make bs x ∷ [] in
        let longer : length cs ≡ length bs + 1 = length-append bs (make bs x ∷ []) in
        let shift : length bs + suc k ≡ length cs + k = omega (arith, longer) in
        rw shift
        (built-at cs xs k a
        (λ j y h. let there : length cs + j ≡ length bs + suc j = omega (arith, longer) in subst (λ n. Fits n y) (sym there) (o (suc j) y h))
        e)
