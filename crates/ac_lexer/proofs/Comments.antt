-- How a comment's inside is read with a count of the comments around.
use Rattle.std.proofs.Common.{◌≡◌, ◌<◌, ◌+◌, ◌-◌, ℕ, zero, suc, true, false, List, [], ◌∷◌, ◌++◌, refl, sym, ◌∙◌, ap, subst, arith, length, take, drop}
use Rattle.std.specs.Prelude.{nat_eq}
use Rattle.std.specs.Cmp.Lexicographic.{pointwise, bytes_decides}
use Rattle.std.proofs.lemmas.Bool.{true≢false}
use Rattle.std.proofs.lemmas.List.{take-append-drop}
use Rattle.std.proofs.Math.Numerals.{add-one}
use Rattle.ac_lexer.specs.Gaps.{Inside, closed, nested, byte, begins_comment, ends_comment}

-- the text ends the comment that it is inside of, and then those around it
pub Ends : ℕ → List ℕ → List ℕ → Type 0
Ends zero text rest = Inside text rest
Ends (suc around) text rest = (middle : List ℕ) × Inside text middle × Ends around middle rest

inner : {text rest : List ℕ} → Inside (40 ∷ 42 ∷ text) rest → (middle : List ℕ) × Inside text middle × Inside middle rest
inner (nested {middle = middle} x y) = (middle, x, y)
inner (byte o c x) = absurd (true≢false o)

behind_end : {text rest : List ℕ} → Inside (42 ∷ 41 ∷ text) rest → rest ≡ text
behind_end closed = refl
behind_end (byte o c x) = absurd (true≢false c)

behind_byte : {b : ℕ} {text rest : List ℕ} → begins_comment (b ∷ text) ≡ false → ends_comment (b ∷ text) ≡ false → Inside (b ∷ text) rest → Inside text rest
behind_byte o c closed = absurd (true≢false c)
behind_byte o c (nested x y) = absurd (true≢false o)
behind_byte o c (byte p d x) = x

no_end : {rest : List ℕ} → Inside [] rest → ⊥
no_end x = elim x [ ]

-- a comment that begins inside is one more to end

into : (n : ℕ) (text rest : List ℕ) → Ends (suc n) text rest → Ends n (40 ∷ 42 ∷ text) rest
unfolding Ends
into zero text rest x = nested x.1 x.2
into (suc n) text rest x = (x.2.0, nested x.1 x.2.1, x.2.2)

out : (n : ℕ) (text rest : List ℕ) → Ends n (40 ∷ 42 ∷ text) rest → Ends (suc n) text rest
unfolding Ends
out zero text rest x = inner x
out (suc n) text rest x = let i = inner x.1 in (i.0, i.1, (x.0, i.2, x.2))

-- a byte changes nothing

onto : (n b : ℕ) (text rest : List ℕ) → begins_comment (b ∷ text) ≡ false → ends_comment (b ∷ text) ≡ false → Ends n text rest → Ends n (b ∷ text) rest
unfolding Ends
onto zero b text rest o c x = byte o c x
onto (suc n) b text rest o c x = (x.0, byte o c x.1, x.2)

past : (n b : ℕ) (text rest : List ℕ) → begins_comment (b ∷ text) ≡ false → ends_comment (b ∷ text) ≡ false → Ends n (b ∷ text) rest → Ends n text rest
unfolding Ends
past zero b text rest o c x = behind_byte o c x
past (suc n) b text rest o c x = (x.0, behind_byte o c x.1, x.2)

never : (n : ℕ) (rest : List ℕ) → Ends n [] rest → ⊥
unfolding Ends
never zero rest x = no_end x
never (suc n) rest x = no_end x.1

-- the text is inside of a comment whose ends are those of `here` and of the comments around it
pub record Within (text : List ℕ) (around : ℕ) (here : List ℕ) : Type 0 where
  pub forth : (rest : List ℕ) → Ends around here rest → Inside text rest
  pub back : (rest : List ℕ) → Inside text rest → Ends around here rest

pub begun : (text : List ℕ) → Within text 0 text
unfolding Ends
begun text = record { forth = λ rest x. x; back = λ rest x. x }

pub begins : (sign text : List ℕ) (n : ℕ) → length sign ≡ n → pointwise nat_eq sign (take n text) ≡ true → text ≡ sign ++ drop n text
begins sign text n l h = sym (take-append-drop n text) ∙ ap (λ (front : List ℕ). front ++ drop n text) (sym ((bytes_decides sign (take n text)).0 h))

pub opened : {text here after : List ℕ} {n : ℕ} → Within text n here → here ≡ 40 ∷ 42 ∷ after → Within text (n + 1) after
opened {text} {here} {after} {n} w e = rw add-one record {
  forth = λ rest x. w.forth rest (subst (λ (l : List ℕ). Ends n l rest) (sym e) (into n after rest x));
  back = λ rest x. out n after rest (subst (λ (l : List ℕ). Ends n l rest) e (w.back rest x));
}

pub ended : {text here after : List ℕ} (n : ℕ) → Within text n here → here ≡ 42 ∷ 41 ∷ after → 0 < n → Within text (n - 1) after
unfolding Ends
ended zero w e l = absurd (omega arith)
ended {text} {here} {after} (suc n) w e l =
    let less : suc n - 1 ≡ n = omega arith in
    rw less record {
      forth = λ rest x. w.forth rest (subst (λ (l : List ℕ). Ends (suc n) l rest) (sym e) (after, closed, x));
      back = λ rest x.
          let y = subst (λ (l : List ℕ). Ends (suc n) l rest) e (w.back rest x) in
          subst (λ (l : List ℕ). Ends n l rest) (behind_end y.1) y.2;
    }

pub whole : {text here after : List ℕ} {n : ℕ} → Within text n here → here ≡ 42 ∷ 41 ∷ after → n ≡ 0 → Inside text after
unfolding Ends
whole {text} {here} {after} w e z =
    let v = subst (λ (m : ℕ). Within text m here) z w in
    v.forth after (subst (λ (l : List ℕ). Inside l after) (sym e) closed)

pub passed : {text here after : List ℕ} {n b : ℕ} → Within text n here → begins_comment here ≡ false → ends_comment here ≡ false → here ≡ b ∷ after → Within text n after
passed {text} {here} {after} {n} {b} w o c e = record {
  forth = λ rest x. w.forth rest (subst (λ (l : List ℕ). Ends n l rest) (sym e) (onto n b after rest (sym (ap begins_comment e) ∙ o) (sym (ap ends_comment e) ∙ c) x));
  back = λ rest x. past n b after rest (sym (ap begins_comment e) ∙ o) (sym (ap ends_comment e) ∙ c) (subst (λ (l : List ℕ). Ends n l rest) e (w.back rest x));
}

pub unfinished : {text here : List ℕ} {n : ℕ} → Within text n here → here ≡ [] → (rest : List ℕ) → Inside text rest → ⊥
unfinished {text} {n = n} w e rest x = never n rest (subst (λ (l : List ℕ). Ends n l rest) e (w.back rest x))
