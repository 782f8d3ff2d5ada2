-- A shelf's list without bad lines names distinct URIs, and not too many.
use Rattle.std.proofs.Common.{◌≡◌, ◌≤◌, Bool, true, false, List, [], ◌∷◌, ◌++◌, ◌+◌, length, refl, sym, ap, subst, arith}
use Rattle.std.specs.Prelude.{nat_le, cond}
use Rattle.std.specs.List.{concat, list_all}
use Rattle.std.proofs.lemmas.Bool.{leb-true}
use Rattle.ac_types.specs.Types.{Bytes}
use Rattle.ac_types.specs.Limits.{is_uri}
use Rattle.ac_types.proofs.Same.{both_true}
use Rattle.ac_rules.specs.Modules.{are_distinct}
use Rattle.acute_files.specs.ShelfLists.{Listed, ShelfAnswer, Lists, BadLine, lines, has_form, entries_of_lines, listed_uris, are_good, answer_behind, shelf_answer}
use Rattle.acute_files.proofs.Lines.{all_uris}

-- entries that a shelf may have
pub record AreFit (xs : List Listed) : Type 0 where
  pub few : length xs ≤ 256
  pub uris : list_all (λ (x : Listed). is_uri x.uri) xs ≡ true
  pub apart : are_distinct (listed_uris xs) ≡ true

-- what an answer lists
abbrev listed_in : ShelfAnswer → List Listed
listed_in (Lists xs) = xs
listed_in (BadLine n) = []

abbrev IsList : ShelfAnswer → Type 0
IsList (Lists xs) = Unit {0}
IsList (BadLine n) = ⊥

good_fit : (ls : List Bytes) → are_good ls ≡ true → AreFit (entries_of_lines ls)
good_fit ls g =
    let p = both_true (list_all has_form ls) _ g in
    let q = both_true (nat_le (length (concat ls)) 65536) _ p.1 in
    let r = both_true (nat_le (length (entries_of_lines ls)) 256) _ q.1 in
    record { few = leb-true (length (entries_of_lines ls)) 256 r.0; uris = all_uris ls; apart = r.1 }

fit_behind : (before rest : List Bytes) (xs : List Listed) → AreFit (entries_of_lines before) → answer_behind before rest ≡ Lists xs → AreFit xs
fit_behind before [] xs h e = subst AreFit (ap listed_in e) h
fit_behind before (line ∷ rest) xs h e =
    by (are_good (before ++ line ∷ [])) refl e (λ g. fit_behind (before ++ line ∷ []) rest xs (good_fit (before ++ line ∷ []) g)) where
      by : (b : Bool) → are_good (before ++ line ∷ []) ≡ b → cond b (answer_behind (before ++ line ∷ []) rest) (BadLine (length before + 1)) ≡ Lists xs
          → (are_good (before ++ line ∷ []) ≡ true → answer_behind (before ++ line ∷ []) rest ≡ Lists xs → AreFit xs) → AreFit xs
      by true g q behind = behind g q
      by false g q behind = absurd (subst IsList (sym q) tt)

pub good_list : (text : Bytes) (xs : List Listed) → shelf_answer text ≡ Lists xs → AreFit xs
good_list text xs e = fit_behind [] (lines text) xs (record { few = omega arith; uris = refl; apart = refl }) e
