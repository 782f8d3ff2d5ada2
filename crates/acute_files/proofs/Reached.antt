-- How far the lines of a shelf's list have been gone through.
use Rattle.std.proofs.Common.{◌≡◌, ◌<◌, ◌≤◌, ◌+◌, ◌&&◌, ℕ, Bool, true, false, List, [], ◌∷◌, ◌++◌, length, sym, ◌∙◌, ap, arith, length-append}
use Rattle.std.specs.Prelude.{nat_le, cond}
use Rattle.std.specs.List.{concat, list_all}
use Rattle.std.proofs.lemmas.Bool.{leb-true, le-leb, lt-leb}
use Rattle.ac_types.specs.Types.{Bytes}
use Rattle.ac_types.proofs.Same.{both_true}
use Rattle.ac_types.specs.Limits.{is_uri}
use Rattle.acute_files.specs.ShelfLists.{Listed, Lists, BadLine, lines, line_has, without_feed, has_form, had_of, entries_of_lines, are_good, answer_behind, shelf_answer}
use Rattle.acute_files.specs.inner.Behind.{are_few, fits_behind}
use Rattle.acute_files.proofs.Lines.{good_more, concat_more, entries_more, all_uris}

-- good lines in front of the rest, so many, with these entries
pub record Reached (text rest : Bytes) (number place : ℕ) (xs : List Listed) : Type 0 where
  pub before : List Bytes
  pub good : are_good before ≡ true
  pub answer : shelf_answer text ≡ answer_behind before (lines rest)
  pub number_is : number ≡ length before
  pub place_is : place ≡ length (concat before)
  pub counted : number ≤ place
  pub entries : xs ≡ entries_of_lines before

module _ {text rest : Bytes} {number place : ℕ} {xs : List Listed} (r : Reached text rest number place xs) where
  pub within : place ≤ 65536
  within =
      let parts = both_true (list_all has_form r.before) _ r.good in
      let most = both_true (nat_le (length (concat r.before)) 65536) _ parts.1 in
      rw r.place_is (leb-true (length (concat r.before)) 65536 most.0)

  pub few : are_few xs ≡ true
  few =
      let parts = both_true (list_all has_form r.before) _ r.good in
      rw r.entries (both_true (nat_le (length (concat r.before)) 65536) _ parts.1).1

  pub uris : list_all (λ (x : Listed). is_uri x.uri) xs ≡ true
  uris = rw r.entries (all_uris r.before)

  pub at_end : rest ≡ [] → shelf_answer text ≡ Lists xs
  at_end e = r.answer ∙ ap (λ (b : Bytes). answer_behind r.before (lines b)) e ∙ ap Lists (sym r.entries)

  module _ (line behind : Bytes) (split : lines rest ≡ line ∷ lines behind) where
    next : (b : Bool) → (nat_le (place + length line) 65536 && fits_behind xs (line_has (without_feed line))) ≡ b
        → shelf_answer text ≡ cond b (answer_behind (r.before ++ line ∷ []) (lines behind)) (BadLine (length r.before + 1))
    next b is =
        let test : are_good (r.before ++ line ∷ []) ≡ b = good_more r.before line r.good ∙ rw (sym r.place_is, sym r.entries) is in
        r.answer ∙ ap (answer_behind r.before) split ∙ ap (λ (t : Bool). cond t (answer_behind (r.before ++ line ∷ []) (lines behind)) (BadLine (length r.before + 1))) test

    -- a line past the limit, and one that doesn't fit
    pub too_long : 65536 < place + length line → shelf_answer text ≡ BadLine (number + 1)
    too_long lt =
        next false (ap (λ (b : Bool). b && fits_behind xs (line_has (without_feed line))) (lt-leb (place + length line) 65536 lt))
        ∙ ap (λ (n : ℕ). BadLine (n + 1)) (sym r.number_is)

    pub go_on : (ys : List Listed) → 0 < length line → place + length line ≤ 65536 → true ≡ fits_behind xs (line_has (without_feed line)) → ys ≡ xs ++ had_of (line_has (without_feed line)) → Reached text behind (number + 1) (place + length line) ys
    go_on ys some le is are =
        let all : (nat_le (place + length line) 65536 && fits_behind xs (line_has (without_feed line))) ≡ true =
        ap (λ (b : Bool). b && fits_behind xs (line_has (without_feed line))) (le-leb (place + length line) 65536 le) ∙ sym is in
        record {
          before = r.before ++ line ∷ [];
          good = good_more r.before line r.good ∙ rw (sym r.place_is, sym r.entries) all;
          answer = next true all;
          number_is = sym (length-append r.before (line ∷ []) ∙ ap (λ (n : ℕ). n + 1) (sym r.number_is));
          place_is = sym (concat_more r.before line ∙ ap (λ (n : ℕ). n + length line) (sym r.place_is));
          counted = omega (arith, r.counted, some);
          entries = are ∙ ap (λ (zs : List Listed). zs ++ had_of (line_has (without_feed line))) r.entries ∙ sym (entries_more r.before line);
        }
