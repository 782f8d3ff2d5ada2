-- The lines of verdicts, one after another.
use Rattle.std.proofs.Common.{◌≡◌, ◌<◌, ◌≤◌, ◌+◌, ◌&&◌, ℕ, zero, suc, Bool, List, [], ◌∷◌, ◌++◌, length, get_or, map, drop, refl, sym, ◌∙◌, ap, ap₂, subst, arith, append_assoc, append-nil}
use Rattle.std.specs.Borrow.{Bor}
use Rattle.std.specs.List.{list_all}
use Rattle.ac_types.specs.Types.{Bytes}
use Rattle.ac_types.specs.declared.text.Text.{Text}
use Rattle.ac_load_rules.specs.Accepting.{Shelved}
use Rattle.ac_batch.specs.Verdicts.{AreVerdicts}
use Rattle.ac_batch.specs.declared.verdict.Verdict.{Verdict}
use Rattle.acute_answers.specs.declared.status.Status.{Status}
use Rattle.acute_answers.specs.Answers.{ShownAnswer, printing}
use Rattle.acute_answers.specs.Checking.{Checks, checked, verdict_line, verdict_lines, verdicts_status}

-- names behind references
abbrev pub named : List (Bor Bytes) → List Bytes
named names = map (λ s. s.now) names

-- the lines from a place on begin with the one there
lines_there : (names : List (Bor Bytes)) (vs : List Verdict) (i : ℕ) (d : Bor Bytes) (v : Verdict) → i < length names → i < length vs
    → verdict_lines (named (drop i names)) (drop i vs) ≡ verdict_line (get_or names i d).now (get_or vs i v) ++ verdict_lines (named (drop (suc i) names)) (drop (suc i) vs)
lines_there [] vs i d v lt le = absurd (omega (arith, lt))
lines_there (x ∷ names) [] i d v lt le = absurd (omega (arith, le))
lines_there (x ∷ names) (y ∷ vs) zero d v lt le = refl
lines_there (x ∷ names) (y ∷ vs) (suc i) d v lt le = lines_there names vs i d v (omega (arith, lt)) (omega (arith, le))

-- lines in front of the others, and one more
pub line_more : (names : List (Bor Bytes)) (vs : List Verdict) (i : ℕ) (d : Bor Bytes) (v : Verdict) (all before now : Bytes) → i < length names → i < length vs
    → before ++ verdict_lines (named (drop i names)) (drop i vs) ≡ all → now ≡ before ++ verdict_line (get_or names i d).now (get_or vs i v)
    → now ++ verdict_lines (named (drop (i + 1) names)) (drop (i + 1) vs) ≡ all
line_more names vs i d v all before now lt le so_far put =
    let next : i + 1 ≡ suc i = omega arith in
    let line = verdict_line (get_or names i d).now (get_or vs i v) in
    let rest = verdict_lines (named (drop (suc i) names)) (drop (suc i) vs) in
    rw (next, put)
    (append_assoc before line rest ∙ ap (λ (l : Bytes). before ++ l) (sym (lines_there names vs i d v lt le)) ∙ so_far)

-- behind the last name there are no lines
none_left : (names : List (Bor Bytes)) (i : ℕ) → length names ≤ i → drop i names ≡ []
none_left [] zero le = refl
none_left [] (suc i) le = refl
none_left (x ∷ names) zero le = absurd (omega (arith, le))
none_left (x ∷ names) (suc i) le = none_left names i (omega (arith, le))

pub lines_end : (names : List (Bor Bytes)) (vs : List Verdict) (i : ℕ) (all before : Bytes) → length names ≤ i → before ++ verdict_lines (named (drop i names)) (drop i vs) ≡ all → before ≡ all
lines_end names vs i all before le so_far =
    sym (append-nil before) ∙ ap (λ (ns : List (Bor Bytes)). before ++ verdict_lines (named ns) (drop i vs)) (sym (none_left names i le)) ∙ so_far

-- as many verdicts as texts
pub verdict_count : (texts : List Text) (shelf : List Shelved) (vs : List Verdict) → AreVerdicts texts shelf vs → length texts ≡ length vs
verdict_count [] shelf [] are = refl
verdict_count [] shelf (v ∷ vs) are = absurd are
verdict_count (t ∷ texts) shelf [] are = absurd are
verdict_count (t ∷ texts) shelf (v ∷ vs) are = let rest = verdict_count texts shelf vs are.1 in omega (arith, rest)

-- what is tested of all from a place on
all_there : {A : Type 0} (test : A → Bool) (vs : List A) (i : ℕ) (v : A) → i < length vs → list_all test (drop i vs) ≡ (test (get_or vs i v) && list_all test (drop (suc i) vs))
all_there test [] i v lt = absurd (omega (arith, lt))
all_there test (x ∷ vs) zero v lt = refl
all_there test (x ∷ vs) (suc i) v lt = all_there test vs i v (omega (arith, lt))

pub all_at : {A : Type 0} (test : A → Bool) (vs : List A) (i : ℕ) (v : A) (b : Bool) → i < length vs → b ≡ test (get_or vs i v) → list_all test (drop i vs) ≡ (b && list_all test (drop (i + 1) vs))
all_at test vs i v b lt is = let next : i + 1 ≡ suc i = omega arith in rw (next, is) (all_there test vs i v lt)

-- an answer of these lines and this status is what `check` gives
pub checks_so : (names : List Bytes) (texts : List Text) (shelf : List Shelved) (vs : List Verdict) → AreVerdicts texts shelf vs → (a : ShownAnswer) (status : Status) (lines : Bytes) → a ≡ printing status lines → status ≡ verdicts_status vs → lines ≡ verdict_lines names vs → Checks names texts shelf a
checks_so names texts shelf vs are a status lines is status_is lines_are =
    let all : a ≡ printing (verdicts_status vs) (verdict_lines names vs) = is ∙ ap₂ (λ (s : Status) (l : Bytes). printing s l) status_is lines_are in
    subst (Checks names texts shelf) (sym all) (checked vs are)
