-- The steps of a run of words.
use Rattle.std.proofs.Common.{◌≡◌, ◌∙◌, ℕ, Bool, true, false, refl, sym, ap, rules, List, [], ◌∷◌, ◌++◌, length, Option, Some, None}
use Rattle.std.specs.Prelude.{◌==◌, if◌then◌else◌, option_map, nat_lt}
use Rattle.clap.specs.Walk.{Row, Rule, idle, positional, arg_by_id, arg_by_index, arg_by_long, has_row, settled_rows, walked}
use Rattle.clap.specs.declared.error.kind.ErrorKind.TheVariants.{ArgumentConflict, TooManyValues}
use Rattle.clap.specs.declared.builder.value_parser.ValueParser.TheVariants as vp
use Rattle.clap.specs.Kinds.{range_kinds, values_kinds}
use Rattle.clap.specs.Faults.{settle_fault, walk_fault}
use Rattle.acute_words.specs.Form.{WordPlace, Text}
use Rattle.acute_words.specs.inner.Rules.{most_of, option_rule, place_rule, row}
use Rattle.acute_words.proofs.Looks.{IsNamed, IsPlain}
use Rattle.acute_words.proofs.Rows.{same_bytes, used_once}
use Rattle.acute_words.proofs.Steps.{walk_at, total, total_step, more, named_from, named_stuck}

-- each text passes as a text
pub strings_pass : (vs : List Text) → values_kinds false vp.String vs ≡ []
strings_pass [] = refl
strings_pass (v ∷ vs) = strings_pass vs

-- a run fails by its length only where it is too long
pub range_is : (most n : ℕ) → (1 == most) ≡ false → (n == 0) ≡ false → nat_lt n 1 ≡ false
    → range_kinds 1 most n ≡ (if nat_lt most n then TooManyValues ∷ [] else [])
range_is most n run some least = rw (run, some, least) refl

-- a run fails where it is too long or not the first
pub run_fault : (c : List Rule) (q : WordPlace) (most : ℕ) (v : Text) (vs : List Text) (rows : List Row) (long b : Bool)
    → q.most ≡ Some most → (1 == most) ≡ false → arg_by_id c q.name ≡ Some (place_rule q)
    → nat_lt most (length (v ∷ vs)) ≡ long → has_row q.name rows ≡ b
    → settle_fault c false (record { rows = rows; pending = Some (q.name, v ∷ vs); skip = 0 })
    ≡ (if long then TooManyValues ∷ [] else if b then ArgumentConflict ∷ [] else [])
run_fault c q most v vs rows true b em run at l e =
    let some : (length (v ∷ vs) == 0) ≡ false = search rules in
    let least : nat_lt (length (v ∷ vs)) 1 ≡ false = search rules in
    let range = range_is most (length (v ∷ vs)) run some least in
    rw (at, em, range, l) refl
run_fault c q most v vs rows false true em run at l e =
    let some : (length (v ∷ vs) == 0) ≡ false = search rules in
    let least : nat_lt (length (v ∷ vs)) 1 ≡ false = search rules in
    let range = range_is most (length (v ∷ vs)) run some least in
    rw (at, em, range, l, e) refl
run_fault c q most v vs rows false false em run at l e =
    let some : (length (v ∷ vs) == 0) ≡ false = search rules in
    let least : nat_lt (length (v ∷ vs)) 1 ≡ false = search rules in
    let range = range_is most (length (v ∷ vs)) run some least in
    let pass = strings_pass vs in
    rw (at, em, range, l, e, pass) refl

-- a run that ends is one more row
pub run_settled : (c : List Rule) (q : WordPlace) (v : Text) (vs : List Text) (rows : List Row) → arg_by_id c q.name ≡ Some (place_rule q)
    → has_row q.name rows ≡ false
    → settled_rows c (Some (q.name, v ∷ vs)) rows ≡ rows ++ row (q.name, v ∷ vs) ∷ []
run_settled c q v vs rows at e = rw at (used_once q.name None (Some q.number) 1 (most_of q.most) v vs rows e)

-- the word goes on with the run
pub run_met : (c : List Rule) (rows : List Row) (q : WordPlace) (most : ℕ) (v : Text) (vs : List Text) (k : ℕ) (w : Text) (ws : List Text)
    → q.most ≡ Some most → (1 == most) ≡ false → arg_by_index c k ≡ Some (place_rule q) → IsPlain w
    → total c (walk_at rows (Some (q.name, v ∷ vs)) positional k) (w ∷ ws)
    ≡ total c (walk_at rows (Some (q.name, v ∷ (vs ++ w ∷ []))) positional k) ws
unfolding walked
run_met c rows q most v vs k w ws em run met i = rw (total_step, i.ends, i.long, i.short, met, em, run, same_bytes q.name) refl

-- what follows a run
abbrev pub after_run : List Rule → Bool → Text → List Text → List Row → ℕ → List Text → Option (List Row)
after_run c long id values rows k words = if long then None else more c id values rows k words

-- a run at the end of the words
pub run_end : (c : List Rule) (rows : List Row) (q : WordPlace) (most : ℕ) (v : Text) (vs : List Text) (k : ℕ) (long b : Bool)
    → q.most ≡ Some most → (1 == most) ≡ false → arg_by_id c q.name ≡ Some (place_rule q)
    → nat_lt most (length (v ∷ vs)) ≡ long → has_row q.name rows ≡ b
    → total c (walk_at rows (Some (q.name, v ∷ vs)) positional k) [] ≡ after_run c long q.name (v ∷ vs) rows k []
unfolding walk_fault total
run_end c rows q most v vs k true b em run at l e = let fault = run_fault c q most v vs rows true b em run at l e in rw fault refl
run_end c rows q most v vs k false true em run at l e =
    let fault = run_fault c q most v vs rows false true em run at l e in
    rw (fault, e) refl
run_end c rows q most v vs k false false em run at l e =
    let fault = run_fault c q most v vs rows false false em run at l e in rw (fault, e) (ap Some (run_settled c q v vs rows at e))

-- an option after a run
pub run_named : (c : List Rule) (rows : List Row) (q : WordPlace) (most : ℕ) (v : Text) (vs : List Text) (k : ℕ) (long b : Bool) (w : Text) (ws : List Text)
    (n : Text) (x : Option Text) (o : Option (Text × Bool))
    → q.most ≡ Some most → (1 == most) ≡ false → arg_by_id c q.name ≡ Some (place_rule q)
    → nat_lt most (length (v ∷ vs)) ≡ long → has_row q.name rows ≡ b → IsNamed w n x → arg_by_long c n ≡ option_map option_rule o
    → total c (walk_at rows (Some (q.name, v ∷ vs)) positional k) (w ∷ ws) ≡ after_run c long q.name (v ∷ vs) rows k (w ∷ ws)
run_named c rows q most v vs k true b w ws n x o em run at l e i met =
    named_stuck c rows (Some (q.name, v ∷ vs)) k w ws n x o positional TooManyValues [] (run_fault c q most v vs rows true b em run at l e) refl i met
run_named c rows q most v vs k false true w ws n x o em run at l e i met =
    rw e (named_stuck c rows (Some (q.name, v ∷ vs)) k w ws n x o positional ArgumentConflict [] (run_fault c q most v vs rows false true em run at l e) refl i met)
run_named c rows q most v vs k false false w ws n x o em run at l e i met =
    let rows' = rows ++ row (q.name, v ∷ vs) ∷ [] in
    rw e (named_from c rows rows' (Some (q.name, v ∷ vs)) positional k w ws n x o _ refl refl
    (run_fault c q most v vs rows false false em run at l e) (run_settled c q v vs rows at e) i met
    ∙ sym (named_from c rows' rows' None idle k w ws n x o _ refl refl refl refl i met))
