-- One step of the walk through the words.
use Rattle.std.proofs.Common.{◌≡◌, ◌+◌, ◌&&◌, ℕ, Bool, cond, true, false, refl, ap, subst, List, [], ◌∷◌, ◌++◌, min, Option, Some, None}
use Rattle.std.specs.Prelude.{◌==◌, if◌then◌else◌, find, option_map}
use Rattle.std.specs.List.{fold}
use Rattle.clap.specs.Lexer.{usize_max}
use Rattle.clap.specs.Walk.{Row, Rule, Waiting, Walk, idle, option, positional, takes_several, arg_by_id, arg_by_index, arg_by_long, has_row, is_pending, settled, settled_rows, subcommand_met, walked}
use Rattle.clap.specs.declared.error.kind.ErrorKind.{ErrorKind}
use Rattle.clap.specs.Kinds.{Kinds, or_else}
use Rattle.clap.specs.Faults.{settle_fault, turn_fault, walk_fault}
use Rattle.acute_words.specs.Form.{Form, WordPlace, Text, option_in, place_of_number}
use Rattle.acute_words.specs.inner.Rules.{Every, OptionFits, PlaceFits, option_rule, place_rule, row, rule_with, shape_with}
use Rattle.acute_words.proofs.Looks.{IsNamed, IsPlain}
use Rattle.acute_words.proofs.Rows.{same_bytes, used_once, used_bare}

-- a walk with these rows, with words that are held for an argument, and at this place
abbrev pub walk_at : List Row → Option (Text × List Text) → Waiting → ℕ → Walk
walk_at rows pending waiting k = record {
  held = record { rows = rows; pending = pending; skip = 0 };
  waiting = waiting;
  position = k;
  is_trailing = false;
  stopped = None;
}

-- the rows, where no step fails
abbrev pub outcome : Kinds → List Row → Option (List Row)
outcome [] rows = Some rows
outcome (k ∷ ks) rows = None

-- the later outcome, where the step doesn't fail
abbrev pub gate : Kinds → Option (List Row) → Option (List Row)
gate [] t = t
gate (k ∷ ks) t = None

-- what a command with these rules makes of the words from a walk on
unfoldable pub total : List Rule → Walk → List Text → Option (List Row)
total c w words =
    let end = (fold (walked c []) w words).held in
    outcome (or_else (walk_fault (shape_with [] c) [] w words) (settle_fault c false end)) (settled c end).rows

-- the first step decides before the later ones
pub gated : (ks more last : Kinds) (rows : List Row)
    → outcome (or_else (or_else ks more) last) rows ≡ gate ks (outcome (or_else more last) rows)
gated [] more last rows = refl
gated (k ∷ ks) more last rows = refl

-- one word more
pub total_step : (c : List Rule) (w : Walk) (word : Text) (rest : List Text)
    → total c w (word ∷ rest) ≡ gate (turn_fault (shape_with [] c) [] w word) (total c (walked c [] w word) rest)
unfolding walk_fault total
total_step c w word rest = gated (turn_fault (shape_with [] c) [] w word) (walk_fault (shape_with [] c) [] (walked c [] w word) rest) _ _

-- nothing is not something
pub is_not_none : {X : Type 0} (x : X) → ◌≡◌ {A = Option X} None (Some x) → ⊥
is_not_none x e = cc

-- what holds of each element holds of the one that is found
pub found : {X : Type 0} (p : X → Bool) (P : X → Type 0) (xs : List X) (x : X) → Every P xs → find p xs ≡ Some x → P x
found p P [] x each is = absurd (is_not_none x is)
found p P (y ∷ ys) x each is = go (p y) (found p P ys x each.1) is
  where
    go : (b : Bool) → (find p ys ≡ Some x → P x) → cond b (Some y) (find p ys) ≡ Some x → P x
    go true more is = let same : y ≡ x = cc in subst P same each.0
    go false more is = more is

-- an element that is found passes the test
pub found_test : {X : Type 0} (p : X → Bool) (xs : List X) (x : X) → find p xs ≡ Some x → p x ≡ true
found_test p [] x is = absurd (is_not_none x is)
found_test p (y ∷ ys) x is = go (p y) refl (found_test p ys x) is
  where
    go : (b : Bool) → p y ≡ b → (find p ys ≡ Some x → p x ≡ true) → cond b (Some y) (find p ys) ≡ Some x → p x ≡ true
    go true e more is = let same : y ≡ x = cc in subst (λ z. p z ≡ true) same e
    go false e more is = more is

-- the rules of a command are those of a form
pub record Reads (c : List Rule) (f : Form) : Type 0 where
  pub long : (name : Text) → arg_by_long c name ≡ option_map option_rule (option_in f name)
  pub index : (k : ℕ) → arg_by_index c k ≡ option_map place_rule (place_of_number f k)
  pub options : Every (OptionFits c f) f.options
  pub places : Every (PlaceFits c f) f.places

-- the rule of an argument with one value
abbrev pub single : Text → Option Text → Option ℕ → Rule
single id long index = rule_with id long index 1 1

-- an argument that has its value is used before the next word
pub settles_end : (c : List Rule) (id v : Text) (long : Option Text) (index : Option ℕ) (rows : List Row) (k : ℕ) (b : Bool)
    → arg_by_id c id ≡ Some (single id long index) → has_row id rows ≡ b
    → total c (walk_at rows (Some (id, v ∷ [])) idle k) []
    ≡ (if b then None else total c (walk_at (rows ++ row (id, v ∷ []) ∷ []) None idle k) [])
unfolding walk_fault total
settles_end c id v long index rows k true at e = rw (at, e) refl
settles_end c id v long index rows k false at e = rw (at, e) (ap Some (used_once id long index 1 1 v [] rows e))

-- what follows an option, and a plain word, where nothing is pending
abbrev pub more : List Rule → Text → List Text → List Row → ℕ → List Text → Option (List Row)
more c id values rows k ws = if has_row id rows then None else total c (walk_at (rows ++ row (id, values) ∷ []) None idle k) ws

-- what follows an option
abbrev pub after_option : List Rule → Option (Text × Bool) → Option Text → List Row → ℕ → List Text → Option (List Row)
after_option c None x rows k ws = None
after_option c (Some (q, true)) (Some y) rows k ws = more c q (y ∷ []) rows k ws
after_option c (Some (q, true)) None rows k ws = total c (walk_at rows (Some (q, [])) (option q) k) ws
after_option c (Some (q, false)) (Some y) rows k ws = None
after_option c (Some (q, false)) None rows k ws = more c q [] rows k ws

-- what follows a plain word at a place, by whether the place takes a run
abbrev pub word_to : List Rule → Text → Option ℕ → Text → List Row → ℕ → List Text → Option (List Row)
word_to c id None w rows k ws = total c (walk_at rows (Some (id, w ∷ [])) idle (min (k + 1) usize_max)) ws
word_to c id (Some most) w rows k ws = total c (walk_at rows (Some (id, w ∷ [])) positional k) ws

-- what follows a plain word, by the place that takes it
abbrev pub after_place : List Rule → Option WordPlace → Text → List Row → ℕ → List Text → Option (List Row)
after_place c None w rows k ws = None
after_place c (Some q) w rows k ws = word_to c q.name q.most w rows k ws

-- the name of an option that was found
abbrev pub id_of : Option (Text × Bool) → Text
id_of None = []
id_of (Some q) = q.0

-- an option is met, where what is held passes
pub named_from : (c : List Rule) (rows0 rows : List Row) (p : Option (Text × List Text)) (waiting : Waiting) (k : ℕ) (w : Text) (ws : List Text) (n : Text) (x : Option Text)
    (o : Option (Text × Bool)) (b : Bool) → has_row (id_of o) rows ≡ b → subcommand_met [] waiting w ≡ None
    → settle_fault c false (record { rows = rows0; pending = p; skip = 0 }) ≡ [] → settled_rows c p rows0 ≡ rows
    → IsNamed w n x → arg_by_long c n ≡ option_map option_rule o
    → total c (walk_at rows0 p waiting k) (w ∷ ws) ≡ after_option c o x rows k ws
unfolding walked
named_from c rows0 rows p waiting k w ws n x None b e free passes is i met = rw (total_step, free, i.ends, i.long, met) refl
named_from c rows0 rows p waiting k w ws n (Some y) (Some (q, true)) true e free passes is i met =
    rw (total_step, free, i.ends, i.long, met, passes, is, e) refl
named_from c rows0 rows p waiting k w ws n (Some y) (Some (q, true)) false e free passes is i met =
    let once = used_once q (Some q) None 1 1 y [] rows e in rw (total_step, free, i.ends, i.long, met, passes, is, once, e) refl
named_from c rows0 rows p waiting k w ws n None (Some (q, true)) b e free passes is i met =
    rw (total_step, free, i.ends, i.long, met, passes, is) refl
named_from c rows0 rows p waiting k w ws n (Some y) (Some (q, false)) b e free passes is i met =
    rw (total_step, free, i.ends, i.long, met) refl
named_from c rows0 rows p waiting k w ws n None (Some (q, false)) true e free passes is i met =
    rw (total_step, free, i.ends, i.long, met, passes, is, e) refl
named_from c rows0 rows p waiting k w ws n None (Some (q, false)) false e free passes is i met =
    let once = used_bare q (Some q) None rows e in rw (total_step, free, i.ends, i.long, met, passes, is, once, e) refl

-- the pending words are no run that the place goes on with
abbrev pub IsNew : Option WordPlace → Option (Text × List Text) → Type 0
IsNew None p = Unit {0}
IsNew (Some q) p = (is_pending (place_rule q) p && takes_several (place_rule q)) ≡ false

-- a run may have more words than one
abbrev pub IsRun : Option ℕ → Type 0
IsRun None = Unit {0}
IsRun (Some most) = (1 == most) ≡ false

-- the same of a place
abbrev pub RunFits : Option WordPlace → Type 0
RunFits None = Unit {0}
RunFits (Some q) = IsRun q.most

-- a plain word is met at a place, where what is held passes
pub place_from : (c : List Rule) (rows0 rows : List Row) (p : Option (Text × List Text)) (k : ℕ) (w : Text) (ws : List Text) (q : WordPlace) (m : Option ℕ)
    → q.most ≡ m → settle_fault c false (record { rows = rows0; pending = p; skip = 0 }) ≡ [] → settled_rows c p rows0 ≡ rows
    → IsPlain w → arg_by_index c k ≡ Some (place_rule q) → IsNew (Some q) p → IsRun m
    → total c (walk_at rows0 p idle k) (w ∷ ws) ≡ word_to c q.name m w rows k ws
unfolding walked
place_from c rows0 rows p k w ws q None em passes is i met new run =
    let new' = rw em at new in rw (total_step, i.ends, i.long, i.short, met, em, new', passes, is) refl
place_from c rows0 rows p k w ws q (Some m) em passes is i met new run =
    let new' = rw em at new in rw (total_step, i.ends, i.long, i.short, met, em, new', passes, is, run) refl

-- a plain word is met, where what is held passes
pub plain_from : (c : List Rule) (rows0 rows : List Row) (p : Option (Text × List Text)) (k : ℕ) (w : Text) (ws : List Text) (o : Option WordPlace)
    → settle_fault c false (record { rows = rows0; pending = p; skip = 0 }) ≡ [] → settled_rows c p rows0 ≡ rows
    → IsPlain w → arg_by_index c k ≡ option_map place_rule o → IsNew o p → RunFits o
    → total c (walk_at rows0 p idle k) (w ∷ ws) ≡ after_place c o w rows k ws
unfolding walked
plain_from c rows0 rows p k w ws None passes is i met new run = rw (total_step, i.ends, i.long, i.short, met) refl
plain_from c rows0 rows p k w ws (Some q) passes is i met new run = place_from c rows0 rows p k w ws q q.most refl passes is i met new run

-- where what is pending fails, each next step fails
pub named_stuck : (c : List Rule) (rows0 : List Row) (p : Option (Text × List Text)) (k : ℕ) (w : Text) (ws : List Text) (n : Text) (x : Option Text)
    (o : Option (Text × Bool)) (waiting : Waiting) (kind : ErrorKind) (kinds : Kinds)
    → settle_fault c false (record { rows = rows0; pending = p; skip = 0 }) ≡ kind ∷ kinds
    → subcommand_met [] waiting w ≡ None
    → IsNamed w n x → arg_by_long c n ≡ option_map option_rule o
    → total c (walk_at rows0 p waiting k) (w ∷ ws) ≡ None
unfolding walked
named_stuck c rows0 p k w ws n x None waiting kind kinds fails free i met = rw (total_step, free, i.ends, i.long, met) refl
named_stuck c rows0 p k w ws n (Some y) (Some (q, true)) waiting kind kinds fails free i met =
    rw (total_step, free, i.ends, i.long, met, fails) refl
named_stuck c rows0 p k w ws n None (Some (q, true)) waiting kind kinds fails free i met =
    rw (total_step, free, i.ends, i.long, met, fails) refl
named_stuck c rows0 p k w ws n (Some y) (Some (q, false)) waiting kind kinds fails free i met =
    rw (total_step, free, i.ends, i.long, met) refl
named_stuck c rows0 p k w ws n None (Some (q, false)) waiting kind kinds fails free i met =
    rw (total_step, free, i.ends, i.long, met, fails) refl

-- where what is held fails, the next plain word fails
pub plain_stuck : (c : List Rule) (rows0 : List Row) (p : Option (Text × List Text)) (k : ℕ) (w : Text) (ws : List Text) (o : Option WordPlace) (kind : ErrorKind) (kinds : Kinds)
    → settle_fault c false (record { rows = rows0; pending = p; skip = 0 }) ≡ kind ∷ kinds
    → IsPlain w → arg_by_index c k ≡ option_map place_rule o → IsNew o p
    → total c (walk_at rows0 p idle k) (w ∷ ws) ≡ None
unfolding walked
plain_stuck c rows0 p k w ws None kind kinds fails i met new = rw (total_step, i.ends, i.long, i.short, met) refl
plain_stuck c rows0 p k w ws (Some q) kind kinds fails i met new = rw (total_step, i.ends, i.long, i.short, met, new, fails) refl

-- the word is the value of the option that waits for it
pub value_met : (c : List Rule) (rows : List Row) (id : Text) (long : Option Text) (index : Option ℕ) (k : ℕ) (w : Text) (ws : List Text)
    → arg_by_id c id ≡ Some (single id long index) → IsPlain w
    → total c (walk_at rows (Some (id, [])) (option id) k) (w ∷ ws) ≡ total c (walk_at rows (Some (id, w ∷ [])) idle k) ws
unfolding walked
value_met c rows id long index k w ws at i = rw (total_step, i.ends, i.long, i.short, at, same_bytes id) refl
