-- The words read from left to right give what `given_of` says.
use Rattle.std.proofs.Common.{◌≡◌, ◌∙◌, ◌+◌, ◌||◌, ℕ, Bool, true, false, suc, true≢false, not, refl, sym, ap, arith, List, [], ◌∷◌, ◌++◌, length, Option, Some, None, append-nil, append_assoc, lt-ltb, ltb-true}
use Rattle.std.specs.Prelude.{if◌then◌else◌, is_some, nat_lt, option_and_then, option_map}
use Rattle.std.specs.List.{list_any}
use Rattle.std.specs.Str.{bytes_eq}
use Rattle.std.proofs.Math.Bool.{and-false, or-true}
use Rattle.std.proofs.lemmas.Bool.{not-true}
use Rattle.clap.proofs.WalkLemmas.{both}
use Rattle.std.proofs.lemmas.List.Folds.{list_any-append}
use Rattle.acute_words.proofs.Chains.{map_step, none_each, other_order, same_each, some_step, two_steps}
use Rattle.acute_words.specs.Form.{Argument, Form, Given, Look, WordPlace, Text, arguments_of, given_from, given_of, given_once, is_once, look_of, named, option, option_in, place_of_number, plain, refused, place_after, with_next, with_option, with_place, with_place_in, with_run, with_values, with_word, word}
use Rattle.acute_words.proofs.Reading.{added, closed, has, nothing, option_met, place_met, read_from, run_of, start, state_at, step_by, value_of, with_item, word_at}

-- the entries added one by one
abbrev pub gather : Given → Given → Option Given
gather g [] = Some g
gather g (p ∷ rest) = option_and_then (λ h. gather h rest) (added p.0 p.1 g)

-- an entry whose name is new
once_more : (g : Given) (p : Text × List Text) → is_once g ≡ true → has p.0 g ≡ false → is_once (g ++ p ∷ []) ≡ true
once_more [] p once new = refl
once_more (q ∷ g) p once new =
    let parts = both (not (list_any (λ z. bytes_eq q.0 z.0) g)) (is_once g) once in
    let news = neither (bytes_eq q.0 p.0) (has p.0 g) new in
    let rest = once_more g p parts.1 news.1 in
    let joined = list_any-append (λ z. bytes_eq q.0 z.0) g (p ∷ []) in
    let others = not-true (list_any (λ z. bytes_eq q.0 z.0) g) parts.0 in
    rw (rest, joined, others, news.0) refl
  where
    neither : (a b : Bool) → (a || b) ≡ false → (a ≡ false) × (b ≡ false)
    neither true b e = absurd (true≢false e)
    neither false b e = (refl, e)

-- an entry whose name stands before
twice : (g : Given) (p : Text × List Text) (rest : Given) → has p.0 g ≡ true → is_once (g ++ p ∷ rest) ≡ false
twice [] p rest old = absurd (true≢false (sym old))
twice (q ∷ g) p rest old = go (bytes_eq q.0 p.0) (has p.0 g) refl refl old (twice g p rest)
  where
    go : (a b : Bool) → bytes_eq q.0 p.0 ≡ a → has p.0 g ≡ b → (a || b) ≡ true → (has p.0 g ≡ true → is_once (g ++ p ∷ rest) ≡ false)
        → is_once (q ∷ (g ++ p ∷ rest)) ≡ false
    go true b ea eb e more =
        let joined = list_any-append (λ z. bytes_eq q.0 z.0) g (p ∷ rest) in
        let found = or-true (list_any (λ z. bytes_eq q.0 z.0) g) in
        rw (joined, ea, found) refl
    go false b ea eb e more =
        let later = more (eb ∙ e) in
        let none = and-false (not (list_any (λ z. bytes_eq q.0 z.0) (g ++ p ∷ rest))) in
        rw (later, none) refl

-- entries can be added one by one exactly where no name stands twice
gathered : (g rest : Given) → is_once g ≡ true → gather g rest ≡ given_once (g ++ rest)
gathered g [] once = let same = append-nil g in rw (same, once) refl
gathered g (p ∷ rest) once = go (has p.0 g) refl (λ h e. gathered h rest e)
  where
    go : (b : Bool) → has p.0 g ≡ b → ((h : Given) → is_once h ≡ true → gather h rest ≡ given_once (h ++ rest))
        → gather g (p ∷ rest) ≡ given_once (g ++ p ∷ rest)
    go true e more = let no = twice g p rest e in rw (e, no) refl
    go false e more =
        rw e (more (g ++ p ∷ []) (once_more g p once e) ∙ ap given_once (append_assoc g (p ∷ []) rest))

-- what arguments give, after what was given before them
abbrev pub after : Form → Given → ℕ → List Argument → Option Given
after f g k args = option_and_then (gather g) (given_from f k args)

-- words of a run, before other arguments
abbrev pub words_then : List Text → List Argument → List Argument
words_then [] args = args
words_then (w ∷ ws) args = word w ∷ words_then ws args

words_then-append : (ws : List Text) (w : Text) (args : List Argument) → words_then (ws ++ w ∷ []) args ≡ words_then ws (word w ∷ args)
words_then-append [] w args = refl
words_then-append (x ∷ ws) w args = ap (λ xs. word x ∷ xs) (words_then-append ws w args)

abbrev begins_with_word : List Argument → Bool
begins_with_word (word w ∷ more) = true
begins_with_word _ = false

one_more : (most n : ℕ) → nat_lt most n ≡ true → nat_lt most (suc n) ≡ true
one_more most n e = let h = ltb-true most n e in lt-ltb most (suc n) (omega arith)

-- a word at the place of a run goes before those that follow
run_word : (f : Form) (p : WordPlace) (most k : ℕ) (v : Text) (more : List Argument) → place_of_number f k ≡ Some p → p.most ≡ Some most
    → given_from f k (word v ∷ more) ≡ option_and_then (with_run p.name most v more) (given_from f k more)
run_word f p most k v more at run = at_place (place_of_number f k) at
  where
    of_most : (m : Option ℕ) → m ≡ Some most
        → option_and_then (with_place p.name m v more) (given_from f (if is_some m then k else k + 1) more)
        ≡ option_and_then (with_run p.name most v more) (given_from f k more)
    of_most m e = rw e refl

    at_place : (o : Option WordPlace) → o ≡ Some p
        → option_and_then (with_place_in o v more) (given_from f (place_after o k) more)
        ≡ option_and_then (with_run p.name most v more) (given_from f k more)
    at_place o e = rw e (of_most p.most run)

-- the words of a run are the values of its place
run_given : (f : Form) (p : WordPlace) (most k : ℕ) (args : List Argument) (v : Text) (vs : List Text) → place_of_number f k ≡ Some p
    → p.most ≡ Some most → begins_with_word args ≡ false
    → given_from f k (words_then (v ∷ vs) args) ≡ option_and_then (with_values p.name most (v ∷ vs)) (given_from f k args)
run_given f p most k [] v [] at run ends = run_word f p most k v [] at run
run_given f p most k (option id values ∷ more) v [] at run ends = run_word f p most k v (option id values ∷ more) at run
run_given f p most k (word w ∷ more) v [] at run ends = absurd (true≢false ends)
run_given f p most k args v (u ∷ us) at run ends =
    run_word f p most k v (words_then (u ∷ us) args) at run
    ∙ ap (option_and_then (with_run p.name most v (words_then (u ∷ us) args))) (run_given f p most k args u us at run ends)
    ∙ go (given_from f k args)
  where
    longer : (b : Bool) (given : Given) → nat_lt most (length (u ∷ us)) ≡ b
        → option_and_then (with_run p.name most v (words_then (u ∷ us) args)) (with_values p.name most (u ∷ us) given)
        ≡ with_values p.name most (v ∷ u ∷ us) given
    longer true given e = let more = one_more most (length (u ∷ us)) e in rw (e, more) refl
    longer false given e = rw e refl

    go : (o : Option Given)
        → option_and_then (with_run p.name most v (words_then (u ∷ us) args)) (option_and_then (with_values p.name most (u ∷ us)) o)
        ≡ option_and_then (with_values p.name most (v ∷ u ∷ us)) o
    go None = refl
    go (Some given) = longer _ given refl

-- an entry before others is added first
item_first : (g : Given) (id : Text) (values : List Text) (rest : Option Given) (b : Bool) → has id g ≡ b
    → option_and_then (gather g) (option_map (λ given. (id, values) ∷ given) rest)
    ≡ option_and_then (λ h. option_and_then (gather h) rest) (added id values g)
item_first g id values None true e = rw e refl
item_first g id values None false e = rw e refl
item_first g id values (Some given) true e = rw e refl
item_first g id values (Some given) false e = rw e refl

-- a run before others is added first, where it isn't too long
run_first : (g : Given) (id : Text) (most : ℕ) (values : List Text) (rest : Option Given) (long b : Bool)
    → nat_lt most (length values) ≡ long → has id g ≡ b
    → option_and_then (gather g) (option_and_then (with_values id most values) rest)
    ≡ option_and_then (λ h. option_and_then (gather h) rest) (closed (run_of id most values) g)
run_first g id most values None true b l e = rw l refl
run_first g id most values None false true l e = rw (l, e) refl
run_first g id most values None false false l e = rw (l, e) refl
run_first g id most values (Some given) true b l e = rw l refl
run_first g id most values (Some given) false true l e = rw (l, e) refl
run_first g id most values (Some given) false false l e = rw (l, e) refl

-- an option is no word
abbrev NoWord : Option (List Argument) → Type 0
NoWord None = Unit {0}
NoWord (Some args) = begins_with_word args ≡ false

no_word : (o : Option (Text × Bool)) (value : Option Text) (args : List Argument) → NoWord (with_option o value args)
no_word None value args = tt
no_word (Some (id, true)) (Some v) args = refl
no_word (Some (id, true)) None [] = tt
no_word (Some (id, true)) None (option id' values ∷ more) = tt
no_word (Some (id, true)) None (word w ∷ more) = refl
no_word (Some (id, false)) (Some v) args = tt
no_word (Some (id, false)) None args = refl

-- an option is no value of the option before it
no_next : {Y : Type 0} (id : Text) (next : List Argument → Option Y) (o : Option (Text × Bool)) (value : Option Text) (args : List Argument)
    → option_and_then (λ more. option_and_then next (with_next id more)) (with_option o value args) ≡ None
no_next id next None value args = refl
no_next id next (Some (i, true)) (Some v) args = refl
no_next id next (Some (i, true)) None [] = refl
no_next id next (Some (i, true)) None (option id' values ∷ more) = refl
no_next id next (Some (i, true)) None (word w ∷ more) = refl
no_next id next (Some (i, false)) (Some v) args = refl
no_next id next (Some (i, false)) None args = refl

-- from each state on, words give what their arguments give after it
record Gives (f : Form) (ws : List Text) : Type 0 where
  clean : (g : Given) (k : ℕ) → read_from f ws (state_at k nothing g) ≡ option_and_then (after f g k) (arguments_of f ws)
  value : (g : Given) (id : Text) (k : ℕ)
      → read_from f ws (state_at k (value_of id) g)
      ≡ option_and_then (λ args. option_and_then (after f g k) (with_next id args)) (arguments_of f ws)
  run : (g : Given) (p : WordPlace) (most : ℕ) (v : Text) (vs : List Text) (k : ℕ) → place_of_number f k ≡ Some p → p.most ≡ Some most
      → read_from f ws (state_at k (run_of p.name most (v ∷ vs)) g)
      ≡ option_and_then (λ args. after f g k (words_then (v ∷ vs) args)) (arguments_of f ws)

-- a word at a place of one word is one more entry
single_given : (f : Form) (g : Given) (k : ℕ) (p : WordPlace) (w : Text) (args : List Argument) → place_of_number f k ≡ Some p → p.most ≡ None
    → after f g (k + 1) (option p.name (w ∷ []) ∷ args) ≡ after f g k (word w ∷ args)
single_given f g k p w args at run =
    rw (at, run) (ap (option_and_then (gather g)) (sym (map_step (λ given. (p.name, w ∷ []) ∷ given) (given_from f (k + 1) args))))

-- a run that ends
run_after : (f : Form) (g : Given) (p : WordPlace) (most : ℕ) (v : Text) (vs : List Text) (k : ℕ) → place_of_number f k ≡ Some p → p.most ≡ Some most
    → (o : Option (List Argument)) → NoWord o
    → option_and_then (λ args. after f g k (words_then (v ∷ vs) args)) o
    ≡ option_and_then (λ args. option_and_then (λ h. after f h k args) (closed (run_of p.name most (v ∷ vs)) g)) o
run_after f g p most v vs k at run None ends = refl
run_after f g p most v vs k at run (Some args) ends =
    ap (option_and_then (gather g)) (run_given f p most k args v vs at run ends)
    ∙ run_first g p.name most (v ∷ vs) (given_from f k args) _ _ refl refl

module _ (f : Form) (ws : List Text) (gives : Gives f ws) where
  item_step : (g : Given) (id : Text) (values : List Text) (k : ℕ)
      → option_and_then (read_from f ws) (with_item id values k g)
      ≡ option_and_then (λ args. after f g k (option id values ∷ args)) (arguments_of f ws)
  item_step g id values k =
      two_steps (λ h. Some (state_at k nothing h)) (read_from f ws) (added id values g)
      ∙ same_each (λ h. read_from f ws (state_at k nothing h)) (λ h. option_and_then (after f h k) (arguments_of f ws)) (added id values g) (λ h. gives.clean h k)
      ∙ sym (other_order (λ h args. after f h k args) (added id values g) (arguments_of f ws))
      ∙ same_each (λ args. option_and_then (λ h. after f h k args) (added id values g)) (λ args. after f g k (option id values ∷ args)) (arguments_of f ws)
      (λ args. sym (item_first g id values (given_from f k args) _ refl))

  option_step : (o : Option (Text × Bool)) (value : Option Text) (g : Given) (k : ℕ)
      → option_and_then (read_from f ws) (option_met o value k g)
      ≡ option_and_then (λ args. option_and_then (after f g k) (with_option o value args)) (arguments_of f ws)
  option_step None value g k = sym (none_each (λ args. None) (arguments_of f ws) (λ args. refl))
  option_step (Some (id, true)) (Some v) g k = item_step g id (v ∷ []) k
  option_step (Some (id, true)) None g k = gives.value g id k
  option_step (Some (id, false)) (Some v) g k = sym (none_each (λ args. None) (arguments_of f ws) (λ args. refl))
  option_step (Some (id, false)) None g k = item_step g id [] k

  word_step : (g : Given) (k : ℕ) (w : Text) (p : WordPlace) (most : Option ℕ) → place_of_number f k ≡ Some p → p.most ≡ most
      → option_and_then (read_from f ws) (word_at w p.name most k g)
      ≡ option_and_then (λ args. after f g k (word w ∷ args)) (arguments_of f ws)
  word_step g k w p None at run =
      item_step g p.name (w ∷ []) (k + 1)
      ∙ same_each (λ args. after f g (k + 1) (option p.name (w ∷ []) ∷ args)) (λ args. after f g k (word w ∷ args)) (arguments_of f ws)
      (λ args. single_given f g k p w args at run)
  word_step g k w p (Some most) at run = gives.run g p most w [] k at run

  place_step : (g : Given) (k : ℕ) (w : Text) (o : Option WordPlace) → place_of_number f k ≡ o
      → option_and_then (read_from f ws) (place_met o w k g) ≡ option_and_then (λ args. after f g k (word w ∷ args)) (arguments_of f ws)
  place_step g k w None at =
      sym (none_each (λ args. after f g k (word w ∷ args)) (arguments_of f ws) (λ args. rw at (no_place (given_from f (k + 1) args))))
    where
      no_place : (o : Option Given) → option_and_then (gather g) (option_and_then (λ given. None) o) ≡ None
      no_place None = refl
      no_place (Some given) = refl
  place_step g k w (Some p) at = word_step g k w p p.most at refl

  clean_by : (g : Given) (k : ℕ) (w : Text) (l : Look)
      → option_and_then (read_from f ws) (step_by f l w nothing k g)
      ≡ option_and_then (λ args. option_and_then (after f g k) (with_word f w l args)) (arguments_of f ws)
  clean_by g k w refused = sym (none_each (λ args. None) (arguments_of f ws) (λ args. refl))
  clean_by g k w (named n value) = option_step (option_in f n) value g k
  clean_by g k w plain = place_step g k w (place_of_number f k) refl

  value_by : (g : Given) (id : Text) (k : ℕ) (w : Text) (l : Look)
      → option_and_then (read_from f ws) (step_by f l w (value_of id) k g)
      ≡ option_and_then (λ args. option_and_then (λ more. option_and_then (after f g k) (with_next id more)) (with_word f w l args)) (arguments_of f ws)
  value_by g id k w refused = sym (none_each (λ args. None) (arguments_of f ws) (λ args. refl))
  value_by g id k w (named n value) =
      sym (none_each (λ args. option_and_then (λ more. option_and_then (after f g k) (with_next id more)) (with_option (option_in f n) value args)) (arguments_of f ws)
      (λ args. no_next id (after f g k) (option_in f n) value args))
  value_by g id k w plain = item_step g id (w ∷ []) k

  run_by : (g : Given) (p : WordPlace) (most : ℕ) (v : Text) (vs : List Text) (k : ℕ) (w : Text) (l : Look) → place_of_number f k ≡ Some p
      → p.most ≡ Some most
      → option_and_then (read_from f ws) (step_by f l w (run_of p.name most (v ∷ vs)) k g)
      ≡ option_and_then (λ args. option_and_then (λ more. after f g k (words_then (v ∷ vs) more)) (with_word f w l args)) (arguments_of f ws)
  run_by g p most v vs k w refused at run = sym (none_each (λ args. None) (arguments_of f ws) (λ args. refl))
  run_by g p most v vs k w (named n value) at run =
      let o = option_in f n in
      let ended = closed (run_of p.name most (v ∷ vs)) g in
      two_steps (option_met o value k) (read_from f ws) ended
      ∙ same_each (λ h. option_and_then (read_from f ws) (option_met o value k h))
      (λ h. option_and_then (λ args. option_and_then (after f h k) (with_option o value args)) (arguments_of f ws)) ended (λ h. option_step o value h k)
      ∙ sym (other_order (λ h args. option_and_then (after f h k) (with_option o value args)) ended (arguments_of f ws))
      ∙ same_each (λ args. option_and_then (λ h. option_and_then (after f h k) (with_option o value args)) ended)
      (λ args. option_and_then (λ more. after f g k (words_then (v ∷ vs) more)) (with_option o value args)) (arguments_of f ws)
      (λ args. sym (other_order (λ h more. after f h k more) ended (with_option o value args))
      ∙ sym (run_after f g p most v vs k at run (with_option o value args) (no_word o value args)))
  run_by g p most v vs k w plain at run =
      gives.run g p most v (vs ++ w ∷ []) k at run
      ∙ same_each (λ args. after f g k (words_then (v ∷ (vs ++ w ∷ [])) args)) (λ args. after f g k (words_then (v ∷ vs) (word w ∷ args))) (arguments_of f ws)
      (λ args. ap (after f g k) (words_then-append (v ∷ vs) w args))

  next_clean : (g : Given) (k : ℕ) (w : Text)
      → read_from f (w ∷ ws) (state_at k nothing g) ≡ option_and_then (after f g k) (arguments_of f (w ∷ ws))
  next_clean g k w = clean_by g k w (look_of w) ∙ sym (two_steps (with_word f w (look_of w)) (after f g k) (arguments_of f ws))

  next_value : (g : Given) (id : Text) (k : ℕ) (w : Text)
      → read_from f (w ∷ ws) (state_at k (value_of id) g)
      ≡ option_and_then (λ args. option_and_then (after f g k) (with_next id args)) (arguments_of f (w ∷ ws))
  next_value g id k w =
      value_by g id k w (look_of w)
      ∙ sym (two_steps (with_word f w (look_of w)) (λ args. option_and_then (after f g k) (with_next id args)) (arguments_of f ws))

  next_run : (g : Given) (p : WordPlace) (most : ℕ) (v : Text) (vs : List Text) (k : ℕ) (w : Text) → place_of_number f k ≡ Some p → p.most ≡ Some most
      → read_from f (w ∷ ws) (state_at k (run_of p.name most (v ∷ vs)) g)
      ≡ option_and_then (λ args. after f g k (words_then (v ∷ vs) args)) (arguments_of f (w ∷ ws))
  next_run g p most v vs k w at run =
      run_by g p most v vs k w (look_of w) at run
      ∙ sym (two_steps (with_word f w (look_of w)) (λ args. after f g k (words_then (v ∷ vs) args)) (arguments_of f ws))

gives_all : (f : Form) (ws : List Text) → Gives f ws
gives_all f [] = record {
  clean = λ g k. refl;
  value = λ g id k. refl;
  run = λ g p most v vs k at run.
      sym (run_after f g p most v vs k at run (Some []) refl ∙ some_step (closed (run_of p.name most (v ∷ vs)) g));
}
gives_all f (w ∷ ws) =
    let gives = gives_all f ws in
    record {
      clean = λ g k. next_clean f ws gives g k w;
      value = λ g id k. next_value f ws gives g id k w;
      run = λ g p most v vs k at run. next_run f ws gives g p most v vs k w at run;
    }

-- the words read from left to right give what the form says of them
pub read_given : (f : Form) (ws : List Text) → read_from f ws start ≡ given_of f ws
read_given f ws =
    (gives_all f ws).clean [] 1
    ∙ same_each (after f [] 1) (λ args. option_and_then given_once (given_from f 1 args)) (arguments_of f ws)
    (λ args. same_each (gather []) given_once (given_from f 1 args) (λ given. gathered [] given refl))
    ∙ sym (two_steps (given_from f 1) given_once (arguments_of f ws))
