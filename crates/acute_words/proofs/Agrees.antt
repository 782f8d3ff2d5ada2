-- The walk takes the words that are read from left to right, and finds the same.
use Rattle.std.proofs.Common.{◌≡◌, ◌∙◌, ◌+◌, ◌&&◌, ◌||◌, ℕ, Bool, true, false, true≢false, not, refl, sym, ap, subst, arith, List, [], ◌∷◌, ◌++◌, map, length, min, Option, Some, None}
use Rattle.std.specs.Prelude.{◌==◌, if◌then◌else◌, option_and_then, option_map, is_some, nat_lt}
use Rattle.std.specs.List.{list_all}
use Rattle.std.specs.Str.{bytes_eq}
use Rattle.std.proofs.lemmas.List.{map-append}
use Rattle.clap.specs.Lexer.{usize_max}
use Rattle.clap.specs.Walk.{Row, Rule, idle, option, positional, arg_by_id, arg_by_index, has_row}
use Rattle.clap.proofs.WalkLemmas.{both}
use Rattle.clap.specs.declared.error.kind.ErrorKind.TheVariants.{ArgumentConflict, InvalidValue}
use Rattle.clap.specs.Faults.{walk_fault}
use Rattle.std.proofs.Math.Bool.{and-false}
use Rattle.acute_words.proofs.Chains.{some_step, two_steps}
use Rattle.acute_words.specs.Form.{Form, Given, WordPlace, Text, is_fit, option_in, place_of_number}
use Rattle.acute_words.proofs.Reading.{Open, closed, has, nothing, option_met, place_met, read_from, run_of, value_of, with_item, word_at}
use Rattle.acute_words.specs.inner.Rules.{Apart, MostFits, OptionFits, PlaceFits, most_of, place_rule, row, rule_with}
use Rattle.acute_words.proofs.Looks.{View, as_named, as_plain, view}
use Rattle.acute_words.proofs.Rows.{has-rows, used_once}
use Rattle.acute_words.proofs.Steps.{walk_at, total, is_not_none, found, found_test, Reads, single, settles_end, more, after_option, word_to, after_place, named_from, IsNew, IsRun, RunFits, plain_from, named_stuck, plain_stuck, value_met}
use Rattle.acute_words.proofs.Runs.{run_met, after_run, run_end, run_named}

-- an argument that takes one word holds no run
pub new_from : (b : Bool) (m : Option ℕ) → (b && is_some m) ≡ false → IsRun m → (b && (not (1 == most_of m) || nat_lt 1 1)) ≡ false
new_from b None e run = and-false b
new_from false (Some m) e run = refl
new_from true (Some m) e run = absurd (true≢false e)

module _ (c : List Rule) (f : Form) (r : Reads c f) where
  -- a place of the form has its rule
  place_fits : (k : ℕ) (q : WordPlace) → place_of_number f k ≡ Some q → PlaceFits c f q
  place_fits k q is = found (λ p. p.number == k) (PlaceFits c f) f.places q r.places is

  -- a run of the form may have more words than one
  run_of_most : (f : Form) (id : Text) (m : Option ℕ) → MostFits f id m → IsRun m
  run_of_most f id None h = tt
  run_of_most f id (Some m) h = h

  -- the same of the place that is next
  run_fits : (k : ℕ) (o : Option WordPlace) → place_of_number f k ≡ o → RunFits o
  run_fits k None is = tt
  run_fits k (Some q) is = run_of_most f q.name q.most (place_fits k q is).most

  -- after an option or a word of another place a word begins a new place
  new_after : (k : ℕ) (id v : Text) (o : Option WordPlace) → place_of_number f k ≡ o → Apart f id → IsNew o (Some (id, v ∷ []))
  new_after k id v None is apart = tt
  new_after k id v (Some q) is apart =
      new_from (bytes_eq id q.name) q.most (found (λ p. p.number == k) (λ p. (bytes_eq id p.name && is_some p.most) ≡ false) f.places q apart is) (run_fits k (Some q) is)

  -- so it does where nothing is held
  new_at_start : (o : Option WordPlace) → IsNew o None
  new_at_start None = tt
  new_at_start (Some q) = refl

  -- an argument that has its value is used before the next word
  settles_word : (id v : Text) (long : Option Text) (index : Option ℕ) (rows : List Row) (k : ℕ) (w : Text) (ws : List Text) (b : Bool)
      → arg_by_id c id ≡ Some (single id long index) → Apart f id → has_row id rows ≡ b → View w
      → total c (walk_at rows (Some (id, v ∷ [])) idle k) (w ∷ ws)
      ≡ (if b then None else total c (walk_at (rows ++ row (id, v ∷ []) ∷ []) None idle k) (w ∷ ws))
  settles_word id v long index rows k w ws true at apart e (as_named n x i) =
      named_stuck c rows (Some (id, v ∷ [])) k w ws n x (option_in f n) idle ArgumentConflict [] (rw (at, e) refl) refl i (r.long n)
  settles_word id v long index rows k w ws true at apart e (as_plain i) =
      plain_stuck c rows (Some (id, v ∷ [])) k w ws (place_of_number f k) ArgumentConflict [] (rw (at, e) refl) i (r.index k) (new_after k id v _ refl apart)
  settles_word id v long index rows k w ws false at apart e (as_named n x i) =
      let once = used_once id long index 1 1 v [] rows e in
      let more = rows ++ row (id, v ∷ []) ∷ [] in
      named_from c rows more (Some (id, v ∷ [])) idle k w ws n x (option_in f n) _ refl refl (rw (at, e) refl) (rw at once) i (r.long n)
      ∙ sym (named_from c more more None idle k w ws n x (option_in f n) _ refl refl refl refl i (r.long n))
  settles_word id v long index rows k w ws false at apart e (as_plain i) =
      let once = used_once id long index 1 1 v [] rows e in
      let more = rows ++ row (id, v ∷ []) ∷ [] in
      plain_from c rows more (Some (id, v ∷ [])) k w ws (place_of_number f k) (rw (at, e) refl) (rw at once) i (r.index k) (new_after k id v _ refl apart) (run_fits k _ refl)
      ∙ sym (plain_from c more more None k w ws (place_of_number f k) refl refl i (r.index k) (new_at_start (place_of_number f k)) (run_fits k _ refl))

  -- an argument that has its value is used before the next word
  settles : (id v : Text) (long : Option Text) (index : Option ℕ) (rows : List Row) (k : ℕ) (words : List Text)
      → arg_by_id c id ≡ Some (single id long index) → Apart f id → list_all is_fit words ≡ true
      → total c (walk_at rows (Some (id, v ∷ [])) idle k) words ≡ more c id (v ∷ []) rows k words
  settles id v long index rows k [] at apart fit = settles_end c id v long index rows k _ at refl
  settles id v long index rows k (w ∷ ws) at apart fit = settles_word id v long index rows k w ws _ at apart refl (view w (both _ _ fit).0)

  -- the rows of what is read from a state on
  abbrev pub read_at : List Text → Open → Given → ℕ → Option (List Row)
  read_at words opened g k = option_map (map row) (read_from f words (record { given = g; opened = opened; place = k }))

  -- from each state on, the walk gives the rows of what is read
  pub record Agrees (words : List Text) : Type 0 where
    pub clean : (g : Given) (k : ℕ) → total c (walk_at (map row g) None idle k) words ≡ read_at words nothing g k
    pub value : (g : Given) (id : Text) (k : ℕ) → OptionFits c f (id, true)
        → total c (walk_at (map row g) (Some (id, [])) (option id) k) words ≡ read_at words (value_of id) g k
    pub run : (g : Given) (q : WordPlace) (most : ℕ) (v : Text) (vs : List Text) (k : ℕ) → q.most ≡ Some most → PlaceFits c f q
        → arg_by_index c k ≡ Some (place_rule q)
        → total c (walk_at (map row g) (Some (q.name, v ∷ vs)) positional k) words ≡ read_at words (run_of q.name most (v ∷ vs)) g k

  -- one more item
  more_is : (id : Text) (values : List Text) (g : Given) (k : ℕ) (ws : List Text) (b : Bool) → has id g ≡ b → Agrees ws
      → more c id values (map row g) k ws ≡ option_map (map row) (option_and_then (read_from f ws) (with_item id values k g))
  more_is id values g k ws true e agrees = let e' = has-rows id g ∙ e in rw (e', e) refl
  more_is id values g k ws false e agrees =
      let e' = has-rows id g ∙ e in
      let rows : map row (g ++ (id, values) ∷ []) ≡ map row g ++ row (id, values) ∷ [] = map-append row g ((id, values) ∷ []) in
      rw (e', e, ← rows) (agrees.clean (g ++ (id, values) ∷ []) k)

  -- an option, where nothing is held
  option_is : (n : Text) (o : Option (Text × Bool)) (x : Option Text) (g : Given) (k : ℕ) (ws : List Text) → option_in f n ≡ o → Agrees ws
      → after_option c o x (map row g) k ws ≡ option_map (map row) (option_and_then (read_from f ws) (option_met o x k g))
  option_is n None x g k ws is agrees = refl
  option_is n (Some (q, true)) (Some y) g k ws is agrees = more_is q (y ∷ []) g k ws _ refl agrees
  option_is n (Some (q, true)) None g k ws is agrees =
      agrees.value g q k (found (λ p. bytes_eq p.0 n) (OptionFits c f) f.options (q, true) r.options is)
  option_is n (Some (q, false)) (Some y) g k ws is agrees = refl
  option_is n (Some (q, false)) None g k ws is agrees = more_is q [] g k ws _ refl agrees

  -- a place of one word is told apart from runs
  most_apart : (id : Text) (m : Option ℕ) → m ≡ None → MostFits f id m → Apart f id
  most_apart id None e h = h
  most_apart id (Some m) e h = absurd (is_not_none m (sym e))

  -- a run may have more words than one
  is_run : (id : Text) (m : Option ℕ) (most : ℕ) → m ≡ Some most → MostFits f id m → (1 == most) ≡ false
  is_run id None most e h = absurd (is_not_none most e)
  is_run id (Some m) most e h = let same : m ≡ most = cc in subst (λ j. (1 == j) ≡ false) same h

  -- a plain word at a place, where nothing is held
  place_is : (k : ℕ) (q : WordPlace) (m : Option ℕ) (g : Given) (w : Text) (ws : List Text) → q.most ≡ m → place_of_number f k ≡ Some q
      → list_all is_fit ws ≡ true → Agrees ws
      → word_to c q.name m w (map row g) k ws ≡ option_map (map row) (option_and_then (read_from f ws) (word_at w q.name m k g))
  place_is k q None g w ws em is fit agrees =
      let fits = place_fits k q is in
      let test : (q.number == k) ≡ true = found_test (λ p. p.number == k) f.places q is in
      let here : q.number ≡ k = grind arith in
      let next : min (k + 1) usize_max ≡ k + 1 = subst (λ j. min (j + 1) usize_max ≡ j + 1) here fits.next in
      let at : arg_by_id c q.name ≡ Some (single q.name None (Some q.number)) =
      fits.at ∙ ap (λ m. Some (rule_with q.name None (Some q.number) 1 (most_of m))) em in
      rw next (settles q.name w None (Some q.number) (map row g) (k + 1) ws at (most_apart q.name q.most em fits.most) fit
      ∙ more_is q.name (w ∷ []) g (k + 1) ws _ refl agrees)
  place_is k q (Some m) g w ws em is fit agrees =
      agrees.run g q m w [] k em (place_fits k q is) (r.index k ∙ ap (option_map place_rule) is)

  -- a plain word, where nothing is held
  places_are : (k : ℕ) (o : Option WordPlace) (g : Given) (w : Text) (ws : List Text) → place_of_number f k ≡ o → list_all is_fit ws ≡ true → Agrees ws
      → after_place c o w (map row g) k ws ≡ option_map (map row) (option_and_then (read_from f ws) (place_met o w k g))
  places_are k None g w ws is fit agrees = refl
  places_are k (Some q) g w ws is fit agrees = place_is k q q.most g w ws refl is fit agrees

  -- the next word, where nothing is held
  clean_step : (g : Given) (k : ℕ) (w : Text) (ws : List Text) → View w → list_all is_fit ws ≡ true → Agrees ws
      → total c (walk_at (map row g) None idle k) (w ∷ ws) ≡ read_at (w ∷ ws) nothing g k
  clean_step g k w ws (as_named n x i) fit agrees =
      named_from c (map row g) (map row g) None idle k w ws n x (option_in f n) _ refl refl refl refl i (r.long n)
      ∙ rw i.look (option_is n (option_in f n) x g k ws refl agrees)
  clean_step g k w ws (as_plain i) fit agrees =
      plain_from c (map row g) (map row g) None k w ws (place_of_number f k) refl refl i (r.index k) (new_at_start (place_of_number f k)) (run_fits k _ refl)
      ∙ rw i.look (places_are k (place_of_number f k) g w ws refl fit agrees)

  -- the next word, where an option waits for its value
  value_step : (g : Given) (id : Text) (k : ℕ) (w : Text) (ws : List Text) → View w → list_all is_fit ws ≡ true → Agrees ws
      → OptionFits c f (id, true)
      → total c (walk_at (map row g) (Some (id, [])) (option id) k) (w ∷ ws) ≡ read_at (w ∷ ws) (value_of id) g k
  value_step g id k w ws (as_named n x i) fit agrees fits =
      let at = fits.at in
      named_stuck c (map row g) (Some (id, [])) k w ws n x (option_in f n) (option id) InvalidValue [] (rw at refl) refl i (r.long n)
      ∙ rw i.look refl
  value_step g id k w ws (as_plain i) fit agrees fits =
      value_met c (map row g) id (Some id) None k w ws fits.at i
      ∙ settles id w (Some id) None (map row g) k ws fits.at fits.apart fit
      ∙ rw i.look (more_is id (w ∷ []) g k ws _ refl agrees)

  -- a run that ends, before words that are read as after any item
  ended : (q : Text) (most : ℕ) (values : List Text) (g : Given) (k : ℕ) (words : List Text) (long b : Bool)
      → nat_lt most (length values) ≡ long → has q g ≡ b
      → (next : Given → Option Given)
      → ((g' : Given) → total c (walk_at (map row g') None idle k) words ≡ option_map (map row) (next g'))
      → after_run c long q values (map row g) k words ≡ option_map (map row) (option_and_then next (closed (run_of q most values) g))
  ended q most values g k words true b l e next clean = rw l refl
  ended q most values g k words false true l e next clean = let e' = has-rows q g ∙ e in rw (l, e', e) refl
  ended q most values g k words false false l e next clean =
      let e' = has-rows q g ∙ e in
      let rows : map row (g ++ (q, values) ∷ []) ≡ map row g ++ row (q, values) ∷ [] = map-append row g ((q, values) ∷ []) in
      rw (l, e', e, ← rows) (clean (g ++ (q, values) ∷ []))

  -- the next word after a word of a run
  run_step : (g : Given) (q : WordPlace) (most : ℕ) (v : Text) (vs : List Text) (k : ℕ) (w : Text) (ws : List Text) → View w
      → list_all is_fit ws ≡ true → Agrees ws
      → q.most ≡ Some most → PlaceFits c f q → arg_by_index c k ≡ Some (place_rule q)
      → total c (walk_at (map row g) (Some (q.name, v ∷ vs)) positional k) (w ∷ ws) ≡ read_at (w ∷ ws) (run_of q.name most (v ∷ vs)) g k
  run_step g q most v vs k w ws (as_named n x i) fit agrees em fits met =
      run_named c (map row g) q most v vs k _ _ w ws n x (option_in f n) em (is_run q.name q.most most em fits.most) fits.at refl refl i (r.long n)
      ∙ ended q.name most (v ∷ vs) g k (w ∷ ws) _ _ refl refl (λ g'. option_and_then (read_from f ws) (option_met (option_in f n) x k g'))
      (λ g'. clean_step g' k w ws (as_named n x i) fit agrees ∙ rw i.look refl)
      ∙ rw i.look (ap (option_map (map row)) (sym (two_steps (option_met (option_in f n) x k) (read_from f ws) (closed (run_of q.name most (v ∷ vs)) g))))
  run_step g q most v vs k w ws (as_plain i) fit agrees em fits met =
      run_met c (map row g) q most v vs k w ws em (is_run q.name q.most most em fits.most) met i
      ∙ rw i.look (agrees.run g q most v (vs ++ w ∷ []) k em fits met)

  -- the end of the words, where nothing is held
  clean_end : (g : Given) (k : ℕ) → total c (walk_at (map row g) None idle k) [] ≡ read_at [] nothing g k
  unfolding total walk_fault
  clean_end g k = refl

  -- the end of the words, where an option waits for its value
  value_end : (g : Given) (id : Text) (k : ℕ) → OptionFits c f (id, true)
      → total c (walk_at (map row g) (Some (id, [])) (option id) k) [] ≡ read_at [] (value_of id) g k
  unfolding total walk_fault
  value_end g id k fits = let at = fits.at in rw at refl

  -- the walk and the reading agree on all words
  pub agrees : (words : List Text) → list_all is_fit words ≡ true → Agrees words
  agrees [] fit = record {
    clean = clean_end;
    value = value_end;
    run = λ g q most v vs k em fits met.
        run_end c (map row g) q most v vs k _ _ em (is_run q.name q.most most em fits.most) fits.at refl refl
        ∙ ended q.name most (v ∷ vs) g k [] _ _ refl refl (λ g'. Some g') (λ g'. clean_end g' k)
        ∙ ap (option_map (map row)) (some_step (closed (run_of q.name most (v ∷ vs)) g));
  }
  agrees (w ∷ ws) fit =
      let parts = both _ _ fit in
      let next = agrees ws parts.1 in
      record {
        clean = λ g k. clean_step g k w ws (view w parts.0) parts.1 next;
        value = λ g id k fits. value_step g id k w ws (view w parts.0) parts.1 next fits;
        run = λ g q most v vs k em fits met. run_step g q most v vs k w ws (view w parts.0) parts.1 next em fits met;
      }
