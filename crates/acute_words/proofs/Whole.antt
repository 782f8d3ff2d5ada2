-- A simple clap command reads words as its form says.
use Rattle.std.proofs.Common.{◌≡◌, ◌∙◌, ◌&&◌, ℕ, Bool, cond, true, false, true≢false, not, refl, ap, List, [], ◌∷◌, ◌++◌, map, drop, Option, Some, None}
use Rattle.std.specs.Prelude.{◌==◌, if◌then◌else◌, find, option_and_then, option_map}
use Rattle.std.specs.List.{list_all, list_any, fold}
use Rattle.std.specs.Str.{bytes_eq}
use Rattle.clap.specs.Walk.{walk, finished, Row, Rule, Walk, idle, arg_by_index, arg_by_long, has_row, settled_rows, walked, with_default, nothing_held}
use Rattle.clap.specs.Simple.{App, matches_of}
use Rattle.clap.proofs.FaultLemmas.{leaf_fault}
use Rattle.clap.specs.Takes.{is_given}
use Rattle.clap.specs.declared.error.kind.ErrorKind.{ErrorKind}
use Rattle.clap.specs.Kinds.{IsAmong, Kinds, or_else}
use Rattle.clap.specs.Faults.{fault_of, level_fault, settle_fault, turn_fault, walk_fault, defaults_fault}
use Rattle.std.proofs.Math.Bool.{or-false, or-true}
use Rattle.acute_words.specs.Form.{Argument, arguments_of, with_word, Form, Look, WordPlace, Text, given_of, is_fit, look_of, named, option_in, plain, refused}
use Rattle.acute_words.proofs.Gathered.{read_given}
use Rattle.acute_words.proofs.Agrees.{agrees}
use Rattle.acute_words.proofs.Reading.{step}
use Rattle.acute_words.specs.inner.Rules.{Every, ReadsForm, rules_of_form, option_rule, place_rule, row, shape_with}
use Rattle.acute_words.proofs.Steps.{walk_at, outcome, total, Reads}

-- a choice of the same
pub same_rows : (b : Bool) (rows : List Row) → (if b then rows else rows) ≡ rows
same_rows true rows = refl
same_rows false rows = refl

-- no default, and nothing that is required
pub record Quiet (a : Rule) : Type 0 where
  defaults : a.defaults ≡ []
  required : a.required ≡ false

-- no default fails
pub no_default : (rows : List Row) (c : List Rule) → Every Quiet c → defaults_fault rows c ≡ []
unfolding defaults_fault
no_default rows [] q = refl
no_default rows (a ∷ c) q =
    let none = q.0.defaults in
    let here = or-true (has_row a.id rows) in
    let same = same_rows (has_row a.id rows) rows in
    rw (none, here, same) (no_default rows c q.1)

-- no default adds a row
pub stays : (rows : List Row) (c : List Rule) → Every Quiet c → fold with_default rows c ≡ rows
stays rows [] q = refl
stays rows (a ∷ c) q =
    let none = q.0.defaults in
    let same = same_rows (has_row a.id rows) rows in
    rw (none, same) (stays rows c q.1)

-- nothing that is required is missing
pub none_missing : (rows : List Row) (c : List Rule) → Every Quiet c → list_any (λ a. a.required && not (is_given a.id rows)) c ≡ false
none_missing rows [] q = refl
none_missing rows (a ∷ c) q = let none = q.0.required in rw none (none_missing rows c q.1)

-- the command's name is nothing to the walk
pub named_walk : (name : Text) (c : List Rule) (w : Walk) (words : List Text)
    → walk_fault (shape_with name c) [] w words ≡ walk_fault (shape_with [] c) [] w words
unfolding walk_fault
named_walk name c w [] = refl
named_walk name c w (x ∷ xs) = ap (or_else (turn_fault (shape_with [] c) [] w x)) (named_walk name c (walked c [] w x) xs)

-- a form has neither defaults nor required arguments
pub every_rule : (f : Form) → Every Quiet (rules_of_form f)
every_rule f = places f.places
  where
    options : (ps : List (Text × Bool)) → Every Quiet (map option_rule ps)
    options [] = tt
    options (p ∷ ps) = (record { defaults = refl; required = refl }, options ps)

    places : (ps : List WordPlace) → Every Quiet (map place_rule ps ++ map option_rule f.options)
    places [] = options f.options
    places (p ∷ ps) = (record { defaults = refl; required = refl }, places ps)

-- a command that reads words as a form says has its rules
pub reads_form : (f : Form) (a : App) → ReadsForm f a → Reads (rules_of_form f) f
reads_form f a h = record { long = λ name. long name f.places; index = λ k. index k f.places; options = h.options; places = h.places }
  where
    long_options : (name : Text) (ps : List (Text × Bool))
        → arg_by_long (map option_rule ps) name ≡ option_map option_rule (find (λ p. bytes_eq p.0 name) ps)
    long_options name [] = refl
    long_options name (p ∷ ps) = let e = or-false (bytes_eq p.0 name) in rw e (go (bytes_eq p.0 name) (long_options name ps))
      where
        go : (b : Bool) → arg_by_long (map option_rule ps) name ≡ option_map option_rule (find (λ p. bytes_eq p.0 name) ps)
            → cond b (Some (option_rule p)) (arg_by_long (map option_rule ps) name)
            ≡ option_map option_rule (cond b (Some p) (find (λ p. bytes_eq p.0 name) ps))
        go true e = refl
        go false e = e

    long : (name : Text) (ps : List WordPlace)
        → arg_by_long (map place_rule ps ++ map option_rule f.options) name ≡ option_map option_rule (option_in f name)
    long name [] = long_options name f.options
    long name (p ∷ ps) = long name ps

    index_options : (k : ℕ) (ps : List (Text × Bool)) → arg_by_index (map option_rule ps) k ≡ None
    index_options k [] = refl
    index_options k (p ∷ ps) = index_options k ps

    index : (k : ℕ) (ps : List WordPlace)
        → arg_by_index (map place_rule ps ++ map option_rule f.options) k ≡ option_map place_rule (find (λ p. p.number == k) ps)
    index k [] = index_options k f.options
    index k (p ∷ ps) = go (p.number == k) (index k ps)
      where
        go : (b : Bool)
            → arg_by_index (map place_rule ps ++ map option_rule f.options) k ≡ option_map place_rule (find (λ p. p.number == k) ps)
            → cond b (Some (place_rule p)) (arg_by_index (map place_rule ps ++ map option_rule f.options) k)
            ≡ option_map place_rule (cond b (Some p) (find (λ p. p.number == k) ps))
        go true e = refl
        go false e = e

-- nothing after a fault
pub or_none : (ks : Kinds) → or_else ks [] ≡ ks
or_none [] = refl
or_none (k ∷ ks) = refl

-- the whole of a command without subcommands is its walk
pub total_level : (name : Text) (c : List Rule) (words : List Text) → Every Quiet c
    → outcome (level_fault (shape_with name c) [] nothing_held words false []) (finished c (walk c [] nothing_held words).held)
    ≡ total c (walk_at [] None idle 1) words
unfolding total
total_level name c words quiet =
    let end = (walk c [] nothing_held words).held in
    let settles = settled_rows c end.pending end.rows in
    let defaults = no_default settles c quiet in
    let kept = stays settles c quiet in
    let missing = none_missing settles c quiet in
    let same = named_walk name c (walk_at [] None idle 1) words in
    let last = or_none (settle_fault c false end) in
    rw (defaults, kept, missing, same, last) refl

-- clap takes the words that the form takes, and finds what they give
pub form_read : (f : Form) (a : App) (words : List Text) → ReadsForm f a → list_all is_fit (drop 1 words) ≡ true
    → outcome (fault_of a words) (matches_of a words) ≡ option_map (map row) (given_of f (drop 1 words))
form_read f a words h fit =
    let c = rules_of_form f in
    let built_is = h.built in
    let named = h.named in
    let leaf = leaf_fault (record { top = shape_with a.top.name c; subs = [] }) nothing_held (drop 1 words) refl in
    rw (built_is, named, leaf) (total_level a.top.name c (drop 1 words) (every_rule f) ∙ (agrees c f (reads_form f a h) (drop 1 words) fit).clean [] 1
    ∙ ap (option_map (map row)) (read_given f (drop 1 words)))

-- where a word is refused, nothing is given
pub unfit_given : (f : Form) (words : List Text) → list_all is_fit words ≡ false → given_of f words ≡ None
unfit_given f words unfit = let none = unfit_arguments words unfit in rw none refl
  where
    none_each : (step : List Argument → Option (List Argument)) (o : Option (List Argument)) → o ≡ None → option_and_then step o ≡ None
    none_each step o none = rw none refl

    refused_first : (w : Text) (o : Option (List Argument)) → look_of w ≡ refused → option_and_then (with_word f w (look_of w)) o ≡ None
    refused_first w None e = refl
    refused_first w (Some args) e = rw e refl

    first : (w : Text) (ws : List Text) (l : Look) → look_of w ≡ l → list_all is_fit (w ∷ ws) ≡ false
        → (list_all is_fit ws ≡ false → arguments_of f ws ≡ None)
        → arguments_of f (w ∷ ws) ≡ None
    first w ws refused e unfit next = refused_first w (arguments_of f ws) e
    first w ws plain e unfit next =
        let rest : list_all is_fit ws ≡ false = rw e at unfit in
        none_each (with_word f w (look_of w)) (arguments_of f ws) (next rest)
    first w ws (named n value) e unfit next =
        let rest : list_all is_fit ws ≡ false = rw e at unfit in
        none_each (with_word f w (look_of w)) (arguments_of f ws) (next rest)

    unfit_arguments : (words : List Text) → list_all is_fit words ≡ false → arguments_of f words ≡ None
    unfit_arguments [] unfit = absurd (true≢false unfit)
    unfit_arguments (w ∷ ws) unfit = first w ws (look_of w) refl unfit (unfit_arguments ws)

-- a kind of fault is no success
pub among_some : (k : ErrorKind) (kinds : Kinds) (rows : List Row) → IsAmong k kinds → outcome kinds rows ≡ None
among_some k [] rows h = absurd h
among_some k (x ∷ xs) rows h = refl
