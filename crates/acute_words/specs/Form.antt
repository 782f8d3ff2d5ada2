-- How the words after a command's name are read as options and places, before their values are looked at.
use Rattle.std.specs.Prelude.{ℕ, ◌+◌, ◌==◌, ◌&&◌, Bool, true, false, not, List, [], ◌∷◌}
use Rattle.std.specs.Prelude.{nat_lt, length, Option, Some, None, if◌then◌else◌, find, is_some}
use Rattle.std.specs.Prelude.{option_and_then, option_map}
use Rattle.std.specs.List.{list_any, before_first, after_first}
use Rattle.std.specs.Str.{bytes_eq}

-- a word, a name or a value, as its bytes
abbrev pub Text : Type 0
Text = List ℕ

-- the byte `-`
abbrev pub is_hyphen : ℕ → Bool
is_hyphen byte = byte == 45

-- the byte `=`
abbrev pub is_equals : ℕ → Bool
is_equals byte = byte == 61

-- what a word is by itself: an option, with the value after its `=` if it has one; a plain word, which
-- doesn't begin with `-` or is `-` alone; or any other word, which is refused
pub data Look : Type 0 where
  named : Text → Option Text → Look
  plain : Look
  refused : Look

-- the value of an option that is written with a `=`
abbrev pub option_value : Text → Option Text
option_value text = if list_any is_equals text then Some (after_first is_equals text) else None

-- a word that begins with `--`, by what follows: `--` alone is refused, all else is an option
abbrev pub after_hyphens : Text → Look
after_hyphens [] = refused
after_hyphens (x ∷ xs) = named (before_first is_equals (x ∷ xs)) (option_value (x ∷ xs))

-- a word that begins with `-`, by what follows: `-` alone is plain, and only with a second `-` it is an option
abbrev pub after_hyphen : Text → Look
after_hyphen [] = plain
after_hyphen (x ∷ xs) = if is_hyphen x then after_hyphens xs else refused

-- a word by itself
abbrev pub look_of : Text → Look
look_of [] = plain
look_of (x ∷ xs) = if is_hyphen x then after_hyphen xs else plain

-- such a word is not refused
abbrev pub is_read : Look → Bool
is_read refused = false
is_read _ = true

-- the word is one that may stand after a command's name
abbrev pub is_fit : Text → Bool
is_fit word = is_read (look_of word)

-- a place for plain words that are no values: its number, from 1 on, and its name; it takes one word, or a
-- run of words that stand next to one another, at most so many
pub record WordPlace : Type 0 where
  pub number : ℕ
  pub name : Text
  pub most : Option ℕ

-- what a command takes: options by name, each with whether it has a value, and places
pub record Form : Type 0 where
  pub options : List (Text × Bool)
  pub places : List WordPlace

-- the option of this name
abbrev pub option_in : Form → Text → Option (Text × Bool)
option_in f name = find (λ p. bytes_eq p.0 name) f.options

-- the place of this number
abbrev pub place_of_number : Form → ℕ → Option WordPlace
place_of_number f k = find (λ p. p.number == k) f.places

-- what words give: an option with its value, if it has one; or a word that is no value, for a place
pub data Argument : Type 0 where
  option : Text → List Text → Argument
  word : Text → Argument

-- an option before other arguments takes the next one for its value, which is a plain word
abbrev pub with_next : Text → List Argument → Option (List Argument)
with_next id (word value ∷ more) = Some (option id (value ∷ []) ∷ more)
with_next id _ = None

-- an option before other arguments: one that the command has, with a value exactly where it has to have one
abbrev pub with_option : Option (Text × Bool) → Option Text → List Argument → Option (List Argument)
with_option (Some (id, true)) (Some value) more = Some (option id (value ∷ []) ∷ more)
with_option (Some (id, true)) None more = with_next id more
with_option (Some (id, false)) None more = Some (option id [] ∷ more)
with_option _ _ _ = None

-- a word before other arguments
abbrev pub with_word : Form → Text → Look → List Argument → Option (List Argument)
with_word f w refused more = None
with_word f w (named name value) more = with_option (option_in f name) value more
with_word f w plain more = Some (word w ∷ more)

-- the arguments that words give, in the order of the words, where each word is taken
abbrev pub arguments_of : Form → List Text → Option (List Argument)
arguments_of f [] = Some []
arguments_of f (w ∷ ws) = option_and_then (with_word f w (look_of w)) (arguments_of f ws)

-- names of options and places with their values
abbrev pub Given : Type 0
Given = List (Text × List Text)

-- a run of words before what is given after it, where they aren't too many
abbrev pub with_values : Text → ℕ → List Text → Given → Option Given
with_values id most values given = if nat_lt most (length values) then None else Some ((id, values) ∷ given)

-- a word of a run, before what is given after it: a word that follows at once is of the same run
abbrev pub with_run : Text → ℕ → Text → List Argument → Given → Option Given
with_run id most w (word next ∷ more) (p ∷ given) = with_values id most (w ∷ p.1) given
with_run id most w _ given = with_values id most (w ∷ []) given

-- a word at a place, before what is given after it
abbrev pub with_place : Text → Option ℕ → Text → List Argument → Given → Option Given
with_place id None w more given = Some ((id, w ∷ []) ∷ given)
with_place id (Some most) w more given = with_run id most w more given

-- the same, where the command has that place
abbrev pub with_place_in : Option WordPlace → Text → List Argument → Given → Option Given
with_place_in None w more given = None
with_place_in (Some p) w more given = with_place p.name p.most w more given

-- the place of the word after one at this place: a run goes on
abbrev pub place_after : Option WordPlace → ℕ → ℕ
place_after None k = k + 1
place_after (Some p) k = if is_some p.most then k else k + 1

-- what arguments give by name, where the first word among them is for the place of this number
abbrev pub given_from : Form → ℕ → List Argument → Option Given
given_from f k [] = Some []
given_from f k (option id values ∷ more) = option_map (λ given. (id, values) ∷ given) (given_from f k more)
given_from f k (word w ∷ more) =
    option_and_then (with_place_in (place_of_number f k) w more) (given_from f (place_after (place_of_number f k) k) more)

-- no name stands twice
abbrev pub is_once : Given → Bool
is_once [] = true
is_once (p ∷ given) = not (list_any (λ q. bytes_eq p.0 q.0) given) && is_once given

-- each option and each place is given at most once
abbrev pub given_once : Given → Option Given
given_once given = if is_once given then Some given else None

-- what the words give, where a command of this form takes them
abbrev pub given_of : Form → List Text → Option Given
given_of f words = option_and_then given_once (option_and_then (given_from f 1) (arguments_of f words))
