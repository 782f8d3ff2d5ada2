-- The words of a form read from left to right, as a parser goes through them.
use Rattle.std.proofs.Common.{ℕ, ◌+◌, List, [], ◌∷◌, ◌++◌, Option, Some, None, length, true, false, Bool}
use Rattle.std.specs.Prelude.{if◌then◌else◌, nat_lt, option_and_then}
use Rattle.std.specs.List.{list_any}
use Rattle.std.specs.Str.{bytes_eq}
use Rattle.acute_words.specs.Form.{Form, Given, Look, WordPlace, Text, look_of, named, option_in, place_of_number, plain, refused}

-- the name is among what was given
abbrev pub has : Text → Given → Bool
has id given = list_any (λ p. bytes_eq p.0 id) given

-- one more name with its values, for the first time
abbrev pub added : Text → List Text → Given → Option Given
added id values given = if has id given then None else Some (given ++ (id, values) ∷ [])

-- what the last word left open: an option that waits for its value, or a run of words of a place, of which
-- it may have so many
pub data Open : Type 0 where
  nothing : Open
  value_of : Text → Open
  run_of : Text → ℕ → List Text → Open

-- what was given so far, what is open, and the place of the next plain word
pub record State : Type 0 where
  pub given : Given
  pub opened : Open
  pub place : ℕ

-- what was given, with the run that ends here; an option has its value
abbrev pub closed : Open → Given → Option Given
closed nothing given = Some given
closed (value_of id) given = None
closed (run_of id most words) given =
    if nat_lt most (length words) then None else added id words given

abbrev pub state_at : ℕ → Open → Given → State
state_at k opened given = record { given = given; opened = opened; place = k }

abbrev pub open_at : ℕ → Given → Open → Option State
open_at k given opened = Some (state_at k opened given)

abbrev pub with_item : Text → List Text → ℕ → Given → Option State
with_item id values k given = option_and_then (λ g. Some (state_at k nothing g)) (added id values given)

-- an option, where it is one of the command's
abbrev pub option_met : Option (Text × Bool) → Option Text → ℕ → Given → Option State
option_met None value k given = None
option_met (Some (id, true)) (Some v) k given = with_item id (v ∷ []) k given
option_met (Some (id, true)) None k given = open_at k given (value_of id)
option_met (Some (id, false)) (Some v) k given = None
option_met (Some (id, false)) None k given = with_item id [] k given

-- a plain word that is no value of an option, at a place
abbrev pub word_at : Text → Text → Option ℕ → ℕ → Given → Option State
word_at word id None k given = with_item id (word ∷ []) (k + 1) given
word_at word id (Some most) k given = open_at k given (run_of id most (word ∷ []))

abbrev pub place_met : Option WordPlace → Text → ℕ → Given → Option State
place_met None word k given = None
place_met (Some p) word k given = word_at word p.name p.most k given

abbrev pub plain_met : Form → Open → Text → ℕ → Given → Option State
plain_met f nothing word k given = place_met (place_of_number f k) word k given
plain_met f (value_of id) word k given = with_item id (word ∷ []) k given
plain_met f (run_of id most words) word k given =
    open_at k given (run_of id most (words ++ word ∷ []))

abbrev pub step_by : Form → Look → Text → Open → ℕ → Given → Option State
step_by f refused word opened k given = None
step_by f (named name value) word opened k given =
    option_and_then (option_met (option_in f name) value k) (closed opened given)
step_by f plain word opened k given = plain_met f opened word k given

abbrev pub step : Form → Text → State → Option State
step f word s = step_by f (look_of word) word s.opened s.place s.given

abbrev pub read_from : Form → List Text → State → Option Given
read_from f [] s = closed s.opened s.given
read_from f (word ∷ rest) s = option_and_then (read_from f rest) (step f word s)

-- before the first word
abbrev pub start : State
start = state_at 1 nothing []
