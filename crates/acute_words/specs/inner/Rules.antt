-- The clap command that reads the words of a form.
use Rattle.std.specs.Prelude.{ℕ, Bool, true, false, List, [], ◌∷◌, ◌++◌, map, Option, Some, None}
use Rattle.std.specs.Prelude.{min, is_some, ◌≡◌, ◌&&◌, ◌==◌, ◌+◌}
use Rattle.std.specs.Str.{bytes_eq}
use Rattle.clap.specs.Walk.{Row, Rule, Text, arg_by_id, rows_of}
use Rattle.clap.specs.Simple.{App, Shape, built, new_shape}
use Rattle.clap.specs.Faults.{is_simple_and_free}
use Rattle.clap.specs.Lexer.{usize_max}
use Rattle.clap.specs.Matches.{found_of}
use Rattle.clap.specs.declared.parser.matches.ArgMatches.{ArgMatches}
use Rattle.clap.specs.declared.builder.ArgAction.TheVariants.{Set}
use Rattle.clap.specs.declared.builder.value_parser.Reading.TheVariants.{AsWritten}
use Rattle.clap.specs.declared.builder.value_parser.ValueParser.TheVariants as vp
use Rattle.clap.specs.declared.parser.matches.ValueSource.TheVariants.{CommandLine}
use Rattle.acute_words.specs.Form.{Form, WordPlace}

-- an argument of clap's that is used at most once, with this name, its option's name or its place, and from
-- `least` to `most` values, which are taken as they are written; it is not required and has no default
abbrev pub rule_with : Text → Option Text → Option ℕ → ℕ → ℕ → Rule
rule_with id long index least most = record {
  id = id;
  long = long;
  aliases = [];
  short = None;
  short_aliases = [];
  index = index;
  action = Some Set;
  range = Some (record { start_inclusive = least; end_inclusive = most });
  value_names = 0;
  defaults = [];
  missing = [];
  trailing_var_arg = false;
  parser = Some vp.String;
  ignore_case = false;
  required = false;
  is_simple = true;
  is_free = true;
}

-- how many values an option has
abbrev pub width : Bool → ℕ
width true = 1
width false = 0

-- the argument of a form's option
abbrev pub option_rule : Text × Bool → Rule
option_rule p = rule_with p.0 (Some p.0) None (width p.1) (width p.1)

-- the most words of a place
abbrev pub most_of : Option ℕ → ℕ
most_of None = 1
most_of (Some most) = most

-- the argument of a form's place
abbrev pub place_rule : WordPlace → Rule
place_rule p = rule_with p.name None (Some p.number) 1 (most_of p.most)

-- the arguments of a form, in the order in which clap keeps them once they are built
abbrev pub rules_of_form : Form → List Rule
rules_of_form f = map place_rule f.places ++ map option_rule f.options

-- what clap's matches hold of a name that was given
abbrev pub row : Text × List Text → Row
row p = record {
  id = p.0;
  values = p.1;
  count = None;
  source = Some CommandLine;
  reading = AsWritten;
}

-- what clap's matches hold
abbrev pub rows_in : ArgMatches → List Row
rows_in m = rows_of (found_of m)

-- a built command with these arguments, and with no help, version or subcommand
abbrev pub shape_with : Text → List Rule → Shape
shape_with name rules = record (new_shape name) {
  rules = rules;
  disable_help_flag = true;
  disable_help_subcommand = true;
  is_built = true;
}

-- each element of the list is so
abbrev pub Every : {X : Type 0} → (X → Type 0) → List X → Type 0
Every P [] = Unit {0}
Every P (x ∷ xs) = P x × Every P xs

-- no run of words has this name
abbrev pub Apart : Form → Text → Type 0
Apart f id = Every (λ q. (bytes_eq id q.name && is_some q.most) ≡ false) f.places

-- a place of one word has the name of no run, and a run may have more words than one
abbrev pub MostFits : Form → Text → Option ℕ → Type 0
MostFits f id None = Apart f id
MostFits f id (Some most) = (1 == most) ≡ false

-- clap finds the option by its name, which is the name of no run
pub record OptionFits (c : List Rule) (f : Form) (p : Text × Bool) : Type 0 where
  pub at : arg_by_id c p.0 ≡ Some (option_rule p)
  pub apart : Apart f p.0

-- clap finds the place by its name, and counts on past its number
pub record PlaceFits (c : List Rule) (f : Form) (p : WordPlace) : Type 0 where
  pub at : arg_by_id c p.name ≡ Some (place_rule p)
  pub next : min (p.number + 1) usize_max ≡ p.number + 1
  pub most : MostFits f p.name p.most

-- the command that clap builds of this one has the arguments of the form, in which each is found by its name
pub record ReadsForm (f : Form) (a : App) : Type 0 where
  pub built : built a ≡ record { top = shape_with a.top.name (rules_of_form f); subs = [] }
  pub named : a.top.no_binary_name ≡ false
  pub simple : is_simple_and_free a ≡ true
  pub options : Every (OptionFits (rules_of_form f) f) f.options
  pub places : Every (PlaceFits (rules_of_form f) f) f.places
