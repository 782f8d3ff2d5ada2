-- What clap is to know of arguments and commands, as records.
use Rattle.std.specs.Prelude.{ℕ, List, [], ◌∷◌, Some, codes, max, true}
use Rattle.clap.specs.Words.{App, Rule, Text, new_app, new_rule, with_rule}
use Rattle.clap.specs.declared.builder.ArgAction.TheVariants.{Set}
use Rattle.acute_words.specs.declared.arguments.Argument.{Argument}
use Rattle.acute_words.specs.declared.arguments.Argument.TheVariants as argument

-- an option `--NAME` with a value
abbrev pub value_rule : Text → Rule
value_rule name = record (new_rule name) { long = Some name }

-- an argument that takes from `least` to `most` values
abbrev pub ranged : Rule → ℕ → ℕ → Rule
ranged r least most = record r { action = Some Set; range = Some (record { start_inclusive = least; end_inclusive = most }) }

-- an argument
abbrev pub rule_by : Argument → Rule
rule_by (argument.Word name) = new_rule name.now
rule_by (argument.Files most) = ranged (new_rule (codes "FILE")) 1 (max most 1)
rule_by (argument.Value name) = value_rule name.now
rule_by (argument.Flag name) = ranged (value_rule name.now) 0 0

-- a command with these arguments behind its own
abbrev pub with_arguments : App → List Argument → App
with_arguments a [] = a
with_arguments a (x ∷ xs) = with_arguments (with_rule a (rule_by x)) xs

-- no `--help` and no `-h`
abbrev pub without_help : App → App
without_help a = record a { top = record a.top { disable_help_flag = true } }

-- a command of this name with these arguments
abbrev pub app_by : Text → List Argument → App
app_by name arguments = with_arguments (without_help (new_app name)) arguments
