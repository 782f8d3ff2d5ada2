-- What is asked of each entry by itself.
use Rattle.std.specs.Prelude.{ℕ, Bool, true, Option}
use Rattle.ac_terms.specs.Defs.{Environment, Field, Def, AModule, AnImport, AMark, Entry}
use Rattle.ac_rules.specs.Modules.{is_valuable, are_typed}
use Rattle.ac_load_rules.specs.Causes.{Cause, uncovering, not_valuable, without_likespec, unlinked}
use Rattle.ac_load_causes.specs.declared.asked.Question.{Question}
use Rattle.ac_load_causes.specs.declared.asked.Question.TheVariants as ask

abbrev pub asked : Question → ℕ → Entry → Option Cause
asked ask.Covers = uncovering
asked ask.Valuable = not_valuable
asked ask.Likes = without_likespec
asked ask.Links = unlinked

abbrev pub has_value : Field → Bool
has_value f = is_valuable f.term

-- whether the fields of a definition, that of entry i, are typed
abbrev pub is_typed_def : Environment → ℕ → Def → Bool
is_typed_def E i (AModule m) = are_typed E i 0 m.fields
is_typed_def E i (AnImport m) = true
is_typed_def E i (AMark t) = true
