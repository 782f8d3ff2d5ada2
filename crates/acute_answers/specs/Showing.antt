-- What the commands give that show something of a program.
use Rattle.std.specs.Prelude.{ℕ, List}
use Rattle.ac_types.specs.Types.{Bytes, Typ}
use Rattle.ac_terms.specs.Terms.{Expr}
use Rattle.ac_terms.specs.Defs.{Environment}
use Rattle.ac_generate.specs.Generated.{program_code}
use Rattle.acute_listings.specs.Listing.{listing_of}
use Rattle.acute_listings.specs.DefinitionNames.{names_shown}
use Rattle.ac_load_rules.specs.Accepting.{Shelved}
use Rattle.ac_load.specs.Loading.{Loads, Rejects}
use Rattle.ac_load.specs.declared.kind.Kind.{Kind}
use Rattle.acute_answers.specs.declared.status.TheConstants.Status.{FINISHED, REFUSED}
use Rattle.acute_answers.specs.declared.showing.Showing.{Showing}
use Rattle.acute_answers.specs.declared.showing.Showing.TheVariants.{Names, Code}
use Rattle.acute_answers.specs.Answers.{ShownAnswer, printing, telling}
use Rattle.acute_answers.specs.Lines.{refusal_line}

-- the names of its definitions, or its code: the blocks of its entries in order, and then that of its term
abbrev pub shown : Showing → Environment → Expr → Bytes
shown Names E e = names_shown E
shown Code E e = listing_of (program_code E e)

-- a text beside a shelf is refused, or that is shown of its program
pub data Shows (what : Showing) (text : Bytes) (shelf : List Shelved) : ShownAnswer → Type 0 where
  not_shown : (part : ℕ) (kind : Kind) → Rejects text shelf part kind → Shows what text shelf (telling REFUSED (refusal_line part kind))
  is_shown : (E : Environment) (e : Expr) (T : Typ) → Loads text shelf E e T → Shows what text shelf (printing FINISHED (shown what E e))
