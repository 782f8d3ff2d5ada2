-- A table of names and texts that keeps those of entries.
use Rattle.std.specs.Prelude.{◌≡◌, ℕ, Some, slice_get}
use Rattle.ac_types.specs.Types.{Bytes}
use Rattle.ac_terms.specs.Defs.{Environment, name_at}
use Rattle.ac_terms.specs.Names.{text_of_entry}
use Rattle.ac_names.specs.Table.{KnownNames, number_of}

-- a name is kept with this text
pub record Keeps (table : KnownNames) (name text : Bytes) : Type 0 where
  pub number : ℕ
  pub place : number_of table name ≡ Some number
  pub entry : slice_get table number ≡ Some (name, text)

-- what is kept stays
abbrev pub NamesGrow : KnownNames → KnownNames → Type 0
NamesGrow old new = (name text : Bytes) → Keeps old name text → Keeps new name text

-- the name and the text of an entry are kept
abbrev pub KeepsEntry : Environment → ℕ → KnownNames → Type 0
KeepsEntry E i table = (name text : Bytes) → name_at E i ≡ Some name → text_of_entry E i ≡ Some text → Keeps table name text

abbrev pub KeepsEntries : Environment → KnownNames → Type 0
KeepsEntries E table = (i : ℕ) → KeepsEntry E i table
