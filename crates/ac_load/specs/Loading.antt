-- Which texts load beside a shelf, as which entries, term and type; and which are rejected, in which part and as which kind.
use Rattle.std.specs.Prelude.{ℕ, List, map}
use Rattle.sha2.specs.Sha256.{sha256}
use Rattle.ac_types.specs.Types.{Bytes, Typ}
use Rattle.ac_terms.specs.Terms.{Expr}
use Rattle.ac_terms.specs.Defs.{Environment}
use Rattle.ac_terms.specs.Read.{bytes_of}
use Rattle.ac_load_rules.specs.Accepting.{Shelved, Accepted, Refuses}
use Rattle.ac_load.specs.Kinds.{OfCause}
use Rattle.ac_load.specs.declared.shelf.ShelfEntry.{ShelfEntry}
use Rattle.ac_load.specs.declared.shelf.Shelf as code
use Rattle.ac_load.specs.declared.kind.Kind.{Kind}
use Rattle.ac_load.specs.declared.kind.Kind.TheVariants.{Syntax}

-- the texts of a shelf, in their order
abbrev pub shelved : ShelfEntry → Shelved
shelved entry = record { uri = bytes_of entry.uri; text = bytes_of entry.text }

abbrev pub shelf_of : code.Shelf → List Shelved
shelf_of shelf = map shelved shelf.0

-- the text is accepted beside the shelf, with these entries and this term, of this type
abbrev pub Loads : Bytes → List Shelved → Environment → Expr → Typ → Type 0
Loads text shelf E e T = Accepted sha256 text shelf E e T

-- the first part that is refused, the program being part 0, and the kind of the cause
abbrev pub Rejects : Bytes → List Shelved → ℕ → Kind → Type 0
Rejects text shelf part kind = OfCause (Refuses sha256 text shelf part) kind

-- the same kind, at the same place where it isn't one of syntax
pub data SameKind : Kind → Kind → Type 0 where
  equal : {a : Kind} → SameKind a a
  two_places : {i j : ℕ} → SameKind (Syntax i) (Syntax j)
