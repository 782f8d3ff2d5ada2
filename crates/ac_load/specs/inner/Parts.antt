-- What one part adds to the entries in front of it.
use Rattle.std.specs.Prelude.{◌≡◌, ℕ, List, ◌++◌, take, drop, Some, None}
use Rattle.sha2.specs.Sha256.{sha256}
use Rattle.ac_types.specs.Types.{Bytes, Typ}
use Rattle.ac_terms.specs.Terms.{Expr}
use Rattle.ac_terms.specs.Defs.{Environment, Seen, Own', Shelf}
use Rattle.ac_syntax.specs.Signs.{Sign}
use Rattle.ac_syntax.specs.Trees.{ProgramTree}
use Rattle.ac_syntax.specs.Programs.{IsProgram, IsModule}
use Rattle.ac_resolve_scopes.specs.Surfaces.{surface_main}
use Rattle.ac_load_rules.specs.Causes.{linked_behind, loaded, main_type, refusal_cause}
use Rattle.ac_load_rules.specs.Accepting.{Shelved, IsPart, IsRefused}
use Rattle.ac_load.specs.Kinds.{OfCause}
use Rattle.ac_load.specs.declared.kind.Kind.{Kind}

-- the entries with those behind the first n from `seen` and linked
abbrev pub linked_part : Seen → ℕ → Environment → Environment
linked_part seen n E = take n E ++ linked_behind seen (take n E) (drop n E)

-- a tree has these entries, with those in front, and this term, of this type; no cause refuses it
pub record IsTaken (E : Environment) (seen : Seen) (p : ProgramTree) (F : Environment) (e : Expr) (T : Typ) : Type 0 where
  pub sound : refusal_cause sha256 E seen p ≡ None
  pub entries : F ≡ loaded sha256 E seen p
  pub main : e ≡ surface_main sha256 E p
  pub typed : main_type sha256 E seen p ≡ Some T

-- or it is refused, for a cause of this kind
abbrev pub IsTreeRefused : Environment → Seen → ProgramTree → Kind → Type 0
IsTreeRefused E seen p kind = OfCause (λ c. refusal_cause sha256 E seen p ≡ Some c) kind

-- a text from `seen` is refused behind the entries E, for a cause of this kind
abbrev pub RejectsPart : (List Sign → ProgramTree → Type 0) → Environment → Seen → Bytes → Kind → Type 0
RejectsPart Grammar E seen text kind = OfCause (IsRefused sha256 Grammar E seen text) kind

-- a text of the shelf is a module with these entries
pub record IsModuleTaken (E : Environment) (s : Shelved) (F : Environment) : Type 0 where
  pub tree : ProgramTree
  pub part : IsPart sha256 IsModule E (Shelf s.uri) s.text tree
  pub entries : F ≡ loaded sha256 E (Shelf s.uri) tree

-- a text is a program with these entries, this term and its type
pub record IsProgramTaken (E : Environment) (text : Bytes) (F : Environment) (e : Expr) (T : Typ) : Type 0 where
  pub tree : ProgramTree
  pub part : IsPart sha256 IsProgram E Own' text tree
  pub entries : F ≡ loaded sha256 E Own' tree
  pub main : e ≡ surface_main sha256 E tree
  pub typed : main_type sha256 E Own' tree ≡ Some T
