-- Which texts are refused beside a shelf, by which cause, and which entries and term each of the others has.
use Rattle.std.specs.Prelude.{◌≡◌, ℕ, suc, List, [], ◌∷◌, ◌++◌, length, map, Some, None, IsTrue}
use Rattle.std.specs.List.{list_all}
use Rattle.ac_types.specs.Types.{Bytes, Typ}
use Rattle.ac_terms.specs.Terms.{Expr}
use Rattle.ac_terms.specs.Defs.{Environment, Seen, Own', Shelf}
use Rattle.ac_rules.specs.Modules.{are_distinct}
use Rattle.ac_types.specs.Limits.{is_uri}
use Rattle.ac_syntax.specs.Signs.{Sign}
use Rattle.ac_syntax.specs.Trees.{ProgramTree}
use Rattle.ac_syntax.specs.Programs.{IsProgram, IsModule}
use Rattle.ac_syntax.specs.declared.fault.ParseFault.{ParseFault}
use Rattle.ac_syntax.specs.Texts.{HasTree, Refused, SameCause}
use Rattle.ac_resolve_scopes.specs.Surfaces.{surface_main}
use Rattle.ac_load_rules.specs.Causes.{Cause, NoTree, loaded, main_type, refusal_cause}

-- a text of the shelf
pub record Shelved : Type 0 where
  pub uri : Bytes
  pub text : Bytes

-- each URI is one, and stands once
pub record IsShelf (shelf : List Shelved) : Type 0 where
  pub uris : IsTrue (list_all (λ (s : Shelved). is_uri s.uri) shelf)
  pub distinct : IsTrue (are_distinct (map (λ (s : Shelved). s.uri) shelf))

module _ (digest : Bytes → Bytes) where
  -- a text from `seen` behind the entries E has this tree, and no cause refuses it
  pub record IsPart (Grammar : List Sign → ProgramTree → Type 0) (E : Environment) (seen : Seen) (text : Bytes) (tree : ProgramTree) : Type 0 where
    pub has : HasTree Grammar text tree
    pub sound : refusal_cause digest E seen tree ≡ None

  -- the entries of some texts of the shelf behind the entries E: each text is a module, and may name those in front of it
  pub data GivesEntries : Environment → List Shelved → Environment → Type 0 where
    nothing : {E : Environment} → GivesEntries E [] E
    a_module : {E F : Environment} {s : Shelved} {rest : List Shelved} {tree : ProgramTree}
        → IsPart IsModule E (Shelf s.uri) s.text tree → GivesEntries (loaded digest E (Shelf s.uri) tree) rest F → GivesEntries E (s ∷ rest) F

  -- the text is a program with these entries, those of the shelf first, and this term, of this type
  pub record Accepted (text : Bytes) (shelf : List Shelved) (F : Environment) (e : Expr) (T : Typ) : Type 0 where
    pub front : Environment
    pub shelved : GivesEntries [] shelf front
    pub tree : ProgramTree
    pub part : IsPart IsProgram front Own' text tree
    pub entries : F ≡ loaded digest front Own' tree
    pub main : e ≡ surface_main digest front tree
    pub typed : main_type digest front Own' tree ≡ Some T

  -- a text is refused: it has no tree, or its tree is refused
  pub data IsRefused (Grammar : List Sign → ProgramTree → Type 0) (E : Environment) (seen : Seen) (text : Bytes) : Cause → Type 0 where
    no_tree : {e : ParseFault} → Refused Grammar text e → IsRefused Grammar E seen text (NoTree e)
    with_tree : {tree : ProgramTree} {c : Cause} → HasTree Grammar text tree → refusal_cause digest E seen tree ≡ Some c → IsRefused Grammar E seen text c

  -- the first part that is refused, and its cause: the texts of the shelf in order, from part 1 on, and then the program, which is part 0
  pub data Refuses (text : Bytes) (shelf : List Shelved) : ℕ → Cause → Type 0 where
    of_shelf : (before rest : List Shelved) {s : Shelved} {E : Environment} {c : Cause}
        → shelf ≡ before ++ s ∷ rest → GivesEntries [] before E → IsRefused IsModule E (Shelf s.uri) s.text c → Refuses text shelf (suc (length before)) c
    of_program : {E : Environment} {c : Cause} → GivesEntries [] shelf E → IsRefused IsProgram E Own' text c → Refuses text shelf 0 c

-- the same cause, at the same place where it isn't one of syntax
pub data SameRefusal : Cause → Cause → Type 0 where
  equal : {c : Cause} → SameRefusal c c
  unparsed : {e f : ParseFault} → SameCause e f → SameRefusal (NoTree e) (NoTree f)
