-- Programs as they are written: trees in which each node has the place of the first byte of its first token.
use Rattle.std.specs.Prelude.{ℕ, ◌+◌, ℤ, max, Bool, List, [], ◌∷◌, Option}
use Rattle.ac_types.specs.Types.{Bytes}
use Rattle.ac_types.specs.Sigs.{Atom, Constraint, Resolve}

-- a name where it is written
pub record NameAt : Type 0 where
  pub at : ℕ
  pub word : Bytes

-- types; parentheses make no node
mutual
  pub data TypeTree : Type 0 where
    TyInt : (at : ℕ) → TypeTree
    TyBool : (at : ℕ) → TypeTree
    TyStr : (at : ℕ) → TypeTree
    TyUnit : (at : ℕ) → TypeTree
    TyExn : (at : ℕ) → TypeTree
    TyLocal : (at : ℕ) (word : Bytes) → TypeTree
    TyOf : (at : ℕ) (module_name ty : NameAt) → TypeTree
    TyTuple : (at : ℕ) (parts : TypeTrees) → TypeTree
    TyList : (at : ℕ) (item : TypeTree) → TypeTree
    TyOpt : (at : ℕ) (item : TypeTree) → TypeTree
    TyFun : (at : ℕ) (from to : TypeTree) → TypeTree

  pub data TypeTrees : Type 0 where
    no_type_trees : TypeTrees
    type_tree : TypeTree → TypeTrees → TypeTrees

-- patterns
mutual
  pub data PatTree : Type 0 where
    PatWild : (at : ℕ) → PatTree
    PatVar : (at : ℕ) (name : NameAt) (ty : TypeTree) → PatTree
    PatInt : (at : ℕ) (n : ℤ) → PatTree
    PatBool : (at : ℕ) (b : Bool) → PatTree
    PatStr : (at : ℕ) (text : Bytes) → PatTree
    PatUnit : (at : ℕ) → PatTree
    PatTuple : (at : ℕ) (parts : PatTrees) → PatTree
    PatNil : (at : ℕ) → PatTree
    PatCons : (at : ℕ) (head tail : PatTree) → PatTree
    PatAbsent : (at : ℕ) → PatTree
    PatPresent : (at : ℕ) (item : PatTree) → PatTree
    PatExn : (at number : ℕ) → PatTree
    PatExnOf : (at number : ℕ) (item : PatTree) → PatTree

  pub data PatTrees : Type 0 where
    no_pat_trees : PatTrees
    pat_tree : PatTree → PatTrees → PatTrees

-- expressions: a constant with its `-` is one `ExInt`; `ExOp` has the number of a primitive, `ExExn` that of an exception
mutual
  pub data Tree : Type 0 where
    ExInt : (at : ℕ) (n : ℤ) → Tree
    ExBool : (at : ℕ) (b : Bool) → Tree
    ExStr : (at : ℕ) (text : Bytes) → Tree
    ExUnit : (at : ℕ) → Tree
    ExExn : (at number : ℕ) → Tree
    ExExnOf : (at number : ℕ) (argument : Tree) → Tree
    ExTuple : (at : ℕ) (parts : Trees) → Tree
    ExNil : (at : ℕ) (ty : TypeTree) → Tree
    ExAbsent : (at : ℕ) (ty : TypeTree) → Tree
    ExPresent : (at : ℕ) (item : Tree) → Tree
    ExCons : (at : ℕ) (head tail : Tree) → Tree
    ExVar : (at : ℕ) (word : Bytes) → Tree
    ExOf : (at : ℕ) (module_name field : NameAt) → Tree
    ExFun : (at : ℕ) (name : NameAt) (ty : TypeTree) (body : Tree) → Tree
    ExRec : (at : ℕ) (name argument : NameAt) (ty result : TypeTree) (body : Tree) → Tree
    ExApp : (at : ℕ) (function argument : Tree) → Tree
    ExLet : (at : ℕ) (name : NameAt) (ty : TypeTree) (bound body : Tree) → Tree
    ExLetRec : (at : ℕ) (name argument : NameAt) (ty result : TypeTree) (bound body : Tree) → Tree
    ExIf : (at : ℕ) (test so otherwise : Tree) → Tree
    ExSeq : (at : ℕ) (parts : Trees) → Tree
    ExMatch : (at : ℕ) (of : Tree) (arms : ArmTrees) → Tree
    ExTry : (at : ℕ) (of : Tree) (arms : ArmTrees) → Tree
    ExRaise : (at : ℕ) (exception : Tree) (ty : TypeTree) → Tree
    ExAnd : (at : ℕ) (a b : Tree) → Tree
    ExOr : (at : ℕ) (a b : Tree) → Tree
    ExOp : (at number : ℕ) (parts : Trees) → Tree
    ExMarshal : (at : ℕ) (mark value : Tree) (ty : TypeTree) → Tree
    ExUnmarshal : (at : ℕ) (text : Tree) (ty : TypeTree) → Tree

  pub data Trees : Type 0 where
    no_trees : Trees
    tree : Tree → Trees → Trees

  pub data ArmTrees : Type 0 where
    no_arm_trees : ArmTrees
    arm_tree : PatTree → Tree → ArmTrees → ArmTrees

-- an abbreviation: a type with a name of its own
pub record AbbrevTree : Type 0 where
  pub name : NameAt
  pub ty : TypeTree

pub data SpecTree : Type 0 where
  AbstractSpec : (name : NameAt) → SpecTree
  ManifestSpec : (abbreviation : AbbrevTree) → SpecTree
  ValSpec : (name : NameAt) (ty : TypeTree) → SpecTree

pub record SigTree : Type 0 where
  pub at : ℕ
  pub specs : List SpecTree

pub data FieldTree : Type 0 where
  AbbrevField : (abbreviation : AbbrevTree) → FieldTree
  ValField : (name : NameAt) (ty : TypeTree) (body : Tree) → FieldTree

-- what an import asks of its module: a version, or the name of a definition
pub data WantsTree : Type 0 where
  WantsVersion : (constraint : Constraint) → WantsTree
  WantsName : (name : NameAt) → WantsTree

pub data DefTree : Type 0 where
  ModuleDef : (at : ℕ) (name : NameAt) (sig : SigTree) (version : Option (List Atom)) (fields : List FieldTree) → DefTree
  ImportDef : (at : ℕ) (name : NameAt) (sig : SigTree) (wants : WantsTree) (like : Option (List AbbrevTree)) (by : List Resolve) → DefTree
  MarkDef : (at text_at : ℕ) (text : Bytes) → DefTree

-- a program has an expression; a module alone has none
pub record ProgramTree : Type 0 where
  pub defs : List DefTree
  pub expr : Option Tree

abbrev pub type_trees : List TypeTree → TypeTrees
type_trees [] = no_type_trees
type_trees (t ∷ ts) = type_tree t (type_trees ts)

abbrev pub pat_trees : List PatTree → PatTrees
pat_trees [] = no_pat_trees
pat_trees (t ∷ ts) = pat_tree t (pat_trees ts)

abbrev pub trees : List Tree → Trees
trees [] = no_trees
trees (t ∷ ts) = tree t (trees ts)

abbrev pub arm_trees : List (PatTree × Tree) → ArmTrees
arm_trees [] = no_arm_trees
arm_trees (arm ∷ arms) = arm_tree arm.0 arm.1 (arm_trees arms)

-- Heights: a leaf has 1, another node one more than its highest part. Types and patterns have heights of their own, which don't count in an expression's.
abbrev mutual
  pub type_height : TypeTree → ℕ
  type_height (TyTuple at parts) = highest_type_tree parts + 1
  type_height (TyList at item) = type_height item + 1
  type_height (TyOpt at item) = type_height item + 1
  type_height (TyFun at from to) = max (type_height from) (type_height to) + 1
  type_height (TyInt at) = 1
  type_height (TyBool at) = 1
  type_height (TyStr at) = 1
  type_height (TyUnit at) = 1
  type_height (TyExn at) = 1
  type_height (TyLocal at x) = 1
  type_height (TyOf at m x) = 1

  pub highest_type_tree : TypeTrees → ℕ
  highest_type_tree no_type_trees = 0
  highest_type_tree (type_tree t ts) = max (type_height t) (highest_type_tree ts)

abbrev mutual
  pub pat_height : PatTree → ℕ
  pat_height (PatTuple at parts) = highest_pat parts + 1
  pat_height (PatCons at head tail) = max (pat_height head) (pat_height tail) + 1
  pat_height (PatPresent at item) = pat_height item + 1
  pat_height (PatExnOf at number item) = pat_height item + 1
  pat_height (PatWild at) = 1
  pat_height (PatVar at name T) = 1
  pat_height (PatInt at n) = 1
  pat_height (PatBool at b) = 1
  pat_height (PatStr at text) = 1
  pat_height (PatUnit at) = 1
  pat_height (PatNil at) = 1
  pat_height (PatAbsent at) = 1
  pat_height (PatExn at number) = 1

  pub highest_pat : PatTrees → ℕ
  highest_pat no_pat_trees = 0
  highest_pat (pat_tree t ts) = max (pat_height t) (highest_pat ts)

abbrev mutual
  pub tree_height : Tree → ℕ
  tree_height (ExExnOf at number argument) = tree_height argument + 1
  tree_height (ExTuple at parts) = highest parts + 1
  tree_height (ExPresent at item) = tree_height item + 1
  tree_height (ExCons at head tail) = max (tree_height head) (tree_height tail) + 1
  tree_height (ExFun at name ty body) = tree_height body + 1
  tree_height (ExRec at name argument ty result body) = tree_height body + 1
  tree_height (ExApp at function argument) = max (tree_height function) (tree_height argument) + 1
  tree_height (ExLet at name ty bound body) = max (tree_height bound) (tree_height body) + 1
  tree_height (ExLetRec at name argument ty result bound body) = max (tree_height bound) (tree_height body) + 1
  tree_height (ExIf at test so otherwise) = max (tree_height test) (max (tree_height so) (tree_height otherwise)) + 1
  tree_height (ExSeq at parts) = highest parts + 1
  tree_height (ExMatch at of arms) = max (tree_height of) (highest_arm arms) + 1
  tree_height (ExTry at of arms) = max (tree_height of) (highest_arm arms) + 1
  tree_height (ExRaise at exception ty) = tree_height exception + 1
  tree_height (ExAnd at a b) = max (tree_height a) (tree_height b) + 1
  tree_height (ExOr at a b) = max (tree_height a) (tree_height b) + 1
  tree_height (ExOp at number parts) = highest parts + 1
  tree_height (ExMarshal at mark value ty) = max (tree_height mark) (tree_height value) + 1
  tree_height (ExUnmarshal at text ty) = tree_height text + 1
  tree_height (ExInt at n) = 1
  tree_height (ExBool at b) = 1
  tree_height (ExStr at text) = 1
  tree_height (ExUnit at) = 1
  tree_height (ExExn at number) = 1
  tree_height (ExNil at ty) = 1
  tree_height (ExAbsent at ty) = 1
  tree_height (ExVar at x) = 1
  tree_height (ExOf at m x) = 1

  pub highest : Trees → ℕ
  highest no_trees = 0
  highest (tree t ts) = max (tree_height t) (highest ts)

  pub highest_arm : ArmTrees → ℕ
  highest_arm no_arm_trees = 0
  highest_arm (arm_tree p t arms) = max (tree_height t) (highest_arm arms)
