-- What the parsers may answer.
use Rattle.std.specs.Prelude.{◌≡◌, ℕ, ◌≤◌, List, ◌∷◌, ◌++◌, length, Option, Some, None, option_map, Result, MatchOption}
use Rattle.std.specs.Borrow.{Bor}
use Rattle.ac_types.specs.Types.{Bytes}
use Rattle.ac_types.specs.Sigs.{Atom, Constraint, Resolve}
use Rattle.ac_version.specs.declared.read.VToken.{VToken}
use Rattle.ac_version.specs.declared.read.VersionFault.{VersionFault}
use Rattle.ac_version.specs.declared.read.VersionFault.TheVariants as bad
use Rattle.ac_version.specs.VersionReading.{ReadsConstraint}
use Rattle.ac_syntax.specs.Signs.{Sign, Str, Lower, Upper, Fixed}
use Rattle.ac_syntax.specs.Trees.{NameAt, Tree, AbbrevTree, SigTree, WantsTree, WantsVersion, WantsName, DefTree, ProgramTree}
use Rattle.ac_syntax.specs.TypeForms.{IsType}
use Rattle.ac_syntax.specs.Expressions.{IsExpr}
use Rattle.ac_syntax.specs.Programs.{IsSig, vtoken_of, VTokens, ParsesVersion, ParsesLike, ParsesDef, ParsesProgram, resolve_sign}
use Rattle.ac_syntax.specs.ReadSigns.{read_signs}
use Rattle.ac_syntax.specs.ReadTrees.{name_of, abbrevs_of, sig_tree_of, wants_of, def_tree_of}
use Rattle.ac_syntax.specs.PartParsing.{SymbolAt, NoSymbol}
use Rattle.ac_syntax.specs.declared.sign.Sign as sign
use Rattle.ac_syntax.specs.declared.surface.SName.{SName}
use Rattle.ac_syntax.specs.declared.surface.SAbbrev.{SAbbrev}
use Rattle.ac_syntax.specs.declared.surface.SSig.{SSig}
use Rattle.ac_syntax.specs.declared.surface.SWants.{SWants}
use Rattle.ac_syntax.specs.declared.surface.SDef.{SDef}
use Rattle.ac_syntax.specs.declared.stop.ParseError.{ParseError}
use Rattle.ac_syntax.specs.declared.stop.ParseError.TheVariants as stop
use Rattle.ac_parser_patterns.specs.Reading.{TakenSigns, FindsOr, ReadsOr}
use Rattle.ac_syntax.specs.declared.sign.Symbol.TheVariants.{By, Colon, Comma, Equals, NameWord, Struct}

-- the first sign is this upper name
abbrev pub UpperAt : NameAt → List Sign → List Sign → Type 0
UpperAt name ts rest = ts ≡ Upper name.at name.word ∷ rest

abbrev pub NoUpper : List Sign → Type 0
NoUpper ts = (name : NameAt) (rest : List Sign) → UpperAt name ts rest → ⊥

-- the first sign is this string
abbrev pub TextAt : ℕ → Bytes → List Sign → List Sign → Type 0
TextAt at text ts rest = ts ≡ Str at text ∷ rest

abbrev pub NoText : List Sign → Type 0
NoText ts = (at : ℕ) (text : Bytes) (rest : List Sign) → TextAt at text ts rest → ⊥

-- of all readings of a front of the signs behind which such signs stand, this is the only one
pub record OnlyRead {A : Type 0} (Reads : List Sign → A → List Sign → Type 0) (Next : List Sign → Type 0) (ts : List Sign) (a : A) (rest : List Sign) : Type 0 where
  pub reads : Reads ts a rest
  pub only : (b : A) (other : List Sign) → Reads ts b other → Next other → (b ≡ a) × (other ≡ rest)

-- no front of the signs behind which such signs stand is read
abbrev pub NoRead : {A : Type 0} → (List Sign → A → List Sign → Type 0) → (List Sign → Type 0) → List Sign → Type 0
NoRead {A} Reads Next ts = (a : A) (rest : List Sign) → Reads ts a rest → Next rest → ⊥

-- whatever stands behind
abbrev pub Anything : List Sign → Type 0
Anything rest = Unit {0}

-- no comma stands behind: nothing of a program begins with one
abbrev pub NoComma : List Sign → Type 0
NoComma rest = NoSymbol Comma rest

-- the only such reading is here, or there is none
abbrev pub ReadsOnly : {A X : Type 0} → (List Sign → A → List Sign → Type 0) → (List Sign → Type 0) → (X → A) → List sign.Sign → Result (X × Bor (List sign.Sign)) ParseError → Type 0
ReadsOnly Grammar Next value signs result = ReadsOr (NoRead Grammar Next) (OnlyRead Grammar Next) value signs result

-- the same once this sign stands in front
abbrev pub ReadsBehind : {A X : Type 0} → Sign → (List Sign → A → List Sign → Type 0) → (List Sign → Type 0) → (X → A) → List sign.Sign → Result (X × Bor (List sign.Sign)) ParseError → Type 0
ReadsBehind t Grammar Next value signs result = ReadsOr (λ ts. NoRead Grammar Next (t ∷ ts)) (λ ts x rest. OnlyRead Grammar Next (t ∷ ts) x rest) value signs result

-- this stands at the front of the signs, and no more are left
pub record Within (P : List Sign → List Sign → Type 0) (signs rest : List sign.Sign) : Type 0 where
  pub found : P (read_signs signs) (read_signs rest)
  pub within : length rest ≤ length signs

-- the same where the reading may be of no sign
abbrev pub ReadsWithin : {A X : Type 0} → (List Sign → A → List Sign → Type 0) → (List Sign → Type 0) → (X → A) → List sign.Sign → Result (X × Bor (List sign.Sign)) ParseError → Type 0
ReadsWithin Grammar Next value signs result = FindsOr result (λ x. Within (λ ts rest. OnlyRead Grammar Next ts (value x.0) rest) signs x.1.now) (NoRead Grammar Next (read_signs signs))

-- an `=` stands behind
abbrev pub BeginsEquals : List Sign → Type 0
BeginsEquals rest = (behind : List Sign) × SymbolAt Equals rest behind

-- the items of a list are this one and those that stand at the rest
pub record Others {A : Type 0} (Reads : List Sign → List A → List Sign → Type 0) (item : A) (rest : List Sign) (items : List A) (end : List Sign) : Type 0 where
  pub others : List A
  pub is : items ≡ item ∷ others
  pub reads : Reads rest others end

-- one item of a list stands here, and what follows it in the list stands at the rest
pub record ItemAt {A : Type 0} (Reads : List Sign → List A → List Sign → Type 0) (ts : List Sign) (item : A) (rest : List Sign) : Type 0 where
  pub back : (items : List A) (end : List Sign) → Reads rest items end → Reads ts (item ∷ items) end
  pub forth : (items : List A) (end : List Sign) → Reads ts items end → Others Reads item rest items end

-- a `struct`, and behind it the items of a list and its `end`
pub record StructOf {A : Type 0} (Reads : List Sign → List A → List Sign → Type 0) (ts : List Sign) (items : List A) (rest : List Sign) : Type 0 where
  pub inner : List Sign
  pub struct : ℕ
  pub is : ts ≡ Fixed struct Struct ∷ inner
  pub reads : Reads inner items rest

-- behind a `type` stands this abbreviation
pub record AbbrevAt (ts : List Sign) (abbreviation : AbbrevTree) (rest : List Sign) : Type 0 where
  pub inner : List Sign
  pub equals : ℕ
  pub is : ts ≡ Lower abbreviation.name.at abbreviation.name.word ∷ Fixed equals Equals ∷ inner
  pub ty : IsType inner abbreviation.ty rest

abbrev pub NoAbbrev : List Sign → Type 0
NoAbbrev ts = (abbreviation : AbbrevTree) (rest : List Sign) → AbbrevAt ts abbreviation rest → ⊥

-- what a module and an import begin with: a name and a signature
pub record HeadAt (ts : List Sign) (head : NameAt × SigTree) (rest : List Sign) : Type 0 where
  pub inner : List Sign
  pub colon : ℕ
  pub is : ts ≡ Upper head.0.at head.0.word ∷ Fixed colon Colon ∷ inner
  pub sig : IsSig inner head.1 rest

abbrev pub head_read : SName × SSig → NameAt × SigTree
head_read head = (name_of head.0, sig_tree_of head.1)

-- the first sign is no token of a version or a constraint
abbrev pub NoVToken : List Sign → Type 0
NoVToken rest = (t : Sign) (ts : List Sign) → rest ≡ t ∷ ts → vtoken_of t ≡ None

-- the version of a module, where one is written, and the `=` behind it
pub record VersionAt (ts : List Sign) (version : Option (List Atom)) (rest : List Sign) : Type 0 where
  pub equals : ℕ
  pub parses : ParsesVersion ts version (Fixed equals Equals ∷ rest)

-- a front of the signs is the constraint of an import
pub record ConstraintAt (ts : List Sign) (constraint : Constraint) (rest : List Sign) : Type 0 where
  pub vs : List VToken
  pub tokens : VTokens ts vs rest
  pub is : ReadsConstraint vs constraint

-- the likespec of an import, where one is written, and the `by` behind it
pub record LikeAt (ts : List Sign) (like : Option (List AbbrevTree)) (rest : List Sign) : Type 0 where
  pub by : ℕ
  pub parses : ParsesLike ts like (Fixed by By ∷ rest)

-- a name as an import asks for it, and the `by` behind it
pub record NameWanted (ts : List Sign) (name : NameAt) (rest : List Sign) : Type 0 where
  pub word : ℕ
  pub equals : ℕ
  pub by : ℕ
  pub is : ts ≡ Fixed word NameWord ∷ Fixed equals Equals ∷ Upper name.at name.word ∷ Fixed by By ∷ rest

-- what stands between an import's `version` and the places where it looks: a constraint and perhaps a likespec, or a name
pub data DemandAt : List Sign → WantsTree × Option (List AbbrevTree) → List Sign → Type 0 where
  by_version : {constraint : Constraint} {like : Option (List AbbrevTree)} {ts r rest : List Sign}
      → ConstraintAt ts constraint r → LikeAt r like rest → DemandAt ts (WantsVersion constraint, like) rest
  by_name : {name : NameAt} {ts rest : List Sign} → NameWanted ts name rest → DemandAt ts (WantsName name, None) rest

abbrev pub demand_read : SWants × Option (List SAbbrev) → WantsTree × Option (List AbbrevTree)
demand_read demand = (wants_of demand.0, option_map abbrevs_of demand.1)

-- the definitions are those done and those that stand at the rest
pub record LeftDefs (done : List DefTree) (rest : List Sign) (ds : List DefTree) (e : Tree) : Type 0 where
  pub left : List DefTree
  pub is : ds ≡ done ++ left
  pub parses : ParsesProgram rest left e

-- behind the definitions done the program goes on at the rest
pub record DefsSoFar (ts : List Sign) (done : List DefTree) (rest : List Sign) : Type 0 where
  pub back : (ds : List DefTree) (e : Tree) → ParsesProgram rest ds e → ParsesProgram ts (done ++ ds) e
  pub forth : (ds : List DefTree) (e : Tree) → ParsesProgram ts ds e → LeftDefs done rest ds e

-- neither a definition nor an expression begins here
pub record NothingGoesOn (ts : List Sign) : Type 0 where
  pub no_def : NoRead ParsesDef NoComma ts
  pub no_expr : (e : Tree) (rest : List Sign) → IsExpr ts e rest → ⊥

-- the definition at the front is read, or all of the signs are left where none begins
abbrev pub ReadsDef : List sign.Sign → Result (Option SDef × Bor (List sign.Sign)) ParseError → Type 0
ReadsDef signs result = FindsOr result (λ x. MatchOption x.0 ((x.1.now ≡ signs) × NoRead ParsesDef Anything (read_signs signs)) (λ d. TakenSigns (λ ts rest. OnlyRead ParsesDef NoComma ts (def_tree_of d) rest) signs x.1.now)) (NothingGoesOn (read_signs signs))

-- these definitions are read, and none begins at the rest
pub record DefsRead (ts : List Sign) (done : List DefTree) (rest : List Sign) : Type 0 where
  pub defs : DefsSoFar ts done rest
  pub end : NoRead ParsesDef Anything rest

-- the stop that a fault of a version or a constraint is answered by
abbrev pub stopped : VersionFault → ParseError → Type 0
stopped bad.Memory e = e ≡ stop.Memory
stopped bad.Bad e = (left : ℕ) × (e ≡ stop.Syntax left)

-- the first sign is this place where an import looks
pub record ResolveAt (ts : List Sign) (place : Resolve) (rest : List Sign) : Type 0 where
  pub sign : Sign
  pub is : ts ≡ sign ∷ rest
  pub looks : resolve_sign sign ≡ Some place

abbrev pub NoResolve : List Sign → Type 0
NoResolve ts = (place : Resolve) (rest : List Sign) → ResolveAt ts place rest → ⊥

-- the signs have no tree by this grammar
abbrev pub NoProgramTree : (List Sign → ProgramTree → Type 0) → List Sign → Type 0
NoProgramTree Grammar ts = (tree : ProgramTree) → Grammar ts tree → ⊥
