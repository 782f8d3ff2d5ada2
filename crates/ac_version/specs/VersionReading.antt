-- Which tokens are a version, and which are a constraint.
--
--   version    = vatom ('.' vatom)*                  (1 to most_version_atoms)
--   vatom      = INT | 'myname'
--   constraint = '*' | catom ('.' catom)* ['.' '*']  (1 to most_version_atoms)
--   catom      = INT | INT '-' INT | '-' INT | INT '-'
--
-- An INT is below 2^32 here. In a catom a `-` behind an INT takes a following INT.
use Rattle.std.specs.Prelude.{◌≡◌, ℕ, ◌<◌, ◌≤◌, ◌^◌, Bool, true, false, List, [], ◌∷◌, length}
use Rattle.ac_types.specs.Limits.{most_version_atoms}
use Rattle.ac_types.specs.Sigs.{Atom, Number as Numbered, MyName as Own, Range, One, Between, UpTo, From, Constraint, Ranges, Exact}
use Rattle.ac_version.specs.declared.read.VersionFault.{VersionFault}
use Rattle.ac_version.specs.declared.read.VersionFault.TheVariants as fault
use Rattle.ac_version.specs.declared.read.VToken.{VToken}
use Rattle.ac_version.specs.declared.read.VToken.TheVariants.{Number, Dot, Minus, Star, MyName}

-- a number that a version or a constraint may hold
abbrev pub IsSmall : ℕ → Type 0
IsSmall n = n < 2 ^ 32

pub data AtomAt : VToken → Atom → Type 0 where
  numbered : {n : ℕ} → IsSmall n → AtomAt (Number n) (Numbered n)
  own : AtomAt MyName Own

-- atoms with dots between
pub data Atoms : List VToken → List Atom → Type 0 where
  last_atom : {t : VToken} {a : Atom} → AtomAt t a → Atoms (t ∷ []) (a ∷ [])
  more_atoms : {t : VToken} {a : Atom} {ts : List VToken} {rest : List Atom} → AtomAt t a → Atoms ts rest → Atoms (t ∷ Dot ∷ ts) (a ∷ rest)

-- the tokens are this version
pub record IsVersion (ts : List VToken) (version : List Atom) : Type 0 where
  pub atoms : Atoms ts version
  pub few : length version ≤ most_version_atoms

-- one catom, and the tokens behind it
pub data RangeAt : List VToken → Range → List VToken → Type 0 where
  one : {n : ℕ} {ts : List VToken} → IsSmall n → RangeAt (Number n ∷ ts) (One n) ts
  between : {n m : ℕ} {ts : List VToken} → IsSmall n → IsSmall m → RangeAt (Number n ∷ Minus ∷ Number m ∷ ts) (Between n m) ts
  up_to : {n : ℕ} {ts : List VToken} → IsSmall n → RangeAt (Minus ∷ Number n ∷ ts) (UpTo n) ts
  from : {n : ℕ} {ts : List VToken} → IsSmall n → RangeAt (Number n ∷ Minus ∷ ts) (From n) ts

-- catoms with dots between, and whether a star stands behind them
pub data Ranged : List VToken → List Range → Bool → Type 0 where
  last_range : {r : Range} {ts : List VToken} → RangeAt ts r [] → Ranged ts (r ∷ []) false
  starred_range : {r : Range} {ts : List VToken} → RangeAt ts r (Dot ∷ Star ∷ []) → Ranged ts (r ∷ []) true
  more_ranges : {r : Range} {star : Bool} {ts after : List VToken} {rest : List Range} → RangeAt ts r (Dot ∷ after) → Ranged after rest star → Ranged ts (r ∷ rest) star

-- the tokens are a constraint of these ranges, with or without a star behind them
pub data IsConstraint : List VToken → List Range → Bool → Type 0 where
  any : IsConstraint (Star ∷ []) [] true
  ranged : {ts : List VToken} {ranges : List Range} {star : Bool} → Ranged ts ranges star → length ranges ≤ most_version_atoms → IsConstraint ts ranges star

abbrev pub NoVersion : List VToken → Type 0
NoVersion ts = (version : List Atom) → IsVersion ts version → ⊥

abbrev pub NoConstraint : List VToken → Type 0
NoConstraint ts = (ranges : List Range) (star : Bool) → IsConstraint ts ranges star → ⊥

-- `Bad` comes only there; want of memory is free
abbrev pub OnBad : VersionFault → Type 0 → Type 0
OnBad fault.Memory P = Unit {0}
OnBad fault.Bad P = P

-- the constraint of the code has these ranges
abbrev pub ReadsConstraint : List VToken → Constraint → Type 0
ReadsConstraint ts (Ranges ranges star) = IsConstraint ts ranges star
ReadsConstraint ts (Exact name) = ⊥

-- nothing or a dot stands behind a catom
pub data VersionBehind : List VToken → Type 0 where
  nothing : VersionBehind []
  dot : {ts : List VToken} → VersionBehind (Dot ∷ ts)

-- the longest catom that begins here, so the only one behind which nothing or a dot stands
pub record RangeRead (ts : List VToken) (r : Range) (rest : List VToken) : Type 0 where
  pub at : RangeAt ts r rest
  pub only : (q : Range) (other : List VToken) → RangeAt ts q other → VersionBehind other → (q ≡ r) × (other ≡ rest)

-- no catom begins here behind which nothing or a dot stands
abbrev pub NoRange : List VToken → Type 0
NoRange ts = (q : Range) (other : List VToken) → RangeAt ts q other → VersionBehind other → ⊥

-- behind its ranges a constraint ends, with or without a star
pub data EndAt : Bool → List VToken → Type 0 where
  unstarred : EndAt false []
  starred : EndAt true (Dot ∷ Star ∷ [])

-- the first token is this atom
pub record FirstAtom (ts : List VToken) (a : Atom) (rest : List VToken) : Type 0 where
  pub token : VToken
  pub is : ts ≡ token ∷ rest
  pub atom : AtomAt token a

abbrev pub NoAtom : List VToken → Type 0
NoAtom ts = (a : Atom) (rest : List VToken) → FirstAtom ts a rest → ⊥
