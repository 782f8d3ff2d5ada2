-- Which versions meet a constraint.
use Rattle.std.specs.Prelude.{Bool, true, false, ◌&&◌, nat_eq, nat_le, List, [], ◌∷◌}
use Rattle.ac_types.specs.Types.{Bytes, same_bytes}
use Rattle.ac_types.specs.Sigs.{Atom, Number, MyName, Range, One, Between, UpTo, From, Constraint, Ranges, Exact}

-- a number fits within both ends of a range; `myname` fits none
abbrev pub fits : Range → Atom → Bool
fits (One n) (Number k) = nat_eq k n
fits (Between n m) (Number k) = nat_le n k && nat_le k m
fits (UpTo m) (Number k) = nat_le k m
fits (From n) (Number k) = nat_le n k
fits r MyName = false

-- each range is fitted by the atom at its place; only with a star are further atoms allowed, whatever they are
abbrev pub atoms_fit : List Range → Bool → List Atom → Bool
atoms_fit [] star [] = true
atoms_fit [] star (a ∷ more) = star
atoms_fit (r ∷ rs) star (a ∷ more) = fits r a && atoms_fit rs star more
atoms_fit (r ∷ rs) star [] = false

-- a version meets ranges that it fits; an exact name is met by the definition that has it
abbrev pub meets : List Atom → Constraint → Bytes → Bool
meets version (Ranges rs star) own = atoms_fit rs star version
meets version (Exact n) own = same_bytes own n
