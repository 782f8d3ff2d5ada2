-- The reading of signatures, versions, constraints and resolvespecs loses nothing.
use Rattle.std.proofs.Common.{◌≡◌, refl, ap, List, [], ◌∷◌, map, Option, Some, None}
use Rattle.std.specs.Prelude.{option_map}
use mathlib.Core.Path.{ap₂}
use Rattle.ac_types.specs.Sigs as sigs
use Rattle.ac_types.specs.ReadTypes.{typ_of, typed_of, sig_type_of, sig_of, atom_of, range_of, constraint_of, resolve_of}
use Rattle.ac_types.specs.declared.sig.TyField.{TyField}
use Rattle.ac_types.specs.declared.sig.SigType.{SigType}
use Rattle.ac_types.specs.declared.sig.Sig.{Sig}
use Rattle.ac_types.specs.declared.sig.Atom as code_atom
use Rattle.ac_types.specs.declared.sig.Range as code_range
use Rattle.ac_types.specs.declared.sig.Constraint as code_constraint
use Rattle.ac_types.specs.declared.sig.Resolve as code_resolve
use Rattle.ac_types.proofs.TypeReading.{back, typ_back}

-- what is read piece by piece is found again piece by piece
module _ {A B : Type 0} (read : A → B) (find : B → A) (found : (a : A) → find (read a) ≡ a) where
  pub map_back : (xs : List A) → map find (map read xs) ≡ xs
  map_back [] = refl
  map_back (x ∷ xs) = ap₂ (λ y ys. y ∷ ys) (found x) (map_back xs)

  pub option_back : (o : Option A) → option_map find (option_map read o) ≡ o
  option_back None = refl
  option_back (Some a) = ap Some (found a)

abbrev pub find_typed : sigs.Typed_name → TyField
find_typed x = record { name = x.name; ty = back x.ty }

pub typed_back : (x : TyField) → find_typed (typed_of x) ≡ x
typed_back x = ap (λ t. record { name = x.name; ty = t }) (typ_back x.ty)

abbrev pub find_sig_type : sigs.Sig_type → SigType
find_sig_type x = record { name = x.name; manifest = option_map back x.manifest }

pub sig_type_back : (x : SigType) → find_sig_type (sig_type_of x) ≡ x
sig_type_back x = ap (λ o. record { name = x.name; manifest = o }) (option_back typ_of back typ_back x.manifest)

abbrev pub find_sig : sigs.Signature → Sig
find_sig s = record { types = map find_sig_type s.types; vals = map find_typed s.vals }

pub sig_back : (s : Sig) → find_sig (sig_of s) ≡ s
sig_back s =
    ap₂ (λ ts vs. record { types = ts; vals = vs })
    (map_back sig_type_of find_sig_type sig_type_back s.types) (map_back typed_of find_typed typed_back s.vals)

abbrev pub find_atom : sigs.Atom → code_atom.Atom
find_atom (sigs.Number n) = code_atom.Atom.Number n
find_atom sigs.MyName = code_atom.Atom.MyName

pub atom_back : (a : code_atom.Atom) → find_atom (atom_of a) ≡ a
atom_back (code_atom.Atom.Number n) = refl
atom_back code_atom.Atom.MyName = refl

abbrev pub find_range : sigs.Range → code_range.Range
find_range (sigs.One n) = code_range.Range.One n
find_range (sigs.Between n m) = code_range.Range.Between n m
find_range (sigs.UpTo n) = code_range.Range.UpTo n
find_range (sigs.From n) = code_range.Range.From n

pub range_back : (r : code_range.Range) → find_range (range_of r) ≡ r
range_back (code_range.Range.One n) = refl
range_back (code_range.Range.Between n m) = refl
range_back (code_range.Range.UpTo n) = refl
range_back (code_range.Range.From n) = refl

abbrev pub find_constraint : sigs.Constraint → code_constraint.Constraint
find_constraint (sigs.Ranges rs star) = code_constraint.Constraint.Ranges (map find_range rs) star
find_constraint (sigs.Exact n) = code_constraint.Constraint.Exact (record { 0 = n })

pub constraint_back : (c : code_constraint.Constraint) → find_constraint (constraint_of c) ≡ c
constraint_back (code_constraint.Constraint.Ranges rs star) = ap (λ xs. code_constraint.Constraint.Ranges xs star) (map_back range_of find_range range_back rs)
constraint_back (code_constraint.Constraint.Exact n) = refl

abbrev pub find_resolve : sigs.Resolve → code_resolve.Resolve
find_resolve sigs.StaticLink = code_resolve.Resolve.StaticLink
find_resolve sigs.HereAlready = code_resolve.Resolve.HereAlready
find_resolve (sigs.Uri u) = code_resolve.Resolve.Uri (record { 0 = u })

pub resolve_back : (r : code_resolve.Resolve) → find_resolve (resolve_of r) ≡ r
resolve_back code_resolve.Resolve.StaticLink = refl
resolve_back code_resolve.Resolve.HereAlready = refl
resolve_back (code_resolve.Resolve.Uri u) = refl
