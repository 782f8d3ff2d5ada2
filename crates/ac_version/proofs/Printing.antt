-- What is printed is read again.
use Rattle.std.proofs.Common.{◌≡◌, Bool, true, false, List, [], ◌∷◌, ◌++◌, refl, sym, ap, ◌∙◌, append_assoc}
use Rattle.ac_types.specs.Types.{Bytes}
use Rattle.ac_types.specs.Sigs.{Atom, Range}
use Rattle.ac_version.specs.VersionReading.{AtomAt, numbered, own, Atoms, last_atom, more_atoms, IsVersion, RangeAt, one, between, up_to, from, Ranged, last_range, starred_range, more_ranges, IsConstraint, any, ranged}
use Rattle.ac_version.specs.Printing.{token_text, tokens_joined, dot_before, atom_token, version_tokens, range_tokens, constraint_tokens}
use Rattle.ac_version.specs.declared.read.VToken.{VToken}
use Rattle.ac_version.specs.declared.read.VToken.TheVariants.{Dot, Star}

pub joined_append : (xs ys : List VToken) → tokens_joined (xs ++ ys) ≡ tokens_joined xs ++ tokens_joined ys
joined_append [] ys = refl
joined_append (x ∷ xs) ys = ap (λ l. token_text x ++ l) (joined_append xs ys) ∙ sym (append_assoc (token_text x) (tokens_joined xs) (tokens_joined ys))

pub joined_dot : (first : Bool) (ts : List VToken) → tokens_joined (dot_before first ts) ≡ tokens_joined (dot_before first []) ++ tokens_joined ts
joined_dot true ts = refl
joined_dot false ts = refl

-- the tokens of an atom that was read are that atom
atom_again : {t : VToken} {a : Atom} → AtomAt t a → AtomAt (atom_token a) a
atom_again (numbered small) = numbered small
atom_again own = own

atoms_again : {ts : List VToken} {xs : List Atom} → Atoms ts xs → Atoms (version_tokens xs) xs
atoms_again (last_atom at) = last_atom (atom_again at)
atoms_again (more_atoms at (last_atom b)) = more_atoms (atom_again at) (last_atom (atom_again b))
atoms_again (more_atoms at (more_atoms b p)) = more_atoms (atom_again at) (atoms_again (more_atoms b p))

pub version_again : (ts : List VToken) (xs : List Atom) → IsVersion ts xs → IsVersion (version_tokens xs) xs
version_again ts xs v = record { atoms = atoms_again v.atoms; few = v.few }

-- the tokens of a range that was read are that range, whatever stands behind them
range_again : {ts rest : List VToken} {r : Range} (more : List VToken) → RangeAt ts r rest → RangeAt (range_tokens r ++ more) r more
range_again more (one small) = one small
range_again more (between small other) = between small other
range_again more (up_to small) = up_to small
range_again more (from small) = from small

ranged_again : {ts : List VToken} {rs : List Range} {star : Bool} → Ranged ts rs star → Ranged (constraint_tokens rs star) rs star
ranged_again (last_range at) = last_range (range_again [] at)
ranged_again (starred_range at) = starred_range (range_again (Dot ∷ Star ∷ []) at)
ranged_again (more_ranges at (last_range b)) = more_ranges (range_again _ at) (ranged_again (last_range b))
ranged_again (more_ranges at (starred_range b)) = more_ranges (range_again _ at) (ranged_again (starred_range b))
ranged_again (more_ranges at (more_ranges b p)) = more_ranges (range_again _ at) (ranged_again (more_ranges b p))

pub constraint_again : (ts : List VToken) (rs : List Range) (star : Bool) → IsConstraint ts rs star → IsConstraint (constraint_tokens rs star) rs star
constraint_again ts rs star any = any
constraint_again ts rs star (ranged p few) = ranged (ranged_again p) few

-- a range, and what stands behind it
pub ranges_step : (first : Bool) (r : Range) (ts : List VToken) → tokens_joined (dot_before first (range_tokens r ++ ts)) ≡ tokens_joined (dot_before first []) ++ (tokens_joined (range_tokens r) ++ tokens_joined ts)
ranges_step first r ts = joined_dot first (range_tokens r ++ ts) ∙ ap (λ l. tokens_joined (dot_before first []) ++ l) (joined_append (range_tokens r) ts)

-- what was put behind a text, range by range
pub put_range : (all t u v d r more : Bytes) → all ≡ t ++ (d ++ (r ++ more)) → u ≡ t ++ d → v ≡ u ++ r → all ≡ v ++ more
put_range all t u v d r more whole dot range =
    whole ∙ sym (append_assoc t d (r ++ more)) ∙ ap (λ l. l ++ (r ++ more)) (sym dot) ∙ sym (append_assoc u r more) ∙ ap (λ l. l ++ more) (sym range)
