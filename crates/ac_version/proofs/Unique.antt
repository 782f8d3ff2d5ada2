-- Tokens are at most one version and at most one constraint.
use Rattle.std.proofs.Common.{◌≡◌, Bool, List, [], ◌∷◌, refl, sym, ap, subst}
use Rattle.ac_types.specs.Sigs.{Atom, Range}
use Rattle.ac_version.specs.VersionReading.{AtomAt, numbered, own, Atoms, last_atom, more_atoms, IsVersion, RangeAt, one, between, up_to, from, Ranged, last_range, starred_range, more_ranges, IsConstraint, any, ranged, VersionBehind, nothing, dot}
use Rattle.ac_version.specs.declared.read.VToken.{VToken}
use Rattle.ac_version.specs.declared.read.VToken.TheVariants.{Dot, Star}

pub same_atom : {t : VToken} {a b : Atom} → AtomAt t a → AtomAt t b → a ≡ b
same_atom (numbered h) (numbered i) = refl
same_atom own own = refl

same_atoms : {ts : List VToken} {xs ys : List Atom} → Atoms ts xs → Atoms ts ys → xs ≡ ys
same_atoms (last_atom a) (last_atom b) = ap (λ (x : Atom). x ∷ []) (same_atom a b)
same_atoms (more_atoms a p) (more_atoms b q) = let x = same_atom a b in let xs = same_atoms p q in cc

pub same_version : {ts : List VToken} {xs ys : List Atom} → IsVersion ts xs → IsVersion ts ys → xs ≡ ys
same_version p q = same_atoms p.atoms q.atoms

pub record SameRange (r q : Range) (a b : List VToken) : Type 0 where
  pub range : r ≡ q
  pub rest : a ≡ b

pub same_range : {ts a b : List VToken} {r q : Range} → RangeAt ts r a → RangeAt ts q b → VersionBehind a → VersionBehind b → SameRange r q a b
same_range (one h) (one i) x y = record { range = refl; rest = refl }
same_range (one h) (between i j) x y = elim x [ ]
same_range (one h) (from i) x y = elim x [ ]
same_range (between h i) (one j) x y = elim y [ ]
same_range (between h i) (between j k) x y = record { range = refl; rest = refl }
same_range (between h i) (from j) x y = elim y [ ]
same_range (from h) (one j) x y = elim y [ ]
same_range (from h) (between j k) x y = elim x [ ]
same_range (from h) (from j) x y = record { range = refl; rest = refl }
same_range (up_to h) (up_to j) x y = record { range = refl; rest = refl }

nothing_is_no_dot : {P : Type 0} {ts : List VToken} → [] ≡ Dot ∷ ts → P
nothing_is_no_dot e = cc

tail_eq : {x y : VToken} {r s : List VToken} → x ∷ r ≡ y ∷ s → r ≡ s
tail_eq e = cc

pub star_is_no_range : {P : Type 0} {ts a : List VToken} {r : Range} → RangeAt (Star ∷ ts) r a → P
star_is_no_range p = elim p [ ]

pub star_begins_none : {P : Type 0} {ts : List VToken} {rs : List Range} {star : Bool} → Ranged (Star ∷ ts) rs star → P
star_begins_none (last_range p) = star_is_no_range p
star_begins_none (starred_range p) = star_is_no_range p
star_begins_none (more_ranges p q) = star_is_no_range p

at_same : {r s : List VToken} {rs : List Range} {star : Bool} → r ≡ s → Ranged s rs star → Ranged r rs star
at_same {r} {s} {rs} {star} e p = subst (λ (u : List VToken). Ranged u rs star) (sym e) p

pub record SameRanges (rs qs : List Range) (b c : Bool) : Type 0 where
  pub ranges : rs ≡ qs
  pub star : b ≡ c

same_ranged : {ts : List VToken} {rs qs : List Range} {star other : Bool} → Ranged ts rs star → Ranged ts qs other → SameRanges rs qs star other
same_ranged (last_range p) (last_range q) =
    record { ranges = ap (λ (r : Range). r ∷ []) (same_range p q nothing nothing).range; star = refl }
same_ranged (last_range p) (starred_range q) = nothing_is_no_dot (same_range p q nothing dot).rest
same_ranged (last_range p) (more_ranges q w) = nothing_is_no_dot (same_range p q nothing dot).rest
same_ranged (starred_range p) (last_range q) = nothing_is_no_dot (sym (same_range p q dot nothing).rest)
same_ranged (starred_range p) (starred_range q) =
    record { ranges = ap (λ (r : Range). r ∷ []) (same_range p q dot dot).range; star = refl }
same_ranged (starred_range p) (more_ranges q w) = star_begins_none (at_same (tail_eq (same_range p q dot dot).rest) w)
same_ranged (more_ranges p v) (last_range q) = nothing_is_no_dot (sym (same_range p q dot nothing).rest)
same_ranged (more_ranges p v) (starred_range q) = star_begins_none (at_same (sym (tail_eq (same_range p q dot dot).rest)) v)
same_ranged (more_ranges p v) (more_ranges q w) =
    let d = same_range p q dot dot in
    let h = same_ranged v (at_same (tail_eq d.rest) w) in
    record { ranges = let a = d.range in let b = h.ranges in cc; star = h.star }

pub same_constraint : {ts : List VToken} {rs qs : List Range} {star other : Bool} → IsConstraint ts rs star → IsConstraint ts qs other → SameRanges rs qs star other
same_constraint any any = record { ranges = refl; star = refl }
same_constraint any (ranged p few) = star_begins_none p
same_constraint (ranged p few) any = star_begins_none p
same_constraint (ranged p few) (ranged q fewer) = same_ranged p q
