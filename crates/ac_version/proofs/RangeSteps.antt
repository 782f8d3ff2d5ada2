-- The steps of the reading of constraints, over lists of tokens.
use Rattle.std.proofs.Common.{◌≡◌, ◌<◌, ◌≤◌, ℕ, Bool, true, false, List, [], ◌∷◌, ◌++◌, length, refl, sym, ◌∙◌, ap, subst, append_assoc, arith}
use Rattle.ac_types.specs.Sigs.{Range, One, Between, UpTo, From}
use Rattle.ac_version.specs.VersionReading.{IsSmall, RangeAt, one, between, up_to, from, Ranged, last_range, starred_range, more_ranges, IsConstraint, any, ranged, NoConstraint, VersionBehind, nothing, dot, RangeRead, NoRange, EndAt, unstarred, starred}
use Rattle.ac_version.specs.declared.read.VToken.{VToken}
use Rattle.ac_version.specs.declared.read.VToken.TheVariants.{Number, Dot, Minus, Star}
use Rattle.ac_version.proofs.Unique.{star_is_no_range, star_begins_none}

tail_eq : {x y : VToken} {r s : List VToken} → x ∷ r ≡ y ∷ s → r ≡ s
tail_eq e = cc

nothing_is_none : {P : Type 0} {x : VToken} {r : List VToken} → [] ≡ x ∷ r → P
nothing_is_none e = cc

-- one range

read_at : {ts us rest : List VToken} {r : Range} → ts ≡ us → RangeRead us r rest → RangeRead ts r rest
read_at {ts} {us} {rest} {r} is read = subst (λ (l : List VToken). RangeRead l r rest) (sym is) read

only_up_to : {m : ℕ} {rest other : List VToken} {q : Range} → RangeAt (Minus ∷ Number m ∷ rest) q other → (q ≡ UpTo m) × (other ≡ rest)
only_up_to (up_to h) = (refl, refl)

pub up_to_read : (ts behind rest : List VToken) (m : ℕ) → ts ≡ Minus ∷ behind → behind ≡ Number m ∷ rest → IsSmall m → RangeRead ts (UpTo m) rest
up_to_read ts behind rest m is then small =
    read_at (is ∙ ap (λ (l : List VToken). Minus ∷ l) then) (record { at = up_to small; only = λ q other p x. only_up_to p })

only_one : {n : ℕ} {rest other : List VToken} {q : Range} → ((behind : List VToken) → rest ≡ Minus ∷ behind → ⊥) → RangeAt (Number n ∷ rest) q other → (q ≡ One n) × (other ≡ rest)
only_one none (one h) = (refl, refl)
only_one none (between h i) = absurd (none _ refl)
only_one none (from h) = absurd (none _ refl)

pub one_read : (ts rest : List VToken) (n : ℕ) → ts ≡ Number n ∷ rest → IsSmall n → ((behind : List VToken) → rest ≡ Minus ∷ behind → ⊥) → RangeRead ts (One n) rest
one_read ts rest n is small none = read_at is (record { at = one small; only = λ q other p x. only_one none p })

only_between : {n m : ℕ} {rest other : List VToken} {q : Range} → RangeAt (Number n ∷ Minus ∷ Number m ∷ rest) q other → VersionBehind other → (q ≡ Between n m) × (other ≡ rest)
only_between (one h) x = elim x [ ]
only_between (between h i) x = (refl, refl)
only_between (from h) x = elim x [ ]

pub between_read : (ts rest behind end : List VToken) (n m : ℕ) → ts ≡ Number n ∷ rest → rest ≡ Minus ∷ behind → behind ≡ Number m ∷ end → IsSmall n → IsSmall m → RangeRead ts (Between n m) end
between_read ts rest behind end n m is minus then small below =
    read_at (is ∙ ap (λ (l : List VToken). Number n ∷ l) (minus ∙ ap (λ (l : List VToken). Minus ∷ l) then)) (record { at = between small below; only = λ q other p x. only_between p x })

only_from : {n : ℕ} {behind other : List VToken} {q : Range} → ((m : ℕ) (rest : List VToken) → behind ≡ Number m ∷ rest → IsSmall m → ⊥) → RangeAt (Number n ∷ Minus ∷ behind) q other → VersionBehind other → (q ≡ From n) × (other ≡ behind)
only_from none (one h) x = elim x [ ]
only_from none (between h i) x = absurd (none _ _ refl i)
only_from none (from h) x = (refl, refl)

pub from_read : (ts rest behind : List VToken) (n : ℕ) → ts ≡ Number n ∷ rest → rest ≡ Minus ∷ behind → IsSmall n → ((m : ℕ) (rest : List VToken) → behind ≡ Number m ∷ rest → IsSmall m → ⊥) → RangeRead ts (From n) behind
from_read ts rest behind n is minus small none =
    read_at (is ∙ ap (λ (l : List VToken). Number n ∷ l) minus) (record { at = from small; only = λ q other p x. only_from none p x })

-- what ends a constraint

pub ends_here : (ts : List VToken) → ts ≡ [] → EndAt false ts
ends_here ts is = subst (λ (l : List VToken). EndAt false l) (sym is) unstarred

pub ends_with_star : (ts behind : List VToken) → ts ≡ Dot ∷ behind → behind ≡ Star ∷ [] → EndAt true ts
ends_with_star ts behind is then = subst (λ (l : List VToken). EndAt true l) (sym (is ∙ ap (λ (l : List VToken). Dot ∷ l) then)) starred

end_cases : {star : Bool} {ts : List VToken} {P : Type 0} → EndAt star ts → (ts ≡ [] → P) → (ts ≡ Dot ∷ Star ∷ [] → P) → P
end_cases unstarred f g = f refl
end_cases starred f g = g refl

pub no_end : (ts behind : List VToken) (t : VToken) (star : Bool) → ts ≡ t ∷ behind → (t ∷ behind ≡ Dot ∷ Star ∷ [] → ⊥) → EndAt star ts → ⊥
no_end ts behind t star is none e = end_cases e (λ nothing. nothing_is_none (sym nothing ∙ is)) (λ dotted. none (sym is ∙ dotted))

-- the ranges go on behind those done, or the constraint ends
pub data Remain (done : List Range) (rest : List VToken) (rs : List Range) (star : Bool) : Type 0 where
  all : EndAt star rest → rs ≡ done → Remain done rest rs star
  others : (behind : List VToken) (qs : List Range) → rest ≡ Dot ∷ behind → rs ≡ done ++ qs → Ranged behind qs star → Remain done rest rs star

pub record RangesRead (ts : List VToken) (done : List Range) (rest : List VToken) : Type 0 where
  pub ended : (star : Bool) → EndAt star rest → Ranged ts done star
  pub back : (behind : List VToken) (rs : List Range) (star : Bool) → rest ≡ Dot ∷ behind → Ranged behind rs star → Ranged ts (done ++ rs) star
  pub forth : (rs : List Range) (star : Bool) → Ranged ts rs star → Remain done rest rs star

ranged_at : {r s : List VToken} {rs : List Range} {star : Bool} → r ≡ s → Ranged s rs star → Ranged r rs star
ranged_at {r} {s} {rs} {star} e p = subst (λ (l : List VToken). Ranged l rs star) (sym e) p

range_at : {ts rest other : List VToken} {r : Range} → rest ≡ other → RangeAt ts r rest → RangeAt ts r other
range_at {ts} {rest} {other} {r} e p = subst (λ (l : List VToken). RangeAt ts r l) e p

first_ended : {ts rest : List VToken} {r : Range} {star : Bool} → RangeAt ts r rest → EndAt star rest → Ranged ts (r ∷ []) star
first_ended p unstarred = last_range p
first_ended p starred = starred_range p

first_forth : {ts rest : List VToken} {r : Range} {rs : List Range} {star : Bool} → ((q : Range) (other : List VToken) → RangeAt ts q other → VersionBehind other → (q ≡ r) × (other ≡ rest)) → Ranged ts rs star → Remain (r ∷ []) rest rs star
first_forth only (last_range {r = q} p) =
    let o = only q [] p nothing in all (ends_here _ (sym o.1)) (ap (λ (x : Range). x ∷ []) o.0)
first_forth only (starred_range {r = q} p) =
    let o = only q (Dot ∷ Star ∷ []) p dot in all (ends_with_star _ _ (sym o.1) refl) (ap (λ (x : Range). x ∷ []) o.0)
first_forth only (more_ranges {r = q} {after = after} {rest = rs} p w) =
    let o = only q (Dot ∷ after) p dot in others after rs (sym o.1) (ap (λ (x : Range). x ∷ rs) o.0) w

pub first_ranges : (ts rest : List VToken) (r : Range) → RangeRead ts r rest → RangesRead ts (r ∷ []) rest
first_ranges ts rest r read = record {
  ended = λ star e. first_ended read.at e;
  back = λ behind rs star is w. more_ranges (range_at is read.at) w;
  forth = λ rs star w. first_forth read.only w;
}

first_of_ranges : {ts : List VToken} {rs : List Range} {star : Bool} {P : Type 0} → Ranged ts rs star → ((q : Range) (other : List VToken) → RangeAt ts q other → VersionBehind other → P) → P
first_of_ranges (last_range {r = q} p) f = f q [] p nothing
first_of_ranges (starred_range {r = q} p) f = f q (Dot ∷ Star ∷ []) p dot
first_of_ranges (more_ranges {r = q} {after = after} p w) f = f q (Dot ∷ after) p dot

constraint_cases : {ts : List VToken} {rs : List Range} {star : Bool} {P : Type 0} → IsConstraint ts rs star → (ts ≡ Star ∷ [] → P) → (Ranged ts rs star → length rs ≤ 8 → P) → P
constraint_cases any f g = f refl
constraint_cases (ranged w few) f g = g w few

pub star_constraint : (ts : List VToken) (rs : List Range) → ts ≡ Star ∷ [] → rs ≡ [] → IsConstraint ts rs true
star_constraint ts rs is none = subst (λ (l : List VToken). IsConstraint l rs true) (sym is) (subst (λ (l : List Range). IsConstraint (Star ∷ []) l true) (sym none) any)

pub unranged_none : (ts : List VToken) → (ts ≡ Star ∷ [] → ⊥) → NoRange ts → NoConstraint ts
unranged_none ts no_star none rs star c = constraint_cases c no_star (λ w few. first_of_ranges w none)

-- what goes on behind one more range
more_remain : {rs : List Range} {r : Range} {later : List VToken} {star : Bool} (done qs : List Range) → rs ≡ done ++ qs → Remain (r ∷ []) later qs star → Remain (done ++ r ∷ []) later rs star
more_remain done qs is (all end same) = all end (is ∙ ap (λ (l : List Range). done ++ l) same)
more_remain {r = r} done qs is (others behind more dotted same w) =
    others behind more dotted (is ∙ ap (λ (l : List Range). done ++ l) same ∙ sym (append_assoc done (r ∷ []) more)) w

-- no range begins where a constraint ends
no_range_at_end : {star : Bool} {rest behind : List VToken} {P : Type 0} → EndAt star rest → rest ≡ Dot ∷ behind → (behind ≡ Star ∷ [] → P) → P
no_range_at_end e is f = end_cases e (λ nothing. nothing_is_none (sym nothing ∙ is)) (λ dotted. f (tail_eq (sym is ∙ dotted)))

begun : {ts other : List VToken} {r : Range} {P : Type 0} → ts ≡ Star ∷ [] → RangeAt ts r other → P
begun {ts} {other} {r} is p = star_is_no_range (subst (λ (l : List VToken). RangeAt l r other) is p)

next_forth : {done rs : List Range} {r : Range} {rest behind later : List VToken} {star : Bool} → rest ≡ Dot ∷ behind → RangeRead behind r later → Remain done rest rs star → Remain (done ++ r ∷ []) later rs star
next_forth is read (all end same) = no_range_at_end end is (λ starred. begun starred read.at)
next_forth {done = done} is read (others after qs dotted same w) =
    more_remain done qs same (first_forth read.only (ranged_at (tail_eq (sym is ∙ dotted)) w))

next_absent : {done rs : List Range} {rest behind : List VToken} {star : Bool} → rest ≡ Dot ∷ behind → (EndAt star rest → ⊥) → NoRange behind → Remain done rest rs star → ⊥
next_absent is no_end none (all end same) = no_end end
next_absent is no_end none (others after qs dotted same w) = first_of_ranges (ranged_at (tail_eq (sym is ∙ dotted)) w) none

-- what ends the constraint begins no further range
all_done : {done rs : List Range} {rest : List VToken} {star other : Bool} → EndAt other rest → Remain done rest rs star → rs ≡ done
all_done e (all end same) = same
all_done e (others behind qs dotted same w) = no_range_at_end e dotted (λ starred. star_begins_none (ranged_at (sym starred) w))

module _ (ts : List VToken) (done : List Range) (rest : List VToken) (r : RangesRead ts done rest) where
  pub next_ranges : (behind later : List VToken) (q : Range) → rest ≡ Dot ∷ behind → RangeRead behind q later → RangesRead ts (done ++ q ∷ []) later
  next_ranges behind later q is read =
      let one = first_ranges behind later q read in
      record {
        ended = λ star e. r.back behind (q ∷ []) star is (one.ended star e);
        back = λ after rs star dotted w. subst (λ (l : List Range). Ranged ts l star) (sym (append_assoc done (q ∷ []) rs)) (r.back behind (q ∷ rs) star is (one.back after rs star dotted w));
        forth = λ rs star w. next_forth is read (r.forth rs star w);
      }

  pub constraint : (star : Bool) → EndAt star rest → length done ≤ 8 → IsConstraint ts done star
  constraint star e few = ranged (r.ended star e) few

  pub next_none : (behind : List VToken) → (ts ≡ Star ∷ [] → ⊥) → rest ≡ Dot ∷ behind → ((star : Bool) → EndAt star rest → ⊥) → NoRange behind → NoConstraint ts
  next_none behind no_star is no_end none rs star c = constraint_cases c no_star (λ w few. next_absent is (no_end star) none (r.forth rs star w))

  pub many_none : (other : Bool) → (ts ≡ Star ∷ [] → ⊥) → EndAt other rest → 8 < length done → NoConstraint ts
  many_none other no_star e many rs star c =
      constraint_cases c no_star (λ w few. absurd (omega (arith, ap (λ (l : List Range). length l) (all_done e (r.forth rs star w)))))
