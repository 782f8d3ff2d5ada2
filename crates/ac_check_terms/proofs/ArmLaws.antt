-- Arms of one type, and the last part of a sequence.
use Rattle.std.proofs.Common.{ℕ, ◌≡◌, ◌+◌, ◌<◌, refl, ap, ◌∙◌, Bool, true, false, ◌&&◌, List, [], ◌∷◌, ◌++◌, length, map, get_or, drop, Option, Some, None}
use Rattle.std.proofs.lemmas.List.{map-append}
use Rattle.ac_types.specs.Partial.{given, also}
use Rattle.ac_types.specs.Types.{Typ, TUnit, Typs, no_types, typs, same}
use Rattle.ac_types.specs.ReadTypes.{typ_of}
use Rattle.ac_types.specs.declared.ty.Ty.{Ty}
use Rattle.ac_rules.specs.Typing.{are_all, last_of}
use Rattle.ac_check_views.specs.Sites.{typs_of}
use Rattle.ac_check_terms.specs.inner.Parts.{arms_after, arms_from}
use Rattle.ac_check_views.proofs.PairLaws.{from_item, from_end}
use Rattle.ac_check_terms.proofs.Collected.{collected, next_item}

-- one arm more

pub go_first : (T : Typ) (o : Option Typs) → arms_after None (also (Some T) o) ≡ arms_from (Some T) o
go_first T None = refl
go_first T (Some Ts) = refl

pub go_same : (F T : Typ) (o : Option Typs) → same T F ≡ true → arms_after (Some F) (also (Some T) o) ≡ arms_from (Some F) o
go_same F T None e = refl
go_same F T (Some Ts) e = ap (λ (b : Bool). given (b && are_all F Ts) (Some F)) e

pub go_other : (F T : Typ) (o : Option Typs) → same T F ≡ false → arms_after (Some F) (also (Some T) o) ≡ arms_from None o
go_other F T None e = refl
go_other F T (Some Ts) e = ap (λ (b : Bool). given (b && are_all F Ts) (Some F)) e

after_none : (b : Option Typ) → arms_after b None ≡ None
after_none None = refl
after_none (Some T) = refl

pub after_all : (b : Option Typ) → arms_after b (Some no_types) ≡ b
after_all None = refl
after_all (Some T) = refl

module _ {A : Type 0} (h : A → Option Typ) (xs : List A) where
  module _ (i : ℕ) (x : A) (l : i < length xs) (is : x ≡ get_or xs i x) (all before : Option Typ) (so : all ≡ arms_after before (collected h (drop i xs))) where
    pub arm_none : h x ≡ None → all ≡ None
    arm_none e =
        so ∙ ap (arms_after before) (next_item h xs i x l is ∙ ap (λ (o : Option Typ). also o (collected h (drop (i + 1) xs))) e) ∙ after_none before

    pub arm_some : (T : Typ) (after : Option Typ) → h x ≡ Some T → ((o : Option Typs) → arms_after before (also (Some T) o) ≡ arms_from after o) → all ≡ arms_from after (collected h (drop (i + 1) xs))
    arm_some T after e goes =
        so ∙ ap (arms_after before) (next_item h xs i x l is ∙ ap (λ (o : Option Typ). also o (collected h (drop (i + 1) xs))) e) ∙ goes (collected h (drop (i + 1) xs))

  pub arms_all : (i : ℕ) (all before : Option Typ) → i ≡ length xs → all ≡ arms_after before (collected h (drop i xs)) → all ≡ before
  arms_all i all before e so = so ∙ ap (λ (ys : List A). arms_after before (collected h ys)) (from_end xs i e) ∙ after_all before

-- the parts of a sequence before the last

abbrev pub last_from : List Ty → Ty → Option Typ
last_from ts t = last_of (typs (map typ_of ts ++ typ_of t ∷ []))

pub last_is : (all ts : List Ty) (t : Ty) → all ≡ ts ++ t ∷ [] → last_of (typs_of all) ≡ last_from ts t
last_is all ts t e = ap (λ (us : List Ty). last_of (typs_of us)) e ∙ ap (λ (Us : List Typ). last_of (typs Us)) (map-append typ_of ts (t ∷ []))

last_step : (U : Typ) (Us : List Typ) (T : Typ) → last_of (typs ((U ∷ Us) ++ T ∷ [])) ≡ given (same U TUnit) (last_of (typs (Us ++ T ∷ [])))
last_step U [] T = refl
last_step U (V ∷ Us) T = refl

pub last_next : (ts : List Ty) (t : Ty) (i : ℕ) (u : Ty) → i < length ts → u ≡ get_or ts i u → last_from (drop i ts) t ≡ given (same (typ_of u) TUnit) (last_from (drop (i + 1) ts) t)
last_next ts t i u h e = ap (λ (us : List Ty). last_from us t) (from_item ts i u h e) ∙ last_step (typ_of u) (map typ_of (drop (i + 1) ts)) (typ_of t)

pub last_end : (ts : List Ty) (t : Ty) (i : ℕ) → i ≡ length ts → last_from (drop i ts) t ≡ Some (typ_of t)
last_end ts t i e = ap (λ (us : List Ty). last_from us t) (from_end ts i e)

pub ruleset go_laws = (go_first, go_same, go_other)
