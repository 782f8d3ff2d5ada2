-- The types of a list's items, one after the other.
use Rattle.std.proofs.Common.{ℕ, ◌≡◌, ◌+◌, ◌<◌, refl, sym, ap, ◌∙◌, List, [], ◌∷◌, ◌++◌, length, map, get_or, drop, Option, Some, None}
use Rattle.ac_types.specs.Types.{Typ, Typs, no_types, typs}
use Rattle.ac_types.specs.ReadTypes.{typ_of}
use Rattle.ac_types.specs.declared.ty.Ty.{Ty}
use Rattle.ac_types.specs.Partial.{also}
use Rattle.ac_check_views.proofs.PairLaws.{from_item, from_end}

-- the types so far, before those that follow
abbrev pub ahead : List Ty → Option Typs → Option Typs
ahead [] o = o
ahead (t ∷ ts) o = also (Some (typ_of t)) (ahead ts o)

ahead_none : (ts : List Ty) → ahead ts None ≡ None
ahead_none [] = refl
ahead_none (t ∷ ts) = ap (also (Some (typ_of t))) (ahead_none ts)

ahead_all : (ts : List Ty) → ahead ts (Some no_types) ≡ Some (typs (map typ_of ts))
ahead_all [] = refl
ahead_all (t ∷ ts) = ap (also (Some (typ_of t))) (ahead_all ts)

ahead_more : (ts : List Ty) (t : Ty) (o : Option Typs) → ahead (ts ++ t ∷ []) o ≡ ahead ts (also (Some (typ_of t)) o)
ahead_more [] t o = refl
ahead_more (u ∷ ts) t o = ap (also (Some (typ_of u))) (ahead_more ts t o)

module _ {A : Type 0} (h : A → Option Typ) where
  -- the type of each item, where each has one
  abbrev pub collected : List A → Option Typs
  collected [] = Some no_types
  collected (x ∷ xs) = also (h x) (collected xs)

  pub next_item : (xs : List A) (i : ℕ) (x : A) → i < length xs → x ≡ get_or xs i x → collected (drop i xs) ≡ also (h x) (collected (drop (i + 1) xs))
  next_item xs i x l e = ap collected (from_item xs i x l e)

  module _ (xs : List A) (i : ℕ) (x : A) (l : i < length xs) (is : x ≡ get_or xs i x) (all : Option Typs) (ts : List Ty) (so : all ≡ ahead ts (collected (drop i xs))) where
    pub item_none : h x ≡ None → all ≡ None
    item_none e = so ∙ ap (ahead ts) (next_item xs i x l is ∙ ap (λ (o : Option Typ). also o (collected (drop (i + 1) xs))) e) ∙ ahead_none ts

    pub item_some : (t : Ty) (us : List Ty) → us ≡ ts ++ t ∷ [] → h x ≡ Some (typ_of t) → all ≡ ahead us (collected (drop (i + 1) xs))
    item_some t us pushed e =
        so ∙ ap (ahead ts) (next_item xs i x l is ∙ ap (λ (o : Option Typ). also o (collected (drop (i + 1) xs))) e)
        ∙ sym (ahead_more ts t (collected (drop (i + 1) xs)))
        ∙ ap (λ (vs : List Ty). ahead vs (collected (drop (i + 1) xs))) (sym pushed)

  pub items_all : (xs : List A) (i : ℕ) (all : Option Typs) (ts : List Ty) → i ≡ length xs → all ≡ ahead ts (collected (drop i xs)) → all ≡ Some (typs (map typ_of ts))
  items_all xs i all ts e so = so ∙ ap (λ (ys : List A). ahead ts (collected ys)) (from_end xs i e) ∙ ahead_all ts
