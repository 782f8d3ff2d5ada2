-- What a map of keys has, after each key that goes in where it isn't there yet.
use Rattle.std.proofs.Common.{Ordering, ◌≡◌, refl, sym, ap, ap₂, ◌∙◌, ℕ, ◌+◌, ◌<◌, cond, get_or, Bool, true, false, List, [], ◌∷◌, ◌++◌, map, length, take, drop, Option, Some, None}
use Rattle.std.proofs.lemmas.List.{map-append, length-map, drop_more, take_more, length-take}
use native.Mathlib.Omega.{arith}
use Rattle.ac_terms.specs.declared.def.Entry as code
use Rattle.ac_terms.specs.Read.{entry_of}
use Rattle.std.specs.Ordering.{nat_cmp}
use Rattle.std.specs.Cmp.Lexicographic.{slice_cmp}
use Rattle.std.specs.BTreeMap.{BTreeMap, IsEmpty, Updates, get, get_by}
use Rattle.std.specs.Option.{option_or}
use Rattle.ac_types.proofs.Same.{bytes_eq}
use Rattle.ac_types.specs.Types.{Bytes, same_bytes}
use Rattle.ac_types.specs.Partial.{given}
use Rattle.ac_terms.specs.Defs.{Environment, Entry}
use Rattle.ac_index.proofs.NotedLaws.{same_order}
use Rattle.ac_index.proofs.PositionLaws.{position_more}
use Rattle.ac_admit_clashes.proofs.KnownLaws.{noted_none}
use Rattle.ac_admit_placing.specs.inner.Keys.{key_bytes, keyed}
use Rattle.ac_admit_placing.specs.inner.Maps.{Key, key_found}

abbrev key_cmp : Key → Key → Ordering
key_cmp a b = slice_cmp nat_cmp a.items b.items

pub none_keyed : (m : BTreeMap Key ℕ) → IsEmpty m → (k : Key) → key_found m k ≡ None
unfolding key_found
none_keyed m e k = rw e refl

-- only the bytes of a key count
by_bytes : (m : BTreeMap Key ℕ) (a b : Key) → a.items ≡ b.items → key_found m a ≡ key_found m b
unfolding key_found
by_bytes m a b e = ap (λ (bs : Bytes). get_by (λ (x : Key). slice_cmp nat_cmp bs x.items) m) e

put : (old new : BTreeMap Key ℕ) (kept : Key) (i : ℕ) → Updates key_cmp old new kept (Some i) → (k : Key) → key_found new k ≡ cond (same_bytes kept.items k.items) (Some i) (key_found old k)
unfolding key_found
put old new kept i u k = u.0 k ∙ ap (λ b. cond b (Some i) (get key_cmp old k)) (same_order kept.items k.items)

-- a key that isn't there goes in
pub noted_new : (old new : BTreeMap Key ℕ) (kept : Key) (i : ℕ) → key_found old kept ≡ None → Updates key_cmp old new kept (Some i) →
    (k : Key) → key_found new k ≡ option_or (key_found old k) (given (same_bytes kept.items k.items) (Some i))
noted_new old new kept i h u k = put old new kept i u k ∙ by (same_bytes kept.items k.items) refl
  where
    by : (b : Bool) → same_bytes kept.items k.items ≡ b → cond b (Some i) (key_found old k) ≡ option_or (key_found old k) (given b (Some i))
    by true e = ap (λ o. option_or o (Some i)) (sym (by_bytes old k kept (sym (bytes_eq kept.items k.items e)) ∙ h))
    by false e = noted_none (key_found old k) (Some i)

-- one that is there stays
pub noted_old : (old : BTreeMap Key ℕ) (kept : Key) (i j : ℕ) → key_found old kept ≡ Some j →
    (k : Key) → key_found old k ≡ option_or (key_found old k) (given (same_bytes kept.items k.items) (Some i))
noted_old old kept i j h k = by (same_bytes kept.items k.items) refl
  where
    by : (b : Bool) → same_bytes kept.items k.items ≡ b → key_found old k ≡ option_or (key_found old k) (given b (Some i))
    by true e = let at = by_bytes old k kept (sym (bytes_eq kept.items k.items e)) ∙ h in at ∙ sym (ap (λ o. option_or o (Some i)) at)
    by false e = noted_none (key_found old k) (Some i)

-- one more entry
pub keyed_more : (E : Environment) (e : Entry) (bs : Bytes) → keyed (E ++ e ∷ []) bs ≡ option_or (keyed E bs) (given (same_bytes (key_bytes e.def e.link) bs) (Some (length E)))
keyed_more E e bs = position_more (λ (x : Entry). same_bytes (key_bytes x.def x.link) bs) E e

pub keys_next : (E : Environment) (e : Entry) (n : ℕ) → length E ≡ n → (old new : Key → Option ℕ) → ((k : Key) → old k ≡ keyed E k.items) → (key : Bytes) → key ≡ key_bytes e.def e.link →
    ((k : Key) → new k ≡ option_or (old k) (given (same_bytes key k.items) (Some n))) → (k : Key) → new k ≡ keyed (E ++ e ∷ []) k.items
keys_next E e n many old new h key is u k =
    u k ∙ ap₂ (λ a b. option_or a b) (h k) (ap₂ (λ (x : Bytes) m. given (same_bytes x k.items) (Some m)) is (sym many)) ∙ sym (keyed_more E e k.items)

pub ruleset noted = (noted_new, noted_old)

-- one more entry of the code
pub entries_next : (i : ℕ) (xs : List code.Entry) (x : code.Entry) → i < length xs → x ≡ get_or xs i x → map entry_of (take (i + 1) xs) ≡ map entry_of (take i xs) ++ entry_of x ∷ []
entries_next i xs x h e = ap (map entry_of) (take_more xs i x h ∙ ap (λ y. take i xs ++ y ∷ []) (sym e)) ∙ map-append entry_of (take i xs) (x ∷ [])

pub entries_taken : (i : ℕ) (xs : List code.Entry) → i < length xs → length (map entry_of (take i xs)) ≡ i
entries_taken i xs h = let n = length-take i xs in length-map (take i xs) entry_of ∙ omega (arith, h, n)

-- the definitions that are left
pub left_next : {A : Type 0} (i : ℕ) (xs : List A) (x : A) → i < length xs → x ≡ get_or xs i x → drop i xs ≡ x ∷ drop (i + 1) xs
left_next i xs x h e = drop_more xs i x h ∙ ap (λ y. y ∷ drop (i + 1) xs) (sym e)
