-- The map of a list of names: what it has for each, and what the list has there.
use Rattle.std.proofs.Common.{◌≡◌, ◌∙◌, ap, refl, sym, subst, arith, ℕ, zero, suc, ◌<◌, Bool, true, false, cond, List, [], ◌∷◌, ◌++◌, map, length, Option, Some, None}
use mathlib.Core.Logic.{⊎_elim}
use Rattle.std.proofs.lemmas.List.{length_push, length-map}
use Rattle.std.proofs.lemmas.Bool.{cases_Bool, cond-true, cond-false}
use Rattle.std.proofs.lemmas.Map.Text.{is_eq-slice_cmp}
use Rattle.std.specs.Prelude.{option_map, option_and_then, slice_get, Vec}
use Rattle.std.specs.declared.cmp.Ordering.{Ordering}
use Rattle.std.specs.Ordering.{nat_cmp, is_eq}
use Rattle.std.specs.Cmp.{eq_by_cmp_equiv}
use Rattle.std.specs.Cmp.Lexicographic.{slice_cmp, bytes_decides, nat_list_cmp_total, nat_list_eq_equiv}
use Rattle.std.specs.BTreeMap.{BTreeMap, UpdatesBy}
use Rattle.std.specs.Map.{lookup, IsKeyTest, AreApart, KeepsOthers}
use Rattle.std.specs.Str.{bytes_eq}
use Rattle.ac_types.specs.Types.{Bytes, same_bytes}
use Rattle.ac_resolve_scopes.specs.Standard.{beside_name}
use Rattle.ac_resolve_scopes.specs.Scopes.{own_number}
use Rattle.ac_resolve_names.specs.inner.Places.{word_of, place_of_name, Places, backwards}
use Rattle.ac_resolve_names.proofs.Scoping.{own-within}

-- lists from the last to the first
pub backwards-push : {A : Type 0} (xs : List A) (x : A) → backwards (xs ++ x ∷ []) ≡ x ∷ backwards xs
backwards-push [] x = refl
backwards-push (y ∷ xs) x = ap (λ l. l ++ y ∷ []) (backwards-push xs x)

backwards-backwards : {A : Type 0} (xs : List A) → backwards (backwards xs) ≡ xs
backwards-backwards [] = refl
backwards-backwards (x ∷ xs) = backwards-push (backwards xs) x ∙ ap (λ l. x ∷ l) (backwards-backwards xs)

pub length-backwards : {A : Type 0} (xs : List A) → length (backwards xs) ≡ length xs
length-backwards [] = refl
length-backwards (x ∷ xs) = length_push (backwards xs) x ∙ let e = length-backwards xs in omega arith

slice_get_end : {A : Type 0} (xs : List A) (x : A) → slice_get (xs ++ x ∷ []) (length xs) ≡ Some x
slice_get_end [] x = refl
slice_get_end (y ∷ xs) x = slice_get_end xs x

slice_get_front : {A : Type 0} (xs ys : List A) (i : ℕ) → i < length xs → slice_get (xs ++ ys) i ≡ slice_get xs i
slice_get_front [] ys i h = absurd (omega arith)
slice_get_front (x ∷ xs) ys zero h = refl
slice_get_front (x ∷ xs) ys (suc i) h = slice_get_front xs ys i (omega arith)

-- what stands at a place, of a list whose first is the earliest
abbrev pub meaning_at : {A : Type 0} → List (Bytes × A) → Option ℕ → Option A
meaning_at xs o = option_and_then (λ i. option_map (λ e. e.1) (slice_get xs i)) o

found_at : {A : Type 0} (b : Bool) (o : Option ℕ) (v : Option A) (xs : List (Bytes × A)) (y : Bytes × A) (n : ℕ) → n ≡ length xs → v ≡ meaning_at xs o → ((k : ℕ) → o ≡ Some k → k < length xs)
    → elim b [ true ↦ Some y.1 | false ↦ v ] ≡ meaning_at (xs ++ y ∷ []) (elim b [ true ↦ Some n | false ↦ o ])
found_at true o v xs y n e is within = sym (ap (option_map (λ p. p.1)) (ap (slice_get (xs ++ y ∷ [])) e ∙ slice_get_end xs y))
found_at false None v xs y n e is within = is
found_at false (Some k) v xs y n e is within = is ∙ ap (option_map (λ p. p.1)) (sym (slice_get_front xs (y ∷ []) k (within k refl)))

words-length : {A : Type 0} (L : List (Bytes × A)) → length (map word_of L) ≡ length (backwards L)
words-length L = length-map L word_of ∙ sym (length-backwards L)

beside_at : {A : Type 0} (x : Bytes) (L : List (Bytes × A)) → beside_name x L ≡ meaning_at (backwards L) (own_number x (map word_of L))
beside_at x [] = refl
beside_at x (y ∷ L) =
    found_at (same_bytes y.0 x) (own_number x (map word_of L)) (beside_name x L) (backwards L) y (length (map word_of L)) (words-length L) (beside_at x L)
    (λ k h. let w = own-within x (map word_of L) k h in let e = words-length L in omega arith)

meaning_of : {A : Type 0} (x : Bytes) (xs : List (Bytes × A)) → beside_name x (backwards xs) ≡ meaning_at xs (own_number x (map word_of (backwards xs)))
meaning_of x xs = beside_at x (backwards xs) ∙ ap (λ l. meaning_at l (own_number x (map word_of (backwards xs)))) (backwards-backwards xs)

pub none_beside : {A : Type 0} (x : Bytes) (L : List (Bytes × A)) → own_number x (map word_of L) ≡ None → beside_name x L ≡ None
none_beside x L h = beside_at x L ∙ ap (meaning_at (backwards L)) h

pub found_meaning : {A : Type 0} (xs L : List (Bytes × A)) (x : Bytes) (i : ℕ) (o : Option (Bytes × A)) → backwards xs ≡ L → own_number x (map word_of L) ≡ Some i → o ≡ slice_get xs i → beside_name x L ≡ option_map (λ e. e.1) o
found_meaning xs L x i o v h e =
    ap (beside_name x) (sym v) ∙ meaning_of x xs ∙ ap (meaning_at xs) (ap (λ l. own_number x (map word_of l)) v ∙ h) ∙ ap (option_map (λ p. p.1)) (sym e)

-- what a change at one key leaves at others
apart_in_order : (bs cs ks : Bytes) → bytes_eq bs cs ≡ false → is_eq (slice_cmp nat_cmp bs ks) ≡ true → is_eq (slice_cmp nat_cmp cs ks) ≡ false
apart_in_order bs cs ks n y = is_eq-slice_cmp cs ks ∙ nat_list_eq_equiv.symm cs ks ∙ sym (nat_list_eq_equiv.congr bs ks cs (sym (is_eq-slice_cmp bs ks) ∙ y)) ∙ n

other_entries : {K X : Type 0} (eq : K → K → Bool) (test : K → Bool) (old new : List (K × X)) → KeepsOthers eq test old new → (other : K → Bool) → IsKeyTest eq other → AreApart test other → lookup other new ≡ lookup other old
unfolding KeepsOthers
other_entries eq test old new h = h

by_bytes : {W : Type 0} (f g : Bytes → W) (bs : Bytes) (w : W) → g bs ≡ w → ((cs : Bytes) → bytes_eq bs cs ≡ false → g cs ≡ f cs) → (cs : Bytes) → g cs ≡ cond (bytes_eq bs cs) w (f cs)
by_bytes f g bs w here other cs =
    ⊎_elim
    (λ y. subst (λ l. g l ≡ w) ((bytes_decides bs cs).0 y) here ∙ sym (cond-true (bytes_eq bs cs) w (f cs) y))
    (λ n. other cs n ∙ sym (cond-false (bytes_eq bs cs) w (f cs) n))
    (cases_Bool (bytes_eq bs cs))

abbrev keys_cmp : {Z : Type 0} → Vec ℕ Z → Vec ℕ Z → Ordering
keys_cmp x y = slice_cmp nat_cmp x.items y.items

place_put : {Z : Type 0} (bs : Bytes) (m n : BTreeMap (Vec ℕ Z) ℕ) (w : Option ℕ) → UpdatesBy keys_cmp (λ k. slice_cmp nat_cmp bs k.items) m n w → (cs : Bytes) → place_of_name n cs ≡ cond (bytes_eq bs cs) w (place_of_name m cs)
place_put bs m n w h =
    by_bytes (place_of_name m) (place_of_name n) bs w h.1 (λ cs e. other_entries _ _ _ _ h.3 _ (λ x y. (eq_by_cmp_equiv nat_list_cmp_total).congr cs x.items y.items) (λ k. apart_in_order bs cs k.items e))

put_is : (b : Bool) (n : ℕ) (o : Option ℕ) → cond b (Some n) o ≡ elim b [ true ↦ Some n | false ↦ o ]
put_is true n o = refl
put_is false n o = refl

-- the map behind one more name
pub more_places : {Z A : Type 0} (m n : BTreeMap (Vec ℕ Z) ℕ) (key : Vec ℕ Z) (items new : List (Bytes × A)) (word : Bytes) (means : A) (place : ℕ)
    → Places m (backwards items) → key.items ≡ word → place ≡ length items → new ≡ items ++ (word, means) ∷ [] → UpdatesBy keys_cmp (keys_cmp key) m n (Some place) → Places n (backwards new)
more_places m n key items new word means place was k p is u name =
    place_put key.items m n (Some place) u name
    ∙ ap (λ w. cond (same_bytes w name) (Some place) (place_of_name m name)) k
    ∙ put_is (same_bytes word name) place (place_of_name m name)
    ∙ ap (λ o. elim (same_bytes word name) [ true ↦ Some place | false ↦ o ]) (was name)
    ∙ ap (λ i. elim (same_bytes word name) [ true ↦ Some i | false ↦ own_number name (map word_of (backwards items)) ]) (p ∙ sym (length-map (backwards items) word_of ∙ length-backwards items))
    ∙ sym (ap (λ l. own_number name (map word_of l)) (ap backwards is ∙ backwards-push items (word, means)))
