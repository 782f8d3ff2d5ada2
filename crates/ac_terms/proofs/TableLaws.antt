-- Tables of types: what is in them stands for itself, they have no more bytes than the places, and the table of a packet is the one that the words of the format ask for.
use Rattle.std.proofs.Common.{◌≡◌, refl, sym, ap, subst, ◌∙◌, ℕ, zero, suc, ◌+◌, ◌<◌, ◌≤◌, Bool, true, false, not, List, [], ◌∷◌, ◌++◌, length, length-append, append_assoc, append-nil, map, Option, Some, None}
use Rattle.std.specs.Prelude.{◌||◌, slice_get, nat_lt, nat_eq, flat_map}
use Rattle.std.specs.List.{list_all}
use Rattle.std.proofs.lemmas.List.Folds.{list_any-append}
use Rattle.std.proofs.lemmas.Bool.Decides.{nat_tests}
use mathlib.Core.Bool.{true≢false}
use native.Mathlib.Omega.{arith}
use Rattle.ac_types.proofs.FirstLaws.{none≢some, some_eq}
use Rattle.ac_types.proofs.Same.{both_true, and_true, same_eq, same_refl}
use Rattle.ac_types.specs.Types.{Typ, TInt, TBool, TStr, TUnit, TExn, TTuple, TList, TOpt, TFun, TAbs, TMine, same}
use Rattle.ac_terms.specs.Spelling.{type_bytes}
use Rattle.ac_terms.specs.Tables.{is_among, with_type, with_types, number_in, in_full, counted_up, types_distinct, IsTable}
use Rattle.ac_terms.proofs.AllLaws.{all_append}
use Rattle.ac_terms.proofs.TestLaws.{lt_true, lt_is, eq_true, eq_self, not_true}

or_right : (a b : Bool) → b ≡ true → (a || b) ≡ true
or_right true b e = refl
or_right false b e = e

-- a test of what is in a list, by its first
pub number_there : (Ts : List Typ) (T : Typ) → is_among Ts T ≡ true → slice_get Ts (number_in Ts T) ≡ Some T
number_there [] T h = absurd (true≢false (sym h))
number_there (U ∷ Us) T h = by (number_there Us T) (same T U) refl h
  where
    by : (is_among Us T ≡ true → slice_get Us (number_in Us T) ≡ Some T) → (b : Bool) → same T U ≡ b → (b || is_among Us T) ≡ true →
        slice_get (U ∷ Us) (elim b as (λ z. ℕ) [ true ↦ 0 | false ↦ suc (number_in Us T) ]) ≡ Some T
    by f true e g = ap Some (sym (same_eq T U e))
    by f false e g = f g

pub number_below : (Ts : List Typ) (T : Typ) → is_among Ts T ≡ true → number_in Ts T < length Ts
number_below [] T h = absurd (true≢false (sym h))
number_below (U ∷ Us) T h = by (number_below Us T) (same T U) h
  where
    by : (is_among Us T ≡ true → number_in Us T < length Us) → (b : Bool) → (b || is_among Us T) ≡ true → elim b as (λ z. ℕ) [ true ↦ 0 | false ↦ suc (number_in Us T) ] < suc (length Us)
    by f true g = omega arith
    by f false g = let l = f g in omega (arith, l)

-- what is in a table stays in it, and what is put there is in it
pub among_left : (xs ys : List Typ) (U : Typ) → is_among xs U ≡ true → is_among (xs ++ ys) U ≡ true
among_left xs ys U h = list_any-append (same U) xs ys ∙ ap (λ b. b || is_among ys U) h

among_right : (xs ys : List Typ) (U : Typ) → is_among ys U ≡ true → is_among (xs ++ ys) U ≡ true
among_right xs ys U h = list_any-append (same U) xs ys ∙ or_right (is_among xs U) (is_among ys U) h

among_one : (T : Typ) (Ts : List Typ) → is_among (T ∷ Ts) T ≡ true
among_one T Ts = ap (λ b. b || is_among Ts T) (same_refl T)

-- the two cases of a table with one more type
pub with_cases : (P : List Typ → Type 0) (t : List Typ) (T : Typ) → (is_among t T ≡ true → P t) → (is_among t T ≡ false → P (t ++ T ∷ [])) → P (with_type t T)
with_cases P t T there new = by (is_among t T) refl
  where
    by : (b : Bool) → is_among t T ≡ b → P (elim b as (λ z. List Typ) [ true ↦ t | false ↦ t ++ T ∷ [] ])
    by true e = there e
    by false e = new e

step_keeps : (t : List Typ) (T U : Typ) → is_among t U ≡ true → is_among (with_type t T) U ≡ true
step_keeps t T U h = with_cases (λ x. is_among x U ≡ true) t T (λ e. h) (λ e. among_left t (T ∷ []) U h)

step_has : (t : List Typ) (T : Typ) → is_among (with_type t T) T ≡ true
step_has t T = with_cases (λ x. is_among x T ≡ true) t T (λ e. e) (λ e. among_right t (T ∷ []) T (among_one T []))

keeps : (t Ts : List Typ) (U : Typ) → is_among t U ≡ true → is_among (with_types t Ts) U ≡ true
keeps t [] U h = h
keeps t (T ∷ Ts) U h = keeps (with_type t T) Ts U (step_keeps t T U h)

-- so each type of the places is in the table
pub all_among : (t Ts : List Typ) → list_all (is_among (with_types t Ts)) Ts ≡ true
all_among t [] = refl
all_among t (T ∷ Ts) =
    and_true {a = is_among (with_types (with_type t T) Ts) T} {b = list_all (is_among (with_types (with_type t T) Ts)) Ts} (keeps (with_type t T) Ts T (step_has t T)) (all_among (with_type t T) Ts)

-- and the table has no others
pub table_all : (p : Typ → Bool) (t Ts : List Typ) → list_all p t ≡ true → list_all p Ts ≡ true → list_all p (with_types t Ts) ≡ true
table_all p t [] a b = a
table_all p t (T ∷ Ts) a b =
    let c = both_true (p T) (list_all p Ts) b in
    table_all p (with_type t T) Ts (with_cases (λ x. list_all p x ≡ true) t T (λ e. a) (λ e. all_append p t (T ∷ []) a (and_true {a = p T} {b = true} c.0 refl))) c.1

-- lengths
pub type_long : (T : Typ) → 1 ≤ length (type_bytes T)
type_long TInt = omega arith
type_long TBool = omega arith
type_long TStr = omega arith
type_long TUnit = omega arith
type_long TExn = omega arith
type_long (TTuple Ts) = omega arith
type_long (TList T) = omega arith
type_long (TOpt T) = omega arith
type_long (TFun T U) = omega arith
type_long (TAbs n t) = omega arith
type_long (TMine t) = omega arith

pub full_long : (Ts : List Typ) → length Ts ≤ in_full Ts
full_long [] = omega arith
full_long (T ∷ Ts) = omega (arith, type_long T, full_long Ts)

full_joined : (xs ys : List Typ) → in_full (xs ++ ys) ≡ in_full xs + in_full ys
full_joined [] ys = omega arith
full_joined (T ∷ xs) ys = omega (arith, full_joined xs ys)

pub full_spelled : (Ts : List Typ) → length (flat_map type_bytes Ts) ≡ in_full Ts
full_spelled [] = refl
full_spelled (T ∷ Ts) = omega (arith, length-append (type_bytes T) (flat_map type_bytes Ts), full_spelled Ts)

pub table_full : (t Ts : List Typ) → in_full (with_types t Ts) ≤ in_full t + in_full Ts
table_full t [] = omega arith
table_full t (T ∷ Ts) =
    let one = with_cases (λ x. in_full x ≤ in_full t + length (type_bytes T)) t T (λ e. omega arith) (λ e. omega (arith, full_joined t (T ∷ []))) in
    omega (arith, one, table_full (with_type t T) Ts)

-- A table by the words of the format.

-- one type more leaves a table distinct
same_other : (T U : Typ) → same T U ≡ false → same U T ≡ false
same_other T U e = by (same U T) refl
  where
    by : (b : Bool) → same U T ≡ b → b ≡ false
    by false h = refl
    by true h = absurd (true≢false (sym (subst (λ x. same T x ≡ true) (sym (same_eq U T h)) (same_refl T)) ∙ e))

or_false : (a b : Bool) → (a || b) ≡ false → (a ≡ false) × (b ≡ false)
or_false true b e = absurd (true≢false e)
or_false false b e = (refl, e)

distinct_last : (xs : List Typ) (T : Typ) → types_distinct xs ≡ true → is_among xs T ≡ false → types_distinct (xs ++ T ∷ []) ≡ true
distinct_last [] T d n = refl
distinct_last (U ∷ xs) T d n =
    let a = both_true (not (is_among xs U)) (types_distinct xs) d in
    let b = or_false (same T U) (is_among xs T) n in
    let other : is_among (xs ++ T ∷ []) U ≡ false = list_any-append (same U) xs (T ∷ []) ∙ ap (λ x. x || is_among (T ∷ []) U) (not_true (is_among xs U) a.0) ∙ ap (λ x. x || false) (same_other T U b.0) in
    and_true {a = not (is_among (xs ++ T ∷ []) U)} {b = types_distinct (xs ++ T ∷ [])} (ap not other) (distinct_last xs T a.1 b.1)

table_distinct : (t Ts : List Typ) → types_distinct t ≡ true → types_distinct (with_types t Ts) ≡ true
table_distinct t [] d = d
table_distinct t (T ∷ Ts) d = table_distinct (with_type t T) Ts (with_cases (λ x. types_distinct x ≡ true) t T (λ e. d) (λ e. distinct_last t T d e))

-- numbers stay as a table grows, and the next one is the count
number_stays : (xs ys : List Typ) (T : Typ) → is_among xs T ≡ true → number_in (xs ++ ys) T ≡ number_in xs T
number_stays [] ys T h = absurd (true≢false (sym h))
number_stays (U ∷ xs) ys T h = by (number_stays xs ys T) (same T U) h
  where
    by : (is_among xs T ≡ true → number_in (xs ++ ys) T ≡ number_in xs T) → (b : Bool) → (b || is_among xs T) ≡ true →
        elim b as (λ z. ℕ) [ true ↦ 0 | false ↦ suc (number_in (xs ++ ys) T) ] ≡ elim b as (λ z. ℕ) [ true ↦ 0 | false ↦ suc (number_in xs T) ]
    by f true g = refl
    by f false g = ap suc (f g)

number_next : (xs : List Typ) (T : Typ) → is_among xs T ≡ false → number_in (xs ++ T ∷ []) T ≡ length xs
number_next [] T h = ap (λ b. elim b as (λ z. ℕ) [ true ↦ 0 | false ↦ suc (number_in [] T) ]) (same_refl T)
number_next (U ∷ xs) T h =
    let b = or_false (same T U) (is_among xs T) h in
    ap (λ x. elim x as (λ z. ℕ) [ true ↦ 0 | false ↦ suc (number_in (xs ++ T ∷ []) T) ]) b.0 ∙ ap suc (number_next xs T b.1)

-- a table begins with what it began with
grows : (t Ts : List Typ) → (more : List Typ) × (with_types t Ts ≡ t ++ more)
grows t [] = ([], sym (append-nil t))
grows t (T ∷ Ts) = with_cases (λ x. ((more : List Typ) × (with_types x Ts ≡ x ++ more)) → (more : List Typ) × (with_types x Ts ≡ t ++ more)) t T (λ e r. r) (λ e r. (T ∷ r.0, r.1 ∙ append_assoc t (T ∷ []) r.0)) (grows (with_type t T) Ts)

-- first numbers come in order
counts_old : (k n : ℕ) (ns : List ℕ) → n < k → counted_up k (n ∷ ns) ≡ counted_up k ns
counts_old k n ns h = ap (λ b. elim b as (λ z. Option ℕ) [ true ↦ counted_up k ns | false ↦ elim (nat_eq n k) [ true ↦ counted_up (suc k) ns | false ↦ None ] ]) (lt_is n k h)

not_less : (k : ℕ) → nat_lt k k ≡ false
not_less k = grind (arith, nat_tests)

counts_new : (k : ℕ) (ns : List ℕ) → counted_up k (k ∷ ns) ≡ counted_up (suc k) ns
counts_new k ns =
    ap (λ b. elim b as (λ z. Option ℕ) [ true ↦ counted_up k ns | false ↦ elim (nat_eq k k) [ true ↦ counted_up (suc k) ns | false ↦ None ] ]) (not_less k) ∙
    ap (λ b. elim b as (λ z. Option ℕ) [ true ↦ counted_up (suc k) ns | false ↦ None ]) (eq_self k)

in_turn : (t Ts : List Typ) → counted_up (length t) (map (number_in (with_types t Ts)) Ts) ≡ Some (length (with_types t Ts))
in_turn t [] = refl
in_turn t (T ∷ Ts) = with_cases (λ x. counted_up (length x) (map (number_in (with_types x Ts)) Ts) ≡ Some (length (with_types x Ts)) → counted_up (length t) (map (number_in (with_types x Ts)) (T ∷ Ts)) ≡ Some (length (with_types x Ts))) t T old new (in_turn (with_type t T) Ts)
  where
    old : is_among t T ≡ true → counted_up (length t) (map (number_in (with_types t Ts)) Ts) ≡ Some (length (with_types t Ts)) → counted_up (length t) (map (number_in (with_types t Ts)) (T ∷ Ts)) ≡ Some (length (with_types t Ts))
    old e h =
        let g = grows t Ts in
        let n : number_in (with_types t Ts) T ≡ number_in t T = ap (λ x. number_in x T) g.1 ∙ number_stays t g.0 T e in
        counts_old (length t) (number_in (with_types t Ts) T) (map (number_in (with_types t Ts)) Ts) (subst (λ x. x < length t) (sym n) (number_below t T e)) ∙ h

    new : is_among t T ≡ false → counted_up (length (t ++ T ∷ [])) (map (number_in (with_types (t ++ T ∷ []) Ts)) Ts) ≡ Some (length (with_types (t ++ T ∷ []) Ts)) → counted_up (length t) (map (number_in (with_types (t ++ T ∷ []) Ts)) (T ∷ Ts)) ≡ Some (length (with_types (t ++ T ∷ []) Ts))
    new e h =
        let u : List Typ = t ++ T ∷ [] in
        let g = grows u Ts in
        let ns : List ℕ = map (number_in (with_types u Ts)) Ts in
        let n : number_in (with_types u Ts) T ≡ length t = ap (λ x. number_in x T) g.1 ∙ number_stays u g.0 T (among_right t (T ∷ []) T (among_one T [])) ∙ number_next t T e in
        let long : length u ≡ suc (length t) = omega (arith, length-append t (T ∷ [])) in
        ap (λ x. counted_up (length t) (x ∷ ns)) n ∙ counts_new (length t) ns ∙ ap (λ x. counted_up x ns) (sym long) ∙ h

stand : (t Ts : List Typ) → list_all (is_among t) Ts ≡ true → map (slice_get t) (map (number_in t) Ts) ≡ map Some Ts
stand t [] h = refl
stand t (T ∷ Ts) h =
    let a = both_true (is_among t T) (list_all (is_among t) Ts) h in
    λ i. number_there t T a.0 i ∷ stand t Ts a.1 i

-- the table of some places is one of them
pub is_table : (Ts : List Typ) → IsTable (with_types [] Ts) (map (number_in (with_types [] Ts)) Ts) Ts
is_table Ts = record { distinct = table_distinct [] Ts refl; in_order = in_turn [] Ts; stand_for = stand (with_types [] Ts) Ts (all_among [] Ts) }

-- what stands in a table is in it, and has its own number where the types are distinct
among_at : (t : List Typ) (n : ℕ) (T : Typ) → slice_get t n ≡ Some T → is_among t T ≡ true
among_at [] n T e = absurd (none≢some e)
among_at (U ∷ t) zero T e = ap (λ x. x || is_among t T) (ap (same T) (some_eq e) ∙ same_refl T)
among_at (U ∷ t) (suc n) T e = or_right (same T U) (is_among t T) (among_at t n T e)

number_at : (t : List Typ) (n : ℕ) (T : Typ) → types_distinct t ≡ true → slice_get t n ≡ Some T → number_in t T ≡ n
number_at [] n T d e = absurd (none≢some e)
number_at (U ∷ t) zero T d e = ap (λ b. elim b as (λ z. ℕ) [ true ↦ 0 | false ↦ suc (number_in t T) ]) (ap (same T) (some_eq e) ∙ same_refl T)
number_at (U ∷ t) (suc n) T d e = by (number_at t n T a.1 e) (same T U) refl
  where
    a : (not (is_among t U) ≡ true) × (types_distinct t ≡ true)
    a = both_true (not (is_among t U)) (types_distinct t) d

    by : number_in t T ≡ n → (b : Bool) → same T U ≡ b → elim b as (λ z. ℕ) [ true ↦ 0 | false ↦ suc (number_in t T) ] ≡ suc n
    by h false q = ap suc h
    by h true q = absurd (true≢false (sym (subst (λ x. is_among t x ≡ true) (same_eq T U q) (among_at t n T e)) ∙ not_true (is_among t U) a.0))

abbrev rest_of : {A : Type 0} → List A → List A
rest_of [] = []
rest_of (x ∷ xs) = xs

get_left : (xs ys : List Typ) (n : ℕ) → n < length xs → slice_get (xs ++ ys) n ≡ slice_get xs n
get_left [] ys n h = absurd (omega (arith, h))
get_left (x ∷ xs) ys zero h = refl
get_left (x ∷ xs) ys (suc n) h = get_left xs ys n (omega (arith, h))

get_next : (xs : List Typ) (U : Typ) (ys : List Typ) → slice_get (xs ++ U ∷ ys) (length xs) ≡ Some U
get_next [] U ys = refl
get_next (x ∷ xs) U ys = get_next xs U ys

get_end : (xs : List Typ) → slice_get (xs ++ []) (length xs) ≡ None
get_end [] = refl
get_end (x ∷ xs) = get_end xs

distinct_before : (xs : List Typ) (T : Typ) (ys : List Typ) → types_distinct (xs ++ T ∷ ys) ≡ true → is_among xs T ≡ false
distinct_before [] T ys d = refl
distinct_before (V ∷ xs) T ys d =
    let a = both_true (not (is_among (xs ++ T ∷ ys) V)) (types_distinct (xs ++ T ∷ ys)) d in
    let b = or_false (is_among xs V) (is_among (T ∷ ys) V) (sym (list_any-append (same V) xs (T ∷ ys)) ∙ not_true (is_among (xs ++ T ∷ ys) V) a.0) in
    let c = or_false (same V T) (is_among ys V) b.1 in
    ap (λ x. x || is_among xs T) (same_other V T c.0) ∙ distinct_before xs T ys a.1

-- a type that is there, and one that isn't
with_old : (t : List Typ) (T : Typ) → is_among t T ≡ true → with_type t T ≡ t
with_old t T e = ap (λ b. elim b as (λ z. List Typ) [ true ↦ t | false ↦ t ++ T ∷ [] ]) e

with_new : (t : List Typ) (T : Typ) → is_among t T ≡ false → with_type t T ≡ t ++ T ∷ []
with_new t T e = ap (λ b. elim b as (λ z. List Typ) [ true ↦ t | false ↦ t ++ T ∷ [] ]) e

-- a table that the words of the format ask for is the one that grows with the places
abbrev OnlyFrom : List ℕ → List Typ → Type 0
OnlyFrom ns Ts = (t u : List Typ) → types_distinct (t ++ u) ≡ true → map (slice_get (t ++ u)) ns ≡ map Some Ts → counted_up (length t) ns ≡ Some (length (t ++ u)) → with_types t Ts ≡ t ++ u

module _ (n : ℕ) (ns : List ℕ) (T : Typ) (Ts : List Typ) (again : OnlyFrom ns Ts) (t : List Typ) where
  next : (u v : List Typ) → u ≡ v → types_distinct (t ++ u) ≡ true → slice_get (t ++ u) n ≡ Some T → map (slice_get (t ++ u)) ns ≡ map Some Ts → n ≡ length t → counted_up (suc (length t)) ns ≡ Some (length (t ++ u)) → with_types (with_type t T) Ts ≡ t ++ u
  next u [] p d here later q h = absurd (none≢some (sym (get_end t) ∙ ap (slice_get (t ++ [])) (sym q) ∙ ap (λ x. slice_get (t ++ x) n) (sym p) ∙ here))
  next u (U ∷ v) p d here later q h =
      let first : U ≡ T = some_eq (sym (get_next t U v) ∙ ap (slice_get (t ++ U ∷ v)) (sym q) ∙ ap (λ x. slice_get (t ++ x) n) (sym p) ∙ here) in
      let same : t ++ u ≡ t ++ T ∷ v = ap (λ x. t ++ x) (p ∙ ap (λ x. x ∷ v) first) in
      let parts : t ++ u ≡ (t ++ T ∷ []) ++ v = same ∙ sym (append_assoc t (T ∷ []) v) in
      let new : is_among t T ≡ false = distinct_before t T v (ap types_distinct (sym same) ∙ d) in
      let long : length (t ++ T ∷ []) ≡ suc (length t) = omega (arith, length-append t (T ∷ [])) in
      ap (λ x. with_types x Ts) (with_new t T new) ∙
      again (t ++ T ∷ []) v (ap types_distinct (sym parts) ∙ d) (ap (λ x. map (slice_get x) ns) (sym parts) ∙ later) (ap (λ x. counted_up x ns) long ∙ h ∙ ap (λ x. Some (length x)) parts) ∙
      sym parts

  one_more : (u : List Typ) → types_distinct (t ++ u) ≡ true → slice_get (t ++ u) n ≡ Some T → map (slice_get (t ++ u)) ns ≡ map Some Ts → (b e : Bool) → nat_lt n (length t) ≡ b → nat_eq n (length t) ≡ e →
      elim b as (λ z. Option ℕ) [ true ↦ counted_up (length t) ns | false ↦ elim e as (λ z. Option ℕ) [ true ↦ counted_up (suc (length t)) ns | false ↦ None ] ] ≡ Some (length (t ++ u)) → with_types (with_type t T) Ts ≡ t ++ u
  one_more u d here later true e q r h =
      let low : n < length t = lt_true n (length t) q in
      ap (λ x. with_types x Ts) (with_old t T (among_at t n T (sym (get_left t u n low) ∙ here))) ∙ again t u d later h
  one_more u d here later false true q r h = next u u refl d here later (eq_true n (length t) r) h
  one_more u d here later false false q r h = absurd (none≢some h)

only_from : (ns : List ℕ) (Ts t u : List Typ) → types_distinct (t ++ u) ≡ true → map (slice_get (t ++ u)) ns ≡ map Some Ts → counted_up (length t) ns ≡ Some (length (t ++ u)) → with_types t Ts ≡ t ++ u
only_from [] [] t [] d s c = sym (append-nil t)
only_from [] [] t (U ∷ u) d s c = absurd (omega (arith, some_eq c, length-append t (U ∷ u)))
only_from [] (T ∷ Ts) t u d s c = absurd (none≢some (ap (λ l. slice_get l 0) s))
only_from (n ∷ ns) [] t u d s c = absurd (none≢some (sym (ap (λ l. slice_get l 0) s)))
only_from (n ∷ ns) (T ∷ Ts) t u d s c = one_more n ns T Ts (only_from ns Ts) t u d (some_eq (ap (λ l. slice_get l 0) s)) (ap rest_of s) (nat_lt n (length t)) (nat_eq n (length t)) refl refl c

only_numbers : (t : List Typ) (ns : List ℕ) (Ts : List Typ) → types_distinct t ≡ true → map (slice_get t) ns ≡ map Some Ts → ns ≡ map (number_in t) Ts
only_numbers t [] [] d s = refl
only_numbers t [] (T ∷ Ts) d s = absurd (none≢some (ap (λ l. slice_get l 0) s))
only_numbers t (n ∷ ns) [] d s = absurd (none≢some (sym (ap (λ l. slice_get l 0) s)))
only_numbers t (n ∷ ns) (T ∷ Ts) d s =
    let one : number_in t T ≡ n = number_at t n T d (some_eq (ap (λ l. slice_get l 0) s)) in
    let more : ns ≡ map (number_in t) Ts = only_numbers t ns Ts d (ap rest_of s) in
    λ i. sym one i ∷ more i

-- so for some places there is one table, and one list of numbers
pub only_table : (t : List Typ) (ns : List ℕ) (Ts : List Typ) → IsTable t ns Ts → (t ≡ with_types [] Ts) × (ns ≡ map (number_in t) Ts)
only_table t ns Ts h = (sym (only_from ns Ts [] t h.distinct h.stand_for h.in_order), only_numbers t ns Ts h.distinct h.stand_for)
