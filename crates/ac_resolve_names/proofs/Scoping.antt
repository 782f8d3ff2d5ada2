-- Scopes: how many names they hold, and what stands before a name.
use Rattle.std.proofs.Common.{◌≡◌, ◌∙◌, ap, refl, sym, arith, ℕ, suc, ◌-◌, ◌<◌, ◌≤◌, min, Bool, true, false, List, [], ◌∷◌, ◌++◌, map, length, take, get_or, Option, Some, None}
use Rattle.std.specs.Prelude.{option_map}
use Rattle.std.proofs.Math.Seq.{take-suc}
use Rattle.std.proofs.lemmas.List.{map-append}
use Rattle.std.proofs.lemmas.Bool.Decides.{nat_tests}
use Rattle.ac_types.specs.Types.{Bytes, same_bytes}
use Rattle.ac_syntax.specs.declared.surface.SName.{SName}
use Rattle.ac_syntax.specs.Trees.{NameAt}
use Rattle.ac_resolve_scopes.specs.Scopes.{binders_to, scope_with, own_number}
use Rattle.ac_resolve_scopes.specs.Counts.{over}
use Rattle.ac_syntax.specs.ReadTrees.{name_of}
use Rattle.ac_resolve_names.specs.inner.VariableNames.{passed}

bind_end : (xs : List NameAt) (x : NameAt) (outer : List Bytes) → scope_with (xs ++ x ∷ []) outer ≡ x.word ∷ scope_with xs outer
bind_end [] x outer = refl
bind_end (y ∷ xs) x outer = bind_end xs x (y.word ∷ outer)

pub bind_take : (names : List SName) (left : ℕ) (d : SName) (outer : List Bytes) → left < length names → scope_with (map name_of (take (suc left) names)) outer ≡ (get_or names left d).word ∷ scope_with (map name_of (take left names)) outer
bind_take names left d outer h =
    ap (λ ns. scope_with (map name_of ns) outer) (take-suc names left d h)
    ∙ ap (λ ns. scope_with ns outer) (map-append name_of (take left names) (get_or names left d ∷ []))
    ∙ bind_end (map name_of (take left names)) (name_of (get_or names left d)) outer

-- how many of the last names aren't this one
abbrev pub Behind : Bytes → List SName → ℕ → Type 0
Behind w names left = (outer : List Bytes) → binders_to w (scope_with (map name_of names) outer) ≡ passed None (length names - left) (binders_to w (scope_with (map name_of (take left names)) outer))

passed_suc : (n m : ℕ) (o : Option ℕ) → m ≡ suc n → passed None n (option_map suc o) ≡ passed None m o
passed_suc n m None e = refl
passed_suc n m (Some i) e = ap Some (omega arith)

step_to : (w y : Bytes) (outer : List Bytes) → same_bytes y w ≡ false → binders_to w (y ∷ outer) ≡ option_map suc (binders_to w outer)
step_to w y outer e = rw (e, binders_to) refl

found_at : (w y : Bytes) (outer : List Bytes) → same_bytes y w ≡ true → binders_to w (y ∷ outer) ≡ Some 0
found_at w y outer e = rw (e, binders_to) refl

-- what is known of the last names but one more, of which the next is this one or isn't
next_behind : (w : Bytes) (names : List SName) (left m : ℕ) (x : SName) → left < length names → m ≡ suc left → x ≡ get_or names left x → Behind w names m
    → (outer : List Bytes) → binders_to w (scope_with (map name_of names) outer) ≡ passed None (length names - m) (binders_to w (x.word ∷ scope_with (map name_of (take left names)) outer))
next_behind w names left m x h e is so outer =
    so outer
    ∙ ap (λ k. passed None (length names - m) (binders_to w (scope_with (map name_of (take k names)) outer))) e
    ∙ ap (λ ns. passed None (length names - m) (binders_to w ns)) (bind_take names left x outer h)
    ∙ ap (λ (y : SName). passed None (length names - m) (binders_to w (y.word ∷ scope_with (map name_of (take left names)) outer))) (sym is)

pub behind_more : (w : Bytes) (names : List SName) (left m : ℕ) (x : SName) → left < length names → m ≡ suc left → x ≡ get_or names left x → same_bytes x.word w ≡ false → Behind w names m → Behind w names left
behind_more w names left m x h e is apart so outer =
    next_behind w names left m x h e is so outer
    ∙ ap (passed None (length names - m)) (step_to w x.word (scope_with (map name_of (take left names)) outer) apart)
    ∙ passed_suc (length names - m) (length names - left) (binders_to w (scope_with (map name_of (take left names)) outer)) (omega arith)

pub behind_found : (w : Bytes) (names : List SName) (left m i : ℕ) (x : SName) → left < length names → m ≡ suc left → i ≡ length names - 1 - left → x ≡ get_or names left x → same_bytes x.word w ≡ true → Behind w names m
    → (outer : List Bytes) → binders_to w (scope_with (map name_of names) outer) ≡ Some i
behind_found w names left m i x h e n is found so outer =
    next_behind w names left m x h e is so outer
    ∙ ap (passed None (length names - m)) (found_at w x.word (scope_with (map name_of (take left names)) outer) found)
    ∙ ap Some (omega arith)

-- the number of a variable is below that of the names in scope
within_more : (b : Bool) (o : Option ℕ) (n i : ℕ) → ((k : ℕ) → o ≡ Some k → k < n) → elim b [ true ↦ Some 0 | false ↦ option_map suc o ] ≡ Some i → i < suc n
within_more true o n i within e = let z : 0 ≡ i = cc in omega arith
within_more false None n i within e = absurd (cc)
within_more false (Some k) n i within e = let z : suc k ≡ i = cc in omega (arith, within k refl)

pub binders-within : (w : Bytes) (names : List Bytes) (i : ℕ) → binders_to w names ≡ Some i → i < length names
binders-within w [] i e = absurd (cc)
binders-within w (y ∷ names) i e = within_more (same_bytes y w) (binders_to w names) (length names) i (binders-within w names) e

uncut : (o : Option ℕ) (n i : ℕ) → ((k : ℕ) → o ≡ Some k → k < n) → n ≤ 65535 → Some i ≡ option_map (λ k. min k 65536) o → (i < 65536) × (o ≡ Some i)
uncut None n i within h e = absurd (cc)
uncut (Some k) n i within h e = let z : i ≡ min k 65536 = cc in let l = within k refl in (omega arith, ap Some (omega arith))

few : (n : ℕ) → over 65535 n ≡ None → n ≤ 65535
few n e = grind (arith, nat_tests)

-- where few variables are in scope, a number that isn't past 65,535 is the variable's own
pub number_fits : (w : Bytes) (names : List Bytes) (i : ℕ) → over 65535 (length names) ≡ None → Some i ≡ option_map (λ k. min k 65536) (binders_to w names) → (i < 65536) × (binders_to w names ≡ Some i)
number_fits w names i h e = uncut (binders_to w names) (length names) i (binders-within w names) (few (length names) h) e

nothing_cut : (o : Option ℕ) → None ≡ option_map (λ k. min k 65536) o → o ≡ None
nothing_cut None e = refl
nothing_cut (Some k) e = absurd (cc)

pub no_number : (w : Bytes) (names : List Bytes) → None ≡ option_map (λ k. min k 65536) (binders_to w names) → binders_to w names ≡ None
no_number w names e = nothing_cut (binders_to w names) e

-- the number of a field is below that of the fields in scope
own_more : (b : Bool) (o : Option ℕ) (n i : ℕ) → ((k : ℕ) → o ≡ Some k → k < n) → elim b [ true ↦ Some n | false ↦ o ] ≡ Some i → i < suc n
own_more true o n i within e = let z : n ≡ i = cc in omega arith
own_more false o n i within e = omega (arith, within i e)

pub own-within : (x : Bytes) (names : List Bytes) (i : ℕ) → own_number x names ≡ Some i → i < length names
own-within x [] i e = absurd (cc)
own-within x (y ∷ names) i e = own_more (same_bytes y x) (own_number x names) (length names) i (own-within x names) e
