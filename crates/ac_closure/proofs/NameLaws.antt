-- What the map of names has for a name, after each entry that goes in.
use Rattle.std.proofs.Common.{◌≡◌, refl, sym, ap, ◌∙◌, ℕ, suc, ◌<◌, ◌≤◌, cond, arith, List, [], ◌∷◌, map, length, drop, get_or, Option, Some, None, drop-cons, add-one}
use Rattle.std.specs.List.{position_from}
use Rattle.std.specs.Ordering.{nat_cmp, is_eq}
use Rattle.std.specs.Cmp.Lexicographic.{slice_cmp}
use Rattle.std.specs.BTreeMap.{BTreeMap, IsEmpty, Updates, get}
use Rattle.std.proofs.lemmas.Bool.Decides.{nat_tests}
use Rattle.std.proofs.lemmas.List.{drop_all}
use Rattle.std.proofs.lemmas.Iterator.Adapters.{position_from-zero}
use Rattle.ac_types.specs.Types.{Bytes, same_bytes}
use Rattle.ac_terms.specs.declared.def.Entry as code
use Rattle.ac_terms.specs.Defs.{Entry, names, find_name}
use Rattle.ac_terms.specs.Read.{entry_of}
use Rattle.ac_closure.specs.inner.Names.{entry_named}

-- two byte strings that compare alike are the same, and no others
pub same_order : (a b : Bytes) → is_eq (slice_cmp nat_cmp a b) ≡ same_bytes a b
same_order [] [] = refl
same_order [] (y ∷ ys) = refl
same_order (x ∷ xs) [] = refl
same_order (x ∷ xs) (y ∷ ys) = let rest = same_order xs ys in grind (arith, nat_tests)

abbrev pub named_from : List Entry → ℕ → Bytes → Option ℕ
named_from es i name = position_from (λ (e : Entry). names e.name name) i es

pub named_first : (es : List Entry) (name : Bytes) → named_from es 0 name ≡ find_name es name
named_first es name = sym (position_from-zero (λ (e : Entry). names e.name name) es)

-- an empty map has no name
pub none_named : (m : BTreeMap Bytes ℕ) → IsEmpty m → (name : Bytes) → entry_named m name ≡ None
unfolding entry_named
none_named m e name = rw e refl

-- and each entry that is put takes the place of what its name had
pub name_put : (old new : BTreeMap Bytes ℕ) (kept : Bytes) (i : ℕ) → Updates (slice_cmp nat_cmp) old new kept (Some i) → (name : Bytes) → entry_named new name ≡ cond (same_bytes kept name) (Some i) (entry_named old name)
unfolding entry_named
name_put old new kept i u name = u.0 name ∙ ap (λ b. cond b (Some i) (get (slice_cmp nat_cmp) old name)) (same_order kept name)

pub named_step : (xs : List code.Entry) (i j : ℕ) (x : code.Entry) → i ≡ suc j → j < length xs → x ≡ get_or xs j x → (name : Bytes) →
    named_from (map entry_of (drop j xs)) j name ≡ cond (names (entry_of x).name name) (Some j) (named_from (map entry_of (drop i xs)) i name)
named_step xs i j x p lt at name =
    ap (λ (ys : List code.Entry). named_from (map entry_of ys) j name) (drop-cons xs j x lt ∙ ap (λ y. y ∷ drop (suc j) xs) (sym at))
    ∙ ap (λ n. cond (names (entry_of x).name name) (Some j) (named_from (map entry_of (drop (suc j) xs)) n name)) (add-one j)
    ∙ ap (λ n. cond (names (entry_of x).name name) (Some j) (named_from (map entry_of (drop n xs)) n name)) (sym p)

pub named_end : (xs : List code.Entry) (i : ℕ) (name : Bytes) → length xs ≤ i → named_from (map entry_of (drop i xs)) i name ≡ None
named_end xs i name le = ap (λ (ys : List code.Entry). named_from (map entry_of ys) i name) (drop_all i xs le)
