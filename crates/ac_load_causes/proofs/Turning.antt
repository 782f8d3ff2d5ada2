-- Entries that are taken off at the end, and put back linked.
use Rattle.std.proofs.Common.{◌≡◌, ◌∙◌, ◌+◌, refl, sym, ap, true, List, [], ◌∷◌, ◌++◌, length, map, arith, append_assoc, length-append}
use Rattle.std.specs.List.{list_all}
use Rattle.std.proofs.lemmas.List.{map-append}
use Rattle.ac_types.proofs.Same.{both_true}
use Rattle.ac_terms.specs.Defs.{Environment, Entry, Seen}
use Rattle.ac_terms.specs.declared.def.Entry as code
use Rattle.ac_terms.specs.Read.{entry_of}
use Rattle.ac_load_rules.specs.Causes.{linked_entry, linked_behind}
use Rattle.ac_load_rules.specs.Counted.{has_counted}
use Rattle.ac_load_causes.specs.inner.Turned.{turned}

pub turned_last : {A : Type 0} (xs : List A) (x : A) → turned (xs ++ x ∷ []) ≡ x ∷ turned xs
turned_last [] x = refl
turned_last {A} (y ∷ xs) x = ap (λ (l : List A). l ++ y ∷ []) (turned_last xs x)

pub turned_length : {A : Type 0} (xs : List A) → length (turned xs) ≡ length xs
turned_length [] = refl
turned_length (x ∷ xs) =
    let a = length-append (turned xs) (x ∷ []) in
    let b = turned_length xs in
    omega (arith, a, b)

pub one_longer : {A : Type 0} (all xs : List A) (x : A) → all ≡ xs ++ x ∷ [] → length all ≡ length xs + 1
one_longer all xs x e = ap length e ∙ length-append xs (x ∷ [])

-- one more that is taken off
pub taken_off : {A : Type 0} (all ahead rest behind more : List A) (x : A) → ahead ≡ rest ++ x ∷ [] → more ≡ behind ++ x ∷ [] → ahead ++ turned behind ≡ all → rest ++ turned more ≡ all
taken_off {A} all ahead rest behind more x a m h =
    ap (λ (l : List A). rest ++ l) (ap turned m ∙ turned_last behind x)
    ∙ sym (append_assoc rest (x ∷ []) (turned behind))
    ∙ ap (λ (l : List A). l ++ turned behind) (sym a)
    ∙ h

-- and one more that is put back
pub popped_counted : (part rest : List code.Entry) (x : code.Entry) → part ≡ rest ++ x ∷ [] → list_all has_counted (map entry_of (turned part)) ≡ true → (has_counted (entry_of x) ≡ true) × (list_all has_counted (map entry_of (turned rest)) ≡ true)
popped_counted part rest x e h =
    both_true (has_counted (entry_of x)) _ (sym (ap (λ (l : List code.Entry). list_all has_counted (map entry_of l)) (ap turned e ∙ turned_last rest x)) ∙ h)

pub put_next : (seen : Seen) (all : Environment) (env more part rest : List code.Entry) (x y : code.Entry) → part ≡ rest ++ x ∷ [] → entry_of y ≡ linked_entry seen (map entry_of env) (entry_of x) → more ≡ env ++ y ∷ []
    → all ≡ map entry_of env ++ linked_behind seen (map entry_of env) (map entry_of (turned part)) → all ≡ map entry_of more ++ linked_behind seen (map entry_of more) (map entry_of (turned rest))
put_next seen all env more part rest x y p e m h =
    let E : Environment = map entry_of env in
    let z : Entry = linked_entry seen E (entry_of x) in
    let longer : E ++ z ∷ [] ≡ map entry_of more = ap (λ (w : Entry). E ++ w ∷ []) (sym e) ∙ sym (map-append entry_of env (y ∷ [])) ∙ ap (map entry_of) (sym m) in
    h
    ∙ ap (λ (l : List code.Entry). E ++ linked_behind seen E (map entry_of l)) (ap turned p ∙ turned_last rest x)
    ∙ sym (append_assoc E (z ∷ []) (linked_behind seen (E ++ z ∷ []) (map entry_of (turned rest))))
    ∙ ap (λ (F : Environment). F ++ linked_behind seen F (map entry_of (turned rest))) longer
