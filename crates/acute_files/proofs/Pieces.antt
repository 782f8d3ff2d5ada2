-- A file that is read in pieces.
use Rattle.std.proofs.Common.{◌≡◌, ◌≤◌, ℕ, List, [], ◌++◌, Option, Some, None, refl, sym, ◌∙◌, ap, arith, append_assoc, take, drop, length, take-append-drop}
use Rattle.std.proofs.lemmas.List.{append-nil, take_at, drop_at, take_all}
use Rattle.ac_types.specs.Limits.{longest_read}
use Rattle.ac_outside.specs.Outside.{Rose, ReadsFrom}
use Rattle.ac_outside.specs.declared.traits.Got.TheVariants as got
use Rattle.acute_files.specs.inner.Fronts.{Begins, IsFrontOf}

pub begins_at_all : (file : Option (List ℕ)) (text : List ℕ) → text ≡ [] → Begins file text
begins_at_all None text is = is
begins_at_all (Some bytes) text is = (bytes, ap (λ (l : List ℕ). l ++ bytes) (sym is))

-- what is left behind the text
left : (bytes text rest : List ℕ) (len : ℕ) → len ≡ length text → bytes ≡ text ++ rest → drop len bytes ≡ rest
left bytes text rest len is split = ap (λ (l : List ℕ). drop len l) split ∙ drop_at text rest len (sym is)

pub begins_more : (file : Option (List ℕ)) (text piece buf : List ℕ) (len n : ℕ) → len ≡ length text → Begins file text → ReadsFrom (got.Bytes n) file len buf → piece ≡ take n buf → Begins file (text ++ piece)
begins_more None text piece buf len n is b r e = cc
begins_more (Some bytes) text piece buf len n is b r e =
    let l : drop len bytes ≡ b.0 = left bytes text b.0 len is b.1 in
    let p : piece ≡ take n b.0 = e ∙ r.same ∙ ap (λ (x : List ℕ). take n x) l in
    (drop n b.0, b.1 ∙ ap (λ (x : List ℕ). text ++ x) (sym (take-append-drop n b.0) ∙ ap (λ (x : List ℕ). x ++ drop n b.0) (sym p)) ∙ sym (append_assoc text piece (drop n b.0)))

pub ends_there : (file : Option (List ℕ)) (text buf : List ℕ) (len : ℕ) → len ≡ length text → len ≤ longest_read → Begins file text → ReadsFrom got.End file len buf → IsFrontOf file text
ends_there None text buf len is le b r = cc
ends_there (Some bytes) text buf len is le b r =
    let none : b.0 ≡ [] = sym (left bytes text b.0 len is b.1) ∙ r in
    let all : bytes ≡ text = b.1 ∙ ap (λ (x : List ℕ). text ++ x) none ∙ append-nil text in
    sym (ap (λ (x : List ℕ). take longest_read x) all ∙ take_all longest_read text (omega arith))

pub is_full : (file : Option (List ℕ)) (text : List ℕ) (len : ℕ) → len ≡ length text → len ≤ longest_read → longest_read ≤ len → Begins file text → IsFrontOf file text
is_full None text len is le ge b = let e : length text ≡ 0 = ap length b in absurd (omega arith)
is_full (Some bytes) text len is le ge b = sym (ap (λ (x : List ℕ). take longest_read x) b.1 ∙ take_at text b.0 longest_read (omega arith))

pub rose_since : (first before now : ℕ) → first ≤ before → Rose before now → Rose first now
rose_since first before now le rose = omega arith

pub within_limit : (file : Option (List ℕ)) (text : List ℕ) → IsFrontOf file text → (bytes : List ℕ) × (file ≡ Some bytes) × (text ≡ take longest_read bytes)
within_limit None text f = absurd f
within_limit (Some bytes) text f = (bytes, refl, f)
