-- What comes of heads, one by one.
use Rattle.std.proofs.Common.{◌≡◌, refl, sym, ap, ap₂, ◌∙◌, ℕ, ◌+◌, ◌<◌, ◌≤◌, true, false, List, [], ◌∷◌, ◌++◌, length, length-append, append_assoc, Result, Err, Ok}
use Rattle.std.specs.Prelude.{nat_lt}
use Rattle.std.proofs.lemmas.Bool.Decides.{nat_tests}
use native.Mathlib.Omega.{arith}
use Rattle.ac_types.specs.Limits.{longest_packet}
use Rattle.ac_types.specs.Types.{Bytes}
use Rattle.ac_terms.specs.Heads.{Head, next_head, before}
use Rattle.ac_rules.specs.Faults.{Depth, Function, Size, part_fault}
use Rattle.ac_pack_heads.specs.Outcomes.{WalkEnd, On, Stopped, unless_fault, walk_end, Puts}
use Rattle.ac_pack_heads.specs.declared.stop.Stop.{Stop}

lt_is : (n m : ℕ) → n < m → nat_lt n m ≡ true
lt_is n m h = grind (arith, nat_tests)

not_lt : (n m : ℕ) → m ≤ n → nat_lt n m ≡ false
not_lt n m h = grind (arith, nat_tests)

-- heads

pub after_none : (bs : Bytes) → walk_end bs [] ≡ On bs
unfolding walk_end
after_none bs = refl

-- a head that is written
pub after_head : (bs : Bytes) (d : ℕ) (cs : Bytes) (hs : List Head) → d ≤ 500 → length (bs ++ cs) ≤ longest_packet → walk_end bs (next_head d cs ∷ hs) ≡ walk_end (bs ++ cs) hs
unfolding walk_end
after_head bs d cs hs p q =
    let a = not_lt 500 d p in
    let b = not_lt longest_packet (length bs + length cs) (omega (arith, q, length-append bs cs)) in
    rw (a, b) refl

pub too_deep : (bs : Bytes) (h : Head) (hs : List Head) → 500 < h.nesting → walk_end bs (h ∷ hs) ≡ Stopped Depth
unfolding walk_end
too_deep bs h hs p = let a = lt_is 500 h.nesting p in rw a refl

pub too_long : (bs : Bytes) (d : ℕ) (cs : Bytes) (hs : List Head) → d ≤ 500 → longest_packet < length (bs ++ cs) → walk_end bs (next_head d cs ∷ hs) ≡ Stopped Size
unfolding walk_end
too_long bs d cs hs p q =
    let a = not_lt 500 d p in
    let b = lt_is longest_packet (length bs + length cs) (omega (arith, q, length-append bs cs)) in
    rw (a, b) refl

pub can_not_travel : (bs : Bytes) (d : ℕ) (cs : Bytes) (hs : List Head) → d ≤ 500 → walk_end bs (record { nesting = d; travels = false; bytes = cs } ∷ hs) ≡ Stopped Function
unfolding walk_end
can_not_travel bs d cs hs p = let a = not_lt 500 d p in rw a refl

-- bytes that belong to the next head
pub preceded_head : (bs cs : Bytes) (h : Head) (hs : List Head) → walk_end (bs ++ cs) (h ∷ hs) ≡ walk_end bs (before cs (h ∷ hs))
unfolding walk_end
preceded_head bs cs h hs =
    ap₂ (λ (n : ℕ) (o : WalkEnd). unless_fault (part_fault 500 longest_packet n h) o)
    (omega (arith, length-append bs cs, length-append cs h.bytes))
    (ap (λ x. walk_end x hs) (append_assoc bs cs h.bytes))

-- bytes in front of a head that is put belong to it
pub puts_before : (r : Result Unit Stop) (old mid new front cs : Bytes) (d : ℕ) → mid ≡ old ++ front → Puts r (next_head d cs) mid new → Puts r (next_head d (front ++ cs)) old new
puts_before (Ok u) old mid new front cs d e h = λ hs. h hs ∙ ap (λ x. walk_end x (next_head d cs ∷ hs)) e ∙ preceded_head old front (next_head d cs) hs
puts_before (Err x) old mid new front cs d e h =
    λ f q ks. sym (preceded_head old front (next_head d cs) ks) ∙ ap (λ y. walk_end y (next_head d cs ∷ ks)) (sym e) ∙ h f q ks

pub ruleset head_laws = (after_head, too_deep, too_long, can_not_travel)
