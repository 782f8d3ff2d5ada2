-- What the calls of a world do to its channels.
use Rattle.std.proofs.Common.{◌≡◌, ◌⊎◌, inl, inr, ◌≤◌, ℕ, Bool, true, false, IsTrue, List, [], ◌++◌, Option, Some, None, refl, sym, ◌∙◌, ap, arith, take, drop, take-append-drop, nat_le, cond}
use Rattle.std.specs.Prelude.{◌&&◌, is_some}
use mathlib.Core.Bool.{true≢false}
use Rattle.std.proofs.lemmas.List.{append-nil}
use Rattle.std.proofs.lemmas.Bool.{leb-true, le-leb}
use Rattle.ac_outside.specs.Outside.{Contents, Appended, Extends, Rose, Wrote, risen, or_empty}
use Rattle.ac_outside.specs.declared.traits.Put.{Put}
use Rattle.ac_outside.specs.declared.traits.Put.TheVariants as put
use Rattle.acute_words.specs.Form.{Text}
use Rattle.acute_words.specs.Commands.{ChannelName, standard, file}
use Rattle.acute_top.specs.inner.Told.{tells, sent_in}
use Rattle.acute_top.specs.Channels.{of_channel}
use Rattle.acute_top.specs.inner.Counts.{count_of_both}

none_of : (old new : Option (List ℕ)) (piece : List ℕ) → new ≡ old → Extends (or_empty old) (or_empty new) piece
none_of old new piece same = record { front = []; rest = piece; split = refl; new_is = ap or_empty same ∙ sym (append-nil (or_empty old)) }

some_of : (old new : Option (List ℕ)) (piece : List ℕ) → (new ≡ old) ⊎ ((n : ℕ) × (new ≡ Some (or_empty old ++ take n piece))) → Extends (or_empty old) (or_empty new) piece
some_of old new piece (inl same) = none_of old new piece same
some_of old new piece (inr more) = record { front = take more.0 piece; rest = drop more.0 piece; split = sym (take-append-drop more.0 piece); new_is = ap or_empty more.1 }

-- what an append leaves of a file is what a write leaves
pub appended : (p : Put) (old new : Option (List ℕ)) (piece : List ℕ) → Appended p old new piece → Wrote p (or_empty old) (or_empty new) piece
appended put.Done old new piece h = ap or_empty h
appended put.Failed old new piece h = some_of old new piece h
appended put.Memory old new piece h = some_of old new piece h

-- a file that is there stays so
pub there_after : (p : Put) (old new : Option (List ℕ)) (piece : List ℕ) → Appended p old new piece → IsTrue (is_some old) → IsTrue (is_some new)
there_after put.Done old new piece h there = ap is_some h
there_after put.Failed old new piece (inl same) there = ap is_some same ∙ there
there_after put.Failed old new piece (inr more) there = ap is_some more.1
there_after put.Memory old new piece (inl same) there = ap is_some same ∙ there
there_after put.Memory old new piece (inr more) there = ap is_some more.1

pub third : (a b c : Bool) → IsTrue (a && (b && c)) → IsTrue c
third true true c h = h
third true false c h = absurd (true≢false (sym h))
third false b c h = absurd (true≢false (sym h))

-- the channel keeps what it has
pub sent_same : (from to : Option ChannelName) (f i c s : Bool) → IsTrue (tells from to f i c s) → (old new : Contents) (x y : List ℕ) → (IsTrue f → new ≡ old) → y ≡ x → sent_in to new y ≡ sent_in to old x
sent_same from None f i c s t old new x y files stream = refl
sent_same from (Some standard) f i c s t old new x y files stream = stream
sent_same from (Some (file name)) f i c s t old new x y files stream =
    let told : IsTrue f = third (of_channel from true i (λ n. f)) c f t in
    ap (λ (l : Contents). or_empty (l name)) (files told)

pub count_later : (to : Option ChannelName) (x y : ℕ) (f g : Text → ℕ) → x ≤ y → ((name : Text) → f name ≤ g name) → of_channel to 0 x f ≤ of_channel to 0 y g
count_later None x y f g h k = omega arith
count_later (Some standard) x y f g h k = h
count_later (Some (file name)) x y f g h k = k name

at_last : (t : Bool) → 18446744073709551615 ≤ cond t 18446744073709551615 18446744073709551615
at_last true = omega arith
at_last false = omega arith

-- a count of both never falls
pub both_later : (a b c d x y : ℕ) → c ≤ x → d ≤ y → count_of_both a b c d ≤ count_of_both a b x y
both_later a b c d x y h k = go (nat_le (risen a) c) (nat_le (risen b) d) refl refl
  where
    go : (p q : Bool) → nat_le (risen a) c ≡ p → nat_le (risen b) d ≡ q → count_of_both a b c d ≤ count_of_both a b x y
    go true q e f =
        let low = leb-true (risen a) c e in
        let up : nat_le (risen a) x ≡ true = le-leb (risen a) x (omega (arith, low)) in
        rw (e, up) (omega arith)
    go false true e f =
        let low = leb-true (risen b) d f in
        let up : nat_le (risen b) y ≡ true = le-leb (risen b) y (omega (arith, low)) in
        rw (e, f, up) (at_last (nat_le (risen a) x))
    go false false e f = rw (e, f) (omega arith)

-- where it has risen, one of the two has
pub one_of_both : (n a b c d : ℕ) → Rose n (count_of_both a b c d) → Rose a c ⊎ Rose b d
one_of_both n a b c d rose = go (nat_le (risen a) c) (nat_le (risen b) d) refl refl
  where
    go : (p q : Bool) → nat_le (risen a) c ≡ p → nat_le (risen b) d ≡ q → Rose a c ⊎ Rose b d
    go true q e f = inl (leb-true (risen a) c e)
    go false true e f = inr (leb-true (risen b) d f)
    go false false e f = let h : risen n ≤ 0 = rw (e, f) at rose in absurd (omega (arith, h))
