-- Laws of lists of values.
use Rattle.std.proofs.Common.{[], ◌∷◌, ◌≡◌, ℕ, zero, suc, ◌<◌, ◌+◌, ◌-◌, Some, ap, ap₂, arith}
use Rattle.ac_values.specs.Values.{MValue, MInt, MBool, MStr, MUnit, MExn, MExnOf, MTuple, MNil, MCons, MAbsent, MPresent, MClosure, MEnd, MMore}
use Rattle.std.specs.List.{All}
use Rattle.ac_values.specs.ValueReaders.{newest_and_rest, entry, without}

pub opened_more : (t a b : MValue) → newest_and_rest t ≡ Some (a, b) → t ≡ MMore a b
opened_more (MMore x y) a b e = let h : (x, y) ≡ (a, b) = cc in ap (λ (p : MValue × MValue). MMore p.0 p.1) h
opened_more (MInt n) a b e = absurd (cc)
opened_more (MBool n) a b e = absurd (cc)
opened_more (MStr n) a b e = absurd (cc)
opened_more MUnit a b e = absurd (cc)
opened_more (MExn n) a b e = absurd (cc)
opened_more (MExnOf n t) a b e = absurd (cc)
opened_more (MTuple n) a b e = absurd (cc)
opened_more MNil a b e = absurd (cc)
opened_more (MCons x y) a b e = absurd (cc)
opened_more MAbsent a b e = absurd (cc)
opened_more (MPresent x) a b e = absurd (cc)
opened_more (MClosure f r t) a b e = absurd (cc)
opened_more MEnd a b e = absurd (cc)

pub entry_older : (i k : ℕ) (t a b : MValue) → k < i → newest_and_rest t ≡ Some (a, b) → entry (i - k) t ≡ entry (i - (k + 1)) b
entry_older i k t a b h e =
    let s : i - k ≡ suc (i - (k + 1)) = omega arith in
    ap₂ entry s (opened_more t a b e)

pub without_older : (i k : ℕ) (t a b : MValue) → k < i → newest_and_rest t ≡ Some (a, b) → without (i - k) t ≡ without (i - (k + 1)) b
without_older i k t a b h e =
    let s : i - k ≡ suc (i - (k + 1)) = omega arith in
    ap₂ without s (opened_more t a b e)

pub all_one : {X : Type 0} (P : X → Type 0) (x : X) → P x → All P (x ∷ [])
all_one P x p zero d h = p
all_one P x p (suc k) d h = absurd (omega arith)
