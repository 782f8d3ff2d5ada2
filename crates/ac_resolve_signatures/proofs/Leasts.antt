-- The least of what is there: order and nesting don't matter.
use Rattle.std.proofs.Common.{◌≡◌, ◌∙◌, ap, refl, sym, arith, ℕ, ◌+◌, ◌<◌, min, List, [], ◌∷◌, length, drop, get_or, Option, Some, None}
use Rattle.ac_resolve_scopes.specs.Searches.{least}
use Rattle.ac_resolve_signatures.specs.declared.flaws.Flaws.{Flaws}
use Rattle.ac_resolve_signatures.specs.Joined.{no_flaws, flaws_joined}
use Rattle.ac_types.proofs.Loops.{drop_next, drop_end}

min_assoc : (a b c : ℕ) → min (min a b) c ≡ min a (min b c)
min_assoc a b c = omega arith

min_comm : (a b : ℕ) → min a b ≡ min b a
min_comm a b = omega arith

pub least-none : (a : Option ℕ) → least a None ≡ a
least-none None = refl
least-none (Some a) = refl

pub least-comm : (a b : Option ℕ) → least a b ≡ least b a
least-comm None None = refl
least-comm None (Some b) = refl
least-comm (Some a) None = refl
least-comm (Some a) (Some b) = ap Some (min_comm a b)

pub least-assoc : (a b c : Option ℕ) → least (least a b) c ≡ least a (least b c)
least-assoc None b c = refl
least-assoc (Some a) None c = refl
least-assoc (Some a) (Some b) None = refl
least-assoc (Some a) (Some b) (Some c) = ap Some (min_assoc a b c)

-- two pairs, joined crosswise
pub least_across : (a b c d : Option ℕ) → least (least a b) (least c d) ≡ least (least a c) (least b d)
least_across a b c d =
    least-assoc a b (least c d)
    ∙ ap (least a) (sym (least-assoc b c d) ∙ ap (λ o. least o d) (least-comm b c) ∙ least-assoc c b d)
    ∙ sym (least-assoc a c (least b d))

-- a record of three
abbrev pub three : Option ℕ → Option ℕ → Option ℕ → Flaws
three u r c = record { unbound = u; repeated = r; count = c }

pub same : (u v r s c d : Option ℕ) → u ≡ v → r ≡ s → c ≡ d → three u r c ≡ three v s d
same u v r s c d p q e = ap (λ x. three x r c) p ∙ ap (λ x. three v x c) q ∙ ap (three v s) e

pub joined-none : (a : Flaws) → flaws_joined a no_flaws ≡ a
joined-none a = same _ _ _ _ _ _ (least-none a.unbound) (least-none a.repeated) (least-none a.count)

pub joined-assoc : (a b c : Flaws) → flaws_joined (flaws_joined a b) c ≡ flaws_joined a (flaws_joined b c)
joined-assoc a b c = same _ _ _ _ _ _ (least-assoc a.unbound b.unbound c.unbound) (least-assoc a.repeated b.repeated c.repeated) (least-assoc a.count b.count c.count)

pub joined_across : (a b c d : Flaws) → flaws_joined (flaws_joined a b) (flaws_joined c d) ≡ flaws_joined (flaws_joined a c) (flaws_joined b d)
joined_across a b c d = same _ _ _ _ _ _ (least_across a.unbound b.unbound c.unbound d.unbound) (least_across a.repeated b.repeated c.repeated d.repeated) (least_across a.count b.count c.count d.count)

pub both_joined : (a b c d : Flaws) → a ≡ b → c ≡ d → flaws_joined a c ≡ flaws_joined b d
both_joined a b c d p q = ap (λ x. flaws_joined x c) p ∙ ap (flaws_joined b) q

-- one more part of some trees
pub step : (whole found here rest next : Flaws) → whole ≡ flaws_joined found rest → rest ≡ flaws_joined here next → whole ≡ flaws_joined (flaws_joined found here) next
step whole found here rest next p q = p ∙ ap (flaws_joined found) q ∙ sym (joined-assoc found here next)

pub finished : (whole found rest : Flaws) → whole ≡ flaws_joined found rest → rest ≡ no_flaws → found ≡ whole
finished whole found rest p q = sym (p ∙ ap (flaws_joined found) q ∙ joined-none found)

-- one more part, where what is wrong with some parts is made of what is wrong with each
pub next_part : {A : Type 0} (F : List A → Flaws) (h : A → Flaws) (law : (x : A) (xs : List A) → F (x ∷ xs) ≡ flaws_joined (h x) (F xs)) (all found made new : Flaws) (i : ℕ) (xs : List A) (x : A)
    → i < length xs → x ≡ get_or xs i x → all ≡ flaws_joined found (F (drop i xs)) → made ≡ h x → new ≡ flaws_joined found made → all ≡ flaws_joined new (F (drop (i + 1) xs))
next_part F h law all found made new i xs x lt is so e n =
    step all found (h x) (F (drop i xs)) (F (drop (i + 1) xs)) so (ap F (drop_next i xs x lt is) ∙ law x (drop (i + 1) xs))
    ∙ ap (λ (f : Flaws). flaws_joined f (F (drop (i + 1) xs))) (sym (n ∙ ap (flaws_joined found) e))

pub last_part : {A : Type 0} (F : List A → Flaws) (all found : Flaws) (i : ℕ) (xs : List A) → F [] ≡ no_flaws → i ≡ length xs → all ≡ flaws_joined found (F (drop i xs)) → found ≡ all
last_part F all found i xs none e so = finished all found (F (drop i xs)) so (ap F (drop_end i xs e) ∙ none)

-- one more item, of items that stand one behind another
pub next_item : {A C K : Type 0} (F : K → List A → Flaws) (h : K → A → Flaws) (past : K → A → K) (law : (k : K) (x : A) (xs : List A) → F k (x ∷ xs) ≡ flaws_joined (h k x) (F (past k x) xs)) (read : C → K)
    (old fresh : C) (all found made new : Flaws) (i : ℕ) (xs : List A) (x : A)
    → i < length xs → x ≡ get_or xs i x → all ≡ flaws_joined found (F (read old) (drop i xs)) → made ≡ h (read old) x → read fresh ≡ past (read old) x → new ≡ flaws_joined found made → all ≡ flaws_joined new (F (read fresh) (drop (i + 1) xs))
next_item F h past law read old fresh all found made new i xs x lt is so e to n =
    step all found (h (read old) x) (F (read old) (drop i xs)) (F (past (read old) x) (drop (i + 1) xs)) so (ap (F (read old)) (drop_next i xs x lt is) ∙ law (read old) x (drop (i + 1) xs))
    ∙ ap (λ k. flaws_joined (flaws_joined found (h (read old) x)) (F k (drop (i + 1) xs))) (sym to)
    ∙ ap (λ (f : Flaws). flaws_joined f (F (read fresh) (drop (i + 1) xs))) (sym (n ∙ ap (flaws_joined found) e))
