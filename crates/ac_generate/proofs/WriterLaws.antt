-- What the writing of instructions needs of lists.
use Rattle.std.proofs.Common.{◌≡◌, ℕ, suc, List, [], ◌∷◌, ◌++◌, ◌+◌, map, reverse, replicate, refl, sym, ap, ◌∙◌}
use Rattle.std.proofs.lemmas.Grind.{common_steps}
use Rattle.std.proofs.lemmas.List.{append-nil, append_assoc, map-append, map-set, set_past, reverse-append, reverse-reverse, replicate-append-replicate}
use Rattle.ac_code.specs.Code as instr
use Rattle.ac_generate.specs.inner.Drafts.{Draft, put, put_all}
use Rattle.ac_generate.specs.Sizes.{unbind}
use Rattle.ac_terms.proofs.PatternForms.{pattern_forms}

pub ruleset writer_laws = (append-nil, map-append, map-set, set_past)

pub reverse_cons : {A : Type 0} (x : A) (xs : List A) → reverse (x ∷ xs) ≡ reverse xs ++ x ∷ []
reverse_cons x xs = reverse-append (x ∷ []) xs

pub map_reverse : {A B : Type 0} (f : A → B) (xs : List A) → map f (reverse xs) ≡ reverse (map f xs)
map_reverse f [] = refl
map_reverse f (x ∷ xs) = ap (map f) (reverse_cons x xs) ∙ map-append f (reverse xs) (x ∷ []) ∙ ap (λ ys. ys ++ f x ∷ []) (map_reverse f xs) ∙ sym (reverse_cons (f x) (map f xs))

pub ruleset scope_laws = (append-nil, append_assoc, map-append, reverse-append, reverse-reverse, reverse_cons, map_reverse)

pub ruleset pattern_laws = (pattern_forms, append-nil, append_assoc, map-append, common_steps)

pub put_none : (d : Draft) → put_all (unbind 0) d ≡ d
unfolding put_all
put_none d = rw (append-nil d.instrs) refl

pub put_unbind : (k : ℕ) (d : Draft) → put_all (unbind (suc k)) d ≡ put (instr.Unbind (suc k)) d
unfolding put_all put
put_unbind k d = refl

pub ruleset unbind_laws = (put_none, put_unbind)

pub put_nothing : (d : Draft) → put_all [] d ≡ d
unfolding put_all
put_nothing d = put_none d

-- one more of the same
pub put_again : (i : instr.Instr) (n : ℕ) (d : Draft) → put i (put_all (replicate n i) d) ≡ put_all (replicate (n + 1) i) d
unfolding put put_all
put_again i n d = ap (λ (is : List instr.Instr). record { first = d.first; instrs = is; blocks = d.blocks }) (append_assoc d.instrs (replicate n i) (i ∷ []) ∙ ap (λ (is : List instr.Instr). d.instrs ++ is) (replicate-append-replicate n 1 i))

pub ruleset again_laws = (put_nothing, put_again)
