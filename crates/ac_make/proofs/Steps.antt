-- One number more, and one module more.
use Rattle.std.proofs.Common.{◌≡◌, ℕ, zero, suc, ◌+◌, ◌*◌, ◌++◌, sym, ap, ◌∙◌, append_assoc, append-nil, add-one, arith}
use Rattle.std.specs.List.{flat_map, range_with_len}
use Rattle.ac_types.specs.Types.{Bytes}
use Rattle.ac_make.specs.Draws.{next_state, state_after, drawn, draw}
use Rattle.ac_make.specs.ProgramText.{module_lines, module_text, of_each}

-- m stands behind n numbers from a on
flat_map_range : (text : ℕ → Bytes) (a n m : ℕ) → m ≡ a + n → flat_map text (range_with_len a (suc n)) ≡ flat_map text (range_with_len a n) ++ text m
flat_map_range text a zero m is = append-nil (text a) ∙ ap text (omega arith)
flat_map_range text a (suc n) m is = ap (λ l. text a ++ l) (flat_map_range text (a + 1) n m (omega arith)) ∙ sym (append_assoc (text a) (flat_map text (range_with_len (a + 1) n)) (text m))

-- what was put for the numbers below i, and the text of i
pub one_more : (text : ℕ → Bytes) (before all now : Bytes) (i : ℕ) → all ≡ before ++ of_each text i → now ≡ all ++ text i → now ≡ before ++ of_each text (i + 1)
one_more text before all now i so_far put =
    put ∙ ap (λ l. l ++ text i) so_far ∙ append_assoc before (of_each text i) (text i)
    ∙ ap (λ l. before ++ l) (sym (flat_map_range text 0 i i (omega arith)))
    ∙ ap (λ n. before ++ of_each text n) (sym (add-one i))

-- the state after one draw more
state_more : (seed s t k : ℕ) → s ≡ state_after seed k → t ≡ next_state s → t ≡ state_after seed (k + 1)
state_more seed s t k so_far next = next ∙ ap next_state so_far ∙ ap (state_after seed) (sym (add-one k))

-- a module takes two draws: from state s to t for its first, and to u for its second
pub record Takes (s t u first second : ℕ) : Type 0 where
  pub to_first : t ≡ next_state s
  pub first_is : first ≡ drawn t
  pub to_second : u ≡ next_state t
  pub second_is : second ≡ drawn u

pub two_more : (seed s t u a b i : ℕ) → s ≡ state_after seed (2 * i) → Takes s t u a b → u ≡ state_after seed (2 * (i + 1))
two_more seed s t u a b i so_far takes =
    state_more seed t u (2 * i + 1) (state_more seed s t (2 * i) so_far takes.to_first) takes.to_second
    ∙ ap (state_after seed) (omega arith)

pub module_is : (seed s t u a b i : ℕ) → s ≡ state_after seed (2 * i) → Takes s t u a b → module_lines i a b ≡ module_text seed i
module_is seed s t u a b i so_far takes =
    let first : t ≡ state_after seed (2 * i + 1) = state_more seed s t (2 * i) so_far takes.to_first in
    let second : u ≡ state_after seed (2 * i + 1 + 1) = state_more seed t u (2 * i + 1) first takes.to_second in
    ap (λ x. module_lines i x b) (takes.first_is ∙ ap drawn first)
    ∙ ap (λ x. module_lines i (draw seed (2 * i)) x) (takes.second_is ∙ ap drawn second)
