-- A type as it is seen has as many parts at least, and is as high.
use Rattle.std.proofs.Common.{ℕ, ◌≡◌, ◌<◌, ◌≤◌, ◌⊎◌, inl, inr, ap, arith, Bool, false, ◌&&◌, Some, None}
use Rattle.std.specs.Prelude.{nat_le}
use Rattle.std.proofs.lemmas.Bool.Decides.{nat_tests}
use Rattle.ac_types.specs.Partial.{given}
use Rattle.ac_types.specs.Types.{Bytes, Typ, TInt, TBool, TStr, TUnit, TExn, TTuple, TList, TOpt, TFun, TAbs, TMine, Typs, no_types, typ, with_each, all_with_each, with_mine, all_with_mine, node_count, parts_of_all, height, height_of_all, is_small}
use Rattle.ac_types.proofs.SizeLaws.{parts-pos, height-pos}
use Rattle.ac_rules.specs.Views.{Coloured}
use Rattle.ac_rules.specs.Typing.{kept_in}

-- more parts or a greater height than a small type has
abbrev Big : ℕ → ℕ → Type 0
Big m n = (4096 < m) ⊎ (100 < n)

tests_big : (m n : ℕ) → (nat_le m 4096 && nat_le n 100) ≡ false → Big m n
tests_big m n e = grind (arith, nat_tests)

big_tests : (m n : ℕ) → Big m n → (nat_le m 4096 && nat_le n 100) ≡ false
big_tests m n e = grind (arith, nat_tests)

bigger : (m n k l : ℕ) → m ≤ k → n ≤ l → Big m n → Big k l
bigger m n k l p q (inl e) = inl (omega arith)
bigger m n k l p q (inr e) = inr (omega arith)

pub not_small : (T U : Typ) → node_count T ≤ node_count U → height T ≤ height U → is_small T ≡ false → is_small U ≡ false
not_small T U p q e = big_tests (node_count U) (height U) (bigger _ _ _ _ p q (tests_big (node_count T) (height T) e))

-- a type of a signature as it is seen from outside, where own types are those of the name n
module _ (f : Bytes → Bytes → Typ) (n : Bytes) where
  abbrev shown : Typ → Typ
  shown T = with_each f (with_mine (TAbs n) T)

  abbrev all_shown : Typs → Typs
  all_shown Ts = all_with_each f (all_with_mine (TAbs n) Ts)

  mutual
    more_parts : (T : Typ) → node_count T ≤ node_count (shown T)
    more_parts TInt = omega arith
    more_parts TBool = omega arith
    more_parts TStr = omega arith
    more_parts TUnit = omega arith
    more_parts TExn = omega arith
    more_parts (TTuple Ts) = let h = all_more_parts Ts in omega arith
    more_parts (TList T) = let h = more_parts T in omega arith
    more_parts (TOpt T) = let h = more_parts T in omega arith
    more_parts (TFun T U) = let h = more_parts T in let k = more_parts U in omega arith
    more_parts (TAbs m t) = let h = parts-pos (f m t) in omega arith
    more_parts (TMine t) = let h = parts-pos (f n t) in omega arith

    all_more_parts : (Ts : Typs) → parts_of_all Ts ≤ parts_of_all (all_shown Ts)
    all_more_parts no_types = omega arith
    all_more_parts (typ T Ts) = let h = more_parts T in let k = all_more_parts Ts in omega arith

  mutual
    higher : (T : Typ) → height T ≤ height (shown T)
    higher TInt = omega arith
    higher TBool = omega arith
    higher TStr = omega arith
    higher TUnit = omega arith
    higher TExn = omega arith
    higher (TTuple Ts) = let h = all_higher Ts in omega arith
    higher (TList T) = let h = higher T in omega arith
    higher (TOpt T) = let h = higher T in omega arith
    higher (TFun T U) = let h = higher T in let k = higher U in omega arith
    higher (TAbs m t) = let h = height-pos (f m t) in omega arith
    higher (TMine t) = let h = height-pos (f n t) in omega arith

    all_higher : (Ts : Typs) → height_of_all Ts ≤ height_of_all (all_shown Ts)
    all_higher no_types = omega arith
    all_higher (typ T Ts) = let h = higher T in let k = all_higher Ts in omega arith

  pub not_shown : (T : Typ) → is_small T ≡ false → kept_in Coloured (Some (shown T)) ≡ None
  not_shown T e = ap (λ (b : Bool). given b (Some (shown T))) (not_small T (shown T) (more_parts T) (higher T) e)
