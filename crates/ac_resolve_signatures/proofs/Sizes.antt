-- Sizes of types that stand side by side.
use Rattle.std.proofs.Common.{◌≡◌, ◌∙◌, ap, refl, arith, ℕ, ◌+◌, min, max, List, [], ◌∷◌}
use Rattle.ac_types.specs.Types.{Bytes, Typ, TInt, TBool, TStr, TUnit, TExn, TTuple, TList, TOpt, TFun, TAbs, TMine, Typs, no_types, typ, typs, with_mine, all_with_mine, node_count, height, parts_of_all, height_of_all}
use Rattle.ac_resolve_signatures.specs.declared.size.Size.{Size}
use Rattle.ac_resolve_signatures.specs.KnownScopes.{size_of, size_of_leaf, size_of_none, around, side_by_side}
use Rattle.ac_resolve_signatures.specs.inner.TypeSizes.{sizes_after}

-- a size of so many parts and that height, cut
abbrev pub cut : ℕ → ℕ → Size
cut p h = record { parts = min p 4097; height = min h 101 }

abbrev sized : ℕ → ℕ → Size
sized p h = record { parts = p; height = h }

alike : (p q h k : ℕ) → p ≡ q → h ≡ k → sized p h ≡ sized q k
alike p q h k e f = ap (λ n. sized n h) e ∙ ap (sized q) f

pub cuts : (p q h k : ℕ) → p ≡ q → h ≡ k → cut p h ≡ cut q k
cuts p q h k e f = ap (λ n. cut n h) e ∙ ap (cut q) f

pub around-cut : (p h : ℕ) → around (cut p h) ≡ cut (p + 1) (h + 1)
around-cut p h = alike (min (min p 4097 + 1) 4097) (min (p + 1) 4097) (min (min h 101 + 1) 101) (min (h + 1) 101) (omega arith) (omega arith)

pub side_by_side-cut : (p h q k : ℕ) → side_by_side (cut p h) (cut q k) ≡ cut (p + q) (max h k)
side_by_side-cut p h q k = alike (min (min p 4097 + min q 4097) 4097) (min (p + q) 4097) (max (min h 101) (min k 101)) (min (max h k) 101) (omega arith) (omega arith)

pub leaf-cut : size_of_leaf ≡ cut 1 1
leaf-cut = alike 1 (min 1 4097) 1 (min 1 101) (omega arith) (omega arith)

pub none-cut : size_of_none ≡ cut 0 0
none-cut = alike 0 (min 0 4097) 0 (min 0 101) (omega arith) (omega arith)

pub sizes_after-cut : (p h : ℕ) (Ts : List Typ) → sizes_after (cut p h) Ts ≡ cut (p + parts_of_all (typs Ts)) (max h (height_of_all (typs Ts)))
sizes_after-cut p h [] = cuts p (p + 0) h (max h 0) (omega arith) (omega arith)
sizes_after-cut p h (T ∷ Ts) =
    let P = parts_of_all (typs Ts) in
    let H = height_of_all (typs Ts) in
    ap (λ (s : Size). sizes_after s Ts) (side_by_side-cut p h (node_count T) (height T))
    ∙ sizes_after-cut (p + node_count T) (max h (height T)) Ts
    ∙ cuts (p + node_count T + P) (p + (node_count T + P)) (max (max h (height T)) H) (max h (max (height T) H)) (omega arith) (omega arith)

-- of a tuple
pub around-sizes : (Ts : List Typ) → around (sizes_after size_of_none Ts) ≡ size_of (TTuple (typs Ts))
around-sizes Ts =
    let P = parts_of_all (typs Ts) in
    let H = height_of_all (typs Ts) in
    ap (λ (s : Size). around (sizes_after s Ts)) none-cut ∙ ap around (sizes_after-cut 0 0 Ts) ∙ around-cut (0 + P) (max 0 H) ∙ cuts (0 + P + 1) (P + 1) (max 0 H + 1) (H + 1) (omega arith) (omega arith)

-- an own abstract type of a signature has the size of the type that stands for it
module _ (n : Bytes) where
  mutual
    parts-with_mine : (T : Typ) → node_count (with_mine (TAbs n) T) ≡ node_count T
    parts-with_mine TInt = refl
    parts-with_mine TBool = refl
    parts-with_mine TStr = refl
    parts-with_mine TUnit = refl
    parts-with_mine TExn = refl
    parts-with_mine (TTuple Ts) = ap (λ k. k + 1) (all_parts-with_mine Ts)
    parts-with_mine (TList T) = ap (λ k. k + 1) (parts-with_mine T)
    parts-with_mine (TOpt T) = ap (λ k. k + 1) (parts-with_mine T)
    parts-with_mine (TFun T U) = ap (λ k. k + node_count (with_mine (TAbs n) U) + 1) (parts-with_mine T) ∙ ap (λ k. node_count T + k + 1) (parts-with_mine U)
    parts-with_mine (TAbs m t) = refl
    parts-with_mine (TMine t) = refl

    all_parts-with_mine : (Ts : Typs) → parts_of_all (all_with_mine (TAbs n) Ts) ≡ parts_of_all Ts
    all_parts-with_mine no_types = refl
    all_parts-with_mine (typ T Ts) = ap (λ k. k + parts_of_all (all_with_mine (TAbs n) Ts)) (parts-with_mine T) ∙ ap (λ k. node_count T + k) (all_parts-with_mine Ts)

  mutual
    height-with_mine : (T : Typ) → height (with_mine (TAbs n) T) ≡ height T
    height-with_mine TInt = refl
    height-with_mine TBool = refl
    height-with_mine TStr = refl
    height-with_mine TUnit = refl
    height-with_mine TExn = refl
    height-with_mine (TTuple Ts) = ap (λ k. k + 1) (all_height-with_mine Ts)
    height-with_mine (TList T) = ap (λ k. k + 1) (height-with_mine T)
    height-with_mine (TOpt T) = ap (λ k. k + 1) (height-with_mine T)
    height-with_mine (TFun T U) = ap (λ k. max k (height (with_mine (TAbs n) U)) + 1) (height-with_mine T) ∙ ap (λ k. max (height T) k + 1) (height-with_mine U)
    height-with_mine (TAbs m t) = refl
    height-with_mine (TMine t) = refl

    all_height-with_mine : (Ts : Typs) → height_of_all (all_with_mine (TAbs n) Ts) ≡ height_of_all Ts
    all_height-with_mine no_types = refl
    all_height-with_mine (typ T Ts) = ap (λ k. max k (height_of_all (all_with_mine (TAbs n) Ts))) (height-with_mine T) ∙ ap (λ k. max (height T) k) (all_height-with_mine Ts)

  pub size_of-with_mine : (T : Typ) → size_of (with_mine (TAbs n) T) ≡ size_of T
  size_of-with_mine T = cuts (node_count (with_mine (TAbs n) T)) (node_count T) (height (with_mine (TAbs n) T)) (height T) (parts-with_mine T) (height-with_mine T)
