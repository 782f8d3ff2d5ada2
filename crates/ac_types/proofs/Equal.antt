-- Where two types are equal, and lists of types of unlike lengths.
use Rattle.std.proofs.Common.{◌≡◌, refl, sym, ap, ◌∙◌, suc, Bool, true, false, ◌&&◌, List, [], ◌∷◌, length, map}
use Rattle.std.specs.Prelude.{IsTrue, ◌↔◌}
use mathlib.Core.Bool.{true≢false}
use Rattle.ac_types.specs.Types.{Bytes, Typ, same, same_all, same_bytes, typs, with_mine, all_with_mine}
use Rattle.ac_types.specs.ReadTypes.{typ_of}
use Rattle.ac_types.specs.declared.text.Name.{Name}
use Rattle.ac_types.specs.declared.ty.Ty.{Ty, out-Ty}
use Rattle.ac_types.specs.declared.ty.Ty.TheOpen as code_ty
use Rattle.ac_types.specs.declared.ty.Ty.TheVariants.{Tuple, List as ListOf, Opt, Fun, Abs, Mine, outs-Tuple, outs-List, outs-Opt, outs-Fun, outs-Abs, outs-Mine}
use Rattle.ac_types.proofs.Same.{same_eq, same_refl, bytes_eq, bytes_refl}
use Rattle.ac_types.proofs.TypeReading.{typ_of-injective}

-- what is equal exactly where the types are is the test of the types
pub equal_is_same : (r : Bool) (a b : Ty) → (IsTrue r ↔ (a ≡ b)) → r ≡ same (typ_of a) (typ_of b)
equal_is_same true a b e = sym (ap (λ x. same (typ_of a) (typ_of x)) (sym (e.0 refl)) ∙ same_refl (typ_of a))
equal_is_same false a b e = by (same (typ_of a) (typ_of b)) refl
  where
    by : (s : Bool) → same (typ_of a) (typ_of b) ≡ s → false ≡ s
    by false p = refl
    by true p = e.1 (typ_of-injective a b (same_eq (typ_of a) (typ_of b) p))

and_false : (b c : Bool) → c ≡ false → (b && c) ≡ false
and_false true c e = e
and_false false c e = refl

-- lists of unlike lengths are not the same, whatever the own types of the second stand for
pub unlike_lengths : (f : Bytes → Typ) (ts us : List Ty) → (length ts ≡ length us → ⊥) → same_all (typs (map typ_of ts)) (all_with_mine f (typs (map typ_of us))) ≡ false
unlike_lengths f [] [] h = absurd (h refl)
unlike_lengths f [] (u ∷ us) h = refl
unlike_lengths f (t ∷ ts) [] h = refl
unlike_lengths f (t ∷ ts) (u ∷ us) h =
    and_false (same (typ_of t) (with_mine f (typ_of u))) (same_all (typs (map typ_of ts)) (all_with_mine f (typs (map typ_of us)))) (unlike_lengths f ts us (λ e. h (ap suc e)))

-- a layer of a type says what it is made of
Tuple-parts : {xs ys : List Ty} → code_ty.Tuple xs ≡ code_ty.Tuple ys → xs ≡ ys
Tuple-parts p = cc

List-part : {x y : Ty} → code_ty.List x ≡ code_ty.List y → x ≡ y
List-part p = cc

Opt-part : {x y : Ty} → code_ty.Opt x ≡ code_ty.Opt y → x ≡ y
Opt-part p = cc

Fun-parts : {x y v w : Ty} → code_ty.Fun x v ≡ code_ty.Fun y w → (x ≡ y) × (v ≡ w)
Fun-parts p = (cc, cc)

Abs-parts : {n m : Name} {x y : Bytes} → ◌≡◌ {A = code_ty.Ty-F Ty} (code_ty.Abs n x) (code_ty.Abs m y) → (n ≡ m) × (x ≡ y)
Abs-parts p = (cc, cc)

Mine-part : {x y : Bytes} → ◌≡◌ {A = code_ty.Ty-F Ty} (code_ty.Mine x) (code_ty.Mine y) → x ≡ y
Mine-part p = cc

opened : {t u : Ty} {x y : code_ty.Ty-F Ty} → out-Ty t ≡ x → out-Ty u ≡ y → t ≡ u → x ≡ y
opened p q e = sym p ∙ ap out-Ty e ∙ q

-- what two types of one form are made of is equal where they are
pub Tuple-apart : (xs ys : List Ty) → Tuple xs ≡ Tuple ys → xs ≡ ys
Tuple-apart xs ys e = Tuple-parts (opened (outs-Tuple xs) (outs-Tuple ys) e)

pub List-apart : (x y : Ty) → ListOf x ≡ ListOf y → x ≡ y
List-apart x y e = List-part (opened (outs-List x) (outs-List y) e)

pub Opt-apart : (x y : Ty) → Opt x ≡ Opt y → x ≡ y
Opt-apart x y e = Opt-part (opened (outs-Opt x) (outs-Opt y) e)

pub Fun-apart : (x y v w : Ty) → Fun x v ≡ Fun y w → (x ≡ y) × (v ≡ w)
Fun-apart x y v w e = Fun-parts (opened (outs-Fun x v) (outs-Fun y w) e)

abbrev pub Named : Bytes → Bytes → Ty
Named n x = Abs (record { 0 = n }) x

pub Named-apart : (n m x y : Bytes) → Named n x ≡ Named m y → (n ≡ m) × (x ≡ y)
Named-apart n m x y e =
    let p = Abs-parts (opened (outs-Abs (record { 0 = n }) x) (outs-Abs (record { 0 = m }) y) e) in
    (ap (λ (z : Name). z.0) p.0, p.1)

pub Mine-apart : (x y : Bytes) → Mine x ≡ Mine y → x ≡ y
Mine-apart x y e = Mine-part (opened (outs-Mine x) (outs-Mine y) e)

pub bytes_decided : (a b : Bytes) {r : Bool} → r ≡ same_bytes a b → IsTrue r ↔ (a ≡ b)
bytes_decided a b e = (λ t. bytes_eq a b (sym e ∙ t), λ p. e ∙ ap (same_bytes a) (sym p) ∙ bytes_refl a)

-- when two values are equal, by what each is made of
module _ {A : Type 0} where
  pub alike : {a b x : A} → a ≡ x → b ≡ x → IsTrue true ↔ (a ≡ b)
  alike p q = (λ t. p ∙ sym q, λ e. refl)

  pub unlike : {a b x : A} → a ≡ x → (b ≡ x → ⊥) → IsTrue false ↔ (a ≡ b)
  unlike p other = (λ t. absurd (true≢false (sym t)), λ e. absurd (other (sym e ∙ p)))

  pub by_part : {P : Type 0} (f : P → A) (apart : (x y : P) → f x ≡ f y → x ≡ y) {a b : A} {x y s t : P} {r : Bool}
      → a ≡ f x → b ≡ f y → s ≡ x → t ≡ y → (IsTrue r ↔ (s ≡ t)) → IsTrue r ↔ (a ≡ b)
  by_part f apart {x = x} {y = y} p q m n h =
      (λ t. p ∙ ap f (sym m ∙ h.0 t ∙ n) ∙ sym q, λ e. h.1 (m ∙ apart x y (sym p ∙ e ∙ q) ∙ sym n))

  module _ {P Q : Type 0} (f : P → Q → A) (apart : (x y : P) (v w : Q) → f x v ≡ f y w → (x ≡ y) × (v ≡ w)) where
    pub by_first : {a b : A} {x y s t : P} {v w : Q} {r : Bool}
        → a ≡ f x v → b ≡ f y w → s ≡ x → t ≡ y → r ≡ false → (IsTrue r ↔ (s ≡ t)) → IsTrue r ↔ (a ≡ b)
    by_first {x = x} {y = y} {v = v} {w = w} p q m n fails h =
        (λ t. absurd (true≢false (sym t ∙ fails)), λ e. h.1 (m ∙ (apart x y v w (sym p ∙ e ∙ q)).0 ∙ sym n))

    pub by_second : {a b : A} {x y : P} {v w s t : Q} {r : Bool}
        → a ≡ f x v → b ≡ f y w → x ≡ y → s ≡ v → t ≡ w → (IsTrue r ↔ (s ≡ t)) → IsTrue r ↔ (a ≡ b)
    by_second {y = y} {v = v} p q e m n h = by_part (f y) (λ v w. λ e. (apart y y v w e).1) (p ∙ ap (λ z. f z v) e) q m n h
