-- Types as a home sees them: what is known, compared and built part by part.
use Rattle.std.proofs.Common.{ℕ, ◌≡◌, ◌+◌, ◌<◌, refl, sym, ap, ap₂, ◌∙◌, subst, Bool, true, false, ◌&&◌, List, [], ◌∷◌, ◌++◌, length, map, get_or, take, Option, Some, None}
use Rattle.std.specs.Prelude.{Result, Ok, Err, IfOk}
use Rattle.std.proofs.lemmas.List.{map-append, take_more}
use Rattle.std.proofs.lemmas.List.Folds.{list_all-append}
use Rattle.ac_types.specs.Types.{Bytes, Typ, TFun, TAbs, typ, typs, with_each, all_with_each, with_mine, all_with_mine, mentions}
use Rattle.ac_types.specs.Partial.{agree, has}
use Rattle.ac_types.specs.ReadTypes.{typ_of}
use Rattle.ac_types.specs.declared.text.Name.{Name}
use Rattle.ac_types.specs.declared.memory.Memory.{Memory}
use Rattle.ac_types.specs.declared.ty.Ty.{Ty, out-Ty}
use Rattle.ac_types.specs.declared.ty.Ty.TheOpen.{Ty-F}
use Rattle.ac_types.specs.declared.ty.Ty.TheVariants as ty
use Rattle.ac_types.proofs.SizeLaws.{type_laws}
use Rattle.ac_terms.specs.Defs.{Environment}
use Rattle.ac_rules.specs.Views.{is_known, are_known}
use Rattle.ac_check_views.specs.Sites.{typs_of}
use Rattle.ac_check_views.proofs.ReadAs.{layer, read_as}
use Rattle.ac_check_views.proofs.Equalities.{same_either_way}

-- known names

pub known_fun : (E : Environment) (T U : Typ) → are_known E (TFun T U) ≡ (are_known E T && are_known E U)
known_fun E T U = list_all-append (is_known E) (mentions T) (mentions U)

and_true : (b : Bool) → (b && true) ≡ b
and_true true = refl
and_true false = refl

pub known_one : (E : Environment) (n t : Bytes) → are_known E (TAbs n t) ≡ is_known E (n, t)
known_one E n t = and_true (is_known E (n, t))

pub known_as : (E : Environment) (t u : Ty) (x : Ty-F Ty) → t ≡ u → out-Ty u ≡ x → are_known E (layer x) ≡ are_known E (typ_of t)
known_as E t u x is e = ap (are_known E) (sym (read_as t u x is e))

pub known_ends : (E : Environment) (t u v : Ty) → t ≡ ty.Fun u v → (are_known E (typ_of u) && are_known E (typ_of v)) ≡ are_known E (typ_of t)
known_ends E t u v is = sym (known_fun E (typ_of u) (typ_of v)) ∙ known_as E t _ _ is (ty.outs-Fun u v)

pub known_name : (E : Environment) (t : Ty) (n : Name) (w : Bytes) → t ≡ ty.Abs n w → is_known E (n.0, w) ≡ are_known E (typ_of t)
known_name E t n w is = sym (known_one E n.0 w) ∙ known_as E t _ _ is (ty.outs-Abs n w)

pub ruleset known_laws = (type_laws, known_fun, known_one)

-- the views of a list's types
pub views : (f : Bytes → Bytes → Typ) (ts : List Ty) → all_with_each f (typs_of ts) ≡ typs (map (λ t. with_each f (typ_of t)) ts)
views f [] = refl
views f (t ∷ ts) = ap (typ (with_each f (typ_of t))) (views f ts)

-- the types of a list as they are from outside
pub outsides : (f : Bytes → Typ) (ts : List Ty) → all_with_mine f (typs_of ts) ≡ typs (map (λ t. with_mine f (typ_of t)) ts)
outsides f [] = refl
outsides f (t ∷ ts) = ap (typ (with_mine f (typ_of t))) (outsides f ts)

-- a list that is made of another, type by type
all_taken : {A : Type 0} (xs : List A) → take (length xs) xs ≡ xs
all_taken [] = refl
all_taken (x ∷ xs) = ap (λ ys. x ∷ ys) (all_taken xs)

module _ (f : Typ → Typ) where
  pub one_more : (found more ts : List Ty) (i : ℕ) (t u : Ty) → map typ_of found ≡ map (λ (x : Ty). f (typ_of x)) (take i ts) → i < length ts → t ≡ get_or ts i t
      → typ_of u ≡ f (typ_of t) → more ≡ found ++ u ∷ [] → map typ_of more ≡ map (λ (x : Ty). f (typ_of x)) (take (i + 1) ts)
  one_more found more ts i t u h l is e pushed =
      ap (map typ_of) pushed ∙ map-append typ_of found (u ∷ []) ∙ ap₂ (λ (xs ys : List Typ). xs ++ ys) h (ap (λ (T : Typ). T ∷ []) e)
      ∙ sym (ap (map (λ (x : Ty). f (typ_of x))) (take_more ts i t l ∙ ap (λ (x : Ty). take i ts ++ x ∷ []) (sym is)) ∙ map-append (λ (x : Ty). f (typ_of x)) (take i ts) (t ∷ []))

  pub all_of_them : (found ts : List Ty) (i : ℕ) → i ≡ length ts → map typ_of found ≡ map (λ (x : Ty). f (typ_of x)) (take i ts) → map typ_of found ≡ map (λ (x : Ty). f (typ_of x)) ts
  all_of_them found ts i e h = h ∙ ap (λ (n : ℕ). map (λ (x : Ty). f (typ_of x)) (take n ts)) e ∙ ap (map (λ (x : Ty). f (typ_of x))) (all_taken ts)

-- whether what is there is what is seen
pub agree_has : (T : Typ) (o : Option Typ) → agree (Some T) o ≡ has o T
agree_has T None = refl
agree_has T (Some U) = same_either_way T U

-- a copy of a type that is this one
pub copied : (r : Result Ty Memory) (t : Ty) (X : Typ) → typ_of t ≡ X → IfOk r (λ c. c ≡ t) → IfOk r (λ c. typ_of c ≡ X)
copied (Ok c) t X e h = ap typ_of h ∙ e
copied (Err m) t X e h = h

-- the same answer, of an equal type
pub carry : (r : Result Ty Memory) (x y : Typ) → x ≡ y → IfOk r (λ t. typ_of t ≡ x) → IfOk r (λ t. typ_of t ≡ y)
carry r x y e h = subst (λ (z : Typ). IfOk r (λ t. typ_of t ≡ z)) e h

-- what is known of an answer, where it is this type
pub from_ok : (r : Result Ty Memory) (t : Ty) (X : Typ) → r ≡ Ok t → IfOk r (λ u. typ_of u ≡ X) → typ_of t ≡ X
from_ok r t X e h = subst (λ (s : Result Ty Memory). IfOk s (λ u. typ_of u ≡ X)) e h
