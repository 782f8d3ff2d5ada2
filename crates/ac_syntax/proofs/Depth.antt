-- Where too many openers are unclosed, found from the front.
use Rattle.std.proofs.Common.{◌≡◌, ◌≤◌, ◌<◌, ◌+◌, ℕ, suc, length, get_or, drop, List, [], ◌∷◌, ◌++◌, refl, sym, ◌∙◌, ap, subst, arith, Option, Some, None}
use Rattle.ac_syntax.specs.Signs.{Sign, sign_place, fixed, symbol_of, sign_at, sign_of, signs}
use Rattle.ac_syntax.specs.declared.sign.Symbol.{Symbol}
use Rattle.ac_lexer.specs.declared.tokens.Token.{Token}
use Rattle.ac_lexer.specs.declared.tokens.TokenKind.{TokenKind}
use Rattle.ac_lexer.specs.declared.tokens.TokenKind.TheVariants as kind
use Rattle.std.proofs.Math.Seq.{drop-cons}
use Rattle.std.proofs.Math.ListN.{drop_of_length-le}
use Rattle.ac_syntax.specs.Openers.{open_after, unclosed, IsShallow, IsDeep}

-- with n openers unclosed before
pub data Deep : ℕ → List Sign → Option ℕ → Type 0 where
  end : {n : ℕ} → Deep n [] None
  here : {n : ℕ} {t : Sign} {ts : List Sign} → 201 ≤ open_after n t → Deep n (t ∷ ts) (Some (sign_place t))
  later : {n : ℕ} {t : Sign} {ts : List Sign} {o : Option ℕ} → open_after n t ≤ 200 → Deep (open_after n t) ts o → Deep n (t ∷ ts) o

pub head_eq : {x y : Sign} {r s : List Sign} → x ∷ r ≡ y ∷ s → x ≡ y
head_eq e = cc

tail_eq : {x y : Sign} {r s : List Sign} → x ∷ r ≡ y ∷ s → r ≡ s
tail_eq e = cc

nothing_is_no_sign : {P : Type 0} {t : Sign} {ts : List Sign} → [] ≡ t ∷ ts → P
nothing_is_no_sign e = cc

pub shallow_from : (n : ℕ) (ts : List Sign) → n ≤ 200 → Deep n ts None → (front rest : List Sign) → ts ≡ front ++ rest → unclosed n front ≤ 200
shallow_from n ts h d [] rest is = h
shallow_from n [] h d (t ∷ front) rest is = nothing_is_no_sign is
shallow_from n (x ∷ ts) h (later low d) (t ∷ front) rest is =
    subst (λ (y : Sign). unclosed (open_after n y) front ≤ 200) (head_eq is) (shallow_from (open_after n x) ts low d front rest (tail_eq is))

record Found (n : ℕ) (ts : List Sign) (at : ℕ) : Type 0 where
  before : List Sign
  opener : Sign
  rest : List Sign
  split : ts ≡ before ++ opener ∷ rest
  shallow : (front behind : List Sign) → before ≡ front ++ behind → unclosed n front ≤ 200
  deep : 201 ≤ unclosed n (before ++ opener ∷ [])
  here : at ≡ sign_place opener

front_of_nothing : (n : ℕ) → n ≤ 200 → (front behind : List Sign) → [] ≡ front ++ behind → unclosed n front ≤ 200
front_of_nothing n h [] behind is = h
front_of_nothing n h (t ∷ front) behind is = nothing_is_no_sign is

front_of_more : (n : ℕ) (t : Sign) (before : List Sign) → n ≤ 200 → ((front behind : List Sign) → before ≡ front ++ behind → unclosed (open_after n t) front ≤ 200)
    → (front behind : List Sign) → t ∷ before ≡ front ++ behind → unclosed n front ≤ 200
front_of_more n t before h rest [] behind is = h
front_of_more n t before h rest (x ∷ front) behind is =
    subst (λ (y : Sign). unclosed (open_after n y) front ≤ 200) (head_eq is) (rest front behind (tail_eq is))

found : (n : ℕ) (ts : List Sign) (at : ℕ) → n ≤ 200 → Deep n ts (Some at) → Found n ts at
found n [] at h d = elim d [ ]
found n (t ∷ ts) at h (here deep) = record {
  before = [];
  opener = t;
  rest = ts;
  split = refl;
  shallow = front_of_nothing n h;
  deep = deep;
  here = refl;
}
found n (t ∷ ts) at h (later low d) =
    let f = found (open_after n t) ts at low d in
    record {
      before = t ∷ f.before;
      opener = f.opener;
      rest = f.rest;
      split = ap (λ (l : List Sign). t ∷ l) f.split;
      shallow = front_of_more n t f.before h f.shallow;
      deep = f.deep;
      here = f.here;
    }

pub deep_at : (ts : List Sign) (at : ℕ) → Deep 0 ts (Some at) → IsDeep ts at
deep_at ts at d =
    let f = found 0 ts at (omega arith) d in
    record { before = f.before; opener = f.opener; rest = f.rest; split = f.split; shallow = f.shallow; deep = f.deep; here = f.here }

pub shallow_all : (ts : List Sign) → Deep 0 ts None → IsShallow ts
shallow_all ts d = shallow_from 0 ts (omega arith) d

fixed_place : (at : ℕ) (o : Option Symbol) → sign_place (fixed at o) ≡ at
fixed_place at (Some s) = refl
fixed_place at None = refl

place_at : (at : ℕ) (k : TokenKind) → sign_place (sign_at at k) ≡ at
place_at at (kind.Int n) = refl
place_at at (kind.Str x) = refl
place_at at (kind.Lower w) = refl
place_at at (kind.Upper w) = refl
place_at at (kind.Fixed x) = fixed_place at (symbol_of x.0)

place_of : (t : Token) → sign_place (sign_of t) ≡ t.at
place_of t = place_at t.at t.kind

-- a pass over tokens from the front
module _ (tokens : List Token) (i n : ℕ) (back : (o : Option ℕ) → Deep n (signs (drop i tokens)) o → Deep 0 (signs tokens) o) where
  signs_left : (t : Token) → i < length tokens → t ≡ get_or tokens i t → signs (drop i tokens) ≡ sign_of t ∷ signs (drop (i + 1) tokens)
  signs_left t h is =
      let next : suc i ≡ i + 1 = omega arith in
      ap signs (drop-cons tokens i t h) ∙ ap (λ (x : Token). sign_of x ∷ signs (drop (suc i) tokens)) (sym is) ∙ ap (λ (j : ℕ). sign_of t ∷ signs (drop j tokens)) next

  at_left : (t : Token) (o : Option ℕ) → i < length tokens → t ≡ get_or tokens i t → Deep n (sign_of t ∷ signs (drop (i + 1) tokens)) o → Deep 0 (signs tokens) o
  at_left t o h is d = back o (subst (λ (l : List Sign). Deep n l o) (sym (signs_left t h is)) d)

  pub found_at : (t : Token) (m : ℕ) → i < length tokens → t ≡ get_or tokens i t → m ≡ open_after n (sign_of t) → 200 < m → IsDeep (signs tokens) t.at
  found_at t m h is same deep = deep_at (signs tokens) t.at (at_left t (Some t.at) h is (subst (λ (p : ℕ). Deep n (sign_of t ∷ signs (drop (i + 1) tokens)) (Some p)) (place_of t) (here (omega arith))))

  pub next_token : (t : Token) (m : ℕ) → i < length tokens → t ≡ get_or tokens i t → m ≡ open_after n (sign_of t) → m ≤ 200 → (o : Option ℕ) → Deep m (signs (drop (i + 1) tokens)) o → Deep 0 (signs tokens) o
  next_token t m h is same low o d = at_left t o h is (later (omega arith) (subst (λ (k : ℕ). Deep k (signs (drop (i + 1) tokens)) o) same d))

  pub passed : length tokens ≤ i → IsShallow (signs tokens)
  passed h = shallow_all (signs tokens) (back None (subst (λ (l : List Sign). Deep n l None) (sym (ap signs (drop_of_length-le tokens h))) end))
