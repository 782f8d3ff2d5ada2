-- How answers of readers follow from those of their parts.
use Rattle.std.proofs.Common.{◌≡◌, refl, sym, ap, subst, ◌∙◌, Option, Some, None}
use Rattle.std.specs.Prelude.{option_and_then, option_map, MatchResult, Result, Ok, Err}
use Rattle.ac_types.specs.Types.{Bytes}
use Rattle.ac_terms.specs.PacketReading.{ReadsPart, one, two_parts_read, three, pair}
use Rattle.ac_decode_pieces.specs.declared.fault.PieceFault.{PieceFault}
use Rattle.ac_decode_pieces.specs.declared.fault.PieceFault.TheVariants as fault
use Rattle.ac_decode_pieces.specs.Readers.{NoneRead, ReadsAs, MadeOfRead}

abbrev with_made : {A B : Type 0} → (A → B) → A × Bytes → B × Bytes
with_made c p = (c p.0, p.1)

-- what reads the same is refused alike, and answers alike
pub refused_by : {A : Type 0} {a b : Option A} (e : PieceFault) → a ≡ b → NoneRead e b → NoneRead e a
refused_by e is r = subst (NoneRead e) (sym is) r

pub answered_by : {X A : Type 0} (view : X → A) (r : Result X PieceFault) (left : Bytes) {a b : Option (A × Bytes)} → a ≡ b → ReadsAs view r b left → ReadsAs view r a left
answered_by view r left is p = subst (λ o. ReadsAs view r o left) (sym is) p

-- where nothing is read, nothing is made of it
pub refused_one : {A B : Type 0} (c : A → B) (o : Option (A × Bytes)) (e : PieceFault) → NoneRead e o → NoneRead e (option_map (with_made c) o)
refused_one c o (fault.Misfit at) r = ap (option_map (with_made c)) r
refused_one c o fault.Short r = ap (option_map (with_made c)) r
refused_one c o fault.Memory r = tt

pub made : {X Y A B : Type 0} (view : X → A) (seen : Y → B) (c : A → B) (r : Result X PieceFault) (r' : Result Y PieceFault) (o : Option (A × Bytes)) (left : Bytes) →
    ReadsAs view r o left → MadeOfRead view seen c r r' → ReadsAs seen r' (option_map (with_made c) o) left
made view seen c (Ok x) (Ok y) o left a m = ap (option_map (with_made c)) a ∙ ap (λ z. Some (z, left)) (sym m)
made view seen c (Err e) (Err f) o left a m = subst (λ d. NoneRead d (option_map (with_made c) o)) (sym m) (refused_one c o e a)
made view seen c (Ok x) (Err f) o left a m = absurd m
made view seen c (Err e) (Ok y) o left a m = absurd m

-- two things and three, as a pair
module _ {A B C : Type 0} (c : A → B → C) (f : ReadsPart A) (g : ReadsPart B) where
  second_paired : (a : A) (o : Option (B × Bytes)) → option_map (with_made (c a)) o ≡ option_map (with_made (λ (p : A × B). c p.0 p.1)) (option_map (with_made (λ b. (a, b))) o)
  second_paired a None = refl
  second_paired a (Some p) = refl

  first_paired : (o : Option (A × Bytes)) → option_and_then (λ p. one (c p.0) g p.1) o ≡ option_map (with_made (λ (p : A × B). c p.0 p.1)) (option_and_then (λ p. one (λ b. (p.0, b)) g p.1) o)
  first_paired None = refl
  first_paired (Some p) = second_paired p.0 (g p.1)

  pub paired : (bs : Bytes) → two_parts_read c f g bs ≡ option_map (with_made (λ (p : A × B). c p.0 p.1)) (pair f g bs)
  paired bs = first_paired (f bs)

module _ {A B C D : Type 0} (c : A → B → C → D) (f : ReadsPart A) (g : ReadsPart B) (h : ReadsPart C) where
  rest_tripled : (a : A) (o : Option ((B × C) × Bytes)) → option_map (with_made (λ (p : B × C). c a p.0 p.1)) o ≡ option_map (with_made (λ (p : A × (B × C)). c p.0 p.1.0 p.1.1)) (option_map (with_made (λ (q : B × C). (a, q))) o)
  rest_tripled a None = refl
  rest_tripled a (Some p) = refl

  first_tripled : (o : Option (A × Bytes)) → option_and_then (λ p. two_parts_read (c p.0) g h p.1) o ≡ option_map (with_made (λ (p : A × (B × C)). c p.0 p.1.0 p.1.1)) (option_and_then (λ p. one (λ q. (p.0, q)) (pair g h) p.1) o)
  first_tripled None = refl
  first_tripled (Some p) = paired (c p.0) g h p.1 ∙ rest_tripled p.0 (pair g h p.1)

  pub tripled : (bs : Bytes) → three c f g h bs ≡ option_map (with_made (λ (p : A × (B × C)). c p.0 p.1.0 p.1.1)) (pair f (pair g h) bs)
  tripled bs = first_tripled (f bs)

-- one thing, and another behind it
pub refused_first : {A B : Type 0} (f : ReadsPart A) (g : ReadsPart B) (bs : Bytes) (e : PieceFault) → NoneRead e (f bs) → NoneRead e (pair f g bs)
refused_first f g bs (fault.Misfit at) r = ap (option_and_then (λ p. one (λ b. (p.0, b)) g p.1)) r
refused_first f g bs fault.Short r = ap (option_and_then (λ p. one (λ b. (p.0, b)) g p.1)) r
refused_first f g bs fault.Memory r = tt

pub second_read : {A B : Type 0} (f : ReadsPart A) (g : ReadsPart B) (bs : Bytes) (a : A) (mid : Bytes) → f bs ≡ Some (a, mid) → pair f g bs ≡ option_map (with_made (λ b. (a, b))) (g mid)
second_read f g bs a mid e = ap (option_and_then (λ p. one (λ b. (p.0, b)) g p.1)) e

-- what was read first, joined with what is read behind it
abbrev pub Joined : {X Y : Type 0} → X → Result Y PieceFault → Result (X × Y) PieceFault → Type 0
Joined x r s = MatchResult s (λ p. (r ≡ Ok p.1) × (p.0 ≡ x)) (λ e. r ≡ Err e)

joined_makes : {X Y A B : Type 0} (view : X → A) (seen : Y → B) (x : X) (r : Result Y PieceFault) (s : Result (X × Y) PieceFault) → Joined x r s → MadeOfRead {B = A × B} seen (λ (p : X × Y). (view p.0, seen p.1)) (λ b. (view x, b)) r s
joined_makes {X} {Y} {A} {B} view seen x r (Ok p) j = subst (λ q. MadeOfRead {B = A × B} seen (λ (z : X × Y). (view z.0, seen z.1)) (λ b. (view x, b)) q (Ok p)) (sym j.0) (ap (λ z. (view z, seen p.1)) j.1)
joined_makes {X} {Y} {A} {B} view seen x r (Err e) j = subst (λ q. MadeOfRead {B = A × B} seen (λ (z : X × Y). (view z.0, seen z.1)) (λ b. (view x, b)) q (Err e)) (sym j) refl

pub joined_read : {X Y A B : Type 0} (view : X → A) (seen : Y → B) (f : ReadsPart A) (g : ReadsPart B) (bs mid left : Bytes) (x : X) (r : Result Y PieceFault) (s : Result (X × Y) PieceFault) →
    f bs ≡ Some (view x, mid) → ReadsAs seen r (g mid) left → Joined x r s → ReadsAs (λ (p : X × Y). (view p.0, seen p.1)) s (pair f g bs) left
joined_read {X} {Y} view seen f g bs mid left x r s e a j =
    answered_by (λ (p : X × Y). (view p.0, seen p.1)) s left (second_read f g bs (view x) mid e) (made seen (λ (p : X × Y). (view p.0, seen p.1)) (λ b. (view x, b)) r s (g mid) left a (joined_makes view seen x r s j))
