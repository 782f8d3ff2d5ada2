-- A table to which code is added by the scheme has what the scheme says.
use Rattle.std.proofs.Common.{◌≡◌, ℕ, zero, suc, ◌+◌, ◌<◌, ◌≤◌, List, [], ◌∷◌, ◌++◌, length, Option, Some, None, refl, sym, ap, subst, arith, length-append}
use Rattle.std.specs.Prelude.{slice_get, reverse, option_map}
use Rattle.ac_types.specs.Types.{Typ, TFun}
use Rattle.ac_types.proofs.FirstLaws.{none≢some, some_eq}
use Rattle.ac_terms.specs.Parts.{pattern_types}
use Rattle.ac_terms.specs.Terms.{Home, In, Expr, ExnOf, Tuple, Present, Cons, Lam, Rec, App, Let, If, Seq, Match, Try, Raise, Prim, Marshal, Unmarshal, Val, Exprs, no_exprs, expr, Arms, no_arms, arm, PValue, KTuple, KList, KPresent, KFun, PValues, no_pvalues, pvalue}
use Rattle.ac_terms.specs.Defs.{Field}
use Rattle.ac_code.specs.Code.{Instr, Block, Code}
use Rattle.ac_generate.specs.Sizes.{lambdas, value_lambdas}
use Rattle.ac_generate.specs.Generate.{code as code_at, blocks, all_blocks, arm_blocks, value_blocks, all_value_blocks}
use Rattle.ac_generate.specs.Generated.{own_block, ending, term_blocks, generated, block_number, fields_generated, field_numbers}
use Rattle.ac_generate.proofs.SizeLaws.{block_count, value_block_count}
use Rattle.ac_machine_proof.specs.Source.{IsOfSource, AreSource, AreSourceArms, IsPacked, ArePacked}
use Rattle.ac_machine_proof.specs.Placed.{PlacedPart, HasCode, HasBody, HasLambda, IsCompiled, HasField}
use Rattle.ac_machine_proof.proofs.Placing.{part_all, part_cut}
use Rattle.ac_machine_meaning.proofs.Extended.{Ext, ext_on, ext_refl, got_left}

part_grows : {X : Type 0} (l ys : List X) (p : ℕ) (xs : List X) → PlacedPart l p xs → PlacedPart (l ++ ys) p xs
part_grows l ys p [] h = tt
part_grows l ys p (x ∷ xs) h = (got_left l ys p x h.0, part_grows l ys (suc p) xs h.1)

pub part_late : {X : Type 0} (l xs : List X) → PlacedPart (l ++ xs) (length l) xs
part_late l xs = let e : 0 + length l ≡ length l = omega arith in subst (λ n. PlacedPart (l ++ xs) n xs) e (part_cut (l ++ xs) 0 (length l) l xs refl (part_all (l ++ xs))).1

module _ (K L : Code) (ext : Ext K L) where
  stays : (p : ℕ) (xs : List Block) → PlacedPart K.blocks p xs → PlacedPart L.blocks p xs
  stays p xs h = subst (λ l. PlacedPart l p xs) (sym ext.1) (part_grows K.blocks ext.0 p xs h)

  pub term_stays : (c : Home) (e : Expr) (b : ℕ) → HasCode K c e b → HasCode L c e b
  term_stays c e b h = record { first = h.first; is = h.is; made = stays h.first (term_blocks c e h.first) h.made; source = h.source }

  body_stays : (c : Home) (G : List Typ) (e : Expr) (is : List Instr) → HasBody K c G e is → HasBody L c G e is
  body_stays c G e is h = record { first = h.first; code = h.code; made = stays h.first (blocks c G e h.first) h.made; source = h.source }

  lambda_stays : (c : Home) (o : Option Expr) (G : List Typ) (is : List Instr) → HasLambda K c o G is → HasLambda L c o G is
  lambda_stays c None G is h = tt
  lambda_stays c (Some (Lam T e)) G is h = body_stays c (T ∷ G) e is h
  lambda_stays c (Some (Rec T U e)) G is h = body_stays c (T ∷ TFun T U ∷ G) e is h
  lambda_stays c (Some _) G is h = absurd h

  pub field_stays : (j : ℕ) (o : Option Expr) (c : Option ℕ) → HasField K j o c → HasField L j o c
  field_stays j None c h = h
  field_stays j (Some e) None h = absurd h
  field_stays j (Some e) (Some b) h = term_stays (In j) e b h

-- each block of a lambda is as the scheme says
abbrev pub EachMade : Code → List Block → Type 0
EachMade K [] = Unit {0}
EachMade K (b ∷ bs) = HasLambda K b.home b.lambda b.context b.instrs × EachMade K bs

pub each_stays : (K L : Code) → Ext K L → (bs : List Block) → EachMade K bs → EachMade L bs
each_stays K L ext [] h = tt
each_stays K L ext (b ∷ bs) h = (lambda_stays K L ext b.home b.lambda b.context b.instrs h.0, each_stays K L ext bs h.1)

pub each2 : (K : Code) (bs cs : List Block) → EachMade K bs → EachMade K cs → EachMade K (bs ++ cs)
each2 K [] cs h k = k
each2 K (b ∷ bs) cs h k = (h.0, each2 K bs cs h.1 k)

pub each_at : (K : Code) (bs : List Block) (i : ℕ) → EachMade K bs → IsCompiled K (slice_get bs i)
each_at K [] i h = tt
each_at K (b ∷ bs) zero h = h.0
each_at K (b ∷ bs) (suc i) h = each_at K bs i h.1

pub each_from : (K : Code) (bs : List Block) → ((i : ℕ) → IsCompiled K (slice_get bs i)) → EachMade K bs
each_from K [] h = tt
each_from K (b ∷ bs) h = (h 0, each_from K bs (λ i. h (suc i)))

module _ (K : Code) where
  abbrev cut : (c : Home) (G : List Typ) (e : Expr) (n : ℕ) (rest : List Block) → PlacedPart K.blocks n (blocks c G e n ++ rest) → PlacedPart K.blocks n (blocks c G e n) × PlacedPart K.blocks (n + lambdas e) rest
  cut c G e n rest h = part_cut K.blocks n (lambdas e) (blocks c G e n) rest (block_count c G e n) h

  mutual
    made : (t : Expr) (c : Home) (G : List Typ) (n : ℕ) → IsOfSource t → PlacedPart K.blocks n (blocks c G t n) → EachMade K (blocks c G t n)
    made (ExnOf k t) c G n s m = made t c G n s.1 m
    made (Tuple ts) c G n s m = all_made ts c G n s m
    made (Present t) c G n s m = made t c G n s m
    made (Cons t u) c G n s m = let m1 = cut c G t n _ m in each2 K _ _ (made t c G n s.0 m1.0) (made u c G _ s.1 m1.1)
    made (Lam T t) c G n s m = let m1 = cut c (T ∷ G) t n _ m in each2 K _ _ (made t c (T ∷ G) n s m1.0) (record { first = n; code = refl; made = m1.0; source = s }, tt)
    made (Rec T U t) c G n s m = let m1 = cut c (T ∷ TFun T U ∷ G) t n _ m in each2 K _ _ (made t c (T ∷ TFun T U ∷ G) n s m1.0) (record { first = n; code = refl; made = m1.0; source = s }, tt)
    made (App t u) c G n s m = let m1 = cut c G t n _ m in each2 K _ _ (made t c G n s.0 m1.0) (made u c G _ s.1 m1.1)
    made (Let T t u) c G n s m = let m1 = cut c G t n _ m in each2 K _ _ (made t c G n s.0 m1.0) (made u c (T ∷ G) _ s.1 m1.1)
    made (If t u v) c G n s m =
        let m1 = cut c G t n _ m in
        let m2 = cut c G u (n + lambdas t) _ m1.1 in
        each2 K _ _ (made t c G n s.0 m1.0) (each2 K _ _ (made u c G _ s.1 m2.0) (made v c G _ s.2 m2.1))
    made (Seq ts) c G n s m = all_made ts c G n s m
    made (Match t arms) c G n s m = let m1 = cut c G t n _ m in each2 K _ _ (made t c G n s.0 m1.0) (arms_made arms c G _ s.1 m1.1)
    made (Try t arms) c G n s m = let m1 = cut c G t n _ m in each2 K _ _ (made t c G n s.0 m1.0) (arms_made arms c G _ s.1 m1.1)
    made (Raise T t) c G n s m = made t c G n s m
    made (Prim k ts) c G n s m = all_made ts c G n s m
    made (Marshal T t u) c G n s m = let m1 = cut c G t n _ m in each2 K _ _ (made t c G n s.0 m1.0) (made u c G _ s.1 m1.1)
    made (Unmarshal T t) c G n s m = made t c G n s m
    made (Val T v) c G n s m = value_made v n s m
    made _ c G n s m = tt

    all_made : (ts : Exprs) (c : Home) (G : List Typ) (n : ℕ) → AreSource ts → PlacedPart K.blocks n (all_blocks c G ts n) → EachMade K (all_blocks c G ts n)
    all_made no_exprs c G n s m = tt
    all_made (expr t ts) c G n s m = let m1 = cut c G t n _ m in each2 K _ _ (made t c G n s.0 m1.0) (all_made ts c G _ s.1 m1.1)

    arms_made : (arms : Arms) (c : Home) (G : List Typ) (n : ℕ) → AreSourceArms arms → PlacedPart K.blocks n (arm_blocks c G arms n) → EachMade K (arm_blocks c G arms n)
    arms_made no_arms c G n s m = tt
    arms_made (arm q t rest) c G n s m = let m1 = cut c (reverse (pattern_types q) ++ G) t n _ m in each2 K _ _ (made t c _ n s.0 m1.0) (arms_made rest c G _ s.1 m1.1)

    pub value_made : (v : PValue) (n : ℕ) → IsPacked v → PlacedPart K.blocks n (value_blocks v n) → EachMade K (value_blocks v n)
    value_made (KTuple vs) n s m = all_values_made vs n s m
    value_made (KList vs) n s m = all_values_made vs n s m
    value_made (KPresent v) n s m = value_made v n s m
    value_made (KFun c (Lam T t)) n s m = let m1 = cut c (T ∷ []) t n _ m in each2 K _ _ (made t c (T ∷ []) n s m1.0) (record { first = n; code = refl; made = m1.0; source = s }, tt)
    value_made (KFun c (Rec T U t)) n s m = let m1 = cut c (T ∷ TFun T U ∷ []) t n _ m in each2 K _ _ (made t c (T ∷ TFun T U ∷ []) n s m1.0) (record { first = n; code = refl; made = m1.0; source = s }, tt)
    value_made _ n s m = tt

    all_values_made : (vs : PValues) (n : ℕ) → ArePacked vs → PlacedPart K.blocks n (all_value_blocks vs n) → EachMade K (all_value_blocks vs n)
    all_values_made no_pvalues n s m = tt
    all_values_made (pvalue v vs) n s m = let m1 = part_cut K.blocks n (value_lambdas v) (value_blocks v n) _ (value_block_count v n) m in each2 K _ _ (value_made v n s.0 m1.0) (all_values_made vs _ s.1 m1.1)

-- a term's code is added
module _ (c : Home) (e : Expr) (K : Code) where
  pub generated_ext : Ext K (generated c e K)
  generated_ext = (term_blocks c e (length K.blocks), refl)

  pub generated_has : IsOfSource e → HasCode (generated c e K) c e (block_number e K)
  generated_has s = record { first = length K.blocks; is = refl; made = part_late K.blocks (term_blocks c e (length K.blocks)); source = s }

  pub generated_made : IsOfSource e → EachMade K K.blocks → EachMade (generated c e K) (generated c e K).blocks
  generated_made s h =
      let n = length K.blocks in
      let L = generated c e K in
      let m = cut L c [] e n _ (part_late K.blocks (term_blocks c e n)) in
      each2 L K.blocks (term_blocks c e n) (each_stays K L generated_ext K.blocks h) (each2 L (blocks c [] e n) _ (made L e c [] n s m.0) (tt, tt))

  pub generated_count : length (generated c e K).blocks ≡ suc (block_number e K)
  generated_count =
      let n = length K.blocks in
      let a = length-append K.blocks (term_blocks c e n) in
      let b = length-append (blocks c [] e n) (own_block c (code_at e 0 n ++ ending c ∷ []) ∷ []) in
      let d = block_count c [] e n in
      omega (arith, a, b, d)

abbrev pub SourceField : Option Expr → Type 0
SourceField None = Unit {0}
SourceField (Some e) = IsOfSource e

abbrev pub term_at : List Field → ℕ → Option Expr
term_at fs f = option_map (λ (x : Field). x.term) (slice_get fs f)

-- the code of some fields of a home is added
pub record FieldsMade (j : ℕ) (fs : List Field) (K : Code) : Type 0 where
  pub ext : Ext K (fields_generated (In j) fs K)
  pub made : EachMade (fields_generated (In j) fs K) (fields_generated (In j) fs K).blocks
  pub has : (f : ℕ) → HasField (fields_generated (In j) fs K) j (term_at fs f) (slice_get (field_numbers (In j) fs K) f)

pub fields_made : (j : ℕ) (fs : List Field) (K : Code) → ((f : ℕ) → SourceField (term_at fs f)) → EachMade K K.blocks → FieldsMade j fs K
fields_made j [] K s h = record { ext = ext_refl K; made = h; has = λ f. refl }
fields_made j (x ∷ xs) K s h =
    let L = generated (In j) x.term K in
    let rest = fields_made j xs L (λ f. s (suc f)) (generated_made (In j) x.term K (s 0) h) in
    record { ext = ext_on K L (fields_generated (In j) xs L) (generated_ext (In j) x.term K) rest.ext; made = rest.made; has = has rest }
  where
    has : FieldsMade j xs (generated (In j) x.term K) → (f : ℕ) → HasField (fields_generated (In j) (x ∷ xs) K) j (term_at (x ∷ xs) f) (slice_get (field_numbers (In j) (x ∷ xs) K) f)
    has rest zero = term_stays (generated (In j) x.term K) (fields_generated (In j) xs (generated (In j) x.term K)) rest.ext (In j) x.term (block_number x.term K) (generated_has (In j) x.term K (s 0))
    has rest (suc f) = rest.has f

-- the numbers of new fields are new, and each is another
ext_count : (K L : Code) → Ext K L → length K.blocks ≤ length L.blocks
ext_count K L ext = let a = ap length ext.1 in let b = length-append K.blocks ext.0 in omega (arith, a, b)

pub fields_ext : (c : Home) (fs : List Field) (K : Code) → Ext K (fields_generated c fs K)
fields_ext c [] K = ext_refl K
fields_ext c (x ∷ xs) K = ext_on K (generated c x.term K) (fields_generated c xs (generated c x.term K)) (generated_ext c x.term K) (fields_ext c xs (generated c x.term K))

pub numbers_new : (c : Home) (fs : List Field) (K : Code) (f b : ℕ) → slice_get (field_numbers c fs K) f ≡ Some b → (length K.blocks ≤ b) × (b < length (fields_generated c fs K).blocks)
numbers_new c [] K f b e = absurd (none≢some e)
numbers_new c (x ∷ xs) K zero b e =
    let L = generated c x.term K in
    let is : block_number x.term K ≡ b = some_eq e in
    let a = generated_count c x.term K in
    let d = ext_count L (fields_generated c xs L) (fields_ext c xs L) in
    (omega (arith, is), omega (arith, is, a, d))
numbers_new c (x ∷ xs) K (suc f) b e =
    let h = numbers_new c xs (generated c x.term K) f b e in
    let a = generated_count c x.term K in
    (omega (arith, a, h.0), h.1)

pub numbers_own : (c : Home) (fs : List Field) (K : Code) (f g b : ℕ) → slice_get (field_numbers c fs K) f ≡ Some b → slice_get (field_numbers c fs K) g ≡ Some b → f ≡ g
numbers_own c [] K f g b e d = absurd (none≢some e)
numbers_own c (x ∷ xs) K zero zero b e d = refl
numbers_own c (x ∷ xs) K zero (suc g) b e d =
    let h = (numbers_new c xs (generated c x.term K) g b d).0 in
    let is : block_number x.term K ≡ b = some_eq e in
    let a = generated_count c x.term K in
    absurd (omega (arith, h, is, a))
numbers_own c (x ∷ xs) K (suc f) zero b e d =
    let h = (numbers_new c xs (generated c x.term K) f b e).0 in
    let is : block_number x.term K ≡ b = some_eq d in
    let a = generated_count c x.term K in
    absurd (omega (arith, h, is, a))
numbers_own c (x ∷ xs) K (suc f) (suc g) b e d = ap suc (numbers_own c xs (generated c x.term K) f g b e d)
