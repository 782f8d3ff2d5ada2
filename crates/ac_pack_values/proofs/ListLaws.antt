-- Lists, as they are packed.
use Rattle.std.proofs.Common.{◌≡◌, refl, sym, ap, ap₂, ◌∙◌, subst, ℕ, zero, suc, ◌+◌, ◌<◌, Bool, true, false, List, [], ◌∷◌, ◌++◌, length, map, Option, Some, None, Result, arith}
use Rattle.std.specs.Prelude.{option_map, pos, slice_get, IsSome}
use Rattle.ac_types.specs.Types.{Typ, TInt}
use Rattle.ac_types.specs.declared.ty.Ty.{Ty}
use Rattle.ac_terms.specs.Terms.{Home, Main, Expr, Int, App, Lam, Rec, PValue, KList, KTuple, KPresent, KFun, PValues, no_pvalues, pvalue, pvalues}
use Rattle.ac_terms.specs.Defs.{Environment}
use Rattle.ac_terms.specs.Parts.{all_value_parts}
use Rattle.ac_terms.specs.Spelling.{one_written, two_written, four_written, value_count}
use Rattle.ac_terms.specs.Heads.{Head, next_head, value_heads}
use Rattle.ac_terms.specs.Renumbered.{values_renumbered}
use Rattle.ac_terms.specs.Read.{value_of}
use Rattle.ac_terms.specs.declared.term.PVal.{PVal}
use Rattle.ac_terms.specs.Tags.{value_tuple, value_list}
use Rattle.ac_rules.specs.Views.{head}
use Rattle.ac_rules.specs.Typing.{tuple_parts, list_item, option_item}
use Rattle.ac_rules.specs.Plain.{stays, where_there, in_front, may_travel, travelling}
use Rattle.ac_code.specs.Code.{Block, Code}
use Rattle.ac_pack_heads.specs.declared.stop.Stop.{Stop}
use Rattle.ac_values.specs.Values.{MValue, MStr, MExnOf, MTuple, MNil, MCons, MPresent, MClosure, MEnd, MMore, values_at}
use Rattle.ac_values.specs.ValueReaders.{cons_in}
use Rattle.ac_values.specs.declared.node.Value.{Value}
use Rattle.ac_meaning.specs.BareTerms.{bare_term, unpacked, all_unpacked, unpacked_list}
use Rattle.ac_meaning.specs.BareReduction.{BareWritten, inst}
use Rattle.ac_meaning.specs.BarePacking.{bare_packed, bare_all_packed, bare_packed_term}
use Rattle.ac_machine_meaning.specs.Stands.{senseless, exception_with, closed, closure_of, stands, all_stand, environment_values}
use Rattle.ac_check_views.specs.Sites.{typs_of}
use Rattle.ac_pack_terms.specs.Items.{items_packed, items_held}
use Rattle.ac_pack_terms.specs.Pieces.{number_at, spoken_at, values_written}
use Rattle.ac_pack_terms.specs.inner.Goes.{Visits, VisitsValue}
use Rattle.ac_pack_terms.specs.declared.walk.Walk.{Walk}
use Rattle.ac_pack_terms.proofs.WalkLaws.{wants_memory, visits_same}
use Rattle.ac_pack_values.specs.inner.Forms.{items_counted, paired}

-- how many parts a tuple is packed with
pub paired_same : (m : ℕ) → m ≡ paired m m
paired_same zero = refl
paired_same (suc m) = ap suc (paired_same m)

pub paired_less : (m n : ℕ) → m < n → m + 1 ≡ paired m n
paired_less zero zero h = absurd (omega arith)
paired_less zero (suc n) h = refl
paired_less (suc m) zero h = absurd (omega arith)
paired_less (suc m) (suc n) h = let e : suc m + 1 ≡ suc (m + 1) = omega arith in e ∙ ap suc (paired_less m n (omega arith))

pub paired_more : (m n : ℕ) → n < m → n + 1 ≡ paired m n
paired_more zero zero h = absurd (omega arith)
paired_more zero (suc n) h = absurd (omega arith)
paired_more (suc m) zero h = refl
paired_more (suc m) (suc n) h = let e : suc n + 1 ≡ suc (n + 1) = omega arith in e ∙ ap suc (paired_more m n (omega arith))

none_further : (o : Option ℕ) → option_map suc o ≡ None → o ≡ None
none_further None e = refl
none_further (Some k) e = absurd cc

some_further : (o : Option ℕ) (n : ℕ) → option_map suc o ≡ Some n → (k : ℕ) × (o ≡ Some k) × (n ≡ suc k)
some_further None n e = absurd cc
some_further (Some k) n e = (k, refl, cc)

pub some_counted : (m : MValue) (n : ℕ) → IsSome (cons_in m) → items_counted m ≡ Some n → (k : ℕ) × (n ≡ suc k)
some_counted (MCons a b) n s c = let p = some_further (items_counted b) n c in (p.0, p.2)
some_counted m n s c = absurd cc

pub there_none : {A : Type 0} (o : Option A) (f : A → PValue) → o ≡ None → where_there o f ≡ stays
there_none None f e = refl
there_none (Some a) f e = absurd cc

pub there_some : {A : Type 0} (o : Option A) (a : A) (f : A → PValue) → o ≡ Some a → where_there o f ≡ f a
there_some o a f e = ap (λ x. where_there x f) e

-- so many items that can't travel
abbrev pub all_stay : ℕ → PValues
all_stay zero = no_pvalues
all_stay (suc n) = pvalue stays (all_stay n)

pub stay_counted : (f : ℕ → ℕ) (n : ℕ) → value_count (values_renumbered f (all_stay n)) ≡ n
stay_counted f zero = refl
stay_counted f (suc n) = ap suc (stay_counted f n)

module _ (E : Environment) where
  -- tuples
  pub parts_counted : (f : ℕ → ℕ) (vs : List PVal) (tys : List Ty) → paired (length vs) (length tys) ≡ value_count (values_renumbered f (bare_all_packed E (all_unpacked (pvalues (map value_of vs))) (typs_of tys)))
  parts_counted f [] [] = refl
  parts_counted f [] (T ∷ tys) = refl
  parts_counted f (v ∷ vs) [] = refl
  parts_counted f (v ∷ vs) (T ∷ tys) = ap suc (parts_counted f vs tys)

  pub held_parts_counted : (K : Code) (ts : List MValue) (f : ℕ → ℕ) (vs : List Value) (tys : List Ty) → paired (length vs) (length tys) ≡ value_count (values_renumbered f (bare_all_packed E (all_stand K (values_at ts vs)) (typs_of tys)))
  held_parts_counted K ts f [] [] = refl
  held_parts_counted K ts f [] (T ∷ tys) = refl
  held_parts_counted K ts f (v ∷ vs) [] = refl
  held_parts_counted K ts f (v ∷ vs) (T ∷ tys) = ap suc (held_parts_counted K ts f vs tys)

  -- lists of packed values
  pub listed : (vs : List PVal) (T U : Typ) → list_item (head E T) ≡ Some U → bare_packed E (unpacked_list (pvalues (map value_of vs))) T ≡ KList (items_packed E (pvalues (map value_of vs)) U)
  listed [] T U e = refl
  listed (v ∷ vs) T U e =
      ap₂ in_front (there_some (list_item (head E T)) U (λ X. bare_packed E (unpacked (value_of v)) X) e) (listed vs T U e)

  pub listed_counted : (f : ℕ → ℕ) (vs : List PVal) (U : Typ) → value_count (values_renumbered f (items_packed E (pvalues (map value_of vs)) U)) ≡ length vs
  listed_counted f [] U = refl
  listed_counted f (v ∷ vs) U = ap suc (listed_counted f vs U)

  pub unlisted : (vs : List PVal) (T : Typ) → list_item (head E T) ≡ None → bare_packed E (unpacked_list (pvalues (map value_of vs))) T ≡ KList (all_stay (length vs))
  unlisted [] T e = refl
  unlisted (v ∷ vs) T e = ap₂ in_front (there_none (list_item (head E T)) (λ X. bare_packed E (unpacked (value_of v)) X) e) (unlisted vs T e)

  -- nothing stands in front of what isn't a list
  front_function : (h : Home) (l : Expr) (T : Typ) (v : PValue) → in_front v (travelling E h l T) ≡ stays
  front_function h l T v = by (may_travel E h l T)
    where
      by : (b : Bool) → in_front v (elim b [ true ↦ KFun h l | false ↦ stays ]) ≡ stays
      by true = refl
      by false = refl

  front_senseless : (T : Typ) (v : PValue) → in_front v (bare_packed E senseless T) ≡ stays
  front_senseless T v = front_function Main (Lam TInt (App (Int (pos 0)) (Int (pos 0)))) T v

  front_exception : (k : ℕ) (m : MValue) (T : Typ) (v : PValue) → in_front v (bare_packed E (exception_with k m) T) ≡ stays
  front_exception k (MStr s) T v = refl
  front_exception k m T v = front_senseless T v

  front_closed : (h : Home) (l : Option Expr) (G : List Typ) (r : Bool) (es : List Typ → BareWritten) (T : Typ) (v : PValue) → in_front v (bare_packed E (closed h l G r es) T) ≡ stays
  front_closed h (Some (Lam U e)) G false es T v = front_function h (Lam U (bare_packed_term E (inst 1 (es G) (bare_term h e)))) T v
  front_closed h (Some (Rec U W e)) G true es T v = front_function h (Rec U W (bare_packed_term E (inst 2 (es G) (bare_term h e)))) T v
  front_closed h l G r es T v = front_senseless T v

  front_closure : (b : Option Block) (r : Bool) (es : List Typ → BareWritten) (T : Typ) (v : PValue) → in_front v (bare_packed E (closure_of b r es) T) ≡ stays
  front_closure None r es T v = front_senseless T v
  front_closure (Some b) r es T v = front_closed b.home b.lambda b.context r es T v

  front_there : {A : Type 0} (o : Option A) (f : A → PValue) (v : PValue) → ((a : A) → in_front v (f a) ≡ stays) → in_front v (where_there o f) ≡ stays
  front_there None f v h = refl
  front_there (Some a) f v h = h a

  -- lists of the store
  module _ (K : Code) where
    pub held_listed : (m : MValue) (n : ℕ) (T U : Typ) → items_counted m ≡ Some n → list_item (head E T) ≡ Some U → bare_packed E (stands K m) T ≡ KList (items_held E K m U)
    held_listed MNil n T U c e = refl
    held_listed (MCons a b) n T U c e =
        let p = some_further (items_counted b) n c in
        ap₂ in_front (there_some (list_item (head E T)) U (λ X. bare_packed E (stands K a) X) e) (held_listed b p.0 T U p.1 e)
    held_listed m n T U c e = absurd cc

    pub held_counted : (f : ℕ → ℕ) (m : MValue) (n : ℕ) (U : Typ) → items_counted m ≡ Some n → value_count (values_renumbered f (items_held E K m U)) ≡ n
    held_counted f MNil n U c = cc
    held_counted f (MCons a b) n U c = let p = some_further (items_counted b) n c in ap suc (held_counted f b p.0 U p.1) ∙ sym p.2
    held_counted f m n U c = absurd cc

    pub held_unlisted : (m : MValue) (n : ℕ) (T : Typ) → items_counted m ≡ Some n → list_item (head E T) ≡ None → bare_packed E (stands K m) T ≡ KList (all_stay n)
    held_unlisted MNil n T c e = let z : 0 ≡ n = cc in ap (λ k. KList (all_stay k)) z
    held_unlisted (MCons a b) n T c e =
        let p = some_further (items_counted b) n c in
        ap₂ in_front (there_none (list_item (head E T)) (λ X. bare_packed E (stands K a) X) e) (held_unlisted b p.0 T p.1 e) ∙ ap (λ j. KList (all_stay j)) (sym p.2)
    held_unlisted m n T c e = absurd cc

    -- a list that doesn't end as one
    unended : (m : MValue) (T : Typ) (v : PValue) → items_counted m ≡ None → in_front v (bare_packed E (stands K m) T) ≡ stays
    unended MNil T v c = absurd cc
    unended (MCons a b) T v c = ap (in_front v) (unended b T (where_there (list_item (head E T)) (λ U. bare_packed E (stands K a) U)) (none_further (items_counted b) c))
    unended (MExnOf k m) T v c = front_exception k m T v
    unended (MTuple ms) T v c = front_there (tuple_parts (head E T)) (λ Ts. KTuple (bare_all_packed E (all_stand K ms) Ts)) v (λ Ts. refl)
    unended (MPresent a) T v c = front_there (option_item (head E T)) (λ U. KPresent (bare_packed E (stands K a) U)) v (λ U. refl)
    unended (MClosure b r es) T v c = front_closure (slice_get K.blocks b) r (λ G. environment_values K es G) T v
    unended MEnd T v c = front_senseless T v
    unended (MMore a b) T v c = front_senseless T v
    unended m T v c = refl

    pub held_unended : (m : MValue) (T : Typ) → IsSome (cons_in m) → items_counted m ≡ None → bare_packed E (stands K m) T ≡ stays
    held_unended (MCons a b) T s c = unended b T (where_there (list_item (head E T)) (λ U. bare_packed E (stands K a) U)) (none_further (items_counted b) c)
    held_unended m T s c = absurd cc

-- visits of packed values by what they are
pub visits_value : (r : Result Unit Stop) (d : ℕ) (v w : PValue) (old new : Walk) → v ≡ w → VisitsValue r d v old new → VisitsValue r d w old new
visits_value r d v w old new e h = subst (λ (x : PValue). VisitsValue r d x old new) e h

pub visits_deeper : (r : Result Unit Stop) (d e : ℕ) (v w : PValue) (old new : Walk) → d ≡ e → v ≡ w → VisitsValue r d v old new → VisitsValue r e w old new
visits_deeper r d e v w old new q p h = subst (λ (n : ℕ). VisitsValue r n w old new) q (visits_value r d v w old new p h)

pub visits_tuple : (r : Result Unit Stop) (d n : ℕ) (vs : PValues) (w : PValue) (old new : Walk) → KTuple vs ≡ w → n ≡ value_count (values_renumbered (number_at old.site) vs) →
    Visits r (next_head d (value_tuple ∷ one_written n) ∷ values_written old.site (suc d) vs) (spoken_at old.site (all_value_parts vs)) old new → VisitsValue r d w old new
visits_tuple r d n vs w old new e c h =
    visits_value r d (KTuple vs) w old new e
    (visits_same r _ _ _ _ old new (ap (λ (k : ℕ). next_head d (value_tuple ∷ one_written k) ∷ values_written old.site (suc d) vs) c) refl h)

pub visits_list : (r : Result Unit Stop) (d n : ℕ) (vs : PValues) (w : PValue) (old new : Walk) → KList vs ≡ w → n ≡ value_count (values_renumbered (number_at old.site) vs) →
    Visits r (next_head d (value_list ∷ four_written n) ∷ values_written old.site (suc d) vs) (spoken_at old.site (all_value_parts vs)) old new → VisitsValue r d w old new
visits_list r d n vs w old new e c h =
    visits_value r d (KList vs) w old new e
    (visits_same r _ _ _ _ old new (ap (λ (k : ℕ). next_head d (value_list ∷ four_written k) ∷ values_written old.site (suc d) vs) c) refl h)

-- a list, the first item of which can't travel
pub visits_lost : (r : Result Unit Stop) (d n k : ℕ) (w : PValue) (old new : Walk) → n ≡ suc k → KList (all_stay n) ≡ w →
    ((ks : List Head) (ns : List ℕ) → Visits r (next_head d (value_list ∷ four_written n) ∷ value_heads two_written (suc d) stays ++ ks) ns old new) → VisitsValue r d w old new
visits_lost r d n k w old new q e h =
    visits_list r d n (all_stay n) w old new e (sym (stay_counted (number_at old.site) n))
    (visits_same r _ _ _ _ old new (ap (λ (j : ℕ). next_head d (value_list ∷ four_written n) ∷ values_written old.site (suc d) (all_stay j)) (sym q)) refl
    (h (values_written old.site (suc d) (all_stay k)) (spoken_at old.site (all_value_parts (all_stay n)))))

pub ruleset tail_laws = (there_none)

pub ruleset paired_laws = (paired_same, paired_less, paired_more)

pub ruleset packed_list_laws = (wants_memory, listed, listed_counted, unlisted, stay_counted)

pub ruleset held_list_laws = (wants_memory, held_listed, held_counted, held_unlisted, held_unended, stay_counted)
