-- What is rebuilt of the packed value of a typed value is a copy of it.
use Rattle.std.proofs.Common.{◌≡◌, refl, sym, ap, ◌∙◌, subst, ℕ, Bool, true, false, List, ◌∷◌, ◌++◌, map}
use Rattle.std.specs.Prelude.{is_some}
use Rattle.std.specs.List.{list_all}
use Rattle.std.specs.Option.{option_map_or}
use mathlib.Core.Bool.{true≢false}
use Rattle.ac_types.proofs.Same.{both_true, same_eq}
use Rattle.ac_types.specs.Types.{Typ, TInt, TBool, TStr, TUnit, TExn, TTuple, TList, TOpt, TFun, Typs, no_types, typ, mentions, mentions_of_all, is_small}
use Rattle.ac_terms.specs.Terms.{Home, Expr, Int, Boolean, Str, Unit', Exn, ExnOf, Tuple, Nil, Empty, Present, Cons, Var, Own, Ref, Lam, Rec, App, Let, If, Seq, Match, Try, Raise, Prim, Marshal, Unmarshal, Val, Evaluated, Bracket, Exprs, no_exprs, expr, Arms, no_arms, arm, PValue, KTuple, KList, KAbsent, KPresent, KFun, PValues, no_pvalues, pvalue, Value, VInt, VBool, VStr, VUnit, VExn, VTuple, VNil, VCons, VAbsent, VPresent, VLam, VRec, VProxy, VSeal, Values, no_values, value}
use Rattle.ac_terms.specs.Defs.{Environment}
use Rattle.ac_terms.specs.Bounds.{fits_type, fits_term, fit_terms, fit_arms, fits_value, fit_values, has_small_types}
use Rattle.ac_terms.specs.Parts.{OfType, pattern_types, term_parts, all_term_parts, arm_parts, value_parts, all_value_parts}
use Rattle.ac_terms.specs.Renumbered.{home_by, renumbered, all_renumbered, arms_renumbered, value_renumbered, values_renumbered}
use Rattle.ac_rules.specs.Views.{Mode, Coloured, head, is_known, are_known}
use Rattle.ac_rules.specs.Typing.{tuple_parts, list_item, option_item, is_function, holds, all_hold, each_holds}
use Rattle.ac_rules.specs.Plain.{stays, where_there, in_front, may_travel, packed, all_packed, packed_term, packed_terms, packed_arms}
use Rattle.ac_rules.specs.Growth.{Widening}
use Rattle.ac_terms.proofs.AllLaws.{all_left, all_right}
use Rattle.ac_rules.proofs.KnownTypes.{head_known}
use Rattle.ac_rules.proofs.Growth.{head_same}
use Rattle.ac_meaning.specs.BareTerms.{bare_value}
use Rattle.ac_meaning.specs.BarePacking.{bare_packed}
use Rattle.ac_meaning.specs.Rebuilding.{parts_of, item_of, argument_of, result_of, rebuilt_inside, rebuilt, all_rebuilt, list_rebuilt, rebuilt_term, rebuilt_terms, rebuilt_arms}
use Rattle.ac_meaning.specs.Typed.{Typed, AllTyped, ArmsTyped, ValueTyped, ValuesTyped, as_seen}
use Rattle.ac_meaning.proofs.PackedAlike.{packed_alike}
use Rattle.ac_meaning.proofs.PackedHolds.{packable}
use Rattle.ac_round_trip.specs.Copies.{Copied, int, bool, string, unit, exception, tuple, nil, cons, absent, present, lambda, recursive, in_bracket, in_seal, AllCopied, no_copies, copy, TermCopied, int_is, bool_is, string_is, unit_is, exn_is, no_item, no_content, var, own, ref, captured, exn_of, tuple_of, option_of, list_of, lam, rec, app, let_in, if_else, seq, match_with, try_with, raise, prim, marshal, unmarshal, TermsCopied, no_terms, term, ArmsCopied, no_branches, branch}
use Rattle.ac_round_trip.proofs.Inside.{copied_inside}
use Rattle.ac_round_trip.proofs.FineParts.{AllFine, fine_both, small_types}

-- the value is typed over E in the mode `from`, and rebuilt over F in the mode `mode`
module _ (from mode : Mode) (E F : Environment) (g : Widening E F) (f : ℕ → ℕ) where
  abbrev Copy : Home → Value → Home → Typ → Value → Type 0
  Copy c v d T w = Copied mode E F f c v d T w

  -- a packed value that holds at a type, is within the bounds, and speaks of what is there
  record Good (w : PValue) (T : Typ) : Type 0 where
    of_type : holds Coloured false E w T ≡ true
    within : fits_value w ≡ true
    fine : AllFine E F f (value_parts w)

  record AllGood (ws : PValues) (Ts : Typs) : Type 0 where
    of_types : all_hold Coloured false E ws Ts ≡ true
    within : fit_values ws ≡ true
    fine : AllFine E F f (all_value_parts ws)

  record EachGood (ws : PValues) (T : Typ) : Type 0 where
    of_type : each_holds Coloured false E ws T ≡ true
    within : fit_values ws ≡ true
    fine : AllFine E F f (all_value_parts ws)

  no_stays : (T : Typ) → Good stays T → ⊥
  no_stays T h = true≢false (sym h.within)

  parts_good : (ws : PValues) (T : Typ) (Ts : Typs) → head E T ≡ TTuple Ts → Good (KTuple ws) T → AllGood ws Ts
  parts_good ws T Ts q h = record {
    of_types = subst (λ H. option_map_or (λ Us. all_hold Coloured false E ws Us) (tuple_parts H) false ≡ true) q h.of_type;
    within = (both_true _ _ h.within).1;
    fine = h.fine;
  }

  items_good : (ws : PValues) (T A : Typ) → head E T ≡ TList A → Good (KList ws) T → EachGood ws A
  items_good ws T A q h = record {
    of_type = subst (λ H. option_map_or (λ U. each_holds Coloured false E ws U) (list_item H) false ≡ true) q h.of_type;
    within = (both_true _ _ h.within).1;
    fine = h.fine;
  }

  content_good : (w : PValue) (T A : Typ) → head E T ≡ TOpt A → Good (KPresent w) T → Good w A
  content_good w T A q h = record {
    of_type = subst (λ H. option_map_or (λ U. holds Coloured false E w U) (option_item H) false ≡ true) q h.of_type;
    within = h.within;
    fine = h.fine;
  }

  first_part : (w : PValue) (ws : PValues) (T : Typ) (Ts : Typs) → AllGood (pvalue w ws) (typ T Ts) → Good w T × AllGood ws Ts
  first_part w ws T Ts h =
      let a = both_true (holds Coloured false E w T) (all_hold Coloured false E ws Ts) h.of_types in
      let b = both_true (fits_value w) (fit_values ws) h.within in
      let p = fine_both E F f (value_parts w) (all_value_parts ws) h.fine in
      (record { of_type = a.0; within = b.0; fine = p.0 }, record { of_types = a.1; within = b.1; fine = p.1 })

  first_item : (w : PValue) (ws : PValues) (T : Typ) → EachGood (pvalue w ws) T → Good w T × EachGood ws T
  first_item w ws T h =
      let a = both_true (holds Coloured false E w T) (each_holds Coloured false E ws T) h.of_type in
      let b = both_true (fits_value w) (fit_values ws) h.within in
      let p = fine_both E F f (value_parts w) (all_value_parts ws) h.fine in
      (record { of_type = a.0; within = b.0; fine = p.0 }, record { of_type = a.1; within = b.1; fine = p.1 })

  -- what a known type comes to is known
  known_head : (T H : Typ) → head E T ≡ H → are_known E T ≡ true → are_known E H ≡ true
  known_head T H q k = subst (λ U. are_known E U ≡ true) q (head_known E g.before T k)

  -- inside the seals of a type
  at : (v : Value) (c d : Home) (T H : Typ) (make : Home → Typ → Value) → are_known E T ≡ true → head E T ≡ H → ((e : Home) → Copy c v e H (make e H)) → Copy c v d T (rebuilt_inside mode F d T make)
  at v c d T H make k q h = copied_inside mode E F f c v d T make (λ e. subst (λ U. Copy c v e U (make e U)) (sym (head_same E F g T k ∙ q)) (h e))

  -- tuples
  at_tuple : (vs : Values) (c d : Home) (T : Typ) (ws : Typs → PValues) → are_known E T ≡ true →
      ((e : Home) (Ts : Typs) → list_all (is_known E) (mentions_of_all Ts) ≡ true → AllGood (ws Ts) Ts → AllCopied mode E F f c vs e Ts (all_rebuilt mode F e Ts (values_renumbered f (ws Ts)))) →
      (H : Typ) → head E T ≡ H → Good (where_there (tuple_parts H) (λ Ts. KTuple (ws Ts))) T → Copy c (VTuple vs) d T (rebuilt mode F d T (value_renumbered f (where_there (tuple_parts H) (λ Ts. KTuple (ws Ts)))))
  at_tuple vs c d T ws k go (TTuple Ts) q h =
      at (VTuple vs) c d T (TTuple Ts) (λ e U. VTuple (all_rebuilt mode F e (parts_of U) (values_renumbered f (ws Ts)))) k q (λ e. tuple (go e Ts (known_head T (TTuple Ts) q k) (parts_good (ws Ts) T Ts q h)))
  at_tuple vs c d T ws k go _ q h = absurd (no_stays T h)

  -- options
  at_option : (v : Value) (c d : Home) (T : Typ) (w : Typ → PValue) → are_known E T ≡ true →
      ((e : Home) (A : Typ) → are_known E A ≡ true → Good (w A) A → Copy c v e A (rebuilt mode F e A (value_renumbered f (w A)))) →
      (H : Typ) → head E T ≡ H → Good (where_there (option_item H) (λ A. KPresent (w A))) T → Copy c (VPresent v) d T (rebuilt mode F d T (value_renumbered f (where_there (option_item H) (λ A. KPresent (w A)))))
  at_option v c d T w k go (TOpt A) q h =
      at (VPresent v) c d T (TOpt A) (λ e U. VPresent (rebuilt mode F e (item_of U) (value_renumbered f (w A)))) k q (λ e. present (go e A (known_head T (TOpt A) q k) (content_good (w A) T A q h)))
  at_option v c d T w k go _ q h = absurd (no_stays T h)

  no_option : (U : Typ) (c d : Home) (T : Typ) → are_known E T ≡ true → (H : Typ) → head E T ≡ H → is_some (option_item H) ≡ true → Copy c (VAbsent U) d T (rebuilt mode F d T KAbsent)
  no_option U c d T k (TOpt A) q h = at (VAbsent U) c d T (TOpt A) (λ e X. VAbsent X) k q (λ e. absent)
  no_option U c d T k _ q h = absurd (true≢false (sym h))

  -- lists
  no_items : (U : Typ) (c d : Home) (T : Typ) → are_known E T ≡ true → (H : Typ) → head E T ≡ H → option_map_or (λ A. each_holds Coloured false E no_pvalues A) (list_item H) false ≡ true → Copy c (VNil U) d T (rebuilt mode F d T (KList no_pvalues))
  no_items U c d T k (TList A) q h = at (VNil U) c d T (TList A) (λ e X. list_rebuilt mode F e X no_pvalues) k q (λ e. nil)
  no_items U c d T k _ q h = absurd (true≢false (sym h))

  no_first : (ws : PValues) (T : Typ) → Good (KList (pvalue stays ws)) T → ⊥
  no_first ws T h = true≢false (sym (both_true (fits_value stays) (fit_values ws) (both_true _ _ h.within).1).0)

  at_list : (v u : Value) (c d : Home) (T : Typ) (w : Typ → PValue) → are_known E T ≡ true → (r : PValue) → packed E c u T ≡ r →
      ((e : Home) (A : Typ) → are_known E A ≡ true → Good (w A) A → Copy c v e A (rebuilt mode F e A (value_renumbered f (w A)))) →
      ((e : Home) (A : Typ) (ws : PValues) → head E T ≡ TList A → packed E c u T ≡ KList ws → EachGood ws A → Copy c u e (TList A) (list_rebuilt mode F e (TList A) (values_renumbered f ws))) →
      (H : Typ) → head E T ≡ H → Good (in_front (where_there (list_item H) w) r) T → Copy c (VCons v u) d T (rebuilt mode F d T (value_renumbered f (in_front (where_there (list_item H) w) r)))
  at_list v u c d T w k (KList ws) p first rest (TList A) q h =
      let i = first_item (w A) ws A (items_good (pvalue (w A) ws) T A q h) in
      at (VCons v u) c d T (TList A) (λ e U. list_rebuilt mode F e U (values_renumbered f (pvalue (w A) ws))) k q (λ e. cons (first e A (known_head T (TList A) q k) i.0) (rest e A ws q p i.1))
  at_list v u c d T w k (KList ws) p first rest _ q h = absurd (no_first ws T h)
  at_list v u c d T w k _ p first rest H q h = absurd (no_stays T h)

  -- the rest of a list behind its first item
  record Tail (c : Home) (u : Value) (T : Typ) (w : PValue) (ws : PValues) : Type 0 where
    rest : PValues
    is_rest : packed E c u T ≡ KList rest
    whole : pvalue w rest ≡ ws

  tail : (c : Home) (u : Value) (T A : Typ) (w : Typ → PValue) (ws : PValues) → head E T ≡ TList A → in_front (where_there (list_item (head E T)) w) (packed E c u T) ≡ KList ws → Tail c u T (w A) ws
  tail c u T A w ws q h = by (packed E c u T) refl (sym (ap (λ H. in_front (where_there (list_item H) w) (packed E c u T)) q) ∙ h)
    where
      by : (r : PValue) → packed E c u T ≡ r → in_front (w A) r ≡ KList ws → Tail c u T (w A) ws
      by (KList vs) p e = let same : pvalue (w A) vs ≡ ws = cc in record { rest = vs; is_rest = p; whole = same }
      by _ p e = absurd cc

  -- no other value is packed as a list at a list's type
  not_tuple : (T A : Typ) (w : Typs → PValue) (ws : PValues) → head E T ≡ TList A → where_there (tuple_parts (head E T)) w ≡ KList ws → ⊥
  not_tuple T A w ws q h = let e : stays ≡ KList ws = sym (ap (λ H. where_there (tuple_parts H) w) q) ∙ h in absurd cc

  not_option : (T A : Typ) (w : Typ → PValue) (ws : PValues) → head E T ≡ TList A → where_there (option_item (head E T)) w ≡ KList ws → ⊥
  not_option T A w ws q h = let e : stays ≡ KList ws = sym (ap (λ H. where_there (option_item H) w) q) ∙ h in absurd cc

  not_function : (b : Bool) (c : Home) (l : Expr) (ws : PValues) → elim b as (λ z. PValue) [ true ↦ KFun c l | false ↦ stays ] ≡ KList ws → ⊥
  not_function true c l ws h = absurd cc
  not_function false c l ws h = absurd cc

  -- functions
  at_lambda : (U : Typ) (e : Expr) (c d : Home) (T : Typ) → are_known E T ≡ true → (b : Bool) →
      (fits_term true (packed_term E c e) ≡ true → AllFine E F f (term_parts (packed_term E c e)) → TermCopied mode E F f c e (rebuilt_term mode F (home_by f c) (renumbered f (packed_term E c e)))) →
      Good (elim b as (λ z. PValue) [ true ↦ KFun c (Lam U (packed_term E c e)) | false ↦ stays ]) T →
      Copy c (VLam U e) d T (rebuilt mode F d T (value_renumbered f (elim b as (λ z. PValue) [ true ↦ KFun c (Lam U (packed_term E c e)) | false ↦ stays ])))
  at_lambda U e c d T k false body h = absurd (no_stays T h)
  at_lambda U e c d T k true body h = by (head E T) refl (both_true _ _ (both_true _ _ h.of_type).0).0
    where
      by : (H : Typ) → head E T ≡ H → is_function H ≡ true → Copy c (VLam U e) d T (rebuilt mode F d T (KFun (home_by f c) (Lam U (renumbered f (packed_term E c e)))))
      by (TFun A B) q i =
          at (VLam U e) c d T (TFun A B) (λ x X. VProxy (home_by f c) (argument_of X) (result_of X) (VLam U (rebuilt_term mode F (home_by f c) (renumbered f (packed_term E c e))))) k q
          (λ x. lambda h.fine.0 (body (both_true _ _ (both_true _ _ h.within).1).1 h.fine.1.1))
      by _ q i = absurd (true≢false (sym i))

  at_recursive : (U W : Typ) (e : Expr) (c d : Home) (T : Typ) → are_known E T ≡ true → (b : Bool) →
      (fits_term true (packed_term E c e) ≡ true → AllFine E F f (term_parts (packed_term E c e)) → TermCopied mode E F f c e (rebuilt_term mode F (home_by f c) (renumbered f (packed_term E c e)))) →
      Good (elim b as (λ z. PValue) [ true ↦ KFun c (Rec U W (packed_term E c e)) | false ↦ stays ]) T →
      Copy c (VRec U W e) d T (rebuilt mode F d T (value_renumbered f (elim b as (λ z. PValue) [ true ↦ KFun c (Rec U W (packed_term E c e)) | false ↦ stays ])))
  at_recursive U W e c d T k false body h = absurd (no_stays T h)
  at_recursive U W e c d T k true body h = by (head E T) refl (both_true _ _ (both_true _ _ h.of_type).0).0
    where
      by : (H : Typ) → head E T ≡ H → is_function H ≡ true → Copy c (VRec U W e) d T (rebuilt mode F d T (KFun (home_by f c) (Rec U W (renumbered f (packed_term E c e)))))
      by (TFun A B) q i =
          at (VRec U W e) c d T (TFun A B) (λ x X. VProxy (home_by f c) (argument_of X) (result_of X) (VRec U W (rebuilt_term mode F (home_by f c) (renumbered f (packed_term E c e))))) k q
          (λ x. recursive h.fine.0 (body (both_true _ _ (both_true _ _ h.within).1).1 h.fine.1.1.1))
      by _ q i = absurd (true≢false (sym i))

  -- a captured value is packed at the type beside it
  captured_good : (v : Value) (c : Home) (T X : Typ) → X ≡ as_seen from E c T → ValueTyped from E v c X → are_known E T ≡ true → fits_type false T ≡ true → is_small T ≡ true → fits_value (packed E c v T) ≡ true → AllFine E F f (value_parts (packed E c v T)) → Good (packed E c v T) T
  captured_good v c T X e t k a s w p =
      let same : bare_packed E (bare_value c v) T ≡ packed E c v T = packed_alike from E v c X T t in
      let back : packed E c v T ≡ bare_packed E (bare_value c v) T = sym same in
      let held = (packable from E g.before v c T k (subst (ValueTyped from E v c) e t) a s (subst (λ q. fits_value q ≡ true) back w) (subst (λ q. has_small_types (value_parts q) ≡ true) back (small_types E F f (value_parts (packed E c v T)) p))).value_holds in
      record { of_type = subst (λ q. holds Coloured false E q T ≡ true) same held; within = w; fine = p }

  mutual
    copied : (v : Value) (c d : Home) (T X : Typ) → are_known E T ≡ true → ValueTyped from E v c X → Good (packed E c v T) T → Copy c v d T (rebuilt mode F d T (value_renumbered f (packed E c v T)))
    copied (VInt n) c d T X k t h = at (VInt n) c d T TInt (λ e U. VInt n) k (same_eq (head E T) TInt h.of_type) (λ e. int)
    copied (VBool b) c d T X k t h = at (VBool b) c d T TBool (λ e U. VBool b) k (same_eq (head E T) TBool h.of_type) (λ e. bool)
    copied (VStr s) c d T X k t h = at (VStr s) c d T TStr (λ e U. VStr s) k (same_eq (head E T) TStr h.of_type) (λ e. string)
    copied VUnit c d T X k t h = at VUnit c d T TUnit (λ e U. VUnit) k (same_eq (head E T) TUnit h.of_type) (λ e. unit)
    copied (VExn n s) c d T X k t h = at (VExn n s) c d T TExn (λ e U. VExn n s) k (same_eq (head E T) TExn (both_true _ _ h.of_type).0) (λ e. exception)
    copied (VTuple vs) c d T X k t h = at_tuple vs c d T (all_packed E c vs) k (λ e Ts l i. all_copied vs c e Ts t.0 l t.2 i) (head E T) refl h
    copied (VNil U) c d T X k t h = no_items U c d T k (head E T) refl h.of_type
    copied (VCons v u) c d T X k t h =
        at_list v u c d T (λ A. packed E c v A) k (packed E c u T) refl (λ e A l i. copied v c e A t.0 l t.2 i) (λ e A ws q p i. list_copied u c e T A (TList t.0) ws k q p t.3 i) (head E T) refl h
    copied (VAbsent U) c d T X k t h = no_option U c d T k (head E T) refl h.of_type
    copied (VPresent v) c d T X k t h = at_option v c d T (λ A. packed E c v A) k (λ e A l i. copied v c e A t.0 l t.2 i) (head E T) refl h
    copied (VLam U e) c d T X k t h = at_lambda U e c d T k (may_travel E c (Lam U (packed_term E c e)) T) (λ w p. term_copied e c _ t.0 t.2 w p) h
    copied (VRec U W e) c d T X k t h = at_recursive U W e c d T k (may_travel E c (Rec U W (packed_term E c e)) T) (λ w p. term_copied e c _ _ t.1 w p) h
    copied (VProxy b U W v) c d T X k t h = in_bracket (copied v b d T _ k t.3 h)
    copied (VSeal b n u v) c d T X k t h = in_seal (copied v b d T _ k t.4 h)

    list_copied : (u : Value) (c d : Home) (T A X : Typ) (ws : PValues) → are_known E T ≡ true → head E T ≡ TList A → packed E c u T ≡ KList ws → ValueTyped from E u c X → EachGood ws A → Copy c u d (TList A) (list_rebuilt mode F d (TList A) (values_renumbered f ws))
    list_copied (VNil U) c d T A X ws k q p t h = let e : no_pvalues ≡ ws = cc in subst (λ vs. Copy c (VNil U) d (TList A) (list_rebuilt mode F d (TList A) (values_renumbered f vs))) e nil
    list_copied (VCons v u) c d T A X ws k q p t h =
        let s = tail c u T A (λ B. packed E c v B) ws q p in
        let i = first_item (packed E c v A) s.rest A (subst (λ vs. EachGood vs A) (sym s.whole) h) in
        subst (λ vs. Copy c (VCons v u) d (TList A) (list_rebuilt mode F d (TList A) (values_renumbered f vs))) s.whole
        (cons (copied v c d A t.0 (known_head T (TList A) q k) t.2 i.0) (list_copied u c d T A (TList t.0) s.rest k q s.is_rest t.3 i.1))
    list_copied (VProxy b U W v) c d T A X ws k q p t h = in_bracket (list_copied v b d T A _ ws k q p t.3 h)
    list_copied (VSeal b n u v) c d T A X ws k q p t h = in_seal (list_copied v b d T A _ ws k q p t.4 h)
    list_copied (VTuple vs) c d T A X ws k q p t h = absurd (not_tuple T A (λ Ts. KTuple (all_packed E c vs Ts)) ws q p)
    list_copied (VPresent v) c d T A X ws k q p t h = absurd (not_option T A (λ U. KPresent (packed E c v U)) ws q p)
    list_copied (VLam U e) c d T A X ws k q p t h = absurd (not_function (may_travel E c (Lam U (packed_term E c e)) T) c (Lam U (packed_term E c e)) ws p)
    list_copied (VRec U W e) c d T A X ws k q p t h = absurd (not_function (may_travel E c (Rec U W (packed_term E c e)) T) c (Rec U W (packed_term E c e)) ws p)
    list_copied (VInt n) c d T A X ws k q p t h = absurd cc
    list_copied (VBool b) c d T A X ws k q p t h = absurd cc
    list_copied (VStr s) c d T A X ws k q p t h = absurd cc
    list_copied VUnit c d T A X ws k q p t h = absurd cc
    list_copied (VExn n s) c d T A X ws k q p t h = absurd cc
    list_copied (VAbsent U) c d T A X ws k q p t h = absurd cc

    all_copied : (vs : Values) (c d : Home) (Ts Xs : Typs) → list_all (is_known E) (mentions_of_all Ts) ≡ true → ValuesTyped from E vs c Xs → AllGood (all_packed E c vs Ts) Ts → AllCopied mode E F f c vs d Ts (all_rebuilt mode F d Ts (values_renumbered f (all_packed E c vs Ts)))
    all_copied no_values c d no_types Xs k t h = no_copies
    all_copied no_values c d (typ T Ts) Xs k t h = absurd (true≢false (sym h.within))
    all_copied (value v vs) c d no_types Xs k t h = absurd (true≢false (sym h.within))
    all_copied (value v vs) c d (typ T Ts) Xs k t h =
        let i = first_part (packed E c v T) (all_packed E c vs Ts) T Ts h in
        copy (copied v c d T t.0 (all_left (is_known E) (mentions T) (mentions_of_all Ts) k) t.3 i.0) (all_copied vs c d Ts t.1 (all_right (is_known E) (mentions T) (mentions_of_all Ts) k) t.4 i.1)

    -- the body of a function
    term_copied : (e : Expr) (c : Home) (G : List Typ) (X : Typ) → Typed from E e c G X → fits_term true (packed_term E c e) ≡ true → AllFine E F f (term_parts (packed_term E c e)) → TermCopied mode E F f c e (rebuilt_term mode F (home_by f c) (renumbered f (packed_term E c e)))
    term_copied (Int n) c G X t w p = int_is
    term_copied (Boolean b) c G X t w p = bool_is
    term_copied (Str s) c G X t w p = string_is
    term_copied Unit' c G X t w p = unit_is
    term_copied (Exn k) c G X t w p = exn_is
    term_copied (Nil A) c G X t w p = no_item
    term_copied (Empty A) c G X t w p = no_content
    term_copied (Var i) c G X t w p = var
    term_copied (Own i) c G X t w p = own
    term_copied (Ref j x) c G X t w p = ref p.0
    term_copied (ExnOf k e) c G X t w p = exn_of (term_copied e c G _ t.1 (both_true _ _ w).1 p)
    term_copied (Tuple es) c G X t w p = tuple_of (terms_copied es c G t.0 t.2 (both_true _ _ w).1 p)
    term_copied (Present e) c G X t w p = option_of (term_copied e c G t.0 t.2 w p)
    term_copied (Cons a b) c G X t w p =
        let i = both_true _ _ w in
        let q = fine_both E F f (term_parts (packed_term E c a)) (term_parts (packed_term E c b)) p in
        list_of (term_copied a c G _ t.2 i.0 q.0) (term_copied b c G _ t.3 i.1 q.1)
    term_copied (Lam A e) c G X t w p = lam (term_copied e c _ t.0 t.2 (both_true _ _ w).1 p.1)
    term_copied (Rec A B e) c G X t w p = rec (term_copied e c _ _ t.1 (both_true _ _ w).1 p.1.1)
    term_copied (App a b) c G X t w p =
        let i = both_true _ _ w in
        let q = fine_both E F f (term_parts (packed_term E c a)) (term_parts (packed_term E c b)) p in
        app (term_copied a c G _ t.1 i.0 q.0) (term_copied b c G _ t.2 i.1 q.1)
    term_copied (Let A a b) c G X t w p =
        let i = both_true _ _ w in
        let q = fine_both E F f (OfType A ∷ term_parts (packed_term E c a)) (term_parts (packed_term E c b)) p in
        let_in (term_copied a c G _ t.0 (both_true _ _ i.0).1 q.0.1) (term_copied b c _ _ t.1 i.1 q.1)
    term_copied (If a b e) c G X t w p =
        let i = both_true _ _ w in
        let j = both_true _ _ i.0 in
        let q = fine_both E F f (term_parts (packed_term E c a) ++ term_parts (packed_term E c b)) (term_parts (packed_term E c e)) p in
        let r = fine_both E F f (term_parts (packed_term E c a)) (term_parts (packed_term E c b)) q.0 in
        if_else (term_copied a c G _ t.0 j.0 r.0) (term_copied b c G _ t.1 j.1 r.1) (term_copied e c G _ t.2 i.1 q.1)
    term_copied (Seq es) c G X t w p = seq (terms_copied es c G t.0 t.1 (both_true _ _ w).1 p)
    term_copied (Match e bs) c G X t w p =
        let i = both_true _ _ (both_true _ _ (both_true _ _ w).0).0 in
        let q = fine_both E F f (term_parts (packed_term E c e)) (arm_parts (packed_arms E c bs)) p in
        match_with (term_copied e c G _ t.1 i.0 q.0) (arms_copied bs c G t.0 X t.2 i.1 q.1)
    term_copied (Try e bs) c G X t w p =
        let i = both_true _ _ (both_true _ _ (both_true _ _ w).0).0 in
        let q = fine_both E F f (term_parts (packed_term E c e)) (arm_parts (packed_arms E c bs)) p in
        try_with (term_copied e c G _ t.0 i.0 q.0) (arms_copied bs c G _ X t.1 i.1 q.1)
    term_copied (Raise A e) c G X t w p = raise (term_copied e c G _ t.1 (both_true _ _ w).1 p.1)
    term_copied (Prim k es) c G X t w p = prim (terms_copied es c G t.0 t.1 (both_true _ _ w).1 p)
    term_copied (Marshal A a b) c G X t w p =
        let i = both_true _ _ w in
        let q = fine_both E F f (OfType A ∷ term_parts (packed_term E c a)) (term_parts (packed_term E c b)) p in
        marshal (term_copied a c G _ t.1 (both_true _ _ i.0).1 q.0.1) (term_copied b c G _ t.2 i.1 q.1)
    term_copied (Unmarshal A e) c G X t w p = unmarshal (term_copied e c G _ t.1 (both_true _ _ w).1 p.1)
    term_copied (Val A v) c G X t w p = absurd t
    term_copied (Evaluated A v) c G X t w p =
        let i = both_true _ _ w in
        captured (copied v c (home_by f c) A X t.2 t.1 (captured_good v c A X t.0 t.1 t.2 i.0 p.0 i.1 p.1.1))
    term_copied (Bracket b A e) c G X t w p = absurd (true≢false (sym w))

    terms_copied : (es : Exprs) (c : Home) (G : List Typ) (Xs : Typs) → AllTyped from E es c G Xs → fit_terms true (packed_terms E c es) ≡ true → AllFine E F f (all_term_parts (packed_terms E c es)) → TermsCopied mode E F f c es (rebuilt_terms mode F (home_by f c) (all_renumbered f (packed_terms E c es)))
    terms_copied no_exprs c G Xs t w p = no_terms
    terms_copied (expr e es) c G Xs t w p =
        let i = both_true _ _ w in
        let q = fine_both E F f (term_parts (packed_term E c e)) (all_term_parts (packed_terms E c es)) p in
        term (term_copied e c G t.0 t.3 i.0 q.0) (terms_copied es c G t.1 t.4 i.1 q.1)

    arms_copied : (bs : Arms) (c : Home) (G : List Typ) (A X : Typ) → ArmsTyped from E bs c G A X → fit_arms true (packed_arms E c bs) ≡ true → AllFine E F f (arm_parts (packed_arms E c bs)) → ArmsCopied mode E F f c bs (rebuilt_arms mode F (home_by f c) (arms_renumbered f (packed_arms E c bs)))
    arms_copied no_arms c G A X t w p = no_branches
    arms_copied (arm x e bs) c G A X t w p =
        let i = both_true _ _ w in
        let q = fine_both E F f (map OfType (pattern_types x) ++ term_parts (packed_term E c e)) (arm_parts (packed_arms E c bs)) p in
        let r = fine_both E F f (map OfType (pattern_types x)) (term_parts (packed_term E c e)) q.0 in
        branch (term_copied e c _ X t.2 (both_true _ _ i.0).1 r.1) (arms_copied bs c G A X t.3 i.1 q.1)

-- from what is known of the whole
pub is_copied : (from mode : Mode) (E F : Environment) (g : Widening E F) (f : ℕ → ℕ) (v : Value) (c d : Home) (T X : Typ) → are_known E T ≡ true → ValueTyped from E v c X → holds Coloured false E (packed E c v T) T ≡ true → fits_value (packed E c v T) ≡ true →
    AllFine E F f (value_parts (packed E c v T)) → Copied mode E F f c v d T (rebuilt mode F d T (value_renumbered f (packed E c v T)))
is_copied from mode E F g f v c d T X k t h w p = copied from mode E F g f v c d T X k t (record { of_type = h; within = w; fine = p })
