-- What is rebuilt of the packed value of a type without functions and abstract types is a copy of the value, in every program.
use Rattle.std.proofs.Common.{◌≡◌, refl, sym, ap, ◌∙◌, subst, ℕ, zero, suc, [], length}
use Rattle.ac_types.specs.Types.{Typ, TInt, TBool, TStr, TUnit, TExn, TTuple, TList, TOpt, TAbs, Typs, no_types, typ, mentions}
use Rattle.ac_terms.specs.Terms.{Home, KTuple, KList, KPresent, PValues, no_pvalues, pvalue, Value, VInt, VBool, VStr, VUnit, VExn, VTuple, VNil, VCons, VAbsent, VPresent, VLam, VRec, VProxy, VSeal, Values, no_values, value}
use Rattle.ac_terms.specs.Defs.{Environment}
use Rattle.ac_rules.specs.Views.{Mode, Plain, Coloured, opened_at_home, view}
use Rattle.ac_rules.specs.Typing.{tuple_parts, list_item, option_item}
use Rattle.ac_rules.specs.Plain.{where_there, in_front, packed, all_packed}
use Rattle.ac_rules.proofs.BareLaws.{closed}
use Rattle.ac_meaning.specs.Rebuilding.{parts_of, item_of, sealed, rebuilt, all_rebuilt, list_rebuilt}
use Rattle.ac_meaning.specs.Typed.{ValueTyped, ValuesTyped}
use Rattle.ac_round_trip.specs.Copies.{Copied, int, bool, string, unit, exception, tuple, nil, cons, absent, present, AllCopied, no_copies, copy}
use Rattle.ac_round_trip.specs.Strings.{IsData}
use Rattle.ac_round_trip.proofs.DataTypes.{AreData, of_parts, of_first, of_item, of_content, no_data_function, data_head, data_bare, first_of_all, rest_of_all}

-- a home sees such a type as it is
pub data_view : (mode : Mode) (E : Environment) (c : Home) (T : Typ) → mentions T ≡ [] → view mode E c T ≡ T
data_view Plain E c T h = data_bare E T h
data_view Coloured E c T h = closed (opened_at_home E c) T h

-- the value is typed over E in home c in the mode `from`, and rebuilt over F in home d in the mode `mode`
module _ (from mode : Mode) (E F : Environment) (f : ℕ → ℕ) (c d : Home) where
  abbrev Copy : Value → Typ → Value → Type 0
  Copy v T w = Copied mode E F f c v d T w

  abbrev Again : Value → Typ → Type 0
  Again v T = Copy v T (rebuilt mode F d T (packed E c v T))

  no_seals : (k : ℕ) (T : Typ) (make : Home → Typ → Value) → mentions T ≡ [] → sealed mode F k d T make ≡ make d T
  no_seals zero T make h = refl
  no_seals (suc k) (TAbs n t) make h = absurd cc
  no_seals (suc k) T make h = refl

  -- inside no seals, at the type that the value has
  at : (v : Value) (T U : Typ) → T ≡ U → Again v U → Again v T
  at v T U e p = subst (Again v) (sym e) p

  made : (v : Value) (T : Typ) (make : Home → Typ → Value) → mentions T ≡ [] → Copy v T (make d T) → Copy v T (sealed mode F (length F) d T make)
  made v T make h p = subst (Copy v T) (sym (no_seals (length F) T make h)) p

  -- a list is packed as a list
  record AsList (u : Value) (A : Typ) : Type 0 where
    items : PValues
    is_packed : packed E c u (TList A) ≡ KList items
    again : Copy u (TList A) (list_rebuilt mode F d (TList A) items)

  list_again : (u : Value) (A : Typ) → mentions A ≡ [] → AsList u A → Again u (TList A)
  list_again u A m l = subst (λ p. Copy u (TList A) (rebuilt mode F d (TList A) p)) (sym l.is_packed) (made u (TList A) (λ e U. list_rebuilt mode F e U l.items) m l.again)

  nil_list : (B A : Typ) → AsList (VNil B) A
  nil_list B A = record { items = no_pvalues; is_packed = refl; again = nil }

  cons_list : (v u : Value) (A : Typ) → mentions A ≡ [] → Again v A → AsList u A → AsList (VCons v u) A
  cons_list v u A m p l = record {
    items = pvalue (packed E c v A) l.items;
    is_packed = ap (λ H. in_front (where_there (list_item H) (λ U. packed E c v U)) (packed E c u (TList A))) (data_head E (TList A) m) ∙ ap (in_front (packed E c v A)) l.is_packed;
    again = cons p l.again;
  }

  tuple_again : (vs : Values) (Ts : Typs) → mentions (TTuple Ts) ≡ [] → AllCopied mode E F f c vs d Ts (all_rebuilt mode F d Ts (all_packed E c vs Ts)) → Again (VTuple vs) (TTuple Ts)
  tuple_again vs Ts m p =
      subst (λ H. Copy (VTuple vs) (TTuple Ts) (rebuilt mode F d (TTuple Ts) (where_there (tuple_parts H) (λ Us. KTuple (all_packed E c vs Us))))) (sym (data_head E (TTuple Ts) m))
      (made (VTuple vs) (TTuple Ts) (λ e U. VTuple (all_rebuilt mode F e (parts_of U) (all_packed E c vs Ts))) m (tuple p))

  option_again : (v : Value) (A : Typ) → mentions A ≡ [] → Again v A → Again (VPresent v) (TOpt A)
  option_again v A m p =
      subst (λ H. Copy (VPresent v) (TOpt A) (rebuilt mode F d (TOpt A) (where_there (option_item H) (λ U. KPresent (packed E c v U))))) (sym (data_head E (TOpt A) m))
      (made (VPresent v) (TOpt A) (λ e U. VPresent (rebuilt mode F e (item_of U) (packed E c v A))) m (present p))

  mutual
    pub data_copied : (v : Value) (T : Typ) → IsData T → ValueTyped from E v c T → Again v T
    data_copied (VInt n) T i t = at (VInt n) T TInt t (made (VInt n) TInt (λ e U. VInt n) refl int)
    data_copied (VBool b) T i t = at (VBool b) T TBool t (made (VBool b) TBool (λ e U. VBool b) refl bool)
    data_copied (VStr s) T i t = at (VStr s) T TStr t (made (VStr s) TStr (λ e U. VStr s) refl string)
    data_copied VUnit T i t = at VUnit T TUnit t (made VUnit TUnit (λ e U. VUnit) refl unit)
    data_copied (VExn k s) T i t = at (VExn k s) T TExn t (made (VExn k s) TExn (λ e U. VExn k s) refl exception)
    data_copied (VTuple vs) T i t =
        let j = of_parts t.0 (subst IsData t.1 i) in
        at (VTuple vs) T (TTuple t.0) t.1 (tuple_again vs t.0 j.no_name (all_data_copied vs t.0 j t.2))
    data_copied (VNil B) T i t =
        let j = of_item t.0 (subst IsData t.1 i) in
        at (VNil B) T (TList t.0) t.1 (list_again (VNil B) t.0 j.no_name (nil_list B t.0))
    data_copied (VCons v u) T i t =
        let j = of_item t.0 (subst IsData t.1 i) in
        at (VCons v u) T (TList t.0) t.1 (list_again (VCons v u) t.0 j.no_name (cons_list v u t.0 j.no_name (data_copied v t.0 j t.2) (is_list u t.0 j t.3)))
    data_copied (VAbsent B) T i t =
        let j = of_content t.0 (subst IsData t.1 i) in
        at (VAbsent B) T (TOpt t.0) t.1 (made (VAbsent B) (TOpt t.0) (λ e U. VAbsent U) j.no_name absent)
    data_copied (VPresent v) T i t =
        let j = of_content t.0 (subst IsData t.1 i) in
        at (VPresent v) T (TOpt t.0) t.1 (option_again v t.0 j.no_name (data_copied v t.0 j t.2))
    data_copied (VLam A e) T i t = absurd (no_data_function _ _ (subst IsData t.1 i))
    data_copied (VRec A B e) T i t = absurd (no_data_function _ _ (subst IsData t.0 i))
    data_copied (VProxy b A B v) T i t = absurd (no_data_function _ _ (subst IsData t.0 i))
    data_copied (VSeal b n u v) T i t = let m : mentions (TAbs n u) ≡ [] = (subst IsData t.0 i).no_name in absurd cc

    is_list : (u : Value) (A : Typ) → IsData A → ValueTyped from E u c (TList A) → AsList u A
    is_list (VNil B) A i t = nil_list B A
    is_list (VCons v u) A i t =
        let e : A ≡ t.0 = ap item_of t.1 in
        cons_list v u A i.no_name (data_copied v A i (subst (ValueTyped from E v c) (sym e) t.2)) (is_list u A i (subst (λ B. ValueTyped from E u c (TList B)) (sym e) t.3))
    is_list (VTuple vs) A i t = let e = t.1 in absurd cc
    is_list (VAbsent B) A i t = let e = t.1 in absurd cc
    is_list (VPresent v) A i t = let e = t.1 in absurd cc
    is_list (VLam B e) A i t = let q = t.1 in absurd cc
    is_list (VRec B U e) A i t = let q = t.0 in absurd cc
    is_list (VProxy b B U v) A i t = let q = t.0 in absurd cc
    is_list (VSeal b n x v) A i t = let q = t.0 in absurd cc
    is_list (VInt n) A i t = absurd cc
    is_list (VBool b) A i t = absurd cc
    is_list (VStr s) A i t = absurd cc
    is_list VUnit A i t = absurd cc
    is_list (VExn k s) A i t = absurd cc

    all_data_copied : (vs : Values) (Ts : Typs) → AreData Ts → ValuesTyped from E vs c Ts → AllCopied mode E F f c vs d Ts (all_rebuilt mode F d Ts (all_packed E c vs Ts))
    all_data_copied no_values no_types i t = no_copies
    all_data_copied no_values (typ T Ts) i t = absurd cc
    all_data_copied (value v vs) no_types i t = let e = t.2 in absurd cc
    all_data_copied (value v vs) (typ T Ts) i t =
        let j = of_first T Ts i in
        let e : T ≡ t.0 = ap first_of_all t.2 in
        let r : Ts ≡ t.1 = ap rest_of_all t.2 in
        copy (data_copied v T j.0 (subst (ValueTyped from E v c) (sym e) t.3)) (all_data_copied vs Ts j.1 (subst (ValuesTyped from E vs c) (sym r) t.4))
