-- What a seal says stays the same as the definitions grow.
use Rattle.std.proofs.Common.{◌≡◌, refl, sym, ap, ap₂, ◌∙◌, subst, Bool, true, false, cond, List, [], Option, Some}
use Rattle.std.specs.Prelude.{◌||◌, option_map, option_to_list}
use Rattle.std.specs.List.{list_all}
use mathlib.Core.Bool.{true≢false}
use Rattle.ac_types.specs.Partial.{given}
use Rattle.ac_types.specs.Types.{Bytes, Typ, TTuple, TList, TOpt, TFun, TAbs, Typs, no_types, typ, mentions, mentions_of_all, has_function, have_function}
use Rattle.ac_terms.specs.Terms.{Home, PValue, KTuple, KPresent, pvalue, Value, VTuple, VCons, VPresent, VLam, VRec, VProxy, VSeal, Values, no_values, value}
use Rattle.ac_terms.specs.Defs.{Environment}
use Rattle.ac_rules.specs.Views.{Plain, Coloured, bare, view, head, opened, is_known, are_known}
use Rattle.ac_rules.specs.Typing.{tuple_parts, list_item, option_item}
use Rattle.ac_rules.specs.Plain.{where_there, in_front, packed, all_packed, all_travel, plain}
use Rattle.ac_rules.specs.Coherent.{IsCoherent}
use Rattle.ac_terms.proofs.AllLaws.{all_left, all_right}
use Rattle.ac_rules.specs.Growth.{Widening}
use Rattle.ac_meaning.specs.Typed.{as_seen, ValueTyped, ValuesTyped}
use Rattle.ac_rules.proofs.KnownTypes.{head_known, opened_known}
use Rattle.ac_rules.proofs.Growth.{head_same, opened_same, bare_same}
use Rattle.ac_meaning.proofs.Homes.{all_seen, seen_tuple, seen_list, seen_opt, seen_fun, view_again}
use Rattle.ac_colours.proofs.SealsLaw.{and_left}
use Rattle.ac_colours.specs.Births.{seal, Birth, birth, told}

-- a value without a function
abbrev mutual
  pub IsData : Value → Type 0
  IsData (VTuple vs) = AreData vs
  IsData (VCons v w) = IsData v × IsData w
  IsData (VPresent v) = IsData v
  IsData (VLam T e) = ⊥
  IsData (VRec T U e) = ⊥
  IsData (VProxy b T U f) = ⊥
  IsData (VSeal b n t v) = IsData v
  IsData v = Unit {0}

  pub AreData : Values → Type 0
  AreData no_values = Unit {0}
  AreData (value v vs) = IsData v × AreData vs

-- in larger definitions it is packed as before
module _ (E F : Environment) (g : Widening E F) where
  parts_same : (X : Typ) → are_known E X ≡ true → (f f' : Typs → PValue) → ((Ts : Typs) → list_all (is_known E) (mentions_of_all Ts) ≡ true → f' Ts ≡ f Ts) → where_there (tuple_parts X) f' ≡ where_there (tuple_parts X) f
  parts_same (TTuple Ts) k f f' h = h Ts k
  parts_same _ k f f' h = refl

  item_same : (X : Typ) → are_known E X ≡ true → (f f' : Typ → PValue) → ((T : Typ) → are_known E T ≡ true → f' T ≡ f T) → where_there (list_item X) f' ≡ where_there (list_item X) f
  item_same (TList T) k f f' h = h T k
  item_same _ k f f' h = refl

  option_same : (X : Typ) → are_known E X ≡ true → (f f' : Typ → PValue) → ((T : Typ) → are_known E T ≡ true → f' T ≡ f T) → where_there (option_item X) f' ≡ where_there (option_item X) f
  option_same (TOpt T) k f f' h = h T k
  option_same _ k f f' h = refl

  mutual
    packed_same : (v : Value) (c : Home) (T : Typ) → IsData v → are_known E T ≡ true → packed F c v T ≡ packed E c v T
    packed_same (VTuple vs) c T d k =
        ap (λ X. where_there (tuple_parts X) (λ Ts. KTuple (all_packed F c vs Ts))) (head_same E F g T k) ∙
        parts_same (head E T) (head_known E g.before T k) (λ Ts. KTuple (all_packed E c vs Ts)) (λ Ts. KTuple (all_packed F c vs Ts)) (λ Ts l. ap KTuple (all_packed_same vs c Ts d l))
    packed_same (VCons v w) c T d k =
        ap₂ in_front
        (ap (λ X. where_there (list_item X) (λ U. packed F c v U)) (head_same E F g T k) ∙ item_same (head E T) (head_known E g.before T k) (λ U. packed E c v U) (λ U. packed F c v U) (λ U l. packed_same v c U d.0 l))
        (packed_same w c T d.1 k)
    packed_same (VPresent v) c T d k =
        ap (λ X. where_there (option_item X) (λ U. KPresent (packed F c v U))) (head_same E F g T k) ∙
        option_same (head E T) (head_known E g.before T k) (λ U. KPresent (packed E c v U)) (λ U. KPresent (packed F c v U)) (λ U l. ap KPresent (packed_same v c U d l))
    packed_same (VLam A e) c T d k = absurd d
    packed_same (VRec A B e) c T d k = absurd d
    packed_same (VProxy b A B f) c T d k = absurd d
    packed_same (VSeal b n t v) c T d k = packed_same v b T d k
    packed_same _ c T d k = refl

    all_packed_same : (vs : Values) (c : Home) (Ts : Typs) → AreData vs → list_all (is_known E) (mentions_of_all Ts) ≡ true → all_packed F c vs Ts ≡ all_packed E c vs Ts
    all_packed_same no_values c no_types d k = refl
    all_packed_same (value v vs) c (typ T Ts) d k = ap₂ pvalue (packed_same v c T d.0 (all_left (is_known E) (mentions T) (mentions_of_all Ts) k)) (all_packed_same vs c Ts d.1 (all_right (is_known E) (mentions T) (mentions_of_all Ts) k))
    all_packed_same no_values c (typ T Ts) d k = refl
    all_packed_same (value v vs) c no_types d k = refl

-- a value of a first-order type has no function
module _ (E : Environment) (coherent : IsCoherent E) where
  abbrev pub Flat : Typ → Type 0
  Flat T = has_function (view Plain E Home.Main T) ≡ false

  pub or_left : (a b : Bool) → (a || b) ≡ false → a ≡ false
  or_left true b h = h
  or_left false b h = refl

  pub or_right : (a b : Bool) → (a || b) ≡ false → b ≡ false
  or_right true b h = absurd (true≢false h)
  or_right false b h = h

  abbrev pub AllFlat : Typs → Type 0
  AllFlat Ts = have_function (all_seen E Plain Home.Main Ts) ≡ false

  pub flat_tuple : (Ts : Typs) → Flat (TTuple Ts) → AllFlat Ts
  flat_tuple Ts h = sym (ap has_function (seen_tuple E Plain Home.Main Ts)) ∙ h

  pub flat_list : (T : Typ) → Flat (TList T) → Flat T
  flat_list T h = sym (ap has_function (seen_list E Plain Home.Main T)) ∙ h

  pub flat_opt : (T : Typ) → Flat (TOpt T) → Flat T
  flat_opt T h = sym (ap has_function (seen_opt E Plain Home.Main T)) ∙ h

  pub flat_fun : (T U : Typ) → Flat (TFun T U) → ⊥
  flat_fun T U h = true≢false (sym (ap has_function (seen_fun E Plain Home.Main T U)) ∙ h)

  -- what a home sees of it is first-order too
  pub flat_seen : (c : Home) (T : Typ) → are_known E T ≡ true → Flat T → Flat (view Coloured E c T)
  flat_seen c T k h = ap has_function (view_again E coherent Plain c T k) ∙ h

  mutual
    pub data_of : (v : Value) (c : Home) (T : Typ) → Flat T → ValueTyped Coloured E v c T → IsData v
    data_of (VTuple vs) c T f h = all_data_of vs c h.0 (flat_tuple h.0 (subst Flat h.1 f)) h.2
    data_of (VCons v w) c T f h = let p = subst Flat h.1 f in (data_of v c h.0 (flat_list h.0 p) h.2, data_of w c (TList h.0) p h.3)
    data_of (VPresent v) c T f h = data_of v c h.0 (flat_opt h.0 (subst Flat h.1 f)) h.2
    data_of (VLam A e) c T f h = flat_fun (as_seen Coloured E c A) h.0 (subst Flat h.1 f)
    data_of (VRec A B e) c T f h = flat_fun (as_seen Coloured E c A) (as_seen Coloured E c B) (subst Flat h.0 f)
    data_of (VProxy b A B w) c T f h = flat_fun (as_seen Coloured E c A) (as_seen Coloured E c B) (subst Flat h.0 f)
    data_of (VSeal b n t v) c T f h = data_of v b (as_seen Coloured E b (TAbs n t)) (flat_seen b (TAbs n t) h.1 (subst Flat h.0 f)) h.4
    data_of _ c T f h = tt

    all_data_of : (vs : Values) (c : Home) (Ts : Typs) → AllFlat Ts → ValuesTyped Coloured E vs c Ts → AreData vs
    all_data_of no_values c Ts f h = tt
    all_data_of (value v vs) c Ts f h =
        let p : AllFlat (typ h.0 h.1) = subst AllFlat h.2 f in
        (data_of v c h.0 (or_left (has_function (view Plain E Home.Main h.0)) (have_function (all_seen E Plain Home.Main h.1)) p) h.3, all_data_of vs c h.1 (or_right (has_function (view Plain E Home.Main h.0)) (have_function (all_seen E Plain Home.Main h.1)) p) h.4)

pub told_same : (E F : Environment) → Widening E F → (b c : Home) (n t : Bytes) (v : Value) (T : Typ) → ValueTyped Coloured E (VSeal b n t v) c T → told F (seal b n t v) ≡ told E (seal b n t v)
told_same E F g b c n t v T h = ap (λ X. at F (has_function X)) (bare_same E F g (TAbs n t) h.1) ∙ by (has_function (bare E (TAbs n t))) refl
  where
    say : Option PValue → List Birth
    say o = option_to_list (option_map (birth n t) o)

    at : Environment → Bool → List Birth
    at G x = cond x [] (say (plain G b v (opened G n t)))

    by : (x : Bool) → has_function (bare E (TAbs n t)) ≡ x → at F x ≡ at E x
    by true q = refl
    by false q =
        let k : is_known E (n, t) ≡ true = and_left (is_known E (n, t)) true h.1 in
        let d = data_of E g.before v b (as_seen Coloured E b (TAbs n t)) (flat_seen E g.before b (TAbs n t) h.1 q) h.4 in
        let e = packed_same E F g v b (opened E n t) d (opened_known E g.before n t k) in
        ap (λ R. say (plain F b v R)) (opened_same E F g n t k) ∙ ap (λ w. say (given (all_travel w) (Some w))) e
