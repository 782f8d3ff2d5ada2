-- What a value looks like that has a type by the rules.
use Rattle.std.proofs.Common.{◌≡◌, refl, sym, ap, ap₂, ◌∙◌, subst, ℕ, Bool, true, false, Option, Some, ◌⊎◌, inl, inr}
use Rattle.std.specs.Prelude.{ℤ, ◌&&◌, not, option_map, option_and_then}
use Rattle.ac_types.specs.Partial.{given, agree, has}
use Rattle.ac_types.proofs.FirstLaws.{some_eq, given_some}
use Rattle.ac_types.proofs.Same.{both_true, and_true, same_refl}
use Rattle.ac_types.specs.Types.{Bytes, Typ, TInt, TBool, TStr, TUnit, TExn, TTuple, TList, TOpt, TFun, TAbs, TMine, Typs, no_types, typ, is_small}
use Rattle.ac_terms.specs.Terms.{Home, Value, VInt, VBool, VStr, VUnit, VExn, VTuple, VNil, VCons, VAbsent, VPresent, VLam, VRec, VProxy, VSeal, Values, no_values, value}
use Rattle.ac_terms.specs.Defs.{Environment}
use Rattle.ac_terms.specs.PrimitiveTypes.{is_exception}
use Rattle.ac_rules.specs.Views.{Coloured, view, opens, are_known}
use Rattle.ac_rules.specs.Typing.{all_of, bind, is_home, type_of, type_seen, value_type, value_types, a_list, an_option, kept_in}
use Rattle.ac_rules.proofs.Rules.{map_some, then_some, both_some, also_some, kept_some, agree_some}
use Rattle.ac_meaning.specs.Brackets.{is_function_value}
use Rattle.ac_meaning.proofs.FromTypes.{a_list_is, an_option_is}
use Rattle.ac_meaning.proofs.Homes.{view_shut}
use Rattle.ac_meaning.proofs.WithinSources.{kept_small}
use Rattle.ac_colours.proofs.SmallViews.{keep}

pub shut : (b : Bool) → not b ≡ true → b ≡ false
shut true e = sym e
shut false e = refl

module _ (E : Environment) where
  abbrev pub type_in : Home → Value → Option Typ
  type_in c v = value_type Coloured false E c v

  abbrev pub types_in : Home → Values → Option Typs
  types_in c vs = value_types Coloured false E c vs

  abbrev pub seen_in : Home → Typ → Option Typ
  seen_in c T = type_seen Coloured false E c T

  -- a type that is seen is known, and is the view
  pub seen_is : (c : Home) (T U : Typ) → seen_in c T ≡ Some U → (are_known E T ≡ true) × (view Coloured E c T ≡ U)
  seen_is c T U h = let p = given_some (are_known E T) (Some (view Coloured E c T)) h in (p.0, some_eq p.1)

  pub is_seen : (c : Home) (T : Typ) → are_known E T ≡ true → seen_in c T ≡ Some (view Coloured E c T)
  is_seen c T k = ap (λ b. given b (Some (view Coloured E c T))) k

  -- what two agree on, where one is what is seen
  pub agrees : (c : Home) (T : Typ) (o : Option Typ) → agree o (seen_in c T) ≡ true → (are_known E T ≡ true) × (o ≡ Some (view Coloured E c T))
  agrees c T o h =
      let a = agree_some o (seen_in c T) h in
      let p = seen_is c T a.0 a.2 in
      (p.0, a.1 ∙ ap Some (sym p.1))

  -- by the head of the type
  abbrev pub Looks : Typ → Home → Value → Type 0
  Looks TInt c v = (n : ℤ) × (v ≡ VInt n)
  Looks TBool c v = (b : Bool) × (v ≡ VBool b)
  Looks TStr c v = (s : Bytes) × (v ≡ VStr s)
  Looks TUnit c v = v ≡ VUnit
  Looks TExn c v = (k : ℕ) × (s : Option Bytes) × (v ≡ VExn k s) × (is_exception k s ≡ true)
  Looks (TTuple Ts) c v = (vs : Values) × (v ≡ VTuple vs) × (types_in c vs ≡ Some Ts)
  Looks (TList A) c v = ((B : Typ) × (v ≡ VNil B)) ⊎ ((x y : Value) × (v ≡ VCons x y) × (type_in c x ≡ Some A) × (type_in c y ≡ Some (TList A)))
  Looks (TOpt A) c v = ((B : Typ) × (v ≡ VAbsent B)) ⊎ ((x : Value) × (v ≡ VPresent x) × (type_in c x ≡ Some A))
  Looks (TFun A B) c v = is_function_value v ≡ true
  Looks (TAbs n t) c v = (d : Home) × (w : Value) × (v ≡ VSeal d n t w) × (are_known E (TAbs n t) ≡ true) × (opens Coloured E d n ≡ true) × (type_in d w ≡ Some (view Coloured E d (TAbs n t))) × (is_home E d ≡ true)
  Looks (TMine t) c v = ⊥

  -- what the rule of a seal says
  pub sealed_is : (d c : Home) (n t : Bytes) (w : Value) (U : Typ) → type_in c (VSeal d n t w) ≡ Some U →
      (TAbs n t ≡ U) × (are_known E (TAbs n t) ≡ true) × (opens Coloured E d n ≡ true) × (opens Coloured E c n ≡ false) × (type_in d w ≡ Some (view Coloured E d (TAbs n t))) × (is_home E d ≡ true)
  sealed_is d c n t w U h =
      let p = given_some (is_home E d && opens Coloured E d n && not (opens Coloured E c n) && agree (type_in d w) (seen_in d (TAbs n t))) (seen_in c (TAbs n t)) h in
      let q = both_true _ _ p.0 in
      let r = both_true (is_home E d && opens Coloured E d n) (not (opens Coloured E c n)) q.0 in
      let s = both_true (is_home E d) (opens Coloured E d n) r.0 in
      let x = seen_is c (TAbs n t) U p.1 in
      let y = agrees d (TAbs n t) (type_in d w) q.1 in
      let z : opens Coloured E c n ≡ false = shut (opens Coloured E c n) r.1 in
      (sym (view_shut E Coloured c n t z) ∙ x.1, x.0, s.1, z, y.1, s.0)

  -- and of a proxy
  pub proxy_is : (b c : Home) (A B : Typ) (f : Value) (U : Typ) → type_in c (VProxy b A B f) ≡ Some U →
      (view Coloured E c (TFun A B) ≡ U) × (are_known E (TFun A B) ≡ true) × (type_in b f ≡ Some (view Coloured E b (TFun A B))) × (is_home E b ≡ true)
  proxy_is b c A B f U h =
      let p = given_some (is_home E b && agree (type_in b f) (seen_in b (TFun A B))) _ h in
      let q = both_true (is_home E b) (agree (type_in b f) (seen_in b (TFun A B))) p.0 in
      let x = seen_is c (TFun A B) U (kept_some Coloured (seen_in c (TFun A B)) U p.1) in
      (x.1, x.0, (agrees b (TFun A B) (type_in b f) q.1).1, q.0)

  -- where a seal, or a proxy, has a type
  pub sealed_has : (d c : Home) (n t : Bytes) (w : Value) → are_known E (TAbs n t) ≡ true → opens Coloured E d n ≡ true → opens Coloured E c n ≡ false → type_in d w ≡ Some (view Coloured E d (TAbs n t)) → is_home E d ≡ true → type_in c (VSeal d n t w) ≡ Some (view Coloured E c (TAbs n t))
  sealed_has d c n t w k p q h o =
      let X = view Coloured E d (TAbs n t) in
      let same' : agree (type_in d w) (seen_in d (TAbs n t)) ≡ true = ap₂ agree h (is_seen d (TAbs n t) k) ∙ same_refl X in
      let first : (is_home E d && opens Coloured E d n) ≡ true = and_true {a = is_home E d} {b = opens Coloured E d n} o p in
      let both : (is_home E d && opens Coloured E d n && not (opens Coloured E c n)) ≡ true = and_true {a = is_home E d && opens Coloured E d n} {b = not (opens Coloured E c n)} first (ap not q) in
      ap (λ b. given b (seen_in c (TAbs n t))) (and_true {a = is_home E d && opens Coloured E d n && not (opens Coloured E c n)} {b = agree (type_in d w) (seen_in d (TAbs n t))} both same') ∙ is_seen c (TAbs n t) k

  pub proxy_has : (b c : Home) (A B : Typ) (f : Value) → are_known E (TFun A B) ≡ true → type_in b f ≡ Some (view Coloured E b (TFun A B)) → is_home E b ≡ true → is_small (view Coloured E c (TFun A B)) ≡ true → type_in c (VProxy b A B f) ≡ Some (view Coloured E c (TFun A B))
  proxy_has b c A B f k h o s =
      let same' : agree (type_in b f) (seen_in b (TFun A B)) ≡ true = ap₂ agree h (is_seen b (TFun A B) k) ∙ same_refl (view Coloured E b (TFun A B)) in
      ap₂ (λ t y. given t (kept_in Coloured y)) (and_true {a = is_home E b} {b = agree (type_in b f) (seen_in b (TFun A B))} o same') (is_seen c (TFun A B) k) ∙ keep (view Coloured E c (TFun A B)) s

  -- the type is small
  pub value_small : (v : Value) (c : Home) (U : Typ) → type_in c v ≡ Some U → is_small U ≡ true
  value_small (VInt n) c U h = subst (λ X. is_small X ≡ true) (some_eq h) refl
  value_small (VBool b) c U h = subst (λ X. is_small X ≡ true) (some_eq h) refl
  value_small (VStr s) c U h = subst (λ X. is_small X ≡ true) (some_eq h) refl
  value_small VUnit c U h = subst (λ X. is_small X ≡ true) (some_eq h) refl
  value_small (VExn k s) c U h = subst (λ X. is_small X ≡ true) (some_eq (given_some (is_exception k s) (Some TExn) h).1) refl
  value_small (VTuple vs) c U h = kept_small (option_map TTuple (types_in c vs)) U h
  value_small (VNil A) c U h = kept_small (option_and_then a_list (seen_in c A)) U h
  value_small (VCons v w) c U h = value_small w c U (both_some _ (type_in c w) U h).1
  value_small (VAbsent A) c U h = kept_small (option_and_then an_option (seen_in c A)) U h
  value_small (VPresent v) c U h = kept_small (option_map TOpt (type_in c v)) U h
  value_small (VLam A e) c U h =
      let p = then_some _ (seen_in c A) U h in
      kept_small (option_map (TFun p.0) (type_of Coloured false E (bind p.0 (all_of E c)) e)) U p.2
  value_small (VRec A B e) c U h =
      let p = then_some _ (seen_in c A) U h in
      let q = then_some _ (seen_in c B) U p.2 in
      kept_small (given (has (type_of Coloured false E (bind p.0 (bind (TFun p.0 q.0) (all_of E c))) e) q.0) (Some (TFun p.0 q.0))) U q.2
  value_small (VProxy b A B f) c U h = kept_small (seen_in c (TFun A B)) U (given_some _ (kept_in Coloured (seen_in c (TFun A B))) h).1
  value_small (VSeal b n t v) c U h = subst (λ X. is_small X ≡ true) (sealed_is b c n t v U h).0 refl

  pub looks : (v : Value) (c : Home) (U : Typ) → type_in c v ≡ Some U → Looks U c v
  looks (VInt n) c U h = subst (λ X. Looks X c (VInt n)) (some_eq h) (n, refl)
  looks (VBool b) c U h = subst (λ X. Looks X c (VBool b)) (some_eq h) (b, refl)
  looks (VStr s) c U h = subst (λ X. Looks X c (VStr s)) (some_eq h) (s, refl)
  looks VUnit c U h = subst (λ X. Looks X c VUnit) (some_eq h) refl
  looks (VExn k s) c U h = let p = given_some (is_exception k s) (Some TExn) h in subst (λ X. Looks X c (VExn k s)) (some_eq p.1) (k, s, refl, p.0)
  looks (VTuple vs) c U h = let p = map_some TTuple (types_in c vs) U (kept_some Coloured _ U h) in subst (λ X. Looks X c (VTuple vs)) p.2 (vs, refl, p.1)
  looks (VNil A) c U h =
      let p = then_some a_list (seen_in c A) U (kept_some Coloured _ U h) in
      subst (λ X. Looks X c (VNil A)) (sym (a_list_is p.0 U p.2).1) (inl (A, refl))
  looks (VCons v w) c U h =
      let p = both_some _ (type_in c w) U h in
      let q = map_some TList (type_in c v) U p.0 in
      subst (λ X. Looks X c (VCons v w)) q.2 (inr (v, w, refl, q.1, p.1 ∙ ap Some (sym q.2)))
  looks (VAbsent A) c U h =
      let p = then_some an_option (seen_in c A) U (kept_some Coloured _ U h) in
      subst (λ X. Looks X c (VAbsent A)) (sym (an_option_is p.0 U p.2).1) (inl (A, refl))
  looks (VPresent v) c U h = let p = map_some TOpt (type_in c v) U (kept_some Coloured _ U h) in subst (λ X. Looks X c (VPresent v)) p.2 (inr (v, refl, p.1))
  looks (VLam A e) c U h =
      let p = then_some _ (seen_in c A) U h in
      let q = map_some (TFun p.0) (type_of Coloured false E (bind p.0 (all_of E c)) e) U (kept_some Coloured _ U p.2) in
      subst (λ X. Looks X c (VLam A e)) q.2 refl
  looks (VRec A B e) c U h =
      let p = then_some _ (seen_in c A) U h in
      let q = then_some _ (seen_in c B) U p.2 in
      let r = given_some _ (Some (TFun p.0 q.0)) (kept_some Coloured _ U q.2) in
      subst (λ X. Looks X c (VRec A B e)) (some_eq r.1) refl
  looks (VProxy b A B f) c U h = subst (λ X. Looks X c (VProxy b A B f)) (proxy_is b c A B f U h).0 refl
  looks (VSeal d n t w) c U h = let p = sealed_is d c n t w U h in subst (λ X. Looks X c (VSeal d n t w)) p.0 (d, w, refl, p.1, p.2, p.4, p.5)

  -- the values of some types
  pub values_look : (vs : Values) (c : Home) (U : Typ) (Us : Typs) → types_in c vs ≡ Some (typ U Us) → (v : Value) × (ws : Values) × (vs ≡ value v ws) × (type_in c v ≡ Some U) × (types_in c ws ≡ Some Us)
  values_look no_values c U Us h = absurd cc
  values_look (value v ws) c U Us h =
      let p = also_some (type_in c v) (types_in c ws) (typ U Us) h in
      let q = p.4 in
      let x : p.0 ≡ U = cc in
      let y : p.1 ≡ Us = cc in
      (v, ws, refl, p.2 ∙ ap Some x, p.3 ∙ ap Some y)

  pub no_values_look : (vs : Values) (c : Home) → types_in c vs ≡ Some no_types → vs ≡ no_values
  no_values_look no_values c h = refl
  no_values_look (value v ws) c h = let p = also_some (type_in c v) (types_in c ws) no_types h in let q = p.4 in absurd cc
