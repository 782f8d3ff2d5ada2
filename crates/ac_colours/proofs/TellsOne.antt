-- All of a typed value without a function travels; so a typed seal at a first-order type tells exactly one thing.
use Rattle.std.proofs.Common.{◌≡◌, refl, sym, ap, ◌∙◌, subst, ℕ, suc, Bool, true, cond, List, [], ◌∷◌, ◌++◌, Option, Some}
use Rattle.std.specs.Prelude.{option_map, option_to_list}
use Rattle.std.specs.List.{list_all}
use Rattle.ac_types.proofs.Same.{and_true, both_true}
use Rattle.ac_types.specs.Partial.{given}
use Rattle.ac_types.specs.Types.{Bytes, Typ, TTuple, TList, TOpt, TUnit, TAbs, Typs, no_types, typ, mentions, mentions_of_all}
use Rattle.ac_terms.specs.Terms.{Home, PValue, KTuple, KList, KPresent, PValues, no_pvalues, pvalue, Value, VInt, VBool, VStr, VUnit, VExn, VTuple, VNil, VCons, VAbsent, VPresent, VLam, VRec, VProxy, VSeal, Values, no_values, value}
use Rattle.ac_terms.specs.Defs.{Environment}
use Rattle.ac_terms.specs.Spelling.{two_written}
use Rattle.ac_terms.specs.Heads.{Head, value_heads, all_value_heads}
use Rattle.ac_rules.specs.Views.{Coloured, view, head, opened, is_known, are_known, IsFirstOrder}
use Rattle.ac_rules.specs.Typing.{tuple_parts, list_item, option_item}
use Rattle.ac_rules.specs.Plain.{where_there, in_front, packed, all_packed, all_travel, plain, PlainValue}
use Rattle.ac_rules.specs.Coherent.{IsCoherent}
use Rattle.ac_terms.proofs.AllLaws.{all_left, all_right}
use Rattle.ac_rules.proofs.KnownTypes.{head_known, head_step, opened_known}
use Rattle.ac_rules.proofs.HeadViews.{head_seen}
use Rattle.ac_meaning.specs.Typed.{ValueTyped, ValuesTyped}
use Rattle.ac_meaning.proofs.Homes.{all_seen}
use Rattle.ac_meaning.proofs.HeadsSeen.{at_head, tuple_at, list_at, option_at}
use Rattle.ac_colours.specs.Births.{seal, Birth, told}
use Rattle.ac_colours.proofs.SealsLaw.{and_left}
use Rattle.ac_colours.proofs.Telling.{IsData, AreData, flat_seen, data_of}

abbrev travel : List Head → Bool
travel hs = list_all (λ (h : Head). h.travels) hs

travel_both : (hs ks : List Head) → travel hs ≡ true → travel ks ≡ true → travel (hs ++ ks) ≡ true
travel_both [] ks a b = b
travel_both (h ∷ hs) ks a b = let c = both_true h.travels (travel hs) a in and_true {a = h.travels} {b = travel (hs ++ ks)} c.0 (travel_both hs ks c.1 b)

abbrev rest_of : Typs → Typs
rest_of (typ T Ts) = Ts
rest_of no_types = no_types

abbrev first_of : Typs → Typ
first_of (typ T Ts) = T
first_of no_types = TUnit

module _ (E : Environment) (coherent : IsCoherent E) where
  -- a type in a home is what the home sees of a type that comes to T
  record Sees (c : Home) (X T : Typ) : Type 0 where
    from : Typ
    known : are_known E from ≡ true
    seen : X ≡ view Coloured E c from
    to : head E from ≡ head E T

  abbrev Travels : PValue → Type 0
  Travels w = (d : ℕ) → travel (value_heads two_written d w) ≡ true

  abbrev AllTravel : PValues → Type 0
  AllTravel ws = (d : ℕ) → travel (all_value_heads two_written d ws) ≡ true

  -- a list is packed to a list
  listed : (v : Value) (c : Home) (A T : Typ) → ValueTyped Coloured E v c (TList A) → (ws : PValues) × (packed E c v T ≡ KList ws)
  listed (VNil U) c A T t = (no_pvalues, refl)
  listed (VCons v w) c A T t =
      let r = listed w c t.0 T t.3 in
      let x : PValue = where_there (list_item (head E T)) (λ U. packed E c v U) in
      (pvalue x r.0, ap (in_front x) r.1)
  listed (VInt n) c A T t = absurd cc
  listed (VBool n) c A T t = absurd cc
  listed (VStr n) c A T t = absurd cc
  listed VUnit c A T t = absurd cc
  listed (VExn k n) c A T t = absurd cc
  listed (VTuple vs) c A T t = let e = t.1 in absurd cc
  listed (VAbsent U) c A T t = let e = t.1 in absurd cc
  listed (VPresent v) c A T t = let e = t.1 in absurd cc
  listed (VLam U e) c A T t = let e = t.1 in absurd cc
  listed (VRec U W e) c A T t = let e = t.0 in absurd cc
  listed (VProxy b U W f) c A T t = let e = t.0 in absurd cc
  listed (VSeal b n s v) c A T t = let e = t.0 in absurd cc

  in_front_travels : (x y : PValue) (ws : PValues) → y ≡ KList ws → Travels x → Travels y → Travels (in_front x y)
  in_front_travels x y ws e f g = subst (λ y. Travels (in_front x y)) (sym e) (λ d. travel_both (value_heads two_written (suc d) x) (all_value_heads two_written (suc d) ws) (f (suc d)) (subst Travels e g d))

  mutual
    travels : (v : Value) (c : Home) (X T : Typ) → IsData v → are_known E T ≡ true → ValueTyped Coloured E v c X → Sees c X T → Travels (packed E c v T)
    travels (VTuple vs) c X T i k t s =
        let a = at_head E coherent Coloured c s.from (TTuple t.0) s.known tt (sym s.seen ∙ t.1) in
        let r = tuple_at E coherent Coloured c (head E s.from) t.0 a.0 a.1 in
        let e : head E T ≡ TTuple r.0 = sym s.to ∙ r.1 in
        let known : list_all (is_known E) (mentions_of_all r.0) ≡ true = subst (λ H. are_known E H ≡ true) e (head_known E coherent T k) in
        subst (λ H. Travels (where_there (tuple_parts H) (λ Ts. KTuple (all_packed E c vs Ts)))) (sym e) (λ d. all_travels vs c t.0 r.0 i known t.2 r.2 (suc d))
    travels (VNil U) c X T i k t s = λ d. refl
    travels (VCons v w) c X T i k t s =
        let a = at_head E coherent Coloured c s.from (TList t.0) s.known tt (sym s.seen ∙ t.1) in
        let r = list_at E coherent Coloured c (head E s.from) t.0 a.0 a.1 in
        let e : head E T ≡ TList r.0 = sym s.to ∙ r.1 in
        let known : are_known E r.0 ≡ true = subst (λ H. are_known E H ≡ true) e (head_known E coherent T k) in
        let l = listed w c t.0 T t.3 in
        subst (λ H. Travels (in_front (where_there (list_item H) (λ U. packed E c v U)) (packed E c w T))) (sym e)
        (in_front_travels (packed E c v r.0) (packed E c w T) l.0 l.1 (travels v c t.0 r.0 i.0 known t.2 (record { from = r.0; known = known; seen = sym r.2; to = refl }))
        (travels w c (TList t.0) T i.1 k t.3 (record { from = s.from; known = s.known; seen = sym t.1 ∙ s.seen; to = s.to })))
    travels (VAbsent U) c X T i k t s = λ d. refl
    travels (VPresent v) c X T i k t s =
        let a = at_head E coherent Coloured c s.from (TOpt t.0) s.known tt (sym s.seen ∙ t.1) in
        let r = option_at E coherent Coloured c (head E s.from) t.0 a.0 a.1 in
        let e : head E T ≡ TOpt r.0 = sym s.to ∙ r.1 in
        let known : are_known E r.0 ≡ true = subst (λ H. are_known E H ≡ true) e (head_known E coherent T k) in
        subst (λ H. Travels (where_there (option_item H) (λ U. KPresent (packed E c v U)))) (sym e) (λ d. travels v c t.0 r.0 i known t.2 (record { from = r.0; known = known; seen = sym r.2; to = refl }) (suc d))
    travels (VLam A e) c X T i k t s = absurd i
    travels (VRec A B e) c X T i k t s = absurd i
    travels (VProxy b A B f) c X T i k t s = absurd i
    travels (VSeal b n u v) c X T i k t s =
        travels v b (view Coloured E b (TAbs n u)) T i k t.4 (record { from = TAbs n u; known = t.1; seen = refl; to = head_seen E coherent c s.from n u s.known (sym s.seen ∙ t.0) ∙ s.to })
    travels (VInt n) c X T i k t s = λ d. refl
    travels (VBool n) c X T i k t s = λ d. refl
    travels (VStr n) c X T i k t s = λ d. refl
    travels VUnit c X T i k t s = λ d. refl
    travels (VExn j n) c X T i k t s = λ d. refl

    all_travels : (vs : Values) (c : Home) (Us Ts : Typs) → AreData vs → list_all (is_known E) (mentions_of_all Ts) ≡ true → ValuesTyped Coloured E vs c Us → all_seen E Coloured c Ts ≡ Us → AllTravel (all_packed E c vs Ts)
    all_travels no_values c Us no_types i k t e = λ d. refl
    all_travels no_values c Us (typ T Ts) i k t e = absurd cc
    all_travels (value v vs) c Us no_types i k t e = let f = t.2 in absurd cc
    all_travels (value v vs) c Us (typ T Ts) i k t e =
        let known = all_left (is_known E) (mentions T) (mentions_of_all Ts) k in
        let one : view Coloured E c T ≡ t.0 = ap first_of (e ∙ t.2) in
        let f = travels v c t.0 T i.0 known t.3 (record { from = T; known = known; seen = sym one; to = refl }) in
        let g = all_travels vs c t.1 Ts i.1 (all_right (is_known E) (mentions T) (mentions_of_all Ts) k) t.4 (ap rest_of (e ∙ t.2)) in
        λ d. travel_both (value_heads two_written d (packed E c v T)) (all_value_heads two_written d (all_packed E c vs Ts)) (f d) (g d)

pub tells_one : (E : Environment) (b c : Home) (n t : Bytes) (v : Value) (T : Typ) → IsCoherent E → ValueTyped Coloured E (VSeal b n t v) c T → IsFirstOrder E n t →
    (p : PValue) × PlainValue E b v (opened E n t) p × (told E (seal b n t v) ≡ record { name = n; type' = t; said = p } ∷ [])
tells_one E b c n t v T i h f = (p, is_plain, ap (λ x. cond x [] (say (plain E b v (opened E n t)))) f ∙ ap say is_plain)
  where
    say : Option PValue → List Birth
    say o = option_to_list (option_map (λ p. record { name = n; type' = t; said = p }) o)

    known : is_known E (n, t) ≡ true
    known = and_left (is_known E (n, t)) true h.1

    p : PValue
    p = packed E b v (opened E n t)

    all : all_travel p ≡ true
    all =
        travels E i v b (view Coloured E b (TAbs n t)) (opened E n t) (data_of E i v b (view Coloured E b (TAbs n t)) (flat_seen E i b (TAbs n t) h.1 f) h.4) (opened_known E i n t known) h.4
        (record { from = TAbs n t; known = h.1; seen = refl; to = sym (head_step E i (TAbs n t) h.1) }) 1

    is_plain : plain E b v (opened E n t) ≡ Some p
    is_plain = ap (λ x. given x (Some p)) all
