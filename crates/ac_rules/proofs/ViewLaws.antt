-- In a coherent environment a representation speaks of earlier names alone, so a view is its own view.
use Rattle.std.proofs.Common.{◌≡◌, refl, sym, ap, ◌∙◌, subst, ℕ, zero, suc, ◌<◌, Bool, true, false, not, length, List, [], ◌∷◌, ◌++◌, map, flat_map, Option, Some, None, take}
use Rattle.std.specs.Prelude.{option_map, option_and_then, slice_get, unwrap_or}
use Rattle.std.specs.List.{list_all}
use Rattle.std.specs.Option.{option_or}
use mathlib.Core.Bool.{true≢false}
use mathlib.Core.Path.{ap₂}
use native.Mathlib.Omega.{arith}
use Rattle.sha2.specs.Sha256.{sha256}
use Rattle.ac_types.specs.Partial.{first_some}
use Rattle.ac_types.proofs.Same.{both_true, bytes_eq}
use Rattle.ac_types.proofs.FirstLaws.{none≢some, some_eq}
use Rattle.ac_types.specs.Types.{Bytes, Typ, TInt, TBool, TStr, TUnit, TExn, TTuple, TList, TOpt, TFun, TAbs, TMine, Typs, no_types, typ, mentions, mentions_of_all, with_each, all_with_each}
use Rattle.ac_types.specs.Sigs.{Typed_name, Constraint, Ranges, Exact}
use Rattle.ac_terms.specs.Terms.{Home, Main, In}
use Rattle.ac_terms.specs.Defs.{Environment, Entry, Module, Import, Def, AModule, AnImport, AMark, Field, names, find_name, name_at, def_of, module_at}
use Rattle.ac_terms.specs.Names.{name_by}
use Rattle.ac_terms.specs.Parts.{OfType, sig_types, term_parts}
use Rattle.ac_rules.specs.Views.{Coloured, is_known, representation, type_of_entry, import_type, opened, opened_at_home, has_name, view}
use Rattle.ac_rules.specs.Links.{MayLink, Link_fault, fault_at, conditions, fails}
use Rattle.ac_rules.specs.Coherent.{IsCoherent}
use Rattle.ac_rules.proofs.Rules.{then_some}
use Rattle.ac_rules.proofs.EarlierLaws.{known_earlier, found_keeps, least}
use Rattle.ac_rules.proofs.PartLaws.{pass_left, pass_right, pass_under}
use Rattle.ac_terms.proofs.AllLaws.{all_left, all_right, all_implies}
use Rattle.ac_terms.proofs.TestLaws.{not_true, not_where}

-- where the first of some is none, each is none
pub or_none : {A : Type 0} (a b : Option A) → option_or a b ≡ None → b ≡ None
or_none None b e = e
or_none (Some x) b e = absurd (none≢some (sym e))

pub or_none_left : {A : Type 0} (a b : Option A) → option_or a b ≡ None → a ≡ None
or_none_left None b e = refl
or_none_left (Some x) b e = absurd (none≢some (sym e))

pub passes : (b : Bool) (f : Link_fault) → fails b f ≡ None → b ≡ true
passes true f e = refl
passes false f e = absurd (none≢some (sym e))

-- a link by exact name goes to a module that keeps the name
pub exact_keeps : (E : Environment) (m : Import) (j : ℕ) (q : Bytes) → m.constraint ≡ Exact q → MayLink E m j → names (name_at E j) q ≡ true
exact_keeps E m j q c h = by (module_at E j) h
  where
    by : (o : Option Module) → fault_at E m j o ≡ None → names (name_at E j) q ≡ true
    by None e = absurd (none≢some (sym e))
    by (Some x) e =
        let r : first_some (conditions E m j x (Exact q)) ≡ None = ap (λ k. first_some (conditions E m j x k)) (sym c) ∙ e in
        passes (names (name_at E j) q) Link_fault.Name (or_none_left _ None (or_none _ _ (or_none _ _ r)))

-- what is found is within
pub within : {A : Type 0} (xs : List A) (i : ℕ) (x : A) → slice_get xs i ≡ Some x → i < length xs
within [] i x h = absurd (none≢some h)
within (y ∷ xs) zero x h = omega arith
within (y ∷ xs) (suc i) x h = let l : i < length xs = within xs i x h in omega arith

-- equal names are one
pub names_eq : (o : Option Bytes) (q n : Bytes) → o ≡ Some q → names o n ≡ true → q ≡ n
names_eq o q n e h = bytes_eq q n (ap (λ x. names x n) (sym e) ∙ h)

module _ (E : Environment) (coherent : IsCoherent E) where
  -- an entry keeps the name of its definition
  pub keeps_name : (i : ℕ) (e : Entry) → slice_get E i ≡ Some e → e.name ≡ name_by sha256 E e.def
  keeps_name i e g =
      sym (ap (option_and_then (λ (x : Entry). x.name)) g) ∙ coherent.named i (within E i e g) ∙
      ap (option_and_then (name_by sha256 E)) (ap (option_map (λ (x : Entry). x.def)) g)

  -- an import by exact name is linked to an earlier module of that name
  pub exact_link : (n q : Bytes) (i : ℕ) (e : Entry) (m : Import) → slice_get E i ≡ Some e → names e.name n ≡ true → e.def ≡ AnImport m → m.constraint ≡ Exact q →
      (j : ℕ) × (j < i) × (names (name_at E j) n ≡ true) × MayLink E m j
  exact_link n q i e m g keeps p c =
      let j = coherent.linked i (AnImport m) (ap (option_map (λ (x : Entry). x.def)) g ∙ ap Some p) in
      let named : e.name ≡ Some q =
      keeps_name i e g ∙ ap (name_by sha256 E) p ∙ ap (λ x. name_by sha256 E (AnImport (record m { constraint = x }))) c in
      (j.0, j.2, subst (λ x. names (name_at E j.0) x ≡ true) (names_eq e.name q n named keeps) (exact_keeps E m j.0 q c j.3), j.3)

  -- so it isn't the least entry of its name
  pub exact_not_least : (n q : Bytes) (i : ℕ) (e : Entry) (m : Import) → find_name E n ≡ Some i → slice_get E i ≡ Some e → names e.name n ≡ true → e.def ≡ AnImport m → m.constraint ≡ Exact q → ⊥
  exact_not_least n q i e m f g keeps p c =
      let j = exact_link n q i e m g keeps p c in
      true≢false (sym j.2 ∙ least E n i j.0 f j.1)

  -- what the type of an entry mentions is known before it
  type_known : (n t : Bytes) (i : ℕ) (e : Entry) (R : Typ) → find_name E n ≡ Some i → slice_get E i ≡ Some e → names e.name n ≡ true →
      (d : Def) (k : Option ℕ) → e.def ≡ d → e.link ≡ k → type_of_entry E t d k ≡ Some R → list_all (is_known (take i E)) (mentions R) ≡ true
  type_known n t i e R f g keeps (AModule m) k p l h =
      let here : def_of E i ≡ Some (AModule m) = ap (option_map (λ (x : Entry). x.def)) g ∙ ap Some p in
      let known = coherent.mentions i (AModule m) here in
      pass_under (is_known (take i E)) m.types t R
      (pass_right (is_known (take i E)) (map OfType (sig_types m.sig)) (map (λ (x : Typed_name). OfType x.ty) m.types)
      (pass_left (is_known (take i E)) (map OfType (sig_types m.sig) ++ map (λ (x : Typed_name). OfType x.ty) m.types)
      (flat_map (λ (x : Field). OfType x.ty ∷ term_parts x.term) m.fields) known)) h
  type_known n t i e R f g keeps (AnImport m) k p l h = by m.constraint refl h
    where
      here : def_of E i ≡ Some (AnImport m)
      here = ap (option_map (λ (x : Entry). x.def)) g ∙ ap Some p

      by : (c : Constraint) → m.constraint ≡ c → import_type E t m c k ≡ Some R → list_all (is_known (take i E)) (mentions R) ≡ true
      by (Ranges rs star) c r =
          pass_under (is_known (take i E)) m.like t R
          (pass_right (is_known (take i E)) (map OfType (sig_types m.sig)) (map (λ (x : Typed_name). OfType x.ty) m.like) (coherent.mentions i (AnImport m) here)) r
      by (Exact q) c r = absurd (exact_not_least n q i e m f g keeps p c)
  type_known n t i e R f g keeps (AMark s) k p l h = absurd (none≢some h)

  -- what a representation mentions is known before its name's least entry
  pub rep_earlier : (n t : Bytes) (i : ℕ) (R : Typ) → find_name E n ≡ Some i → representation E n t ≡ Some R → list_all (is_known (take i E)) (mentions R) ≡ true
  rep_earlier n t i R f h =
      let k = found_keeps E n i f in
      let e : Entry = k.0 in
      let at : option_and_then (λ (x : Entry). type_of_entry E t x.def x.link) (slice_get E i) ≡ Some R =
      ap (option_and_then (λ a. option_and_then (λ (x : Entry). type_of_entry E t x.def x.link) (slice_get E a))) (sym f) ∙ h in
      let r : type_of_entry E t e.def e.link ≡ Some R = ap (option_and_then (λ (x : Entry). type_of_entry E t x.def x.link)) (sym k.1) ∙ at in
      type_known n t i e R f k.1 k.2 e.def e.link refl refl r

-- replacing twice is replacing once, where what is put in has nothing more to replace
module _ (f : Bytes → Bytes → Typ) (once : (n t : Bytes) → with_each f (f n t) ≡ f n t) where
  mutual
    twice : (T : Typ) → with_each f (with_each f T) ≡ with_each f T
    twice TInt = refl
    twice TBool = refl
    twice TStr = refl
    twice TUnit = refl
    twice TExn = refl
    twice (TTuple Ts) = ap TTuple (all_twice Ts)
    twice (TList T) = ap TList (twice T)
    twice (TOpt T) = ap TOpt (twice T)
    twice (TFun T U) = ap₂ TFun (twice T) (twice U)
    twice (TAbs n t) = once n t
    twice (TMine t) = refl

    all_twice : (Ts : Typs) → all_with_each f (all_with_each f Ts) ≡ all_with_each f Ts
    all_twice no_types = refl
    all_twice (typ T Ts) = ap₂ typ (twice T) (all_twice Ts)

-- a type that mentions no name of the home is its own view
module _ (E : Environment) (c : Home) where
  abbrev Foreign : Bytes × Bytes → Bool
  Foreign p = not (has_name E c p.0)

  stays : (n t : Bytes) → has_name E c n ≡ false → opened_at_home E c n t ≡ TAbs n t
  stays n t e = ap (λ (b : Bool). elim b as (λ x. Typ) [ true ↦ opened E n t | false ↦ TAbs n t ]) e

  mutual
    pub foreign_view : (T : Typ) → list_all Foreign (mentions T) ≡ true → with_each (opened_at_home E c) T ≡ T
    foreign_view TInt h = refl
    foreign_view TBool h = refl
    foreign_view TStr h = refl
    foreign_view TUnit h = refl
    foreign_view TExn h = refl
    foreign_view (TTuple Ts) h = ap TTuple (foreign_views Ts h)
    foreign_view (TList T) h = ap TList (foreign_view T h)
    foreign_view (TOpt T) h = ap TOpt (foreign_view T h)
    foreign_view (TFun T U) h = ap₂ TFun (foreign_view T (all_left Foreign (mentions T) (mentions U) h)) (foreign_view U (all_right Foreign (mentions T) (mentions U) h))
    foreign_view (TAbs n t) h = stays n t (not_true (has_name E c n) (both_true (Foreign (n, t)) true h).0)
    foreign_view (TMine t) h = refl

    foreign_views : (Ts : Typs) → list_all Foreign (mentions_of_all Ts) ≡ true → all_with_each (opened_at_home E c) Ts ≡ Ts
    foreign_views no_types h = refl
    foreign_views (typ T Ts) h = ap₂ typ (foreign_view T (all_left Foreign (mentions T) (mentions_of_all Ts) h)) (foreign_views Ts (all_right Foreign (mentions T) (mentions_of_all Ts) h))

-- a home has one name at most
one_name : (E : Environment) (c : Home) (m n : Bytes) → has_name E c m ≡ true → has_name E c n ≡ true → m ≡ n
one_name E Main m n p q = absurd (true≢false (sym p))
one_name E (In k) m n p q = by (name_at E k) p q
  where
    by : (o : Option Bytes) → names o m ≡ true → names o n ≡ true → m ≡ n
    by None p q = absurd (true≢false (sym p))
    by (Some a) p q = sym (bytes_eq a m p) ∙ bytes_eq a n q

module _ (E : Environment) (coherent : IsCoherent E) (c : Home) where
  -- the representation of a home's own type mentions no name of the home
  rep_foreign : (n t : Bytes) (R : Typ) → has_name E c n ≡ true → representation E n t ≡ Some R → list_all (Foreign E c) (mentions R) ≡ true
  rep_foreign n t R own h =
      let f = then_some (λ i. option_and_then (λ (e : Entry). type_of_entry E t e.def e.link) (slice_get E i)) (find_name E n) R h in
      all_implies (is_known (take f.0 E)) (Foreign E c) (λ p known. foreign f.0 f.1 p known) (mentions R) (rep_earlier E coherent n t f.0 R f.1 h)
    where
      foreign : (i : ℕ) → find_name E n ≡ Some i → (p : Bytes × Bytes) → is_known (take i E) p ≡ true → not (has_name E c p.0) ≡ true
      foreign i f p known = not_where (has_name E c p.0) (λ also.
          let j = known_earlier E i p.0 p.1 known in
          let same : find_name E n ≡ Some j.0 = ap (find_name E) (one_name E c n p.0 own also) ∙ j.1 in
          let z : i ≡ j.0 = some_eq (sym f ∙ same) in
          let lt : j.0 < i = j.2 in
          omega arith)

  opened_once : (n t : Bytes) → with_each (opened_at_home E c) (opened_at_home E c n t) ≡ opened_at_home E c n t
  opened_once n t = by (has_name E c n) refl (representation E n t) refl
    where
      abstract_stays : opened_at_home E c n t ≡ TAbs n t → with_each (opened_at_home E c) (opened_at_home E c n t) ≡ opened_at_home E c n t
      abstract_stays e = ap (with_each (opened_at_home E c)) e

      is_opened : has_name E c n ≡ true → opened_at_home E c n t ≡ opened E n t
      is_opened e = ap (λ (b : Bool). elim b as (λ x. Typ) [ true ↦ opened E n t | false ↦ TAbs n t ]) e

      by : (b : Bool) → has_name E c n ≡ b → (o : Option Typ) → representation E n t ≡ o → with_each (opened_at_home E c) (opened_at_home E c n t) ≡ opened_at_home E c n t
      by false p o q = abstract_stays (stays E c n t p)
      by true p None q = abstract_stays (is_opened p ∙ ap (λ x. unwrap_or x (TAbs n t)) q)
      by true p (Some R) q =
          let e : opened_at_home E c n t ≡ R = is_opened p ∙ ap (λ x. unwrap_or x (TAbs n t)) q in
          ap (with_each (opened_at_home E c)) e ∙ foreign_view E c R (rep_foreign n t R p q) ∙ sym e

  -- a view is its own view
  pub view_twice : (T : Typ) → view Coloured E c (view Coloured E c T) ≡ view Coloured E c T
  view_twice T = twice (opened_at_home E c) opened_once T
