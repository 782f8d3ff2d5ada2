-- What was known stays as the definitions grow: entries, names, representations, views and bare types.
use Rattle.std.proofs.Common.{◌≡◌, refl, sym, ap, ◌∙◌, subst, ℕ, zero, suc, ◌+◌, ◌<◌, ◌≤◌, true, [], ◌++◌, length, Some, append_assoc, append-nil, length-append}
use Rattle.std.specs.Prelude.{option_map, option_and_then, slice_get, unwrap_or, is_some}
use Rattle.std.specs.List.{list_all}
use native.Mathlib.Omega.{arith}
use Rattle.ac_types.proofs.Same.{both_true}
use Rattle.ac_types.specs.Types.{Bytes, Typ, TTuple, TList, TOpt, TFun, TAbs, Typs, no_types, typ, mentions, mentions_of_all, with_each, all_with_each}
use Rattle.ac_types.specs.Sigs.{Signature}
use Rattle.ac_terms.specs.Terms.{Home, Main, In}
use Rattle.ac_terms.specs.Defs.{Environment, Entry, Module, Def, module_of, signature, def_of, module_at, signature_at, name_at, names, find_name}
use Rattle.ac_terms.proofs.AllLaws.{all_left, all_right, all_append, all_implies}
use Rattle.ac_rules.specs.Views.{Mode, Plain, Coloured, representation, opened, opens, rounds, bare, view, head, is_known, are_known}
use Rattle.ac_rules.specs.Typing.{is_home, is_function_home, fields_of, value_in}
use Rattle.ac_rules.specs.Links.{has_arrived}
use Rattle.ac_rules.specs.Coherent.{IsCoherent}
use Rattle.ac_rules.specs.Growth.{Widening, Grows}
use Rattle.ac_rules.proofs.Rules.{map_some, then_some, some_there}
use Rattle.ac_rules.proofs.ListLaws.{get_old}
use Rattle.ac_rules.proofs.ViewLaws.{within}
use Rattle.ac_rules.proofs.BareLaws.{known_has, bare_mentions_none, closed}
use Rattle.ac_rules.proofs.LookupLaws.{name_old, fields_old, value_old, find_old, known_old, representation_old, view_old}
use Rattle.ac_rules.proofs.KnownTypes.{rounds_plus, rounds_still, each_same, opened_known, head_old, has_value}

-- growth is an order
pub extends_not : (E : Environment) → IsCoherent E → Widening E E
extends_not E c = record { before = c; more = []; is_more = sym (append-nil E) }

pub grows_not : (E : Environment) → IsCoherent E → Grows E E
unfolding extends_not
grows_not E c = record { extends = extends_not E c; after = c; arrived = refl }

pub grows_on : (E F G : Environment) → Grows E F → Grows F G → Grows E G
grows_on E F G g h =
    let a = g.extends.more in
    let b = h.extends.more in
    record {
      extends = record { before = g.extends.before; more = a ++ b; is_more = h.extends.is_more ∙ ap (λ X. X ++ b) g.extends.is_more ∙ append_assoc E a b };
      after = h.after;
      arrived = all_append (λ (e : Entry). has_arrived e.seen) a b g.arrived h.arrived;
    }

-- what a known type is opened to is known
module _ (E : Environment) (coherent : IsCoherent E) where
  mutual
    pub round_known : (T : Typ) → are_known E T ≡ true → are_known E (with_each (opened E) T) ≡ true
    round_known (TTuple Ts) h = all_round_known Ts h
    round_known (TList T) h = round_known T h
    round_known (TOpt T) h = round_known T h
    round_known (TFun T U) h =
        all_append (is_known E) (mentions (with_each (opened E) T)) (mentions (with_each (opened E) U))
        (round_known T (all_left (is_known E) (mentions T) (mentions U) h)) (round_known U (all_right (is_known E) (mentions T) (mentions U) h))
    round_known (TAbs n t) h = opened_known E coherent n t (both_true (is_known E (n, t)) true h).0
    round_known _ h = refl

    all_round_known : (Ts : Typs) → list_all (is_known E) (mentions_of_all Ts) ≡ true → list_all (is_known E) (mentions_of_all (all_with_each (opened E) Ts)) ≡ true
    all_round_known no_types h = refl
    all_round_known (typ T Ts) h =
        all_append (is_known E) (mentions (with_each (opened E) T)) (mentions_of_all (all_with_each (opened E) Ts))
        (round_known T (all_left (is_known E) (mentions T) (mentions_of_all Ts) h)) (all_round_known Ts (all_right (is_known E) (mentions T) (mentions_of_all Ts) h))

-- a home is an entry
pub home_there : (E : Environment) (i : ℕ) → is_home E (In i) ≡ true → i < length E
home_there E i h =
    let s = some_there (signature_at E i) h in
    let d = then_some signature (def_of E i) s.0 s.1 in
    let e = map_some (λ (x : Entry). x.def) (slice_get E i) d.0 d.1 in
    within E i e.0 e.1

module _ (E F : Environment) (g : Widening E F) where
  -- what holds of E with more behind it holds of F
  of_longer : (P : Environment → Type 0) → P (E ++ g.more) → P F
  of_longer P h = subst P (sym g.is_more) h

  -- entries stay, and the least of a name
  pub same_entry : (i : ℕ) → i < length E → slice_get F i ≡ slice_get E i
  same_entry i l = of_longer (λ X. slice_get X i ≡ slice_get E i) (get_old E g.more i l)

  pub there : (i : ℕ) (e : Entry) → slice_get E i ≡ Some e → slice_get F i ≡ Some e
  there i e h = same_entry i (within E i e h) ∙ h

  pub found_more : (n : Bytes) (i : ℕ) → find_name E n ≡ Some i → find_name F n ≡ Some i
  found_more n i h = of_longer (λ X. find_name X n ≡ Some i) (find_old E g.more n i h)

  pub longer : length F ≡ length E + length g.more
  longer = ap length g.is_more ∙ length-append E g.more

  pub not_shorter : length E ≤ length F
  not_shorter = let e : length F ≡ length E + length g.more = longer in omega arith

  def_more : (i : ℕ) (d : Def) → def_of E i ≡ Some d → def_of F i ≡ Some d
  def_more i d h =
      let p = map_some (λ (e : Entry). e.def) (slice_get E i) d h in
      ap (option_map (λ (e : Entry). e.def)) (there i p.0 p.1) ∙ ap Some p.2

  module_more : (i : ℕ) (m : Module) → module_at E i ≡ Some m → module_at F i ≡ Some m
  module_more i m h = let p = then_some module_of (def_of E i) m h in ap (option_and_then module_of) (def_more i p.0 p.1) ∙ p.2

  signature_more : (i : ℕ) (s : Signature) → signature_at E i ≡ Some s → signature_at F i ≡ Some s
  signature_more i s h = let p = then_some signature (def_of E i) s h in ap (option_and_then signature) (def_more i p.0 p.1) ∙ p.2

  -- names that are known
  pub name_known_more : (p : Bytes × Bytes) → is_known E p ≡ true → is_known F p ≡ true
  name_known_more p h = of_longer (λ X. is_known X p ≡ true) (known_old E g.more p h)

  pub known_more : (T : Typ) → are_known E T ≡ true → are_known F T ≡ true
  known_more T h = all_implies (is_known E) (is_known F) name_known_more (mentions T) h

  -- a known name has the representation that it had
  pub opened_same : (n t : Bytes) → is_known E (n, t) ≡ true → opened F n t ≡ opened E n t
  opened_same n t h =
      let r = known_has E g.before n t h in
      ap (λ o. unwrap_or o (TAbs n t)) (of_longer (λ X. representation X n t ≡ representation E n t) (representation_old E g.before g.more n t r.0 r.2))

  -- homes
  pub home_more : (c : Home) → is_home E c ≡ true → is_home F c ≡ true
  home_more Main h = refl
  home_more (In i) h = let s = some_there (signature_at E i) h in ap is_some (signature_more i s.0 s.1)

  pub function_home_more : (c : Home) → is_function_home E c ≡ true → is_function_home F c ≡ true
  function_home_more Main h = refl
  function_home_more (In i) h = let s = some_there (module_at E i) h in ap is_some (module_more i s.0 s.1)

  pub opens_same : (mode : Mode) (c : Home) → is_home E c ≡ true → (n : Bytes) → opens mode F c n ≡ opens mode E c n
  opens_same Plain c h n = refl
  opens_same Coloured Main h n = refl
  opens_same Coloured (In i) h n = ap (λ o. names o n) (of_longer (λ X. name_at X i ≡ name_at E i) (name_old E g.more i (home_there E i h)))

  pub fields_there : (i : ℕ) → i < length E → fields_of F (In i) ≡ fields_of E (In i)
  fields_there i l = of_longer (λ X. fields_of X (In i) ≡ fields_of E (In i)) (fields_old E g.more i l)

  pub fields_same : (c : Home) → is_home E c ≡ true → fields_of F c ≡ fields_of E c
  fields_same Main h = refl
  fields_same (In i) h = fields_there i (home_there E i h)

  -- values of entries
  pub value_in_same : (j : ℕ) (x : Bytes) → j < length E → value_in F j x ≡ value_in E j x
  value_in_same j x l = of_longer (λ X. value_in X j x ≡ value_in E j x) (value_old E g.more j l x)

  pub value_more : (j : ℕ) (x : Bytes) (A : Typ) → value_in E j x ≡ Some A → value_in F j x ≡ Some A
  value_more j x A e = let v = has_value E g.before j x A e in value_in_same j x (within E j v.entry v.is_there) ∙ e

  -- the bare type, and what a home sees
  rounds_same : (k : ℕ) (T : Typ) → are_known E T ≡ true → rounds k (with_each (opened F)) T ≡ rounds k (with_each (opened E)) T
  rounds_same zero T h = refl
  rounds_same (suc k) T h = ap (rounds k (with_each (opened F))) (each_same E (opened F) (opened E) opened_same T h) ∙ rounds_same k (with_each (opened E) T) (round_known E g.before T h)

  pub bare_same : (T : Typ) → are_known E T ≡ true → bare F T ≡ bare E T
  bare_same T h =
      ap (λ n. rounds n (with_each (opened F)) T) longer ∙ rounds_plus (length E) (length g.more) (with_each (opened F)) T ∙
      ap (rounds (length g.more) (with_each (opened F))) (rounds_same (length E) T h) ∙
      rounds_still (length g.more) (with_each (opened F)) (bare E T) (closed (opened F) (bare E T) (bare_mentions_none E g.before T h))

  pub view_same : (mode : Mode) (c : Home) (T : Typ) → is_home E c ≡ true → are_known E T ≡ true → view mode F c T ≡ view mode E c T
  view_same Plain c T h k = bare_same T k
  view_same Coloured Main T h k = refl
  view_same Coloured (In i) T h k = of_longer (λ X. view Coloured X (In i) T ≡ view Coloured E (In i) T) (view_old E g.before g.more i (home_there E i h) T)

  -- the head
  pub head_same : (T : Typ) → are_known E T ≡ true → head F T ≡ head E T
  head_same T h = of_longer (λ X. head X T ≡ head E T) (head_old E g.before g.more T h)
