-- In a coherent environment each value of a definition comes from a field of its type, as the homes on the way see it.
use Rattle.std.proofs.Common.{◌≡◌, refl, sym, ap, ap₂, ◌∙◌, subst, ℕ, suc, ◌<◌, Bool, true, false, not, ◌&&◌, ◌||◌, List, [], ◌∷◌, ◌++◌, Option, Some, None, take, map, flat_map, arith}
use Rattle.std.specs.Prelude.{option_map, option_and_then, slice_get, unwrap_or, position, is_some}
use Rattle.std.specs.Option.{option_map_or}
use Rattle.std.specs.List.{list_all}
use mathlib.Core.Bool.{true≢false}
use Rattle.sha2.specs.Sha256.{sha256}
use Rattle.ac_types.specs.Partial.{first_failing, first_some, agree}
use Rattle.ac_types.proofs.Same.{both_true, and_true, same_eq, bytes_eq, bytes_refl}
use Rattle.ac_types.proofs.FirstLaws.{none≢some, some_eq}
use Rattle.ac_types.specs.Types.{Bytes, same_bytes, Typ, TTuple, TList, TOpt, TFun, TAbs, TMine, Typs, no_types, typ, mentions, mentions_of_all, all_with_each, with_mine, all_with_mine}
use Rattle.ac_types.specs.Sigs.{Typed_name, Sig_type, Signature, Range, Constraint, Ranges, Exact, named_type, type_under, is_abstract, stand_in}
use Rattle.ac_terms.specs.Terms.{Home, In}
use Rattle.ac_terms.specs.Defs.{Environment, Entry, Field, Module, Import, Def, AModule, AnImport, AMark, signature, module_of, def_of, module_at, name_at, names, find_name, module_behind, field_number}
use Rattle.ac_terms.specs.Names.{text_of_def, text_of_entry, name_by}
use Rattle.ac_terms.specs.Spelling.{module_bytes, import_bytes, text_of_import}
use Rattle.ac_terms.specs.Parts.{OfType, sig_types, term_parts}
use Rattle.ac_terms.proofs.DefBack.{types_of, one_text-one_signature, one_text-one_types}
use Rattle.ac_rules.specs.Views.{Coloured, view, representation, type_of_entry, import_type, opened_at_home, has_name, is_known, are_known}
use Rattle.ac_rules.specs.Links.{by_version, MayLink, Link_fault, fault_at, conditions, fails, is_exact, is_equal, has_val_spec, missing_spec, is_like, unlike}
use Rattle.ac_rules.specs.Typing.{fields_of, value_in}
use Rattle.ac_rules.specs.Modules.{inside_struct, covers_type, field_named, covers_val, uncovered, mine, all_mine}
use Rattle.ac_rules.specs.Coherent.{IsCoherent, link_at}
use Rattle.ac_version.specs.Versions.{atoms_fit}
use Rattle.ac_rules.proofs.Rules.{map_some, then_some, has_some, agree_some, module_is, none_of, map_none}
use Rattle.ac_index.proofs.PositionLaws.{position-first, position-later}
use Rattle.ac_rules.proofs.EarlierLaws.{known_earlier, found_keeps, no_first, names_some}
use Rattle.ac_rules.proofs.PartLaws.{AllPass, pass_left, pass_right, pass_under}
use Rattle.ac_terms.proofs.AllLaws.{all_left, all_right, all_implies, all_append}
use Rattle.ac_rules.proofs.ViewLaws.{or_none, or_none_left, exact_keeps, keeps_name, exact_not_least, foreign_view}
use Rattle.ac_rules.proofs.BareLaws.{known_has}
use Rattle.ac_meaning.specs.References.{target, is_by_version, Once, Twice, through, seen_inside, route}
use Rattle.ac_meaning.specs.Typed.{own_type}
use Rattle.ac_meaning.proofs.Homes.{sees_own, sees_other, opened_is, representation_known, view_open}
use Rattle.ac_rules.proofs.KnownTypes.{HasValue, has_value, def_there, declared_known, val_early, val_closed}
use Rattle.ac_meaning.proofs.KnownNames.{known_types}
use Rattle.ac_meaning.proofs.Sound.{IsLinked, Links}
use Rattle.ac_terms.proofs.TestLaws.{not_true, not_where, not_false}
use Rattle.ac_rules.proofs.LookupLaws.{found_at}

-- own types of a signature rewritten in two ways that two homes see alike
module _ (E : Environment) (c d : Home) (s : Signature) (f g : Bytes → Typ) (p : Bytes × Bytes → Bool) (h : (t : Bytes) → is_abstract (type_under t s.types) ≡ true → view Coloured E c (f t) ≡ view Coloured E d (g t))
    (k : (n t : Bytes) → p (n, t) ≡ true → view Coloured E c (TAbs n t) ≡ view Coloured E d (TAbs n t)) where
  abbrev own : Bytes → Bool
  own t = is_abstract (type_under t s.types)

  mutual
    alike : (U : Typ) → list_all own (mine U) ≡ true → list_all p (mentions U) ≡ true → view Coloured E c (with_mine f U) ≡ view Coloured E d (with_mine g U)
    alike (TTuple Us) m l = ap TTuple (all_alike Us m l)
    alike (TList U) m l = ap TList (alike U m l)
    alike (TOpt U) m l = ap TOpt (alike U m l)
    alike (TFun T U) m l =
        ap₂ TFun (alike T (all_left own (mine T) (mine U) m) (all_left p (mentions T) (mentions U) l)) (alike U (all_right own (mine T) (mine U) m) (all_right p (mentions T) (mentions U) l))
    alike (TAbs n t) m l = k n t (both_true (p (n, t)) true l).0
    alike (TMine t) m l = h t (both_true (own t) true m).0
    alike _ m l = refl

    all_alike : (Us : Typs) → list_all own (all_mine Us) ≡ true → list_all p (mentions_of_all Us) ≡ true → all_with_each (opened_at_home E c) (all_with_mine f Us) ≡ all_with_each (opened_at_home E d) (all_with_mine g Us)
    all_alike no_types m l = refl
    all_alike (typ U Us) m l =
        ap₂ typ (alike U (all_left own (mine U) (all_mine Us) m) (all_left p (mentions U) (mentions_of_all Us) l)) (all_alike Us (all_right own (mine U) (all_mine Us) m) (all_right p (mentions U) (mentions_of_all Us) l))

mutual
  rewritten_twice : (f g : Bytes → Typ) (U : Typ) → with_mine f (with_mine g U) ≡ with_mine (λ t. with_mine f (g t)) U
  rewritten_twice f g (TTuple Us) = ap TTuple (all_rewritten_twice f g Us)
  rewritten_twice f g (TList U) = ap TList (rewritten_twice f g U)
  rewritten_twice f g (TOpt U) = ap TOpt (rewritten_twice f g U)
  rewritten_twice f g (TFun T U) = ap₂ TFun (rewritten_twice f g T) (rewritten_twice f g U)
  rewritten_twice f g _ = refl

  all_rewritten_twice : (f g : Bytes → Typ) (Us : Typs) → all_with_mine f (all_with_mine g Us) ≡ all_with_mine (λ t. with_mine f (g t)) Us
  all_rewritten_twice f g no_types = refl
  all_rewritten_twice f g (typ U Us) = ap₂ typ (rewritten_twice f g U) (all_rewritten_twice f g Us)

spec_at : (test : Sig_type → Bool) (xs : List Sig_type) (t : Bytes) (o : Option Typ) → first_failing test xs ≡ None → type_under t xs ≡ Some o → (x : Sig_type) × (test x ≡ true) × (x.name ≡ t) × (x.manifest ≡ o)
spec_at test [] t o none e = absurd (none≢some e)
spec_at test (x ∷ xs) t o none e = by (spec_at test xs t o q.1) (same_bytes x.name t) refl e
  where
    q : (not (test x) ≡ false) × (position (λ y. not (test y)) xs ≡ None)
    q = no_first (λ y. not (test y)) x xs none

    by : (type_under t xs ≡ Some o → (y : Sig_type) × (test y ≡ true) × (y.name ≡ t) × (y.manifest ≡ o)) → (b : Bool) → same_bytes x.name t ≡ b → elim b as (λ z. Option (Option Typ)) [ true ↦ Some x.manifest | false ↦ type_under t xs ] ≡ Some o →
        (y : Sig_type) × (test y ≡ true) × (y.name ≡ t) × (y.manifest ≡ o)
    by more true n r = (x, not_false (test x) q.0, bytes_eq x.name t n, some_eq r)
    by more false n r = more r

val_at : (test : Typed_name → Bool) (xs : List Typed_name) (x : Bytes) (U : Typ) → first_failing test xs ≡ None → named_type x xs ≡ Some U → (v : Typed_name) × (test v ≡ true) × (v.name ≡ x) × (v.ty ≡ U)
val_at test [] x U none e = absurd (none≢some e)
val_at test (v ∷ xs) x U none e = by (val_at test xs x U q.1) (same_bytes v.name x) refl e
  where
    q : (not (test v) ≡ false) × (position (λ y. not (test y)) xs ≡ None)
    q = no_first (λ y. not (test y)) v xs none

    by : (named_type x xs ≡ Some U → (w : Typed_name) × (test w ≡ true) × (w.name ≡ x) × (w.ty ≡ U)) → (b : Bool) → same_bytes v.name x ≡ b → elim b as (λ z. Option Typ) [ true ↦ Some v.ty | false ↦ named_type x xs ] ≡ Some U → (w : Typed_name) × (test w ≡ true) × (w.name ≡ x) × (w.ty ≡ U)
    by more true n r = (v, not_false (test v) q.0, bytes_eq v.name x n, some_eq r)
    by more false n r = more r

abstract_none : (o : Option (Option Typ)) → is_abstract o ≡ true → o ≡ Some None
abstract_none (Some None) e = refl
abstract_none (Some (Some T)) e = absurd (true≢false (sym e))
abstract_none None e = absurd (true≢false (sym e))

-- the first field of a name, by its number
field_at : (x : Bytes) (fs : List Field) (F : Typ) → field_named x fs ≡ Some F → (f : ℕ) × (y : Field) × (field_number x fs ≡ Some f) × (slice_get fs f ≡ Some y) × (y.ty ≡ F)
field_at x [] F e = absurd (none≢some e)
field_at x (y ∷ fs) F e = by (field_at x fs F) (same_bytes y.name x) refl e
  where
    is_named : Field → Bool
    is_named z = same_bytes z.name x

    by : (field_named x fs ≡ Some F → (f : ℕ) × (z : Field) × (field_number x fs ≡ Some f) × (slice_get fs f ≡ Some z) × (z.ty ≡ F)) → (b : Bool) → same_bytes y.name x ≡ b → elim b as (λ z. Option Typ) [ true ↦ Some y.ty | false ↦ field_named x fs ] ≡ Some F →
        (f : ℕ) × (z : Field) × (field_number x (y ∷ fs) ≡ Some f) × (slice_get (y ∷ fs) f ≡ Some z) × (z.ty ≡ F)
    by more true n r = (0, y, position-first (λ (z : Field). same_bytes z.name x) y fs n, refl, some_eq r)
    by more false n r =
        let q = more r in
        (suc q.0, q.1, position-later (λ (z : Field). same_bytes z.name x) y fs n ∙ ap (option_map suc) q.2, q.3, q.4)

-- the conditions of a link by version on signature and likespec
version_passes : (k : Module) (m : Import) (rs : List Range) (star : Bool) → first_some (by_version k m rs star) ≡ None → (missing_spec false k.sig m.sig ≡ None) × (unlike k m ≡ None)
version_passes k m rs star r =
    let likes = option_map Link_fault.Like (unlike k m) in
    let specs = option_map Link_fault.Spec (missing_spec false k.sig m.sig) in
    let versions = fails (atoms_fit rs star k.version) Link_fault.Version in
    let names = fails (same_bytes k.name m.name) Link_fault.External in
    let a : first_some (versions ∷ specs ∷ likes ∷ []) ≡ None = or_none names (first_some (versions ∷ specs ∷ likes ∷ [])) r in
    let b : first_some (specs ∷ likes ∷ []) ≡ None = or_none versions (first_some (specs ∷ likes ∷ [])) a in
    let c : first_some (likes ∷ []) ≡ None = or_none specs (first_some (likes ∷ [])) b in
    (map_none Link_fault.Spec (missing_spec false k.sig m.sig) (or_none_left specs (first_some (likes ∷ [])) b), map_none Link_fault.Like (unlike k m) (or_none_left likes None c))

-- a module covers its signature: a type is there, a manifest one is equal, and so is a value
covers_manifest : (m : Module) → uncovered m ≡ None → (t : Bytes) (T : Typ) → type_under t m.sig.types ≡ Some (Some T) → named_type t m.types ≡ Some (inside_struct m T)
covers_manifest m u t T e =
    let x = spec_at (covers_type m) m.sig.types t (Some T) (or_none_left _ _ u) e in
    let there : covers_type m (record x.0 { manifest = Some T }) ≡ true = ap (λ o. covers_type m (record x.0 { manifest = o })) (sym x.3) ∙ x.1 in
    ap (λ n. named_type n m.types) (sym x.2) ∙ has_some (named_type x.0.name m.types) (inside_struct m T) there

covers_value : (m : Module) → uncovered m ≡ None → (x : Bytes) (U : Typ) → named_type x m.sig.vals ≡ Some U → field_named x m.fields ≡ Some (inside_struct m U)
covers_value m u x U e =
    let v = val_at (covers_val m) m.sig.vals x U (map_none _ (first_failing (covers_val m) m.sig.vals) (or_none _ _ u)) e in
    ap (λ n. field_named n m.fields) (sym v.2) ∙ has_some (field_named v.0.name m.fields) (inside_struct m v.0.ty) v.1 ∙ ap (λ T. Some (inside_struct m T)) v.3

module _ (E : Environment) (coherent : IsCoherent E) where
  abbrev Early : ℕ → Bytes × Bytes → Bool
  Early i x = is_known (take i E) x

  covered : (j : ℕ) (m : Module) → def_of E j ≡ Some (AModule m) → uncovered m ≡ None
  covered j m d = none_of (uncovered m) (both_true _ _ (coherent.fields_sound j (AModule m) d)).1

  -- an entry of a name, with a text
  record HasText (j : ℕ) (n : Bytes) : Type 0 where
    entry : Entry
    is_there : slice_get E j ≡ Some entry
    has_name : entry.name ≡ Some n
    text : Bytes
    has_text : text_of_def E entry.def ≡ Some text

  abbrev refs : ℕ → Bytes
  refs k = unwrap_or (name_at E k) []

  -- entries of one name have the same types
  one_list : (i : ℕ) (e : Entry) (n s : Bytes) → slice_get E i ≡ Some e → e.name ≡ Some n → text_of_def E e.def ≡ Some s → (j : ℕ) (w : HasText j n) → types_of e.def ≡ types_of w.entry.def
  one_list i e n s g k x j w =
      let d = def_there E coherent i e g in
      let q = def_there E coherent j w.entry w.is_there in
      let name_i : name_at E i ≡ Some n = ap (option_and_then (λ (z : Entry). z.name)) g ∙ k in
      let name_j : name_at E j ≡ Some n = ap (option_and_then (λ (z : Entry). z.name)) w.is_there ∙ w.has_name in
      let text_i : text_of_entry E i ≡ Some s = ap (option_and_then (text_of_def E)) d ∙ x in
      let text_j : text_of_entry E j ≡ Some w.text = ap (option_and_then (text_of_def E)) q ∙ w.has_text in
      let same_text : s ≡ w.text = coherent.one_text i j n s w.text name_i name_j text_i text_j in
      one_text-one_types refs e.def w.entry.def w.text (coherent.within_bounds i e.def d) (coherent.within_bounds j w.entry.def q) (x ∙ ap Some same_text) w.has_text

  -- the type of the least entry of a name is that of any with a text
  least_type : (n t : Bytes) (R : Typ) (i : ℕ) (e : Entry) → find_name E n ≡ Some i → slice_get E i ≡ Some e → names e.name n ≡ true → (d : Def) → e.def ≡ d → type_of_entry E t d e.link ≡ Some R → (j : ℕ) (w : HasText j n) → named_type t (types_of w.entry.def) ≡ Some R
  least_type n t R i e f g k (AModule m) p h j w =
      let x : text_of_def E e.def ≡ Some (module_bytes refs m) = ap (text_of_def E) p in
      let l = one_list i e n (module_bytes refs m) g (names_some e.name n k) x j w in
      ap (named_type t) (sym l ∙ ap types_of p) ∙ h
  least_type n t R i e f g k (AnImport m) p h j w = by m.constraint refl h
    where
      by : (c : Constraint) → m.constraint ≡ c → import_type E t m c e.link ≡ Some R → named_type t (types_of w.entry.def) ≡ Some R
      by (Ranges rs star) c r =
          let x : text_of_def E e.def ≡ Some (import_bytes m) = ap (text_of_def E) p ∙ ap (λ z. text_of_import z m) c in
          let l = one_list i e n (import_bytes m) g (names_some e.name n k) x j w in
          ap (named_type t) (sym l ∙ ap types_of p) ∙ r
      by (Exact q) c r = absurd (exact_not_least E coherent n q i e m f g k p c)
  least_type n t R i e f g k (AMark s) p h j w = absurd (none≢some h)

  -- the representation of a name is the type of each entry of that name that has a text
  rep_there : (n t : Bytes) (R : Typ) → representation E n t ≡ Some R → (j : ℕ) (w : HasText j n) → named_type t (types_of w.entry.def) ≡ Some R
  rep_there n t R h j w =
      let p = then_some (λ i. option_and_then (λ (e : Entry). type_of_entry E t e.def e.link) (slice_get E i)) (find_name E n) R h in
      let k = found_keeps E n p.0 p.1 in
      let r : type_of_entry E t k.0.def k.0.link ≡ Some R = ap (option_and_then (λ (x : Entry). type_of_entry E t x.def x.link)) (sym k.1) ∙ p.2 in
      least_type n t R p.0 k.0 p.1 k.1 k.2 k.0.def refl r j w

  -- the least entry of a name, with its text and its signature
  record Least (n : Bytes) : Type 0 where
    at : ℕ
    entry : Entry
    found : find_name E n ≡ Some at
    is_there : slice_get E at ≡ Some entry
    has_name : entry.name ≡ Some n
    text : Bytes
    has_text : text_of_def E entry.def ≡ Some text
    sig : Signature
    has_sig : signature entry.def ≡ Some sig

  least_of : (n : Bytes) (i : ℕ) → find_name E n ≡ Some i → Least n
  least_of n i f = by k.0.def refl
    where
      k : (e : Entry) × (slice_get E i ≡ Some e) × (names e.name n ≡ true)
      k = found_keeps E n i f

      named : k.0.name ≡ Some n
      named = names_some k.0.name n k.2

      by_import : (m : Import) → k.0.def ≡ AnImport m → (c : Constraint) → m.constraint ≡ c → Least n
      by_import m p (Ranges rs star) c = record {
        at = i;
        entry = k.0;
        found = f;
        is_there = k.1;
        has_name = named;
        text = import_bytes m;
        has_text = ap (text_of_def E) p ∙ ap (λ z. text_of_import z m) c;
        sig = m.sig;
        has_sig = ap signature p;
      }
      by_import m p (Exact q) c = absurd (exact_not_least E coherent n q i k.0 m f k.1 k.2 p c)

      by : (d : Def) → k.0.def ≡ d → Least n
      by (AModule m) p = record {
        at = i;
        entry = k.0;
        found = f;
        is_there = k.1;
        has_name = named;
        text = module_bytes refs m;
        has_text = ap (text_of_def E) p;
        sig = m.sig;
        has_sig = ap signature p;
      }
      by (AnImport m) p = by_import m p m.constraint refl
      by (AMark s) p = absurd (none≢some (sym (keeps_name E coherent i k.0 k.1 ∙ ap (name_by sha256 E) p) ∙ named))

  least_for : (n : Bytes) (j : ℕ) → HasText j n → Least n
  least_for n j w = let r = found_at E j n (ap (λ o. names o n) (ap (option_and_then (λ (z : Entry). z.name)) w.is_there ∙ w.has_name) ∙ bytes_refl n) in least_of n r.0 r.1

  one_sig : (n : Bytes) (l : Least n) (j : ℕ) (w : HasText j n) (s : Signature) → signature w.entry.def ≡ Some s → l.sig ≡ s
  one_sig n l j w s h =
      let d = def_there E coherent l.at l.entry l.is_there in
      let q = def_there E coherent j w.entry w.is_there in
      let name_i : name_at E l.at ≡ Some n = ap (option_and_then (λ (z : Entry). z.name)) l.is_there ∙ l.has_name in
      let name_j : name_at E j ≡ Some n = ap (option_and_then (λ (z : Entry). z.name)) w.is_there ∙ w.has_name in
      let text_i : text_of_entry E l.at ≡ Some l.text = ap (option_and_then (text_of_def E)) d ∙ l.has_text in
      let text_j : text_of_entry E j ≡ Some w.text = ap (option_and_then (text_of_def E)) q ∙ w.has_text in
      let same_text : l.text ≡ w.text = coherent.one_text l.at j n l.text w.text name_i name_j text_i text_j in
      one_text-one_signature refs l.entry.def w.entry.def w.text l.sig s (coherent.within_bounds l.at l.entry.def d) (coherent.within_bounds j w.entry.def q) (l.has_text ∙ ap Some same_text) w.has_text l.has_sig h

  -- a home's own name isn't mentioned before the least entry of that name
  abbrev Foreign : ℕ → Bytes × Bytes → Bool
  Foreign j p = not (has_name E (In j) p.0)

  foreign_early : (n : Bytes) (l : Least n) (j : ℕ) → name_at E j ≡ Some n → (U : Typ) → list_all (Early l.at) (mentions U) ≡ true → list_all (Foreign j) (mentions U) ≡ true
  foreign_early n l j k U h = all_implies (Early l.at) (Foreign j) (λ p q. not_where (has_name E (In j) p.0) (λ own. other p q own)) (mentions U) h
    where
      other : (p : Bytes × Bytes) → Early l.at p ≡ true → has_name E (In j) p.0 ≡ true → ⊥
      other p q own =
          let e : n ≡ p.0 = bytes_eq n p.0 (ap (λ o. names o p.0) (sym k) ∙ own) in
          let r = known_earlier E l.at p.0 p.1 q in
          let z : l.at ≡ r.0 = some_eq (sym l.found ∙ ap (find_name E) e ∙ r.1) in
          let lt : r.0 < l.at = r.2 in
          let no : ⊥ = omega (arith, z, lt) in
          no

  -- the types of a definition's values and its own types mention no name of it
  foreign_value : (n : Bytes) (j : ℕ) (w : HasText j n) (s : Signature) (x : Bytes) (U : Typ) → signature w.entry.def ≡ Some s → named_type x s.vals ≡ Some U → list_all (Foreign j) (mentions U) ≡ true
  foreign_value n j w s x U h u =
      let l = least_for n j w in
      let k : name_at E j ≡ Some n = ap (option_and_then (λ (z : Entry). z.name)) w.is_there ∙ w.has_name in
      foreign_early n l j k U (val_early E coherent l.at l.entry.def l.sig x U (def_there E coherent l.at l.entry l.is_there) l.has_sig (ap (λ (z : Signature). named_type x z.vals) (one_sig n l j w s h) ∙ u))

  types_early : (i : ℕ) (d : Def) → def_of E i ≡ Some d → AllPass (Early i) (map (λ (t : Typed_name). OfType t.ty) (types_of d))
  types_early i (AModule m) h =
      let types = map (λ (t : Typed_name). OfType t.ty) m.types in
      pass_right (Early i) (map OfType (sig_types m.sig)) types
      (pass_left (Early i) (map OfType (sig_types m.sig) ++ types) (flat_map (λ (f : Field). OfType f.ty ∷ term_parts f.term) m.fields) (coherent.mentions i (AModule m) h))
  types_early i (AnImport m) h = pass_right (Early i) (map OfType (sig_types m.sig)) (map (λ (t : Typed_name). OfType t.ty) m.like) (coherent.mentions i (AnImport m) h)
  types_early i (AMark s) h = refl

  foreign_type : (n : Bytes) (j : ℕ) (w : HasText j n) (t : Bytes) (R : Typ) → named_type t (types_of w.entry.def) ≡ Some R → list_all (Foreign j) (mentions R) ≡ true
  foreign_type n j w t R h =
      let l = least_for n j w in
      let k : name_at E j ≡ Some n = ap (option_and_then (λ (z : Entry). z.name)) w.is_there ∙ w.has_name in
      let same_types = one_list l.at l.entry n l.text l.is_there l.has_name l.has_text j w in
      foreign_early n l j k R (pass_under (Early l.at) (types_of l.entry.def) t R (types_early l.at l.entry.def (def_there E coherent l.at l.entry l.is_there)) (ap (named_type t) same_types ∙ h))

  -- what a home sees of a type is known
  mutual
    view_known : (c : Home) (T : Typ) → are_known E T ≡ true → are_known E (view Coloured E c T) ≡ true
    view_known c (TTuple Ts) h = all_view_known c Ts h
    view_known c (TList T) h = view_known c T h
    view_known c (TOpt T) h = view_known c T h
    view_known c (TFun T U) h =
        all_append (is_known E) (mentions (view Coloured E c T)) (mentions (view Coloured E c U)) (view_known c T (all_left (is_known E) (mentions T) (mentions U) h)) (view_known c U (all_right (is_known E) (mentions T) (mentions U) h))
    view_known c (TAbs n t) h = by (has_name E c n) refl (representation E n t) refl
      where
        by : (b : Bool) → has_name E c n ≡ b → (o : Option Typ) → representation E n t ≡ o → are_known E (opened_at_home E c n t) ≡ true
        by false p o q = subst (λ T. are_known E T ≡ true) (sym (sees_other E c n t p)) h
        by true p None q = subst (λ T. are_known E T ≡ true) (sym (sees_own E c n t p ∙ ap (λ o. unwrap_or o (TAbs n t)) q)) h
        by true p (Some R) q = subst (λ T. are_known E T ≡ true) (sym (sees_own E c n t p ∙ ap (λ o. unwrap_or o (TAbs n t)) q)) (representation_known E coherent n t R q)
    view_known c _ h = refl

    all_view_known : (c : Home) (Ts : Typs) → list_all (is_known E) (mentions_of_all Ts) ≡ true → list_all (is_known E) (mentions_of_all (all_with_each (opened_at_home E c) Ts)) ≡ true
    all_view_known c no_types h = refl
    all_view_known c (typ T Ts) h =
        all_append (is_known E) (mentions (view Coloured E c T)) (mentions_of_all (all_with_each (opened_at_home E c) Ts)) (view_known c T (all_left (is_known E) (mentions T) (mentions_of_all Ts) h)) (all_view_known c Ts (all_right (is_known E) (mentions T) (mentions_of_all Ts) h))

  -- a module's field for a value of its signature
  record FieldOf (j : ℕ) (n x : Bytes) (m : Module) (U : Typ) : Type 0 where
    number : ℕ
    found : field_number x (fields_of E (In j)) ≡ Some number
    own : own_type E (In j) number ≡ Some (inside_struct m U)
    alike_here : view Coloured E (In j) (inside_struct m U) ≡ view Coloured E (In j) (with_mine (TAbs n) U)

  fields_there : (j : ℕ) (m : Module) → def_of E j ≡ Some (AModule m) → fields_of E (In j) ≡ m.fields
  fields_there j m d = ap (λ (o : Option Module). elim o as (λ z. List Field) [ None ↦ [] | Some k ↦ k.fields ]) (ap (option_and_then module_of) d)

  abbrev struct_type : Module → Bytes → Typ
  struct_type m t = elim (named_type t m.types) [ None ↦ TMine t | Some U ↦ U ]

  module_field : (j : ℕ) (n : Bytes) (w : HasText j n) (m : Module) → w.entry.def ≡ AModule m → (x : Bytes) (U : Typ) → named_type x m.sig.vals ≡ Some U → FieldOf j n x m U
  module_field j n w m p x U u =
      let d : def_of E j ≡ Some (AModule m) = def_there E coherent j w.entry w.is_there ∙ ap Some p in
      let e = fields_there j m d in
      let f = field_at x m.fields (inside_struct m U) (covers_value m (covered j m d) x U u) in
      let s : signature w.entry.def ≡ Some m.sig = ap signature p in
      let opens_it : has_name E (In j) n ≡ true = ap (λ o. names o n) (ap (option_and_then (λ (z : Entry). z.name)) w.is_there ∙ w.has_name) ∙ bytes_refl n in
      record {
        number = f.0;
        found = ap (field_number x) e ∙ f.2;
        own = ap (λ fs. option_map (λ (y : Field). y.ty) (slice_get fs f.0)) e ∙ ap (option_map (λ (y : Field). y.ty)) f.3 ∙ ap Some f.4;
        alike_here =
            alike E (In j) (In j) m.sig (struct_type m) (TAbs n) (Early j)
            (λ t abs.
            let known : is_known E (n, t) ≡ true = declared_known E coherent j w.entry m.sig n w.is_there s w.has_name t abs in
            let k = known_has E coherent n t known in
            let r : named_type t m.types ≡ Some k.1 = ap (λ z. named_type t (types_of z)) (sym p) ∙ rep_there n t k.1 k.4 j w in
            ap (λ o. view Coloured E (In j) (elim o as (λ z. Typ) [ None ↦ TMine t | Some V ↦ V ])) r ∙ sym (view_open E coherent Coloured (In j) n t k.1 k.4 (and_true {a = is_known E (n, t)} {b = true} known refl) opens_it))
            (λ m t h. refl) U (val_closed E coherent j w.entry.def m.sig x U (def_there E coherent j w.entry w.is_there) s u) (val_early E coherent j w.entry.def m.sig x U (def_there E coherent j w.entry w.is_there) s u);
      }

  -- the way of a reference, by what it is made of
  route_is : (j : ℕ) (x : Bytes) (b : Bool) (p : Option (ℕ × ℕ)) (T : Option Typ) → option_map_or is_by_version (def_of E j) false ≡ b → target E j x ≡ p → value_in E j x ≡ T → route E j x ≡ through b p T (option_and_then (seen_inside E x) p)
  route_is j x b p T q r s =
      ap (λ y. through y (target E j x) (value_in E j x) (option_and_then (seen_inside E x) (target E j x))) q ∙
      ap (λ y. through b y (value_in E j x) (option_and_then (seen_inside E x) y)) r ∙ ap (λ y. through b p y (option_and_then (seen_inside E x) p)) s

  target_is : (j : ℕ) (x : Bytes) (m f : ℕ) → option_and_then (module_behind j) (slice_get E j) ≡ Some m → field_number x (fields_of E (In m)) ≡ Some f → target E j x ≡ Some (m, f)
  target_is j x m f h k = ap (option_and_then (λ m. option_map (λ f. (m, f)) (field_number x (fields_of E (In m))))) h ∙ ap (option_map (λ f. (m, f))) k

  -- the value x of an entry, from outside
  value_is : (j : ℕ) (e : Entry) (s : Signature) (n x : Bytes) (V : Typ) → slice_get E j ≡ Some e → signature e.def ≡ Some s → e.name ≡ Some n → named_type x s.vals ≡ Some V → value_in E j x ≡ Some (with_mine (TAbs n) V)
  value_is j e s n x V g h k u =
      ap (λ (o : Option Signature). option_and_then (λ T. option_map (λ n. with_mine (TAbs n) T) (name_at E j)) (option_and_then (λ (y : Signature). named_type x y.vals) o)) (ap (option_and_then signature) (def_there E coherent j e g) ∙ h) ∙
      ap (option_and_then (λ T. option_map (λ n. with_mine (TAbs n) T) (name_at E j))) u ∙
      ap (option_map (λ n. with_mine (TAbs n) V)) (ap (option_and_then (λ (y : Entry). y.name)) g ∙ k)

  -- a module has a text
  abbrev module_text : (j : ℕ) (e : Entry) (n : Bytes) (m : Module) → slice_get E j ≡ Some e → e.name ≡ Some n → e.def ≡ AModule m → HasText j n
  module_text j e n m g k p = record { entry = e; is_there = g; has_name = k; text = module_bytes refs m; has_text = ap (text_of_def E) p }

  -- the module that an import is linked to
  record LinkedTo (j : ℕ) (m : Import) : Type 0 where
    at : ℕ
    entry : Entry
    name : Bytes
    module' : Module
    linked : link_at E j ≡ Some at
    is_there : slice_get E at ≡ Some entry
    has_name : entry.name ≡ Some name
    is_module : entry.def ≡ AModule module'
    may : first_some (conditions E m at module' m.constraint) ≡ None
    link : MayLink E m at

  linked_to : (j : ℕ) (m : Import) → def_of E j ≡ Some (AnImport m) → LinkedTo j m
  linked_to j m d = by (module_at E l.0) refl l.3
    where
      l : (k : ℕ) × (link_at E j ≡ Some k) × (k < j) × MayLink E m k
      l = coherent.linked j (AnImport m) d

      by : (o : Option Module) → module_at E l.0 ≡ o → fault_at E m l.0 o ≡ None → LinkedTo j m
      by None p q = absurd (none≢some (sym q))
      by (Some k) p q =
          let a = then_some module_of (def_of E l.0) k p in
          let b = map_some (λ (y : Entry). y.def) (slice_get E l.0) a.0 a.1 in
          let is : b.0.def ≡ AModule k = b.2 ∙ module_is a.0 k a.2 in
          record {
            at = l.0;
            entry = b.0;
            name = sha256 (module_bytes refs k);
            module' = k;
            linked = l.1;
            is_there = b.1;
            has_name = keeps_name E coherent l.0 b.0 b.1 ∙ ap (name_by sha256 E) is;
            is_module = is;
            may = q;
            link = l.3;
          }

  -- an import's value that a module has
  value_there : (exact : Bool) (s w : Signature) (x : Bytes) (U : Typ) → missing_spec exact s w ≡ None → named_type x w.vals ≡ Some U → (V : Typ) × (named_type x s.vals ≡ Some V) × (is_equal exact s (Some V) U ≡ true)
  value_there exact s w x U none u =
      let v = val_at (has_val_spec exact s) w.vals x U (map_none _ (first_failing (has_val_spec exact s) w.vals) (or_none _ _ none)) u in
      by (named_type x s.vals) refl (ap₂ (λ n T. is_equal exact s (named_type n s.vals) T) (sym v.2) (sym v.3) ∙ v.1)
    where
      by : (o : Option Typ) → named_type x s.vals ≡ o → is_equal exact s o U ≡ true → (V : Typ) × (named_type x s.vals ≡ Some V) × (is_equal exact s (Some V) U ≡ true)
      by None p q = absurd (true≢false (sym q))
      by (Some V) p q = (V, p, q)

  behind_import : (j : ℕ) (e : Entry) (m : Import) (l : ℕ) → slice_get E j ≡ Some e → e.def ≡ AnImport m → link_at E j ≡ Some l → option_and_then (module_behind j) (slice_get E j) ≡ Some l
  behind_import j e m l g p h =
      ap (option_and_then (module_behind j)) g ∙ ap (λ d. elim d as (λ z. Option ℕ) [ AModule y ↦ Some j | AnImport y ↦ e.link | AMark s ↦ None ]) p ∙ sym (ap (option_and_then (λ (y : Entry). y.link)) g) ∙ h

  -- what an import's own abstract type stands for in a module is the module's type
  stands_for : (m : Module) → uncovered m ≡ None → (t : Bytes) (R : Typ) → named_type t m.types ≡ Some R → inside_struct m (stand_in m.sig t) ≡ R
  stands_for m u t R h = by (type_under t m.sig.types) refl
    where
      own : inside_struct m (TMine t) ≡ R
      own = ap (λ o. elim o as (λ z. Typ) [ None ↦ TMine t | Some V ↦ V ]) h

      by : (o : Option (Option Typ)) → type_under t m.sig.types ≡ o → inside_struct m (elim o as (λ z. Typ) [ None ↦ TMine t | Some p ↦ elim p as (λ z. Typ) [ None ↦ TMine t | Some T ↦ T ] ]) ≡ R
      by None p = own
      by (Some None) p = own
      by (Some (Some T)) p = some_eq (sym (covers_manifest m u t T p) ∙ h)

  -- a type whose abstract types are foreign to two homes
  abbrev Both : ℕ → ℕ → Bytes × Bytes → Bool
  Both j l p = Foreign j p && Foreign l p

  both_foreign : (j l : ℕ) (xs : List (Bytes × Bytes)) → list_all (Foreign j) xs ≡ true → list_all (Foreign l) xs ≡ true → list_all (Both j l) xs ≡ true
  both_foreign j l [] a b = refl
  both_foreign j l (x ∷ xs) a b =
      let p = both_true (Foreign j x) (list_all (Foreign j) xs) a in
      let q = both_true (Foreign l x) (list_all (Foreign l) xs) b in
      and_true {a = Both j l x} {b = list_all (Both j l) xs} (and_true {a = Foreign j x} {b = Foreign l x} p.0 q.0) (both_foreign j l xs p.1 q.1)

  -- what is mentioned stays where own types are rewritten
  mutual
    kept_mentions : (p : Bytes × Bytes → Bool) (g : Bytes → Typ) (U : Typ) → list_all p (mentions (with_mine g U)) ≡ true → list_all p (mentions U) ≡ true
    kept_mentions p g (TTuple Us) h = all_kept_mentions p g Us h
    kept_mentions p g (TList U) h = kept_mentions p g U h
    kept_mentions p g (TOpt U) h = kept_mentions p g U h
    kept_mentions p g (TFun T U) h =
        all_append p (mentions T) (mentions U) (kept_mentions p g T (all_left p (mentions (with_mine g T)) (mentions (with_mine g U)) h)) (kept_mentions p g U (all_right p (mentions (with_mine g T)) (mentions (with_mine g U)) h))
    kept_mentions p g (TAbs n t) h = h
    kept_mentions p g _ h = refl

    all_kept_mentions : (p : Bytes × Bytes → Bool) (g : Bytes → Typ) (Us : Typs) → list_all p (mentions_of_all (all_with_mine g Us)) ≡ true → list_all p (mentions_of_all Us) ≡ true
    all_kept_mentions p g no_types h = refl
    all_kept_mentions p g (typ U Us) h =
        all_append p (mentions U) (mentions_of_all Us) (kept_mentions p g U (all_left p (mentions (with_mine g U)) (mentions_of_all (all_with_mine g Us)) h))
        (all_kept_mentions p g Us (all_right p (mentions (with_mine g U)) (mentions_of_all (all_with_mine g Us)) h))

  foreign_name : (j : ℕ) (n t : Bytes) → Foreign j (n, t) ≡ true → view Coloured E (In j) (TAbs n t) ≡ TAbs n t
  foreign_name j n t h = sees_other E (In j) n t (not_true (has_name E (In j) n) h)

  -- an import by version and the module that it is linked to
  module _ (j : ℕ) (v : Entry) (m : Import) (n : Bytes) (g : slice_get E j ≡ Some v) (p : v.def ≡ AnImport m) (k : v.name ≡ Some n) (x : Bytes) (U : Typ) (u : named_type x m.sig.vals ≡ Some U) where
    by_ranges : (rs : List Range) (star : Bool) → m.constraint ≡ Ranges rs star → IsLinked E j (with_mine (TAbs n) U) (route E j x)
    by_ranges rs star c =
        let d : def_of E j ≡ Some (AnImport m) = def_there E coherent j v g ∙ ap Some p in
        let l = linked_to j m d in
        let k' : Module = l.module' in
        let d' : def_of E l.at ≡ Some (AModule k') = def_there E coherent l.at l.entry l.is_there ∙ ap Some l.is_module in
        let r : first_some (conditions E m l.at k' (Ranges rs star)) ≡ None = ap (λ z. first_some (conditions E m l.at k' z)) (sym c) ∙ l.may in
        let passed = version_passes k' m rs star r in
        let spec = passed.0 in
        let like = passed.1 in
        let V = value_there false k'.sig m.sig x U spec u in
        let is_V : V.0 ≡ with_mine (stand_in k'.sig) U = same_eq V.0 (with_mine (stand_in k'.sig) U) V.2 in
        let w : HasText j n = record { entry = v; is_there = g; has_name = k; text = import_bytes m; has_text = ap (text_of_def E) p ∙ ap (λ z. text_of_import z m) c } in
        let w' = module_text l.at l.entry l.name k' l.is_there l.has_name l.is_module in
        let F = module_field l.at l.name w' k' l.is_module x V.0 V.1 in
        let sig_j : signature v.def ≡ Some m.sig = ap signature p in
        let sig_l : signature l.entry.def ≡ Some k'.sig = ap signature l.is_module in
        let val_j = value_is j v m.sig n x U g sig_j k u in
        let val_l = value_is l.at l.entry k'.sig l.name x V.0 l.is_there sig_l l.has_name V.1 in
        let way : route E j x ≡ Twice l.at F.number (with_mine (TAbs n) U) (view Coloured E (In l.at) (with_mine (TAbs l.name) V.0)) =
        route_is j x true (Some (l.at, F.number)) (Some (with_mine (TAbs n) U)) (ap (λ o. option_map_or is_by_version o false) d ∙ ap (λ z. not (is_exact z)) c) (target_is j x l.at F.number (behind_import j v m l.at g p l.linked) F.found) val_j ∙
        ap (λ o. through true (Some (l.at, F.number)) (Some (with_mine (TAbs n) U)) (option_map (view Coloured E (In l.at)) o)) val_l in
        let own_name : has_name E (In j) n ≡ true = ap (λ o. names o n) (ap (option_and_then (λ (z : Entry). z.name)) g ∙ k) ∙ bytes_refl n in
        let foreign_j = foreign_value n j w m.sig x U sig_j u in
        let foreign_l = kept_mentions (Foreign l.at) (stand_in k'.sig) U (subst (λ T. list_all (Foreign l.at) (mentions T) ≡ true) is_V (foreign_value l.name l.at w' k'.sig x V.0 sig_l V.1)) in
        let across : view Coloured E (In j) (with_mine (TAbs n) U) ≡ view Coloured E (In l.at) (with_mine (λ t. inside_struct k' (stand_in k'.sig t)) U) =
        alike E (In j) (In l.at) m.sig (TAbs n) (λ t. inside_struct k' (stand_in k'.sig t)) (Both j l.at)
        (λ t abs.
        let known : is_known E (n, t) ≡ true = declared_known E coherent j v m.sig n g sig_j k t abs in
        let h = known_has E coherent n t known in
        let liked : named_type t m.like ≡ Some h.1 = ap (λ z. named_type t (types_of z)) (sym p) ∙ rep_there n t h.1 h.4 j w in
        let s = spec_at (is_like k' m) m.sig.types t None like (abstract_none (type_under t m.sig.types) abs) in
        let test : agree (named_type t k'.types) (named_type t m.like) ≡ true = ap₂ (λ y o. is_some o || agree (named_type y k'.types) (named_type y m.like)) (sym s.2) (sym s.3) ∙ s.1 in
        let both = agree_some (named_type t k'.types) (named_type t m.like) test in
        let there : named_type t k'.types ≡ Some h.1 = both.1 ∙ sym both.2 ∙ liked in
        sees_own E (In j) n t own_name ∙ opened_is E coherent n t h.1 h.4 ∙
        sym (ap (view Coloured E (In l.at)) (stands_for k' (covered l.at k' d') t h.1 there) ∙ foreign_view E (In l.at) h.1 (foreign_type l.name l.at w' t h.1 (ap (λ z. named_type t (types_of z)) l.is_module ∙ there))))
        (λ q t b. let e = both_true (Foreign j (q, t)) (Foreign l.at (q, t)) b in foreign_name j q t e.0 ∙ sym (foreign_name l.at q t e.1)) U
        (val_closed E coherent j v.def m.sig x U (def_there E coherent j v g) sig_j u) (both_foreign j l.at (mentions U) foreign_j foreign_l) in
        let inside_V : inside_struct k' V.0 ≡ with_mine (λ t. inside_struct k' (stand_in k'.sig t)) U = ap (inside_struct k') is_V ∙ rewritten_twice (λ t. struct_type k' t) (stand_in k'.sig) U in
        subst (IsLinked E j (with_mine (TAbs n) U)) (sym way)
        (refl, view_known (In l.at) (with_mine (TAbs l.name) V.0) ((known_types E coherent).values l.at x (with_mine (TAbs l.name) V.0) val_l), (inside_struct k' V.0, F.own, sym F.alike_here, across ∙ ap (view Coloured E (In l.at)) (sym inside_V)))

    by_exact : (q : Bytes) → m.constraint ≡ Exact q → IsLinked E j (with_mine (TAbs n) U) (route E j x)
    by_exact q c =
        let d : def_of E j ≡ Some (AnImport m) = def_there E coherent j v g ∙ ap Some p in
        let l = linked_to j m d in
        let k' : Module = l.module' in
        let r : first_some (conditions E m l.at k' (Exact q)) ≡ None = ap (λ z. first_some (conditions E m l.at k' z)) (sym c) ∙ l.may in
        let spec = map_none Link_fault.Spec (missing_spec true k'.sig m.sig) (or_none_left _ _ (or_none _ _ r)) in
        let V = value_there true k'.sig m.sig x U spec u in
        let is_V : V.0 ≡ U = same_eq V.0 U V.2 in
        let named : v.name ≡ Some q = keeps_name E coherent j v g ∙ ap (name_by sha256 E) p ∙ ap (λ z. name_by sha256 E (AnImport (record m { constraint = z }))) c in
        let n_is : q ≡ n = some_eq (sym named ∙ k) in
        let l_is : l.name ≡ q = bytes_eq l.name q (ap (λ o. names o q) (sym (ap (option_and_then (λ (z : Entry). z.name)) l.is_there ∙ l.has_name)) ∙ exact_keeps E m l.at q c l.link) in
        let same_name : l.name ≡ n = l_is ∙ n_is in
        let w' = module_text l.at l.entry l.name k' l.is_there l.has_name l.is_module in
        let F = module_field l.at l.name w' k' l.is_module x V.0 V.1 in
        let val_j = value_is j v m.sig n x U g (ap signature p) k u in
        let way : route E j x ≡ Once l.at F.number (with_mine (TAbs n) U) =
        route_is j x false (Some (l.at, F.number)) (Some (with_mine (TAbs n) U)) (ap (λ o. option_map_or is_by_version o false) d ∙ ap (λ z. not (is_exact z)) c) (target_is j x l.at F.number (behind_import j v m l.at g p l.linked) F.found) val_j in
        subst (IsLinked E j (with_mine (TAbs n) U)) (sym way) (refl, (inside_struct k' V.0, F.own, F.alike_here ∙ ap₂ (λ y T. view Coloured E (In l.at) (with_mine (TAbs y) T)) same_name is_V))

  -- a module's own value
  by_module : (j : ℕ) (v : Entry) (m : Module) (n : Bytes) → slice_get E j ≡ Some v → v.def ≡ AModule m → v.name ≡ Some n → (x : Bytes) (U : Typ) → named_type x m.sig.vals ≡ Some U → IsLinked E j (with_mine (TAbs n) U) (route E j x)
  by_module j v m n g p k x U u =
      let d : def_of E j ≡ Some (AModule m) = def_there E coherent j v g ∙ ap Some p in
      let w = module_text j v n m g k p in
      let F = module_field j n w m p x U u in
      let val_j = value_is j v m.sig n x U g (ap signature p) k u in
      let behind : option_and_then (module_behind j) (slice_get E j) ≡ Some j = ap (option_and_then (module_behind j)) g ∙ ap (λ d. elim d as (λ z. Option ℕ) [ AModule y ↦ Some j | AnImport y ↦ v.link | AMark s ↦ None ]) p in
      let way : route E j x ≡ Once j F.number (with_mine (TAbs n) U) = route_is j x false (Some (j, F.number)) (Some (with_mine (TAbs n) U)) (ap (λ o. option_map_or is_by_version o false) d) (target_is j x j F.number behind F.found) val_j in
      subst (IsLinked E j (with_mine (TAbs n) U)) (sym way) (refl, (inside_struct m U, F.own, F.alike_here))

  linked_values : (j : ℕ) (x : Bytes) (A : Typ) → value_in E j x ≡ Some A → IsLinked E j A (route E j x)
  linked_values j x A h = subst (λ T. IsLinked E j T (route E j x)) v.is_outside (by v.entry.def refl)
    where
      v : HasValue E coherent j x A
      v = has_value E coherent j x A h

      by_import : (m : Import) → v.entry.def ≡ AnImport m → (c : Constraint) → m.constraint ≡ c → IsLinked E j (with_mine (TAbs v.name) v.ty) (route E j x)
      by_import m p (Ranges rs star) c = by_ranges j v.entry m v.name v.is_there p v.has_name x v.ty (ap (λ (s : Signature). named_type x s.vals) (some_eq (sym (ap signature p) ∙ v.has_sig)) ∙ v.has_ty) rs star c
      by_import m p (Exact q) c = by_exact j v.entry m v.name v.is_there p v.has_name x v.ty (ap (λ (s : Signature). named_type x s.vals) (some_eq (sym (ap signature p) ∙ v.has_sig)) ∙ v.has_ty) q c

      by : (d : Def) → v.entry.def ≡ d → IsLinked E j (with_mine (TAbs v.name) v.ty) (route E j x)
      by (AModule m) p = by_module j v.entry m v.name v.is_there p v.has_name x v.ty (ap (λ (s : Signature). named_type x s.vals) (some_eq (sym (ap signature p) ∙ v.has_sig)) ∙ v.has_ty)
      by (AnImport m) p = by_import m p m.constraint refl
      by (AMark s) p = absurd (none≢some (sym (ap signature p) ∙ v.has_sig))

  pub coherent-Links : Links E
  coherent-Links = record { links = linked_values }
