-- Where each name has one text over some environments, what is known is opened to the same in each of them, and modules of one name speak of the same.
use Rattle.std.proofs.Common.{◌≡◌, sym, ap, ◌∙◌, ℕ, ◌<◌, Bool, true, false, [], length, flat_map, Option, Some}
use Rattle.std.specs.Prelude.{slice_get, option_map, option_and_then, unwrap_or, is_some}
use Rattle.std.specs.List.{list_any}
use Rattle.std.specs.Option.{option_map_or}
use Rattle.ac_types.proofs.FirstLaws.{some_eq}
use Rattle.ac_types.specs.Types.{Bytes, Typ, TAbs, mentions}
use Rattle.ac_types.specs.Sigs.{named_type}
use Rattle.ac_terms.specs.Terms.{In}
use Rattle.ac_terms.specs.Defs.{Environment, Entry, Module, Def, AModule, module_of, find_name, def_of, module_at, name_at}
use Rattle.ac_terms.specs.Names.{text_of_def, text_of_entry}
use Rattle.ac_terms.specs.Parts.{part_types, part_mentions, def_parts}
use Rattle.ac_terms.proofs.Back.{one, read_name, back_one, back_name}
use Rattle.ac_terms.proofs.DefBack.{types_of, one_spelling}
use Rattle.ac_rules.specs.Views.{representation, opened, type_of_entry, is_known}
use Rattle.ac_rules.specs.Coherent.{IsCoherent}
use Rattle.ac_rules.proofs.Rules.{then_some, module_is, some_there}
use Rattle.ac_rules.proofs.BareLaws.{known_has}
use Rattle.ac_rules.proofs.RenumberedParts.{types_by, def_parts_by}
use Rattle.ac_rules.proofs.SameText.{alike, type_in_text}
use Rattle.ac_rules.proofs.Unspoken.{shown, padded_named, text_shown, text_of_least}
use Rattle.ac_colours.proofs.OwnText.{same_pair, speaks}
use Rattle.ac_colours.proofs.KnownBoth.{Agreeing}

-- texts of names, of which each name has one, and definitions that have no other
abbrev pub Texts : Type 1
Texts = Bytes → Bytes → Type 0

abbrev pub AreOne : Texts → Type 0
AreOne S = (n s t : Bytes) → S n s → S n t → s ≡ t

abbrev pub Keeps : Texts → Environment → Type 0
Keeps S E = (i : ℕ) (n t : Bytes) → name_at E i ≡ Some n → text_of_entry E i ≡ Some t → S n t

-- the least entry of a known name, with its text, in which the representation stands
record Least (E : Environment) (n t : Bytes) : Type 0 where
  at : ℕ
  text : Bytes
  def : Def
  is_named : name_at E at ≡ Some n
  has_text : text_of_entry E at ≡ Some text
  has_def : def_of E at ≡ Some def
  rep : representation E n t ≡ named_type t (types_of def)

least : (E : Environment) → IsCoherent E → (n t : Bytes) → is_known E (n, t) ≡ true → Least E n t
least E coherent n t h = by (known_has E coherent n t h)
  where
    by : (i : ℕ) × (R : Typ) × (find_name E n ≡ Some i) × (i < length E) × (representation E n t ≡ Some R) → Least E n t
    by r =
        let e = text_of_least E coherent n r.0 r.2 in
        let here : def_of E r.0 ≡ Some e.0.def = ap (option_map (λ (x : Entry). x.def)) e.2 in
        record {
          at = r.0;
          text = e.1;
          def = e.0.def;
          is_named = ap (option_and_then (λ (x : Entry). x.name)) e.2 ∙ e.3;
          has_text = ap (option_and_then (text_of_def E)) here ∙ e.4;
          has_def = here;
          rep = ap (option_and_then (λ i. option_and_then (λ (x : Entry). type_of_entry E t x.def x.link) (slice_get E i))) r.2 ∙ ap (option_and_then (λ (x : Entry). type_of_entry E t x.def x.link)) e.2 ∙ type_in_text E t e.1 e.0.def e.0.link e.4;
        }

module _ (S : Texts) (one_text : AreOne S) (X Y : Environment) (x_coherent : IsCoherent X) (y_coherent : IsCoherent Y) (x_keeps : Keeps S X) (y_keeps : Keeps S Y) where
  opened_alike : (n t : Bytes) → is_known X (n, t) ≡ true → is_known Y (n, t) ≡ true → opened X n t ≡ opened Y n t
  opened_alike n t h k = by (least X x_coherent n t h) (least Y y_coherent n t k)
    where
      by : Least X n t → Least Y n t → opened X n t ≡ opened Y n t
      by a b =
          let same : a.text ≡ b.text = one_text n a.text b.text (x_keeps a.at n a.text a.is_named a.has_text) (y_keeps b.at n b.text b.is_named b.has_text) in
          let z = alike X Y x_coherent y_coherent a.at b.at a.text a.has_text (b.has_text ∙ ap Some (sym same)) in
          let types : types_of a.def ≡ types_of b.def = ap types_of (some_eq (sym a.has_def ∙ z.is_first)) ∙ z.types ∙ ap types_of (some_eq (sym z.is_second ∙ b.has_def)) in
          ap (λ o. unwrap_or o (TAbs n t)) (a.rep ∙ ap (named_type t) types ∙ sym b.rep)

  pub agreeing : Agreeing X Y
  agreeing = record { first = x_coherent; second = y_coherent; opened_alike = opened_alike }

  a_module : (E : Environment) (i : ℕ) (m : Module) → module_at E i ≡ Some m → def_of E i ≡ Some (AModule m)
  a_module E i m h = let d = then_some module_of (def_of E i) m h in d.1 ∙ ap Some (module_is d.0 m d.2)

  mentions_alike : (i j : ℕ) (m k : Module) (n : Bytes) → def_of X i ≡ Some (AModule m) → def_of Y j ≡ Some (AModule k) → name_at X i ≡ Some n → name_at Y j ≡ Some n → part_mentions (def_parts (AModule m)) ≡ part_mentions (def_parts (AModule k))
  mentions_alike i j m k n p q a b =
      let w = x_coherent.within_bounds i (AModule m) p in
      let v = y_coherent.within_bounds j (AModule k) q in
      let rm : ℕ → Bytes = shown X x_coherent in
      let rk : ℕ → Bytes = shown Y y_coherent in
      let f : ℕ → ℕ = λ l. 0 in
      let texts = one_text n _ _ (x_keeps i n _ a (ap (option_and_then (text_of_def X)) p)) (y_keeps j n _ b (ap (option_and_then (text_of_def Y)) q)) in
      let e = some_eq (sym (text_shown X x_coherent i (AModule m) w (x_coherent.refers i (AModule m) p)) ∙ ap Some texts ∙ text_shown Y y_coherent j (AModule k) v (y_coherent.refers j (AModule k) q)) in
      let same = one_spelling (one (λ b. 0) read_name) rm rk f f
      (λ l h. back_one (λ b. 0) (back_name (rm l) (padded_named (unwrap_or (name_at X l) [])))) (λ l h. back_one (λ b. 0) (back_name (rk l) (padded_named (unwrap_or (name_at Y l) [])))) m k w v e in
      ap (flat_map mentions)
      (sym (types_by f (def_parts (AModule m))) ∙ ap part_types (sym (def_parts_by f (AModule m) w)) ∙ ap (λ d. part_types (def_parts d)) same ∙ ap part_types (def_parts_by f (AModule k) v) ∙ types_by f (def_parts (AModule k)))

  pub speaks_alike : (i j : ℕ) (n : Bytes) → name_at X i ≡ Some n → name_at Y j ≡ Some n → is_some (module_at X i) ≡ true → is_some (module_at Y j) ≡ true → (p : Bytes × Bytes) → speaks X (In i) p ≡ true → speaks Y (In j) p ≡ true
  speaks_alike i j n a b h k p s =
      let m = some_there (module_at X i) h in
      let l = some_there (module_at Y j) k in
      let test : Option Module → Bool = λ o. option_map_or (λ (x : Module). list_any (same_pair p) (part_mentions (def_parts (AModule x)))) o false in
      ap test l.1 ∙ ap (list_any (same_pair p)) (sym (mentions_alike i j m.0 l.0 n (a_module X i m.0 m.1) (a_module Y j l.0 l.1) a b)) ∙ sym (ap test m.1) ∙ s
