-- What the fields of the last entry are among entries that stand behind it they are without these.
use Rattle.std.proofs.Common.{◌≡◌, refl, sym, ap, ◌∙◌, ℕ, ◌<◌, Bool, true, false, List, [], ◌∷◌, ◌++◌, length, map, flat_map, Option, Some, None}
use Rattle.std.specs.Prelude.{option_map, option_and_then, slice_get, nat_lt, is_some, unwrap_or, ◌&&◌}
use Rattle.std.specs.List.{list_all}
use Rattle.std.proofs.lemmas.Bool.{ltb-true}
use Rattle.ac_types.specs.Partial.{given}
use Rattle.ac_types.specs.Types.{Bytes, Typ, TAbs, mentions}
use Rattle.ac_types.specs.Sigs.{Typed_name}
use Rattle.ac_types.proofs.FirstLaws.{none≢some}
use Rattle.ac_types.proofs.Same.{both_true}
use Rattle.ac_terms.specs.Terms.{In}
use Rattle.ac_terms.specs.Defs.{Environment, Entry, Field, Def, AModule, AnImport, AMark, module_of, def_of, name_at, names, signature_at}
use Rattle.ac_terms.specs.Parts.{Portion, OfType, part_refs, part_mentions, def_parts, sig_types, term_parts}
use Rattle.ac_terms.specs.Bounds.{fits_def}
use Rattle.ac_terms.proofs.AllLaws.{all_implies}
use Rattle.ac_terms.proofs.RenumberedLaws.{same_def}
use Rattle.ac_rules.specs.Views.{Coloured, view, opened, opened_at_home, has_name, is_known, are_known}
use Rattle.ac_rules.specs.Typing.{type_seen, fields_of, value_in}
use Rattle.ac_rules.specs.Modules.{refers_back, has_sound_fields}
use Rattle.ac_rules.specs.Coherent.{IsCoherent}
use Rattle.ac_rules.proofs.PartLaws.{inner_def, passes, all_pass, pass_right, pass_field}
use Rattle.ac_rules.proofs.TypeAlike.{equal_under}
use Rattle.ac_rules.proofs.LookupLaws.{known_old, value_old, representation_old}
use Rattle.ac_rules.proofs.BareLaws.{known_has}
use Rattle.ac_rules.proofs.KnownTypes.{each_same, values_known}
use Rattle.ac_rules.proofs.Grown.{seen_known}
use Rattle.ac_rules.proofs.FieldsAlike.{own_seen, ref_seen, sound_alike}
use Rattle.ac_rules.proofs.ListLaws.{get_new}

module _ (E : Environment) (coherent : IsCoherent E) (x : Entry) where
  abbrev with_last : Environment → Environment
  with_last ys = E ++ x ∷ ys

  -- the entry, its name and its definition
  at_last : (ys : Environment) → slice_get (with_last ys) (length E) ≡ Some x
  at_last ys = get_new E x ys

  name_last : (ys : Environment) → name_at (with_last ys) (length E) ≡ x.name
  name_last ys = ap (option_and_then (λ (e : Entry). e.name)) (at_last ys)

  fields_last : (ys : Environment) → fields_of (with_last ys) (In (length E)) ≡ fields_of (with_last []) (In (length E))
  fields_last ys =
      let same : def_of (with_last ys) (length E) ≡ def_of (with_last []) (length E) = ap (option_map (λ (e : Entry). e.def)) (at_last ys ∙ sym (at_last [])) in
      ap (λ (o : Option Def). elim (option_and_then module_of o) as (λ z. List Field) [ None ↦ [] | Some m ↦ m.fields ]) same

  -- a type that the entries in front know
  known_later : (ys : Environment) (T : Typ) → are_known E T ≡ true → are_known (with_last ys) T ≡ true
  known_later ys T h = all_implies (is_known E) (is_known (with_last ys)) (known_old E (x ∷ ys)) (mentions T) h

  opened_same : (ys : Environment) (n t : Bytes) → is_known E (n, t) ≡ true → opened_at_home (with_last ys) (In (length E)) n t ≡ opened_at_home (with_last []) (In (length E)) n t
  opened_same ys n t h = on (has_name (with_last []) (In (length E)) n) refl where
    named : has_name (with_last ys) (In (length E)) n ≡ has_name (with_last []) (In (length E)) n
    named = ap (λ (o : Option Bytes). names o n) (name_last ys ∙ sym (name_last []))

    by_name : (zs : Environment) (b : Bool) → has_name (with_last zs) (In (length E)) n ≡ b → opened_at_home (with_last zs) (In (length E)) n t ≡ elim b as (λ z. Typ) [ true ↦ opened (with_last zs) n t | false ↦ TAbs n t ]
    by_name zs b is = ap (λ (c : Bool). elim c as (λ z. Typ) [ true ↦ opened (with_last zs) n t | false ↦ TAbs n t ]) is

    there : opened (with_last ys) n t ≡ opened (with_last []) n t
    there =
        let k = known_has E coherent n t h in
        ap (λ (o : Option Typ). unwrap_or o (TAbs n t)) (representation_old E coherent (x ∷ ys) n t k.0 k.2 ∙ sym (representation_old E coherent (x ∷ []) n t k.0 k.2))

    on : (b : Bool) → has_name (with_last []) (In (length E)) n ≡ b → opened_at_home (with_last ys) (In (length E)) n t ≡ opened_at_home (with_last []) (In (length E)) n t
    on false is = by_name ys false (named ∙ is) ∙ sym (by_name [] false is)
    on true is = by_name ys true (named ∙ is) ∙ there ∙ sym (by_name [] true is)

  view_same : (ys : Environment) (T : Typ) → are_known E T ≡ true → view Coloured (with_last ys) (In (length E)) T ≡ view Coloured (with_last []) (In (length E)) T
  view_same ys T h = each_same E (opened_at_home (with_last ys) (In (length E))) (opened_at_home (with_last []) (In (length E))) (opened_same ys) T h

  seen_same : (ys : Environment) (T : Typ) → are_known E T ≡ true → type_seen Coloured false (with_last ys) (In (length E)) T ≡ type_seen Coloured false (with_last []) (In (length E)) T
  seen_same ys T h =
      seen_known (with_last ys) (In (length E)) T (known_later ys T h) ∙ ap Some (view_same ys T h) ∙ sym (seen_known (with_last []) (In (length E)) T (known_later [] T h))

  -- an own field, and a value of an entry in front
  module _ (ys : Environment) where
    own_same : ((g : ℕ) (f : Field) → slice_get (fields_of (with_last []) (In (length E))) g ≡ Some f → are_known E f.ty ≡ true)
        → (g : ℕ) → own_seen (with_last ys) (length E) g ≡ own_seen (with_last []) (length E) g
    own_same known g = ap (λ (fs : List Field). by_fields ys (slice_get fs g)) (fields_last ys) ∙ on (slice_get (fields_of (with_last []) (In (length E))) g) refl where
      by_fields : Environment → Option Field → Option Typ
      by_fields zs o = option_map (view Coloured (with_last zs) (In (length E))) (option_map (λ (f : Field). f.ty) o)

      on : (o : Option Field) → slice_get (fields_of (with_last []) (In (length E))) g ≡ o → by_fields ys o ≡ by_fields [] o
      on None is = refl
      on (Some f) is = ap Some (view_same ys f.ty (known g f is))

    ref_same : (j : ℕ) (y : Bytes) → nat_lt j (length E) ≡ true → ref_seen (with_last ys) (length E) j y ≡ ref_seen (with_last []) (length E) j y
    ref_same j y h =
        let lt : j < length E = ltb-true j (length E) h in
        seen_as ys lt ∙ on (value_in E j y) refl ∙ sym (seen_as [] lt)
      where
        shown : Environment → Option Typ → Option Typ
        shown zs o = option_map (view Coloured (with_last zs) (In (length E))) (given (nat_lt j (length E)) o)

        seen_as : (zs : Environment) → j < length E → ref_seen (with_last zs) (length E) j y ≡ shown zs (value_in E j y)
        seen_as zs lt = ap (shown zs) (value_old E (x ∷ zs) j lt y)

        within : (zs : Environment) (o : Option Typ) → shown zs o ≡ option_map (view Coloured (with_last zs) (In (length E))) o
        within zs o = ap (λ b. option_map (view Coloured (with_last zs) (In (length E))) (given b o)) h

        on : (o : Option Typ) → value_in E j y ≡ o → shown ys o ≡ shown [] o
        on None is = within ys None ∙ sym (within [] None)
        on (Some A) is = within ys (Some A) ∙ ap Some (view_same ys A (values_known E coherent j y A is)) ∙ sym (within [] (Some A))

    -- so its fields are sound without the entries behind it
    pub sound_sooner : fits_def x.def ≡ true → refers_back E (length E) x.def ≡ true → list_all (is_known E) (part_mentions (def_parts x.def)) ≡ true
        → has_sound_fields (with_last ys) (length E) x.def ≡ true → has_sound_fields (with_last []) (length E) x.def ≡ true
    sound_sooner fits refers known h =
        ap (has_sound_fields (with_last []) (length E)) (sym (same_def x.def)) ∙
        sound_alike (with_last ys) (with_last []) (length E) (length E) (λ j. j) good (λ c. refl) refl (seen_same ys) (view_same ys) (own_same (fields_known x.def refl known)) (λ j y q. equal_under (ref_same j y q)) x.def
        (all_pass (λ j. nat_lt j (length E)) (is_known E) (def_parts x.def) (inner_def x.def fits) back known) h
      where
        good : Portion → Bool
        good = passes (λ j. nat_lt j (length E)) (is_known E)

        back : list_all (λ j. nat_lt j (length E)) (part_refs (def_parts x.def)) ≡ true
        back = all_implies (λ j. nat_lt j (length E) && is_some (signature_at E j)) (λ j. nat_lt j (length E)) (λ j q. (both_true (nat_lt j (length E)) _ q).0) (part_refs (def_parts x.def)) refers

        fields_are : (d : Def) → x.def ≡ d → fields_of (with_last []) (In (length E)) ≡ elim (module_of d) as (λ z. List Field) [ None ↦ [] | Some m ↦ m.fields ]
        fields_are d is = ap (λ (o : Option Def). elim (option_and_then module_of o) as (λ z. List Field) [ None ↦ [] | Some m ↦ m.fields ]) (ap (option_map (λ (e : Entry). e.def)) (at_last []) ∙ ap Some is)

        no_fields : List Field
        no_fields = []

        no_field : (g : ℕ) (f : Field) → slice_get no_fields g ≡ Some f → are_known E f.ty ≡ true
        no_field g f is = absurd (none≢some is)

        fields_known : (d : Def) → x.def ≡ d → list_all (is_known E) (part_mentions (def_parts d)) ≡ true → (g : ℕ) (f : Field) → slice_get (fields_of (with_last []) (In (length E))) g ≡ Some f → are_known E f.ty ≡ true
        fields_known (AModule m) is k g f there =
            let front = map OfType (sig_types m.sig) ++ map (λ (t : Typed_name). OfType t.ty) m.types in
            let fields = flat_map (λ (y : Field). OfType y.ty ∷ term_parts y.term) m.fields in
            pass_field (is_known E) m.fields g f (pass_right (is_known E) front fields k) (ap (λ (fs : List Field). slice_get fs g) (sym (fields_are (AModule m) is)) ∙ there)
        fields_known (AnImport i) is k g f there = no_field g f (ap (λ (fs : List Field). slice_get fs g) (sym (fields_are (AnImport i) is)) ∙ there)
        fields_known (AMark s) is k g f there = no_field g f (ap (λ (fs : List Field). slice_get fs g) (sym (fields_are (AMark s) is)) ∙ there)
