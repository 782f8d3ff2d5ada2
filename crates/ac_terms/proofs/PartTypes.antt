-- The types among some parts, and tests that all of them pass.
use Rattle.std.proofs.Common.{◌≡◌, refl, ap, sym, ◌∙◌, Bool, true, List, [], ◌∷◌, ◌++◌, map, flat_map}
use Rattle.std.specs.List.{list_all}
use Rattle.ac_types.proofs.Same.{both_true}
use Rattle.ac_types.specs.Types.{Typ}
use Rattle.ac_types.specs.Sigs.{Typed_name}
use Rattle.ac_terms.specs.Defs.{Field, Module, Import, Def, AModule, AnImport}
use Rattle.ac_terms.specs.Parts.{Portion, OfType, OfRef, OfHome, Captured, part_types, term_parts, sig_types, def_parts}
use Rattle.ac_terms.proofs.AllLaws.{all_left, all_right, all_append}

pub types_joined : (ps qs : List Portion) → part_types (ps ++ qs) ≡ part_types ps ++ part_types qs
types_joined [] qs = refl
types_joined (OfType T ∷ ps) qs = ap (λ Ts. T ∷ Ts) (types_joined ps qs)
types_joined (OfRef j x ∷ ps) qs = types_joined ps qs
types_joined (OfHome h ∷ ps) qs = types_joined ps qs
types_joined (Captured ∷ ps) qs = types_joined ps qs

-- the types of variables, of names and of fields, as parts
pub types_as_parts : (Ts : List Typ) → part_types (map OfType Ts) ≡ Ts
types_as_parts [] = refl
types_as_parts (T ∷ Ts) = ap (λ Us. T ∷ Us) (types_as_parts Ts)

pub typed_as_parts : (xs : List Typed_name) → part_types (map (λ (t : Typed_name). OfType t.ty) xs) ≡ map (λ (t : Typed_name). t.ty) xs
typed_as_parts [] = refl
typed_as_parts (x ∷ xs) = ap (λ Us. x.ty ∷ Us) (typed_as_parts xs)

abbrev pub field_types : Field → List Typ
field_types f = f.ty ∷ part_types (term_parts f.term)

pub fields_as_parts : (fs : List Field) → part_types (flat_map (λ (f : Field). OfType f.ty ∷ term_parts f.term) fs) ≡ flat_map field_types fs
fields_as_parts [] = refl
fields_as_parts (f ∷ fs) =
    ap (λ Us. f.ty ∷ Us) (types_joined (term_parts f.term) (flat_map (λ (g : Field). OfType g.ty ∷ term_parts g.term) fs) ∙ ap (λ Us. part_types (term_parts f.term) ++ Us) (fields_as_parts fs))

-- the types of a definition, and of several
abbrev pub module_types : Module → List Typ
module_types m = (sig_types m.sig ++ map (λ (t : Typed_name). t.ty) m.types) ++ flat_map field_types m.fields

abbrev pub import_types : Import → List Typ
import_types i = sig_types i.sig ++ map (λ (t : Typed_name). t.ty) i.like

pub signed_as_parts : (Ts : List Typ) (xs : List Typed_name) → part_types (map OfType Ts ++ map (λ (t : Typed_name). OfType t.ty) xs) ≡ Ts ++ map (λ (t : Typed_name). t.ty) xs
signed_as_parts Ts xs =
    types_joined (map OfType Ts) (map (λ (t : Typed_name). OfType t.ty) xs) ∙ ap (λ Us. Us ++ part_types (map (λ (t : Typed_name). OfType t.ty) xs)) (types_as_parts Ts) ∙ ap (λ Us. Ts ++ Us) (typed_as_parts xs)

pub module_as_parts : (m : Module) → part_types (def_parts (AModule m)) ≡ module_types m
module_as_parts m =
    let front : List Portion = map OfType (sig_types m.sig) ++ map (λ (t : Typed_name). OfType t.ty) m.types in
    let fields : List Portion = flat_map (λ (f : Field). OfType f.ty ∷ term_parts f.term) m.fields in
    types_joined front fields ∙ ap (λ Us. Us ++ part_types fields) (signed_as_parts (sig_types m.sig) m.types) ∙ ap (λ Us. (sig_types m.sig ++ map (λ (t : Typed_name). t.ty) m.types) ++ Us) (fields_as_parts m.fields)

pub import_as_parts : (i : Import) → part_types (def_parts (AnImport i)) ≡ import_types i
import_as_parts i = signed_as_parts (sig_types i.sig) i.like

abbrev pub types_in : Def → List Typ
types_in d = part_types (def_parts d)

pub defs_as_parts : (ds : List Def) → part_types (flat_map def_parts ds) ≡ flat_map types_in ds
defs_as_parts [] = refl
defs_as_parts (d ∷ ds) = types_joined (def_parts d) (flat_map def_parts ds) ∙ ap (λ Us. types_in d ++ Us) (defs_as_parts ds)

-- a test that all types among some parts pass
module _ (good : Typ → Bool) where
  abbrev pub AllGood : List Portion → Type 0
  AllGood ps = list_all good (part_types ps) ≡ true

  pub good_first : (T : Typ) (Ts : List Typ) → list_all good (T ∷ Ts) ≡ true → good T ≡ true
  good_first T Ts h = (both_true (good T) (list_all good Ts) h).0

  pub good_rest : (T : Typ) (Ts : List Typ) → list_all good (T ∷ Ts) ≡ true → list_all good Ts ≡ true
  good_rest T Ts h = (both_true (good T) (list_all good Ts) h).1

  pub good_left : (ps qs : List Portion) → AllGood (ps ++ qs) → AllGood ps
  good_left ps qs h = all_left good (part_types ps) (part_types qs) (ap (list_all good) (sym (types_joined ps qs)) ∙ h)

  pub good_right : (ps qs : List Portion) → AllGood (ps ++ qs) → AllGood qs
  good_right ps qs h = all_right good (part_types ps) (part_types qs) (ap (list_all good) (sym (types_joined ps qs)) ∙ h)

  pub good_both : (ps qs : List Portion) → AllGood ps → AllGood qs → AllGood (ps ++ qs)
  good_both ps qs a b = ap (list_all good) (types_joined ps qs) ∙ all_append good (part_types ps) (part_types qs) a b
